-- What the clause `sound` allows of a whole script: one answer to each question of points.
use Rattle.std.specs.Prelude.{◌≡◌, ◌⊎◌, ◌↔◌, ℕ, List, [], ◌∷◌, ℤ, All, ⊤}
use Rattle.std.specs.List.{AllZip}
use Rattle.std.specs.Str.Lines.{lines}
use Rattle.script_text.specs.declared.command.Command.{Command}
use Rattle.script_text.specs.declared.command.Command.TheVariants.{Cons, Gens, Add, Addgen, Has, Size, Print, Relation, Bound, Map, Widen, Write, Fixpoint, Member, Psize, Covers, Ranking, Bounds, ShapePrint, Reach}
use Rattle.script_text.specs.declared.command.Part.{Part}
use Rattle.script_text.specs.declared.command.Rel.{Rel}
use Rattle.soundness.specs.TextsExpressions.{FractionText}
use Rattle.soundness.specs.TextsSystems.{ConstraintText, ConstraintsText, GeneratorsText, PointText}
use Rattle.soundness.specs.TextsLines.{Spells}
use Rattle.soundness.specs.Replies.{State, IsRefusal, AreReplies, IsWrittenTo}
use Rattle.run_laws.specs.Allowed.{AreOneReply}

-- ---- commands of which the law doesn't speak
-- of the same sets these may make sets with other points; or, as `addgen`, whose result is said by
-- generators of its operand, no law of one result stands here
abbrev pub MakesOneOfMany : Command → Type 0
MakesOneOfMany (Addgen p part) = ⊤
MakesOneOfMany (Widen out p q) = ⊤
MakesOneOfMany (Fixpoint s delay prefix) = ⊤
MakesOneOfMany (Member out s i) = ⊤
MakesOneOfMany (Reach h delay prefix) = ⊤
MakesOneOfMany c = ⊥

-- these change no name, and show of the same sets one of many rows, witnesses or counts
abbrev pub ShowsOneOfMany : Command → Type 0
ShowsOneOfMany (Size p) = ⊤
ShowsOneOfMany (Print side p) = ⊤
ShowsOneOfMany (Bound extremum p part) = ⊤
ShowsOneOfMany (Write p form) = ⊤
ShowsOneOfMany (Psize s) = ⊤
ShowsOneOfMany (Covers s t) = ⊤
ShowsOneOfMany (Ranking r) = ⊤
ShowsOneOfMany (ShapePrint s) = ⊤
ShowsOneOfMany c = ⊥

-- ---- what a line says
-- the two texts mean the same, over however many variables
abbrev pub MeanTheSame : {A : Type 0} → (ℕ → List ℕ → A → Type 0) → Part → Part → Type 0
MeanTheSame {A} Means part text =
    (dim : ℕ) (a b : A) → Means dim part.text a → Means dim text.text b → a ≡ b

-- the two relations and the fractions behind them mean the same
abbrev pub AssignTheSame : Rel → Part → Rel → Part → Type 0
AssignTheSame rel part other text = (dim : ℕ) (u w : List ℤ) (m n : ℕ)
    → FractionText dim part.text u m → FractionText dim text.text w n
    → (rel ≡ other) × (u ≡ w) × (m ≡ n)

-- the two commands are the same but for their texts, and these mean the same
abbrev pub SayTheSame : Command → Command → Type 0
SayTheSame (Cons out nnc n part) (Cons o c m text) =
    (Cons out nnc n text ≡ Cons o c m text) × MeanTheSame ConstraintsText part text
SayTheSame (Gens out nnc n part) (Gens o c m text) =
    (Gens out nnc n text ≡ Gens o c m text) × MeanTheSame GeneratorsText part text
SayTheSame (Add p part) (Add x text) = (p ≡ x) × MeanTheSame ConstraintsText part text
SayTheSame (Has p part) (Has x text) = (p ≡ x) × MeanTheSame PointText part text
SayTheSame (Relation p part) (Relation x text) = (p ≡ x) × MeanTheSame ConstraintText part text
SayTheSame (Map by out p var rel part) (Map so o x v other text) =
    (Map by out p var rel text ≡ Map so o x v rel text) × AssignTheSame rel part other text
SayTheSame (Bounds out n part) (Bounds o m text) =
    (Bounds out n text ≡ Bounds o m text) × MeanTheSame ConstraintsText part text
SayTheSame c d = c ≡ d

-- however the line is read, it says one thing, by a command of which the law speaks
pub record SaysOneThing (text : List ℕ) : Type 0 where
  pub makes : (c : Command) → Spells text c → ¬ (MakesOneOfMany c)
  pub shows : (c : Command) → Spells text c → ¬ (ShowsOneOfMany c)
  pub one : (c d : Command) → Spells text c → Spells text d → SayTheSame c d

-- however the line is read, it only shows something
abbrev pub OnlyShows : List ℕ → Type 0
OnlyShows text = (c : Command) → Spells text c → ShowsOneOfMany c

-- ---- scripts
-- both are refusals, or neither is
abbrev pub AreRefusedAlike : List ℕ → List ℕ → Type 0
AreRefusedAlike reply other = IsRefusal reply ↔ IsRefusal other

-- some command that the line spells only shows something
abbrev pub MayShow : List ℕ → Type 0
MayShow text = (c : Command) × Spells text c × ShowsOneOfMany c

-- line by line both replies are the same, or one is a refusal, or the line may only show something;
-- and so at the end, which may be refused where a file is open
abbrev pub AreOneEach : List (List ℕ) → List (List ℕ) → List (List ℕ) → Type 0
AreOneEach [] replies others = AllZip AreOneReply replies others
AreOneEach (text ∷ texts) (reply ∷ replies) (other ∷ others) =
    (AreOneReply reply other ⊎ MayShow text) × AreOneEach texts replies others
AreOneEach (text ∷ texts) [] others = ⊥
AreOneEach (text ∷ texts) (reply ∷ replies) [] = ⊥

-- of two texts that may be written to the same lines, where each line says one thing or only shows
-- something, and the same lines are refused in both: the replies are the same, but to lines that
-- only show something. So a set that was made wrongly shows at the first question that it turns
abbrev pub ScriptsHaveOneAnswer : Type 0
ScriptsHaveOneAnswer = (old : State) (texts replies others : List (List ℕ))
    → All (λ text. SaysOneThing text ⊎ OnlyShows text) texts → AllZip AreRefusedAlike replies others
    → AreReplies old texts replies → AreReplies old texts others
    → AreOneEach texts replies others

-- of a script whose lines all say one thing, only one text may be written without a refusal
abbrev pub ScriptsHaveOneText : Type 0
ScriptsHaveOneText = (script written other : List ℕ) → All SaysOneThing (lines script)
    → (a : IsWrittenTo script written) (b : IsWrittenTo script other)
    → All (λ reply. ¬ (IsRefusal reply)) a.replies → All (λ reply. ¬ (IsRefusal reply)) b.replies
    → written ≡ other
