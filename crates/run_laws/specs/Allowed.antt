-- What the clause `sound` allows: of the same sets one result and one answer.
use Rattle.std.specs.Prelude.{◌≡◌, ◌≢◌, ◌⊎◌, ◌↔◌, ℕ, List, Bool, ℤ, codes, slice_get, None, Some, All}
use Rattle.std.specs.List.{AllZip}
use Rattle.row_core.specs.Points.{IsPoint}
use Rattle.elapse.specs.ElapsedPoints.{IsMoved}
use Rattle.affine_maps.specs.Posts.{IsStepTo}
use Rattle.script_text.specs.declared.command.Command.{Command}
use Rattle.script_text.specs.declared.command.Command.TheVariants.{Isempty, Compare, Has}
use Rattle.script_text.specs.declared.command.Comparison.{Comparison}
use Rattle.script_text.specs.declared.command.Extension.{Extension}
use Rattle.script_text.specs.declared.command.Mapping.{Mapping}
use Rattle.script_text.specs.declared.command.Operator.{Operator}
use Rattle.script_text.specs.declared.command.Part.{Part}
use Rattle.script_text.specs.declared.command.PowersetOperator.{PowersetOperator}
use Rattle.script_text.specs.declared.command.Rel.{Rel}
use Rattle.script_text.specs.declared.command.ShapeOperator.{ShapeOperator}
use Rattle.script_text.specs.declared.command.Space.{Space}
use Rattle.soundness.specs.Points.{PointSet, AreAlike, HasNoPoint, HaveSamePoints}
use Rattle.soundness.specs.Values.{Powerset, Transition, TransitionSystem, HybridAutomaton}
use Rattle.soundness.specs.Sets.{IsOfConstraints, IsOfGenerators, IsSpace, IsCopy, IsAdded, IsClosure, IsOfTwo, IsExtended, IsRemoved, IsMapped}
use Rattle.soundness.specs.Answers.{as_line, ok, Tells, TellsWhether, TellsHowTheyLie, TellsRelation, IsWitness, bound_text, TellsExtremeOf, TellsConstraints, TellsGenerators}
use Rattle.soundness.specs.Unions.{IsInUnion, IsCombined, AreAlikeUnions, TellsCover, AreRankings}
use Rattle.soundness.specs.Shapes.{IsSmallestShape, IsOfTwoShapes}
use Rattle.soundness.specs.Systems.{IsAt, AreInvariant, AreReached}
use Rattle.soundness.specs.Files.{IsRead}
use Rattle.soundness.specs.TextsSystems.{PointText}
use Rattle.soundness.specs.TextsLines.{Spells}
use Rattle.soundness.specs.Replies.{State, IsRefusal, IsReply, AreReplies}

-- ---- the same sets
-- of one kind, over the same variables, with the same points
pub record AreSame (s t : PointSet) : Type 0 where
  pub alike : AreAlike s t
  pub points : HaveSamePoints s t

-- powersets of one kind, over the same variables, with the same points
pub record AreSameUnions (s t : Powerset) : Type 0 where
  pub alike : AreAlikeUnions s t
  pub points : (v : List ℤ) → IsPoint s.dim v → IsInUnion s v ↔ IsInUnion t v

-- ---- results
-- a result tells its points
abbrev pub HasOne : (PointSet → Type 0) → Type 0
HasOne Is = (s t : PointSet) → Is s → Is t → AreSame s t

-- the same operand gives the same result
abbrev pub OfOneIsOne : (PointSet → PointSet → Type 0) → Type 0
OfOneIsOne Is = (p q s t : PointSet) → AreSame p q → Is p s → Is q t → AreSame s t

-- the same two operands give the same result
abbrev pub OfTwoIsOne : (PointSet → PointSet → PointSet → Type 0) → Type 0
OfTwoIsOne Is =
    (p q x y s t : PointSet) → AreSame p x → AreSame q y → Is p q s → Is x y t → AreSame s t

-- `universe` and `empty` make one set, and so do, of the same sets, `copy`, `spoly`, `closure`,
-- `meet`, `hull`, `concat`, `elapse`, `embed`, `project`, `remove`, `rank` and the makers of shapes
-- `shape`, `smeet` and `shull`
pub record ResultsAreOne : Type 0 where
  pub spaces : (space : Space) (nnc : Bool) (dim : ℕ) → HasOne (IsSpace space nnc dim)
  pub copies : OfOneIsOne IsCopy
  pub closures : OfOneIsOne IsClosure
  pub operators : (op : Operator) → OfTwoIsOne (IsOfTwo op)
  pub extensions : (by : Extension) (n : ℕ) → OfOneIsOne (IsExtended by n)
  pub removals : (vars : List ℕ) → OfOneIsOne (IsRemoved vars)
  pub rankings : OfOneIsOne AreRankings
  pub shapes : OfOneIsOne IsSmallestShape
  pub shape_operators : (op : ShapeOperator) → OfTwoIsOne (IsOfTwoShapes op)

-- of the same sets, and of texts that say the same, `cons`, `gens`, `add`, `image` and `preimage`
-- make one set
pub record TextsMakeOne : Type 0 where
  pub constraints : (nnc : Bool) (dim : ℕ) (text other : List ℕ) (s t : PointSet)
      (a : IsOfConstraints nnc dim text s) (b : IsOfConstraints nnc dim other t)
      → a.list ≡ b.list → AreSame s t
  pub generators : (nnc : Bool) (dim : ℕ) (text other : List ℕ) (s t : PointSet)
      (a : IsOfGenerators nnc dim text s) (b : IsOfGenerators nnc dim other t)
      → a.list ≡ b.list → AreSame s t
  pub added : (part text : Part) (p q s t : PointSet) → AreSame p q
      → (a : IsAdded part p s) (b : IsAdded text q t) → a.list ≡ b.list → AreSame s t
  pub images : (by : Mapping) (var : ℕ) (rel : Rel) (part text : Part) (p q s t : PointSet)
      → AreSame p q → (a : IsMapped by var rel part p s) (b : IsMapped by var rel text q t)
      → a.expr ≡ b.expr → a.divisor ≡ b.divisor → AreSame s t

-- `join` and `pmeet` make of the same powersets one set of points, however it is cut into members
abbrev pub CombinationsAreOne : Type 0
CombinationsAreOne = (op : PowersetOperator) (s t x y u w : Powerset) → AreSameUnions s x
    → AreSameUnions t y → IsCombined op s t u → IsCombined op x y w → AreSameUnions u w

-- `read` makes one set of a file
abbrev pub FilesAreOne : Type 0
FilesAreOne = (ext : Bool) (bytes : List ℕ) → HasOne (IsRead ext bytes)

-- ---- answers
-- of the same sets, and of texts that say the same, `isempty`, `contains`, `equal`, `disjoint`,
-- `scontains`, `has` and `relation` have one answer, and `covers` one `yes` or `no`
pub record AnswersAreOne : Type 0 where
  pub isempty : (p q : PointSet) (reply other : List ℕ) → AreSame p q
      → Tells (HasNoPoint p) reply → Tells (HasNoPoint q) other → reply ≡ other
  pub comparisons : (by : Comparison) (p q x y : PointSet) (reply other : List ℕ) → AreSame p x
      → AreSame q y → TellsHowTheyLie by p q reply → TellsHowTheyLie by x y other → reply ≡ other
  pub has : (part text : Part) (p q : PointSet) (reply other : List ℕ) → AreSame p q
      → (a : TellsWhether part p reply) (b : TellsWhether text q other)
      → a.point ≡ b.point → reply ≡ other
  pub relations : (part text : Part) (p q : PointSet) (reply other : List ℕ) → AreSame p q
      → (a : TellsRelation part p reply) (b : TellsRelation text q other)
      → a.constraint ≡ b.constraint → reply ≡ other
  pub covers : (s t x y : Powerset) (reply other : List ℕ) → AreSameUnions s x
      → AreSameUnions t y → TellsCover s t reply → TellsCover x y other
      → (reply ≡ as_line (codes "yes")) ↔ (other ≡ as_line (codes "yes"))

-- both replies show one bound, which is attained in both or in neither; the witnesses may differ
pub record ShowOneBound (row : List ℤ) (p q : PointSet) (reply other : List ℕ) : Type 0 where
  pub num : ℤ
  pub den : ℤ
  pub attained : Bool
  pub witness : List ℤ
  pub witness_of_other : List ℤ
  pub is_witness : IsWitness row p num den attained witness
  pub is_witness_of_other : IsWitness row q num den attained witness_of_other
  pub said : reply ≡ as_line (bound_text p.cons.dim num den attained witness)
  pub said_other : other ≡ as_line (bound_text p.cons.dim num den attained witness_of_other)

-- of the same sets the extreme values of `max` and `min` are one, and whether they are attained
abbrev pub ExtremesAreOne : Type 0
ExtremesAreOne = (up : Bool) (row : List ℤ) (p q : PointSet) (reply other : List ℕ) → AreSame p q
    → TellsExtremeOf up row p reply → TellsExtremeOf up row q other
    → (reply ≡ other) ⊎ ShowOneBound row p q reply other

-- of the same sets, closed or not, `print` and `sprint` may show different rows; but what `cons`,
-- or of generators `gens`, makes of both texts, each in one meaning, is one set
pub record PrintsSayOne : Type 0 where
  pub constraints : (s t x y : PointSet) (reply other : List ℕ) → AreSame s t
      → (a : TellsConstraints s reply) (b : TellsConstraints t other)
      → (c : IsOfConstraints s.nnc s.cons.dim a.text x)
      (d : IsOfConstraints t.nnc t.cons.dim b.text y)
      → a.is.list ≡ c.list → b.is.list ≡ d.list → AreSame x y
  pub generators : (s t x y : PointSet) (reply other : List ℕ) → AreSame s t
      → (a : TellsGenerators s reply) (b : TellsGenerators t other)
      → (c : IsOfGenerators s.nnc s.cons.dim a.text x)
      (d : IsOfGenerators t.nnc t.cons.dim b.text y)
      → a.is.list ≡ c.list → b.is.list ≡ d.list → AreSame x y

-- ---- runs
-- sets that `fixpoint` may make lack no initial state, and no successor of their states
pub record FixpointsAreWhole : Type 0 where
  pub initial : (s : TransitionSystem) (sets : List PointSet) (l : ℕ) (v : List ℤ)
      → IsAt s.initial l v → ¬ (IsAt sets l v) → ¬ (AreInvariant s sets)
  pub steps : (s : TransitionSystem) (sets : List PointSet) (k : ℕ) (t : Transition)
      (source : PointSet) (v : List ℤ) → slice_get s.transitions k ≡ Some t
      → slice_get sets t.source ≡ Some source → IsPoint s.dim v
      → IsStepTo source.cons t.relation.cons v → ¬ (IsAt sets t.target v) → ¬ (AreInvariant s sets)

-- sets that `reach` may make have no state outside the invariant of its location; of those inside
-- they lack no initial state, no state to which one of theirs comes as time passes, no successor
pub record ReachesAreWhole : Type 0 where
  pub within : (h : HybridAutomaton) (sets : List PointSet) (l : ℕ) (v : List ℤ)
      → IsAt sets l v → ¬ (IsAt h.invariants l v) → ¬ (AreReached h sets)
  pub initial : (h : HybridAutomaton) (sets : List PointSet) (l : ℕ) (v : List ℤ)
      → IsAt h.system.initial l v → IsAt h.invariants l v → ¬ (IsAt sets l v)
      → ¬ (AreReached h sets)
  pub flow : (h : HybridAutomaton) (sets : List PointSet) (l : ℕ) (x y v : List ℤ)
      → IsAt sets l x → IsAt h.flows l y → IsMoved h.system.dim x y v → IsAt h.invariants l v
      → ¬ (IsAt sets l v) → ¬ (AreReached h sets)
  pub jumps : (h : HybridAutomaton) (sets : List PointSet) (k : ℕ) (t : Transition)
      (source : PointSet) (v : List ℤ) → slice_get h.system.transitions k ≡ Some t
      → slice_get sets t.source ≡ Some source → IsPoint h.system.dim v
      → IsStepTo source.cons t.relation.cons v → IsAt h.invariants t.target v
      → ¬ (IsAt sets t.target v) → ¬ (AreReached h sets)

-- ---- lines
-- a line that isn't answered by `ok` leaves what each name stands for; a refused line is one
pub record OnlyOkChanges : Type 0 where
  pub others : (old : State) (text reply : List ℕ) (new : State) → IsReply old text reply new
      → reply ≢ ok → new.names ≡ old.names
  pub refused : (reply : List ℕ) → IsRefusal reply → reply ≢ ok

-- both commands ask one thing by `isempty`, `contains`, `equal`, `disjoint`, or `has` of one point
abbrev pub AskTheSame : Command → Command → Type 0
AskTheSame (Isempty p) (Isempty x) = p ≡ x
AskTheSame (Compare by p q) (Compare so x y) = (by ≡ so) × (p ≡ x) × (q ≡ y)
AskTheSame (Has p part) (Has x text) = (p ≡ x) × ((dim : ℕ) (v w : List ℤ) →
    PointText dim part.text v → PointText dim text.text w → v ≡ w)
AskTheSame c d = ⊥

-- a line that asks for one thing, however it is read, has one answer where no file is open; it may
-- be refused too
abbrev pub LinesHaveOneAnswer : Type 0
LinesHaveOneAnswer = (old : State) (text reply other : List ℕ) (new next : State) → old.file ≡ None
    → ((c d : Command) → Spells text c → Spells text d → AskTheSame c d)
    → IsReply old text reply new → IsReply old text other next
    → ¬ (IsRefusal reply) → ¬ (IsRefusal other) → reply ≡ other

-- ---- questions
-- each line asks for one thing, however it is read
abbrev pub AskOneEach : List (List ℕ) → Type 0
AskOneEach texts = All (λ text. (c d : Command) → Spells text c → Spells text d → AskTheSame c d)
    texts

-- both replies are the same, or one of them is a refusal
abbrev pub AreOneReply : List ℕ → List ℕ → Type 0
AreOneReply reply other = IsRefusal reply ⊎ IsRefusal other ⊎ (reply ≡ other)

-- of two texts that may be written to one script, where the same names stand before some lines that
-- are such questions, the replies to these are the same, one after another, but for refusals
abbrev pub QuestionsHaveOneAnswer : Type 0
QuestionsHaveOneAnswer = (old : State) (texts replies others : List (List ℕ)) → old.file ≡ None
    → AskOneEach texts → AreReplies old texts replies → AreReplies old texts others
    → AllZip AreOneReply replies others
