-- What a line spells: words with blanks between, then perhaps a part behind a colon, and a comment.
use Rattle.std.specs.Prelude.{◌≡◌, ℕ, ◌-◌, ◌^◌, ◌<◌, min, List, [], ◌∷◌, ◌++◌, codes, length, map, Contains, Bool, if◌then◌else◌}
use Rattle.soundness.specs.TextsNumbers.{AreBlanks, IsNumber, IsVariable, IsName}
use Rattle.soundness.specs.TextsSystems.{VariablesText}
use Rattle.script_text.specs.declared.command.Command.{Command}
use Rattle.script_text.specs.declared.command.Command.TheVariants as command
use Rattle.script_text.specs.declared.command.Comparison.TheVariants as comparison
use Rattle.script_text.specs.declared.command.Extension.TheVariants as extension
use Rattle.script_text.specs.declared.command.Extremum.TheVariants as extremum
use Rattle.script_text.specs.declared.command.LocationPart.TheVariants as location_part
use Rattle.script_text.specs.declared.command.Mapping.TheVariants as mapping
use Rattle.script_text.specs.declared.command.Operator.TheVariants as operator
use Rattle.script_text.specs.declared.command.PowersetOperator.TheVariants as powerset_operator
use Rattle.script_text.specs.declared.command.Rel.{Rel}
use Rattle.script_text.specs.declared.command.Rel.TheVariants as rel
use Rattle.script_text.specs.declared.command.ShapeOperator.TheVariants as shape_operator
use Rattle.script_text.specs.declared.command.Space.TheVariants as space

-- a word of a line: a name of at most so many bytes, a word of the language, a number, a variable
pub data Word : Type 0 where
  Name : ℕ → List ℕ → Word
  Fixed : List ℕ → Word
  Count : ℕ → Word
  Variable : ℕ → Word

-- a command keeps numbers up to 2^64 - 1, which stands for all greater ones
abbrev pub kept : ℕ → ℕ
kept n = min n (2 ^ 64 - 1)

-- these bytes are the word
abbrev pub IsWord : Word → List ℕ → Type 0
IsWord (Name most name) w = (w ≡ name) × IsName most w
IsWord (Fixed word) w = w ≡ word
IsWord (Count n) w = (m : ℕ) × IsNumber w m × (n ≡ kept m)
IsWord (Variable j) w = (i : ℕ) × IsVariable w i × (j ≡ kept i)

-- each word with one or more blanks before it
abbrev pub AreWords : List Word → List ℕ → Type 0
AreWords [] text = text ≡ []
AreWords (x ∷ xs) text =
    (gap w rest : List ℕ) × (text ≡ gap ++ w ++ rest)
    × AreBlanks gap × (0 < length gap) × IsWord x w × AreWords xs rest

-- what stands behind the words: blanks, a part behind one of the signs, variables behind a colon
pub data Tail : Type 0 where
  Blanks : Tail
  Behind : List (List ℕ) → List ℕ → Tail
  Variables : List ℕ → Tail

-- the text is this tail, with blanks around its parts
abbrev pub IsTail : Tail → List ℕ → Type 0
IsTail Blanks text = AreBlanks text
IsTail (Behind signs part) text =
    (b sign c d : List ℕ) × (text ≡ b ++ sign ++ c ++ part ++ d)
    × Contains signs sign × AreBlanks b × AreBlanks c × AreBlanks d
IsTail (Variables vs) text =
    (b rest us : List ℕ) × (text ≡ b ++ codes ":" ++ rest)
    × AreBlanks b × VariablesText rest us × (vs ≡ map kept us)

-- nothing, or # and any bytes behind it
abbrev pub IsComment : List ℕ → Type 0
IsComment [] = Unit {0}
IsComment (b ∷ text) = b ≡ 35

-- how a command is spelled: its own word, the words behind it, and the tail
pub record Spelling : Type 0 where
  pub first : List ℕ
  pub words : List Word
  pub tail : Tail

-- the line is spelled so, with blanks around it, and perhaps a comment at its end
pub record IsSpelled (s : Spelling) (line : List ℕ) : Type 0 where
  pub before : List ℕ
  pub words_text : List ℕ
  pub tail_text : List ℕ
  pub comment : List ℕ
  pub same : line ≡ before ++ s.first ++ words_text ++ tail_text ++ comment
  pub blank : AreBlanks before
  pub are_words : AreWords s.words words_text
  pub is_tail : IsTail s.tail tail_text
  pub is_comment : IsComment comment

-- a command that is words alone
abbrev pub of_words : List ℕ → List Word → Spelling
of_words first others = record { first = first; words = others; tail = Blanks }

-- a command with a part behind one of some signs
abbrev pub related : List ℕ → List Word → List (List ℕ) → List ℕ → Spelling
related first others signs part = record { first = first; words = others; tail = Behind signs part }

-- a command with a part behind a colon
abbrev pub after_colon : List ℕ → List Word → List ℕ → Spelling
after_colon first others part = related first others (codes ":" ∷ []) part

-- a name that a command reads or makes
abbrev pub name : List ℕ → Word
name w = Name 32 w

-- a name to which the number of a location is added
abbrev pub prefix : List ℕ → Word
prefix w = Name 30 w

-- the topology
abbrev pub topology : Bool → Word
topology top = Fixed (if top then codes "nnc" else codes "closed")

-- which of the two stored systems
abbrev pub system : Bool → Word
system side = Fixed (if side then codes "gens" else codes "cons")

-- which of the two kinds of files
abbrev pub file : Bool → Word
file form = Fixed (if form then codes "ext" else codes "ine")

-- the signs of a relation; a colon means =
abbrev pub signs : Rel → List (List ℕ)
signs rel.Eq = codes ":" ∷ codes "=" ∷ []
signs rel.Ge = codes ">=" ∷ []
signs rel.Le = codes "<=" ∷ []
signs rel.Gt = codes ">" ∷ []
signs rel.Lt = codes "<" ∷ []

-- a command with one name
abbrev pub one : List ℕ → List ℕ → Spelling
one first p = of_words first (name p ∷ [])

-- a command with two names
abbrev pub two : List ℕ → List ℕ → List ℕ → Spelling
two first p q = of_words first (name p ∷ name q ∷ [])

-- a command with three names
abbrev pub three : List ℕ → List ℕ → List ℕ → List ℕ → Spelling
three first p q r = of_words first (name p ∷ name q ∷ name r ∷ [])

-- a name, a topology and a dimension
abbrev pub space_of : List ℕ → Bool → ℕ → List Word
space_of out top n = name out ∷ topology top ∷ Count n ∷ []

-- how each command is spelled
abbrev pub spelling : Command → Spelling
spelling command.Nothing = of_words [] []
spelling (command.Cons out top n cons) = after_colon (codes "cons") (space_of out top n) cons.text
spelling (command.Gens out top n gens) = after_colon (codes "gens") (space_of out top n) gens.text
spelling (command.Space space.Universe out top n) = of_words (codes "universe") (space_of out top n)
spelling (command.Space space.Empty out top n) = of_words (codes "empty") (space_of out top n)
spelling (command.Copy out p) = two (codes "copy") out p
spelling (command.Drop p) = one (codes "drop") p
spelling (command.Add p cons) = after_colon (codes "add") (name p ∷ []) cons.text
spelling (command.Addgen p gens) = after_colon (codes "addgen") (name p ∷ []) gens.text
spelling (command.Has p point) = after_colon (codes "has") (name p ∷ []) point.text
spelling (command.Size p) = one (codes "size") p
spelling (command.Print side p) = of_words (codes "print") (system side ∷ name p ∷ [])
spelling command.Names = of_words (codes "names") []
spelling (command.OfTwo operator.Meet out p q) = three (codes "meet") out p q
spelling (command.OfTwo operator.Hull out p q) = three (codes "hull") out p q
spelling (command.OfTwo operator.Concat out p q) = three (codes "concat") out p q
spelling (command.OfTwo operator.Elapse out p q) = three (codes "elapse") out p q
spelling (command.Closure out p) = two (codes "closure") out p
spelling (command.Compare comparison.Contains p q) = two (codes "contains") p q
spelling (command.Compare comparison.Equal p q) = two (codes "equal") p q
spelling (command.Compare comparison.Disjoint p q) = two (codes "disjoint") p q
spelling (command.Isempty p) = one (codes "isempty") p
spelling (command.Relation p con) = after_colon (codes "relation") (name p ∷ []) con.text
spelling (command.Bound extremum.Max p expr) = after_colon (codes "max") (name p ∷ []) expr.text
spelling (command.Bound extremum.Min p expr) = after_colon (codes "min") (name p ∷ []) expr.text
spelling (command.Map mapping.Image out p v rel frac) =
    related (codes "image") (name out ∷ name p ∷ Variable v ∷ []) (signs rel) frac.text
spelling (command.Map mapping.Preimage out p v rel frac) =
    related (codes "preimage") (name out ∷ name p ∷ Variable v ∷ []) (signs rel) frac.text
spelling (command.Extend extension.Embed out p n) =
    of_words (codes "embed") (name out ∷ name p ∷ Count n ∷ [])
spelling (command.Extend extension.Project out p n) =
    of_words (codes "project") (name out ∷ name p ∷ Count n ∷ [])
spelling (command.Remove out p vars) =
    record { first = codes "remove"; words = name out ∷ name p ∷ []; tail = Variables vars }
spelling (command.Widen out p q) = three (codes "widen") out p q
spelling (command.Read out form) = of_words (codes "read") (name out ∷ file form ∷ [])
spelling (command.Write p form) = of_words (codes "write") (name p ∷ file form ∷ [])
spelling (command.System out n l) = of_words (codes "system") (name out ∷ Count n ∷ Count l ∷ [])
spelling (command.Init s loc p) = of_words (codes "init") (name s ∷ Count loc ∷ name p ∷ [])
spelling (command.Trans s loc loc2 r) =
    of_words (codes "trans") (name s ∷ Count loc ∷ Count loc2 ∷ name r ∷ [])
spelling (command.Fixpoint s delay p) =
    of_words (codes "fixpoint") (name s ∷ Count delay ∷ prefix p ∷ [])
spelling (command.Pset out p) = two (codes "pset") out p
spelling (command.OfTwoPowersets powerset_operator.Join out s t) = three (codes "join") out s t
spelling (command.OfTwoPowersets powerset_operator.Meet out s t) = three (codes "pmeet") out s t
spelling (command.Member out s i) = of_words (codes "member") (name out ∷ name s ∷ Count i ∷ [])
spelling (command.Psize s) = one (codes "psize") s
spelling (command.Covers s t) = two (codes "covers") s t
spelling (command.Rank out r) = two (codes "rank") out r
spelling (command.Ranking r) = one (codes "ranking") r
spelling (command.ShapeOf out p) = two (codes "shape") out p
spelling (command.Bounds out n cons) =
    after_colon (codes "bounds") (name out ∷ Count n ∷ []) cons.text
spelling (command.OfTwoShapes shape_operator.Meet out s t) = three (codes "smeet") out s t
spelling (command.OfTwoShapes shape_operator.Hull out s t) = three (codes "shull") out s t
spelling (command.ShapeContains s t) = two (codes "scontains") s t
spelling (command.ShapePrint s) = one (codes "sprint") s
spelling (command.ShapePoly out s) = two (codes "spoly") out s
spelling (command.Hybrid out s) = two (codes "hybrid") out s
spelling (command.SetPart location_part.Invariant h loc p) =
    of_words (codes "inv") (name h ∷ Count loc ∷ name p ∷ [])
spelling (command.SetPart location_part.Flow h loc p) =
    of_words (codes "flow") (name h ∷ Count loc ∷ name p ∷ [])
spelling (command.Reach h delay p) = of_words (codes "reach") (name h ∷ Count delay ∷ prefix p ∷ [])

-- the line spells the command
abbrev pub Spells : List ℕ → Command → Type 0
Spells line c = IsSpelled (spelling c) line
