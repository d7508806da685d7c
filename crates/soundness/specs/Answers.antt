-- Answers to questions about sets: each is true of the points.
use Rattle.std.specs.Prelude.{◌≡◌, ◌⊎◌, ◌↔◌, ℕ, ◌^◌, ◌<◌, List, [], ◌∷◌, ◌++◌, length, ℤ, unsigned_abs, Bool, true, false, All, IsTrue, codes, decimal}
use Rattle.std.proofs.Math.IntN.{◌*ℤ◌}
use Rattle.std.specs.Fmt.{signed_decimal}
use Rattle.row_core.specs.Vectors.{cell, dot}
use Rattle.row_core.specs.Points.{IsPoint}
use Rattle.cons_sys.specs.declared.kind.ConKind.TheVariants.{Eq}
use Rattle.cons_sys.specs.Constraints.{Constraint, In}
use Rattle.gens_sys.specs.declared.kind.GenKind.{GenKind}
use Rattle.gens_sys.specs.declared.kind.GenKind.TheVariants.{Point, ClosurePoint}
use Rattle.gens_sys.specs.Generators.{Generator}
use Rattle.expr_text.specs.Printed.{generator_text}
use Rattle.stored_systems.specs.PointSets.{IsWithin}
use Rattle.optimum.specs.Relations.{HoldsThroughout, HoldsNowhere, HoldsSomewhere, FailsSomewhere}
use Rattle.optimum.specs.Suprema.{ExceedsAll, IsSupremum}
use Rattle.script_text.specs.declared.command.Part.{Part}
use Rattle.script_text.specs.declared.command.Comparison.{Comparison}
use Rattle.script_text.specs.declared.command.Comparison.TheVariants as comparison
use Rattle.script_text.specs.declared.command.Extremum.{Extremum}
use Rattle.script_text.specs.declared.command.Extremum.TheVariants.{Max, Min}
use Rattle.soundness.specs.Points.{PointSet, IsSetOf, AreAlike, HasNoPoint, Includes, HaveSamePoints, AreDisjoint, IsInSmallest}
use Rattle.soundness.specs.Sets.{constraints, IsOfConstraints, IsOfGenerators, Generate}
use Rattle.soundness.specs.TextsExpressions.{ExpressionText}
use Rattle.soundness.specs.TextsSystems.{ConstraintText, PointText}

-- ---- replies
-- the text as a line
abbrev pub as_line : List ℕ → List ℕ
as_line text = text ++ 10 ∷ []

-- the reply to a command that makes or changes something
abbrev pub ok : List ℕ
ok = as_line (codes "ok")

-- the reply is `yes` where the statement is true, and else `no`
abbrev pub Tells : Type 0 → List ℕ → Type 0
Tells Statement reply =
    (Statement × (reply ≡ as_line (codes "yes"))) ⊎ (¬ Statement × (reply ≡ as_line (codes "no")))

-- ---- points, and how sets lie
-- whether the point of the text is in the set
pub record TellsWhether (part : Part) (s : PointSet) (reply : List ℕ) : Type 0 where
  pub point : List ℤ
  pub text : PointText s.cons.dim part.text point
  pub is_point : IsPoint s.cons.dim point
  pub tells : Tells (In s.cons point) reply

-- each point of the second is in the first; both have the same points; no point is in both
abbrev pub LieSo : Comparison → PointSet → PointSet → Type 0
LieSo comparison.Contains s t = Includes s t
LieSo comparison.Equal s t = HaveSamePoints s t
LieSo comparison.Disjoint s t = AreDisjoint s t

-- whether two sets of one kind lie so
pub record TellsHowTheyLie (by : Comparison) (s t : PointSet) (reply : List ℕ) : Type 0 where
  pub operands : AreAlike s t
  pub tells : Tells (LieSo by s t) reply

-- the text with a further word, where it holds
abbrev pub with_word : List ℕ → List ℕ → Bool → List ℕ
with_word text word false = text
with_word [] word true = word
with_word (c ∷ cs) word true = (c ∷ cs) ++ codes " " ++ word

-- those of the four words that hold
abbrev pub relation_words : Bool → Bool → Bool → Bool → List ℕ
relation_words disjoint intersects included saturates = with_word
    (with_word (with_word (with_word [] (codes "disjoint") disjoint)
    (codes "intersects") intersects) (codes "included") included) (codes "saturates") saturates

-- the words that hold of the set and the constraint of the text: no point satisfies it, some point
-- does and some doesn't, each does, both sides are equal at each
pub record TellsRelation (part : Part) (s : PointSet) (reply : List ℕ) : Type 0 where
  pub constraint : Constraint
  pub text : ConstraintText s.cons.dim part.text constraint
  pub disjoint : Bool
  pub intersects : Bool
  pub included : Bool
  pub saturates : Bool
  pub said : reply ≡ as_line (relation_words disjoint intersects included saturates)
  pub nowhere : IsTrue disjoint ↔ HoldsNowhere s.cons constraint
  pub divided : IsTrue intersects ↔ HoldsSomewhere s.cons constraint
      × FailsSomewhere s.cons constraint
  pub throughout : IsTrue included ↔ HoldsThroughout s.cons constraint
  pub equal : IsTrue saturates ↔ HoldsThroughout s.cons (constraint.0, Eq)

-- ---- the extreme values of an expression
-- whether the greatest value is asked for
abbrev pub is_max : Extremum → Bool
is_max Max = true
is_max Min = false

-- whether the bound is a value
abbrev pub attained_text : Bool → List ℕ
attained_text true = codes " attained "
attained_text false = codes " not attained "

-- the witness of a bound: a point of the smallest closed set that includes the set, of the set
-- exactly where the bound is attained, with the bound as its value
pub record IsWitness (row : List ℤ) (s : PointSet) (num den : ℤ) (attained : Bool)
    (v : List ℤ) : Type 0 where
  pub point : IsPoint s.cons.dim v
  pub near : IsInSmallest false s.cons.dim (IsWithin s.cons) v
  pub inside : IsTrue attained ↔ IsWithin s.cons v
  pub value : den *ℤ dot row v ≡ num *ℤ cell v s.cons.dim

-- a bound is shown by a point of the set where it is attained, and else by a point of its closure
abbrev pub witness_kind : Bool → GenKind
witness_kind true = Point
witness_kind false = ClosurePoint

-- the number has at most 64 digits, which is as many as `decimal` writes
abbrev pub IsShort : ℤ → Type 0
IsShort z = unsigned_abs z < 10 ^ 64

-- the bound as a fraction, whether it is attained, and a witness
abbrev pub bound_text : ℕ → ℤ → ℤ → Bool → List ℤ → List ℕ
bound_text dim num den attained witness =
    signed_decimal num ++ codes "/" ++ signed_decimal den ++ attained_text attained
    ++ generator_text dim (witness, witness_kind attained)

-- the bound, whether it is attained, and a witness, as a generator of that kind
pub record TellsBound (up : Bool) (row : List ℤ) (s : PointSet) (reply : List ℕ) : Type 0 where
  pub num : ℤ
  pub den : ℤ
  pub attained : Bool
  pub bound : IsSupremum up row s.cons.dim (IsWithin s.cons) num den attained
  pub witness : List ℤ
  pub is_witness : IsWitness row s num den attained witness
  pub short : All IsShort (num ∷ den ∷ witness)
  pub said : reply ≡ as_line (bound_text s.cons.dim num den attained witness)

-- there is no point; or the values have no bound; or the least upper (or the greatest lower) bound
abbrev pub TellsExtremeOf : Bool → List ℤ → PointSet → List ℕ → Type 0
TellsExtremeOf up row s reply = (HasNoPoint s × (reply ≡ as_line (codes "empty")))
    ⊎ (ExceedsAll up row s.cons.dim (IsWithin s.cons) × (reply ≡ as_line (codes "unbounded")))
    ⊎ TellsBound up row s reply

-- where the text is the expression
pub record TellsExtreme (extremum : Extremum) (part : Part) (s : PointSet)
    (reply : List ℕ) : Type 0 where
  pub row : List ℤ
  pub text : ExpressionText s.cons.dim part.text row
  pub tells : TellsExtremeOf (is_max extremum) row s reply

-- ---- systems
-- the text of constraints that hold at the points of the set and at no others
pub record TellsConstraints (s : PointSet) (reply : List ℕ) : Type 0 where
  pub text : List ℕ
  pub said : reply ≡ as_line text
  pub is : IsOfConstraints s.nnc s.cons.dim text s

-- the text of generators that generate these points and no others; of none where there is no point
pub record TellsGenerators (s : PointSet) (reply : List ℕ) : Type 0 where
  pub text : List ℕ
  pub said : reply ≡ as_line text
  pub is : IsOfGenerators s.nnc s.cons.dim text s
  pub none : HasNoPoint s → is.list ≡ []

-- constraints, or generators
abbrev pub TellsSystem : Bool → PointSet → List ℕ → Type 0
TellsSystem false s reply = TellsConstraints s reply
TellsSystem true s reply = TellsGenerators s reply

-- the dimension, and how many constraints, and how many generators, stand for the points: of some
-- lists that do
pub record TellsSize (s : PointSet) (reply : List ℕ) : Type 0 where
  pub constraints_are : List Constraint
  pub generators_are : List Generator
  pub hold : IsSetOf s.nnc s.cons.dim (In (constraints s.cons.dim constraints_are)) s
  pub generate : Generate generators_are s
  pub said : reply ≡ as_line (codes "dim " ++ decimal s.cons.dim ++ codes " constraints " ++ decimal
      (length constraints_are) ++ codes " generators " ++ decimal (length generators_are))
