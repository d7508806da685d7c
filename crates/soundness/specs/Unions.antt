-- Powersets and ranking functions.
use Rattle.std.specs.Prelude.{◌≡◌, ◌⊎◌, ◌↔◌, ◌<◌, ◌+◌, ◌-◌, ◌/◌, ◌%◌, ℕ, List, [], ◌∷◌, ◌++◌, length, take, slice_get, Some, Contains, ℤ, pos, false, All, codes, decimal}
use Rattle.row_core.specs.Vectors.{cell}
use Rattle.row_core.specs.Points.{IsPoint}
use Rattle.row_core.specs.Content.{IsPrimitive}
use Rattle.cons_sys.specs.Constraints.{In}
use Rattle.gens_sys.specs.declared.kind.GenKind.TheVariants.{Point}
use Rattle.expr_text.specs.Printed.{generator_text}
use Rattle.ranking.specs.Functions.{IsRanking}
use Rattle.script_text.specs.declared.command.PowersetOperator.{PowersetOperator}
use Rattle.script_text.specs.declared.command.PowersetOperator.TheVariants.{Join, Meet}
use Rattle.soundness.specs.Points.{PointSet, LackStrict, IsOver, IsSetOf, HasNoPoint}
use Rattle.soundness.specs.Values.{Powerset}
use Rattle.soundness.specs.Answers.{as_line}
use Rattle.soundness.specs.TextsExpressions.{FractionText}

-- ---- powersets
-- the point is in a member
abbrev pub IsInUnion : Powerset → List ℤ → Type 0
IsInUnion u v = (member : PointSet) × Contains u.members member × In member.cons v

-- the set is the one member, or where it has no point there is none
pub record IsOfOne (p : PointSet) (u : Powerset) : Type 0 where
  pub kind : u.nnc ≡ p.nnc
  pub variables : u.dim ≡ p.cons.dim
  pub members : (HasNoPoint p × (u.members ≡ [])) ⊎ ((¬ (HasNoPoint p)) × (u.members ≡ p ∷ []))

-- two powersets of one kind and over the same variables
pub record AreAlikeUnions (s t : Powerset) : Type 0 where
  pub kind : s.nnc ≡ t.nnc
  pub variables : s.dim ≡ t.dim

-- the point is in one of them, or in both
abbrev pub IsInBy : PowersetOperator → Powerset → Powerset → List ℤ → Type 0
IsInBy Join s t v = IsInUnion s v ⊎ IsInUnion t v
IsInBy Meet s t v = IsInUnion s v × IsInUnion t v

-- the union of two powersets, or their intersection
pub record IsCombined (op : PowersetOperator) (s t u : Powerset) : Type 0 where
  pub operands : AreAlikeUnions s t
  pub kind : u.nnc ≡ s.nnc
  pub variables : u.dim ≡ s.dim
  pub members : All (λ (p : PointSet). (p.nnc ≡ u.nnc) × (p.cons.dim ≡ u.dim)
      × LackStrict u.nnc p.cons.list) u.members
  pub points : (v : List ℤ) → IsPoint s.dim v → IsInUnion u v ↔ IsInBy op s t v

-- the member with the number, where the first is member 1
pub record IsMember (i : ℕ) (u : Powerset) (p : PointSet) : Type 0 where
  pub counted : 0 < i
  pub is : slice_get u.members (i - 1) ≡ Some p
  pub over : IsOver u.nnc u.dim p

-- how many members there are
abbrev pub TellsMembers : Powerset → List ℕ → Type 0
TellsMembers u reply = reply ≡ as_line (codes "members " ++ decimal (length u.members))

-- a point of the second that isn't in the first is shown, in lowest terms
pub record TellsMissing (s t : Powerset) (reply : List ℕ) : Type 0 where
  pub point : List ℤ
  pub is_point : IsPoint s.dim point
  pub lowest : IsPrimitive point
  pub within : IsInUnion t point
  pub outside : ¬ (IsInUnion s point)
  pub said : reply ≡ as_line (codes "no " ++ generator_text s.dim (point, Point))

-- whether each point of the second is in the first, or else a point of it that isn't
pub record TellsCover (s t : Powerset) (reply : List ℕ) : Type 0 where
  pub operands : AreAlikeUnions s t
  pub tells : (((v : List ℤ) → IsPoint s.dim v → IsInUnion t v → IsInUnion s v)
      × (reply ≡ as_line (codes "yes"))) ⊎ TellsMissing s t reply

-- ---- ranking functions
-- a closed relation between states and their successors, of as many variables each
pub record IsRelation (r : PointSet) : Type 0 where
  pub closed : r.nnc ≡ false
  pub even : r.cons.dim % 2 ≡ 0

-- the functions that rank the relation: at each pair of it they are at least 0 at the state, and at
-- least 1 less at the successor
pub record AreRankings (r s : PointSet) : Type 0 where
  pub relation : IsRelation r
  pub set : IsSetOf false (r.cons.dim / 2 + 1) (IsRanking (r.cons.dim / 2) r.cons) s

-- a function that ranks the relation is shown
pub record TellsFunction (r : PointSet) (reply : List ℕ) : Type 0 where
  pub function : List ℤ
  pub point : IsPoint (r.cons.dim / 2 + 1) function
  pub ranks : IsRanking (r.cons.dim / 2) r.cons function
  pub text : List ℕ
  pub divisor : ℕ
  pub last : cell function (r.cons.dim / 2 + 1) ≡ pos divisor
  pub is_text : FractionText (r.cons.dim / 2) text (take (r.cons.dim / 2 + 1) function) divisor
  pub said : reply ≡ as_line text

-- a function that ranks the relation is shown, or it is said that there is none
pub record TellsRanking (r : PointSet) (reply : List ℕ) : Type 0 where
  pub relation : IsRelation r
  pub tells : TellsFunction r reply ⊎ (((f : List ℤ) → IsPoint (r.cons.dim / 2 + 1) f → ¬
      (IsRanking (r.cons.dim / 2) r.cons f)) × (reply ≡ as_line (codes "none")))
