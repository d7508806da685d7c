use Rattle.std.specs.Prelude.{◌≡◌, ℕ, ◌-◌, ◌^◌, ◌<◌, List, [], ◌∷◌, ◌++◌, length, ℤ, slice_index_or, All}
use Rattle.std.proofs.Common.{sym, ◌∙◌, ap, subst}
use Rattle.std.proofs.lemmas.List.Elements.{All-get_or, All-push, All-append}
use Rattle.row_core.specs.Vectors.{dot}
use Rattle.row_core.specs.Points.{IsSamePoint}
use Rattle.cons_sys.specs.Constraints.{Constraint, Constraints, constraint_at, row_at, kind_at, IsConstraint, FitDimension, Satisfies, In}
use Rattle.cons_sys.specs.declared.kind.ConKind.{ConKind}
use Rattle.cons_sys.specs.declared.kind.ConKind.TheVariants.{Eq}
use Rattle.row_core.proofs.DotLemmas.{dot-scale}
use Rattle.cons_sys.proofs.Signs.{same_sign, Allows-same_sign}

-- constraint i fits the dimension
pub IsConstraint-at : (cs : Constraints) (i : ℕ) → FitDimension cs → i < length cs.list → IsConstraint cs.dim (constraint_at cs.list i)
IsConstraint-at cs i fits h = All-get_or (IsConstraint cs.dim) cs.list i ([], Eq) h fits.each

-- a row and a kind make a constraint
pub one_constraint : (list : List Constraint) (i : ℕ) (row : List ℤ) (kind : ConKind) → row_at list i ≡ row → kind_at list i ≡ kind → constraint_at list i ≡ (row, kind)
one_constraint list i row kind e f = pair (constraint_at list i) e f
  where
    pair : (c : Constraint) → c.0 ≡ row → c.1 ≡ kind → c ≡ (row, kind)
    pair (r, k) e f = let p : (r, k) ≡ (row, kind) = cc in p

-- one constraint more fits
pub FitDimension-push : (dim : ℕ) (list : List Constraint) (c : Constraint) → FitDimension (record { dim = dim; list = list }) → IsConstraint dim c → FitDimension (record { dim = dim; list = list ++ c ∷ [] })
FitDimension-push dim list c fits h = record { each = All-push (IsConstraint dim) list c fits.each h; narrow = fits.narrow }

-- constraints fit behind others
pub FitDimension-append : (dim : ℕ) (a b : Constraints) → FitDimension a → FitDimension b → a.dim ≡ dim → b.dim ≡ dim → FitDimension (record { dim = dim; list = a.list ++ b.list })
FitDimension-append dim a b fits more e f = record {
  each = All-append (IsConstraint dim) a.list b.list (subst (λ (n : ℕ). All (IsConstraint n) a.list) e fits.each) (subst (λ (n : ℕ). All (IsConstraint n) b.list) f more.each);
  narrow = subst (λ (n : ℕ). n < 2 ^ 32 - 2) e fits.narrow;
}

-- one constraint holds at both or at neither of two vectors of one point
pub Satisfies-same_point : (u v : List ℤ) (c : Constraint) → IsSamePoint u v → Satisfies u c → Satisfies v c
Satisfies-same_point u v c same h =
    Allows-same_sign c.1 (dot c.0 u) (dot c.0 v)
    (same_sign same.left same.right (dot c.0 u) (dot c.0 v) same.left_positive same.right_positive
    (sym (dot-scale c.0 same.left u) ∙ (ap (λ (w : List ℤ). dot c.0 w) same.same ∙ dot-scale c.0 same.right v)))
    h

pub In-same_point : (cs : Constraints) (u v : List ℤ) → IsSamePoint u v → In cs u → In cs v
In-same_point cs u v same all = λ k d h. Satisfies-same_point u v (slice_index_or cs.list k d) same (all k d h)
