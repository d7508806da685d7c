-- The constraints of a shape can be stored, and so are printed and read back.
use Rattle.std.proofs.Common.{◌≡◌, ◌≢◌, ◌⊎◌, inl, inr, ℕ, zero, suc, ◌+◌, ◌<◌, List, [], sym, subst, arith}
use Rattle.std.specs.Prelude.{ℤ, pos, negsuc, cond, nat_eq, Option, None, Some, IfSome, All, unsigned_abs}
use Prim.Native.Nat.{◌∣◌}
use Rattle.std.proofs.Math.Nat.{eq-one_of_dvd-one}
use Rattle.std.proofs.lemmas.Bool.{cases_order}
use Rattle.std.proofs.lemmas.Bool.Decides.{nat_tests}
use Rattle.std.proofs.lemmas.List.Elements.{All-nil, All-cons, All-append}
use Rattle.row_core.specs.Content.{IsPrimitive}
use Rattle.cons_sys.specs.Constraints.{Constraint, IsConstraint, FitDimension}
use Rattle.cons_sys.specs.declared.kind.ConKind.TheVariants.{Ge}
use Rattle.difference_bounds.specs.Fractions.{IsFraction}
use Rattle.difference_bounds.specs.Walks.{Bound, Bounds}
use Rattle.difference_bounds.specs.Tables.{Table, bounds_of}
use Rattle.difference_bounds.proofs.PassLemmas.{bound_fraction}
use Rattle.bd_shape.specs.Shapes.{DifferenceShape, IsTightTable, IsShape}
use Rattle.bd_shape.specs.Rows.{constant_row, bound_row, rows_of, rows_at, rows_to, all_to, table_rows, shape_constraints}
use Rattle.bd_shape.proofs.RowLists.{length_constant, constant_last, constant_in_range, one_in_range, length_bound, bound_in_range, bound_primitive}

-- ---- the constraint that never holds
constant_primitive : (dim : ℕ) → IsPrimitive (constant_row dim (negsuc 0))
constant_primitive dim =
    let wide = length_constant dim (negsuc 0) in
    inr (λ d all. eq-one_of_dvd-one (subst (λ (z : ℤ). d ∣ unsigned_abs z) (constant_last dim (negsuc 0)) (all dim (pos 0) (omega (arith, wide)))))

constant_fits : (dim : ℕ) → IsConstraint dim (constant_row dim (negsuc 0), Ge)
constant_fits dim = record { wide = length_constant dim (negsuc 0); in_range = constant_in_range dim (negsuc 0) one_in_range; primitive = constant_primitive dim }

-- ---- those of bounds
abbrev Fit : ℕ → List Constraint → Type 0
Fit dim rows = All (IsConstraint dim) rows

bound_fits : (dim i j : ℕ) → i < dim + 1 → j < dim + 1 → i ≢ j → (o : Bound) → IfSome o IsFraction → Fit dim (rows_of dim i j o)
bound_fits dim i j l m n None h = All-nil (IsConstraint dim)
bound_fits dim i j l m n (Some f) h =
    All-cons (IsConstraint dim) (bound_row dim i j f, Ge) [] (record { wide = length_bound dim i j f; in_range = bound_in_range dim i j f h; primitive = bound_primitive dim i j f h l m n }) (All-nil (IsConstraint dim))

module _ (dim : ℕ) (b : Bounds) (fractions : (i j : ℕ) → IfSome (b i j) IsFraction) where
  at_fits : (i j : ℕ) → i < dim + 1 → j < dim + 1 → Fit dim (rows_at dim b i j)
  at_fits i j l m = by_order (cases_order i j)
    where
      same : (xs ys : List Constraint) → i ≡ j → cond (nat_eq i j) xs ys ≡ xs
      same xs ys e = grind (arith, nat_tests)

      other : (xs ys : List Constraint) → i ≢ j → cond (nat_eq i j) xs ys ≡ ys
      other xs ys n = grind (arith, nat_tests)

      apart : i ≢ j → Fit dim (rows_at dim b i j)
      apart n = subst (Fit dim) (sym (other [] (rows_of dim i j (b i j)) n)) (bound_fits dim i j l m n (b i j) (fractions i j))

      by_order : (i ≡ j) ⊎ ((i < j) ⊎ (j < i)) → Fit dim (rows_at dim b i j)
      by_order (inl e) = subst (Fit dim) (sym (same [] (rows_of dim i j (b i j)) e)) (All-nil (IsConstraint dim))
      by_order (inr (inl k)) = apart (λ e. omega (arith, k, e))
      by_order (inr (inr k)) = apart (λ e. omega (arith, k, e))

  to_fits : (i n : ℕ) → i < dim + 1 → n < dim + 2 → Fit dim (rows_to dim b i n)
  to_fits i zero l m = All-nil (IsConstraint dim)
  to_fits i (suc n) l m = All-append (IsConstraint dim) (rows_to dim b i n) (rows_at dim b i n) (to_fits i n l (omega (arith, m))) (at_fits i n l (omega (arith, m)))

  all_fit : (n : ℕ) → n < dim + 2 → Fit dim (all_to dim b (dim + 1) n)
  all_fit zero m = All-nil (IsConstraint dim)
  all_fit (suc n) m = All-append (IsConstraint dim) (all_to dim b (dim + 1) n) (rows_to dim b n (dim + 1)) (all_fit n (omega (arith, m))) (to_fits n (dim + 1) (omega (arith, m)) (omega arith))

table_fits : (dim : ℕ) (o : Option Table) → IfSome o (IsTightTable dim) → Fit dim (table_rows dim o)
table_fits dim None h = All-cons (IsConstraint dim) (constant_row dim (negsuc 0), Ge) [] (constant_fits dim) (All-nil (IsConstraint dim))
table_fits dim (Some t) h = all_fit dim (bounds_of t) (λ i j. bound_fraction t i j h.table.fractions) (dim + 1) (omega arith)

-- each row of a shape fits the dimension and the range
pub shape_fits : (s : DifferenceShape) → IsShape s → FitDimension (shape_constraints s)
shape_fits s a = record { each = table_fits s.dim s.bounds a.tight; narrow = omega (arith, a.narrow) }
