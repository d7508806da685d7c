-- The row `(0, .., 0, 1)`, whose value at a vector is its last entry.
use Rattle.std.proofs.Common.{◌≡◌, ◌≢◌, inr, ℕ, zero, suc, ◌+◌, List, [], ◌∷◌, length, Bool, true, false, not, filter, cond, ℤ, pos, ◌+ℤ◌, ◌*ℤ◌, unsigned_abs, refl, sym, ap, ◌∙◌, subst, arith, All}
use Rattle.std.specs.Prelude.{◌&&◌}
use Rattle.std.specs.Ordering.{int_eq}
use Prim.Native.Nat.{◌∣◌}
use mathlib.Core.Bool.{true≢false}
use Rattle.std.proofs.Math.Nat.{eq-one_of_dvd-one}
use Rattle.std.proofs.lemmas.Int.{ints}
use Rattle.std.proofs.lemmas.Bool.Decides.{Decides-int_eq}
use Rattle.std.proofs.lemmas.List.Elements.{All-nil, All-cons, All-head, All-tail}
use Rattle.row_core.specs.Vectors.{cell, dot}
use Rattle.row_core.specs.Content.{IsPrimitive}
use Rattle.stored_systems.specs.WorkLists.{divisor_row}
use Rattle.stored_systems.specs.StoredForms.{is_divisor_row}

one_and_none : (b : ℤ) → pos 1 *ℤ b +ℤ pos 0 ≡ b
one_and_none b = omega (arith, ints)

none_and_rest : (b d e : ℤ) → d ≡ e → pos 0 *ℤ b +ℤ d ≡ e
none_and_rest b d e h = omega (arith, ints, h)

pub dot_divisor : (dim : ℕ) (v : List ℤ) → dot (divisor_row dim) v ≡ cell v dim
dot_divisor zero [] = refl
dot_divisor zero (b ∷ v) = one_and_none b
dot_divisor (suc dim) [] = refl
dot_divisor (suc dim) (b ∷ v) = none_and_rest b (dot (divisor_row dim) v) (cell v dim) (dot_divisor dim v)

pub length-divisor : (dim : ℕ) → length (divisor_row dim) ≡ dim + 1
length-divisor zero = refl
length-divisor (suc dim) = ap suc (length-divisor dim) ∙ omega arith

pub cell-divisor_last : (dim : ℕ) → cell (divisor_row dim) dim ≡ pos 1
cell-divisor_last zero = refl
cell-divisor_last (suc dim) = cell-divisor_last dim

pub cell-divisor_other : (dim j : ℕ) → j ≢ dim → cell (divisor_row dim) j ≡ pos 0
cell-divisor_other zero zero ne = absurd (ne refl)
cell-divisor_other zero (suc j) ne = refl
cell-divisor_other (suc dim) zero ne = refl
cell-divisor_other (suc dim) (suc j) ne = cell-divisor_other dim j (λ e. ne (ap suc e))

pub divisor_primitive : (dim : ℕ) → IsPrimitive (divisor_row dim)
divisor_primitive dim = inr (λ d all. eq-one_of_dvd-one (subst (λ (z : ℤ). d ∣ unsigned_abs z) (cell-divisor_last dim) (all dim (pos 0) (omega (arith, length-divisor dim)))))

-- ---- the test
and_first : (x y : Bool) → (x && y) ≡ true → x ≡ true
and_first true y e = refl
and_first false y e = e

and_second : (x y : Bool) → (x && y) ≡ true → y ≡ true
and_second true y e = e
and_second false y e = absurd (true≢false (sym e))

int_same : (x y : ℤ) → int_eq x y ≡ true → x ≡ y
int_same x y e = (Decides-int_eq x y).0 e

two_same : (a b : ℤ) (u v : List ℤ) → a ≡ b → u ≡ v → a ∷ u ≡ b ∷ v
two_same a b u v e f = ap (λ (z : ℤ). z ∷ u) e ∙ ap (λ (w : List ℤ). b ∷ w) f

pub divisor_is : (dim : ℕ) (r : List ℤ) → is_divisor_row dim r ≡ true → r ≡ divisor_row dim
divisor_is zero [] e = absurd (true≢false (sym e))
divisor_is (suc dim) [] e = absurd (true≢false (sym e))
divisor_is zero (a ∷ []) e = two_same a (pos 1) [] [] (int_same a (pos 1) e) refl
divisor_is zero (a ∷ b ∷ v) e = absurd (true≢false (sym e))
divisor_is (suc dim) (a ∷ v) e = two_same a (pos 0) v (divisor_row dim) (int_same a (pos 0) (and_first (int_eq a (pos 0)) (is_divisor_row dim v) e)) (divisor_is dim v (and_second (int_eq a (pos 0)) (is_divisor_row dim v) e))

pub is_divisor : (dim : ℕ) → is_divisor_row dim (divisor_row dim) ≡ true
is_divisor zero = refl
is_divisor (suc dim) = is_divisor dim

not_true : (x : Bool) → not x ≡ true → x ≡ true → ⊥
not_true true e f = absurd (true≢false (sym e))
not_true false e f = absurd (true≢false (sym f))

-- a row that is kept isn't that of the divisor
pub kept_other : (dim : ℕ) (r : List ℤ) → not (is_divisor_row dim r) ≡ true → r ≡ divisor_row dim → ⊥
kept_other dim r e f = not_true (is_divisor_row dim r) e (ap (is_divisor_row dim) f ∙ is_divisor dim)

-- ---- without that row
module _ (dim : ℕ) (P : List ℤ → Type 0) (p : P (divisor_row dim)) where
  all_by : (r : List ℤ) (rows : List (List ℤ)) (b : Bool) → is_divisor_row dim r ≡ b → All P (cond (not b) (r ∷ filter (λ x. not (is_divisor_row dim x)) rows) (filter (λ x. not (is_divisor_row dim x)) rows)) → (All P (filter (λ x. not (is_divisor_row dim x)) rows) → All P rows) → All P (r ∷ rows)
  all_by r rows true e h more = All-cons P r rows (subst P (sym (divisor_is dim r e)) p) (more h)
  all_by r rows false e h more = All-cons P r rows (All-head P r (filter (λ x. not (is_divisor_row dim x)) rows) h) (more (All-tail P r (filter (λ x. not (is_divisor_row dim x)) rows) h))

  -- what holds of it and of the kept rows holds of all
  pub all_from_kept : (rows : List (List ℤ)) → All P (filter (λ x. not (is_divisor_row dim x)) rows) → All P rows
  all_from_kept [] h = All-nil P
  all_from_kept (r ∷ rows) h = all_by r rows (is_divisor_row dim r) refl h (all_from_kept rows)
