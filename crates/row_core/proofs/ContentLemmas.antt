use Rattle.std.specs.Prelude.{◌≡◌, ℕ, ◌+◌, ◌*◌, ◌<◌, ◌≤◌, zero, suc, List, length, take, ℤ, pos, negsuc, ◌+ℤ◌, ◌*ℤ◌, neg_ℤ, All, unsigned_abs, int_div, int_rem, slice_index_or}
use Prim.Native.Nat.{◌∣◌}
use Rattle.std.specs.Int.{IsGcd}
use Rattle.std.proofs.Common.{arith, sym, ◌∙◌, ap, refl, subst, inl, inr}
use Rattle.std.proofs.Math.Nat.{eq-one_of_dvd-one, eq-zero_of_zero-dvd, one-dvd, mul-dvd-mul_right, dvd_of_mul-dvd-mul_right, mul_comm}
use Rattle.std.proofs.lemmas.Bool.{cases_lt}
use Rattle.std.proofs.lemmas.Int.{ints, quot-rem, unsigned_abs-mul}
use Rattle.std.proofs.lemmas.List.{ext_get_or, take-take, get_or-take, length-take-le}
use Rattle.std.proofs.lemmas.List.Elements.{All-more, All-weaker, All-take, All-get_or, All-from_get_or}
use Rattle.std.proofs.lemmas.Nat.Gcd.{IsGcd-from_zero, same_from_IsGcd, dvd_refl, dvd_trans, le_of_dvd, mod-eq-zero_of_dvd}
use Rattle.row_core.specs.Vectors.{cell, scale}
use Rattle.row_core.specs.Content.{DividesAll, IsPrimitive, IsMultipleOf}
use Rattle.row_core.proofs.CellLemmas.{cell-scale, length-scale}

-- the number divides the entry
abbrev pub Divides : ℕ → ℤ → Type 0
Divides d z = d ∣ unsigned_abs z

-- the greatest common divisor with one entry more divides one entry more
pub DividesAll-more : (g h : ℕ) (v : List ℤ) (j : ℕ) → j < length v → DividesAll g (take j v) →
    IsGcd g (unsigned_abs (cell v j)) h → DividesAll h (take (j + 1) v)
DividesAll-more g h v j within before is =
    All-more (Divides h) v j (pos 0) within
    (All-weaker (Divides g) (Divides h) (λ z p. dvd_trans h is.0 p) (take j v) before) is.1

-- it is the greatest
pub greatest_more : (d g h : ℕ) (v : List ℤ) (j : ℕ) → j < length v →
    (DividesAll d (take j v) → d ∣ g) → IsGcd g (unsigned_abs (cell v j)) h →
    DividesAll d (take (j + 1) v) → d ∣ h
greatest_more d g h v j within before is all =
    is.2 d
    (before (subst (DividesAll d) (take-take j (j + 1) v (omega arith))
    (All-take (Divides d) j (take (j + 1) v) all)))
    (subst (Divides d) (get_or-take (j + 1) v j (pos 0) (omega arith))
    (All-get_or (Divides d) (take (j + 1) v) j (pos 0)
    (omega (arith, length-take-le (j + 1) v (omega arith))) all))

-- a greatest common divisor is below what both numbers are below
pub gcd_below : (a b g n : ℕ) → IsGcd a b g → a < n → b < n → g < n
gcd_below a b g n is less below =
    elim (cases_lt 0 a) [
      | inl a_positive ↦ omega (arith, le_of_dvd a_positive is.0)
      | inr a_zero ↦ elim (cases_lt 0 b) [
        | inl b_positive ↦ omega (arith, le_of_dvd b_positive is.1)
        | inr b_zero ↦
            let same_a : a ≡ 0 = omega arith in
            let same_b : b ≡ 0 = omega arith in
            let g_is : g ≡ a = same_from_IsGcd a b g a is (IsGcd-from_zero a b same_b) in
            omega arith
      ]
    ]

-- 1 divides each entry
pub DividesAll-one : (v : List ℤ) → DividesAll 1 v
DividesAll-one v = λ k d h. one-dvd (unsigned_abs (slice_index_or v k d))

rem_is_zero : (x d : ℤ) → unsigned_abs d ∣ unsigned_abs x → int_rem x d ≡ pos 0
rem_is_zero (pos a) d h = ap pos (mod-eq-zero_of_dvd (unsigned_abs d) h)
rem_is_zero (negsuc a) d h = ap (λ (n : ℕ). neg_ℤ (pos n)) (mod-eq-zero_of_dvd (unsigned_abs d) h)

swapped : (q d r x : ℤ) → q *ℤ d +ℤ r ≡ x → r ≡ pos 0 → x ≡ d *ℤ q
swapped q d r x e z = omega (arith, ints, e, z)

-- a quotient by a divisor is exact
pub exact_quotient : (x d : ℤ) → unsigned_abs d ∣ unsigned_abs x → x ≡ d *ℤ int_div x d
exact_quotient x d h = swapped (int_div x d) d (int_rem x d) x (quot-rem x d) (rem_is_zero x d h)

-- 1 is the greatest common divisor of 1 and another number
pub IsGcd-one : (a b : ℕ) → a ≡ 1 → IsGcd a b 1
IsGcd-one a b e = (one-dvd a, one-dvd b, λ d h k. subst (λ (n : ℕ). d ∣ n) e h)

-- a row whose columns are multiples of another's is that multiple
pub scale_from_cells : (old new : List ℤ) (k : ℤ) → length old ≡ length new →
    ((j : ℕ) → j < length old → cell old j ≡ k *ℤ cell new j) → old ≡ scale k new
scale_from_cells old new k e cells =
    ext_get_or (pos 0) old (scale k new) (e ∙ sym (length-scale k new))
    (λ j h. cells j h ∙ sym (cell-scale k new j))

one_times : (a : ℤ) → a ≡ pos 1 *ℤ a
one_times a = omega (arith, ints)

-- a quotient by 1
pub quotient_by_one : (x d : ℤ) → d ≡ pos 1 → x ≡ d *ℤ x
quotient_by_one x d e = subst (λ (k : ℤ). x ≡ k *ℤ x) (sym e) (one_times x)

-- a row is a multiple of itself
pub IsMultipleOf-refl : (v : List ℤ) → IsMultipleOf v v
IsMultipleOf-refl v = record {
  times = 1;
  positive = omega arith;
  same =
      scale_from_cells v v (pos 1) refl (λ j h. one_times (cell v j));
}

abs_zero : (z : ℤ) → unsigned_abs z ≡ 0 → z ≡ pos 0
abs_zero (pos n) e = ap pos e
abs_zero (negsuc n) e = absurd (omega arith)

-- where 0 divides each entry, all are 0
pub zero_divides : (v : List ℤ) → DividesAll 0 v → All (λ z. z ≡ pos 0) v
zero_divides v all = λ k d h. abs_zero (slice_index_or v k d) (eq-zero_of_zero-dvd (all k d h))

-- a row whose greatest common divisor is 0 or 1 is primitive
pub primitive_as_it_is : (v : List ℤ) (g : ℕ) → g < 2 → DividesAll g v →
    ((d : ℕ) → DividesAll d v → d ∣ g) → IsPrimitive v
primitive_as_it_is v zero h all greatest = inl (zero_divides v all)
primitive_as_it_is v (suc g) h all greatest =
    let one : suc g ≡ 1 = omega arith in
    inr (λ d divides. eq-one_of_dvd-one (subst (λ (n : ℕ). d ∣ n) one (greatest d divides)))

-- 0 divides each entry where all are 0
DividesAll-zero : (v : List ℤ) → All (λ z. z ≡ pos 0) v → DividesAll 0 v
DividesAll-zero v zeros =
    λ k d h. subst (λ (z : ℤ). 0 ∣ unsigned_abs z) (sym (zeros k d h)) (dvd_refl 0)

-- the greatest common divisor of a primitive row is 0 or 1
pub content-primitive : (v : List ℤ) (g : ℕ) → DividesAll g v →
    ((d : ℕ) → DividesAll d v → d ∣ g) → IsPrimitive v → g ≤ 1
content-primitive v g all greatest (inl zeros) =
    omega (arith, eq-zero_of_zero-dvd (greatest 0 (DividesAll-zero v zeros)))
content-primitive v g all greatest (inr one) = omega (arith, one g all)

scaled_divides : (d g : ℕ) (z : ℤ) → d ∣ unsigned_abs z → d * g ∣ unsigned_abs (pos g *ℤ z)
scaled_divides d g z h =
    subst (λ (n : ℕ). d * g ∣ n) (mul_comm (unsigned_abs z) g ∙ sym (unsigned_abs-mul (pos g) z))
    (mul-dvd-mul_right d h g)

one_mul_g : (g : ℕ) → g ≡ 1 * g
one_mul_g g = omega arith

-- a row divided by its greatest common divisor is primitive
pub primitive_quotient : (old new : List ℤ) (g : ℕ) → 0 < g → old ≡ scale (pos g) new →
    ((d : ℕ) → DividesAll d old → d ∣ g) → IsPrimitive new
primitive_quotient old new g positive same greatest =
    inr (λ d divides.
    let scaled : DividesAll (d * g) old = subst (DividesAll (d * g)) (sym same)
    (All-from_get_or (Divides (d * g)) (scale (pos g) new) (pos 0)
    (λ j h. subst (Divides (d * g)) (sym (cell-scale (pos g) new j))
    (scaled_divides d g (cell new j)
    (All-get_or (Divides d) new j (pos 0) (omega (arith, length-scale (pos g) new))
    divides)))) in
    eq-one_of_dvd-one (dvd_of_mul-dvd-mul_right d positive
    (subst (λ (n : ℕ). d * g ∣ n) (one_mul_g g) (greatest (d * g) scaled))))
