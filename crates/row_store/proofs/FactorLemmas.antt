-- The factors of two vectors in their combination that is 0 on a row.
use Rattle.std.specs.Prelude.{◌≡◌, ◌≢◌, ℕ, zero, suc, ◌*◌, ◌<◌, List, length, ℤ, pos, neg_ℤ, ◌+ℤ◌, ◌-ℤ◌, ◌*ℤ◌, ◌<ℤ◌, unsigned_abs}
use Rattle.std.specs.Int.{IsGcd}
use Rattle.std.proofs.Common.{sym, ap, ◌∙◌, subst, arith}
use Rattle.std.proofs.Math.Nat.{eq-zero_of_zero-dvd}
use Rattle.std.proofs.lemmas.Int.{unsigned_abs-mul, ints}
use Rattle.row_core.specs.Vectors.{cell, add, scale}
use Rattle.row_core.specs.Content.{IsMultipleOf, IsPrimitive}
use Rattle.row_core.specs.Signs.{sign}
use Rattle.row_core.specs.Combinations.{IsCombined, AreFactors}
use Rattle.row_core.proofs.Ring.{ring, mul_comm, mul_assoc, mul-zero, neg-mul, mul-positive, zero_of_mul, square_positive}
use Rattle.row_core.proofs.CellLemmas.{cell-scale, cell-add}
use Rattle.row_core.proofs.Magnitudes.{magnitude-positive, magnitude-negative, magnitude-neg, sign_times}

pub gcd_positive : (a b g : ℕ) → IsGcd a b g → 0 < a → 0 < g
gcd_positive a b zero d above = absurd (let e : a ≡ 0 = eq-zero_of_zero-dvd d.0 in omega (arith, e))
gcd_positive a b (suc g) d above = omega arith

pub parts_cancel : (g l r : ℤ) → l *ℤ (g *ℤ r) +ℤ neg_ℤ r *ℤ (g *ℤ l) ≡ pos 0
parts_cancel g l r = simp ring (omega (arith, ints))

pub parts_cancel_below : (g l r : ℤ) → neg_ℤ l *ℤ (g *ℤ r) +ℤ r *ℤ (g *ℤ l) ≡ pos 0
parts_cancel_below g l r = simp ring (omega (arith, ints))

pub magnitude_of_part : (g r v : ℤ) → pos 0 <ℤ g → v ≡ g *ℤ r → unsigned_abs r * unsigned_abs g ≡ unsigned_abs v
magnitude_of_part g r v above e = omega (arith, ap unsigned_abs e, unsigned_abs-mul g r)

pub factors_above : (u v g l r : ℤ) → pos 0 <ℤ g → IsGcd (unsigned_abs u) (unsigned_abs v) (unsigned_abs g) → u ≡ g *ℤ l → v ≡ g *ℤ r → pos 0 <ℤ u → AreFactors u v l (neg_ℤ r)
factors_above u v g l r above greatest is_u is_v positive = record {
  divisor = unsigned_abs g;
  greatest = greatest;
  second_is = ap (λ x. l *ℤ x) (magnitude-positive g above) ∙ mul_comm l g ∙ sym is_u ∙ sym (magnitude-positive u positive);
  first_is = ap (λ n. n * unsigned_abs g) (magnitude-neg r) ∙ magnitude_of_part g r v above is_v;
  zero = ap (λ x. l *ℤ x +ℤ neg_ℤ r *ℤ u) is_v ∙ ap (λ x. l *ℤ (g *ℤ r) +ℤ neg_ℤ r *ℤ x) is_u ∙ parts_cancel g l r;
}

pub below_part : (g l u : ℤ) → u ≡ g *ℤ l → neg_ℤ l *ℤ g ≡ neg_ℤ u
below_part g l u e = ap (λ x. x) (let f : neg_ℤ l *ℤ g ≡ neg_ℤ (g *ℤ l) = simp ring (omega (arith, ints)) in f ∙ ap neg_ℤ (sym e))

pub factors_below : (u v g l r : ℤ) → pos 0 <ℤ g → IsGcd (unsigned_abs u) (unsigned_abs v) (unsigned_abs g) → u ≡ g *ℤ l → v ≡ g *ℤ r → u <ℤ pos 0 → AreFactors u v (neg_ℤ l) r
factors_below u v g l r above greatest is_u is_v negative = record {
  divisor = unsigned_abs g;
  greatest = greatest;
  second_is = ap (λ x. neg_ℤ l *ℤ x) (magnitude-positive g above) ∙ below_part g l u is_u ∙ sym (magnitude-negative u negative);
  first_is = magnitude_of_part g r v above is_v;
  zero = ap (λ x. neg_ℤ l *ℤ x +ℤ r *ℤ u) is_v ∙ ap (λ x. neg_ℤ l *ℤ (g *ℤ r) +ℤ r *ℤ x) is_u ∙ parts_cancel_below g l r;
}

pub factors_again : (u v : ℤ) (l r l' r' : ℤ) → l' ≡ l → r' ≡ r → AreFactors u v l r → AreFactors u v l' r'
factors_again u v l r l' r' e f h = let P : ℤ → Type 0 = λ x. AreFactors u v x r' in subst P (sym e) (let Q : ℤ → Type 0 = λ y. AreFactors u v l y in subst Q (sym f) h)

cancel : (u x : ℤ) → u ≢ pos 0 → u *ℤ x ≡ pos 0 → x ≡ pos 0
cancel u x ne e = zero_of_mul (u *ℤ u) x (square_positive u ne) (mul_assoc u u x ∙ ap (λ y. u *ℤ y) e ∙ mul-zero u)

regroup : (g s v f u : ℤ) → g *ℤ (s *ℤ v +ℤ f *ℤ u) ≡ (s *ℤ g) *ℤ v +ℤ u *ℤ (g *ℤ f)
regroup g s v f u = simp ring (omega (arith, ints))

take_out : (s u v x : ℤ) → (s *ℤ u) *ℤ v +ℤ u *ℤ x ≡ u *ℤ (s *ℤ v +ℤ x)
take_out s u v x = simp ring (omega (arith, ints))

-- the factor of the first vector, times the divisor
first_times : (u v second first : ℤ) (f : AreFactors u v second first) → u ≢ pos 0 → pos f.divisor *ℤ first ≡ neg_ℤ (sign u *ℤ v)
first_times u v second first f ne =
    let g : ℤ = pos f.divisor in
    let whole : (second *ℤ g) *ℤ v +ℤ u *ℤ (g *ℤ first) ≡ pos 0 = sym (regroup g second v first u) ∙ ap (λ x. g *ℤ x) f.zero ∙ mul-zero g in
    let sized : (sign u *ℤ u) *ℤ v +ℤ u *ℤ (g *ℤ first) ≡ pos 0 = ap (λ x. x *ℤ v +ℤ u *ℤ (g *ℤ first)) (sign_times u ∙ sym f.second_is) ∙ whole in
    let rest : sign u *ℤ v +ℤ g *ℤ first ≡ pos 0 = cancel u (sign u *ℤ v +ℤ g *ℤ first) ne (sym (take_out (sign u) u v (g *ℤ first)) ∙ sized) in
    omega (arith, ints, rest)

spread : (g m x s r f l : ℤ) → m *ℤ x ≡ s *ℤ r +ℤ f *ℤ l → (g *ℤ m) *ℤ x ≡ (s *ℤ g) *ℤ r +ℤ (g *ℤ f) *ℤ l
spread g m x s r f l e =
    let left : (g *ℤ m) *ℤ x ≡ g *ℤ (m *ℤ x) = mul_assoc g m x in
    let right : g *ℤ (s *ℤ r +ℤ f *ℤ l) ≡ (s *ℤ g) *ℤ r +ℤ (g *ℤ f) *ℤ l = simp ring (omega (arith, ints)) in
    left ∙ ap (λ y. g *ℤ y) e ∙ right

with_minus : (a r c l : ℤ) → a *ℤ r +ℤ neg_ℤ c *ℤ l ≡ a *ℤ r -ℤ c *ℤ l
with_minus a r c l = let e : neg_ℤ c *ℤ l ≡ neg_ℤ (c *ℤ l) = neg-mul c l in omega (arith, ints, e)

-- the combination that was written, made primitive
pub combined_from_written : (u v second first : ℤ) (left right dst new : List ℤ) → AreFactors u v second first → u ≢ pos 0 → 0 < unsigned_abs u → dst ≡ add (scale second right) (scale first left) → length dst ≡ length right → length new ≡ length dst → IsMultipleOf dst new → IsPrimitive new → IsCombined u v left right new
combined_from_written u v second first left right dst new f ne above is wide same multiple primitive = record {
  times = pos f.divisor *ℤ pos multiple.times;
  positive = mul-positive (pos f.divisor) (pos multiple.times) (omega (arith, ints, gcd_positive (unsigned_abs u) (unsigned_abs v) f.divisor f.greatest above)) (omega (arith, ints, multiple.positive));
  same = λ j.
      let at : pos multiple.times *ℤ cell new j ≡ second *ℤ cell right j +ℤ first *ℤ cell left j =
      sym (cell-scale (pos multiple.times) new j) ∙ ap (λ w. cell w j) (sym multiple.same ∙ is) ∙ cell-add (scale second right) (scale first left) j ∙
      ap (λ x. x +ℤ cell (scale first left) j) (cell-scale second right j) ∙ ap (λ x. second *ℤ cell right j +ℤ x) (cell-scale first left j) in
      spread (pos f.divisor) (pos multiple.times) (cell new j) second (cell right j) first (cell left j) at ∙
      ap (λ x. x *ℤ cell right j +ℤ (pos f.divisor *ℤ first) *ℤ cell left j) f.second_is ∙
      ap (λ x. pos (unsigned_abs u) *ℤ cell right j +ℤ x *ℤ cell left j) (first_times u v second first f ne) ∙
      with_minus (pos (unsigned_abs u)) (cell right j) (sign u *ℤ v) (cell left j);
  wide = same ∙ wide;
  primitive = primitive;
}

pub combined_along : (u v u' v' : ℤ) (left right new : List ℤ) → u' ≡ u → v' ≡ v → IsCombined u v left right new → IsCombined u' v' left right new
combined_along u v u' v' left right new e f h = let P : ℤ → Type 0 = λ x. IsCombined x v' left right new in subst P (sym e) (let Q : ℤ → Type 0 = λ y. IsCombined u y left right new in subst Q (sym f) h)
