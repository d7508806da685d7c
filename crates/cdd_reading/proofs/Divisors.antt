-- Greatest common divisors, least common multiples and lowest terms.
use Rattle.std.proofs.Common.{◌≡◌, ℕ, ◌+◌, ◌*◌, ◌/◌, ◌%◌, ◌<◌, ◌≤◌, ◌==◌, zero, suc, List, [], ◌∷◌, Bool, true, false, cond, refl, sym, ◌∙◌, ap, subst, arith, inl, inr, ◌⊎◌, eq-eqb}
use Prim.Native.Nat.{◌∣◌}
use Rattle.std.specs.Prelude.{All}
use Rattle.std.specs.Int.{IsGcd}
use Rattle.std.proofs.Math.Nat.{dvd-mul_left, dvd-mul_right, mul-dvd-mul_left, dvd_of_mul-dvd-mul_left, eq-zero_of_zero-dvd, one-dvd, mul-div_cancel', mul_assoc, mul_comm}
use Rattle.std.proofs.lemmas.Bool.{cases_lt, and_from, and_parts}
use Rattle.std.proofs.lemmas.Bool.Decides.{Decides-eqb}
use Rattle.std.proofs.lemmas.List.Elements.{All-nil, All-cons, All-head, All-tail, All-weaker}
use Rattle.std.proofs.lemmas.Nat.Gcd.{dvd_refl, same_from_IsGcd, dvd_trans, dvd_antisymm, le_of_dvd, dvd_of_mod-eq-zero, mod-eq-zero_of_dvd}
use Rattle.row_core.proofs.OnePrimitive.{ScaledGcd, scaled_gcd_by}
use Rattle.cdd_reading.specs.Fractions.{greatest, divides_both, gcd, lcm, lcm_of}
use Rattle.cdd_reading.proofs.BodyLaws.{zero_or}

-- ---- the greatest number that passes a test
record IsGreatest (test : ℕ → Bool) (n g : ℕ) : Type 0 where
  within : g ≤ n
  passes : 0 < g → test g ≡ true
  above : (d : ℕ) → d ≤ n → test d ≡ true → d ≤ g

last_fails : (test : ℕ → Bool) (n d : ℕ) → test (suc n) ≡ false → d ≤ suc n → test d ≡ true → (n < d) ⊎ (d ≤ n) → d ≤ n
last_fails test n d e h p (inl more) = let same : suc n ≡ d = omega arith in let no : true ≡ false = sym p ∙ ap test (sym same) ∙ e in cc
last_fails test n d e h p (inr k) = k

greatest_step : (test : ℕ → Bool) (n : ℕ) (b : Bool) (g : ℕ) → test (suc n) ≡ b → IsGreatest test n g → IsGreatest test (suc n) (cond b (suc n) g)
greatest_step test n true g e is = record { within = omega arith; passes = λ h. e; above = λ d few p. few }
greatest_step test n false g e is = record { within = omega (arith, is.within); passes = is.passes; above = λ d few p. is.above d (last_fails test n d e few p (cases_lt n d)) p }

greatest_is : (test : ℕ → Bool) (n : ℕ) → IsGreatest test n (greatest test n)
unfolding greatest
greatest_is test zero = record { within = omega arith; passes = λ h. absurd (omega arith); above = λ d few p. few }
greatest_is test (suc n) = greatest_step test n (test (suc n)) (greatest test n) refl (greatest_is test n)

-- ---- the greatest common divisor
scaled_gcd : (a b : ℕ) → ScaledGcd a b
scaled_gcd a b = scaled_gcd_by (a + b) a b (omega arith)

-- a divisor of a positive number is positive
divisor_cases : (d b : ℕ) → 0 < b → d ∣ b → (d ≡ 0) ⊎ (0 < d) → 0 < d
divisor_cases d b some h (inl e) = absurd (omega (arith, eq-zero_of_zero-dvd (subst (λ (n : ℕ). n ∣ b) e h), some))
divisor_cases d b some h (inr p) = p

pub divisor_positive : (d b : ℕ) → 0 < b → d ∣ b → 0 < d
divisor_positive d b some h = divisor_cases d b some h (zero_or d)

test_passes : (a b d : ℕ) → d ∣ a → d ∣ b → divides_both a b d ≡ true
test_passes a b d p q = and_from (a % d == 0) (b % d == 0) (eq-eqb (a % d) 0 (mod-eq-zero_of_dvd d p)) (eq-eqb (b % d) 0 (mod-eq-zero_of_dvd d q))

test_divides : (a b d : ℕ) → divides_both a b d ≡ true → (d ∣ a) × (d ∣ b)
test_divides a b d e = (
  dvd_of_mod-eq-zero d ((Decides-eqb (a % d) 0).0 (and_parts (a % d == 0) (b % d == 0) e).0),
  dvd_of_mod-eq-zero d ((Decides-eqb (b % d) 0).0 (and_parts (a % d == 0) (b % d == 0) e).1),
)

gcd_equal : (a b g : ℕ) (s : ScaledGcd a b) → 0 < b → IsGreatest (divides_both a b) b g → g ≡ s.divisor
gcd_equal a b g s some is =
    let d : ℕ = s.divisor in
    let d_some : 0 < d = divisor_positive d b some s.is.1 in
    let low : d ≤ g = is.above d (le_of_dvd some s.is.1) (test_passes a b d s.is.0 s.is.1) in
    let divides = test_divides a b g (is.passes (omega arith)) in
    let high : g ≤ d = le_of_dvd d_some (s.is.2 g divides.0 divides.1) in
    omega arith

pub gcd_is : (a b : ℕ) → 0 < b → IsGcd a b (gcd a b)
unfolding gcd
gcd_is a b some =
    let s = scaled_gcd a b in
    subst (λ (g : ℕ). IsGcd a b g) (sym (gcd_equal a b (greatest (divides_both a b) b) s some (greatest_is (divides_both a b) b))) s.is

pub gcd_same : (a b g : ℕ) → 0 < b → IsGcd a b g → g ≡ gcd a b
gcd_same a b g some is = same_from_IsGcd a b g (gcd a b) is (gcd_is a b some)

pub gcd_positive : (a b : ℕ) → 0 < b → 0 < gcd a b
gcd_positive a b some = divisor_positive (gcd a b) b some (gcd_is a b some).1

-- what divides a product and has no divisor in common with one factor divides the other
pub coprime_divides : (a b n : ℕ) → IsGcd a b 1 → b ∣ n * a → b ∣ n
coprime_divides a b n one h =
    let s = scaled_gcd a b in
    let unit : s.divisor ≡ 1 = same_from_IsGcd a b s.divisor 1 s.is one in
    let times_one : n * s.divisor ≡ n = ap (λ (k : ℕ). n * k) unit ∙ n_one n in
    subst (λ (k : ℕ). b ∣ k) times_one ((s.scaled n).2 b h (dvd-mul_left b n))
  where
    n_one : (n : ℕ) → n * 1 ≡ n
    n_one n = omega arith

-- ---- lowest terms
-- a and b divided by their greatest common divisor
pub record AreLowest (a b : ℕ) : Type 0 where
  pub divisor_positive : 0 < gcd a b
  pub left : a ≡ gcd a b * (a / gcd a b)
  pub right : b ≡ gcd a b * (b / gcd a b)
  pub positive : 0 < b / gcd a b
  pub one : IsGcd (a / gcd a b) (b / gcd a b) 1

positive_factor : (b g c : ℕ) → 0 < b → b ≡ g * c → 0 < c
positive_factor b g zero some e = absurd (omega arith)
positive_factor b g (suc c) some e = omega arith

factor_one : (g d : ℕ) → 0 < g → g ≡ g * d → d ≡ 1
factor_one g zero some e = absurd (omega arith)
factor_one g (suc zero) some e = refl
factor_one g (suc (suc d)) some e = absurd (omega arith)

one_left : (a b g : ℕ) (s : ScaledGcd a b) → 0 < g → IsGcd (g * a) (g * b) g → IsGcd a b 1
one_left a b g s some is =
    let e : g ≡ g * s.divisor = same_from_IsGcd (g * a) (g * b) g (g * s.divisor) is (s.scaled g) in
    subst (λ (d : ℕ). IsGcd a b d) (factor_one g s.divisor some e) s.is

pub lowest_terms : (a b : ℕ) → 0 < b → AreLowest a b
lowest_terms a b some =
    let g = gcd a b in
    let is = gcd_is a b some in
    let p = gcd_positive a b some in
    let l : g * (a / g) ≡ a = mul-div_cancel' g is.0 in
    let r : g * (b / g) ≡ b = mul-div_cancel' g is.1 in
    record {
      divisor_positive = p;
      left = sym l;
      right = sym r;
      positive = positive_factor b g (b / g) some (sym r);
      one = one_left (a / g) (b / g) g (scaled_gcd (a / g) (b / g)) p (subst (λ (n : ℕ). IsGcd n (g * (b / g)) g) (sym l) (subst (λ (n : ℕ). IsGcd a n g) (sym r) is));
    }

-- ---- least common multiples
-- l is the least common multiple of the numbers
pub record IsLeast (ds : List ℕ) (l : ℕ) : Type 0 where
  pub positive : 0 < l
  pub multiple : All (λ d. d ∣ l) ds
  pub least : (m : ℕ) → All (λ d. d ∣ m) ds → l ∣ m

pub least_once : (ds : List ℕ) (k l : ℕ) → IsLeast ds k → IsLeast ds l → k ≡ l
least_once ds k l p q = dvd_antisymm (p.least l q.multiple) (q.least k p.multiple)

product_positive : (a b : ℕ) → 0 < a → 0 < b → 0 < a * b
product_positive (suc a) b some more = omega arith
product_positive zero b some more = absurd (omega arith)

swapped : (a b c d g : ℕ) → a ≡ g * c → b ≡ g * d → b * c ≡ a * d
swapped a b c d g e f = ap (λ (n : ℕ). n * c) f ∙ mul_assoc g d c ∙ ap (λ (n : ℕ). g * n) (mul_comm d c) ∙ sym (mul_assoc g c d) ∙ ap (λ (n : ℕ). n * d) (sym e)

-- of two
pub record IsLeastOfTwo (a b l : ℕ) : Type 0 where
  pub positive : 0 < l
  pub left : a ∣ l
  pub right : b ∣ l
  pub least : (m : ℕ) → a ∣ m → b ∣ m → l ∣ m

least_two : (a b c d g m k : ℕ) → 0 < g → a ≡ g * c → b ≡ g * d → IsGcd c d 1 → m ≡ a * k → b ∣ m → a * d ∣ m
least_two a b c d g m k some e f one h q =
    let whole : m ≡ g * (c * k) = h ∙ ap (λ (n : ℕ). n * k) e ∙ mul_assoc g c k in
    let p : g * d ∣ g * (c * k) = subst (λ (n : ℕ). n ∣ g * (c * k)) f (subst (λ (n : ℕ). b ∣ n) whole q) in
    let r : d ∣ k * c = subst (λ (n : ℕ). d ∣ n) (mul_comm c k) (dvd_of_mul-dvd-mul_left {k = g} d some p) in
    subst (λ (n : ℕ). a * d ∣ n) (sym h) (mul-dvd-mul_left d a (coprime_divides c d k one r))

pub lcm_is : (a b : ℕ) → 0 < a → 0 < b → IsLeastOfTwo a b (lcm a b)
unfolding lcm
lcm_is a b some more =
    let low = lowest_terms a b more in
    let g = gcd a b in
    record {
      positive = product_positive a (b / g) some low.positive;
      left = dvd-mul_right a (b / g);
      right = subst (λ (n : ℕ). b ∣ n) (swapped a b (a / g) (b / g) g low.left low.right) (dvd-mul_right b (a / g));
      least = λ m p q. least_two a b (a / g) (b / g) g m (m / a) low.divisor_positive low.left low.right low.one (sym (mul-div_cancel' a p)) q;
    }

abbrev pub Positive : ℕ → Type 0
Positive d = 0 < d

abbrev Divides : ℕ → ℕ → Type 0
Divides m d = d ∣ m

least_nil : IsLeast [] 1
least_nil = record { positive = omega arith; multiple = All-nil (Divides 1); least = λ m all. one-dvd m }

-- one number more
least_cons : (d : ℕ) (ds : List ℕ) (k l : ℕ) → IsLeast ds k → IsLeastOfTwo d k l → IsLeast (d ∷ ds) l
least_cons d ds k l p q = record {
  positive = q.positive;
  multiple = All-cons (Divides l) d ds q.left (All-weaker (Divides k) (Divides l) (λ e h. dvd_trans e h q.right) ds p.multiple);
  least = λ m all. q.least m (All-head (Divides m) d ds all) (p.least m (All-tail (Divides m) d ds all));
}

pub lcm_of_is : (ds : List ℕ) → All Positive ds → IsLeast ds (lcm_of ds)
lcm_of_is [] h = least_nil
lcm_of_is (d ∷ ds) h =
    let p = lcm_of_is ds (All-tail Positive d ds h) in
    least_cons d ds (lcm_of ds) (lcm d (lcm_of ds)) p (lcm_is d (lcm_of ds) (All-head Positive d ds h) p.positive)

-- ---- one
pub one_is_gcd : (n : ℕ) → IsGcd n 1 1
one_is_gcd n = (one-dvd n, dvd_refl 1, λ d p q. q)

pub once : (n : ℕ) → 1 * n / 1 ≡ n
once n = omega arith
