-- Numbers, rows of them and their integers.
use Rattle.std.proofs.Common.{◌≡◌, ℕ, ◌+◌, ◌-◌, ◌*◌, ◌/◌, ◌^◌, ◌<◌, ◌≤◌, zero, suc, List, [], ◌∷◌, ◌++◌, length, map, take, drop, get_or, sym, ◌∙◌, ap, subst, arith, Bool, true, false, length-drop, append_assoc, min}
use Prim.Native.Nat.{◌∣◌}
use Rattle.std.specs.Prelude.{All, ℤ, pos, ◌*ℤ◌}
use Rattle.std.specs.List.{AllZip}
use Rattle.cdd_reading.specs.Scaling.{IsTimes, RowsAreScaled}
use Rattle.std.proofs.Math.IntN.{neg_ℤ}
use Rattle.std.specs.List.{flat_map}
use Rattle.std.specs.Simd.{first_chunks}
use Rattle.std.proofs.Math.Nat.{mul-div_cancel, mul-div_cancel', mul_assoc, mul_comm, mul_left_comm, dvd_of_mul-dvd-mul_left, dvd-mul_left, dvd-mul_right, mul-dvd-mul_left}
use Rattle.std.proofs.lemmas.List.{take_more, get_or_default, get_or-map, length-map, length-take-le, map-append}
use Rattle.std.proofs.lemmas.List.Elements.{All-nil, All-cons, All-head, All-tail, All-append, All-weaker, All-map, All-get_or}
use Rattle.std.proofs.lemmas.Nat.Gcd.{le_of_dvd, dvd_trans, dvd_antisymm}
use Rattle.row_core.specs.Range.{InRange, AllInRange}
use Rattle.row_core.proofs.Ring.{neg-mul, mul-neg}
use Rattle.cdd_reading.specs.Tokens.{is_negative, texts, Token}
use Rattle.cdd_reading.specs.Fractions.{gcd, lcm, lcm_of, numerator, denominator, lowest, signed, times, common, integers, all_integers, AllDivide}
use Rattle.cdd_reading.specs.Tables.{times_of}
use Rattle.cdd_reading.specs.declared.values.Numeral.{Numeral}
use Rattle.cdd_reading.proofs.ListLaws.{All-inside}
use Rattle.cdd_reading.proofs.Divisors.{coprime_divides, lowest_terms, lcm_of_is, lcm_is, Positive, least_once}

-- ---- one number
abbrev pub Divide : List ℕ → Type 0
Divide t = 0 < denominator t

pub lowest_positive : (t : List ℕ) → 0 < denominator t → 0 < lowest t
lowest_positive t h = (lowest_terms (numerator t) (denominator t) h).positive

-- m times n over d, where d in lowest terms is a factor of m
exact : (m n d g a b k : ℕ) → 0 < d → n ≡ g * a → d ≡ g * b → m ≡ b * k → m * n ≡ (a * k) * d
exact m n d g a b k some e f h =
    ap (λ (x : ℕ). x * n) h ∙ ap (λ (x : ℕ). (b * k) * x) e ∙ factors a b g k ∙ ap (λ (x : ℕ). (a * k) * x) (sym f)
  where
    factors : (a b g k : ℕ) → (b * k) * (g * a) ≡ (a * k) * (g * b)
    factors a b g k =
        mul_comm (b * k) (g * a) ∙ ap (λ (x : ℕ). x * (b * k)) (mul_comm g a) ∙ mul_assoc a g (b * k)
        ∙ ap (λ (x : ℕ). a * x) (mul_left_comm g b k ∙ ap (λ (x : ℕ). b * x) (mul_comm g k) ∙ mul_left_comm b k g ∙ ap (λ (x : ℕ). k * x) (mul_comm b g))
        ∙ sym (mul_assoc a k (g * b))

pub quotient_of : (m n d : ℕ) → 0 < d → d / gcd n d ∣ m → m * n / d ≡ n / gcd n d * (m / (d / gcd n d))
quotient_of m n d some h =
    let low = lowest_terms n d some in
    let g = gcd n d in
    let k = m / (d / g) in
    ap (λ (x : ℕ). x / d) (exact m n d g (n / g) (d / g) k some low.left low.right (sym (mul-div_cancel' (d / g) h)))
    ∙ mul-div_cancel (n / g * k) some

-- the denominator in lowest terms divides what makes the number an integer, and nothing else
lowest_divides : (m n d : ℕ) → 0 < d → d ∣ m * n → d / gcd n d ∣ m
lowest_divides m n d some h =
    let low = lowest_terms n d some in
    let g = gcd n d in
    let e : m * n ≡ g * (m * (n / g)) = ap (λ (k : ℕ). m * k) low.left ∙ mul_left_comm m g (n / g) in
    let p : g * (d / g) ∣ g * (m * (n / g)) = subst (λ (k : ℕ). k ∣ g * (m * (n / g))) low.right (subst (λ (k : ℕ). d ∣ k) e h) in
    coprime_divides (n / g) (d / g) m low.one (dvd_of_mul-dvd-mul_left {k = g} (d / g) low.divisor_positive p)

divides_times : (m n d : ℕ) → 0 < d → d / gcd n d ∣ m → d ∣ m * n
divides_times m n d some h =
    let low = lowest_terms n d some in
    let g = gcd n d in
    let k = m / (d / g) in
    subst (λ (x : ℕ). d ∣ x) (sym (exact m n d g (n / g) (d / g) k some low.left low.right (sym (mul-div_cancel' (d / g) h)))) (dvd-mul_left d (n / g * k))

-- ---- one number more
-- the least common multiple with a denominator in lowest terms, by the product with the numerator
pub lcm_product : (m n d : ℕ) → 0 < m → 0 < d → lcm (d / gcd n d) m ≡ m * (d / gcd (m * n) d)
lcm_product m n d some more =
    let low = lowest_terms (m * n) d more in
    let g = gcd (m * n) d in
    let k = d / g in
    let l = lcm (d / gcd n d) m in
    let p = lcm_is (d / gcd n d) m (lowest_terms n d more).positive some in
    let whole : (m * k) * n ≡ (m * n / g) * d = moved m k n ∙ ap (λ (x : ℕ). x * k) low.left ∙ turned g (m * n / g) k ∙ ap (λ (x : ℕ). (m * n / g) * x) (sym low.right) in
    let parts : l ≡ m * (l / m) = sym (mul-div_cancel' m p.right) in
    let within : d ∣ (l / m) * (m * n) = subst (λ (x : ℕ). d ∣ x) (ap (λ (x : ℕ). x * n) parts ∙ mul_assoc m (l / m) n ∙ mul_left_comm m (l / m) n) (divides_times l n d more p.left) in
    dvd_antisymm
    (p.least (m * k) (lowest_divides (m * k) n d more (subst (λ (x : ℕ). d ∣ x) (sym whole) (dvd-mul_left d (m * n / g)))) (dvd-mul_right m k))
    (subst (λ (x : ℕ). m * k ∣ x) (sym parts) (mul-dvd-mul_left k m (lowest_divides (l / m) (m * n) d more within)))
  where
    moved : (m k n : ℕ) → (m * k) * n ≡ (m * n) * k
    moved m k n = mul_assoc m k n ∙ ap (λ (x : ℕ). m * x) (mul_comm k n) ∙ sym (mul_assoc m n k)

    turned : (g q k : ℕ) → (g * q) * k ≡ q * (g * k)
    turned g q k = mul_assoc g q k ∙ mul_left_comm g q k

lcm_comm : (a b : ℕ) → 0 < a → 0 < b → lcm a b ≡ lcm b a
lcm_comm a b some more =
    let p = lcm_is a b some more in
    let q = lcm_is b a more some in
    dvd_antisymm (p.least (lcm b a) q.right q.left) (q.least (lcm a b) p.right p.left)

-- by the denominator in lowest terms
pub lcm_reduced : (m n d : ℕ) → 0 < m → 0 < d → lcm (d / gcd n d) m ≡ m * (d / gcd n d / gcd m (d / gcd n d))
unfolding lcm
lcm_reduced m n d some more = lcm_comm (d / gcd n d) m (lowest_terms n d more).positive some

-- the product under a cap
pub product_below : (x m : ℕ) → m ≡ min x (2 ^ 128 - 1) → m < 2 ^ 127 → m ≡ x
product_below x m e h = grind arith

-- ---- rows
pub all_positive : (row : List (List ℕ)) → AllDivide row → All Positive (map lowest row)
all_positive row h = All-map Positive lowest row (All-weaker Divide (λ t. Positive (lowest t)) lowest_positive row h)

pub front_all : {A : Type 0} (P : A → Type 0) (a b : List A) → All P (a ++ b) → All P a × All P b
front_all P [] b h = (All-nil P, h)
front_all P (x ∷ a) b h =
    let rest = front_all P a b (All-tail P x (a ++ b) h) in
    (All-cons P x a (All-head P x (a ++ b) h) rest.0, rest.1)

-- ---- lengths
pub chunk_step : (n k w : ℕ) → n ≡ suc k * w → (w ≤ n) × (n - w ≡ k * w)
chunk_step n k w e = (omega arith, omega arith)

pub one_more : (a b k w : ℕ) → a ≡ w → b ≡ k * w → a + b ≡ suc k * w
one_more a b k w e f = omega arith

chunk_length : (w k : ℕ) (ts : List (List ℕ)) → length ts ≡ k * w → length (flat_map integers (first_chunks w k ts)) ≡ k * w
chunk_length w zero ts e = omega arith
chunk_length w (suc k) ts e =
    let s = chunk_step (length ts) k w e in
    length-both (integers (take w ts)) (flat_map integers (first_chunks w k (drop w ts)))
    ∙ one_more (length (integers (take w ts))) (length (flat_map integers (first_chunks w k (drop w ts)))) k w
    (length-map (take w ts) (times (common (take w ts))) ∙ length-take-le w ts s.0)
    (chunk_length w k (drop w ts) (length-drop w ts ∙ s.1))
  where
    length-both : (u v : List ℤ) → length (u ++ v) ≡ length u + length v
    length-both [] v = omega arith
    length-both (z ∷ u) v = omega (arith, length-both u v)

pub length-all_integers : (w m : ℕ) (ts : List (List ℕ)) → 0 < w → length ts ≡ m * w → length (all_integers w ts) ≡ m * w
length-all_integers w m ts some e =
    ap (λ (k : ℕ). length (flat_map integers (first_chunks w k ts))) (ap (λ (n : ℕ). n / w) e ∙ mul-div_cancel m some)
    ∙ chunk_length w m ts e

-- ---- the loops
-- what holds of each token that is left holds of the first and of those behind it
pub others_left : (P : List ℕ → Type 0) (x : Token) (now rest : List Token) → now ≡ x ∷ rest → All P (texts now) → All P (texts rest)
others_left P x now rest e all = All-tail P x.1 (texts rest) (subst (λ (l : List Token). All P (texts l)) e all)

pub with_first : (P : List ℕ → Type 0) (x : Token) (now rest : List Token) → now ≡ x ∷ rest → P x.1 → All P (texts rest) → All P (texts now)
with_first P x now rest e here all = subst (λ (l : List Token). All P (texts l)) (sym e) (All-cons P x.1 (texts rest) here all)

-- the least common multiple of one number more
pub push_least : (ds : List ℕ) (d : ℕ) → All Positive ds → 0 < d → lcm_of (ds ++ d ∷ []) ≡ lcm d (lcm_of ds)
push_least ds d h some =
    let p = lcm_of_is ds h in
    let two = lcm_is d (lcm_of ds) some p.positive in
    least_once (ds ++ d ∷ []) (lcm_of (ds ++ d ∷ [])) (lcm d (lcm_of ds)) (lcm_of_is (ds ++ d ∷ []) (All-append Positive ds (d ∷ []) h (All-cons Positive d [] some (All-nil Positive)))) (record {
      positive = two.positive;
      multiple = All-append (λ e. e ∣ lcm d (lcm_of ds)) ds (d ∷ []) (All-weaker (λ e. e ∣ lcm_of ds) (λ e. e ∣ lcm d (lcm_of ds)) (λ e q. dvd_trans e q two.right) ds p.multiple) (All-cons (λ e. e ∣ lcm d (lcm_of ds)) d [] two.left (All-nil (λ e. e ∣ lcm d (lcm_of ds))));
      least = λ m all. two.least m (All-inside (λ e. e ∣ m) ds d [] all) (p.least m (front_all (λ e. e ∣ m) ds (d ∷ []) all).0);
    })

-- ---- the loops over a row
-- what is read past the end
abbrev pub blank : Numeral
blank = record { negative = false; numerator = 0; denominator = 0 }

pub own_default : (row : List Numeral) (i : ℕ) → i < length row → get_or row i blank ≡ get_or row i (get_or row i blank)
own_default row i less = get_or_default row i blank (get_or row i blank) less

times_at : (m : ℕ) (row : List Numeral) (i : ℕ) (f : Numeral) → i < length row → f ≡ get_or row i f → get_or (map (times_of m) row) i (times_of m f) ≡ times_of m f
times_at m row i f less e = get_or-map (times_of m) row i f (times_of m f) less ∙ ap (times_of m) (sym e)

pub times_out : (m : ℕ) (row : List Numeral) (i : ℕ) (f : Numeral) → i < length row → f ≡ get_or row i f → ¬ (InRange (times_of m f)) → ¬ (AllInRange (map (times_of m) row))
times_out m row i f less e out all =
    out (subst (λ (z : ℤ). InRange z) (times_at m row i f less e) (All-get_or InRange (map (times_of m) row) i (times_of m f) (omega (arith, less, length-map row (times_of m))) all))

times_push : (m : ℕ) (row : List Numeral) (i : ℕ) (f : Numeral) (z : ℤ) → i < length row → f ≡ get_or row i f → z ≡ times_of m f → map (times_of m) (take (i + 1) row) ≡ map (times_of m) (take i row) ++ z ∷ []
times_push m row i f z less e same =
    ap (map (times_of m)) (take_more row i f less ∙ ap (λ (g : Numeral). take i row ++ g ∷ []) (sym e))
    ∙ map-append (times_of m) (take i row) (f ∷ [])
    ∙ ap (λ (x : ℤ). map (times_of m) (take i row) ++ x ∷ []) (sym same)

pub times_next : (old now new : List ℤ) (m : ℕ) (row : List Numeral) (i : ℕ) (f : Numeral) (z : ℤ) → i < length row → f ≡ get_or row i f → z ≡ times_of m f → new ≡ now ++ z ∷ [] → now ≡ old ++ map (times_of m) (take i row) → new ≡ old ++ map (times_of m) (take (i + 1) row)
times_next old now new m row i f z less e same g k =
    g ∙ ap (λ (l : List ℤ). l ++ z ∷ []) k ∙ append_assoc old (map (times_of m) (take i row)) (z ∷ [])
    ∙ ap (λ (l : List ℤ). old ++ l) (sym (times_push m row i f z less e same))

pub times_in : (m : ℕ) (row : List Numeral) (i : ℕ) (f : Numeral) (z : ℤ) → i < length row → f ≡ get_or row i f → z ≡ times_of m f → InRange z → AllInRange (map (times_of m) (take i row)) → AllInRange (map (times_of m) (take (i + 1) row))
times_in m row i f z less e same here before =
    subst (λ (l : List ℤ). AllInRange l) (sym (times_push m row i f z less e same))
    (All-append InRange (map (times_of m) (take i row)) (z ∷ []) before (All-cons InRange z [] here (All-nil InRange)))

-- ---- the law of a row
below : (x d : ℕ) → neg_ℤ (pos x) *ℤ pos d ≡ neg_ℤ (pos (x * d))
below x d = neg-mul (pos x) (pos d)

behind : (m n : ℕ) → pos m *ℤ neg_ℤ (pos n) ≡ neg_ℤ (pos (m * n))
behind m n = mul-neg (pos m) (pos n)

signed_product : (b : Bool) (x d m n : ℕ) → x * d ≡ m * n → signed b x *ℤ pos d ≡ pos m *ℤ signed b n
signed_product true x d m n e = below x d ∙ ap (λ (k : ℕ). neg_ℤ (pos k)) e ∙ sym (behind m n)
signed_product false x d m n e = ap pos e

whole_times : (m : ℕ) (t : List ℕ) → 0 < denominator t → lowest t ∣ m → IsTimes m t (times m t)
whole_times m t some h =
    let n = numerator t in
    let d = denominator t in
    let low = lowest_terms n d some in
    let g = gcd n d in
    let k = m / (d / g) in
    let e : m * n ≡ (n / g * k) * d = exact m n d g (n / g) (d / g) k some low.left low.right (sym (mul-div_cancel' (d / g) h)) in
    let q : m * n / d * d ≡ m * n = ap (λ (x : ℕ). x / d * d) e ∙ ap (λ (x : ℕ). x * d) (mul-div_cancel (n / g * k) some) ∙ sym e in
    signed_product (is_negative t) (m * n / d) d m n q

all_times : (m : ℕ) (row : List (List ℕ)) → AllDivide row → All (λ d. d ∣ m) (map lowest row) → AllZip (IsTimes m) row (map (times m) row)
all_times m [] h k = tt
all_times m (t ∷ row) h k = (whole_times m t (All-head Divide t row h) (All-head (λ d. d ∣ m) (lowest t) (map lowest row) k), all_times m row (All-tail Divide t row h) (All-tail (λ d. d ∣ m) (lowest t) (map lowest row) k))

all_lowest : (m : ℕ) (row : List (List ℕ)) → AllDivide row → All (λ t. denominator t ∣ m * numerator t) row → All (λ d. d ∣ m) (map lowest row)
all_lowest m [] h k = All-nil (λ d. d ∣ m)
all_lowest m (t ∷ row) h k =
    All-cons (λ d. d ∣ m) (lowest t) (map lowest row) (lowest_divides m (numerator t) (denominator t) (All-head Divide t row h) (All-head (λ t. denominator t ∣ m * numerator t) t row k))
    (all_lowest m row (All-tail Divide t row h) (All-tail (λ t. denominator t ∣ m * numerator t) t row k))

pub rows_are_scaled : RowsAreScaled
rows_are_scaled row h =
    let p = lcm_of_is (map lowest row) (all_positive row h) in
    (p.positive, all_times (common row) row h p.multiple, λ n some all. le_of_dvd some (p.least n (all_lowest n row h all)))
