-- Numbers without a divisor: their rows are the integers that they spell.
use Rattle.std.proofs.Common.{◌≡◌, ℕ, ◌*◌, ◌/◌, ◌^◌, ◌<◌, ◌==◌, zero, suc, List, [], ◌∷◌, ◌++◌, length, map, take, drop, cond, refl, sym, ◌∙◌, ap, subst, append_assoc, arith, Bool, true, false, length-drop}
use Rattle.std.specs.Prelude.{All, ℤ, pos, unsigned_abs, ◌||◌}
use Rattle.std.proofs.Math.IntN.{neg_ℤ}
use Rattle.std.specs.List.{list_all, list_any, flat_map}
use Rattle.plain_text.specs.Digits.{is_digit, is_nat, number}
use Rattle.std.specs.Simd.{first_chunks}
use Rattle.std.proofs.lemmas.List.{take-append-drop, map-append}
use Rattle.std.proofs.lemmas.List.Elements.{All-nil, All-cons, All-head, All-tail, All-take, All-drop, All-weaker}
use Rattle.std.proofs.lemmas.Bool.{and_parts, or_from}
use Rattle.row_core.specs.Range.{InRange, AllInRange}
use Rattle.cdd_reading.specs.Tokens.{has_some, is_integer, is_negative, unsigned, integer, texts, Token}
use Rattle.cdd_reading.specs.Bodies.{is_number}
use Rattle.cdd_reading.specs.Fractions.{is_slash, gcd, lcm, numerator, denominator, lowest, signed, times, common, integers, all_integers, AllDivide, IsSmall, FitRange}
use Rattle.cdd_reading.specs.Tables.{IsTooLarge, IsIntegerErr}
use Rattle.cdd_reading.specs.declared.format.NumberType.TheVariants.{Integer}
use Rattle.cdd_reading.specs.declared.values.IntegerErr.{IntegerErr}
use Rattle.cdd_reading.specs.declared.values.IntegerErr.TheVariants as value
use Rattle.cdd_reading.proofs.Divisors.{gcd_same, one_is_gcd, once}
use Rattle.cdd_reading.proofs.ListLaws.{All-inside}
use Rattle.cdd_reading.proofs.ValueLaws.{chunk_step}
use Rattle.cdd_reading.proofs.MarkLaws.{not_same}
use Rattle.cdd_reading.proofs.SlashParts.{digits_no_slash, parts_whole}

-- ---- one number
sign_no_slash : (b : ℕ) → (b == 43 || b == 45) ≡ true → is_slash b ≡ false
sign_no_slash b e = not_same b 47 (λ x. (let no : false ≡ true = subst (λ (n : ℕ). (n == 43 || n == 45) ≡ true) x e in cc))

integer_no_slash : (t : List ℕ) → is_integer t ≡ true → list_any is_slash t ≡ false
integer_no_slash [] e = refl
integer_no_slash (b ∷ w) e = by (b == 43 || b == 45) refl e
  where
    by : (s : Bool) → (b == 43 || b == 45) ≡ s → is_nat (cond s w (b ∷ w)) ≡ true → list_any is_slash (b ∷ w) ≡ false
    by true is e = or_from (is_slash b) (list_any is_slash w) (sign_no_slash b is) (digits_no_slash w (and_parts (has_some w) (list_all is_digit w) e).1)
    by false is e = digits_no_slash (b ∷ w) (and_parts (has_some (b ∷ w)) (list_all is_digit (b ∷ w)) e).1

record IsWhole (t : List ℕ) : Type 0 where
  above : numerator t ≡ number (unsigned t)
  below : denominator t ≡ 1

is_whole : (t : List ℕ) → is_integer t ≡ true → IsWhole t
is_whole t e =
    let p = parts_whole t (integer_no_slash t e) in
    record { above = ap (λ (w : List ℕ). number (unsigned w)) p.above; below = ap (λ (w : List ℕ). number w) p.below }

over_itself : 1 / 1 ≡ 1
over_itself = omega arith

lowest_one : (t : List ℕ) → IsWhole t → lowest t ≡ 1
lowest_one t is =
    ap (λ (n : ℕ). n / gcd (numerator t) n) is.below
    ∙ ap (λ (n : ℕ). 1 / n) (sym (gcd_same (numerator t) 1 1 (omega arith) (one_is_gcd (numerator t))))
    ∙ over_itself

signed_cases : (b : Bool) (n : ℕ) → signed b n ≡ cond b (neg_ℤ (pos n)) (pos n)
signed_cases true n = refl
signed_cases false n = refl

times_one : (t : List ℕ) → IsWhole t → times 1 t ≡ integer t
times_one t is =
    ap (λ (d : ℕ). signed (is_negative t) (1 * numerator t / d)) is.below
    ∙ ap (λ (n : ℕ). signed (is_negative t) n) (once (numerator t) ∙ is.above)
    ∙ signed_cases (is_negative t) (number (unsigned t))

size_of_integer : (b : Bool) (n : ℕ) → unsigned_abs (cond b (neg_ℤ (pos n)) (pos n)) ≡ n
size_of_integer true zero = refl
size_of_integer true (suc n) = refl
size_of_integer false n = refl

small_whole : (t : List ℕ) → IsWhole t → InRange (integer t) → IsSmall t
small_whole t is r = record {
  numerator = subst (λ (n : ℕ). n < 2 ^ 127) (size_of_integer (is_negative t) (number (unsigned t)) ∙ sym is.above) r.size;
  denominator = subst (λ (n : ℕ). n < 2 ^ 127) (sym is.below) (omega arith);
}

-- ---- rows
lcm_ones : lcm 1 1 ≡ 1
unfolding lcm
lcm_ones = ap (λ (g : ℕ). 1 * (1 / g)) (sym (gcd_same 1 1 1 (omega arith) (one_is_gcd 1))) ∙ one_time
  where
    one_time : 1 * (1 / 1) ≡ 1
    one_time = omega arith

common_one : (row : List (List ℕ)) → All IsWhole row → common row ≡ 1
common_one [] h = refl
common_one (t ∷ row) h =
    ap (λ (d : ℕ). lcm d (common row)) (lowest_one t (All-head IsWhole t row h))
    ∙ ap (λ (l : ℕ). lcm 1 l) (common_one row (All-tail IsWhole t row h))
    ∙ lcm_ones

times_row : (row : List (List ℕ)) → All IsWhole row → map (times 1) row ≡ map integer row
times_row [] h = refl
times_row (t ∷ row) h =
    ap (λ (z : ℤ). z ∷ map (times 1) row) (times_one t (All-head IsWhole t row h))
    ∙ ap (λ (l : List ℤ). integer t ∷ l) (times_row row (All-tail IsWhole t row h))

row_whole : (row : List (List ℕ)) → All IsWhole row → integers row ≡ map integer row
row_whole row h = ap (λ (n : ℕ). map (times n) row) (common_one row h) ∙ times_row row h

chunks_whole : (w k : ℕ) (ts : List (List ℕ)) → All IsWhole ts → length ts ≡ k * w → flat_map integers (first_chunks w k ts) ≡ map integer ts
chunks_whole w zero [] h e = refl
chunks_whole w zero (t ∷ ts) h e = absurd (omega (arith, e))
chunks_whole w (suc k) ts h e =
    ap (λ (l : List ℤ). l ++ flat_map integers (first_chunks w k (drop w ts))) (row_whole (take w ts) (All-take IsWhole w ts h))
    ∙ ap (λ (l : List ℤ). map integer (take w ts) ++ l) (chunks_whole w k (drop w ts) (All-drop IsWhole w ts h) (length-drop w ts ∙ (chunk_step (length ts) k w e).1))
    ∙ sym (map-append integer (take w ts) (drop w ts))
    ∙ ap (λ (l : List (List ℕ)). map integer l) (take-append-drop w ts)

abbrev IsLow : List (List ℕ) → Type 0
IsLow row = common row < 2 ^ 127

row_low : (row : List (List ℕ)) → All IsWhole row → IsLow row
row_low row h = subst (λ (n : ℕ). n < 2 ^ 127) (sym (common_one row h)) (omega arith)

chunks_low : (w k : ℕ) (ts : List (List ℕ)) → All IsWhole ts → All IsLow (first_chunks w k ts)
chunks_low w zero ts h = All-nil IsLow
chunks_low w (suc k) ts h = All-cons IsLow (take w ts) (first_chunks w k (drop w ts)) (row_low (take w ts) (All-take IsWhole w ts h)) (chunks_low w k (drop w ts) (All-drop IsWhole w ts h))

-- ---- all numbers
all_whole : (ts : List (List ℕ)) → list_all (is_number Integer) ts ≡ true → All IsWhole ts
all_whole [] e = All-nil IsWhole
all_whole (t ∷ ts) e =
    All-cons IsWhole t ts (is_whole t (and_parts (is_integer t) (list_all (is_number Integer) ts) e).0) (all_whole ts (and_parts (is_integer t) (list_all (is_number Integer) ts) e).1)

all_small : (ts : List (List ℕ)) → All IsWhole ts → AllInRange (map integer ts) → All IsSmall ts
all_small [] h r = All-nil IsSmall
all_small (t ∷ ts) h r =
    All-cons IsSmall t ts
    (small_whole t (All-head IsWhole t ts h) (All-head InRange (integer t) (map integer ts) r))
    (all_small ts (All-tail IsWhole t ts h) (All-tail InRange (integer t) (map integer ts) r))

whole_divides : (t : List ℕ) → IsWhole t → 0 < denominator t
whole_divides t is = subst (λ (n : ℕ). 0 < n) (sym is.below) (omega arith)

all_divide : (ts : List (List ℕ)) → All IsWhole ts → AllDivide ts
all_divide ts h = All-weaker IsWhole (λ t. 0 < denominator t) whole_divides ts h

all_same : (w : ℕ) (ts : List (List ℕ)) → All IsWhole ts → length ts ≡ length ts / w * w → all_integers w ts ≡ map integer ts
all_same w ts h e = chunks_whole w (length ts / w) ts h e

-- ---- the answers
pub integers_read : (w : ℕ) (ts : List (List ℕ)) (v : List ℤ) → list_all (is_number Integer) ts ≡ true → length ts ≡ length ts / w * w → v ≡ map integer ts → AllInRange v → (v ≡ all_integers w ts) × AllDivide ts × FitRange w ts
integers_read w ts v forms rows e range =
    let h = all_whole ts forms in
    let same = all_same w ts h rows in
    let r : AllInRange (map integer ts) = subst (λ (l : List ℤ). AllInRange l) e range in (
      e ∙ sym same,
      all_divide ts h,
      record { each = all_small ts h r; common = chunks_low w (length ts / w) ts h; integers = subst (λ (l : List ℤ). AllInRange l) (sym same) r },
    )

pub integers_refused : (w : ℕ) (ts : List (List ℕ)) (cause : IntegerErr) → list_all (is_number Integer) ts ≡ true → length ts ≡ length ts / w * w → IsTooLarge (AllInRange (map integer ts)) cause → IsIntegerErr w ts cause
integers_refused w ts value.ZeroDivisor forms rows h = absurd h
integers_refused w ts value.TooLarge forms rows h =
    let whole = all_whole ts forms in
    (all_divide ts whole, λ fit. h (subst (λ (l : List ℤ). AllInRange l) (all_same w ts whole rows) fit.integers))
integers_refused w ts value.Memory forms rows h = tt

-- one number is read
pub integer_kept : (done whole next : List ℤ) (v : ℤ) (x : Token) (now rest : List Token) → done ++ map integer (texts now) ≡ whole → now ≡ x ∷ rest → v ≡ integer x.1 → next ≡ done ++ v ∷ [] → next ++ map integer (texts rest) ≡ whole
integer_kept done whole next v x now rest e f g h =
    (ap (λ (l : List ℤ). l ++ map integer (texts rest)) h ∙ append_assoc done (v ∷ []) (map integer (texts rest)))
    ∙ (ap (λ (z : ℤ). done ++ z ∷ map integer (texts rest)) g ∙ (ap (λ (l : List Token). done ++ map integer (texts l)) (sym f) ∙ e))

-- one number is out of the range
pub integer_too_large : (done whole : List ℤ) (x : Token) (now rest : List Token) → done ++ map integer (texts now) ≡ whole → now ≡ x ∷ rest → ¬ (InRange (integer x.1)) → ¬ (AllInRange whole)
integer_too_large done whole x now rest e f out h =
    out (All-inside InRange done (integer x.1) (map integer (texts rest)) (subst (λ (l : List ℤ). All InRange l) (sym e ∙ ap (λ (l : List Token). done ++ map integer (texts l)) f) h))
