-- The numbers of files.
use Rattle.std.proofs.Common.{◌≡◌, ℕ, ◌+◌, ◌<◌, ◌==◌, ◌||◌, Bool, true, false, not, List, [], ◌∷◌, ◌++◌, length, cond, refl, sym, ◌∙◌, ap, subst, arith, codes, get_or}
use Rattle.std.specs.Prelude.{All}
use Rattle.std.specs.List.{list_all, list_any, position_or_len, before_first, after_first}
use Rattle.std.proofs.lemmas.Bool.{and_parts, and_from, or_from, cond-true}
use Rattle.std.proofs.lemmas.Bool.Decides.{Decides-eqb}
use Rattle.std.proofs.lemmas.List.Elements.{All-nil, All-cons}
use Rattle.std.proofs.lemmas.List.Sums.{split_at_first, passes_at_first}
use Rattle.plain_text.specs.Digits.{is_digit, is_nat, number}
use Rattle.plain_text.proofs.Decimals.{digit_low, digit_high}
use Rattle.cdd_reading.specs.Tokens.{has_some, unsigned, is_negative, is_integer}
use Rattle.cdd_reading.specs.Fractions.{is_slash, dividend, divisor, is_fraction, numerator, denominator, signed}
use Rattle.cdd_reading.proofs.SlashParts.{digits_no_slash, parts_whole}
use Rattle.cdd_reading.proofs.MarkLaws.{not_same}
use Rattle.soundness.specs.TextsNumbers.{IsDigit, IsNumber}
use Rattle.soundness.specs.FileLines.{IsInteger, whole, plus, minus, IsFraction, integer, fraction}

-- ---- digits
all_digits : (w : List ℕ) → list_all is_digit w ≡ true → All IsDigit w
all_digits [] e = All-nil IsDigit
all_digits (b ∷ w) e =
    let p = and_parts (is_digit b) (list_all is_digit w) e in
    All-cons IsDigit b w (digit_low b p.0, digit_high b p.0) (all_digits w p.1)

some_bytes : (w : List ℕ) → has_some w ≡ true → 0 < length w
some_bytes [] e = cc
some_bytes (b ∷ w) e = omega arith

pub digits_number : (w : List ℕ) → is_nat w ≡ true → IsNumber w (number w)
digits_number w e =
    let p = and_parts (has_some w) (list_all is_digit w) e in
    record { digits = all_digits w p.1; some = some_bytes w p.0; value = refl }

-- ---- integers
same_byte : (b c : ℕ) → (b == c) ≡ true → b ≡ c
same_byte b c e = (Decides-eqb b c).0 e

integer_by : (b : ℕ) (w : List ℕ) (p q : Bool) → (b == 43) ≡ p → (b == 45) ≡ q → is_nat (cond (p || q) w (b ∷ w)) ≡ true → IsInteger (b ∷ w) (signed q (number (cond (p || q) w (b ∷ w))))
integer_by b w true true e f h = subst (λ (c : ℕ). IsInteger (c ∷ w) (signed true (number w))) (sym (same_byte b 45 f)) (minus w (number w) (digits_number w h))
integer_by b w false true e f h = subst (λ (c : ℕ). IsInteger (c ∷ w) (signed true (number w))) (sym (same_byte b 45 f)) (minus w (number w) (digits_number w h))
integer_by b w true false e f h = subst (λ (c : ℕ). IsInteger (c ∷ w) (signed false (number w))) (sym (same_byte b 43 e)) (plus w (number w) (digits_number w h))
integer_by b w false false e f h = whole (b ∷ w) (number (b ∷ w)) (digits_number (b ∷ w) h)

pub integer_is : (t : List ℕ) → is_integer t ≡ true → IsInteger t (signed (is_negative t) (number (unsigned t)))
integer_is [] e = cc
integer_is (b ∷ w) e = integer_by b w (b == 43) (b == 45) refl refl e

-- ---- fractions
sign_no_slash : (b : ℕ) → (b == 43 || b == 45) ≡ true → is_slash b ≡ false
sign_no_slash b e = not_same b 47 (λ x. (let no : false ≡ true = subst (λ (n : ℕ). (n == 43 || n == 45) ≡ true) x e in cc))

integer_no_slash : (t : List ℕ) → is_integer t ≡ true → list_any is_slash t ≡ false
integer_no_slash [] e = refl
integer_no_slash (b ∷ w) e = by (b == 43 || b == 45) refl e
  where
    by : (s : Bool) → (b == 43 || b == 45) ≡ s → is_nat (cond s w (b ∷ w)) ≡ true → list_any is_slash (b ∷ w) ≡ false
    by true is e = or_from (is_slash b) (list_any is_slash w) (sign_no_slash b is) (digits_no_slash w (and_parts (has_some w) (list_all is_digit w) e).1)
    by false is e = digits_no_slash (b ∷ w) (and_parts (has_some (b ∷ w)) (list_all is_digit (b ∷ w)) e).1

slash_by : (b : ℕ) (t : List ℕ) (s : Bool) → (s || list_any is_slash t) ≡ true → (list_any is_slash t ≡ true → position_or_len is_slash t < length t) → cond (not s) (1 + position_or_len is_slash t) 0 < length (b ∷ t)
slash_by b t true e rest = omega arith
slash_by b t false e rest = omega (arith, rest e)

first_slash : (t : List ℕ) → list_any is_slash t ≡ true → position_or_len is_slash t < length t
first_slash [] e = cc
first_slash (b ∷ t) e = slash_by b t (is_slash b) e (first_slash t)

pub slash_cut : (t : List ℕ) → list_any is_slash t ≡ true → t ≡ dividend t ++ (47 ∷ divisor t)
slash_cut t e =
    let within = first_slash t e in
    let byte : get_or t (position_or_len is_slash t) 0 ≡ 47 = same_byte (get_or t (position_or_len is_slash t) 0) 47 (passes_at_first is_slash t 0 within) in
    split_at_first is_slash t 0 within
    ∙ ap (λ (b : ℕ). before_first is_slash t ++ (b ∷ after_first is_slash t)) byte
    ∙ ap (λ (u : List ℕ). before_first is_slash t ++ (47 ∷ u)) (sym (cond-true (list_any is_slash t) (after_first is_slash t) (codes "1") e))

same_sign : (u v : List ℕ) → is_integer u ≡ true → is_negative (u ++ v) ≡ is_negative u
same_sign [] v e = cc
same_sign (b ∷ u) v e = refl

fraction_by : (t : List ℕ) (s : Bool) → list_any is_slash t ≡ s → is_integer (dividend t) ≡ true → is_nat (divisor t) ≡ true → 0 < denominator t → IsFraction t (signed (is_negative t) (numerator t)) (denominator t)
fraction_by t false e h k some =
    let p = parts_whole t e in
    let i : IsInteger t (signed (is_negative t) (number (unsigned t))) = integer_is t (subst (λ (u : List ℕ). is_integer u ≡ true) p.above h) in
    let j : IsInteger t (signed (is_negative t) (numerator t)) = subst (λ (u : List ℕ). IsInteger t (signed (is_negative t) (number (unsigned u)))) (sym p.above) i in
    subst (λ (n : ℕ). IsFraction t (signed (is_negative t) (numerator t)) n) (sym (ap number p.below)) (integer t (signed (is_negative t) (numerator t)) j)
fraction_by t true e h k some =
    let cut = slash_cut t e in
    let sign : is_negative t ≡ is_negative (dividend t) = ap is_negative cut ∙ same_sign (dividend t) (47 ∷ divisor t) h in
    let f : IsFraction (dividend t ++ (47 ∷ divisor t)) (signed (is_negative (dividend t)) (numerator t)) (denominator t) =
    fraction (dividend t) (divisor t) (signed (is_negative (dividend t)) (numerator t)) (denominator t) (integer_is (dividend t) h) (digits_number (divisor t) k) some in
    subst (λ (s : Bool). IsFraction t (signed s (numerator t)) (denominator t)) (sym sign)
    (subst (λ (u : List ℕ). IsFraction u (signed (is_negative (dividend t)) (numerator t)) (denominator t)) (sym cut) f)

-- a word of the form of a fraction
pub fraction_is : (t : List ℕ) → is_fraction t ≡ true → 0 < denominator t → IsFraction t (signed (is_negative t) (numerator t)) (denominator t)
fraction_is t e some = let p = and_parts (is_integer (dividend t)) (is_nat (divisor t)) e in fraction_by t (list_any is_slash t) refl p.0 p.1 some

-- an integer has this form
pub integer_form : (t : List ℕ) → is_integer t ≡ true → is_fraction t ≡ true
integer_form t e =
    let p = parts_whole t (integer_no_slash t e) in
    and_from (is_integer (dividend t)) (is_nat (divisor t)) (ap is_integer p.above ∙ e) (ap is_nat p.below)
