-- Words without a slash.
use Rattle.std.proofs.Common.{◌≡◌, ℕ, ◌+◌, ◌==◌, true, false, List, [], ◌∷◌, length, take, drop, refl, ◌∙◌, ap, arith, suc}
use Rattle.std.specs.Prelude.{codes, ◌&&◌}
use Rattle.std.specs.List.{list_all, list_any, position_or_len}
use Rattle.std.proofs.lemmas.Bool.{cond-false, and_parts, or_from, or_parts}
use Rattle.std.proofs.Math.Seq.{take-length}
use Rattle.plain_text.specs.Digits.{is_digit}
use Rattle.plain_text.proofs.Decimals.{digit_low}
use Rattle.cdd_reading.specs.Fractions.{is_slash, dividend, divisor}
use Rattle.cdd_reading.proofs.MarkLaws.{not_same}

digit_no_slash : (b : ℕ) → is_digit b ≡ true → is_slash b ≡ false
digit_no_slash b e = let low = digit_low b e in not_same b 47 (λ x. omega (arith, low, x))

pub digits_no_slash : (w : List ℕ) → list_all is_digit w ≡ true → list_any is_slash w ≡ false
digits_no_slash [] e = refl
digits_no_slash (b ∷ w) e = or_from (is_slash b) (list_any is_slash w) (digit_no_slash b (and_parts (is_digit b) (list_all is_digit w) e).0) (digits_no_slash w (and_parts (is_digit b) (list_all is_digit w) e).1)

pub whole_length : (w : List ℕ) → list_any is_slash w ≡ false → position_or_len is_slash w ≡ length w
whole_length [] e = refl
whole_length (b ∷ w) e = rw (or_parts (is_slash b) (list_any is_slash w) e).0 (one_more (position_or_len is_slash w) (length w) (whole_length w (or_parts (is_slash b) (list_any is_slash w) e).1))
  where
    one_more : (m n : ℕ) → m ≡ n → 1 + m ≡ suc n
    one_more m n e = omega arith

-- the parts of a word
pub record HasParts (w u v : List ℕ) : Type 0 where
  pub above : dividend w ≡ u
  pub below : divisor w ≡ v

pub parts_whole : (w : List ℕ) → list_any is_slash w ≡ false → HasParts w w (codes "1")
parts_whole w e = record {
  above = ap (λ (n : ℕ). take n w) (whole_length w e) ∙ take-length w;
  below = cond-false (list_any is_slash w) (drop (position_or_len is_slash w + 1) w) (codes "1") e;
}
