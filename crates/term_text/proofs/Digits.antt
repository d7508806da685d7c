-- Digits, letters and numbers, byte by byte.
use Rattle.std.proofs.Common.{◌≡◌, ℕ, ◌+◌, ◌-◌, ◌*◌, ◌^◌, ◌≤◌, Bool, true, false, List, [], ◌∷◌, ◌++◌, refl, ◌∙◌, ap, zero, suc, arith, min}
use Rattle.grammar.specs.Form.{Matches, Times}
use Rattle.grammar.specs.Grammar.{digit, nat}
use Rattle.term_text.specs.declared.scan.State.{State}
use Rattle.term_text.specs.declared.scan.Part.{Part}
use Rattle.term_text.specs.declared.scan.Part.TheVariants.{Number, Letter}
use Rattle.term_text.specs.declared.scan.Place.{Place}
use Rattle.term_text.specs.Numbers.{number_after, size_of}
use Rattle.term_text.specs.Reading.{next_number, with_digit, with_letter, is_digit, is_upper, after, ends_term, ended, begun}
use Rattle.term_text.proofs.Passes.{Reads, reads_on}
use Rattle.plain_text.proofs.Decimals.{digit_is, letter_is}

-- the cap after a digit is the same with or without a cap before it
next-min : (most m d : ℕ) → next_number most (min m most) d ≡ min (10 * m + d) most
next-min most m d = grind arith

first-min : (b : ℕ) → b ≤ 57 → b - 48 ≡ min (10 * 0 + (b - 48)) (2 ^ 127)
first-min b high = grind arith

pub index-min : (m p : ℕ) → min (26 * min m (2 ^ 32) + p) (2 ^ 32) ≡ min (26 * m + p) (2 ^ 32)
index-min m p = grind arith

is_digit-upper : (b : ℕ) → 65 ≤ b → b ≤ 90 → is_digit b ≡ false
is_digit-upper b low high = grind arith

-- the term so far and more digits
abbrev pub with_digits : Part → List ℕ → Part
with_digits p [] = p
with_digits p (b ∷ w) = with_digits (with_digit p (b - 48)) w

number_with_digits : (m : ℕ) (w : List ℕ) → with_digits (Number (min m (2 ^ 127))) w ≡ Number (min (number_after m w) (2 ^ 127))
number_with_digits m [] = refl
number_with_digits m (b ∷ w) = rw (next-min (2 ^ 127) m (b - 48)) (number_with_digits (10 * m + (b - 48)) w)

pub letter_with_digits : (f p m : ℕ) (w : List ℕ) → with_digits (Letter f p (min m (2 ^ 32))) w ≡ Letter f p (min (number_after m w) (2 ^ 32))
letter_with_digits f p m [] = refl
letter_with_digits f p m (b ∷ w) = rw (next-min (2 ^ 32) m (b - 48)) (letter_with_digits f p (10 * m + (b - 48)) w)

-- neither a digit nor a capital ends a term
ends_term-digit : (b : ℕ) → 48 ≤ b → b ≤ 57 → ends_term b ≡ false
ends_term-digit b low high = grind arith

ends_term-upper : (b : ℕ) → 65 ≤ b → b ≤ 90 → ends_term b ≡ false
ends_term-upper b low high = grind arith

ended-no : (s : State) (b : ℕ) → ends_term b ≡ false → ended s b ≡ []
ended-no s b e = rw e refl

after-digit : (s : State) (b : ℕ) → is_digit b ≡ true → after s b ≡ record s { part = with_digit s.part (b - 48) }
after-digit s b e = rw e refl

after-upper : (s : State) (b : ℕ) → is_digit b ≡ false → is_upper b ≡ true → after s b ≡ record s { part = with_letter s.part (b - 65) }
after-upper s b e f = rw (e, f) refl

pub digit_reads : (s : State) (b : ℕ) → 48 ≤ b → b ≤ 57 → Reads s (b ∷ []) [] (record s { part = with_digit s.part (b - 48) })
digit_reads s b low high = record {
  terms = rw (ended-no s b (ends_term-digit b low high)) refl;
  state = after-digit s b (digit_is b low high);
}

pub upper_reads : (s : State) (b : ℕ) → 65 ≤ b → b ≤ 90 → Reads s (b ∷ []) [] (record s { part = with_letter s.part (b - 65) })
upper_reads s b low high = record {
  terms = rw (ended-no s b (ends_term-upper b low high)) refl;
  state = after-upper s b (is_digit-upper b low high) (letter_is b low high);
}

-- n digits
pub digits_read : (n : ℕ) (w : List ℕ) → Times (Matches digit) n w → (s : State) → Reads s w [] (record s { part = with_digits s.part w })
digits_read zero w e s = rw e (record { terms = refl; state = refl })
digits_read (suc n) w (u, v, e, (b, low, high, is), others) s =
    let one : u ++ v ≡ b ∷ v = ap (λ x. x ++ v) is in
    rw (e ∙ one) (reads_on s (record s { part = with_digit s.part (b - 48) }) (record s { part = with_digits s.part (b ∷ v) }) (b ∷ v) (b ∷ []) v [] refl (digit_reads s b low high) (digits_read n v others (record s { part = with_digit s.part (b - 48) })))

-- NAT, where no byte of the term was read
pub nat_reads : (w : List ℕ) → Matches nat w → (place : Place) (negative : Bool) → Reads (begun place negative) w [] (record { negative = negative; part = Number (size_of w); place = place })
nat_reads w (u, v, e, (b, low, high, is), (n, others)) place negative =
    let one : w ≡ (b ∷ []) ++ v = e ∙ ap (λ x. x ++ v) is in
    let capped : b - 48 ≡ min (10 * 0 + (b - 48)) (2 ^ 127) = first-min b high in
    let size : with_digits (Number (b - 48)) v ≡ Number (size_of (b ∷ v)) = ap (λ m. with_digits (Number m) v) capped ∙ number_with_digits (10 * 0 + (b - 48)) v in
    let more : Reads (record { negative = negative; part = Number (b - 48); place = place }) v [] (record { negative = negative; part = Number (size_of (b ∷ v)); place = place }) = rw (← size) (digits_read n v others (record { negative = negative; part = Number (b - 48); place = place })) in
    rw one (reads_on (begun place negative) (record { negative = negative; part = Number (b - 48); place = place }) (record { negative = negative; part = Number (size_of (b ∷ v)); place = place }) (b ∷ v) (b ∷ []) v [] refl (digit_reads (begun place negative) b low high) more)
