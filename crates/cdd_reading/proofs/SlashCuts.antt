-- A number is cut at its first `/`.
use Rattle.std.proofs.Common.{◌≡◌, ℕ, ◌+◌, ◌-◌, ◌<◌, ◌≤◌, List, [], ◌∷◌, length, take, drop, refl, sym, ◌∙◌, ap, arith, Bool, true, false, not, cond, codes}
use Rattle.std.specs.Prelude.{Some, None, position, nat_lt, ◌||◌}
use Rattle.std.specs.List.{list_any, position_or_len}
use Rattle.std.proofs.lemmas.Bool.{cond-false, cond-true}
use borrow.Author.Tests.{ltb-true, ltb-false}
use Rattle.cdd_reading.specs.Fractions.{is_slash, divisor}
use Rattle.plain_text.proofs.LineCuts.{some_cases, none_cases, take-behind}

none_step : (t : Bool) (n k : ℕ) (rest : Bool) → n + 1 ≤ cond (not t) (1 + k) 0 → (n ≤ k → rest ≡ false) → (t || rest) ≡ false
none_step true n k rest h ih = absurd (omega arith)
none_step false n k rest h ih = ih (omega arith)

no_slash : (w : List ℕ) → length w ≤ position_or_len is_slash w → list_any is_slash w ≡ false
no_slash [] h = refl
no_slash (b ∷ w) h = none_step (is_slash b) (length w) (position_or_len is_slash w) (list_any is_slash w) (omega (arith, h)) (no_slash w)

some_step : (t : Bool) (n k : ℕ) (rest : Bool) → cond (not t) (1 + k) 0 < n + 1 → (k < n → rest ≡ true) → (t || rest) ≡ true
some_step true n k rest h ih = refl
some_step false n k rest h ih = ih (omega arith)

some_slash : (w : List ℕ) → position_or_len is_slash w < length w → list_any is_slash w ≡ true
some_slash [] h = absurd (omega arith)
some_slash (b ∷ w) h = some_step (is_slash b) (length w) (position_or_len is_slash w) (list_any is_slash w) (omega (arith, h)) (some_slash w)

pub no_divisor : (t : List ℕ) → None ≡ position is_slash t → codes "1" ≡ divisor t
no_divisor t e =
    let k : length t ≤ position_or_len is_slash t = omega (arith, ltb-false, none_cases (nat_lt (position_or_len is_slash t) (length t)) (position_or_len is_slash t) e) in
    sym (cond-false (list_any is_slash t) (drop (position_or_len is_slash t + 1) t) (codes "1") (no_slash t k))

pub at_divisor : (t : List ℕ) (at : ℕ) → Some at ≡ position is_slash t → take (length t - (at + 1)) (drop (at + 1) t) ≡ divisor t
at_divisor t at e =
    let p = some_cases (nat_lt (position_or_len is_slash t) (length t)) (position_or_len is_slash t) at e in
    let k : position_or_len is_slash t < length t = ltb-true (position_or_len is_slash t) (length t) p.0 in
    take-behind t (at + 1) ∙ ap (λ (n : ℕ). drop (n + 1) t) p.1 ∙ sym (cond-true (list_any is_slash t) (drop (position_or_len is_slash t + 1) t) (codes "1") (some_slash t k))
