-- Numbers, variables and names.
use Rattle.std.proofs.Common.{◌≡◌, ℕ, ◌+◌, ◌-◌, ◌*◌, ◌^◌, ◌≤◌, ◌<◌, min, List, [], ◌∷◌, ◌++◌, zero, suc, length, refl, ap, sym, ◌∙◌, subst, arith, inl, inr, true, append-nil}
use Rattle.std.specs.Prelude.{All}
use Rattle.std.proofs.lemmas.List.{length-append}
use Rattle.std.proofs.lemmas.List.Elements.{All-nil, All-cons, All-append}
use Rattle.std.specs.List.{take_while}
use Rattle.std.proofs.lemmas.Bool.Decides.{nat_tests}
use Rattle.grammar.specs.Form.{byte, Matches, Times}
use Rattle.grammar.specs.Grammar.{◌∣◌, symbol, digit, nat, var, name_of}
use Rattle.plain_text.specs.Digits.{is_digit, number, number_after}
use Rattle.term_text.specs.Numbers.{size_of, index_of}
use Rattle.script_text.specs.Variables.{variable_of}
use Rattle.line_forms.proofs.WordLemmas.{Each, take_while-append}
use Rattle.line_forms.proofs.RestLaws.{Each-times}
use Rattle.soundness.specs.TextsLines.{kept}
use Rattle.soundness.specs.TextsNumbers.{IsDigit, IsNumber, IsVariable, letter, numbered, IsInName, IsName}
use Rattle.soundness.proofs.TextTokens.{byte_is, all_times}

digit_is : (w : List ℕ) → Matches digit w → All IsDigit w
digit_is w (b, low, high, e) = subst (All IsDigit) (sym e) (All-cons IsDigit b [] (low, high) (All-nil IsDigit))

digit_length : (w : List ℕ) → Matches digit w → length w ≡ 1
digit_length w (b, low, high, e) = ap length e

-- the digits of a number
pub nat_is : (w : List ℕ) → Matches nat w → IsNumber w (number w)
nat_is w (u, v, e, one, (n, times)) = record {
  digits = subst (All IsDigit) (sym e) (All-append IsDigit u v (digit_is u one) (all_times IsDigit (Matches digit) digit_is n v times));
  some = subst (λ (x : List ℕ). 0 < length x) (sym e) (omega (arith, length-append u v, digit_length u one));
  value = refl;
}

-- a number below the cap
pub small_size : (w : List ℕ) (n : ℕ) → n ≡ size_of w → n < 2 ^ 127 → n ≡ number w
small_size w n e h = omega arith

-- a variable, and its number without a cap
pub record HasVariable (w : List ℕ) : Type 0 where
  pub variable : ℕ
  pub is : IsVariable w variable
  pub index : index_of w ≡ min variable (2 ^ 32)
  pub number_kept : variable_of w ≡ kept variable

a_digit : (b : ℕ) → 48 ≤ b → b ≤ 57 → is_digit b ≡ true
a_digit b h k = grind (arith, nat_tests)

each_digit : (w : List ℕ) → Matches digit w → Each is_digit w
each_digit w (b, low, high, e) = subst (Each is_digit) (sym e) (a_digit b low high, tt)

-- the digits at the front of digits alone
taken : (w : List ℕ) → Each is_digit w → take_while is_digit w ≡ w
taken w h = sym (ap (take_while is_digit) (append-nil w)) ∙ take_while-append is_digit w [] h tt

byte_append : (u v : List ℕ) (b : ℕ) → u ≡ b ∷ [] → u ++ v ≡ b ∷ v
byte_append u v b e = ap (λ (x : List ℕ). x ++ v) e

nothing_before : (b : ℕ) → 26 * 0 + (b - 65) ≡ b - 65
nothing_before b = omega arith

pub var_is : (w : List ℕ) → Matches var w → HasVariable w
var_is w (inl (b, low, high, e)) = record {
  variable = b - 65;
  is = subst (λ (x : List ℕ). IsVariable x (b - 65)) (sym e) (letter b (low, high));
  index = ap index_of e ∙ ap (λ (n : ℕ). min n (2 ^ 32)) (nothing_before b);
  number_kept = ap variable_of e ∙ ap (λ (n : ℕ). min n (2 ^ 64 - 1)) (nothing_before b);
}
var_is w (inr (u, v, e, (b, low, high, f), (x, y, g, (d, first, last, h), (n, times)))) =
    let digits : v ≡ d ∷ y = g ∙ byte_append x y d h in
    let whole : w ≡ b ∷ d ∷ y = e ∙ (byte_append u v b f ∙ ap (λ (t : List ℕ). b ∷ t) digits) in
    let others : All IsDigit y = all_times IsDigit (Matches digit) digit_is n y times in
    record {
      variable = 26 * number (d ∷ y) + (b - 65);
      is = subst (λ (t : List ℕ). IsVariable t (26 * number (d ∷ y) + (b - 65))) (sym whole)
          (numbered b d y (number (d ∷ y)) (low, high) (omega arith)
          (record { digits = All-cons IsDigit d y (omega arith, last) others; some = omega arith; value = refl }));
      index = ap index_of whole;
      number_kept = ap variable_of whole ∙ ap (λ (t : List ℕ). min (26 * number_after 0 t + (b - 65)) (2 ^ 64 - 1))
          (taken (d ∷ y) (a_digit d (omega arith) last, Each-times is_digit (Matches digit) each_digit n y times));
    }

in_name_is : (u : List ℕ) → Matches (byte 97 122 ∣ digit ∣ symbol 95) u → All IsInName u × (length u ≡ 1)
in_name_is u (inl (b, low, high, e)) = (subst (All IsInName) (sym e) (All-cons IsInName b [] (inl (low, high)) (All-nil IsInName)), ap length e)
in_name_is u (inr (inl (b, low, high, e))) = (subst (All IsInName) (sym e) (All-cons IsInName b [] (inr (inl (low, high))) (All-nil IsInName)), ap length e)
in_name_is u (inr (inr (b, low, high, e))) = (subst (All IsInName) (sym e) (All-cons IsInName b [] (inr (inr (byte_is b 95 low high))) (All-nil IsInName)), ap length e)

-- so many pieces of one byte
times_length : (Q : List ℕ → Type 0) → ((u : List ℕ) → Q u → length u ≡ 1) → (n : ℕ) (w : List ℕ) → Times Q n w → length w ≡ n
times_length Q one zero w e = ap length e
times_length Q one (suc n) w (u, v, e, h, more) = ap length e ∙ (length-append u v ∙ omega (arith, one u h, times_length Q one n v more))

pub name_is : (most : ℕ) (w : List ℕ) → Matches (name_of most) w → IsName (suc most) w
name_is most w (u, v, e, (b, low, high, f), (n, le, times)) =
    subst (IsName (suc most)) (sym (e ∙ byte_append u v b f)) (
      (low, high),
      all_times IsInName (Matches (byte 97 122 ∣ digit ∣ symbol 95)) (λ t m. (in_name_is t m).0) n v times,
      omega (arith, times_length (Matches (byte 97 122 ∣ digit ∣ symbol 95)) (λ t m. (in_name_is t m).1) n v times),
    )
