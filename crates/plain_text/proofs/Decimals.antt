-- Printed numbers are digits that spell them.
use Rattle.std.proofs.Common.{◌≡◌, ℕ, ◌+◌, ◌-◌, ◌*◌, ◌/◌, ◌%◌, ◌^◌, ◌<◌, ◌≤◌, Bool, true, List, [], ◌∷◌, ◌++◌, length, get_or, refl, sym, ◌∙◌, ap, subst, arith}
use Rattle.std.specs.Prelude.{decimal, not}
use Rattle.std.specs.List.{list_all}
use Rattle.std.proofs.Math.Dec.{eqb-suc-zero}
use Rattle.std.proofs.lemmas.Bool.{leb-true, le-leb, and_parts, and_from}
use Rattle.std.proofs.lemmas.Fmt.{decimal_by_steps_wide}
use Rattle.std.proofs.lemmas.List.Folds.{list_all-append}
use Rattle.plain_text.specs.Digits.{is_digit, is_nat, number, number_after, is_upper}

pub digit_is : (b : ℕ) → 48 ≤ b → b ≤ 57 → is_digit b ≡ true
digit_is b h k = and_from _ _ (le-leb 48 b h) (le-leb b 57 k)

pub letter_is : (b : ℕ) → 65 ≤ b → b ≤ 90 → is_upper b ≡ true
letter_is b h k = and_from _ _ (le-leb 65 b h) (le-leb b 90 k)

pub digit_low : (b : ℕ) → is_digit b ≡ true → 48 ≤ b
digit_low b e = leb-true 48 b (and_parts _ _ e).0

pub digit_high : (b : ℕ) → is_digit b ≡ true → b ≤ 57
digit_high b e = leb-true b 57 (and_parts _ _ e).1

pub all_digits : (w : List ℕ) → is_nat w ≡ true → list_all is_digit w ≡ true
all_digits w e = (and_parts _ _ e).1

-- the digits of a number; the first isn't 0 unless the number is
pub record Spells (n : ℕ) (w : List ℕ) : Type 0 where
  pub form : is_nat w ≡ true
  pub front : 0 < n → 49 ≤ get_or w 0 0
  pub value : number w ≡ n

one_digit : (n : ℕ) → n < 10 → Spells n ((48 + n) ∷ [])
one_digit n small = record { form = and_from (is_digit (48 + n)) true (digit_is (48 + n) (omega arith) (omega arith)) refl; front = λ positive. omega arith; value = omega arith }

number_after-push : (n : ℕ) (w : List ℕ) (d : ℕ) → number_after n (w ++ d ∷ []) ≡ 10 * number_after n w + (d - 48)
number_after-push n [] d = refl
number_after-push n (b ∷ w) d = number_after-push (10 * n + (b - 48)) w d

nat-push : (w : List ℕ) (d : ℕ) → list_all is_digit w ≡ true → is_digit d ≡ true → is_nat (w ++ d ∷ []) ≡ true
nat-push [] d e f = and_from (is_digit d) true f refl
nat-push (b ∷ w) d e f = and_from _ _ (ap not (eqb-suc-zero (length (w ++ d ∷ [])))) (list_all-append is_digit (b ∷ w) (d ∷ []) ∙ and_from _ _ e (and_from (is_digit d) true f refl))

front-push : (w : List ℕ) (d : ℕ) → is_nat w ≡ true → get_or (w ++ d ∷ []) 0 0 ≡ get_or w 0 0
front-push [] d e = cc
front-push (b ∷ w) d e = refl

last_digit : (n m d : ℕ) → 10 ≤ n → m ≡ n / 10 → d ≡ 48 + n % 10 → 10 * m + (d - 48) ≡ n
last_digit n m d large e f = omega arith

more_digits : (n : ℕ) (w : List ℕ) → 10 ≤ n → Spells (n / 10) w → Spells n (w ++ ((48 + n % 10) ∷ []))
more_digits n w large s = record {
  form = nat-push w (48 + n % 10) (all_digits w s.form) (digit_is (48 + n % 10) (omega arith) (omega arith));
  front = λ positive. subst (λ b. 49 ≤ b) (sym (front-push w (48 + n % 10) s.form)) (s.front (omega arith));
  value = number_after-push 0 w (48 + n % 10) ∙ last_digit n (number w) (48 + n % 10) large s.value refl;
}

-- the printed digits of a number of the range
pub decimal_spells : (n : ℕ) → n < 2 ^ 127 → Spells n (decimal n)
decimal_spells n small = decimal_by_steps_wide Spells one_digit more_digits n (omega arith)

pub decimal_nat : (n : ℕ) → n < 2 ^ 127 → is_nat (decimal n) ≡ true
decimal_nat n small = (decimal_spells n small).form

pub number-decimal : (n : ℕ) → n < 2 ^ 127 → number (decimal n) ≡ n
number-decimal n small = (decimal_spells n small).value
