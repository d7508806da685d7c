-- The variables of a list are those of its text.
use Rattle.std.proofs.Common.{◌≡◌, ℕ, ◌+◌, ◌-◌, ◌*◌, ◌^◌, ◌≤◌, min, List, [], ◌∷◌, ◌++◌, Bool, true, false, zero, suc, refl, ap, sym, ◌∙◌, subst, arith, append_assoc, append-nil, inl, inr}
use Rattle.std.specs.Prelude.{if◌then◌else◌}
use Rattle.std.specs.List.{take_while}
use Rattle.std.proofs.lemmas.Bool.Decides.{nat_tests}
use Rattle.grammar.specs.Form.{Matches, Times}
use Rattle.grammar.specs.Grammar.{◌·◌, ◌⋯◌, symbol, blanks, digit, var, vars}
use Rattle.plain_text.specs.Digits.{is_digit, is_upper, number_after}
use Rattle.plain_text.proofs.Decimals.{digit_is, letter_is}
use Rattle.line_forms.specs.Words.{is_blank}
use Rattle.script_text.specs.Variables.{variable_of, variables_of, further_variables_by, variables_by}
use Rattle.line_forms.proofs.WordLemmas.{Each, Stops, take_while-append}
use Rattle.line_forms.proofs.RestLaws.{Each-times, Each-blanks}

digit_no_letter : (b : ℕ) → is_digit b ≡ true → is_upper b ≡ false
digit_no_letter b h = grind (arith, nat_tests)

blank_no_letter : (b : ℕ) → is_blank b ≡ true → is_upper b ≡ false
blank_no_letter b h = grind (arith, nat_tests)

blank_no_digit : (b : ℕ) → is_blank b ≡ true → is_digit b ≡ false
blank_no_digit b h = grind (arith, nat_tests)

comma_no_letter : (b : ℕ) → 44 ≤ b → b ≤ 44 → is_upper b ≡ false
comma_no_letter b h k = grind (arith, nat_tests)

comma_no_digit : (b : ℕ) → 44 ≤ b → b ≤ 44 → is_digit b ≡ false
comma_no_digit b h k = grind (arith, nat_tests)

-- a variable: its letter, and the digits behind it
record IsVariable (u : List ℕ) : Type 0 where
  letter : ℕ
  digits : List ℕ
  is : u ≡ letter ∷ digits
  upper : is_upper letter ≡ true
  each : Each is_digit digits

one_digit : (u : List ℕ) → Matches digit u → Each is_digit u
one_digit u (b, low, high, e) = subst (Each is_digit) (sym e) (digit_is b low high, tt)

variable_cut : (u : List ℕ) → Matches var u → IsVariable u
variable_cut u (inl (b, low, high, e)) = record { letter = b; digits = []; is = e; upper = letter_is b low high; each = tt }
variable_cut u (inr (a, r, e, (b, low, high, f), (d, more, g, (c, from, to, h), (n, times)))) = record {
  letter = b;
  digits = c ∷ more;
  is = e ∙ (ap (λ (x : List ℕ). x ++ r) f ∙ ap (λ (x : List ℕ). b ∷ x) (g ∙ ap (λ (x : List ℕ). x ++ more) h));
  upper = letter_is b low high;
  each = (digit_is c (omega arith) to, Each-times is_digit (Matches digit) one_digit n more times);
}

pass : (c : Bool) (v : ℕ) (vs : List ℕ) → c ≡ false → (if c then v ∷ vs else vs) ≡ vs
pass c v vs e = rw e

stand : (c : Bool) (v : ℕ) (vs : List ℕ) → c ≡ true → (if c then v ∷ vs else vs) ≡ v ∷ vs
stand c v vs e = rw e

-- no variable begins where no letter stands
skip : (p : ℕ → Bool) → ((b : ℕ) → p b ≡ true → is_upper b ≡ false) → (d t : List ℕ) → Each p d → variables_of (d ++ t) ≡ variables_of t
skip p other [] t h = refl
skip p other (b ∷ d) t h = pass (is_upper b) (variable_of (b ∷ (d ++ t))) (variables_of (d ++ t)) (other b h.0) ∙ skip p other d t h.1

same_digits : (ds t : List ℕ) → Each is_digit ds → Stops is_digit t → take_while is_digit (ds ++ t) ≡ take_while is_digit ds
same_digits ds t h s = take_while-append is_digit ds t h s ∙ sym (ap (take_while is_digit) (sym (append-nil ds)) ∙ take_while-append is_digit ds [] h tt)

letter_first : (letter : ℕ) (ds t : List ℕ) → is_upper letter ≡ true → Each is_digit ds → Stops is_digit t → variables_of (letter ∷ (ds ++ t)) ≡ variable_of (letter ∷ ds) ∷ variables_of t
letter_first letter ds t h each s =
    stand (is_upper letter) (variable_of (letter ∷ (ds ++ t))) (variables_of (ds ++ t)) h
    ∙ (ap (λ d. min (26 * number_after 0 d + (letter - 65)) (2 ^ 64 - 1) ∷ variables_of (ds ++ t)) (same_digits ds t each s)
    ∙ ap (λ (x : List ℕ). variable_of (letter ∷ ds) ∷ x) (skip is_digit digit_no_letter ds t each))

-- a variable and what no digit begins
variable_first : (u t : List ℕ) → Matches var u → Stops is_digit t → variables_of (u ++ t) ≡ variable_of u ∷ variables_of t
variable_first u t m s =
    let v : IsVariable u = variable_cut u m in
    subst (λ (x : List ℕ). variables_of (x ++ t) ≡ variable_of x ∷ variables_of t) (sym v.is) (letter_first v.letter v.digits t v.upper v.each s)

stops_behind : (b t : List ℕ) → Each is_blank b → Stops is_digit t → Stops is_digit (b ++ t)
stops_behind [] t h s = s
stops_behind (c ∷ b) t h s = blank_no_digit c h.0

laid_out : (w u v b x comma y c variable : List ℕ) (k : ℕ) → w ≡ u ++ v → u ≡ b ++ x → x ≡ comma ++ y → comma ≡ k ∷ [] → y ≡ c ++ variable → w ≡ b ++ (k ∷ (c ++ (variable ++ v)))
laid_out w u v b x comma y c variable k e f g h i =
    let piece : u ≡ b ++ (k ∷ (c ++ variable)) = f ∙ ap (λ (z : List ℕ). b ++ z) (g ∙ (ap (λ (z : List ℕ). z ++ y) h ∙ ap (λ (z : List ℕ). k ∷ z) i)) in
    e ∙ (ap (λ (z : List ℕ). z ++ v) piece ∙ (append_assoc b (k ∷ (c ++ variable)) v ∙ ap (λ (z : List ℕ). b ++ (k ∷ z)) (append_assoc c variable v)))

further_listed : (n : ℕ) (w : List ℕ) (m : Times (Matches (blanks · (symbol 44 ⋯ var))) n w) → Stops is_digit w × (variables_of w ≡ further_variables_by n w m)
further_listed zero w e = (subst (Stops is_digit) (sym e) tt, ap variables_of e)
further_listed (suc n) w (u, v, e, (b, x, f, between, (comma, y, g, (k, low, high, h), (c, variable, i, behind, is))), others) =
    let whole : w ≡ b ++ (k ∷ (c ++ (variable ++ v))) = laid_out w u v b x comma y c variable k e f g h i in
    let rest : Stops is_digit v × (variables_of v ≡ further_variables_by n v others) = further_listed n v others in
    let t : List ℕ = c ++ (variable ++ v) in (
      subst (Stops is_digit) (sym whole) (stops_behind b (k ∷ t) (Each-blanks b between) (comma_no_digit k low high)),
      ap variables_of whole ∙ (skip is_blank blank_no_letter b (k ∷ t) (Each-blanks b between) ∙ (pass (is_upper k) (variable_of (k ∷ t)) (variables_of t) (comma_no_letter k low high)
          ∙ (skip is_blank blank_no_letter c (variable ++ v) (Each-blanks c behind) ∙ (variable_first variable v is rest.0 ∙ ap (λ (z : List ℕ). variable_of variable ∷ z) rest.1)))),
    )

-- the variables of a list, however it matches, are those of its text
pub variables_listed : (w : List ℕ) (m : Matches vars w) → variables_of w ≡ variables_by w m
variables_listed w (u, v, e, is, (n, others)) =
    let rest : Stops is_digit v × (variables_of v ≡ further_variables_by n v others) = further_listed n v others in
    ap variables_of e ∙ (variable_first u v is rest.0 ∙ ap (λ (z : List ℕ). variable_of u ∷ z) rest.1)
