use Rattle.std.proofs.Common.{◌≡◌, ℕ, ◌+◌, ◌<◌, ◌∷◌, ◌==◌, Bool, true, false, if◌then◌else◌, List, ◌++◌, length, drop, refl, sym, ◌∙◌, ap, append_assoc, zero, suc, arith}
use Rattle.std.specs.Prelude.{ℤ, pos, negsuc, unsigned_abs}
use Rattle.std.proofs.lemmas.List.{drop_more}
use Rattle.std.proofs.lemmas.Bool.Decides.{nat_tests}
use Rattle.std.proofs.lemmas.Grind.{common_steps}
use Rattle.std.specs.Int.{w128}
use mir.Val.{of_z, to_z}
use Rattle.row_core.specs.Vectors.{cell}
use Rattle.expr_text.specs.Printed.{Monomial, product_text, leading_sign, joining_sign, monomials_from}
use Rattle.expr_text.proofs.PrintSums.{rest_text}
use Rattle.expr_text.proofs.print_sums.push_expression.Goals.{then-coefficient-ne0+in_ok-push_monomial, else-coefficient-ne0}
use Rattle.expr_text.proofs.print_sums.push_expression.Goals as goal

-- the variables to come from variable j on, whose coefficient is 0 or not
from_here : (is_first b : Bool) (zs : List ℤ) (j : ℕ) → j < length zs → (unsigned_abs (cell zs j) == 0) ≡ b → rest_text is_first (monomials_from j (drop j zs)) ≡ rest_text is_first (if b then monomials_from (j + 1) (drop (j + 1) zs) else record { variable = j; coefficient = cell zs j } ∷ monomials_from (j + 1) (drop (j + 1) zs))
from_here is_first b zs j below e = ap (λ (x : List ℤ). rest_text is_first (monomials_from j x)) (drop_more zs j (pos 0) below) ∙ ap (λ (b : Bool). rest_text is_first (if b then monomials_from (j + 1) (drop (j + 1) zs) else record { variable = j; coefficient = cell zs j } ∷ monomials_from (j + 1) (drop (j + 1) zs))) e

-- a printed variable before those to come
with_first : (is_first : Bool) (m : Monomial) (ms : List Monomial) → rest_text is_first (m ∷ ms) ≡ ((if is_first then leading_sign m.coefficient else joining_sign m.coefficient) ++ product_text m) ++ rest_text false ms
with_first true m ms = refl
with_first false m ms = refl

no_size : (z : ℤ) → of_z w128 z ≡ 0 → to_z w128 (of_z w128 z) ≡ z → (unsigned_abs z == 0) ≡ true
no_size z none back = ap (λ (x : ℤ). unsigned_abs x == 0) (sym back ∙ ap (to_z w128) none)

some_size : (z : ℤ) → ¬ (of_z w128 z ≡ 0) → (unsigned_abs z == 0) ≡ false
some_size (pos zero) some = absurd (some refl)
some_size (pos (suc n)) some = grind (arith, nat_tests)
some_size (negsuc n) some = grind (arith, nat_tests)

pub loop-j-preserved : goal.loop-j-preserved
loop-j-preserved c =
    let zs = c.args.coefficients.now in
    let j = c.loop-j.j in
    let back : to_z w128 (of_z w128 (cell zs j)) ≡ cell zs j = grind (arith, common_steps) in
    let next = λ (is_first b : Bool) (e : (unsigned_abs (cell zs j) == 0) ≡ b). sym (ap (λ (x : List ℕ). c.loop-j.text ++ x) (from_here is_first b zs j c.loop-j-test.true e)) in
    elim c.if-coefficient-ne0.branch [
      | then-coefficient-ne0+in_ok-push_monomial w ↦
          let text = rw back at w.in_ok-push_monomial.ensures in
          let ms = monomials_from (j + 1) (drop (j + 1) zs) in
          let m : Monomial = record { variable = j; coefficient = cell zs j } in
          rw (w.text-is, w.is_first-is) (ap (λ (x : List ℕ). x ++ rest_text false ms) text ∙ append_assoc c.loop-j.text _ (rest_text false ms) ∙ sym (ap (λ (x : List ℕ). c.loop-j.text ++ x) (with_first c.loop-j.is_first m ms)) ∙ next c.loop-j.is_first false (some_size (cell zs j) w.if-coefficient-ne0.true) ∙ c.loop-j.invariant)
      | else-coefficient-ne0 w ↦ rw (w.text-is, w.is_first-is) (next c.loop-j.is_first true (no_size (cell zs j) w.if-coefficient-ne0.false back) ∙ c.loop-j.invariant)
    ]
