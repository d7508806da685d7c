-- A printed expression over a divisor is read as that expression and that divisor.
use Rattle.std.proofs.Common.{◌≡◌, ℕ, ◌^◌, ◌<◌, ◌≤◌, List, [], ◌∷◌, ◌++◌, refl, sym, ◌∙◌, ap, subst, zero, suc, inl, inr, lit≤, append_assoc}
use Rattle.std.specs.Prelude.{pos, codes, decimal}
use Rattle.grammar.specs.Form.{Form, Matches}
use Rattle.grammar.specs.Grammar.{over_nat}
use Rattle.term_text.specs.declared.terms.Term.{Term}
use Rattle.term_text.specs.Numbers.{size_of}
use Rattle.term_text.specs.Values.{Ratio, ratio_by}
use Rattle.expr_text.specs.Printed.{quotient_text}
use Rattle.expr_text.proofs.PrintDigits.{decimal_nat, size_of-decimal}
use Rattle.expr_text.proofs.PrintTerms.{ReadsAs, no_blank}

ratio_is : (ts us : List Term) (n k : ℕ) → ts ≡ us → n ≡ k → ◌≡◌ {A = Ratio} (record { terms = ts; divisor = n }) (record { terms = us; divisor = k })
ratio_is ts us n k e f = ap (λ (t : List Term). let r : Ratio = record { terms = t; divisor = n } in r) e ∙ ap (λ (d : ℕ). let r : Ratio = record { terms = us; divisor = d } in r) f

-- brackets, a stroke and the divisor
abbrev bracketed_form : (f : Form) (expression : List ℕ) (n : ℕ) → n < 2 ^ 127 → Matches f expression → Matches (over_nat f) (40 ∷ (expression ++ (41 ∷ 47 ∷ decimal n)))
bracketed_form f expression n small is =
    inr (40 ∷ [], expression ++ (41 ∷ 47 ∷ decimal n), refl, (40, lit≤ tt, lit≤ tt, refl), ([], expression ++ (41 ∷ 47 ∷ decimal n), refl, no_blank, (expression, 41 ∷ 47 ∷ decimal n, refl, is, ([], 41 ∷ 47 ∷ decimal n, refl, no_blank, (41 ∷ [], 47 ∷ decimal n, refl, (41, lit≤ tt, lit≤ tt, refl), ([], 47 ∷ decimal n, refl, no_blank, (47 ∷ [], decimal n, refl, (47, lit≤ tt, lit≤ tt, refl), ([], decimal n, refl, no_blank, decimal_nat n small))))))))

bracketed_reads : (f : Form) (by : (w : List ℕ) → Matches f w → List Term) (expression : List ℕ) (ts : List Term) (n : ℕ) → n < 2 ^ 127 → ReadsAs f by expression ts → ReadsAs (over_nat f) (ratio_by f by) (codes "(" ++ expression ++ codes ")/" ++ decimal n) (record { terms = ts; divisor = n })
bracketed_reads f by expression ts n small read =
    let whole : ReadsAs (over_nat f) (ratio_by f by) (40 ∷ (expression ++ (41 ∷ 47 ∷ decimal n))) (record { terms = ts; divisor = n }) = record {
      form = bracketed_form f expression n small read.form;
      value = ratio_is (by expression read.form) ts (size_of (decimal n)) n read.value (size_of-decimal n small);
    } in
    subst (λ (w : List ℕ). ReadsAs (over_nat f) (ratio_by f by) w (record { terms = ts; divisor = n })) (ap (λ (w : List ℕ). 40 ∷ w) (sym (append_assoc expression (codes ")/") (decimal n)))) whole

-- an expression with its divisor
pub quotient_reads : (f : Form) (by : (w : List ℕ) → Matches f w → List Term) (expression : List ℕ) (ts : List Term) (n : ℕ) → n < 2 ^ 127 → ReadsAs f by expression ts → ReadsAs (over_nat f) (ratio_by f by) (quotient_text expression (pos n)) (record { terms = ts; divisor = n })
quotient_reads f by expression ts zero small read = bracketed_reads f by expression ts zero small read
quotient_reads f by expression ts (suc zero) small read = record { form = inl read.form; value = ratio_is (by expression read.form) ts 1 1 read.value refl }
quotient_reads f by expression ts (suc (suc n)) small read = bracketed_reads f by expression ts (suc (suc n)) small read
