use Rattle.std.proofs.Common.{◌≡◌, ℕ, List, length, arith, sym, ◌∙◌}
use Rattle.std.proofs.lemmas.Bool.Decides.{nat_tests}
use Rattle.std.proofs.lemmas.Slice.Eq.{bytes_eq-Decides}
use Rattle.line_forms.specs.CommandWords.{CommandWord}
use Rattle.line_forms.specs.Slots.{candidate}
use Rattle.line_forms.specs.declared.form.LineForm.{LineForm}
use Rattle.line_forms.proofs.FormLaws.{no_empty_word, no_other_word, word_names}
use Rattle.line_forms.proofs.choice.named.Goals as goal

-- the row that was found, with the word
found : (form : LineForm) (command word : List ℕ) (row : CommandWord) → form ≡ row.0 → command ≡ row.1 → word ≡ command → row ≡ (form, word)
found form command word row f c w = rw (f, w, c)

pub returns-then-is_empty : goal.returns-then-is_empty
returns-then-is_empty c = λ form m. no_empty_word c.args.word.now form (grind (arith, nat_tests)) m

pub returns-then-is_word : goal.returns-then-is_word
returns-then-is_word c =
    let same = (bytes_eq-Decides c.args.word.now c.candidate-form.result.1.now).0 (sym c.is_word.ensures ∙ c.if-is_word.true) in
    word_names c.candidate-form.result.0 c.args.word.now (λ (e : length c.args.word.now ≡ 0). grind (arith, nat_tests))
    (found c.candidate-form.result.0 c.candidate-form.result.1.now c.args.word.now (candidate c.args.word.now) c.candidate-form.ensures.form c.candidate-form.ensures.word same)

pub returns-else-is_word : goal.returns-else-is_word
returns-else-is_word c = no_other_word c.args.word.now c.candidate-form.result.1.now c.candidate-form.ensures.word (sym c.is_word.ensures ∙ c.if-is_word.false)
