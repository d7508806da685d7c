-- The machine decides its form.
use Rattle.std.proofs.Common.{ℕ, List, [], ◌∷◌, None, refl}
use Rattle.grammar.specs.Grammar.{◌·◌, perhaps, comment}
use Rattle.grammar.specs.Machine.{Decides}
use Rattle.grammar.proofs.TableLaws.{decides_by}
use Rattle.line_forms.specs.Layouts.{words_form, tail_form}
use Rattle.line_forms.specs.declared.tables.TheConstants.{CLASSES, NO_WORDS_STEPS, NO_WORDS_ENDS}

abbrev pub no_words_texts : List (List ℕ)
no_words_texts =
    (9 ∷ []) ∷ (35 ∷ []) ∷ []

pub no_words_decides : Decides CLASSES NO_WORDS_STEPS NO_WORDS_ENDS (words_form [] · tail_form None · perhaps comment)
no_words_decides = decides_by CLASSES NO_WORDS_STEPS NO_WORDS_ENDS (words_form [] · tail_form None · perhaps comment) no_words_texts refl
