-- The machine decides its form.
use Rattle.std.proofs.Common.{ℕ, List, [], ◌∷◌, refl}
use Rattle.grammar.specs.Grammar.{◌·◌, blanks, perhaps, comment}
use Rattle.grammar.specs.Machine.{Decides}
use Rattle.grammar.proofs.TableLaws.{decides_by}
use Rattle.line_forms.specs.declared.tables.TheConstants.{CLASSES, NOTHING_STEPS, NOTHING_ENDS}

abbrev pub nothing_texts : List (List ℕ)
nothing_texts =
    (9 ∷ []) ∷ (35 ∷ []) ∷ []

pub nothing_decides : Decides CLASSES NOTHING_STEPS NOTHING_ENDS (blanks · perhaps comment)
nothing_decides = decides_by CLASSES NOTHING_STEPS NOTHING_ENDS (blanks · perhaps comment) nothing_texts refl
