-- The tables of expressions.
use Rattle.std.proofs.Common.{ℕ, List, [], ◌∷◌, refl}
use Rattle.grammar.specs.Grammar.{alone, expr}
use Rattle.grammar.specs.Machine.{Decides}
use Rattle.grammar.specs.declared.tables.TheConstants.{CLASSES, EXPR_STEPS, EXPR_ENDS}
use Rattle.grammar.proofs.TableLaws.{decides_by}

abbrev pub expr_texts : List (List ℕ)
expr_texts =
    (9 ∷ []) ∷ (45 ∷ []) ∷ (48 ∷ []) ∷ (65 ∷ []) ∷ (45 ∷ 9 ∷ []) ∷ (48 ∷ 9 ∷ []) ∷ (48 ∷ 42 ∷ []) ∷ (65 ∷ 9 ∷ []) ∷ (65 ∷ 49 ∷ []) ∷ (48 ∷ 42 ∷ 9 ∷ []) ∷ []

pub expr_decides : Decides CLASSES EXPR_STEPS EXPR_ENDS (alone expr)
unfolding expr
expr_decides = decides_by CLASSES EXPR_STEPS EXPR_ENDS (alone expr) expr_texts refl
