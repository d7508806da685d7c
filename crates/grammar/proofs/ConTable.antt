-- The tables of a constraint.
use Rattle.std.proofs.Common.{ℕ, List, [], ◌∷◌, refl}
use Rattle.grammar.specs.Grammar.{alone, expr, con}
use Rattle.grammar.specs.Machine.{Decides}
use Rattle.grammar.specs.declared.tables.TheConstants.{CLASSES, CON_STEPS, CON_ENDS}
use Rattle.grammar.proofs.TableLaws.{decides_by}

abbrev pub con_texts : List (List ℕ)
con_texts =
    (9 ∷ []) ∷ (45 ∷ []) ∷ (48 ∷ []) ∷ (65 ∷ []) ∷ (45 ∷ 9 ∷ []) ∷ (48 ∷ 9 ∷ []) ∷ (48 ∷ 42 ∷ []) ∷ (48 ∷ 60 ∷ []) ∷ (48 ∷ 61 ∷ []) ∷ (65 ∷ 9 ∷ []) ∷ (65 ∷ 49 ∷ []) ∷ (48 ∷ 42 ∷ 9 ∷ []) ∷ (48 ∷ 60 ∷ 9 ∷ []) ∷ (48 ∷ 60 ∷ 45 ∷ []) ∷ (48 ∷ 60 ∷ 48 ∷ []) ∷ (48 ∷ 60 ∷ 61 ∷ []) ∷ (48 ∷ 60 ∷ 65 ∷ []) ∷ (48 ∷ 60 ∷ 45 ∷ 9 ∷ []) ∷ (48 ∷ 60 ∷ 48 ∷ 9 ∷ []) ∷ (48 ∷ 60 ∷ 48 ∷ 42 ∷ []) ∷ (48 ∷ 60 ∷ 65 ∷ 9 ∷ []) ∷ (48 ∷ 60 ∷ 65 ∷ 49 ∷ []) ∷ (48 ∷ 60 ∷ 48 ∷ 42 ∷ 9 ∷ []) ∷ []

pub con_decides : Decides CLASSES CON_STEPS CON_ENDS (alone con)
unfolding expr con
con_decides = decides_by CLASSES CON_STEPS CON_ENDS (alone con) con_texts refl
