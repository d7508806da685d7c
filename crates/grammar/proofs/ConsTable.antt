-- The tables of a list of constraints.
use Rattle.std.proofs.Common.{ℕ, List, [], ◌∷◌, refl}
use Rattle.grammar.specs.Grammar.{alone, expr, con, cons}
use Rattle.grammar.specs.Machine.{Decides}
use Rattle.grammar.specs.declared.tables.TheConstants.{CLASSES, CONS_STEPS, CONS_ENDS}
use Rattle.grammar.proofs.TableLaws.{decides_by}

abbrev pub cons_texts : List (List ℕ)
cons_texts =
    (9 ∷ []) ∷ (45 ∷ []) ∷ (48 ∷ []) ∷ (65 ∷ []) ∷ (102 ∷ []) ∷ (116 ∷ []) ∷ (45 ∷ 9 ∷ []) ∷ (48 ∷ 9 ∷ []) ∷ (48 ∷ 42 ∷ []) ∷ (48 ∷ 60 ∷ []) ∷ (48 ∷ 61 ∷ []) ∷ (65 ∷ 9 ∷ []) ∷ (65 ∷ 49 ∷ []) ∷ (102 ∷ 97 ∷ []) ∷ (116 ∷ 114 ∷ []) ∷ (48 ∷ 42 ∷ 9 ∷ []) ∷ (48 ∷ 60 ∷ 9 ∷ []) ∷ (48 ∷ 60 ∷ 45 ∷ []) ∷ (48 ∷ 60 ∷ 48 ∷ []) ∷ (48 ∷ 60 ∷ 61 ∷ []) ∷ (48 ∷ 60 ∷ 65 ∷ []) ∷ (102 ∷ 97 ∷ 108 ∷ []) ∷ (116 ∷ 114 ∷ 117 ∷ []) ∷ (48 ∷ 60 ∷ 45 ∷ 9 ∷ []) ∷ (48 ∷ 60 ∷ 48 ∷ 9 ∷ []) ∷ (48 ∷ 60 ∷ 48 ∷ 42 ∷ []) ∷ (48 ∷ 60 ∷ 48 ∷ 44 ∷ []) ∷ (48 ∷ 60 ∷ 65 ∷ 9 ∷ []) ∷ (48 ∷ 60 ∷ 65 ∷ 49 ∷ []) ∷ (116 ∷ 114 ∷ 117 ∷ 101 ∷ []) ∷ (48 ∷ 60 ∷ 48 ∷ 42 ∷ 9 ∷ []) ∷ (48 ∷ 60 ∷ 48 ∷ 44 ∷ 9 ∷ []) ∷ (116 ∷ 114 ∷ 117 ∷ 101 ∷ 9 ∷ []) ∷ []

pub cons_decides : Decides CLASSES CONS_STEPS CONS_ENDS (alone cons)
unfolding expr con cons
cons_decides = decides_by CLASSES CONS_STEPS CONS_ENDS (alone cons) cons_texts refl
