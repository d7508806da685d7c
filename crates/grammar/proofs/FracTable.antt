-- The tables of an expression with or without a divisor.
use Rattle.std.proofs.Common.{ℕ, List, [], ◌∷◌, refl}
use Rattle.grammar.specs.Grammar.{alone, expr, frac}
use Rattle.grammar.specs.Machine.{Decides}
use Rattle.grammar.specs.declared.tables.TheConstants.{CLASSES, FRAC_STEPS, FRAC_ENDS}
use Rattle.grammar.proofs.TableLaws.{decides_by}

abbrev pub frac_texts : List (List ℕ)
frac_texts =
    (9 ∷ []) ∷ (40 ∷ []) ∷ (45 ∷ []) ∷ (48 ∷ []) ∷ (65 ∷ []) ∷ (40 ∷ 9 ∷ []) ∷ (40 ∷ 45 ∷ []) ∷ (40 ∷ 48 ∷ []) ∷ (40 ∷ 65 ∷ []) ∷ (45 ∷ 9 ∷ []) ∷ (48 ∷ 9 ∷ []) ∷ (48 ∷ 42 ∷ []) ∷ (65 ∷ 9 ∷ []) ∷ (65 ∷ 49 ∷ []) ∷ (40 ∷ 45 ∷ 9 ∷ []) ∷ (40 ∷ 48 ∷ 9 ∷ []) ∷ (40 ∷ 48 ∷ 41 ∷ []) ∷ (40 ∷ 48 ∷ 42 ∷ []) ∷ (40 ∷ 65 ∷ 9 ∷ []) ∷ (40 ∷ 65 ∷ 49 ∷ []) ∷ (48 ∷ 42 ∷ 9 ∷ []) ∷ (40 ∷ 48 ∷ 41 ∷ 9 ∷ []) ∷ (40 ∷ 48 ∷ 41 ∷ 47 ∷ []) ∷ (40 ∷ 48 ∷ 42 ∷ 9 ∷ []) ∷ (40 ∷ 48 ∷ 41 ∷ 47 ∷ 9 ∷ []) ∷ (40 ∷ 48 ∷ 41 ∷ 47 ∷ 48 ∷ []) ∷ (40 ∷ 48 ∷ 41 ∷ 47 ∷ 48 ∷ 9 ∷ []) ∷ []

pub frac_decides : Decides CLASSES FRAC_STEPS FRAC_ENDS (alone frac)
unfolding expr frac
frac_decides = decides_by CLASSES FRAC_STEPS FRAC_ENDS (alone frac) frac_texts refl
