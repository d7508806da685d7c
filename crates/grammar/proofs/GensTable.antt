-- The tables of a list of generators.
use Rattle.std.proofs.Common.{ℕ, List, [], ◌∷◌, refl}
use Rattle.grammar.specs.Grammar.{alone, vexpr, vfrac, point, gen, gens}
use Rattle.grammar.specs.Machine.{Decides}
use Rattle.grammar.specs.declared.tables.TheConstants.{CLASSES, GENS_STEPS, GENS_ENDS}
use Rattle.grammar.proofs.TableLaws.{decides_by}

abbrev pub gens_texts : List (List ℕ)
gens_texts =
    (9 ∷ []) ∷ (99 ∷ []) ∷ (108 ∷ []) ∷ (110 ∷ []) ∷ (99 ∷ 40 ∷ []) ∷ (108 ∷ 40 ∷ []) ∷ (110 ∷ 111 ∷ []) ∷ (99 ∷ 40 ∷ 9 ∷ []) ∷ (99 ∷ 40 ∷ 40 ∷ []) ∷ (99 ∷ 40 ∷ 45 ∷ []) ∷ (99 ∷ 40 ∷ 48 ∷ []) ∷ (99 ∷ 40 ∷ 49 ∷ []) ∷ (99 ∷ 40 ∷ 65 ∷ []) ∷ (108 ∷ 40 ∷ 9 ∷ []) ∷ (110 ∷ 111 ∷ 110 ∷ []) ∷ (99 ∷ 40 ∷ 40 ∷ 9 ∷ []) ∷ (99 ∷ 40 ∷ 40 ∷ 45 ∷ []) ∷ (99 ∷ 40 ∷ 40 ∷ 48 ∷ []) ∷ (99 ∷ 40 ∷ 40 ∷ 49 ∷ []) ∷ (99 ∷ 40 ∷ 40 ∷ 65 ∷ []) ∷ (99 ∷ 40 ∷ 45 ∷ 9 ∷ []) ∷ (99 ∷ 40 ∷ 48 ∷ 9 ∷ []) ∷ (99 ∷ 40 ∷ 48 ∷ 41 ∷ []) ∷ (99 ∷ 40 ∷ 48 ∷ 42 ∷ []) ∷ (99 ∷ 40 ∷ 49 ∷ 9 ∷ []) ∷ (99 ∷ 40 ∷ 65 ∷ 9 ∷ []) ∷ (99 ∷ 40 ∷ 65 ∷ 49 ∷ []) ∷ (110 ∷ 111 ∷ 110 ∷ 101 ∷ []) ∷ (99 ∷ 40 ∷ 40 ∷ 45 ∷ 9 ∷ []) ∷ (99 ∷ 40 ∷ 40 ∷ 48 ∷ 9 ∷ []) ∷ (99 ∷ 40 ∷ 40 ∷ 48 ∷ 41 ∷ []) ∷ (99 ∷ 40 ∷ 40 ∷ 48 ∷ 42 ∷ []) ∷ (99 ∷ 40 ∷ 40 ∷ 49 ∷ 9 ∷ []) ∷ (99 ∷ 40 ∷ 40 ∷ 65 ∷ 9 ∷ []) ∷ (99 ∷ 40 ∷ 40 ∷ 65 ∷ 49 ∷ []) ∷ (99 ∷ 40 ∷ 48 ∷ 41 ∷ 9 ∷ []) ∷ (99 ∷ 40 ∷ 48 ∷ 41 ∷ 44 ∷ []) ∷ (99 ∷ 40 ∷ 48 ∷ 42 ∷ 9 ∷ []) ∷ (110 ∷ 111 ∷ 110 ∷ 101 ∷ 9 ∷ []) ∷ (99 ∷ 40 ∷ 40 ∷ 48 ∷ 41 ∷ 9 ∷ []) ∷ (99 ∷ 40 ∷ 40 ∷ 48 ∷ 41 ∷ 47 ∷ []) ∷ (99 ∷ 40 ∷ 40 ∷ 48 ∷ 42 ∷ 9 ∷ []) ∷ (99 ∷ 40 ∷ 48 ∷ 41 ∷ 44 ∷ 9 ∷ []) ∷ (99 ∷ 40 ∷ 40 ∷ 48 ∷ 41 ∷ 47 ∷ 9 ∷ []) ∷ (99 ∷ 40 ∷ 40 ∷ 48 ∷ 41 ∷ 47 ∷ 48 ∷ []) ∷ (99 ∷ 40 ∷ 40 ∷ 48 ∷ 41 ∷ 47 ∷ 48 ∷ 9 ∷ []) ∷ []

pub gens_decides : Decides CLASSES GENS_STEPS GENS_ENDS (alone gens)
unfolding vexpr vfrac point gen gens
gens_decides = decides_by CLASSES GENS_STEPS GENS_ENDS (alone gens) gens_texts refl
