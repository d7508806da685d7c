-- The tables of a point.
use Rattle.std.proofs.Common.{ℕ, List, [], ◌∷◌, refl}
use Rattle.grammar.specs.Grammar.{alone, vexpr, vfrac, point}
use Rattle.grammar.specs.Machine.{Decides}
use Rattle.grammar.specs.declared.tables.TheConstants.{CLASSES, POINT_STEPS, POINT_ENDS}
use Rattle.grammar.proofs.TableLaws.{decides_by}

abbrev pub point_texts : List (List ℕ)
point_texts =
    (9 ∷ []) ∷ (112 ∷ []) ∷ (112 ∷ 40 ∷ []) ∷ (112 ∷ 40 ∷ 9 ∷ []) ∷ (112 ∷ 40 ∷ 40 ∷ []) ∷ (112 ∷ 40 ∷ 45 ∷ []) ∷ (112 ∷ 40 ∷ 48 ∷ []) ∷ (112 ∷ 40 ∷ 49 ∷ []) ∷ (112 ∷ 40 ∷ 65 ∷ []) ∷ (112 ∷ 40 ∷ 40 ∷ 9 ∷ []) ∷ (112 ∷ 40 ∷ 40 ∷ 45 ∷ []) ∷ (112 ∷ 40 ∷ 40 ∷ 48 ∷ []) ∷ (112 ∷ 40 ∷ 40 ∷ 49 ∷ []) ∷ (112 ∷ 40 ∷ 40 ∷ 65 ∷ []) ∷ (112 ∷ 40 ∷ 45 ∷ 9 ∷ []) ∷ (112 ∷ 40 ∷ 48 ∷ 9 ∷ []) ∷ (112 ∷ 40 ∷ 48 ∷ 41 ∷ []) ∷ (112 ∷ 40 ∷ 48 ∷ 42 ∷ []) ∷ (112 ∷ 40 ∷ 49 ∷ 9 ∷ []) ∷ (112 ∷ 40 ∷ 65 ∷ 9 ∷ []) ∷ (112 ∷ 40 ∷ 65 ∷ 49 ∷ []) ∷ (112 ∷ 40 ∷ 40 ∷ 45 ∷ 9 ∷ []) ∷ (112 ∷ 40 ∷ 40 ∷ 48 ∷ 9 ∷ []) ∷ (112 ∷ 40 ∷ 40 ∷ 48 ∷ 41 ∷ []) ∷ (112 ∷ 40 ∷ 40 ∷ 48 ∷ 42 ∷ []) ∷ (112 ∷ 40 ∷ 40 ∷ 49 ∷ 9 ∷ []) ∷ (112 ∷ 40 ∷ 40 ∷ 65 ∷ 9 ∷ []) ∷ (112 ∷ 40 ∷ 40 ∷ 65 ∷ 49 ∷ []) ∷ (112 ∷ 40 ∷ 48 ∷ 42 ∷ 9 ∷ []) ∷ (112 ∷ 40 ∷ 40 ∷ 48 ∷ 41 ∷ 9 ∷ []) ∷ (112 ∷ 40 ∷ 40 ∷ 48 ∷ 41 ∷ 47 ∷ []) ∷ (112 ∷ 40 ∷ 40 ∷ 48 ∷ 42 ∷ 9 ∷ []) ∷ (112 ∷ 40 ∷ 40 ∷ 48 ∷ 41 ∷ 47 ∷ 9 ∷ []) ∷ (112 ∷ 40 ∷ 40 ∷ 48 ∷ 41 ∷ 47 ∷ 48 ∷ []) ∷ (112 ∷ 40 ∷ 40 ∷ 48 ∷ 41 ∷ 47 ∷ 48 ∷ 9 ∷ []) ∷ []

pub point_decides : Decides CLASSES POINT_STEPS POINT_ENDS (alone point)
unfolding vexpr vfrac point
point_decides = decides_by CLASSES POINT_STEPS POINT_ENDS (alone point) point_texts refl
