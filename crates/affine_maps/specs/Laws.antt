use Rattle.std.specs.Prelude.{◌≢◌, ℕ, ◌<◌, List, ℤ, pos, ◌<ℤ◌}
use Rattle.row_core.specs.Vectors.{cell}
use Rattle.poly_pair.specs.Polyhedra.{Polyhedron, HaveSamePoints}
use Rattle.affine_maps.specs.SubstitutedSets.{IsSubstitutedImage, IsSubstitutedPreimage}

-- where the variable has a part in the expression, the preimage of the image is the set
abbrev pub ImageIsUndone : Type 0
ImageIsUndone = (var : ℕ) (expr : List ℤ) (den : ℤ) (p q r : Polyhedron) → var < p.cons.dim
    → pos 0 <ℤ den → cell expr var ≢ pos 0 → IsSubstitutedImage var expr den p q
    → IsSubstitutedPreimage var expr den q r → HaveSamePoints p r
