use Rattle.std.specs.Prelude.{ℕ, ◌+◌, List, length, ℤ}
use Rattle.std.specs.List.{range_with_len}
use Rattle.stored_systems.specs.PointSets.{IsWithin}
use Rattle.poly_pair.specs.Polyhedra.{Polyhedron, HaveSamePoints}
use Rattle.mapped_systems.specs.Maps.{without, remaining, kept_variables}
use Rattle.dimensions.specs.Results.{IsImage, IsPreimage, IsProjection, IsProduct}

-- the polyhedron without the named variables
abbrev pub IsWithout : List ℕ → Polyhedron → Polyhedron → Type 0
IsWithout named p rest = IsImage (remaining p.cons.dim named)
    (length (kept_variables p.cons.dim named)) p rest

-- without the variables that were added free, or as 0, a set is as before
abbrev pub EmbeddingIsUndone : Type 0
EmbeddingIsUndone = (count : ℕ) (p q r : Polyhedron) → IsPreimage
    (without p.cons.dim (p.cons.dim + count)) (p.cons.dim + count) p q
    → IsWithout (range_with_len p.cons.dim count) q r → HaveSamePoints p r

abbrev pub ProjectionIsUndone : Type 0
ProjectionIsUndone = (count : ℕ) (p q r : Polyhedron) → IsProjection count p q
    → IsWithout (range_with_len p.cons.dim count) q r → HaveSamePoints p r

-- a product without the variables of the one factor is the other, where the first has a point
abbrev pub FirstFactorIsBack : Type 0
FirstFactorIsBack = (p q product r : Polyhedron) (w : List ℤ) → IsWithin q.cons w
    → IsProduct p q product → IsWithout (range_with_len p.cons.dim q.cons.dim) product r
    → HaveSamePoints p r

abbrev pub SecondFactorIsBack : Type 0
SecondFactorIsBack = (p q product r : Polyhedron) (w : List ℤ) → IsWithin p.cons w
    → IsProduct p q product → IsWithout (range_with_len 0 p.cons.dim) product r
    → HaveSamePoints q r
