use Rattle.std.specs.Prelude.{◌⊎◌, ◌↔◌, ℕ, ◌<◌, Result, List, ℤ, pos, ◌<ℤ◌}
use Rattle.std.specs.List.{range_with_len}
use Rattle.row_core.specs.declared.errors.Overflow.{Overflow}
use Rattle.row_core.specs.declared.errors.ConvErr.{ConvErr}
use Rattle.poly_pair.specs.Polyhedra.{Polyhedron}
use Rattle.affine_maps.specs.declared.relations.ImageRel.{ImageRel}
use Rattle.affine_maps.specs.declared.relations.ImageRel.TheVariants.{Eq, Ge, Le, Gt, Lt}
use Rattle.mapped_systems.specs.Maps.{with_zeros}
use Rattle.affine_maps.specs.SubstitutedSets.{IsSubstitutedImage, IsSubstitutedPreimage, IsStoredOfSubstituted, IsStoredOfPulledBack}
use Rattle.mapped_systems.specs.Refusals.{SomeLeavesInImage, SomeLeavesInPullback}
use Rattle.affine_maps.specs.SubstitutedSets.{LeavesOnSubstituted, LeavesOnPulledBack}
use Rattle.affine_maps.specs.Relations.{IsStoredOfRelation, LeavesOnRelation, IsImageBy, IsPreimageBy, moved, image_columns, ConvertsRelation}
use Rattle.affine_maps.specs.PairConversions.{ConvertsImage, ConvertsPreimage}

-- ---- images
-- what is stored: for equality of the list of the mapped generators, and else of that of the
-- generators of the constraints with one more variable
abbrev pub IsStoredOfImage : ImageRel → ℕ → List ℤ → ℤ → Polyhedron → Polyhedron → Type 0
IsStoredOfImage Eq var expr den p image = IsStoredOfSubstituted var expr den p image
IsStoredOfImage Ge var expr den p image = IsStoredOfRelation (with_zeros p.cons.dim 1)
    (image_columns p.cons.dim var) Ge expr den p image
IsStoredOfImage Le var expr den p image = IsStoredOfRelation (with_zeros p.cons.dim 1)
    (image_columns p.cons.dim var) Le expr den p image
IsStoredOfImage Gt var expr den p image = IsStoredOfRelation (with_zeros p.cons.dim 1)
    (image_columns p.cons.dim var) Gt expr den p image
IsStoredOfImage Lt var expr den p image = IsStoredOfRelation (with_zeros p.cons.dim 1)
    (image_columns p.cons.dim var) Lt expr den p image

-- the overflow is of a generator's map or of the list of the mapped generators for equality, and
-- else of the lists of the constraints with one more variable
abbrev pub LeavesInImageBy : ImageRel → ℕ → List ℤ → ℤ → Polyhedron → Overflow → Type 0
LeavesInImageBy Eq var expr den p over = SomeLeavesInImage var expr den p.gens.list over
    ⊎ LeavesOnSubstituted var expr den p over
LeavesInImageBy Ge var expr den p over = LeavesOnRelation (with_zeros p.cons.dim 1)
    (image_columns p.cons.dim var) Ge expr den p over
LeavesInImageBy Le var expr den p over = LeavesOnRelation (with_zeros p.cons.dim 1)
    (image_columns p.cons.dim var) Le expr den p over
LeavesInImageBy Gt var expr den p over = LeavesOnRelation (with_zeros p.cons.dim 1)
    (image_columns p.cons.dim var) Gt expr den p over
LeavesInImageBy Lt var expr den p over = LeavesOnRelation (with_zeros p.cons.dim 1)
    (image_columns p.cons.dim var) Lt expr den p over

-- what the call costs and shows: for equality what mapping the stored pair, or the generators,
-- costs, and else the lists of the constraints with one more variable
abbrev pub ConvertsImageBy : ImageRel → ℕ → List ℤ → ℤ → Polyhedron → ℕ → ℕ
    → Result Polyhedron ConvErr → Type 0
ConvertsImageBy Eq var expr den p old new result = ConvertsImage var expr den p old new result
ConvertsImageBy Ge var expr den p old new result = ConvertsRelation (with_zeros p.cons.dim 1)
    (image_columns p.cons.dim var) Ge expr den p old new result
ConvertsImageBy Le var expr den p old new result = ConvertsRelation (with_zeros p.cons.dim 1)
    (image_columns p.cons.dim var) Le expr den p old new result
ConvertsImageBy Gt var expr den p old new result = ConvertsRelation (with_zeros p.cons.dim 1)
    (image_columns p.cons.dim var) Gt expr den p old new result
ConvertsImageBy Lt var expr den p old new result = ConvertsRelation (with_zeros p.cons.dim 1)
    (image_columns p.cons.dim var) Lt expr den p old new result

-- ---- preimages
-- what is stored: for equality of the list of the mapped constraints, and else of that of the
-- generators of the constraints with one more variable
abbrev pub IsStoredOfPreimage : ImageRel → ℕ → List ℤ → ℤ → Polyhedron → Polyhedron → Type 0
IsStoredOfPreimage Eq var expr den p preimage = IsStoredOfPulledBack var expr den p preimage
IsStoredOfPreimage Ge var expr den p preimage = IsStoredOfRelation (moved p.cons.dim var)
    (range_with_len 0 p.cons.dim) Ge expr den p preimage
IsStoredOfPreimage Le var expr den p preimage = IsStoredOfRelation (moved p.cons.dim var)
    (range_with_len 0 p.cons.dim) Le expr den p preimage
IsStoredOfPreimage Gt var expr den p preimage = IsStoredOfRelation (moved p.cons.dim var)
    (range_with_len 0 p.cons.dim) Gt expr den p preimage
IsStoredOfPreimage Lt var expr den p preimage = IsStoredOfRelation (moved p.cons.dim var)
    (range_with_len 0 p.cons.dim) Lt expr den p preimage

-- the overflow is of a constraint's map or of the list of the mapped constraints for equality, and
-- else of the lists of the constraints with one more variable
abbrev pub LeavesInPreimageBy : ImageRel → ℕ → List ℤ → ℤ → Polyhedron → Overflow → Type 0
LeavesInPreimageBy Eq var expr den p over = SomeLeavesInPullback var expr den p.cons.list over
    ⊎ LeavesOnPulledBack var expr den p over
LeavesInPreimageBy Ge var expr den p over = LeavesOnRelation (moved p.cons.dim var)
    (range_with_len 0 p.cons.dim) Ge expr den p over
LeavesInPreimageBy Le var expr den p over = LeavesOnRelation (moved p.cons.dim var)
    (range_with_len 0 p.cons.dim) Le expr den p over
LeavesInPreimageBy Gt var expr den p over = LeavesOnRelation (moved p.cons.dim var)
    (range_with_len 0 p.cons.dim) Gt expr den p over
LeavesInPreimageBy Lt var expr den p over = LeavesOnRelation (moved p.cons.dim var)
    (range_with_len 0 p.cons.dim) Lt expr den p over

-- what the call costs and shows: for equality what mapping the stored pair, or the constraints,
-- costs, and else the lists of the constraints with one more variable
abbrev pub ConvertsPreimageBy : ImageRel → ℕ → List ℤ → ℤ → Polyhedron → ℕ → ℕ
    → Result Polyhedron ConvErr → Type 0
ConvertsPreimageBy Eq var expr den p old new result = ConvertsPreimage var expr den p old new result
ConvertsPreimageBy Ge var expr den p old new result = ConvertsRelation (moved p.cons.dim var)
    (range_with_len 0 p.cons.dim) Ge expr den p old new result
ConvertsPreimageBy Le var expr den p old new result = ConvertsRelation (moved p.cons.dim var)
    (range_with_len 0 p.cons.dim) Le expr den p old new result
ConvertsPreimageBy Gt var expr den p old new result = ConvertsRelation (moved p.cons.dim var)
    (range_with_len 0 p.cons.dim) Gt expr den p old new result
ConvertsPreimageBy Lt var expr den p old new result = ConvertsRelation (moved p.cons.dim var)
    (range_with_len 0 p.cons.dim) Lt expr den p old new result

-- ---- equality
-- the image by equality is that by the map that replaces the variable by the expression over the
-- divisor
abbrev pub EqualImageIsSubstituted : Type 0
EqualImageIsSubstituted = (var : ℕ) (expr : List ℤ) (den : ℤ) (p image : Polyhedron)
    → var < p.cons.dim → pos 0 <ℤ den → IsImageBy Eq var expr den p image
    ↔ IsSubstitutedImage var expr den p image

-- and so is the preimage
abbrev pub EqualPreimageIsSubstituted : Type 0
EqualPreimageIsSubstituted = (var : ℕ) (expr : List ℤ) (den : ℤ) (p preimage : Polyhedron)
    → var < p.cons.dim → pos 0 <ℤ den → IsPreimageBy Eq var expr den p preimage
    ↔ IsSubstitutedPreimage var expr den p preimage
