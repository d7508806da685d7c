use Rattle.std.specs.Prelude.{◌≡◌, ◌↔◌, ℕ, ◌+◌, ◌<◌, List, length, ℤ}
use Rattle.std.specs.List.{range_with_len}
use Rattle.row_core.specs.Points.{IsPoint}
use Rattle.cons_sys.specs.Constraints.{Constraints}
use Rattle.stored_systems.specs.PointSets.{AreWide}
use Rattle.affine_maps.specs.declared.relations.ImageRel.{ImageRel}
use Rattle.mapped_systems.specs.Maps.{with_zeros, picked}
use Rattle.mapped_systems.specs.Sources.{HasSource}
use Rattle.affine_maps.specs.Relations.{IsRelatedImage, IsRelatedPreimage, IsExtended, moved, image_columns}

-- the points that the extended constraints become where the new variable takes the place of the
-- variable are the image by the relation
abbrev pub ImageIsShadow : Type 0
ImageIsShadow = (rel : ImageRel) (var : ℕ) (expr : List ℤ) (den : ℤ) (cs extended : Constraints)
    (v : List ℤ) → var < cs.dim → length expr ≡ cs.dim + 1
    → IsExtended (with_zeros cs.dim 1) rel expr den cs extended → IsPoint cs.dim v
    → HasSource (picked (image_columns cs.dim var) extended.dim) extended v
    ↔ IsRelatedImage rel var expr den cs v

-- those that they become without the new variable are the preimage
abbrev pub PreimageIsShadow : Type 0
PreimageIsShadow = (rel : ImageRel) (var : ℕ) (expr : List ℤ) (den : ℤ) (cs extended : Constraints)
    (v : List ℤ) → var < cs.dim → length expr ≡ cs.dim + 1 → AreWide cs
    → IsExtended (moved cs.dim var) rel expr den cs extended → IsPoint cs.dim v
    → HasSource (picked (range_with_len 0 cs.dim) extended.dim) extended v
    ↔ IsRelatedPreimage rel var expr den cs v
