use Rattle.affine_maps.proofs.RelatedImages.{image_law}
use Rattle.affine_maps.proofs.laws.image_is_shadow.Goals as goal

pub returns : goal.returns
returns c = image_law
