use Rattle.affine_maps.proofs.TurnedMaps.{image_undone}
use Rattle.affine_maps.proofs.laws.image_is_undone.Goals as goal

pub returns : goal.returns
returns c = image_undone
