use Rattle.dimensions.proofs.AddedVariables.{projection_undone}
use Rattle.dimensions.proofs.laws.projection_is_undone.Goals as goal

pub returns : goal.returns
returns c = projection_undone
