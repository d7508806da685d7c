use Rattle.dimensions.proofs.ProductFactors.{second_factor}
use Rattle.dimensions.proofs.laws.second_factor_is_back.Goals as goal

pub returns : goal.returns
returns c = second_factor
