use Rattle.dimensions.proofs.ProductFactors.{first_factor}
use Rattle.dimensions.proofs.laws.first_factor_is_back.Goals as goal

pub returns : goal.returns
returns c = first_factor
