use Rattle.difference_bounds.proofs.Extensions.{extends_values}
use Rattle.difference_bounds.proofs.laws.extension.Goals as goal

pub returns : goal.returns
returns c = extends_values
