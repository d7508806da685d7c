use Rattle.optimum.proofs.Witness.{generator_is_witness}
use Rattle.optimum.proofs.laws.generator_is_witness.Goals as goal

pub returns : goal.returns
returns c = generator_is_witness
