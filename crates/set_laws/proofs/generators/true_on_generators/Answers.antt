use Rattle.set_laws.proofs.GeneratorLaws.{true_on_law}
use Rattle.set_laws.proofs.generators.true_on_generators.Goals as goal

pub returns : goal.returns
returns c = true_on_law
