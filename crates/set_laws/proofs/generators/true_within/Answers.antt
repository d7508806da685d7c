use Rattle.set_laws.proofs.GeneratorLaws.{within_law}
use Rattle.set_laws.proofs.generators.true_within.Goals as goal

pub returns : goal.returns
returns c = within_law
