use Rattle.set_laws.proofs.GeneratorLaws.{counter_law}
use Rattle.set_laws.proofs.generators.true_or_counter.Goals as goal

pub returns : goal.returns
returns c = counter_law
