use Rattle.set_laws.proofs.GeneratorLaws.{contained_law}
use Rattle.set_laws.proofs.generators.contained_by_pairs.Goals as goal

pub returns : goal.returns
returns c = contained_law
