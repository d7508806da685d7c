use Rattle.stored_systems.proofs.GeneratorLists.{point_of_generators, pair_of_generators}
use Rattle.stored_systems.proofs.first_lists.systems_of_generators.Goals as goal

pub returns : goal.returns
returns c = record { point = point_of_generators; pair = pair_of_generators }
