use Rattle.stored_systems.proofs.ConstraintLists.{constraint_list_admits}
use Rattle.stored_systems.proofs.GeneratorLists.{generator_list_spans}
use Rattle.stored_systems.proofs.first_lists.points_of_lists.Goals as goal

pub returns : goal.returns
returns c = record { constraints = constraint_list_admits; generators = generator_list_spans }
