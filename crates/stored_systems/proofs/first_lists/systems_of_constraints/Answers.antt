use Rattle.stored_systems.proofs.ConstraintLists.{no_point_in_constraints, pair_of_constraints}
use Rattle.stored_systems.proofs.first_lists.systems_of_constraints.Goals as goal

pub returns : goal.returns
returns c = record { no_point = no_point_in_constraints; pair = pair_of_constraints }
