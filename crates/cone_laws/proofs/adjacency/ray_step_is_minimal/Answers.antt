use Rattle.cone_laws.proofs.RaySteps.{new_minimal}
use Rattle.cone_laws.proofs.adjacency.ray_step_is_minimal.Goals as goal

pub returns : goal.returns
returns c = λ width rows k row lines rays new at m level step. new_minimal rows k row rays new step width lines m.generates m.lineality m.irredundant at level
