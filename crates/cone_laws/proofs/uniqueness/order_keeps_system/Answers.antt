use Rattle.cone_laws.specs.Cones.{Upto}
use Rattle.cone_laws.proofs.Rearranging.{system_rearranged}
use Rattle.cone_laws.proofs.uniqueness.order_keeps_system.Goals as goal

pub returns : goal.returns
returns c = λ width rows k lines rays others s p. system_rearranged (Upto width rows k) lines rays others s p
