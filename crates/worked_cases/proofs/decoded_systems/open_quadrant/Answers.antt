use Rattle.worked_cases.proofs.DecodedLists.{gained_point}
use Rattle.worked_cases.proofs.decoded_systems.open_quadrant.Goals as goal

pub returns : goal.returns
returns c = gained_point _ _ _ c.in_ok-push-5.ensures.list
