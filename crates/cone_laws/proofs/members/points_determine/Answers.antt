use Rattle.cone_laws.proofs.Points.{points_determine}
use Rattle.cone_laws.proofs.members.points_determine.Goals as goal

pub returns : goal.returns
returns c = points_determine
