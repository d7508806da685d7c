use Rattle.cons_sys.proofs.SystemLemmas.{In-same_point}
use Rattle.cons_sys.proofs.laws.same_points.Goals as goal

pub returns : goal.returns
returns c = In-same_point
