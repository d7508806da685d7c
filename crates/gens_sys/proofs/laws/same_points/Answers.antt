use Rattle.gens_sys.proofs.SpanLemmas.{Span-same_point}
use Rattle.gens_sys.proofs.laws.same_points.Goals as goal

pub returns : goal.returns
returns c = Span-same_point
