use Rattle.set_laws.proofs.GeneratorLaws.{spans_law}
use Rattle.set_laws.proofs.generators.spans_have_points.Goals as goal

pub returns : goal.returns
returns c = spans_law
