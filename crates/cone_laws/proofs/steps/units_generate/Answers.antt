use Rattle.cone_laws.proofs.Spanning as lemmas
use Rattle.cone_laws.proofs.steps.units_generate.Goals as goal

pub returns : goal.returns
returns c = lemmas.units_generate
