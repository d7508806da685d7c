use Rattle.optimum.proofs.RelationLemmas.{one_relation}
use Rattle.optimum.proofs.laws.one_relation.Goals as goal

pub returns : goal.returns
returns c = one_relation
