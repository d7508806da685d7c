use Rattle.std.proofs.Common.{inr}
use Rattle.mapped_systems.proofs.mapped.push_mapped.Goals as goal

pub returns-in-Ok-clause-list : goal.returns-in-Ok-clause-list
returns-in-Ok-clause-list c = inr ((λ z. let e = c.in-Ok.ensures.zero_vector.1 z in cc), c.in-Ok.ensures.list)
