use Rattle.std.proofs.Common.{ℕ, ◌≤◌, subst, sym}
use Rattle.poly_pair.specs.declared.topology.TheConstants.{MAX_DIM}
use Rattle.loop_bounds.specs.Reading.{IsDraft}
use Rattle.loop_bounds.proofs.reading.add_line.Goals as goal

pub read_constraints-requires : goal.read_constraints-requires
read_constraints-requires c = subst IsDraft c.in-Dimension.is c.requires

pub read_constraints-requires-in-Started : goal.read_constraints-requires-in-Started
read_constraints-requires-in-Started c = subst (λ (n : ℕ). n ≤ MAX_DIM) (sym c.dim.ensures.value) (subst IsDraft c.in-Started.is c.requires).0

pub new-requires-clause-narrow : goal.new-requires-clause-narrow
new-requires-clause-narrow c = (subst IsDraft c.in-Started.is c.requires).0

pub new-requires-clause-start : goal.new-requires-clause-start
new-requires-clause-start c = (subst IsDraft c.in-Started.is c.requires).1
