use Rattle.std.proofs.Common.{◌≡◌}
use Rattle.mapped_systems.specs.Maps.{kept_variables}
use Rattle.mapped_systems.proofs.columns.kept_variables.Given as goal

abbrev pub invariant-loop-variable : goal.invariant-loop-variable
invariant-loop-variable l = l.kept.items ≡ kept_variables l.variable-counter l.named
