use Rattle.std.proofs.Common.{[]}
use Rattle.std.specs.Prelude.{None}
use Rattle.run_laws.proofs.AcceptedRuns.{accepted_once}
use Rattle.run_laws.proofs.laws.accepted_is_unique.Goals as goal

pub returns : goal.returns
returns c = λ lines replies all rest a b. accepted_once c.one_command.ensures None [] lines replies all rest a b
