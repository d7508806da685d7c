use Rattle.line_values.proofs.PerformedLemmas.{room_passes}
use Rattle.powerset.proofs.commands.pset.Goals as goal

pub returns : goal.returns
returns c = rw c.in-Some.is (room_passes c.args.full c.if-full.false, c.in_ok-of.ensures)
