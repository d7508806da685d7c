use Rattle.line_values.proofs.PerformedLemmas.{room_passes}
use Rattle.hybrid.proofs.CommandLemmas.{still}
use Rattle.hybrid.proofs.commands.hybrid.Goals as goal

pub returns : goal.returns
returns c =
    rw c.in-Some.is (room_passes c.args.full c.if-full.false, still c.in-Some.s.now c.in_ok-try_copy.field-0 c.in_ok-made.made c.in_ok-try_copy.ensures c.in_ok-made.ensures.system c.in_ok-made.ensures.invariants c.in_ok-made.ensures.flows c.system-kept.ensures.kept)
