use Rattle.std.proofs.Common.{take, ◌≤◌}
use Rattle.poly_pair.specs.ClosedPolyhedra.{IsClosedOver}
use Rattle.lattice_ops.specs.Sequences.{AreFirstCalls}
use Rattle.loop_analysis.specs.Rounds.{AreImages, IsConversionAt}
use Rattle.loop_analysis.proofs.rounds.round.Given as goal

abbrev pub invariant-loop-index : goal.invariant-loop-index
invariant-loop-index g l = record {
  closed : IsClosedOver l.program.dim l.states;
  images : AreImages (take l.index l.program.body) l.initial.states l.states;
  counted : AreFirstCalls (IsConversionAt l.program.body l.initial.states) l.index l.initial.steps l.steps;
  no_fewer : l.initial.steps ≤ l.steps;
}
