use Rattle.std.proofs.Common.{◌≤◌, ◌-◌}
use Rattle.chernikova.specs.Conversion.{IsState, IsCountedBetween, TellsChange}
use Rattle.chernikova.proofs.conversion.take_rows.Given as goal

abbrev pub invariant-loop-k : goal.invariant-loop-k
invariant-loop-k g l = record {
  from : l.from ≤ l.k;
  state : IsState l.rows.width l.rows.rows l.k l.cone;
  told : TellsChange l.rows.width l.rows.rows l.from l.k l.changed;
  no_fewer : l.initial.steps ≤ l.steps;
  counted : IsCountedBetween l.rows.width l.rows.rows l.from l.k (l.steps - l.initial.steps);
}
