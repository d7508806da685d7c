use Rattle.std.proofs.Common.{◌≡◌, replicate, true}
use Rattle.std.specs.Prelude.{pos}
use Rattle.row_core.specs.Lists.{AreMarked}
use Rattle.chernikova.proofs.NextStates.{AreUnitsUpto}
use Rattle.chernikova.proofs.conversion.units.Given as goal

abbrev pub invariant-loop-column : goal.invariant-loop-column
invariant-loop-column l = record {
  width : l.units.width ≡ l.width;
  zeros : l.unit.items ≡ replicate l.width (pos 0);
  units : AreUnitsUpto l.width l.column l.units.rows;
  marked : AreMarked true l.units.rows;
}
