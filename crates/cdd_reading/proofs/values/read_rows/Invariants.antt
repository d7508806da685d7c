use Rattle.std.proofs.Common.{◌<◌, length}
use Rattle.cdd_reading.specs.Tokens.{texts}
use Rattle.cdd_reading.proofs.RowReading.{IsReading}
use Rattle.cdd_reading.proofs.values.read_rows.Given as goal

abbrev pub invariant-loop-token : goal.invariant-loop-token
invariant-loop-token l = record {
  can_next : (goal.iterator-loop-token).can_next l.token-iterator;
  is_finite : (goal.iterator-loop-token).is_finite l.token-iterator;
  reading : IsReading l.width (texts l.fn.tokens) (texts l.token-iterator) l.values.items l.row.items l.multiple;
  short : length l.row.items < l.width;
}
