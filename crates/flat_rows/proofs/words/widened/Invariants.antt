use Rattle.std.proofs.Common.{◌≡◌, ◌+◌, ◌<◌, map, take, length}
use Rattle.flat_rows.specs.Flat.{fitted}
use Rattle.flat_rows.proofs.words.widened.Given as goal

abbrev pub invariant-loop-i : goal.invariant-loop-i
invariant-loop-i l = record {
  width : l.rows.width < l.wider.width;
  rows : l.wider.rows ≡ map (fitted l.wider.width 0) (take l.i l.rows.rows);
  spare : l.wider.spare + l.i ≡ length l.rows.rows;
}
