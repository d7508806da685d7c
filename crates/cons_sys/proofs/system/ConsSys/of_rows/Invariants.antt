use Rattle.std.specs.Prelude.{◌≡◌, ◌≤◌, length, map, take, vec_len, vec_capacity}
use Rattle.cons_sys.proofs.RowLemmas.{kind_of_row}
use Rattle.cons_sys.proofs.system.ConsSys.of_rows.Given as goal

abbrev pub invariant-loop-index : goal.invariant-loop-index
invariant-loop-index l = record {
  count : vec_len l.kinds ≡ l.index;
  room : length l.rows.rows ≤ vec_capacity l.kinds;
  kinds : l.kinds.items ≡ map kind_of_row (take l.index l.rows.rows);
}
