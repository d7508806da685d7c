use Rattle.std.proofs.Common.{◌≡◌, ◌+◌, ◌-◌, ◌≤◌, length, take}
use Rattle.sat_matrix.specs.Near.{SharesWords}
use Rattle.sat_matrix.proofs.KeptPositions.{IsKeptUpto}
use Rattle.sat_matrix.proofs.searches.push_sharing_as_wide.Given as goal

abbrev pub invariant-loop-index : goal.invariant-loop-index
invariant-loop-index l = record {
  kept : IsKeptUpto (SharesWords l.rows.rows l.filter.union.now l.filter.among.now l.filter.least) l.start (length l.filter.among.now) l.index l.fn.list.items (take l.next l.list.items);
  before : take (length l.fn.list.items) l.list.items ≡ l.fn.list.items;
  long : length l.list.items ≡ length l.fn.list.items + (length l.fn.list.items - l.start);
  least : length l.fn.list.items ≤ l.next;
  most : l.next + l.start ≤ length l.fn.list.items + l.index;
}
