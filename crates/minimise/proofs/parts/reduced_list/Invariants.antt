use Rattle.std.proofs.Common.{◌≡◌, ◌≤◌, ◌+◌, ◌*◌, length, take, false}
use Rattle.row_core.specs.Lists.{vectors, row_at, AreMarked, Pointwise}
use Rattle.minimise.specs.Bases.{IsReduced}
use Rattle.minimise.proofs.parts.reduced_list.Given as goal

abbrev pub invariant-loop-index : goal.invariant-loop-index
invariant-loop-index g l = record {
  width : l.new.width ≡ l.lines.width;
  marks : AreMarked false l.new.rows;
  buffer : length l.reduced.items ≡ l.lines.width;
  scratch : length l.scratch.items ≡ l.lines.width;
  no_fewer : l.initial.steps ≤ l.steps;
  no_more : l.steps ≤ l.initial.steps + l.index * l.rows.width;
  reduced : Pointwise (λ i r. IsReduced (vectors l.lines.rows) (row_at l.rows.rows i) r) (take l.index l.kept) (vectors l.new.rows);
}
