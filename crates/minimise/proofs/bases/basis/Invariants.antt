use Rattle.std.proofs.Common.{◌≡◌, ◌≤◌, ◌+◌, ◌*◌, length, map, take, true}
use Rattle.row_core.specs.Lists.{row_at, vectors, AreMarked}
use Rattle.minimise.specs.Bases.{IsBasis}
use Rattle.minimise.specs.MinimalForms.{AreIndependent}
use Rattle.minimise.specs.Buffers.{HasBuffers}
use Rattle.minimise.proofs.bases.basis.Given as goal

abbrev pub invariant-loop-index : goal.invariant-loop-index
invariant-loop-index g l = record {
  buffers : HasBuffers l.basis;
  width : l.basis.lines.width ≡ l.rows.width;
  no_fewer : l.initial.steps ≤ l.steps;
  no_more : l.steps ≤ l.initial.steps + 2 * (l.index * l.rows.width);
  basis : IsBasis (map (row_at l.rows.rows) (take l.index l.places)) (vectors l.basis.lines.rows);
  marks : AreMarked true l.basis.lines.rows;
  as_many : AreIndependent (map (row_at l.rows.rows) l.places) → length (vectors l.basis.lines.rows) ≡ l.index;
}
