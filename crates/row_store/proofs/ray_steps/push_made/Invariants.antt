use Rattle.std.proofs.Common.{◌≡◌, ◌≤◌, ◌+◌, take, length, false}
use Rattle.row_core.specs.Lists.{AreMarked}
use Rattle.row_store.specs.Changes.{HasMade}
use Rattle.row_store.proofs.ray_steps.push_made.Given as goal

abbrev pub invariant-loop-index : goal.invariant-loop-index
invariant-loop-index g l = record {
  width : l.rays.width ≡ l.initial.rays.width;
  spare : length l.pairs ≤ l.rays.spare + l.index;
  as_many : length l.values ≤ length l.rays.rows;
  no_fewer : l.initial.steps ≤ l.steps;
  no_more : l.steps ≤ l.initial.steps + l.index;
  made : HasMade l.values l.initial.rays.rows (take l.index l.pairs) l.initial.rays.rows l.rays.rows;
  marked : AreMarked false l.rays.rows;
}
