use Rattle.std.proofs.Common.{ℕ, ◌<◌, ◌≤◌}
use Rattle.cons_sys.specs.Constraints.{constraint_at}
use Rattle.cover_search.specs.Regions.{HoldsOn}
use Rattle.cover_search.proofs.contacts.contact_of.Given as goal

abbrev pub invariant-loop-index : goal.invariant-loop-index
invariant-loop-index l = record {
  few : l.crossed ≤ l.index;
  end : l.end ≤ l.index;
  hold : (i : ℕ) → l.end ≤ i → i < l.index → HoldsOn l.region (constraint_at l.walls.list i);
}
