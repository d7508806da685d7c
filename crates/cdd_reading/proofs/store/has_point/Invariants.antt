use Rattle.std.proofs.Common.{◌≡◌}
use Rattle.std.specs.List.{list_any}
use Rattle.cdd_reading.specs.Files.{is_point}
use Rattle.cdd_reading.proofs.store.has_point.Given as goal

abbrev pub invariant-loop-kind : goal.invariant-loop-kind
invariant-loop-kind l = record {
  can_next : (goal.iterator-loop-kind).can_next l.kind-iterator;
  is_finite : (goal.iterator-loop-kind).is_finite l.kind-iterator;
  same : list_any is_point l.kind-iterator ≡ list_any is_point l.fn.system.list;
}
