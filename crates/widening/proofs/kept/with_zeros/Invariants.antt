use Rattle.std.proofs.Common.{◌≡◌}
use Rattle.std.specs.Prelude.{IsTrue}
use Rattle.stored_systems.specs.PointSets.{AreClosed}
use Rattle.widening.specs.Values.{HaveZerosAmong, AreAmong}
use Rattle.widening.proofs.AmongLists.{HoldsAmong}
use Rattle.widening.proofs.kept.with_zeros.Given as goal

abbrev pub invariant-loop-index : goal.invariant-loop-index
invariant-loop-index l = record {
  dim : l.kept.dim ≡ l.cons.dim;
  closed : AreClosed l.kept;
  those : AreAmong l.p l.cons l.index l.kept.list;
  holds : HoldsAmong l.p l.cons l.index l.kept.list;
  all : IsTrue l.all → HaveZerosAmong l.p l.cons l.index;
}
