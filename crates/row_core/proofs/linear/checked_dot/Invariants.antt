use Rattle.std.specs.Prelude.{◌≡◌, take}
use Rattle.row_core.specs.Vectors.{dot}
use Rattle.row_core.specs.Range.{InRange, DotStays, AllStay}
use Rattle.row_core.proofs.linear.checked_dot.Given as goal

abbrev pub invariant-loop-j : goal.invariant-loop-j
invariant-loop-j l = record {
  total : l.total ≡ dot (take l.j l.u) (take l.j l.v);
  in_range : InRange l.total;
  stay : AllStay (DotStays l.u l.v) l.j;
}
