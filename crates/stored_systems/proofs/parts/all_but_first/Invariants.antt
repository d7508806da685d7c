use Rattle.std.proofs.Common.{◌≡◌, ◌∷◌, ◌-◌, ◌≤◌, replicate, true, false}
use Rattle.stored_systems.proofs.parts.all_but_first.Given as goal

abbrev pub invariant-loop-row : goal.invariant-loop-row
invariant-loop-row l = record {
  from : 1 ≤ l._row;
  items : l.marks.items ≡ false ∷ replicate (l._row - 1) true;
}
