use Rattle.std.specs.Prelude.{ℕ, ◌≤◌, ◌^◌, take}
use Prim.Native.Nat.{◌∣◌}
use Rattle.row_core.specs.Content.{DividesAll}
use Rattle.row_core.proofs.primitive.words_content.Given as goal

abbrev pub invariant-loop-j : goal.invariant-loop-j
invariant-loop-j l = record {
  divides : DividesAll l.divisor (take l.j l.row);
  greatest : (d : ℕ) → DividesAll d (take l.j l.row) → d ∣ l.divisor;
  below : l.divisor ≤ 2 ^ 62;
}
