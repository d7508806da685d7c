-- The rows of a pair that leaves the range.
use Rattle.std.specs.Prelude.{ℕ, List, ℤ}
use Rattle.row_core.specs.declared.PairOver.{PairOver}
use Rattle.row_core.specs.declared.errors.Overflow.{Overflow}
use Rattle.row_core.specs.declared.errors.OverKind.{OverKind}
use Rattle.row_core.specs.declared.errors.OverKind.TheVariants.{Dot, Combine, Scale, Compare}
use Rattle.gens_sys.specs.Generators.{Generators, row_at}

-- the row, or the generator that is compared
abbrev pub left_shown : OverKind → List ℤ → Generators → ℕ → List ℤ
left_shown Compare row gs i = row_at gs.list i
left_shown Dot row gs i = row
left_shown Combine row gs i = row
left_shown Scale row gs i = row

-- the rows of a pair of numbers
abbrev pub shown_values : List ℤ → Generators → PairOver → Overflow
shown_values row gs pair = record {
  kind = pair.kind;
  step = 0;
  left = left_shown pair.kind row gs pair.left;
  right = row_at gs.list pair.right;
  column = pair.column;
}
