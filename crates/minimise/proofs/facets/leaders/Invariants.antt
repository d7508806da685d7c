use Rattle.std.proofs.Common.{ℕ, ◌<◌, ◌≤◌, length, slice_index_or}
use Rattle.std.specs.Prelude.{All}
use Rattle.sat_matrix.specs.Tables.{bits_of, IsWithinSome}
use Rattle.sat_matrix.specs.Counts.{ones}
use Rattle.minimise.specs.declared.facets.CountedRow.{CountedRow}
use Rattle.minimise.specs.Facets.{IsUneven, AreApart}
use Rattle.minimise.proofs.facets.leaders.Given as goal

abbrev pub invariant-loop-index : goal.invariant-loop-index
invariant-loop-index l = record {
  uneven : All (IsUneven l.table.rows) l.places.items;
  apart : AreApart l.table.rows l.places.items;
  longer : All (λ p. (j : ℕ) (d : CountedRow) → l.index ≤ j → j < length l.ranked → (slice_index_or l.ranked j d).ones ≤ ones (bits_of l.table.rows p)) l.places.items;
  led : (j : ℕ) (d : CountedRow) → j < l.index → IsWithinSome l.table.rows (slice_index_or l.ranked j d).place l.places.items;
  fewer : length l.places.items ≤ l.index;
}
