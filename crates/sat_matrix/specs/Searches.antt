use Rattle.std.specs.Prelude.{ℕ, ◌≤◌, Bool, List, slice_index_or}
use Rattle.sat_matrix.specs.Tables.{bits_of, conjunction}
use Rattle.sat_matrix.specs.Counts.{ones}

-- row i shares at least so many true places with the row that the list names at position q
abbrev pub Shares : List (List Bool) → ℕ → List ℕ → ℕ → ℕ → Type 0
Shares rows i among least q =
    least ≤ ones (conjunction (bits_of rows i) (bits_of rows (slice_index_or among q 0)))
