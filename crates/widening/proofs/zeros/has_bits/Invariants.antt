use Rattle.std.specs.Prelude.{◌≡◌, ℕ, ◌<◌, false, slice_index_or}
use Rattle.sat_matrix.specs.Tables.{bit_at}
use Rattle.widening.proofs.zeros.has_bits.Given as goal

abbrev pub invariant-loop-column : goal.invariant-loop-column
invariant-loop-column l = (n : ℕ) → n < l.column → bit_at l.table.rows l.i n ≡ slice_index_or l.bits n false
