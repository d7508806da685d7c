-- The turned table of zeros tells, of each row of the list, on which rays it is 0.
use Rattle.std.specs.Prelude.{◌≡◌, ℕ, ◌<◌, ◌↔◌, Bool, false, List, [], length, map, ℤ, pos, IsTrue, slice_index_or}
use Rattle.std.specs.List.{range_with_len}
use Rattle.std.proofs.Common.{ap, sym, ◌∙◌, subst, arith}
use Rattle.std.proofs.lemmas.List.{length-map, get_or-map}
use Rattle.std.proofs.lemmas.List.FromFn.{length-range_with_len, get_or-map-range_with_len}
use Rattle.row_core.specs.Vectors.{dot}
use Rattle.row_core.specs.Lists.{Row, row_at}
use Rattle.sat_matrix.specs.Tables.{Table, bits_of, transposed}
use Rattle.sat_matrix.specs.ZeroTables.{IsZeroTable}

-- each row of the table tells the rays on which a row of the list is 0
pub record TellsRows (rows : List Row) (rays : List (List ℤ)) (table : List (List Bool)) : Type 0 where
  pub as_many : length table ≡ length rows
  pub wide : (i : ℕ) → i < length rows → length (bits_of table i) ≡ length rays
  pub tells : (i j : ℕ) → i < length rows → j < length rays → IsTrue (slice_index_or (bits_of table i) j false) ↔ (dot (row_at rows i) (slice_index_or rays j []) ≡ pos 0)

turned_row : (sat : Table) (i : ℕ) → i < sat.columns → bits_of (transposed sat.columns sat.rows) i ≡ map (λ (row : List Bool). slice_index_or row i false) sat.rows
turned_row sat i h =
    get_or-map-range_with_len (λ (j : ℕ). map (λ (row : List Bool). slice_index_or row j false) sat.rows) 0 sat.columns i i [] h (omega arith)

pub turned_tells : (rows : List Row) (rays : List (List ℤ)) (sat : Table) → IsZeroTable rows (length rows) rays sat → TellsRows rows rays (transposed sat.columns sat.rows)
turned_tells rows rays sat z = record {
  as_many = length-map (range_with_len 0 sat.columns) (λ (j : ℕ). map (λ (row : List Bool). slice_index_or row j false) sat.rows) ∙ length-range_with_len 0 sat.columns ∙ z.columns;
  wide = λ i h. ap (λ (bits : List Bool). length bits) (turned_row sat i (omega (arith, h, z.columns))) ∙ length-map sat.rows (λ (row : List Bool). slice_index_or row i false) ∙ z.each.as_many;
  tells = λ i j h k.
      let same : slice_index_or (bits_of (transposed sat.columns sat.rows) i) j false ≡ slice_index_or (bits_of sat.rows j) i false =
      ap (λ (bits : List Bool). slice_index_or bits j false) (turned_row sat i (omega (arith, h, z.columns))) ∙ get_or-map (λ (row : List Bool). slice_index_or row i false) sat.rows j [] false (omega (arith, k, z.each.as_many)) in
      subst (λ (b : Bool). IsTrue b ↔ (dot (row_at rows i) (slice_index_or rays j []) ≡ pos 0)) (sym same) ((z.each.each j [] [] k).zeros i h);
}
