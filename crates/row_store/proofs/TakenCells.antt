-- Rows that are the same by their cells, which are taken over or given up.
use Rattle.std.specs.Prelude.{◌≡◌, Bool, List, [], ◌∷◌, ◌++◌, length, ℤ}
use Rattle.std.proofs.Common.{refl, sym, ap, ◌∙◌}
use Rattle.std.proofs.lemmas.List.{length-map}
use Rattle.std.proofs.lemmas.List.Elements.{All-map, All-from_get_or}
use Rattle.row_core.specs.Lists.{Row, AreMarked}
use Rattle.row_core.specs.MarkedCells.{cells_of, AreWide}
use Rattle.row_core.proofs.MarkedCellLemmas.{same_cells}
use Rattle.flat_rows.specs.Flat.{Flat, AreCells, HasOneWidth, cells_of as flat_cells}
use Rattle.flat_rows.proofs.Flat.{row_of_cells, length_row}
use Rattle.row_store.specs.Vectors.{with_mark}

-- marks change no cell
cells_of-with_mark : (eq : Bool) (vs : List (List ℤ)) → cells_of (with_mark eq vs) ≡ flat_cells vs
cells_of-with_mark eq [] = refl
cells_of-with_mark eq (v ∷ vs) = ap (λ (l : List ℤ). v ++ l) (cells_of-with_mark eq vs)

rows_wide : (t : Flat ℤ) (cells : List ℤ) → AreCells t cells → HasOneWidth t
rows_wide t cells are i below = ap length (sym (row_of_cells t cells i are below)) ∙ length_row t.width (length t.rows) i cells below are.taken

-- marked rows are those of the store that has their cells
pub rows_from_cells : (eq : Bool) (t : Flat ℤ) (cells : List ℤ) (rows : List Row) → AreCells t cells → AreWide t.width rows → AreMarked eq rows → length rows ≡ length t.rows → cells_of rows ≡ cells → rows ≡ with_mark eq t.rows
rows_from_cells eq t cells rows are wide alike as_many same =
    let Wide : Row → Type 0 = λ row. length row.0 ≡ t.width in
    let Marked : Row → Type 0 = λ row. row.1 ≡ eq in
    let put : List ℤ → Row = λ v. (v, eq) in
    let wide_rows : AreWide t.width (with_mark eq t.rows) = All-map Wide put t.rows (All-from_get_or (λ (v : List ℤ). length v ≡ t.width) t.rows [] (rows_wide t cells are)) in
    let marked_rows : AreMarked eq (with_mark eq t.rows) = All-map Marked put t.rows (λ k d h. refl) in
    same_cells t.width eq rows (with_mark eq t.rows) wide wide_rows (as_many ∙ sym (length-map t.rows put)) (same ∙ are.same ∙ sym (cells_of-with_mark eq t.rows)) alike marked_rows
