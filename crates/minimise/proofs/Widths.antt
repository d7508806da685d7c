-- The widths of the rows of a list.
use Rattle.std.proofs.Common.{◌≡◌, ℕ, ◌≤◌, ◌++◌, List, [], length, take, drop, ℤ, false, refl, ap, ◌∙◌, arith}
use Rattle.std.specs.Prelude.{All}
use Rattle.std.proofs.lemmas.List.{length-take-le, length-append, length-drop}
use Rattle.std.proofs.lemmas.List.Elements.{All-from_get_or}
use Rattle.row_core.specs.Lists.{Rows, vectors, FitWidth}
use Rattle.cone_laws.specs.Canon.{IsEchelon}
use Rattle.row_core.proofs.RowListLemmas.{length-vectors, vector_at-vectors}
use Rattle.minimise.proofs.NarrowBases.{echelon_is_narrow}

pub vectors_wide : (width : ℕ) (list : Rows) → FitWidth list → list.width ≡ width → All (λ (l : List ℤ). length l ≡ width) (vectors list.rows)
vectors_wide width list fit w =
    All-from_get_or (λ (l : List ℤ). length l ≡ width) (vectors list.rows) []
    (λ i h. ap (λ (v : List ℤ). length v) (vector_at-vectors list.rows i) ∙ (fit.each i ([], false) (let n = length-vectors list.rows in omega (arith, h, n))).wide ∙ w)

-- a basis has at most as many lines as columns
pub lines_narrow : (list : Rows) → FitWidth list → IsEchelon (vectors list.rows) [] → length list.rows ≤ list.width
lines_narrow list fit e = omega (arith, echelon_is_narrow list.width (vectors list.rows) [] e (vectors_wide list.width list fit refl), length-vectors list.rows)

-- a buffer that was lent is as wide as before, whatever was written over it
pub lent_wide : (old new : List ℤ) (width : ℕ) → length old ≡ width → length (take (length old) (new ++ drop (length new) old)) ≡ width
lent_wide old new width w = length-take-le (length old) (new ++ drop (length new) old) (omega (arith, length-append new (drop (length new) old), length-drop (length new) old)) ∙ w
