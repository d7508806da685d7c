-- The words of places, as a table keeps them.
use Rattle.std.specs.Prelude.{◌≡◌, ℕ, ◌+◌, ◌*◌, ◌<◌, ◌≤◌, List, length, ℤ, pos, None, get_or, slice_index_or}
use Rattle.std.specs.Int.{w64}
use mir.Val.{Fits, of_z, to_z}
use Rattle.std.proofs.Common.{arith, sym, ◌∙◌, ap, subst}
use Rattle.std.proofs.lemmas.Int.{to_z-of_z}
use Rattle.std.proofs.lemmas.Nat.{mul-add-lt, mul-le}
use Rattle.std.proofs.lemmas.List.{get_or_read}
use Rattle.difference_bounds.specs.Walks.{Bound}
use Rattle.difference_bounds.specs.Tables.{Table, bounds_of}
use Rattle.difference_bounds.specs.Words.{IsWord, IsStored}
use Rattle.difference_bounds.proofs.WordLemmas.{word_fits}

pub place_fits : (m i j : ℕ) → m ≤ 64 → i < m → j < m → Fits w64 (i * m + j)
place_fits m i j few li lj = record { fits = omega (arith, mul-add-lt i m j m li lj, mul-le m m 64 64 few few) }

pub row_fits : (m i : ℕ) → m ≤ 64 → i < m → Fits w64 (i * m)
row_fits m i few li = let whole = place_fits m i 0 few li (omega (arith, li)) in record { fits = omega (arith, whole.fits) }

module _ (t now : Table) (ws : List ℤ) (bs : List Bound) (n i j : ℕ) (s : IsStored t ws bs) (view : t ≡ now) (same : now.places ≡ n) (li : i < n) (lj : j < n) where
  places : t.places ≡ n
  places = ap (λ (x : Table). x.places) view ∙ same

  pub word_below : i * n + j < length ws
  word_below = let most = mul-add-lt i n j n li lj in omega (arith, most, s.worded.full ∙ s.table.full ∙ ap (λ (k : ℕ). k * k) places)

  pub word_at : (w : ℤ) → w ≡ get_or ws (i * n + j) w → IsWord (bounds_of now i j) w
  word_at w e =
      let cell : slice_index_or t.cells (i * n + j) None ≡ bounds_of now i j = ap (λ (x : Table). slice_index_or x.cells (i * n + j) None) view ∙ ap (λ (k : ℕ). slice_index_or now.cells (i * k + j) None) (sym same) in
      subst (λ (b : Bound). IsWord b w) cell
      (subst (IsWord (slice_index_or t.cells (i * n + j) None)) (sym (get_or_read ws (i * n + j) w word_below e (pos 0)))
      (s.worded.each (i * n + j) (subst (λ (k : ℕ). i * n + j < k) s.worded.full word_below)))

  pub word_read : (w : ℤ) → w ≡ get_or ws (i * n + j) w → IsWord (bounds_of now i j) (to_z w64 (of_z w64 w))
  word_read w e = let is = word_at w e in subst (IsWord (bounds_of now i j)) (sym (to_z-of_z w64 w (word_fits (bounds_of now i j) w is))) is
