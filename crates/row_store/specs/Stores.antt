use Rattle.std.specs.Prelude.{◌≡◌, ℕ, ◌^◌, ◌<◌, List, length, ℤ, pos, slice_set, All}
use Rattle.std.proofs.Math.IntN.{neg_ℤ}
use Rattle.row_core.specs.Vectors.{scale, add}
use Rattle.row_core.specs.Range.{AllInRange, CombineStays, IsFirstToLeave, AllStay}
use Rattle.flat_rows.specs.Flat.{Flat, entries_at, window, with_window}

-- a u32 names each column, and each number is of the range
pub record IsKept (t : Flat ℤ) : Type 0 where
  pub narrow : t.width < 2 ^ 32
  pub in_range : All AllInRange t.rows

-- the second row has all signs of the first changed
abbrev pub IsNegated : List ℤ → List ℤ → Type 0
IsNegated u v = v ≡ scale (neg_ℤ (pos 1)) u

-- the cells from one place on, as many as a row has, are changed into a row that stands to them
-- as said; the others stay
pub record IsPartChanged (Related : List ℤ → List ℤ → Type 0)
    (p w : ℕ) (old new : List ℤ) : Type 0 where
  pub row : List ℤ
  pub wide : length row ≡ w
  pub same : new ≡ with_window p w row old
  pub related : Related (window p w old) row

-- a part of the cells is written over by s times it and t times a vector, and no product or sum
-- leaves the range
abbrev pub IsPartCombined : (p w : ℕ) (s : ℤ) (v : List ℤ) (t : ℤ) (old new : List ℤ) → Type 0
IsPartCombined p w s v t old new =
    (new ≡ with_window p w (add (scale s (window p w old)) (scale t v)) old)
    × AllStay (CombineStays (window p w old) s v t) w

-- nothing is written, and j is the first column at which a product or the sum leaves the range
abbrev pub IsPartLeft : (p w : ℕ) (s : ℤ) (v : List ℤ) (t : ℤ) (old new : List ℤ) (j : ℕ) → Type 0
IsPartLeft p w s v t old new j =
    (new ≡ old) × IsFirstToLeave (CombineStays (window p w old) s v t) w j

-- row i is written over by s times it and t times a vector, and no product or sum leaves the range
abbrev pub IsCombinedWith : ℤ → ℤ → ℕ → List ℤ → Flat ℤ → Flat ℤ → Type 0
IsCombinedWith s t i v old new =
    (new ≡ record old {
      rows = slice_set old.rows i (add (scale s (entries_at old.rows i)) (scale t v));
    })
    × AllStay (CombineStays (entries_at old.rows i) s v t) old.width

-- nothing is written, and c is the first column at which a product or the sum leaves the range
abbrev pub IsRefusedAt : ℤ → ℤ → ℕ → List ℤ → Flat ℤ → Flat ℤ → ℕ → Type 0
IsRefusedAt s t i v old new c =
    (new ≡ old) × IsFirstToLeave (CombineStays (entries_at old.rows i) s v t) old.width c

-- row i is changed into one that stands to it as said; all else stays
pub record IsRowChanged (Related : List ℤ → List ℤ → Type 0)
    (i : ℕ) (old new : Flat ℤ) : Type 0 where
  pub row : List ℤ
  pub same : new ≡ record old { rows = slice_set old.rows i row }
  pub related : Related (entries_at old.rows i) row
