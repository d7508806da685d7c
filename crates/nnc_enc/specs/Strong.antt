use Rattle.std.specs.Prelude.{◌≡◌, ◌≢◌, ◌↔◌, ℕ, ◌+◌, ◌<◌, Bool, true, false, List, length, IsTrue, ℤ, pos, ◌<ℤ◌}
use Rattle.row_core.specs.Vectors.{cell, dot}
use Rattle.row_core.specs.Lists.{Row, row_at}
use Rattle.sat_matrix.specs.Tables.{bits_of}
use Rattle.cone_laws.specs.Canon.{vector_at}
use Rattle.nnc_enc.specs.StrongRows.{HasVariable, kept_at, IsSpare, IsSpareVector, HasPlace, IsApart}
use Rattle.nnc_enc.specs.Marks.{flag}
use Rattle.nnc_enc.specs.Passes.{IsClear}

-- ---- constraints
-- the first k rows are kept that have a variable, but for the marked ones that are true at
-- none of the columns
abbrev pub StaysAtFirst : ℕ → List Row → List Bool → List Bool → List (List Bool) → ℕ → Type 0
StaysAtFirst dim rows strict places bits i = HasVariable dim (row_at rows i)
    × ¬ (IsTrue (flag strict i) × IsClear places (bits_of bits i) (length places))

pub record AreFirstRows (dim : ℕ) (rows : List Row) (strict places : List Bool)
    (bits : List (List Bool)) (keep : List Bool) (k : ℕ) : Type 0 where
  pub as_many : length keep ≡ k
  pub each : (i : ℕ) → i < k → IsTrue (flag keep i) ↔ StaysAtFirst dim rows strict places bits i

-- what is left out isn't needed, and of what is kept each strict row has a place and is
-- apart from the others
pub record IsStrictPass (dim : ℕ) (gens : List Row) (rays : List (List ℤ))
    (keep : List Bool) : Type 0 where
  pub as_many : length keep ≡ length rays
  pub spare : (i : ℕ) → i < length rays → kept_at keep i ≡ false → IsSpare dim gens rays keep i
  pub variable : (i : ℕ) → i < length rays → kept_at keep i ≡ true
      → HasVariable dim (vector_at rays i)
  pub place : (i : ℕ) → i < length rays → kept_at keep i ≡ true
      → cell (vector_at rays i) dim <ℤ pos 0 → HasPlace dim gens (vector_at rays i)
  pub apart : (i t : ℕ) → i < length rays → t < length rays → kept_at keep i ≡ true
      → kept_at keep t ≡ true → t ≢ i → cell (vector_at rays i) dim <ℤ pos 0
      → cell (vector_at rays t) dim <ℤ pos 0
      → IsApart dim gens (vector_at rays t) (vector_at rays i)

-- ---- generators
-- the first k vectors are kept, but for the marked ones that are true at none of the columns
pub record AreFirstVectors (places strict : List Bool) (bits : List (List Bool)) (keep : List Bool)
    (k : ℕ) : Type 0 where
  pub as_many : length keep ≡ k
  pub each : (i : ℕ) → i < k → IsTrue (flag keep i)
      ↔ (¬ (IsTrue (flag places i) × IsClear strict (bits_of bits i) (length strict)))

-- some strict row of the list is 0 on the vector
pub record HasStrictRow (dim : ℕ) (rows : List Row) (v : List ℤ) : Type 0 where
  pub number : ℕ
  pub below : number < length rows
  pub strict : cell (row_at rows number) dim <ℤ pos 0
  pub zero_on : dot (row_at rows number) v ≡ pos 0

-- what is left out isn't needed, and of what is kept each closure point has a strict row and each
-- point is apart from the others
pub record IsPointPass (dim : ℕ) (cons : List Row) (rays : List (List ℤ))
    (keep : List Bool) : Type 0 where
  pub as_many : length keep ≡ length rays
  pub spare : (i : ℕ) → i < length rays → kept_at keep i ≡ false
      → IsSpareVector dim cons rays keep i
  pub bound : (i : ℕ) → i < length rays → kept_at keep i ≡ true
      → cell (vector_at rays i) dim ≡ pos 0 → cell (vector_at rays i) (dim + 1) ≢ pos 0
      → HasStrictRow dim cons (vector_at rays i)
  pub apart : (i t : ℕ) → i < length rays → t < length rays → kept_at keep i ≡ true
      → kept_at keep t ≡ true → t ≢ i → pos 0 <ℤ cell (vector_at rays i) dim
      → pos 0 <ℤ cell (vector_at rays t) dim
      → IsApart dim cons (vector_at rays t) (vector_at rays i)
