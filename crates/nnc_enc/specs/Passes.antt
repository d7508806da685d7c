use Rattle.std.specs.Prelude.{◌≡◌, ◌≢◌, ◌⊎◌, ℕ, ◌+◌, ◌<◌, Bool, false, List, length, slice_set, IsTrue}
use Rattle.sat_matrix.specs.Tables.{bits_of, Covers}
use Rattle.nnc_enc.specs.Marks.{flag}

-- the table has the rows and then one that is true at the marked columns alone
pub record HasMarksRow (marks : List Bool) (rows new : List (List Bool)) : Type 0 where
  pub as_many : length new ≡ length rows + 1
  pub same : (i : ℕ) → i < length rows → bits_of new i ≡ bits_of rows i
  pub wide : length (bits_of new (length rows)) ≡ length marks
  pub marked : (c : ℕ) → flag (bits_of new (length rows)) c ≡ flag marks c

-- the list is true at none of the marked columns below k
abbrev pub IsClear : List Bool → List Bool → ℕ → Type 0
IsClear columns bits k = (c : ℕ) → c < k → IsTrue (flag columns c) → ¬ (IsTrue (flag bits c))

-- row t is another row than i, marked and kept, and true at each level column at which row i is
pub record IsCover (level marks : List Bool) (rows : List (List Bool)) (keep : List Bool)
    (i t : ℕ) : Type 0 where
  pub row : t < length rows
  pub other : t ≢ i
  pub marked : IsTrue (flag marks t)
  pub kept : IsTrue (flag keep t)
  pub covers : Covers level (bits_of rows i) (bits_of rows t)

abbrev pub IsCoveredRow : List Bool → List Bool → List (List Bool) → List Bool → ℕ → Type 0
IsCoveredRow level marks rows keep i = (t : ℕ) × IsCover level marks rows keep i t

-- row i was left out since it is marked, kept and covered
pub record IsDropped (level marks : List Bool) (rows : List (List Bool)) (old new : List Bool)
    (i : ℕ) : Type 0 where
  pub marked : IsTrue (flag marks i)
  pub covered : IsCoveredRow level marks rows old i
  pub written : new ≡ slice_set old i false

-- or it stays, and if it is marked and kept then nothing covers it
pub record IsLeft (level marks : List Bool) (rows : List (List Bool)) (old new : List Bool)
    (i : ℕ) : Type 0 where
  pub same : new ≡ old
  pub bare : IsTrue (flag marks i) → IsTrue (flag old i) → ¬ (IsCoveredRow level marks rows old i)

abbrev pub IsStep : List Bool → List Bool → List (List Bool) → List Bool → List Bool → ℕ → Type 0
IsStep level marks rows old new i = IsDropped level marks rows old new i
    ⊎ IsLeft level marks rows old new i

-- what was left out is marked and covered by what is kept; of the first k rows, nothing that is
-- marked and kept is covered
pub record IsPassed (level marks : List Bool) (rows : List (List Bool)) (old new : List Bool)
    (k : ℕ) : Type 0 where
  pub fewer : (i : ℕ) → IsTrue (flag new i) → IsTrue (flag old i)
  pub spare : (i : ℕ) → IsTrue (flag old i) → ¬ (IsTrue (flag new i))
      → IsTrue (flag marks i) × IsCoveredRow level marks rows new i
  pub apart : (i : ℕ) → i < k → IsTrue (flag marks i) → IsTrue (flag new i)
      → ¬ (IsCoveredRow level marks rows new i)
