use Rattle.std.specs.Prelude.{◌≡◌, ◌≢◌, ℕ, ◌+◌, ◌<◌, ◌↔◌, Bool, false, List, length, slice_index_or, IsTrue, ℤ, pos, ◌<ℤ◌}
use Rattle.row_core.specs.Vectors.{cell}
use Rattle.row_core.specs.Lists.{Row, row_at}
use Rattle.nnc_enc.specs.declared.marks.Mark.{Mark}
use Rattle.nnc_enc.specs.declared.marks.Mark.TheVariants.{Level, Place, Strict, Point}

-- what a mark asks of the columns e and d
abbrev pub Tells : Mark → ℤ → ℤ → Type 0
Tells Level e d = e ≡ pos 0
Tells Place e d = (e ≡ pos 0) × (d ≢ pos 0)
Tells Strict e d = e <ℤ pos 0
Tells Point e d = pos 0 <ℤ e

abbrev pub flag : List Bool → ℕ → Bool
flag marks i = slice_index_or marks i false

-- a truth value for each of the first k rows: what the mark asks of it
pub record AreTold (mark : Mark) (dim : ℕ) (rows : List Row) (marks : List Bool)
    (k : ℕ) : Type 0 where
  pub as_many : length marks ≡ k
  pub each : (i : ℕ) → i < k → IsTrue (flag marks i)
      ↔ Tells mark (cell (row_at rows i) dim) (cell (row_at rows i) (dim + 1))
