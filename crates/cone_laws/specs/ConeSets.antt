use Rattle.std.specs.Prelude.{◌≡◌, ℕ, List, length, ℤ, pos, ◌+ℤ◌, ◌≤ℤ◌, ◌<ℤ◌}
use Rattle.std.proofs.Math.IntN.{◌*ℤ◌}
use Rattle.row_core.specs.Vectors.{cell}

-- the members have the width, and a vector of the width is a member where a positive multiple
-- of it is a sum of two members with factors of at least 0
pub record IsCone (width : ℕ) (C : List ℤ → Type 0) : Type 0 where
  pub wide : (v : List ℤ) → C v → length v ≡ width
  pub closed : (m s t : ℤ) (u v w : List ℤ) →
      pos 0 <ℤ m →
      pos 0 ≤ℤ s →
      pos 0 ≤ℤ t →
      C u →
      C v →
      length w ≡ width →
      ((j : ℕ) → m *ℤ cell w j ≡ s *ℤ cell u j +ℤ t *ℤ cell v j) →
      C w
