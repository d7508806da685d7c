use Rattle.std.specs.Prelude.{◌≡◌, ℕ, ◌<◌, List, ℤ, pos, All, unsigned_abs, ◌⊎◌}
use Prim.Native.Nat.{◌∣◌}
use Rattle.row_core.specs.Vectors.{scale}

-- the number divides each entry
abbrev pub DividesAll : ℕ → List ℤ → Type 0
DividesAll d v = All (λ z. d ∣ unsigned_abs z) v

-- all entries are 0, or nothing but 1 divides each entry
abbrev pub IsPrimitive : List ℤ → Type 0
IsPrimitive v = All (λ z. z ≡ pos 0) v ⊎ ((d : ℕ) → DividesAll d v → d ≡ 1)

-- the old vector is a positive multiple of the new one
pub record IsMultipleOf (old new : List ℤ) : Type 0 where
  pub times : ℕ
  pub positive : 0 < times
  pub same : old ≡ scale (pos times) new

-- the new vector is the primitive one of which the old is a positive multiple
pub record IsPrimitiveOf (old new : List ℤ) : Type 0 where
  pub multiple : IsMultipleOf old new
  pub primitive : IsPrimitive new
