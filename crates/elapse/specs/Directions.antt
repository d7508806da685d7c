use Rattle.std.specs.Prelude.{◌≡◌, ℕ, List, [], ◌∷◌, set, ℤ, pos}
use Rattle.row_core.specs.Content.{IsPrimitiveOf}
use Rattle.gens_sys.specs.Kinds.{IsZeroDirection}
use Rattle.gens_sys.specs.declared.kind.GenKind.{GenKind}
use Rattle.gens_sys.specs.declared.kind.GenKind.TheVariants.{Line, Ray, Point, ClosurePoint}
use Rattle.gens_sys.specs.Generators.{Generator, Gains}

-- the vector with 0 as its last entry
abbrev pub levelled : ℕ → List ℤ → List ℤ
levelled dim v = set v dim (pos 0)

-- a line stays a line, and each other generator is a ray as a direction
abbrev pub direction_kind : GenKind → GenKind
direction_kind Line = Line
direction_kind Ray = Ray
direction_kind Point = Ray
direction_kind ClosurePoint = Ray

-- the generators in order as directions, each with 0 as its last entry and made primitive; one that
-- is then 0 is left out
pub data AreDirections (dim : ℕ) : List Generator → List Generator → Type 0 where
  no_direction : AreDirections dim [] []
  zero_direction : {v : List ℤ} {kind : GenKind} {old new : List Generator}
      → IsZeroDirection (direction_kind kind) (levelled dim v) → AreDirections dim old new
      → AreDirections dim ((v, kind) ∷ old) new
  one_direction : {v stored : List ℤ} {kind : GenKind} {old new : List Generator}
      → ¬ (IsZeroDirection (direction_kind kind) (levelled dim v))
      → IsPrimitiveOf (levelled dim v) stored → AreDirections dim old new
      → AreDirections dim ((v, kind) ∷ old) ((stored, direction_kind kind) ∷ new)

-- the list gained the vector as a direction, or is as before where the vector is 0 as one
pub data GainsDirection (dim : ℕ) (old new : List Generator) (row : List ℤ)
    (kind : GenKind) : Type 0 where
  left_out : IsZeroDirection (direction_kind kind) (levelled dim row) → new ≡ old
      → GainsDirection dim old new row kind
  gained : ¬ (IsZeroDirection (direction_kind kind) (levelled dim row))
      → Gains old new (levelled dim row) (direction_kind kind) → GainsDirection dim old new row kind
