use Rattle.std.specs.Prelude.{◌≡◌, ◌⊎◌, ℕ, ◌+◌, List, [], ◌∷◌, ◌++◌, ℤ}
use Rattle.row_core.specs.Content.{IsPrimitiveOf}
use Rattle.cons_sys.specs.declared.kind.ConKind.{ConKind}
use Rattle.cons_sys.specs.Constraints.{Constraint, Constraints}
use Rattle.gens_sys.specs.declared.kind.GenKind.{GenKind}
use Rattle.gens_sys.specs.Kinds.{IsZeroDirection}
use Rattle.gens_sys.specs.Generators.{Generator, Generators, Gains}
use Rattle.mapped_systems.specs.Maps.{with_zeros}

-- ---- generators
-- the new generators are those that the map gives of the old ones, in order: each made primitive,
-- without the lines and rays that became 0
pub data AreMapped (f : List ℤ → List ℤ) : List Generator → List Generator → Type 0 where
  nothing : AreMapped f [] []
  left_out : {v : List ℤ} {kind : GenKind} {old new : List Generator} → IsZeroDirection kind (f v)
      → AreMapped f old new → AreMapped f ((v, kind) ∷ old) new
  kept : {v stored : List ℤ} {kind : GenKind} {old new : List Generator}
      → ¬ (IsZeroDirection kind (f v)) → IsPrimitiveOf (f v) stored → AreMapped f old new
      → AreMapped f ((v, kind) ∷ old) ((stored, kind) ∷ new)

-- the list gained the mapped vector so, or the vector is a line or a ray that became 0 and the list
-- is as before
abbrev pub GainsMapped : List Generator → List Generator → List ℤ → GenKind → Type 0
GainsMapped old new row kind = (IsZeroDirection kind row × (new ≡ old))
    ⊎ ((¬ (IsZeroDirection kind row)) × Gains old new row kind)

-- a system over the dimension, of the mapped generators
pub record IsMappedSystem (f : List ℤ → List ℤ) (dim : ℕ) (old new : Generators) : Type 0 where
  pub same_dim : new.dim ≡ dim
  pub mapped : AreMapped f old.list new.list

-- ---- constraints
-- the new constraints are those that the map gives of the rows of the old ones, in order: each made
-- primitive
pub data ArePulled (f : List ℤ → List ℤ) : List Constraint → List Constraint → Type 0 where
  none_pulled : ArePulled f [] []
  one_pulled : {row stored : List ℤ} {kind : ConKind} {old new : List Constraint}
      → IsPrimitiveOf (f row) stored → ArePulled f old new
      → ArePulled f ((row, kind) ∷ old) ((stored, kind) ∷ new)

-- a system over the dimension, of these
pub record IsPulledSystem (f : List ℤ → List ℤ) (dim : ℕ) (old new : Constraints) : Type 0 where
  pub same_dim : new.dim ≡ dim
  pub pulled : ArePulled f old.list new.list

-- the constraints of the one on the first variables, and then those of the other on the variables
-- behind these
pub record IsJoinedSystem (first second new : Constraints) : Type 0 where
  pub same_dim : new.dim ≡ first.dim + second.dim
  pub front : List Constraint
  pub front_pulled : ArePulled (with_zeros first.dim second.dim) first.list front
  pub back : List Constraint
  pub back_pulled : ArePulled (with_zeros 0 first.dim) second.list back
  pub joined : new.list ≡ front ++ back
