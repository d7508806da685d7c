use Rattle.std.specs.Prelude.{◌≡◌, ℕ, ◌+◌, ◌<◌, ◌↔◌, Bool, true, List, [], length, slice_index_or, IsTrue, ℤ, pos, negsuc}
use Rattle.row_core.specs.Vectors.{cell}
use Rattle.row_core.specs.Content.{IsPrimitiveOf}
use Rattle.row_core.specs.Lists.{Row, row_at}
use Rattle.cons_sys.specs.Constraints.{Constraint}
use Rattle.cons_sys.specs.declared.kind.ConKind.{ConKind}
use Rattle.cons_sys.specs.declared.kind.ConKind.TheVariants.{Eq, Ge, Gt}
use Rattle.gens_sys.specs.Kinds.{HasBadDivisor, IsZeroDirection}
use Rattle.gens_sys.specs.Generators.{Generator}
use Rattle.gens_sys.specs.declared.kind.GenKind.{GenKind}
use Rattle.gens_sys.specs.declared.kind.GenKind.TheVariants.{Line}
use Rattle.nnc_enc.specs.Encoding.{lowered}
use Rattle.nnc_enc.specs.StrongRows.{HasVariable, kept_at}
use Rattle.nnc_enc.specs.DecodedVectors.{kind_of}
use Rattle.nnc_enc.specs.Marks.{flag}

-- index i of the list
abbrev pub index_at : List ℕ → ℕ → ℕ
index_at order i = slice_index_or order i 0

-- a row below 0 in column e is strict
abbrev pub con_kind : ℤ → ConKind
con_kind (pos e) = Ge
con_kind (negsuc e) = Gt

-- the entry is the row or vector without column e, made primitive, with the kind
pub record Stands {K : Type 0} (dim : ℕ) (r : List ℤ) (named : K)
    (entry : List ℤ × K) : Type 0 where
  pub kind : entry.1 ≡ named
  pub primitive : IsPrimitiveOf (lowered dim r) entry.0

-- the list gained an entry for each of n rows
pub record Grew {K : Type 0} (d : List ℤ × K) (dim : ℕ) (old new : List (List ℤ × K)) (n : ℕ)
    (row : ℕ → List ℤ) (kind : ℕ → K) : Type 0 where
  pub as_many : length new ≡ length old + n
  pub before : (i : ℕ) → i < length old → slice_index_or new i d ≡ slice_index_or old i d
  pub each : (i : ℕ) → i < n → Stands dim (row i) (kind i) (slice_index_or new (length old + i) d)

-- an entry for each line, and for each ray that the order names
pub record AreListed {K : Type 0} (d : List ℤ × K) (line_kind : K) (ray_kind : List ℤ → K) (dim : ℕ)
    (lines rays : List Row) (order : List ℕ) (list : List (List ℤ × K)) : Type 0 where
  pub as_many : length list ≡ length lines + length order
  pub line : (i : ℕ) → i < length lines
      → Stands dim (row_at lines i) line_kind (slice_index_or list i d)
  pub ray : (i : ℕ) → i < length order → Stands dim (row_at rays (index_at order i))
      (ray_kind (row_at rays (index_at order i))) (slice_index_or list (length lines + i) d)

abbrev pub AreConstraintsOf : ℕ → List Row → List Row → List ℕ → List Constraint → Type 0
AreConstraintsOf dim lines rays order list =
    AreListed ([], Eq) Eq (λ r. con_kind (cell r dim)) dim lines rays order list

abbrev pub AreGeneratorsOf : ℕ → List Row → List Row → List ℕ → List Generator → Type 0
AreGeneratorsOf dim lines rays order list =
    AreListed ([], Line) Line (kind_of dim) dim lines rays order list

-- index j stands in the order
pub record IsNamed (order : List ℕ) (j : ℕ) : Type 0 where
  pub place : ℕ
  pub below : place < length order
  pub same : index_at order place ≡ j

-- the order names each kept number below k, once
pub record AreKept (keep : List Bool) (order : List ℕ) (k : ℕ) : Type 0 where
  pub each : (i : ℕ) → i < length order
      → (index_at order i < k) × (kept_at keep (index_at order i) ≡ true)
  pub all : (j : ℕ) → j < k → kept_at keep j ≡ true → IsNamed order j
  pub once : (i m : ℕ) → i < length order → m < length order
      → index_at order i ≡ index_at order m → i ≡ m

-- the indices rise along the order
abbrev pub Rise : List ℕ → Type 0
Rise order = (i m : ℕ) → i < m → m < length order → index_at order i < index_at order m

-- of the first k rows, those with a variable are marked
pub record HaveVariables (dim : ℕ) (rows : List Row) (keep : List Bool) (k : ℕ) : Type 0 where
  pub as_many : length keep ≡ k
  pub each : (i : ℕ) → i < k → IsTrue (flag keep i) ↔ HasVariable dim (row_at rows i)

-- constraints for the lines and for the rays with a variable, in their order
pub record AreDecodedRows (dim : ℕ) (lines rays : List Row) (list : List Constraint) : Type 0 where
  pub keep : List Bool
  pub order : List ℕ
  pub variables : HaveVariables dim rays keep (length rays)
  pub kept : AreKept keep order (length rays)
  pub rising : Rise order
  pub listed : AreConstraintsOf dim lines rays order list

-- generators for the lines and for all rays, in their order
pub record AreDecodedVectors (dim : ℕ) (lines rays : List Row)
    (list : List Generator) : Type 0 where
  pub keep : List Bool
  pub order : List ℕ
  pub all : (i : ℕ) → i < length rays → kept_at keep i ≡ true
  pub kept : AreKept keep order (length rays)
  pub rising : Rise order
  pub listed : AreGeneratorsOf dim lines rays order list

-- the vector without column e can be a generator of the kind: its last entry fits, and it is no
-- direction of length 0
pub record FitsKind (dim : ℕ) (r : List ℤ) (kind : GenKind) : Type 0 where
  pub divisor : ¬ (HasBadDivisor kind (cell (lowered dim r) dim))
  pub nonzero : ¬ (IsZeroDirection kind (lowered dim r))

-- each line can be a generator, and each ray
pub record FitKinds (dim : ℕ) (lines rays : List Row) : Type 0 where
  pub line : (i : ℕ) → i < length lines → FitsKind dim (row_at lines i) Line
  pub ray : (i : ℕ) → i < length rays → FitsKind dim (row_at rays i) (kind_of dim (row_at rays i))
