use Rattle.std.specs.Prelude.{◌≡◌, ◌≢◌, ◌⊎◌, ℕ, ◌+◌, ◌≤◌, List, length, ℤ, pos, unsigned_abs, Option, None, Result, Ok, IsErr, IfSome}
use Rattle.row_core.specs.Vectors.{cell}
use Rattle.row_core.specs.declared.errors.Overflow.{Overflow}
use Rattle.row_core.specs.declared.errors.ConvErr.{ConvErr}
use Rattle.row_core.specs.declared.errors.Memory.{Memory}
use Rattle.cons_sys.specs.Constraints.{Constraints}
use Rattle.gens_sys.specs.Generators.{Generators}
use Rattle.poly_pair.specs.Polyhedra.{Polyhedron}
use Rattle.poly_pair.specs.Work.{cons_work, gens_work, conv_overflow, overflow_in, IsConversion}
use Rattle.affine_maps.specs.Carrying.{ConvertsForms}
use Rattle.affine_maps.specs.Collapsing.{CollapsesImage}
use Rattle.mapped_systems.specs.Maps.{substituted, pulled_back}
use Rattle.mapped_systems.specs.MappedLists.{IsMappedSystem, IsPulledSystem}
use Rattle.mapped_systems.specs.CarriedSystems.{IsInverseRow}
use Rattle.mapped_systems.specs.TriedPairs.{AfterPair}
use Rattle.mapped_systems.specs.Refusals.{SomeLeavesInImage, SomeLeavesInPullback}
use Rattle.affine_maps.specs.CarriedPairs.{CanBeCarried, LeavesInTurned, LeavesInMapped}

-- the constraints of a polyhedron were mapped, by at most one combination each
pub record IsPullback (p : Polyhedron) (old new : ℕ) : Type 0 where
  pub no_fewer : old ≤ new
  pub counted : new ≤ old + length p.cons.list

-- nothing was counted, and there is no answer
abbrev pub IsUntried : ℕ → ℕ → Result (Option Polyhedron) Memory → Type 0
IsUntried old new result = (new ≡ old) × (result ≡ Ok None)

-- the size of the divisor of the map that undoes another
abbrev pub inverse_size : ℕ → List ℤ → ℤ
inverse_size var expr = pos (unsigned_abs (cell expr var))

-- ---- the pair of an image
-- the constraints with the variable replaced by the row over the size, brought to canonical form
-- with the generators
pub record IsTurnedPair (var : ℕ) (row : List ℤ) (size : ℤ) (p : Polyhedron) (gs : Generators)
    (old new : ℕ) (result : Result (Option Polyhedron) Memory) : Type 0 where
  pub between : ℕ
  pub pullback : IsPullback p old between
  pub system : Constraints
  pub pulled : IsPulledSystem (pulled_back var row size) p.cons.dim p.cons system
  pub conversion : ConvertsForms system gs between new result

-- some constraint's map leaves the range
pub record IsTurnedInVain (var : ℕ) (row : List ℤ) (size : ℤ) (p : Polyhedron) (old new : ℕ)
    (result : Result (Option Polyhedron) Memory) : Type 0 where
  pub pullback : IsPullback p old new
  pub leaves : LeavesInTurned var row size p
  pub none : result ≡ Ok None

-- of a set that can be carried by the map, and of its mapped generators
pub record IsCarriedImage (var : ℕ) (expr : List ℤ) (den : ℤ) (p : Polyhedron) (gs : Generators)
    (old new : ℕ) (result : Result (Option Polyhedron) Memory) : Type 0 where
  pub can : CanBeCarried p (cell expr var)
  pub row : List ℤ
  pub inverse : IsInverseRow var expr den row (inverse_size var expr)
  pub turned : IsTurnedPair var row (inverse_size var expr) p gs old new result
      ⊎ IsTurnedInVain var row (inverse_size var expr) p old new result

-- nothing of another set, and no forms where memory runs out before
abbrev pub CarriesImage : ℕ → List ℤ → ℤ → Polyhedron → Generators → ℕ → ℕ
    → Result (Option Polyhedron) Memory → Type 0
CarriesImage var expr den p gs old new result =
    IsCarriedImage var expr den p gs old new result
    ⊎ ((¬ (CanBeCarried p (cell expr var))) × IsUntried old new result)
    ⊎ (IsPullback p old new × IsErr result)

-- by the way that the map allows
abbrev pub PairsImage : ℕ → List ℤ → ℤ → Polyhedron → Generators → ℕ → ℕ
    → Result (Option Polyhedron) Memory → Type 0
PairsImage var expr den p gs old new result =
    ((cell expr var ≡ pos 0) × CollapsesImage var expr den p gs old new result)
    ⊎ ((cell expr var ≢ pos 0) × CarriesImage var expr den p gs old new result)

-- ---- the image
-- its pair is tried, and after that the list of the mapped generators
pub record IsImageConversion (var : ℕ) (expr : List ℤ) (den : ℤ) (p : Polyhedron) (old new : ℕ)
    (over : Option Overflow) : Type 0 where
  pub system : Generators
  pub mapped : IsMappedSystem (substituted var expr den) p.cons.dim p.gens system
  pub pair : Result (Option Polyhedron) Memory
  pub between : ℕ
  pub tried : PairsImage var expr den p system old between pair
  pub after : AfterPair (IsConversion (gens_work p.topology system)) pair between new over

-- nothing was tried: memory ran out before, or some generator's map leaves the range
pub record IsMappedInVain (var : ℕ) (expr : List ℤ) (den : ℤ) (p : Polyhedron) (old new : ℕ)
    (over : Option Overflow) : Type 0 where
  pub same : new ≡ old
  pub leaves : IfSome over (SomeLeavesInImage var expr den p.gens.list)

abbrev pub ConvertsImage : ℕ → List ℤ → ℤ → Polyhedron → ℕ → ℕ → Result Polyhedron ConvErr → Type 0
ConvertsImage var expr den p old new result =
    IsMappedInVain var expr den p old new (overflow_in conv_overflow result)
    ⊎ IsImageConversion var expr den p old new (overflow_in conv_overflow result)

-- ---- the pair of a preimage
-- the generators with the variable replaced by the row over the size, brought to canonical form with
-- the mapped constraints
pub record IsMappedPair (var : ℕ) (row : List ℤ) (size : ℤ) (p : Polyhedron) (cs : Constraints)
    (old new : ℕ) (result : Result (Option Polyhedron) Memory) : Type 0 where
  pub system : Generators
  pub mapped : IsMappedSystem (substituted var row size) p.cons.dim p.gens system
  pub conversion : ConvertsForms cs system old new result

-- of a set that can be carried: its generators are mapped the other way
pub record IsCarriedPreimage (var : ℕ) (expr : List ℤ) (den : ℤ) (p : Polyhedron) (cs : Constraints)
    (old new : ℕ) (result : Result (Option Polyhedron) Memory) : Type 0 where
  pub can : CanBeCarried p (cell expr var)
  pub row : List ℤ
  pub inverse : IsInverseRow var expr den row (inverse_size var expr)
  pub mapped : IsMappedPair var row (inverse_size var expr) p cs old new result
      ⊎ (LeavesInMapped var row (inverse_size var expr) p × IsUntried old new result)

-- nothing of another set
abbrev pub CarriesPreimage : ℕ → List ℤ → ℤ → Polyhedron → Constraints → ℕ → ℕ
    → Result (Option Polyhedron) Memory → Type 0
CarriesPreimage var expr den p cs old new result =
    IsCarriedPreimage var expr den p cs old new result
    ⊎ ((¬ (CanBeCarried p (cell expr var))) × IsUntried old new result)
    ⊎ ((new ≡ old) × IsErr result)

-- ---- the preimage
-- the constraints are mapped, then the pair is tried, and after that their list
pub record IsPreimageConversion (var : ℕ) (expr : List ℤ) (den : ℤ) (p : Polyhedron) (old new : ℕ)
    (over : Option Overflow) : Type 0 where
  pub first : ℕ
  pub pullback : IsPullback p old first
  pub system : Constraints
  pub pulled : IsPulledSystem (pulled_back var expr den) p.cons.dim p.cons system
  pub pair : Result (Option Polyhedron) Memory
  pub second : ℕ
  pub tried : CarriesPreimage var expr den p system first second pair
  pub after : AfterPair (IsConversion (cons_work p.topology system)) pair second new over

-- nothing was tried: memory ran out before, or some constraint's map leaves the range
pub record IsPulledInVain (var : ℕ) (expr : List ℤ) (den : ℤ) (p : Polyhedron) (old new : ℕ)
    (over : Option Overflow) : Type 0 where
  pub pullback : IsPullback p old new
  pub leaves : IfSome over (SomeLeavesInPullback var expr den p.cons.list)

abbrev pub ConvertsPreimage : ℕ → List ℤ → ℤ → Polyhedron → ℕ → ℕ → Result Polyhedron ConvErr
    → Type 0
ConvertsPreimage var expr den p old new result =
    IsPulledInVain var expr den p old new (overflow_in conv_overflow result)
    ⊎ IsPreimageConversion var expr den p old new (overflow_in conv_overflow result)
