use Rattle.std.specs.Prelude.{◌≡◌, ℕ, ◌<◌, List, length, ℤ}
use Rattle.std.proofs.Common.{sym, subst}
use Rattle.row_core.specs.Range.{DotStays, IsFirstToLeave}
use Rattle.row_core.specs.Lists.{Row, row_at, vector_at}
use Rattle.row_store.specs.declared.fault.ValueFault.{ValueFault}
use Rattle.row_store.specs.declared.fault.ValueFault.TheVariants.{Memory, Dot}
use Rattle.row_store.specs.declared.fault.Part.{Part}
use Rattle.row_store.specs.declared.fault.Part.TheVariants.{Rays}
use Rattle.chernikova.specs.Faults.{IsDotFault, IsPositionFault}
use Rattle.row_store.specs.Faults.{IsValuesFault, part_of}

-- ---- a fault at the value of a ray is one of the row's position
pub values_fault_at : (rows : List Row) (k : ℕ) (a : List ℤ) (lines rays : List (List ℤ)) (fault : ValueFault) → a ≡ row_at rows k → IsValuesFault a Rays rays fault → IsPositionFault (row_at rows k) lines rays fault
values_fault_at rows k a lines rays Memory row h = tt
values_fault_at rows k a lines rays (Dot vector column) row h =
    subst (λ (v : List ℤ). IsDotFault v lines rays vector column) row (record {
      within = subst (λ (part : Part). vector.index < length (part_of lines rays part)) (sym h.0) h.1;
      leaves = subst (λ (part : Part). IsFirstToLeave (DotStays a (vector_at (part_of lines rays part) vector.index)) (length a) column) (sym h.0) h.2;
    })
