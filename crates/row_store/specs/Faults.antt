use Rattle.std.specs.Prelude.{◌≡◌, ◌≢◌, ℕ, ◌<◌, ◌≤◌, Bool, true, false}
use Rattle.std.specs.Prelude.{Contains, ⊤, List, length, ℤ, pos, slice_index_or}
use Rattle.row_core.specs.Range.{DotStays, IsFirstToLeave}
use Rattle.row_core.specs.Lists.{vector_at}
use Rattle.row_core.specs.Combinations.{CombinationLeaves}
use Rattle.row_store.specs.declared.fault.ValueFault.{ValueFault}
use Rattle.row_store.specs.declared.fault.ValueFault.TheVariants.{Memory, Dot}
use Rattle.row_store.specs.declared.fault.CombineFault.{CombineFault}
use Rattle.row_store.specs.declared.fault.Part.{Part}
use Rattle.row_store.specs.declared.fault.Part.TheVariants.{Lines, Rays}
use Rattle.row_store.specs.declared.fault.Place.{Place}

-- the list of a system
abbrev pub part_of : List (List ℤ) → List (List ℤ) → Part → List (List ℤ)
part_of lines rays Lines = lines
part_of lines rays Rays = rays

-- the values of a list of a system
abbrev pub part_values : List ℤ → List ℤ → Part → List ℤ
part_values line_values ray_values Lines = line_values
part_values line_values ray_values Rays = ray_values

-- the vector at the place
abbrev pub vector_of : List (List ℤ) → List (List ℤ) → Place → List ℤ
vector_of lines rays place = vector_at (part_of lines rays place.part) place.index

-- the value of the vector at the place
abbrev pub value_of : List ℤ → List ℤ → Place → ℤ
value_of line_values ray_values place =
    slice_index_or (part_values line_values ray_values place.part) place.index (pos 0)

-- the place is one of the system
abbrev pub IsPlace : List (List ℤ) → List (List ℤ) → Place → Type 0
IsPlace lines rays place = place.index < length (part_of lines rays place.part)

-- no memory for the values of a list, or the dot of one of its vectors and the row leaves the range
abbrev pub IsValuesFault : List ℤ → Part → List (List ℤ) → ValueFault → Type 0
IsValuesFault a part vs Memory = ⊤
IsValuesFault a part vs (Dot vector column) =
    (vector.part ≡ part) × (vector.index < length vs)
    × IsFirstToLeave (DotStays a (vector_at vs vector.index)) (length a) column

-- the combination with a line with the value u of a vector of the list from one index up to another
abbrev pub IsLowerFault :
    ℤ → ℕ → List ℤ → Part → ℕ → ℕ → List ℤ → List (List ℤ) → CombineFault → Type 0
IsLowerFault u index line part from to values vs fault =
    (fault.left ≡ record { part = Lines; index = index }) × (fault.right.part ≡ part)
    × (from ≤ fault.right.index) × (fault.right.index < to)
    × CombinationLeaves u (slice_index_or values fault.right.index (pos 0)) line
    (vector_at vs fault.right.index) fault.column

-- the same for all vectors but that at the index
abbrev pub IsOtherFault : ℤ → ℕ → List ℤ → List ℤ → List (List ℤ) → CombineFault → Type 0
IsOtherFault u index line values vs fault =
    (fault.left ≡ record { part = Lines; index = index }) × (fault.right.part ≡ Lines)
    × (fault.right.index ≢ index) × (fault.right.index < length vs)
    × CombinationLeaves u (slice_index_or values fault.right.index (pos 0)) line
    (vector_at vs fault.right.index) fault.column

-- the fault of a line step: another line or a ray
abbrev pub IsLineFault : ℕ → List ℤ → List ℤ → List (List ℤ) → List (List ℤ) → CombineFault → Type 0
IsLineFault index line_values ray_values lines rays fault =
    (fault.left ≡ record { part = Lines; index = index })
    × IsPlace lines rays fault.right × (fault.right ≢ fault.left)
    × CombinationLeaves (slice_index_or line_values index (pos 0))
    (value_of line_values ray_values fault.right) (vector_at lines index)
    (vector_of lines rays fault.right) fault.column

-- the fault of a ray step: one of the pairs
abbrev pub IsPairFault : List ℤ → List (ℕ × ℕ) → List (List ℤ) → CombineFault → Type 0
IsPairFault values pairs rays fault =
    Contains pairs (fault.left.index, fault.right.index)
    × (fault.left.part ≡ Rays) × (fault.right.part ≡ Rays)
    × CombinationLeaves (slice_index_or values fault.left.index (pos 0))
    (slice_index_or values fault.right.index (pos 0)) (vector_at rays fault.left.index)
    (vector_at rays fault.right.index) fault.column

-- whether the list has the lines
abbrev pub is_lines : Part → Bool
is_lines Lines = true
is_lines Rays = false
