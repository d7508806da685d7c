use Rattle.std.specs.Prelude.{⊤}
use Rattle.row_core.specs.declared.errors.Overflow.{Overflow}
use Rattle.row_core.specs.declared.errors.ConvErr.{ConvErr}
use Rattle.row_core.specs.declared.errors.ConvErr.TheVariants as conversion

-- each overflow is one of these; being out of memory needs no cause
abbrev pub IsOverflowIn : (Overflow → Type 0) → ConvErr → Type 0
IsOverflowIn Leaves (conversion.Overflow over) = Leaves over
IsOverflowIn Leaves conversion.Memory = ⊤
