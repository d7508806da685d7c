-- Overflows of a kind are those of a wider kind.
use Rattle.row_core.specs.declared.errors.Overflow.{Overflow}
use Rattle.row_core.specs.declared.errors.ConvErr.{ConvErr}
use Rattle.row_core.specs.declared.errors.ConvErr.TheVariants as conversion
use Rattle.row_core.specs.Refusals.{IsOverflowIn}

pub overflow_weaker : (P Q : Overflow → Type 0) → ((o : Overflow) → P o → Q o) → (e : ConvErr) →
    IsOverflowIn P e → IsOverflowIn Q e
overflow_weaker P Q f (conversion.Overflow over) h = f over h
overflow_weaker P Q f conversion.Memory h = tt
