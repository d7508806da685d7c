-- What a conversion costs and shows: parts and cases.
use Rattle.std.specs.Prelude.{◌≡◌, ℕ, ◌≤◌, List, length, Ok, Err}
use Rattle.std.proofs.Common.{subst, arith}
use Rattle.row_core.specs.Lists.{Row}
use Rattle.row_core.specs.declared.errors.ConvErr.{ConvErr}
use Rattle.row_core.specs.declared.errors.ConvErr.TheVariants.{Memory}
use Rattle.chernikova.specs.Conversion.{ConvertsRows, ConvertsFrom}
use Rattle.chernikova.proofs.Counts.{counted_start, counted_start_from}
use Rattle.chernikova.proofs.Prefixes.{overflow_any}

-- ---- the whole list
-- out of memory before a row was taken in
pub rows_not_begun : {T : Type 0} (width : ℕ) (rows : List Row) (steps : ℕ) → ConvertsRows {T = T} width rows steps steps (Err Memory)
rows_not_begun width rows steps = record { overflow = tt; no_fewer = omega arith; counted = counted_start width rows _ (omega arith); counted_before = tt }

-- all rows were taken in, whatever the call gives
pub rows_done : {T U : Type 0} (width : ℕ) (rows : List Row) (old new : ℕ) (x : T) (y : U) → ConvertsRows width rows old new (Ok x) → ConvertsRows width rows old new (Ok y)
rows_done width rows old new x y h = record { overflow = tt; no_fewer = h.no_fewer; counted = h.counted; counted_before = tt }

-- all rows were taken in, and then memory ran out
pub rows_then_memory : {T U : Type 0} (width : ℕ) (rows : List Row) (old new : ℕ) (x : T) → ConvertsRows width rows old new (Ok x) → ConvertsRows {T = U} width rows old new (Err Memory)
rows_then_memory width rows old new x h = record { overflow = tt; no_fewer = h.no_fewer; counted = h.counted; counted_before = tt }

-- a refusal, whatever the call would have given
pub rows_refused : {T U : Type 0} (width : ℕ) (rows : List Row) (old new : ℕ) (error : ConvErr) → ConvertsRows {T = T} width rows old new (Err error) → ConvertsRows {T = U} width rows old new (Err error)
rows_refused width rows old new error h = record { overflow = h.overflow; no_fewer = h.no_fewer; counted = h.counted; counted_before = h.counted_before }

-- ---- the rows from an index on
pub further_not_begun : {T : Type 0} (width : ℕ) (rows : List Row) (from steps : ℕ) → from ≤ length rows → ConvertsFrom {T = T} width rows from steps steps (Err Memory)
further_not_begun width rows from steps below = record { overflow = tt; no_fewer = omega arith; counted = counted_start_from width rows from _ below (omega arith); counted_before = tt }

pub further_done : {T U : Type 0} (width : ℕ) (rows : List Row) (from old new : ℕ) (x : T) (y : U) → ConvertsFrom width rows from old new (Ok x) → ConvertsFrom width rows from old new (Ok y)
further_done width rows from old new x y h = record { overflow = tt; no_fewer = h.no_fewer; counted = h.counted; counted_before = tt }

pub further_then_memory : {T U : Type 0} (width : ℕ) (rows : List Row) (from old new : ℕ) (x : T) → ConvertsFrom width rows from old new (Ok x) → ConvertsFrom {T = U} width rows from old new (Err Memory)
further_then_memory width rows from old new x h = record { overflow = tt; no_fewer = h.no_fewer; counted = h.counted; counted_before = tt }

pub further_refused : {T U : Type 0} (width : ℕ) (rows : List Row) (from old new : ℕ) (error : ConvErr) → ConvertsFrom {T = T} width rows from old new (Err error) → ConvertsFrom {T = U} width rows from old new (Err error)
further_refused width rows from old new error h = record { overflow = h.overflow; no_fewer = h.no_fewer; counted = h.counted; counted_before = h.counted_before }

-- ---- from the first row on
pub all_done : {T : Type 0} (w width : ℕ) (rows : List Row) (old new : ℕ) (x : T) → w ≡ width → ConvertsFrom w rows 0 old new (Ok x) → ConvertsRows width rows old new (Ok x)
all_done w width rows old new x e h =
    subst (λ (n : ℕ). ConvertsRows n rows old new (Ok x)) e (record { overflow = tt; no_fewer = h.no_fewer; counted = h.counted; counted_before = tt })

pub all_refused : {T : Type 0} (w width : ℕ) (rows : List Row) (old new : ℕ) (error : ConvErr) → w ≡ width → ConvertsFrom {T = T} w rows 0 old new (Err error) → ConvertsRows {T = T} width rows old new (Err error)
all_refused {T} w width rows old new error e h =
    subst (λ (n : ℕ). ConvertsRows {T = T} n rows old new (Err error)) e (record { overflow = overflow_any w rows 0 error h.overflow; no_fewer = h.no_fewer; counted = h.counted; counted_before = h.counted_before })
