-- What a conversion in the list's order gives, and a race of two from where it stands.
use Rattle.std.specs.Prelude.{ℕ, ◌+◌, ◌-◌, ◌<◌, ◌≤◌, List, length, Ok, Err}
use Rattle.std.proofs.Common.{arith}
use Rattle.row_core.specs.Lists.{Row}
use Rattle.row_core.specs.declared.errors.ConvErr.{ConvErr}
use Rattle.cone_laws.specs.SystemLaws.{HasSystemOf}
use Rattle.chernikova.specs.declared.list_order.ListOrder.{ListOrder}
use Rattle.chernikova.specs.Conversion.{IsState, IsRealOverflow, IsAtStep, IsCountedUpto, ConvertsRows}
use Rattle.chernikova.specs.Beside.{GoesOnFrom}
use Rattle.chernikova.proofs.Counts.{counted_before}
use Rattle.chernikova.proofs.Slack.{counted_step, counted_rest}

-- one row more was taken in
pub goes_on_next : (width : ℕ) (rows : List Row) (k before old new count : ℕ) (first next : ListOrder) → k < length rows → GoesOnFrom width rows k before old first → IsState width rows (k + 1) next.system → old ≤ new → HasSystemOf width rows (k + 1) count → new + next.slack ≤ old + first.slack + count → GoesOnFrom width rows (k + 1) before new next
goes_on_next width rows k before old new count first next below h state no_fewer counted within = record {
  taken = omega (arith, below);
  state = state;
  no_fewer = omega (arith, h.no_fewer, no_fewer);
  counted = counted_step width rows k (old - before + first.slack) count (new - before + next.slack) h.counted counted (omega (arith, h.no_fewer, no_fewer, within));
}

-- what was counted up to the row that is next
counted_next : (width : ℕ) (rows : List Row) (k before old new count : ℕ) (first : ListOrder) → GoesOnFrom width rows k before old first → old ≤ new → HasSystemOf width rows (k + 1) count → new ≤ old + first.slack + count → IsCountedUpto width rows (k + 1) (new - before)
counted_next width rows k before old new count first h no_fewer counted within =
    counted_step width rows k (old - before + first.slack) count (new - before) h.counted counted (omega (arith, h.no_fewer, no_fewer, within))

-- an answer without a further row
pub answered_here : {T : Type 0} (width : ℕ) (rows : List Row) (k before new : ℕ) (first : ListOrder) (x : T) → GoesOnFrom width rows k before new first → ConvertsRows width rows before new (Ok x)
answered_here width rows k before new first x h = record {
  overflow = tt;
  no_fewer = h.no_fewer;
  counted = counted_rest width rows k (new - before + first.slack) (new - before) h.taken h.counted (omega arith);
  counted_before = tt;
}

-- an answer at the row that is next
pub answered_next : {T : Type 0} (width : ℕ) (rows : List Row) (k before old new count : ℕ) (first : ListOrder) (x : T) → k < length rows → GoesOnFrom width rows k before old first → old ≤ new → HasSystemOf width rows (k + 1) count → new ≤ old + first.slack + count → ConvertsRows width rows before new (Ok x)
answered_next width rows k before old new count first x below h no_fewer counted within = record {
  overflow = tt;
  no_fewer = omega (arith, h.no_fewer, no_fewer);
  counted = counted_rest width rows (k + 1) (new - before) (new - before) (omega (arith, below)) (counted_next width rows k before old new count first h no_fewer counted within) (omega arith);
  counted_before = tt;
}

-- a refusal at that row
pub refused_next : {T : Type 0} (width : ℕ) (rows : List Row) (k before old new count : ℕ) (first : ListOrder) (error : ConvErr) → k < length rows → GoesOnFrom width rows k before old first → old ≤ new → HasSystemOf width rows (k + 1) count → new ≤ old + first.slack + count → IsRealOverflow width rows error → IsAtStep k error → ConvertsRows {T = T} width rows before new (Err error)
refused_next width rows k before old new count first error below h no_fewer counted within overflow step =
    let upto : IsCountedUpto width rows (k + 1) (new - before) = counted_next width rows k before old new count first h no_fewer counted within in
    record {
      overflow = overflow;
      no_fewer = omega (arith, h.no_fewer, no_fewer);
      counted = counted_rest width rows (k + 1) (new - before) (new - before) (omega (arith, below)) upto (omega arith);
      counted_before = counted_before width rows 0 k (new - before) error step upto;
    }
