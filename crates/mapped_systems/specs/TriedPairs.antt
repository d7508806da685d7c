use Rattle.std.specs.Prelude.{◌≡◌, ℕ, Option, Some, None, Result, Ok, Err}
use Rattle.row_core.specs.declared.errors.Overflow.{Overflow}
use Rattle.row_core.specs.declared.errors.Memory.{Memory}

-- what follows a mapped pair that was tried: a list's conversion where none was found, else nothing
abbrev pub AfterPair : {T : Type 0} → (ℕ → ℕ → Option Overflow → Type 0) → Result (Option T) Memory
    → ℕ → ℕ → Option Overflow → Type 0
AfterPair IsOfList (Ok None) old new over = IsOfList old new over
AfterPair IsOfList (Ok (Some pair)) old new over = (new ≡ old) × (over ≡ None)
AfterPair IsOfList (Err e) old new over = (new ≡ old) × (over ≡ None)
