use Rattle.std.specs.Prelude.{◌≡◌, ◌⊎◌, ℕ, ◌+◌, ◌<◌, ◌≤◌, Option, Some, None}
use Rattle.row_core.specs.declared.errors.Overflow.{Overflow}

-- What calls count and show that are made one after another. What each may is given as a relation
-- of the count of combinations before it, the count after it and its overflow, if it shows one.

-- ---- a call that may be left out
-- nothing, where memory runs out before, or the call
abbrev pub IsOneOrNone : (ℕ → ℕ → Option Overflow → Type 0) → ℕ → ℕ → Option Overflow → Type 0
IsOneOrNone Call old new over = ((new ≡ old) × (over ≡ None)) ⊎ Call old new over

-- ---- two calls
-- the first shows no overflow, and the second follows
pub record AreBoth (First Second : ℕ → ℕ → Option Overflow → Type 0) (old new : ℕ)
    (over : Option Overflow) : Type 0 where
  pub between : ℕ
  pub first : First old between None
  pub second : Second between new over

-- the first alone, or both
abbrev pub IsThen : (ℕ → ℕ → Option Overflow → Type 0) → (ℕ → ℕ → Option Overflow → Type 0) → ℕ → ℕ
    → Option Overflow → Type 0
IsThen First Second old new over = First old new over ⊎ AreBoth First Second old new over

-- the first shows an overflow, and the second is made in its place
pub record IsRetried (First Second : ℕ → ℕ → Option Overflow → Type 0) (old new : ℕ)
    (over : Option Overflow) : Type 0 where
  pub between : ℕ
  pub refused : Overflow
  pub first : First old between (Some refused)
  pub second : Second between new over

-- the first alone where it shows none, or both
abbrev pub IsElse : (ℕ → ℕ → Option Overflow → Type 0) → (ℕ → ℕ → Option Overflow → Type 0) → ℕ → ℕ
    → Option Overflow → Type 0
IsElse First Second old new over =
    ((over ≡ None) × First old new None) ⊎ IsRetried First Second old new over

-- ---- as many calls as a list has entries
-- the first k of them, none of which shows an overflow
pub data AreFirstCalls (Call : ℕ → ℕ → ℕ → Option Overflow → Type 0) : ℕ → ℕ → ℕ → Type 0 where
  begins : {n : ℕ} → AreFirstCalls Call 0 n n
  takes : {k old between new : ℕ} → AreFirstCalls Call k old between → Call k between new None
      → AreFirstCalls Call (k + 1) old new

-- at most n of them: the first ones, and then none, or one that isn't finished
pub record AreCalls (Call : ℕ → ℕ → ℕ → Option Overflow → Type 0) (n old new : ℕ)
    (over : Option Overflow) : Type 0 where
  pub index : ℕ
  pub within : index ≤ n
  pub between : ℕ
  pub before : AreFirstCalls Call index old between
  pub rest : ((new ≡ between) × (over ≡ None))
      ⊎ ((index < n) × Call index between new over)
