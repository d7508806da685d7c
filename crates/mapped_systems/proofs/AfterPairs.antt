-- What is counted and shown after a mapped pair was tried.
use Rattle.std.proofs.Common.{◌≡◌, ℕ, ◌≤◌, Option, Some, None, Result, Ok, Err, refl, arith}
use Rattle.row_core.specs.declared.errors.Overflow.{Overflow}
use Rattle.row_core.specs.declared.errors.Memory.{Memory}
use Rattle.mapped_systems.specs.TriedPairs.{AfterPair}

module _ {T : Type 0} (IsOfList : ℕ → ℕ → Option Overflow → Type 0) where
  pub after_found : (found : Option T) (pair : T) → found ≡ Some pair → (steps : ℕ) → AfterPair IsOfList (Ok found) steps steps None
  after_found (Some x) pair is steps = (refl, refl)
  after_found None pair is steps = absurd (let never : None ≡ Some pair = is in cc)

  pub after_none : (found : Option T) → ((pair : T) → found ≡ Some pair → ⊥) → (old new : ℕ) (over : Option Overflow) → IsOfList old new over → AfterPair IsOfList (Ok found) old new over
  after_none (Some x) never old new over list = absurd (never x refl)
  after_none None never old new over list = list

  pub after_fewer : ((old new : ℕ) (over : Option Overflow) → IsOfList old new over → old ≤ new) → (r : Result (Option T) Memory) (old new : ℕ) (over : Option Overflow) → AfterPair IsOfList r old new over → old ≤ new
  after_fewer fewer (Ok None) old new over list = fewer old new over list
  after_fewer fewer (Ok (Some x)) old new over h = omega (arith, h.0)
  after_fewer fewer (Err e) old new over h = omega (arith, h.0)
