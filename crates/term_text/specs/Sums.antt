-- What a sum of terms knows of those that were added.
use Rattle.std.specs.Prelude.{◌≡◌, ℕ, List, ◌++◌, ℤ, Bool, true, false}
use Rattle.term_text.specs.declared.terms.Term.{Term}
use Rattle.term_text.specs.declared.terms.ValueErr.{ValueErr}
use Rattle.term_text.specs.declared.terms.ValueErr.TheVariants.{OutOfRange}
use Rattle.term_text.specs.Terms.{AreWithin, Stay, IsSafeRow}

-- a row over some variables, and whether it is still the row of all terms that were added
pub record Sum : Type 0 where
  pub dim : ℕ
  pub row : List ℤ
  pub fits : Bool

-- these terms were added: the row is theirs, or a number on the way to it has left the range
pub record HasSummed (ts : List Term) (s : Sum) : Type 0 where
  pub within : AreWithin s.dim ts
  pub safe : s.fits ≡ true → IsSafeRow s.dim ts s.row
  pub leaves : s.fits ≡ false → ¬ (Stay s.dim ts)

-- a variable of these terms isn't below the dimension
abbrev pub AreOutOfRange : ℕ → List Term → ValueErr → Type 0
AreOutOfRange dim ts e = (e ≡ OutOfRange) × ¬ (AreWithin dim ts)

-- these terms were added behind those before
pub record Gains (ts : List Term) (old new : Sum) : Type 0 where
  pub over : new.dim ≡ old.dim
  pub more : (before : List Term) → HasSummed before old → HasSummed (before ++ ts) new
