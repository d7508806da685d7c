-- What holds where a call gave a value.
use Rattle.std.proofs.Common.{Result, Ok, Err}
use Rattle.std.specs.Prelude.{OnOk, MatchResult}

-- what holds in each case holds there
pub on_ok : {T E P : Type 0} (r : Result T E) → P → OnOk r P
on_ok (Ok x) p = p
on_ok (Err e) p = tt

-- the first of what holds in the two cases
pub on_ok_first : {T E : Type 0} (P Q : Type 0) (r : Result T E) → MatchResult r (λ x. P) (λ e. Q) → OnOk r P
on_ok_first P Q (Ok x) p = p
on_ok_first P Q (Err e) q = tt
