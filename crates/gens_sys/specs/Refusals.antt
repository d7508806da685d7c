use Rattle.std.specs.Prelude.{ℕ, List, ℤ, ⊤, Result, Ok, Err}
use Rattle.row_core.specs.Vectors.{cell}
use Rattle.gens_sys.specs.Kinds.{HasBadDivisor, IsZeroDirection}
use Rattle.gens_sys.specs.declared.kind.GenKind.{GenKind}
use Rattle.gens_sys.specs.declared.kind.GenPushErr.{GenPushErr}
use Rattle.gens_sys.specs.declared.kind.GenPushErr.TheVariants.{ZeroVector, BadDivisor, Memory}

-- whether a vector may be kept, and why not
abbrev pub Refusal : ℕ → List ℤ → GenKind → Result ⊤ GenPushErr → Type 0
Refusal dim row kind (Ok done) =
    ¬ (HasBadDivisor kind (cell row dim)) × ¬ (IsZeroDirection kind row)
Refusal dim row kind (Err BadDivisor) =
    HasBadDivisor kind (cell row dim) × ¬ (IsZeroDirection kind row)
Refusal dim row kind (Err ZeroVector) =
    ¬ (HasBadDivisor kind (cell row dim)) × IsZeroDirection kind row
Refusal dim row kind (Err Memory) = ⊥
