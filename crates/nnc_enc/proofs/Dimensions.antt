-- What a call ensures at the dimension that it was given, said of the dimension of its result.
use Rattle.std.proofs.Common.{◌≡◌, ℕ, ◌+◌, sym, subst, arith}
use Rattle.std.specs.Prelude.{Result, Ok, Err, IfOk}
use Rattle.cons_sys.specs.Constraints.{Constraints}
use Rattle.gens_sys.specs.Generators.{Generators}

pub cons_at_dim : {E : Type 0} (P : ℕ → Constraints → Type 0) (dim : ℕ) (r : Result Constraints E) → IfOk r (λ cons. cons.dim ≡ dim) → IfOk r (P dim) → IfOk r (λ cons. P cons.dim cons)
cons_at_dim P dim (Ok cons) same h = subst (λ (n : ℕ). P n cons) (sym same) h
cons_at_dim P dim (Err e) same h = tt

pub gens_at_dim : {E : Type 0} (P : ℕ → Generators → Type 0) (dim : ℕ) (r : Result Generators E) → IfOk r (λ gens. gens.dim ≡ dim) → IfOk r (P dim) → IfOk r (λ gens. P gens.dim gens)
gens_at_dim P dim (Ok gens) same h = subst (λ (n : ℕ). P n gens) (sym same) h
gens_at_dim P dim (Err e) same h = tt

-- one number of variables has the width
pub one_dim : (n m w : ℕ) → w ≡ n + 2 → w ≡ m + 2 → n ≡ m
one_dim n m w e f = omega arith
