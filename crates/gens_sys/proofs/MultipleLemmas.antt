use Rattle.std.proofs.Common.{◌≡◌, ℕ, zero, suc, ◌<◌, List, length, ℤ, pos, negsuc, ◌*ℤ◌, ◌<ℤ◌, refl, ap, ◌∙◌, sym, subst, arith, mul-pos}
use Rattle.std.specs.Prelude.{All}
use Rattle.std.proofs.lemmas.Int.{ints}
use Rattle.std.proofs.lemmas.List.Elements.{All-get_or, All-from_get_or}
use Rattle.row_core.specs.Vectors.{cell}
use Rattle.row_core.specs.Content.{IsMultipleOf}
use Rattle.row_core.proofs.CellLemmas.{cell-scale, length-scale}
use Rattle.gens_sys.specs.Kinds.{HasBadDivisor, IsZeroDirection}
use Rattle.gens_sys.specs.declared.kind.GenKind.{GenKind}
use Rattle.gens_sys.specs.declared.kind.GenKind.TheVariants.{Line, Ray, Point, ClosurePoint}

zero_times : (m : ℕ) (b : ℤ) → 0 < m → pos m *ℤ b ≡ pos 0 → b ≡ pos 0
zero_times m (pos zero) h e = refl
zero_times m (pos (suc n)) h e = let q : 0 < suc n = omega arith in absurd (omega (arith, ints, mul-pos h q, e))
zero_times m (negsuc n) h e = let q : 0 < suc n = omega arith in absurd (omega (arith, ints, mul-pos h q, e))

below_one_times : (m : ℕ) (b : ℤ) → 0 < m → b <ℤ pos 1 → (pos m *ℤ b) <ℤ pos 1
below_one_times m (pos zero) h e = omega (arith, ints)
below_one_times m (pos (suc n)) h e = absurd (omega (arith, ints, e))
below_one_times m (negsuc n) h e = let q : 0 < suc n = omega arith in omega (arith, ints, mul-pos h q)

-- a positive multiple of a bad divisor is bad
bad_times : (kind : GenKind) (m : ℕ) (b : ℤ) → 0 < m → HasBadDivisor kind b → HasBadDivisor kind (pos m *ℤ b)
bad_times Line m b h bad = λ e. bad (zero_times m b h e)
bad_times Ray m b h bad = λ e. bad (zero_times m b h e)
bad_times Point m b h bad = below_one_times m b h bad
bad_times ClosurePoint m b h bad = below_one_times m b h bad

-- each column of a multiple
pub cell-multiple : (row stored : List ℤ) (m : IsMultipleOf row stored) (j : ℕ) → cell row j ≡ pos m.times *ℤ cell stored j
cell-multiple row stored m j = ap (λ (v : List ℤ). cell v j) m.same ∙ cell-scale (pos m.times) stored j

pub length-multiple : (row stored : List ℤ) → IsMultipleOf row stored → length row ≡ length stored
length-multiple row stored m = ap length m.same ∙ length-scale (pos m.times) stored

-- a vector whose divisor is bad is no positive multiple of one whose divisor is good
pub HasBadDivisor-multiple : (kind : GenKind) (row stored : List ℤ) (dim : ℕ) → IsMultipleOf row stored → HasBadDivisor kind (cell stored dim) → HasBadDivisor kind (cell row dim)
HasBadDivisor-multiple kind row stored dim m bad =
    subst (HasBadDivisor kind) (sym (cell-multiple row stored m dim)) (bad_times kind m.times (cell stored dim) m.positive bad)

zero_product : (m : ℤ) (a b : ℤ) → a ≡ m *ℤ b → b ≡ pos 0 → a ≡ pos 0
zero_product m a b e z = omega (arith, ints, e, ap (λ (x : ℤ). m *ℤ x) z)

all_zero_multiple : (row stored : List ℤ) → IsMultipleOf row stored → All (λ z. z ≡ pos 0) stored → All (λ z. z ≡ pos 0) row
all_zero_multiple row stored m all =
    All-from_get_or (λ z. z ≡ pos 0) row (pos 0)
    (λ j h. zero_product (pos m.times) (cell row j) (cell stored j) (cell-multiple row stored m j)
    (All-get_or (λ z. z ≡ pos 0) stored j (pos 0) (omega (arith, length-multiple row stored m)) all))

pub IsZeroDirection-multiple : (kind : GenKind) (row stored : List ℤ) → IsMultipleOf row stored → IsZeroDirection kind stored → IsZeroDirection kind row
IsZeroDirection-multiple Line row stored m all = all_zero_multiple row stored m all
IsZeroDirection-multiple Ray row stored m all = all_zero_multiple row stored m all
IsZeroDirection-multiple Point row stored m no_case = no_case
IsZeroDirection-multiple ClosurePoint row stored m no_case = no_case
