-- What a stored pair with more variables costs and shows.
use Rattle.std.proofs.Common.{◌≡◌, ℕ, ◌≤◌, true, false, Option, Some, None, Result, Ok, inl, inr, refl, arith}
use Rattle.row_core.specs.declared.errors.Memory.{Memory}
use Rattle.cons_sys.specs.Constraints.{Constraints}
use Rattle.poly_pair.specs.Polyhedra.{Polyhedron}
use Rattle.poly_pair.specs.Starts.{CanStart}
use Rattle.poly_pair.proofs.WorkLemmas.{pair_fewer}
use Rattle.dimensions.specs.AddedVariables.{LeavesWithZeros}
use Rattle.dimensions.specs.PairConversions.{ConvertsFreePair, ConvertsZeroPair}

-- ---- free variables
pub free_fewer : (p : Polyhedron) (cs : Constraints) (old new : ℕ) (r : Result (Option Polyhedron) Memory) → ConvertsFreePair p cs old new r → old ≤ new
free_fewer p cs old new r (inl h) = pair_fewer cs old new r h.1
free_fewer p cs old new r (inr h) = omega (arith, h.1.0)

-- ---- variables that are 0
pub zero_fewer : (count : ℕ) (p : Polyhedron) (old new : ℕ) (r : Result (Option Polyhedron) Memory) → ConvertsZeroPair count p old new r → old ≤ new
zero_fewer count p old new r (inl h) = pair_fewer h.system old new r h.conversion
zero_fewer count p old new r (inr (inl h)) = omega (arith, h.1.0)
zero_fewer count p old new r (inr (inr h)) = omega (arith, h.0)

pub zero_leaves : (count : ℕ) (p : Polyhedron) (old new : ℕ) (found : Option Polyhedron) → ((q : Polyhedron) → found ≡ Some q → ⊥) → ConvertsZeroPair count p old new (Ok found) → CanStart p → LeavesWithZeros count p
zero_leaves count p old new (Some q) never h can = absurd (never q refl)
zero_leaves count p old new None never (inl h) can = record { system = h.system; zero = h.zero; leaves = record { over = h.conversion.over; leaves = h.conversion.conversion.overflow } }
zero_leaves count p old new None never (inr (inl h)) can = absurd (h.0 can)
zero_leaves count p old new None never (inr (inr h)) can = absurd (let never_err : false ≡ true = h.1 in cc)
