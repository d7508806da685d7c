-- The rows that are valid on a set, by its generators.
use Rattle.std.proofs.Common.{ℕ, ◌+◌, List, [], ℤ, sym, subst, arith}
use Rattle.row_core.specs.Lists.{Row}
use Rattle.cons_sys.specs.Constraints.{Constraints}
use Rattle.cone_laws.specs.Members.{ConeOf}
use Rattle.stored_systems.specs.PointSets.{IsWithin}
use Rattle.stored_systems.specs.StoredForms.{stored_constraints, stored_generators, AreClosedSystems}
use Rattle.stored_systems.specs.StoredLaws.{AdmitValidRows}
use Rattle.stored_systems.proofs.StoredPair.{gen_list_stored, valid_row, row_valid}

pub valid_are_listed : (dim : ℕ) (lines rays equalities inequalities : List (List ℤ)) → AreClosedSystems dim lines rays equalities inequalities → AdmitValidRows (record { dim = dim; list = stored_constraints dim equalities inequalities }) (record { dim = dim; list = stored_generators dim lines rays })
valid_are_listed dim lines rays equalities inequalities pair a = (
  (λ v. subst (λ (rs : List Row). ConeOf (dim + 1) rs a) (sym (gen_list_stored dim lines rays)) (valid_row dim lines rays equalities inequalities pair a v)),
  (λ u. row_valid dim lines rays equalities inequalities pair a (subst (λ (rs : List Row). ConeOf (dim + 1) rs a) (gen_list_stored dim lines rays) u)),
)

-- and of a set without a point
pub valid_without_points : (cs : Constraints) → ((p : List ℤ) → ¬ (IsWithin cs p)) → AdmitValidRows cs (record { dim = cs.dim; list = [] })
valid_without_points cs empty a = (
  (λ v. record { wide = v.wide; meets = λ i d low high. absurd (omega arith) }),
  (λ u. record { wide = u.wide; holds = λ p w. absurd (empty p w) }),
)
