-- The systems of a constraint list: the stored pair holds where the constraints hold.
use Rattle.row_core.specs.Lists.{system_rows}
use Rattle.std.proofs.Common.{◌≡◌, ◌⊎◌, inl, inr, ℕ, ◌+◌, List, slice_index_or, ℤ, pos, ◌+ℤ◌, ◌*ℤ◌, ◌≤ℤ◌, ◌<ℤ◌, sym, ◌∙◌, subst, arith, All}
use Rattle.std.proofs.lemmas.Int.{ints}
use Rattle.std.proofs.lemmas.List.Elements.{All-weaker}
use Rattle.row_core.specs.Vectors.{cell, dot, combined}
use Rattle.cone_laws.specs.Cones.{Spans, Generates}
use Rattle.cone_laws.specs.Canon.{Canon}
use Rattle.cone_laws.proofs.Ring.{mul-positive, by_sign}
use Rattle.cons_sys.specs.Constraints.{Constraints}
use Rattle.cone_laws.specs.Members.{ConeOf}
use Rattle.cone_laws.specs.DualSystems.{AreSystemsOf}
use Rattle.cone_laws.proofs.SystemLists.{zero_on_lines}
use Rattle.cone_laws.proofs.ValidRows.{row_of_valid, are_dual, admits_second, second_admits}
use Rattle.stored_systems.specs.WorkLists.{HasPoint, divisor_row, constraint_list}
use Rattle.stored_systems.specs.PointSets.{AreClosed, IsWithin, HoldSame}
use Rattle.stored_systems.specs.StoredForms.{stored_constraints, AreClosedSystems}
use Rattle.stored_systems.specs.FirstLists.{ConstraintListAdmits, NoPointInConstraints, PairOfConstraints}
use Rattle.stored_systems.proofs.DivisorRow.{dot_divisor, length-divisor}
use Rattle.stored_systems.proofs.ClosedConstraints.{in_cone, cone_in, cone_divisor}
use Rattle.stored_systems.proofs.StoredPair.{cone_stored, within_cone}
use Rattle.stored_systems.proofs.NeededRows.{combined_zero}

module _ (cs : Constraints) (closed : AreClosed cs) (lines rays : List (List ℤ)) (first : Canon (ConeOf (cs.dim + 1) (constraint_list cs)) lines rays) where
  abbrev width : ℕ
  width = cs.dim + 1

  first_gen : Generates (ConeOf (cs.dim + 1) (constraint_list cs)) lines rays
  first_gen = first.system.generates

  pub divisor_row_in : ConeOf (cs.dim + 1) (system_rows lines rays) (divisor_row cs.dim)
  divisor_row_in =
      row_of_valid (cs.dim + 1) (ConeOf (cs.dim + 1) (constraint_list cs)) lines rays first_gen (divisor_row cs.dim) (length-divisor cs.dim)
      (λ v u. subst (λ (z : ℤ). pos 0 ≤ℤ z) (sym (dot_divisor cs.dim v)) (cone_divisor cs closed v u))

  pub lines_level : All (λ l. cell l cs.dim ≡ pos 0) lines
  lines_level = All-weaker (λ l. dot (divisor_row cs.dim) l ≡ pos 0) (λ l. cell l cs.dim ≡ pos 0) (λ l e. sym (dot_divisor cs.dim l) ∙ e) lines (zero_on_lines (cs.dim + 1) lines rays (divisor_row cs.dim) divisor_row_in)

  no_multiple : (t v s x y : ℤ) → pos 0 <ℤ t → pos 0 <ℤ v → t *ℤ v ≡ x +ℤ y → x ≡ pos 0 → y ≡ pos 0 → ⊥
  no_multiple t v s x y p q e f g = omega (arith, ints, mul-positive t v p q, e, f, g)

  level_by : (x : ℤ) → pos 0 ≤ℤ x → ¬ (pos 0 <ℤ x) → x ≡ pos 0
  level_by x h n = by_sign_of (by_sign x)
    where
      by_sign_of : (pos 0 <ℤ x) ⊎ ((x <ℤ pos 0) ⊎ (x ≡ pos 0)) → x ≡ pos 0
      by_sign_of (inl p) = absurd (n p)
      by_sign_of (inr (inl p)) = absurd (omega (arith, ints, h, p))
      by_sign_of (inr (inr e)) = e

  -- where no ray has a last entry above 0, there is no point
  pub no_point : All (λ r. ¬ (pos 0 <ℤ cell r cs.dim)) rays → (p : List ℤ) → ¬ (IsWithin cs p)
  no_point level p w =
      let s : Spans lines rays p = first_gen.spans p (in_cone cs closed p w) in
      no_multiple s.times (cell p cs.dim) (pos 0) (combined s.line_factors lines cs.dim) (combined s.ray_factors rays cs.dim) s.positive w.point.positive (s.sum cs.dim) (combined_zero s.line_factors lines cs.dim lines_level)
      (combined_zero s.ray_factors rays cs.dim (λ i d h. level_by (cell (slice_index_or rays i d) cs.dim) (cone_divisor cs closed (slice_index_or rays i d) (first_gen.rays_within i d h)) (level i d h)))

  -- a ray with a last entry above 0 is a point
  module _ (equalities inequalities : List (List ℤ)) (second : Canon (ConeOf (cs.dim + 1) (system_rows lines rays)) equalities inequalities) (point : HasPoint cs.dim rays) where
    systems : AreSystemsOf (cs.dim + 1) (constraint_list cs) lines rays equalities inequalities
    systems = record { first = first; second = second }

    pub cons_polyhedral : AreClosedSystems cs.dim lines rays equalities inequalities
    cons_polyhedral = record {
      dual = are_dual (cs.dim + 1) (constraint_list cs) lines rays equalities inequalities systems;
      divisor = divisor_row_in;
      point = point;
    }

    -- the stored constraints hold where the given ones hold
    pub cons_hold_same : HoldSame cs (record { dim = cs.dim; list = stored_constraints cs.dim equalities inequalities })
    cons_hold_same p pt = (
      (λ h. cone_stored cs.dim lines rays equalities inequalities cons_polyhedral p (admits_second (cs.dim + 1) (constraint_list cs) lines rays equalities inequalities systems.first.system.generates systems.second.system.generates p (in_cone cs closed p (record { point = pt; holds = h })))),
      (λ h. cone_in cs closed p (second_admits (cs.dim + 1) (constraint_list cs) lines rays equalities inequalities systems.first.system.generates systems.second.system.generates p (within_cone cs.dim lines rays equalities inequalities cons_polyhedral p (record { point = pt; holds = h })))),
    )

pub no_point_in_constraints : NoPointInConstraints
no_point_in_constraints cs lines rays closed first level = no_point cs closed lines rays first level

pub pair_of_constraints : PairOfConstraints
pair_of_constraints cs lines rays equalities inequalities closed s point = (
  cons_polyhedral cs closed lines rays s.first equalities inequalities s.second point,
  cons_hold_same cs closed lines rays s.first equalities inequalities s.second point,
)

pub constraint_list_admits : ConstraintListAdmits
constraint_list_admits cs p closed pt = ((λ h. in_cone cs closed p (record { point = pt; holds = h })), cone_in cs closed p)
