-- Closed constraints, their list, and the rows that are valid at their points.
use Rattle.std.proofs.Common.{◌≡◌, ◌+◌, List, length, slice_index_or, map, false, ℤ, pos, neg_ℤ, ◌≤ℤ◌, ◌<ℤ◌, sym, ap, ◌∙◌, subst, arith, All}
use Rattle.std.proofs.lemmas.Int.{ints}
use Rattle.std.proofs.lemmas.List.Elements.{All-cons, All-head, All-tail, All-map}
use Rattle.row_core.specs.Vectors.{cell, dot}
use Rattle.cone_laws.specs.Cones.{Meets, negated}
use Rattle.cone_laws.proofs.Columns.{dot-negated, dot_comm, length-scale}
use Rattle.cone_laws.proofs.UniqueSystems.{upto_cone}
use Rattle.cons_sys.specs.declared.kind.ConKind.TheVariants.{Eq, Ge, Gt}
use Rattle.cons_sys.specs.Constraints.{Constraint, Constraints, Satisfies, In}
use Rattle.cone_laws.specs.Members.{ConeOf}
use Rattle.cone_laws.proofs.MemberLemmas.{cone_meets, cone_from}
use Rattle.stored_systems.specs.WorkLists.{divisor_row, constraint_row, constraint_list}
use Rattle.stored_systems.specs.PointSets.{IsClosedKind, AreClosed, AreWide, IsWithin, IsValid, IsInCone}
use Rattle.stored_systems.proofs.ListLemmas.{All-unmap}
use Rattle.stored_systems.proofs.DivisorRow.{dot_divisor, length-divisor}
use Rattle.stored_systems.proofs.Directions.{above_everywhere}

-- ---- one constraint
pub meets_constraint : (c : Constraint) (v : List ℤ) → IsClosedKind c.1 → Satisfies v c → Meets v (constraint_row c)
meets_constraint (a, Eq) v k h = h
meets_constraint (a, Ge) v k h = h
meets_constraint (a, Gt) v k h = absurd k

pub constraint_meets : (c : Constraint) (v : List ℤ) → IsClosedKind c.1 → Meets v (constraint_row c) → Satisfies v c
constraint_meets (a, Eq) v k h = h
constraint_meets (a, Ge) v k h = h
constraint_meets (a, Gt) v k h = absurd k

abbrev RowMeets : List ℤ → Constraint → Type 0
RowMeets v c = Meets v (constraint_row c)

module _ (cs : Constraints) (closed : AreClosed cs) where
  -- ---- points and the cone of the list
  pub in_cone : (p : List ℤ) → IsWithin cs p → ConeOf (cs.dim + 1) (constraint_list cs) p
  in_cone p w =
      cone_from (cs.dim + 1) (constraint_list cs) p w.point.wide
      (All-cons (Meets p) (divisor_row cs.dim, false) (map constraint_row cs.list) (subst (λ (z : ℤ). pos 0 ≤ℤ z) (sym (dot_divisor cs.dim p)) (least (cell p cs.dim) w.point.positive))
      (All-map (Meets p) constraint_row cs.list (λ i d h. meets_constraint (slice_index_or cs.list i d) p (closed i d h) (w.holds i d h))))
    where
      least : (x : ℤ) → pos 0 <ℤ x → pos 0 ≤ℤ x
      least x h = omega (arith, ints)

  pub cone_rows : (v : List ℤ) → ConeOf (cs.dim + 1) (constraint_list cs) v → All (λ c. Meets v (constraint_row c)) cs.list
  cone_rows v u = All-unmap constraint_row (Meets v) cs.list (All-tail (Meets v) (divisor_row cs.dim, false) (map constraint_row cs.list) (cone_meets (cs.dim + 1) (constraint_list cs) v u))

  pub cone_in : (v : List ℤ) → ConeOf (cs.dim + 1) (constraint_list cs) v → In cs v
  cone_in v u i d h = constraint_meets (slice_index_or cs.list i d) v (closed i d h) (cone_rows v u i d h)

  pub cone_divisor : (v : List ℤ) → ConeOf (cs.dim + 1) (constraint_list cs) v → pos 0 ≤ℤ cell v cs.dim
  cone_divisor v u = subst (λ (z : ℤ). pos 0 ≤ℤ z) (dot_divisor cs.dim v) (All-head (Meets v) (divisor_row cs.dim, false) (map constraint_row cs.list) (cone_meets (cs.dim + 1) (constraint_list cs) v u))

  pub cone_within : (v : List ℤ) → ConeOf (cs.dim + 1) (constraint_list cs) v → pos 0 <ℤ cell v cs.dim → IsWithin cs v
  cone_within v u h = record { point = record { wide = u.wide; positive = h }; holds = cone_in v u }

  -- what is at least 0 at the points is so on the whole cone, where there is a point
  pub above_cone : (inner : List ℤ) → IsWithin cs inner → (a : List ℤ) → ((p : List ℤ) → IsWithin cs p → pos 0 ≤ℤ dot a p) → (v : List ℤ) → ConeOf (cs.dim + 1) (constraint_list cs) v → pos 0 ≤ℤ dot a v
  above_cone inner w a holds v u =
      above_everywhere cs.dim (ConeOf (cs.dim + 1) (constraint_list cs)) (upto_cone (cs.dim + 1) (constraint_list cs) (length (constraint_list cs))) inner (in_cone inner w) w.point.positive a
      (λ p m h. holds p (cone_within p m h)) v u (cone_divisor v u)

  -- ---- valid rows
  row_valid : (a : List ℤ) → ((p : List ℤ) → IsWithin cs p → pos 0 ≤ℤ dot a p) → length a ≡ cs.dim + 1 → IsValid cs a
  row_valid a h w = record { wide = w; holds = h }

  divisor_valid : IsValid cs (divisor_row cs.dim)
  divisor_valid = record { wide = length-divisor cs.dim; holds = λ p w. subst (λ (z : ℤ). pos 0 ≤ℤ z) (sym (dot_divisor cs.dim p)) (least (cell p cs.dim) w.point.positive) }
    where
      least : (x : ℤ) → pos 0 <ℤ x → pos 0 ≤ℤ x
      least x h = omega (arith, ints)

  module _ (wide : AreWide cs) where
    row_admits : (c : Constraint) (v : List ℤ) → IsClosedKind c.1 → length c.0 ≡ cs.dim + 1 → ((p : List ℤ) → IsWithin cs p → Satisfies p c) → ((a : List ℤ) → IsValid cs a → pos 0 ≤ℤ dot a v) → Meets v (constraint_row c)
    row_admits (a, Eq) v k w s h =
        both_zero (dot a v) (dot (negated a) v) (h a (record { wide = w; holds = λ p m. zero_least (dot a p) (s p m) })) (h (negated a) (record { wide = length-scale (neg_ℤ (pos 1)) a ∙ w; holds = λ p m. negated_least (dot a p) (dot (negated a) p) (s p m) (turned p) })) (turned v)
      where
        turned : (x : List ℤ) → dot (negated a) x ≡ neg_ℤ (dot a x)
        turned x = dot_comm (negated a) x ∙ dot-negated x a ∙ ap neg_ℤ (dot_comm x a)

        zero_least : (x : ℤ) → x ≡ pos 0 → pos 0 ≤ℤ x
        zero_least x e = omega (arith, ints)

        negated_least : (x y : ℤ) → x ≡ pos 0 → y ≡ neg_ℤ x → pos 0 ≤ℤ y
        negated_least x y e f = omega (arith, ints)

        both_zero : (x y : ℤ) → pos 0 ≤ℤ x → pos 0 ≤ℤ y → y ≡ neg_ℤ x → x ≡ pos 0
        both_zero x y h k e = omega (arith, ints)
    row_admits (a, Ge) v k w s h = h a (record { wide = w; holds = s })
    row_admits (a, Gt) v k w s h = absurd k

    -- what all valid rows admit, the list admits
    pub admitted_in_cone : (v : List ℤ) → IsInCone cs v → ConeOf (cs.dim + 1) (constraint_list cs) v
    admitted_in_cone v m =
        cone_from (cs.dim + 1) (constraint_list cs) v m.wide
        (All-cons (Meets v) (divisor_row cs.dim, false) (map constraint_row cs.list) (m.admitted (divisor_row cs.dim) divisor_valid)
        (All-map (Meets v) constraint_row cs.list (λ i d h. row_admits (slice_index_or cs.list i d) v (closed i d h) (wide i d h) (λ p w. w.holds i d h) m.admitted)))

    pub cone_admitted : (inner : List ℤ) → IsWithin cs inner → (v : List ℤ) → ConeOf (cs.dim + 1) (constraint_list cs) v → IsInCone cs v
    cone_admitted inner w v u = record { wide = u.wide; admitted = λ a va. above_cone inner w a va.holds v u }
