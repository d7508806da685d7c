-- The smallest polyhedron that has the points of some parts.
use Rattle.std.proofs.Common.{◌≡◌, ◌⊎◌, inl, inr, ℕ, zero, suc, ◌+◌, ◌<◌, List, [], ◌∷◌, ◌++◌, length, ℤ, pos, negsuc, ◌≤ℤ◌, ◌<ℤ◌, ◌*ℤ◌, refl, sym, ap, ◌∙◌, subst, arith, All}
use Rattle.std.proofs.lemmas.Int.{ints}
use Rattle.std.proofs.lemmas.Bool.{cases_order}
use Rattle.std.proofs.lemmas.List.Elements.{All-nil, All-cons, All-head, All-append}
use Rattle.row_core.specs.Vectors.{cell, dot}
use Rattle.row_core.specs.Points.{IsPoint}
use Rattle.row_core.specs.Refusals.{IsOverflowIn}
use Rattle.row_core.specs.declared.errors.ConvErr.{ConvErr}
use Rattle.row_core.specs.declared.errors.ConvErr.TheVariants as conversion
use Rattle.cons_sys.specs.declared.kind.ConKind.TheVariants.{Ge}
use Rattle.cons_sys.specs.Constraints.{Constraint, Constraints, constraint_at, Satisfies}
use Rattle.stored_systems.specs.StoredForms.{false_row}
use Rattle.stored_systems.proofs.ListLemmas.{All-left, All-right}
use Rattle.poly_pair.specs.declared.topology.Topology.{Topology}
use Rattle.poly_pair.specs.declared.topology.Topology.TheVariants.{Nnc}
use Rattle.poly_pair.specs.TopologyLists.{list_width, constraints_of, generators_of}
use Rattle.poly_pair.specs.TopologyConstraints.{IsConstraintFor}
use Rattle.poly_pair.specs.Polyhedra.{Polyhedron, IsKept, IsOver, IsOfConstraints, IsEmpty}
use Rattle.poly_pair.specs.Additions.{with_constraints}
use Rattle.poly_pair.specs.Refusals.{IsOverflowOn}
use Rattle.stored_systems.specs.WorkLists.{LeavesOn}
use Rattle.lattice_ops.specs.Sets.{IsHull, IsValidOn, both_generators}
use Rattle.enclosures.specs.Ways.{ways}
use Rattle.enclosures.specs.Differences.{IsDifference, IsPart, IsValidTo, IsJoinTo, LeavesOnPart, LeavesAt}
use Rattle.enclosures.proofs.WayLemmas.{some_way, way_fails}

-- ---- a part
pub part_of : (p : Polyhedron) (way : Constraint) (one : Constraints) (topology : Topology) (r : Polyhedron) → topology ≡ Nnc → one.list ≡ way ∷ [] → IsOfConstraints topology (with_constraints p one) r → IsPart p way r
part_of p way one topology r nnc e of = record {
  over = subst (λ (t : Topology). IsOver t p.cons.dim r) nnc of.over;
  points = λ v pt. (
    (λ h.
        let all : All (Satisfies v) (p.cons.list ++ one.list) = (of.points v pt).1 h in
        (All-left (Satisfies v) p.cons.list one.list all, All-head (Satisfies v) way [] (subst (All (Satisfies v)) e (All-right (Satisfies v) p.cons.list one.list all)))),
    (λ h. (of.points v pt).0 (All-append (Satisfies v) p.cons.list one.list h.0 (subst (All (Satisfies v)) (sym e) (All-cons (Satisfies v) way [] h.1 (All-nil (Satisfies v)))))),
  );
}

pub part_leaves : (p : Polyhedron) (way : Constraint) (one : Constraints) (topology : Topology) → topology ≡ Nnc → one.dim ≡ p.cons.dim → one.list ≡ way ∷ [] → (e : ConvErr) → IsOverflowOn (list_width topology p.cons.dim) p.cons.dim (constraints_of topology (with_constraints p one)) e → IsOverflowIn (LeavesOnPart p way) e
part_leaves p way one topology nnc d l (conversion.Overflow over) h =
    subst (λ (t : Topology). LeavesOn (list_width t p.cons.dim) p.cons.dim (constraints_of t (with_constraints p (record { dim = p.cons.dim; list = way ∷ [] }))) over) nnc
    (subst (λ (cs : Constraints). LeavesOn (list_width topology p.cons.dim) p.cons.dim (constraints_of topology (with_constraints p cs)) over) (ap (λ (n : ℕ). record { dim = n; list = one.list }) d ∙ ap (λ (xs : List Constraint). record { dim = p.cons.dim; list = xs }) l) h)
part_leaves p way one topology nnc d l conversion.Memory h = tt

-- ---- no part yet
false_value : (dim : ℕ) (v : List ℤ) → length v ≡ dim + 1 → dot (false_row dim) v ≡ negsuc 0 *ℤ cell v dim
false_value zero [] w = absurd (omega (arith, w))
false_value zero (a ∷ []) w = omega (arith, ints)
false_value zero (a ∷ b ∷ v) w = absurd (omega (arith, w))
false_value (suc dim) [] w = absurd (omega (arith, w))
false_value (suc dim) (a ∷ v) w = let e = false_value dim v (omega (arith, w)) in omega (arith, ints, e)

false_wide : (dim : ℕ) → length (false_row dim) ≡ dim + 1
false_wide zero = refl
false_wide (suc dim) = ap suc (false_wide dim) ∙ omega arith

never : (x y : ℤ) → pos 0 <ℤ x → y ≡ negsuc 0 *ℤ x → pos 0 ≤ℤ y → ⊥
never x y h e k = omega (arith, ints, h, e, k)

pub none_joined : (p : Polyhedron) (list : List Constraint) (r : Polyhedron) → IsEmpty Nnc p.cons.dim r → IsJoinTo p list 0 r
none_joined p list r e = record {
  over = e.over;
  points = λ v pt. (
    (λ h. absurd (e.points v (record { point = subst (λ (n : ℕ). IsPoint n v) (sym e.over.same_dim) pt; holds = h }))),
    (λ f. absurd (never (cell v p.cons.dim) (dot (false_row p.cons.dim) v) pt.positive (false_value p.cons.dim v pt.wide)
        (f (false_row p.cons.dim, Ge) (record { wide = false_wide p.cons.dim; kind = tt }) (λ u _ _ k l _. absurd (omega (arith, l)))))),
  );
}

-- ---- one more part
module _ (p : Polyhedron) (list : List Constraint) (n : ℕ) (made part r : Polyhedron) (m : IsJoinTo p list n made) (s : IsPart p (constraint_at list n) part) (h : IsHull made part r) where
  to_made : (v : List ℤ) → IsPoint made.cons.dim v → IsPoint p.cons.dim v
  to_made v pt = subst (λ (d : ℕ). IsPoint d v) m.over.same_dim pt

  from_made : (v : List ℤ) → IsPoint p.cons.dim v → IsPoint made.cons.dim v
  from_made v pt = subst (λ (d : ℕ). IsPoint d v) (sym m.over.same_dim) pt

  -- a constraint that is valid with one more way is valid on what was made, and on the part
  valid_made : (c : Constraint) → IsConstraintFor Nnc p.cons.dim c → IsValidTo p list (n + 1) c → IsValidOn made c
  valid_made c is valid v pt inside = (m.points v (to_made v pt)).0 inside c is (λ u upt up k l holds. valid u upt up k (omega (arith, l)) holds)

  valid_part : (c : Constraint) → IsValidTo p list (n + 1) c → IsValidOn part c
  valid_part c valid v pt inside =
      let at = subst (λ (d : ℕ). IsPoint d v) s.over.same_dim pt in
      let both = (s.points v at).0 inside in
      valid v at both.0 n (omega arith) both.1

  -- and one that is valid on both is valid with one more way
  valid_more : (c : Constraint) → IsValidOn made c → IsValidOn part c → IsValidTo p list (n + 1) c
  valid_more c in_made in_part v pt inside k l holds = by (cases_order k n)
    where
      by : (k ≡ n) ⊎ ((k < n) ⊎ (n < k)) → Satisfies v c
      by (inr (inr more)) = absurd (omega (arith, l, more))
      by (inr (inl less)) = in_made v (from_made v pt) ((m.points v pt).1 (λ d is valid. valid v pt inside k less holds))
      by (inl same) = in_part v (subst (λ (d : ℕ). IsPoint d v) (sym s.over.same_dim) pt) ((s.points v pt).1 (inside, subst (λ (i : ℕ). Satisfies v (constraint_at list i)) same holds))

  constraint_made : (c : Constraint) → IsConstraintFor Nnc p.cons.dim c → IsConstraintFor made.topology made.cons.dim c
  constraint_made c is = subst (λ (t : Topology). IsConstraintFor t made.cons.dim c) (sym m.over.same_topology) (subst (λ (d : ℕ). IsConstraintFor Nnc d c) (sym m.over.same_dim) is)

  constraint_back : (c : Constraint) → IsConstraintFor made.topology made.cons.dim c → IsConstraintFor Nnc p.cons.dim c
  constraint_back c is = subst (λ (d : ℕ). IsConstraintFor Nnc d c) m.over.same_dim (subst (λ (t : Topology). IsConstraintFor t made.cons.dim c) m.over.same_topology is)

  pub one_joined : IsJoinTo p list (n + 1) r
  one_joined = record {
    over = record { same_topology = h.over.same_topology ∙ m.over.same_topology; same_dim = h.over.same_dim ∙ m.over.same_dim };
    points = λ v pt. (
      (λ inside c is valid. (h.points v (from_made v pt)).0 inside c (constraint_made c is) (valid_made c is valid) (valid_part c valid)),
      (λ f. (h.points v (from_made v pt)).1 (λ c is in_made in_part. f c (constraint_back c is) (valid_more c in_made in_part))),
    );
  }

pub join_leaves : (p : Polyhedron) (list : List Constraint) (n : ℕ) (made part : Polyhedron) → IsJoinTo p list n made → IsKept made → IsPart p (constraint_at list n) part → IsKept part → (e : ConvErr) → IsOverflowOn (list_width made.topology made.cons.dim) made.cons.dim (generators_of made.topology (both_generators made part)) e → IsOverflowIn (LeavesAt p list n) e
join_leaves p list n made part m k s l (conversion.Overflow over) h = inr (record {
  made = made;
  is_made = m;
  made_kept = k;
  part = part;
  is_part = s;
  part_kept = l;
  leaves = subst (λ (d : ℕ). LeavesOn (list_width Nnc d) d (generators_of Nnc (both_generators made part)) over) m.over.same_dim
      (subst (λ (t : Topology). LeavesOn (list_width t made.cons.dim) made.cons.dim (generators_of t (both_generators made part)) over) m.over.same_topology h);
})
join_leaves p list n made part m k s l conversion.Memory h = tt

-- ---- all parts
pub joined_difference : (p : Polyhedron) (cs : Constraints) (r : Polyhedron) → IsJoinTo p (ways cs).list (length (ways cs).list) r → IsDifference p cs r
joined_difference p cs r j = record {
  over = j.over;
  points = λ v pt. (
    (λ inside c is valid. (j.points v pt).0 inside c is (λ u upt up k l holds. valid u upt up (way_fails cs u k l holds))),
    (λ f. (j.points v pt).1 (λ c is valid. f c is (λ u upt up fails. let s = some_way cs.list u fails in valid u upt up s.index s.below s.holds))),
  );
}
