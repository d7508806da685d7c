-- The points of joins and of meets, and what covers say of points.
use Rattle.std.proofs.Common.{◌≡◌, ◌⊎◌, inl, inr, ℕ, zero, suc, ◌<◌, List, [], ◌∷◌, ◌++◌, length, map, get_or, ℤ, refl, sym, ◌∙◌, subst, ap, arith}
use Rattle.std.specs.Prelude.{◌↔◌, Contains}
use Rattle.std.proofs.Math.ListN.{get_or-map}
use Rattle.std.proofs.lemmas.List.{length-map}
use Rattle.std.proofs.lemmas.List.Elements.{All-nil, All-cons, All-append, All-weaker, All-contains, All-contains_itself, Contains-get_or, Contains-append_left, Contains-append_right, Contains-append_cases}
use Rattle.row_core.specs.Points.{IsPoint}
use Rattle.cons_sys.specs.Constraints.{In}
use Rattle.poly_pair.specs.Polyhedra.{Polyhedron}
use Rattle.powerset.specs.Powersets.{FinitePowerset, IsKeptPowerset, IsMember, IsInPowerset, IsSingle}
use Rattle.powerset.specs.Joins.{pairs_of, IsMeetOf, AreMeets}
use Rattle.powerset.specs.PowersetLaws.{AreOfDimension, CoveredBothWays, CoversWhereIncluded, JoinIsUnion, PairMeetIsIntersection}
use Rattle.powerset.proofs.JoinLemmas.{pairs_all, meets_members}
use Rattle.powerset.proofs.ReducedPoints.{reduction_keeps_points}

of_dim : (m n : ℕ) (v : List ℤ) → m ≡ n → IsPoint m v → IsPoint n v
of_dim m n v e pt = subst (λ (k : ℕ). IsPoint k v) e pt

-- ---- covers
pub covered_both_ways : CoveredBothWays
covered_both_ways s t d =
    (λ h v pt. (λ i. h.1 v (of_dim s.dim t.dim v d pt) i, λ i. h.0 v pt i), λ h. (λ v pt i. (h v pt).1 i, λ v pt i. (h v (of_dim t.dim s.dim v (sym d) pt)).0 i))

-- the points of a single polyhedron
in_single : (p : Polyhedron) (members : List Polyhedron) (v : List ℤ) → IsPoint p.cons.dim v → IsSingle p members → IsInPowerset members v ↔ In p.cons v
in_single p members v pt (inl (none, e)) = (λ i. nothing (subst (λ (ps : List Polyhedron). IsInPowerset ps v) e i), λ h. absurd (none v (record { point = pt; holds = h })))
  where
    nothing : IsInPowerset [] v → In p.cons v
    nothing i = absurd (omega (arith, i.listed.1))
in_single p members v pt (inr (some, e)) = (λ i. only (subst (λ (ps : List Polyhedron). IsInPowerset ps v) e i), λ h. subst (λ (ps : List Polyhedron). IsInPowerset ps v) (sym e) (record { member = p; listed = (0, omega arith, refl); holds = h }))
  where
    only : IsInPowerset (p ∷ []) v → In p.cons v
    only i = All-contains (λ (o : Polyhedron). In o.cons v → In p.cons v) (p ∷ []) i.member (All-cons (λ (o : Polyhedron). In o.cons v → In p.cons v) p [] (λ h. h) (All-nil (λ (o : Polyhedron). In o.cons v → In p.cons v))) i.listed i.holds

pub covers_where_included : CoversWhereIncluded
covers_where_included p q s t d a b = (
  λ c v pt h. (in_single p s.members v (of_dim q.cons.dim p.cons.dim v (sym d) pt) a.members).0 (c v (of_dim q.cons.dim s.dim v (sym d ∙ sym a.same_dim) pt) ((in_single q t.members v pt b.members).1 h)),
  λ inc v pt i. let pt_p = of_dim s.dim p.cons.dim v a.same_dim pt in let pt_q = of_dim p.cons.dim q.cons.dim v d pt_p in (in_single p s.members v pt_p a.members).1 (inc v pt_q ((in_single q t.members v pt_q b.members).0 i)),
)

-- ---- joins
dims_of : (u : FinitePowerset) → IsKeptPowerset u → AreOfDimension u.dim u.members
dims_of u kept = All-weaker (IsMember u.topology u.dim) (λ (p : Polyhedron). p.cons.dim ≡ u.dim) (λ p m. m.over.same_dim) u.members kept.each

in_either : (ps qs : List Polyhedron) (v : List ℤ) → IsInPowerset (ps ++ qs) v ↔ (IsInPowerset ps v ⊎ IsInPowerset qs v)
in_either ps qs v = (λ i. by_place i (Contains-append_cases ps qs i.member i.listed), joined)
  where
    by_place : (i : IsInPowerset (ps ++ qs) v) → Contains ps i.member ⊎ Contains qs i.member → IsInPowerset ps v ⊎ IsInPowerset qs v
    by_place i (inl c) = inl (record { member = i.member; listed = c; holds = i.holds })
    by_place i (inr c) = inr (record { member = i.member; listed = c; holds = i.holds })

    joined : IsInPowerset ps v ⊎ IsInPowerset qs v → IsInPowerset (ps ++ qs) v
    joined (inl i) = record { member = i.member; listed = Contains-append_left ps qs i.member i.listed; holds = i.holds }
    joined (inr i) = record { member = i.member; listed = Contains-append_right ps qs i.member i.listed; holds = i.holds }

pub join_is_union : JoinIsUnion
join_is_union s t u kept_s kept_t d j v pt =
    let dims : AreOfDimension s.dim (s.members ++ t.members) = All-append (λ (p : Polyhedron). p.cons.dim ≡ s.dim) s.members t.members (dims_of s kept_s) (All-weaker (λ (p : Polyhedron). p.cons.dim ≡ t.dim) (λ (p : Polyhedron). p.cons.dim ≡ s.dim) (λ p e. e ∙ sym d) t.members (dims_of t kept_t)) in
    let left = reduction_keeps_points s.dim (s.members ++ t.members) u.members dims j.members v pt in
    let both = in_either s.members t.members v in
    (λ h. both.0 (left.0 h), λ h. left.1 (both.1 h))

-- ---- meets
paired : (p q : Polyhedron) (qs : List Polyhedron) → Contains qs q → Contains (map {B = Polyhedron × Polyhedron} (λ (o : Polyhedron). (p, o)) qs) (p, q)
paired p q qs c =
    let f : Polyhedron → Polyhedron × Polyhedron = λ o. (p, o) in
    (c.0, omega (arith, c.1, length-map qs f), get_or-map f qs c.0 q ∙ ap f c.2)

-- each pair of members is listed
pair_listed : (ps qs : List Polyhedron) (p q : Polyhedron) (k : ℕ) → k < length ps → get_or ps k p ≡ p → Contains qs q → Contains (pairs_of ps qs) (p, q)
pair_listed [] qs p q k b e c = absurd (omega (arith, b))
pair_listed (x ∷ ps) qs p q zero b e c = Contains-append_left (map (λ (o : Polyhedron). (x, o)) qs) (pairs_of ps qs) (p, q) (subst (λ (y : Polyhedron). Contains (map {B = Polyhedron × Polyhedron} (λ (o : Polyhedron). (y, o)) qs) (p, q)) (sym e) (paired p q qs c))
pair_listed (x ∷ ps) qs p q (suc k) b e c = Contains-append_right (map (λ (o : Polyhedron). (x, o)) qs) (pairs_of ps qs) (p, q) (pair_listed ps qs p q k (omega (arith, b)) e c)

module _ (s t : FinitePowerset) (kept_s : IsKeptPowerset s) (meets : List Polyhedron) (m : AreMeets s.members t.members meets) (v : List ℤ) (pt : IsPoint s.dim v) where
  listed_point : (p : Polyhedron) → Contains s.members p → IsPoint p.cons.dim v
  listed_point p c = of_dim s.dim p.cons.dim v (sym (All-contains (λ (o : Polyhedron). o.cons.dim ≡ s.dim) s.members p (dims_of s kept_s) c)) pt

  in_both : IsInPowerset meets v → IsInPowerset s.members v × IsInPowerset t.members v
  in_both i =
      let below : i.listed.0 < length (pairs_of s.members t.members) = omega (arith, i.listed.1, m.as_many) in
      let pair : Polyhedron × Polyhedron = get_or (pairs_of s.members t.members) i.listed.0 (i.member, i.member) in
      let r : IsMeetOf pair i.member = subst (IsMeetOf pair) i.listed.2 (m.each i.listed.0 (i.member, i.member) i.member below) in
      let parts : Contains s.members pair.0 × Contains t.members pair.1 = pairs_all (Contains s.members) (Contains t.members) s.members t.members (All-contains_itself s.members) (All-contains_itself t.members) i.listed.0 (i.member, i.member) below in
      let h = (r.meet.points v (listed_point pair.0 parts.0)).0 i.holds in
      (record { member = pair.0; listed = parts.0; holds = h.0 }, record { member = pair.1; listed = parts.1; holds = h.1 })

  in_meet : IsInPowerset s.members v × IsInPowerset t.members v → IsInPowerset meets v
  in_meet (i, j) =
      let c = pair_listed s.members t.members i.member j.member i.listed.0 i.listed.1 i.listed.2 j.listed in
      let r : IsMeetOf (i.member, j.member) (get_or meets c.0 i.member) = subst (λ (pair : Polyhedron × Polyhedron). IsMeetOf pair (get_or meets c.0 i.member)) c.2 (m.each c.0 (i.member, j.member) i.member c.1) in
      record { member = get_or meets c.0 i.member; listed = Contains-get_or meets c.0 i.member (omega (arith, c.1, m.as_many)); holds = (r.meet.points v (listed_point i.member i.listed)).1 (i.holds, j.holds) }

pub pair_meet_is_intersection : PairMeetIsIntersection
pair_meet_is_intersection s t u kept_s kept_t d w v pt =
    let dims : AreOfDimension s.dim w.meets = All-weaker (IsMember s.topology s.dim) (λ (p : Polyhedron). p.cons.dim ≡ s.dim) (λ p m. m.over.same_dim) w.meets (meets_members s.topology s.dim s.members t.members w.meets kept_s.each w.are_meets) in
    let left = reduction_keeps_points s.dim w.meets u.members dims w.members v pt in
    (λ h. in_both s t kept_s w.meets w.are_meets v pt (left.0 h), λ h. left.1 (in_meet s t kept_s w.meets w.are_meets v pt h))
