-- Operands that are the same give the same powersets, and the same polyhedra of them.
use Rattle.std.proofs.Common.{◌≡◌, inl, inr, ℕ, ◌<◌, List, [], ◌∷◌, ◌++◌, length, map, get_or, sym, ◌∙◌, subst, arith}
use Rattle.std.specs.Prelude.{Some, slice_get}
use Rattle.std.proofs.lemmas.List.Elements.{All-weaker}
use Rattle.row_core.specs.Points.{IsPoint}
use Rattle.row_core.specs.Lists.{Pointwise}
use Rattle.row_core.proofs.PointwiseLemmas.{pointwise_nil, pointwise_tail, pointwise_cons, pointwise_one, pointwise_append}
use Rattle.poly_pair.specs.Polyhedra.{Polyhedron, IsKept, HaveSamePoints}
use Rattle.powerset.specs.Powersets.{FinitePowerset, IsMember, IsKeptPowerset, IsSingle, IsPowersetOfOne}
use Rattle.powerset.specs.PowersetLaws.{AreOfDimension}
use Rattle.powerset.specs.Joins.{IsJoin, pairs_of, IsMeetOf, IsPairMeet}
use Rattle.powerset.proofs.JoinLemmas.{joined_all, meets_members}
use Rattle.powerset.proofs.SameReductions.{AgreeIn, pointwise_at, reduced_same}
use Rattle.script_text.specs.declared.command.PowersetOperator.{PowersetOperator}
use Rattle.script_text.specs.declared.command.PowersetOperator.TheVariants.{Join, Meet}
use Rattle.powerset.specs.Commands.{IsPowersetOf}
use Rattle.run_laws.specs.Sameness.{AreSamePolyhedra, AreSamePowersets}
use Rattle.run_laws.proofs.OneForm.{OneForm, one_closed}
use Rattle.run_laws.proofs.OneResult.{same_back, same_at, empty_same}

-- two kept polyhedra with the same points
one_kept : OneForm → (p q : Polyhedron) → IsKept p → IsKept q → p.topology ≡ q.topology → p.cons.dim ≡ q.cons.dim → HaveSamePoints p q → AreSamePolyhedra p q
one_kept laws p q a b t d points = record { topology = t; dim = d; points = points; closed = λ c. one_closed laws p q a b c t d points }

-- ---- one polyhedron
lists_same : (ms ns xs ys : List Polyhedron) → ms ≡ xs → ns ≡ ys → Pointwise AreSamePolyhedra xs ys → Pointwise AreSamePolyhedra ms ns
lists_same ms ns xs ys e f h = subst (λ (ps : List Polyhedron). Pointwise AreSamePolyhedra ps ns) (sym e) (subst (Pointwise AreSamePolyhedra xs) (sym f) h)

single_same : (p q : Polyhedron) (ms ns : List Polyhedron) → AreSamePolyhedra p q → IsSingle p ms → IsSingle q ns → Pointwise AreSamePolyhedra ms ns
single_same p q ms ns same (inl (none, e)) (inl (other, f)) = lists_same ms ns [] [] e f (pointwise_nil AreSamePolyhedra)
single_same p q ms ns same (inl (none, e)) (inr (some, f)) = absurd (some (empty_same p q same none))
single_same p q ms ns same (inr (some, e)) (inl (none, f)) = absurd (some (empty_same q p (same_back p q same) none))
single_same p q ms ns same (inr (some, e)) (inr (other, f)) = lists_same ms ns (p ∷ []) (q ∷ []) e f (pointwise_one AreSamePolyhedra p q same)

pub one_single : OneForm → (p q : Polyhedron) (u w : FinitePowerset) → AreSamePolyhedra p q → IsPowersetOfOne p u → IsPowersetOfOne q w → IsKeptPowerset u → IsKeptPowerset w → AreSamePowersets u w
one_single laws p q u w same h k a b = record {
  topology = h.same_topology ∙ same.topology ∙ sym k.same_topology;
  dim = h.same_dim ∙ same.dim ∙ sym k.same_dim;
  members = single_same p q u.members w.members same h.members k.members;
}

-- the members at a place are the same
pub one_member : (s s2 : FinitePowerset) (i : ℕ) (p q : Polyhedron) → AreSamePowersets s s2 → slice_get s.members i ≡ Some p → slice_get s2.members i ≡ Some q → AreSamePolyhedra p q
one_member s s2 i p q same at_p at_q = pointwise_at AreSamePolyhedra s.members s2.members i p q same.members at_p at_q

-- ---- lists of one dimension
-- polyhedra that are the same, of the dimension
record AreSameOf (dim : ℕ) (p q : Polyhedron) : Type 0 where
  same : AreSamePolyhedra p q
  of_dim : p.cons.dim ≡ dim

members_of : (dim : ℕ) (ms ns : List Polyhedron) → AreOfDimension dim ms → Pointwise AreSamePolyhedra ms ns → Pointwise (AreSameOf dim) ms ns
members_of dim ms ns dims h = record { as_many = h.as_many; each = λ i d e below. record { same = h.each i d e below; of_dim = dims i d below } }

members_agree : (dim : ℕ) (ms ns : List Polyhedron) → AreOfDimension dim ms → Pointwise AreSamePolyhedra ms ns → Pointwise (AgreeIn dim) ms ns
members_agree dim ms ns dims h = record { as_many = h.as_many; each = λ i d e below. agree (get_or ms i d) (get_or ns i e) (h.each i d e below) (dims i d below) }
  where
    agree : (p q : Polyhedron) → AreSamePolyhedra p q → p.cons.dim ≡ dim → AgreeIn dim p q
    agree p q same e = record { first = e; second = sym same.dim ∙ e; points = λ v is. same_at p q dim v same e is }

pub dims_of : (u : FinitePowerset) → IsKeptPowerset u → AreOfDimension u.dim u.members
dims_of u kept = All-weaker (IsMember u.topology u.dim) (λ (p : Polyhedron). p.cons.dim ≡ u.dim) (λ p m. m.over.same_dim) u.members kept.each

-- ---- joins
one_join : (s s2 t t2 u w : FinitePowerset) → AreSamePowersets s s2 → AreSamePowersets t t2 → IsKeptPowerset s → IsKeptPowerset t → s.topology ≡ t.topology → s.dim ≡ t.dim → IsJoin s t u → IsJoin s2 t2 w → AreSamePowersets u w
one_join s s2 t t2 u w same others a b e f h k = record {
  topology = h.same_topology ∙ same.topology ∙ sym k.same_topology;
  dim = h.same_dim ∙ same.dim ∙ sym k.same_dim;
  members = reduced_same AreSamePolyhedra s.dim (s.members ++ t.members) (s2.members ++ t2.members) u.members w.members (members_agree s.dim (s.members ++ t.members) (s2.members ++ t2.members) dims both) both h.members k.members;
}
  where
    dims : AreOfDimension s.dim (s.members ++ t.members)
    dims = All-weaker (IsMember s.topology s.dim) (λ (p : Polyhedron). p.cons.dim ≡ s.dim) (λ p m. m.over.same_dim) (s.members ++ t.members) (joined_all s t a b e f)

    both : Pointwise AreSamePolyhedra (s.members ++ t.members) (s2.members ++ t2.members)
    both = pointwise_append AreSamePolyhedra s.members t.members s2.members t2.members same.members others.members

-- ---- meets
-- both parts of two pairs are the same
record AreSamePairs (dim : ℕ) (one other : Polyhedron × Polyhedron) : Type 0 where
  first : AreSameOf dim one.0 other.0
  second : AreSameOf dim one.1 other.1

pairs_with : (dim : ℕ) (p q : Polyhedron) (ms ns : List Polyhedron) → AreSameOf dim p q → Pointwise (AreSameOf dim) ms ns → Pointwise (AreSamePairs dim) (map {B = Polyhedron × Polyhedron} (λ (o : Polyhedron). (p, o)) ms) (map {B = Polyhedron × Polyhedron} (λ (o : Polyhedron). (q, o)) ns)
pairs_with dim p q [] [] same h = pointwise_nil (AreSamePairs dim)
pairs_with dim p q [] (n ∷ ns) same h = absurd (omega (arith, h.as_many))
pairs_with dim p q (m ∷ ms) [] same h = absurd (omega (arith, h.as_many))
pairs_with dim p q (m ∷ ms) (n ∷ ns) same h =
    pointwise_cons (AreSamePairs dim) (p, m) (map {B = Polyhedron × Polyhedron} (λ (o : Polyhedron). (p, o)) ms) (q, n) (map {B = Polyhedron × Polyhedron} (λ (o : Polyhedron). (q, o)) ns)
    (record { first = same; second = h.each 0 m n (omega arith) }) (pairs_with dim p q ms ns same (pointwise_tail (AreSameOf dim) m ms n ns h))

pairs_same : (dim : ℕ) (ps qs ms ns : List Polyhedron) → Pointwise (AreSameOf dim) ps qs → Pointwise (AreSameOf dim) ms ns → Pointwise (AreSamePairs dim) (pairs_of ps ms) (pairs_of qs ns)
pairs_same dim [] [] ms ns h k = pointwise_nil (AreSamePairs dim)
pairs_same dim [] (q ∷ qs) ms ns h k = absurd (omega (arith, h.as_many))
pairs_same dim (p ∷ ps) [] ms ns h k = absurd (omega (arith, h.as_many))
pairs_same dim (p ∷ ps) (q ∷ qs) ms ns h k =
    pointwise_append (AreSamePairs dim) (map {B = Polyhedron × Polyhedron} (λ (o : Polyhedron). (p, o)) ms) (pairs_of ps ms) (map {B = Polyhedron × Polyhedron} (λ (o : Polyhedron). (q, o)) ns) (pairs_of qs ns)
    (pairs_with dim p q ms ns (h.each 0 p q (omega arith)) k) (pairs_same dim ps qs ms ns (pointwise_tail (AreSameOf dim) p ps q qs h) k)

meet_same : OneForm → (dim : ℕ) (one other : Polyhedron × Polyhedron) (r s : Polyhedron) → AreSamePairs dim one other → IsMeetOf one r → IsMeetOf other s → AreSamePolyhedra r s
meet_same laws dim one other r s same h k =
    one_kept laws r s h.kept k.kept (h.meet.over.same_topology ∙ same.first.same.topology ∙ sym k.meet.over.same_topology) (h.meet.over.same_dim ∙ same.first.same.dim ∙ sym k.meet.over.same_dim) points
  where
    points : HaveSamePoints r s
    points v is =
        let at : IsPoint one.0.cons.dim v = subst (λ (n : ℕ). IsPoint n v) h.meet.over.same_dim is in
        let at_dim : IsPoint dim v = subst (λ (n : ℕ). IsPoint n v) same.first.of_dim at in
        let a = h.meet.points v at in
        let b = k.meet.points v (subst (λ (n : ℕ). IsPoint n v) same.first.same.dim at) in
        let left = same_at one.0 other.0 dim v same.first.same same.first.of_dim at_dim in
        let right = same_at one.1 other.1 dim v same.second.same same.second.of_dim at_dim in
        (λ x. let i = a.0 x in b.1 (left.0 i.0, right.0 i.1), λ y. let j = b.0 y in a.1 (left.1 j.0, right.1 j.1))

meets_same : OneForm → (dim : ℕ) (pairs others : List (Polyhedron × Polyhedron)) (ms ns : List Polyhedron) → Pointwise (AreSamePairs dim) pairs others → Pointwise IsMeetOf pairs ms → Pointwise IsMeetOf others ns → Pointwise AreSamePolyhedra ms ns
meets_same laws dim pairs others ms ns same h k = record { as_many = omega (arith, same.as_many, h.as_many, k.as_many); each = each }
  where
    each : (i : ℕ) (d e : Polyhedron) → i < length ms → AreSamePolyhedra (get_or ms i d) (get_or ns i e)
    each i d e below =
        let here : i < length pairs = omega (arith, below, h.as_many) in
        let there : i < length others = omega (arith, here, same.as_many) in
        meet_same laws dim (get_or pairs i (d, d)) (get_or others i (e, e)) (get_or ms i d) (get_or ns i e) (same.each i (d, d) (e, e) here) (h.each i (d, d) d here) (k.each i (e, e) e there)

one_pair_meet : OneForm → (s s2 t t2 u w : FinitePowerset) → AreSamePowersets s s2 → AreSamePowersets t t2 → IsKeptPowerset s → IsKeptPowerset t → s.dim ≡ t.dim → IsPairMeet s t u → IsPairMeet s2 t2 w → AreSamePowersets u w
one_pair_meet laws s s2 t t2 u w same others a b f h k = record {
  topology = h.same_topology ∙ same.topology ∙ sym k.same_topology;
  dim = h.same_dim ∙ same.dim ∙ sym k.same_dim;
  members = reduced_same AreSamePolyhedra s.dim h.meets k.meets u.members w.members (members_agree s.dim h.meets k.meets dims meets) meets h.members k.members;
}
  where
    second_dims : AreOfDimension s.dim t.members
    second_dims = subst (λ (n : ℕ). AreOfDimension n t.members) (sym f) (dims_of t b)

    pairs : Pointwise (AreSamePairs s.dim) (pairs_of s.members t.members) (pairs_of s2.members t2.members)
    pairs = pairs_same s.dim s.members s2.members t.members t2.members (members_of s.dim s.members s2.members (dims_of s a) same.members) (members_of s.dim t.members t2.members second_dims others.members)

    meets : Pointwise AreSamePolyhedra h.meets k.meets
    meets = meets_same laws s.dim (pairs_of s.members t.members) (pairs_of s2.members t2.members) h.meets k.meets pairs h.are_meets k.are_meets

    dims : AreOfDimension s.dim h.meets
    dims = All-weaker (IsMember s.topology s.dim) (λ (p : Polyhedron). p.cons.dim ≡ s.dim) (λ p m. m.over.same_dim) h.meets (meets_members s.topology s.dim s.members t.members h.meets a.each h.are_meets)

-- ---- joins and meets
pub one_powerset : OneForm → (op : PowersetOperator) (s s2 t t2 u w : FinitePowerset) → AreSamePowersets s s2 → AreSamePowersets t t2 → IsKeptPowerset s → IsKeptPowerset s2 → IsKeptPowerset t → IsKeptPowerset t2 → IsKeptPowerset u → IsKeptPowerset w → s.topology ≡ t.topology → s.dim ≡ t.dim → IsPowersetOf op s t u → IsPowersetOf op s2 t2 w → AreSamePowersets u w
one_powerset laws Join s s2 t t2 u w same others a a2 b b2 c c2 e f h k = one_join s s2 t t2 u w same others a b e f h k
one_powerset laws Meet s s2 t t2 u w same others a a2 b b2 c c2 e f h k = one_pair_meet laws s s2 t t2 u w same others a b f h k
