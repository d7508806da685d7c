-- The members of joins and of meets.
use Rattle.std.proofs.Common.{◌≡◌, ℕ, ◌+◌, ◌<◌, List, [], ◌∷◌, ◌++◌, length, map, take, get_or, refl, sym, ◌∙◌, subst, ap, append_assoc, append-nil, arith}
use Rattle.std.specs.Prelude.{All, Contains}
use Rattle.std.proofs.lemmas.List.{map-append, take_more}
use Rattle.std.proofs.lemmas.List.Elements.{All-nil, All-cons, All-head, All-tail, All-append, All-map, All-contains}
use Rattle.std.proofs.lemmas.Grind.{flat_map-append}
use Rattle.row_core.specs.Lists.{Pointwise}
use Rattle.row_core.specs.declared.errors.ConvErr.{ConvErr}
use Rattle.row_core.specs.declared.errors.ConvErr.TheVariants as conversion
use Rattle.row_core.proofs.PointwiseLemmas.{pointwise_nil, pointwise_one, pointwise_append}
use Rattle.flat_rows.proofs.Marked.{all_marked}
use Rattle.poly_pair.specs.declared.topology.Topology.{Topology}
use Rattle.poly_pair.specs.TopologyLists.{list_width}
use Rattle.poly_pair.specs.Polyhedra.{Polyhedron, AreAlike}
use Rattle.poly_pair.specs.Refusals.{IsOverflowOn}
use Rattle.lattice_ops.specs.Sets.{meet_list}
use Rattle.row_core.specs.Refusals.{IsOverflowIn}
use Rattle.powerset.specs.Powersets.{FinitePowerset, IsKeptPowerset, IsMember}
use Rattle.powerset.specs.Reductions.{IsReduced, HaveOneDimension}
use Rattle.powerset.specs.Joins.{pairs_of, IsMeetOf, AreMeets, HasMeets, LeavesOnMeet}
use Rattle.cover_search.proofs.BranchLemmas.{all_at}

-- ---- parts
pub reduced_all : (P : Polyhedron → Type 0) (members part : List Polyhedron) → IsReduced members part → All P members → All P part
reduced_all P members part r h = subst (All P) (sym r.is_part) (all_marked P r.keep members h)

pub joined_all : (s t : FinitePowerset) → IsKeptPowerset s → IsKeptPowerset t → s.topology ≡ t.topology → s.dim ≡ t.dim → All (IsMember s.topology s.dim) (s.members ++ t.members)
joined_all s t ks kt e f = All-append (IsMember s.topology s.dim) s.members t.members ks.each
    (subst (λ (o : Topology). All (IsMember o s.dim) t.members) (sym e) (subst (λ (n : ℕ). All (IsMember t.topology n) t.members) (sym f) kt.each))

pub one_dimension : (topology : Topology) (dim : ℕ) (members : List Polyhedron) → All (IsMember topology dim) members → HaveOneDimension members
one_dimension topology dim members h i k p q at_i at_k = (all_at (IsMember topology dim) members i p h at_i).over.same_dim ∙ sym (all_at (IsMember topology dim) members k q h at_k).over.same_dim

-- ---- meets, one after another
pub no_meets : (p : Polyhedron) (others old new : List Polyhedron) → new ≡ old → HasMeets p (take 0 others) old new
no_meets p others old new e = record { gained = []; list = e ∙ sym (append-nil old); meets = pointwise_nil IsMeetOf }

pub meets_more : (p q r : Polyhedron) (others old middle new : List Polyhedron) (i : ℕ) → i < length others → q ≡ get_or others i q → HasMeets p (take i others) old middle → IsMeetOf (p, q) r → new ≡ middle ++ r ∷ [] → HasMeets p (take (i + 1) others) old new
meets_more p q r others old middle new i b is h m e = record {
  gained = h.gained ++ r ∷ [];
  list = e ∙ ap (λ (ms : List Polyhedron). ms ++ r ∷ []) h.list ∙ append_assoc old h.gained (r ∷ []);
  meets = subst (λ (ps : List (Polyhedron × Polyhedron)). Pointwise IsMeetOf ps (h.gained ++ r ∷ [])) (sym pairs) (pointwise_append IsMeetOf (map (λ (o : Polyhedron). (p, o)) (take i others)) ((p, q) ∷ []) h.gained (r ∷ []) h.meets (pointwise_one IsMeetOf (p, q) r m));
}
  where
    pairs : map {B = Polyhedron × Polyhedron} (λ (o : Polyhedron). (p, o)) (take (i + 1) others) ≡ map (λ (o : Polyhedron). (p, o)) (take i others) ++ (p, q) ∷ []
    pairs =
        ap (λ (os : List Polyhedron). map (λ (o : Polyhedron). (p, o)) os) (take_more others i q b ∙ ap (λ (o : Polyhedron). take i others ++ o ∷ []) (sym is))
        ∙ map-append (λ (o : Polyhedron). (p, o)) (take i others) (q ∷ [])

-- ---- the meets of all pairs
pairs_one : (p : Polyhedron) (others : List Polyhedron) → pairs_of (p ∷ []) others ≡ map (λ (o : Polyhedron). (p, o)) others
pairs_one p others = append-nil (map (λ (o : Polyhedron). (p, o)) others)

pub all_more : (p : Polyhedron) (first second middle new : List Polyhedron) (i : ℕ) → i < length first → p ≡ get_or first i p → AreMeets (take i first) second middle → HasMeets p second middle new → AreMeets (take (i + 1) first) second new
all_more p first second middle new i b is m h =
    let front = take_more first i p b ∙ ap (λ (o : Polyhedron). take i first ++ o ∷ []) (sym is) in
    subst (λ (ms : List Polyhedron). AreMeets (take (i + 1) first) second ms) (sym h.list)
    (subst (λ (ps : List Polyhedron). AreMeets ps second (middle ++ h.gained)) (sym front)
    (subst (λ (ps : List (Polyhedron × Polyhedron)). Pointwise IsMeetOf ps (middle ++ h.gained)) (sym (pairs_both (take i first)))
    (pointwise_append IsMeetOf (pairs_of (take i first) second) (map (λ (o : Polyhedron). (p, o)) second) middle h.gained m h.meets)))
  where
    pairs_both : (ps : List Polyhedron) → pairs_of (ps ++ p ∷ []) second ≡ pairs_of ps second ++ map (λ (o : Polyhedron). (p, o)) second
    pairs_both ps = flat_map-append (λ (q : Polyhedron). map (λ (o : Polyhedron). (q, o)) second) ps (p ∷ []) ∙ ap (λ (xs : List (Polyhedron × Polyhedron)). pairs_of ps second ++ xs) (pairs_one p second)

pub no_pairs : (first second new : List Polyhedron) → new ≡ [] → AreMeets (take 0 first) second new
no_pairs first second new e = subst (λ (ms : List Polyhedron). AreMeets [] second ms) (sym e) (pointwise_nil IsMeetOf)

-- ---- operands
pub alike : (s t : FinitePowerset) → IsKeptPowerset s → IsKeptPowerset t → s.topology ≡ t.topology → s.dim ≡ t.dim → All (λ (p : Polyhedron). All (AreAlike p) t.members) s.members
alike s t ks kt e f k d b l o c = record {
  topology = (ks.each k d b).over.same_topology ∙ e ∙ sym (kt.each l o c).over.same_topology;
  dim = (ks.each k d b).over.same_dim ∙ f ∙ sym (kt.each l o c).over.same_dim;
}

-- ---- results
-- what holds of all of either list holds of the parts of each pair
pub pairs_all : (P Q : Polyhedron → Type 0) (first second : List Polyhedron) → All P first → All Q second → All (λ (pair : Polyhedron × Polyhedron). P pair.0 × Q pair.1) (pairs_of first second)
pairs_all P Q [] second h k = All-nil (λ (pair : Polyhedron × Polyhedron). P pair.0 × Q pair.1)
pairs_all P Q (p ∷ first) second h k =
    All-append (λ (pair : Polyhedron × Polyhedron). P pair.0 × Q pair.1) (map (λ (o : Polyhedron). (p, o)) second) (pairs_of first second)
    (All-map (λ (pair : Polyhedron × Polyhedron). P pair.0 × Q pair.1) (λ (o : Polyhedron). (p, o)) second (λ i d b. (All-head P p first h, k i d b)))
    (pairs_all P Q first second (All-tail P p first h) k)

pub meets_members : (topology : Topology) (dim : ℕ) (first second meets : List Polyhedron) → All (IsMember topology dim) first → AreMeets first second meets → All (IsMember topology dim) meets
meets_members topology dim first second meets h m k d b =
    let below : k < length (pairs_of first second) = omega (arith, b, m.as_many) in
    let r = m.each k (d, d) d below in
    let one = (pairs_all (IsMember topology dim) (λ (o : Polyhedron). Unit {0}) first second h (λ i e c. tt) k (d, d) below).0 in
    record { over = record { same_topology = r.meet.over.same_topology ∙ one.over.same_topology; same_dim = r.meet.over.same_dim ∙ one.over.same_dim }; kept = r.kept }

-- ---- overflows
pub meet_leaves : (p q : Polyhedron) (others : List Polyhedron) (error : ConvErr) → Contains others q → IsOverflowOn (list_width p.topology p.cons.dim) p.cons.dim (meet_list p q) error → IsOverflowIn (LeavesOnMeet (p ∷ []) others) error
meet_leaves p q others (conversion.Overflow over) c l = record { one = p; other = q; one_listed = (0, omega arith, refl); other_listed = c; leaves = l }
meet_leaves p q others conversion.Memory c l = tt

pub row_leaves : (p : Polyhedron) (first second : List Polyhedron) (error : ConvErr) → Contains first p → IsOverflowIn (LeavesOnMeet (p ∷ []) second) error → IsOverflowIn (LeavesOnMeet first second) error
row_leaves p first second (conversion.Overflow over) c l = record {
  one = l.one;
  other = l.other;
  one_listed = All-contains (Contains first) (p ∷ []) l.one (All-cons (Contains first) p [] c (All-nil (Contains first))) l.one_listed;
  other_listed = l.other_listed;
  leaves = l.leaves;
}
row_leaves p first second conversion.Memory c l = tt
