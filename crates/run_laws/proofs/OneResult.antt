-- Operands that are the same give the same results.
use Rattle.std.proofs.Common.{◌≡◌, ℕ, List, refl, sym, ◌∙◌, subst}
use Rattle.std.specs.Prelude.{◌↔◌, ℤ}
use Rattle.row_core.specs.Points.{IsPoint}
use Rattle.cons_sys.specs.Constraints.{Constraint, In, Satisfies}
use Rattle.poly_pair.specs.Polyhedra.{Polyhedron, HasNoPoint, IsOver, IsIncluded, HaveSamePoints}
use Rattle.poly_pair.specs.declared.topology.Topology.{Topology}
use Rattle.poly_pair.specs.declared.topology.Topology.TheVariants.{Closed}
use Rattle.stored_systems.specs.PointSets.{IsWithin}
use Rattle.optimum.specs.Relations.{HoldsThroughout, HoldsNowhere, HoldsSomewhere, FailsSomewhere}
use Rattle.widening.specs.Widenings.{IsWidening}
use Rattle.poly_pair.specs.TopologyConstraints.{IsConstraintFor}
use Rattle.lattice_ops.specs.Sets.{IsMeet, IsHull, IsValidOn, AreDisjoint}
use Rattle.calc_state.specs.declared.entry.Entry.{Entry}
use Rattle.calc_state.specs.declared.entry.Entry.TheVariants as entry
use Rattle.line_values.specs.Proper.{IsProper}
use Rattle.calc_state.specs.Entries.{IsKeptEntry}
use Rattle.poly_makers.specs.Results.{IsResultOfClosure}
use Rattle.run_laws.specs.Sets.{IsMadeOfOne, IsMadeOfTwo, IsOfNested}
use Rattle.run_laws.specs.Sameness.{AreSamePolyhedra, AreSameEntries}
use Rattle.run_laws.proofs.OneForm.{OneForm, one_of_points}

-- ---- the same polyhedron
pub same_back : (p q : Polyhedron) → AreSamePolyhedra p q → AreSamePolyhedra q p
same_back p q same = record {
  topology = sym same.topology;
  dim = sym same.dim;
  points = λ v is. (let s = same.points v (subst (λ (n : ℕ). IsPoint n v) (sym same.dim) is) in (s.1, s.0));
  closed = λ c. sym (same.closed (same.topology ∙ c));
}

-- a point of so many variables is in both or in neither
pub same_at : (p q : Polyhedron) (dim : ℕ) (v : List ℤ) → AreSamePolyhedra p q → p.cons.dim ≡ dim → IsPoint dim v → In p.cons v ↔ In q.cons v
same_at p q dim v same e is = same.points v (subst (λ (n : ℕ). IsPoint n v) (sym e) is)

-- what is valid on the one is valid on the other
pub valid_same : (p q : Polyhedron) (c : Constraint) → AreSamePolyhedra p q → IsValidOn p c → IsValidOn q c
valid_same p q c same valid v is holds = valid v (subst (λ (n : ℕ). IsPoint n v) (sym same.dim) is) ((same_at p q q.cons.dim v same same.dim is).1 holds)

-- ---- one result
-- results that hold at points that their operands decide
pub one_of_same : OneForm → (t u : Topology) (m n : ℕ) (Has Had : List ℤ → Type 0) (r s : Polyhedron) → t ≡ u → m ≡ n → ((v : List ℤ) → IsPoint m v → Has v ↔ Had v) → IsProper r → IsProper s →
    IsOver t m r → IsOver u n s → ((v : List ℤ) → IsPoint m v → In r.cons v ↔ Has v) → ((v : List ℤ) → IsPoint n v → In s.cons v ↔ Had v) → AreSamePolyhedra r s
one_of_same laws t u m n Has Had r s e f same a b over other h k =
    one_of_points laws t m Has r s a b over (record { same_topology = other.same_topology ∙ sym e; same_dim = other.same_dim ∙ sym f }) (λ v is. ((h v is).1, (h v is).0)) at
  where
    at : (v : List ℤ) → IsPoint m v → Has v ↔ In s.cons v
    at v is = (let i = k v (subst (λ (d : ℕ). IsPoint d v) f is) in (λ x. i.1 ((same v is).0 x), λ y. (same v is).1 (i.0 y)))

-- of what a name had
pub one_of_one : {A B : Type 0} (kind : A → Entry) (into : B → Entry) (Was : Entry → Type 0) (Is : A → B → Type 0) (r s : B) → ((e : Entry) → Was e → IsKeptEntry e) → ((e f : Entry) → Was e → Was f → AreSameEntries e f) →
    ((x y : A) → AreSameEntries (kind x) (kind y) → IsKeptEntry (kind x) → IsKeptEntry (kind y) → IsKeptEntry (into r) → IsKeptEntry (into s) → Is x r → Is y s → AreSameEntries (into r) (into s)) →
    IsMadeOfOne kind into Was Is r → IsMadeOfOne kind into Was Is s → AreSameEntries (into r) (into s)
one_of_one kind into Was Is r s kept one same h k =
    same h.operand k.operand (one (kind h.operand) (kind k.operand) h.was k.was) (kept (kind h.operand) h.was) (kept (kind k.operand) k.was) h.made.kept k.made.kept h.made.is k.made.is

-- a polyhedron of a polyhedron
pub one_of_poly : (Was : Entry → Type 0) (Is : Polyhedron → Polyhedron → Type 0) (p q : Polyhedron) → ((e : Entry) → Was e → IsKeptEntry e) → ((e f : Entry) → Was e → Was f → AreSameEntries e f) →
    ((x y r s : Polyhedron) → AreSamePolyhedra x y → IsProper r → IsProper s → Is x r → Is y s → AreSamePolyhedra r s) → IsMadeOfOne entry.Poly entry.Poly Was Is p → IsMadeOfOne entry.Poly entry.Poly Was Is q → AreSamePolyhedra p q
one_of_poly Was Is p q kept one same h k = one_of_one entry.Poly entry.Poly Was Is p q kept one (λ x y e a b c d i j. same x y p q e c d i j) h k

-- of what two names had
pub one_of_two : {A B : Type 0} (kind : A → Entry) (into : B → Entry) (Was WasOther : Entry → Type 0) (Is : A → A → B → Type 0) (r s : B) → ((e : Entry) → Was e → IsKeptEntry e) → ((e : Entry) → WasOther e → IsKeptEntry e) →
    ((e f : Entry) → Was e → Was f → AreSameEntries e f) → ((e f : Entry) → WasOther e → WasOther f → AreSameEntries e f) →
    ((x y v w : A) → AreSameEntries (kind x) (kind y) → AreSameEntries (kind v) (kind w) → IsKeptEntry (kind x) → IsKeptEntry (kind y) → IsKeptEntry (kind v) → IsKeptEntry (kind w) → IsKeptEntry (into r) → IsKeptEntry (into s) → Is x v r → Is y w s → AreSameEntries (into r) (into s)) →
    IsMadeOfTwo kind into Was WasOther Is r → IsMadeOfTwo kind into Was WasOther Is s → AreSameEntries (into r) (into s)
one_of_two kind into Was WasOther Is r s kept kept_other one other same h k =
    same h.first k.first h.second k.second (one (kind h.first) (kind k.first) h.was_first k.was_first) (other (kind h.second) (kind k.second) h.was_second k.was_second) (kept (kind h.first) h.was_first) (kept (kind k.first) k.was_first)
    (kept_other (kind h.second) h.was_second) (kept_other (kind k.second) k.was_second) h.made.kept k.made.kept h.made.is k.made.is

-- ---- meet, hull and closure
pub one_meet : OneForm → (x y v w r s : Polyhedron) → AreSamePolyhedra x y → AreSamePolyhedra v w → IsProper r → IsProper s → x.cons.dim ≡ v.cons.dim → IsMeet x v r → IsMeet y w s → AreSamePolyhedra r s
one_meet laws x y v w r s same others a b dims h k =
    one_of_same laws x.topology y.topology x.cons.dim y.cons.dim (λ p. In x.cons p × In v.cons p) (λ p. In y.cons p × In w.cons p) r s same.topology same.dim both a b h.over k.over h.points k.points
  where
    both : (p : List ℤ) → IsPoint x.cons.dim p → (In x.cons p × In v.cons p) ↔ (In y.cons p × In w.cons p)
    both p is =
        let one = same.points p is in
        let other = same_at v w x.cons.dim p others (sym dims) is in
        (λ i. (one.0 i.0, other.0 i.1), λ i. (one.1 i.0, other.1 i.1))

pub one_hull : OneForm → (x y v w r s : Polyhedron) → AreSamePolyhedra x y → AreSamePolyhedra v w → IsProper r → IsProper s → IsHull x v r → IsHull y w s → AreSamePolyhedra r s
one_hull laws x y v w r s same others a b h k =
    one_of_same laws x.topology y.topology x.cons.dim y.cons.dim (InHull x v) (InHull y w) r s same.topology same.dim (λ p is. (hull_same x y v w p same others, hull_same y x w v p (same_back x y same) (same_back v w others))) a b h.over k.over h.points k.points
  where
    InHull : Polyhedron → Polyhedron → List ℤ → Type 0
    InHull g i p = (c : Constraint) → IsConstraintFor g.topology g.cons.dim c → IsValidOn g c → IsValidOn i c → Satisfies p c

    hull_same : (f g i j : Polyhedron) (p : List ℤ) → AreSamePolyhedra f g → AreSamePolyhedra i j → InHull f i p → InHull g j p
    hull_same f g i j p e d each c fits valid other =
        each c (subst (λ (t : Topology). IsConstraintFor t f.cons.dim c) (sym e.topology) (subst (λ (n : ℕ). IsConstraintFor g.topology n c) (sym e.dim) fits)) (valid_same g f c (same_back f g e) valid) (valid_same j i c (same_back i j d) other)

pub one_closure : OneForm → (x y r s : Polyhedron) → AreSamePolyhedra x y → IsProper r → IsProper s → IsResultOfClosure x r → IsResultOfClosure y s → AreSamePolyhedra r s
one_closure laws x y r s same a b h k =
    one_of_same laws x.topology y.topology x.cons.dim y.cons.dim (InClosure x) (InClosure y) r s same.topology same.dim (λ p is. (closure_same x y p same, closure_same y x p (same_back x y same))) a b h.set.over k.set.over h.set.points k.set.points
  where
    InClosure : Polyhedron → List ℤ → Type 0
    InClosure g p = (c : Constraint) → IsConstraintFor Closed g.cons.dim c → IsValidOn g c → Satisfies p c

    closure_same : (f g : Polyhedron) (p : List ℤ) → AreSamePolyhedra f g → InClosure f p → InClosure g p
    closure_same f g p e each c fits valid = each c (subst (λ (n : ℕ). IsConstraintFor Closed n c) (sym e.dim) fits) (valid_same g f c (same_back f g e) valid)

-- ---- the widening
pub one_widened : OneForm → (x y v w r s : Polyhedron) → IsProper x → AreSamePolyhedra x y → AreSamePolyhedra v w → IsProper r → IsProper s → IsOfNested x v r → IsOfNested y w s → AreSamePolyhedra r s
one_widened laws x y v w r s proper same others a b h k =
    let there : IsWidening x v s = subst (λ (z : Polyhedron). IsWidening x z s) (sym (others.closed (sym h.alike.topology ∙ h.closed))) (subst (λ (z : Polyhedron). IsWidening z w s) (sym (same.closed h.closed)) k.is) in
    let hold = laws.widening x v r s (record { kept = proper.kept; over = record { same_topology = h.closed; same_dim = refl } }) h.is there in
    one_of_points laws Closed x.cons.dim (In s.cons) r s a b h.is.over there.over
    (λ p is. (let i = hold p (subst (λ (n : ℕ). IsPoint n p) (sym h.is.over.same_dim) is) in (i.1, i.0))) (λ p is. (λ z. z, λ z. z))

-- ---- how two sets lie
pub included_same : (x y v w : Polyhedron) → AreSamePolyhedra x y → AreSamePolyhedra v w → x.cons.dim ≡ v.cons.dim → IsIncluded x v → IsIncluded y w
included_same x y v w same others e h p is i =
    let at = subst (λ (n : ℕ). IsPoint n p) (sym same.dim) is in
    (same_at v w x.cons.dim p others (sym e) at).0 (h p at ((same.points p at).1 i))

pub equal_same : (x y v w : Polyhedron) → AreSamePolyhedra x y → AreSamePolyhedra v w → x.cons.dim ≡ v.cons.dim → HaveSamePoints x v → HaveSamePoints y w
equal_same x y v w same others e h p is =
    let at = subst (λ (n : ℕ). IsPoint n p) (sym same.dim) is in
    let one = same.points p at in
    let other = same_at v w x.cons.dim p others (sym e) at in
    let i = h p at in
    (λ k. other.0 (i.0 (one.1 k)), λ k. one.0 (i.1 (other.1 k)))

pub disjoint_same : (x y v w : Polyhedron) → AreSamePolyhedra x y → AreSamePolyhedra v w → x.cons.dim ≡ v.cons.dim → AreDisjoint x v → AreDisjoint y w
disjoint_same x y v w same others e h p is i =
    let at = subst (λ (n : ℕ). IsPoint n p) (sym same.dim) is in
    h p at ((same.points p at).1 i.0, (same_at v w x.cons.dim p others (sym e) at).1 i.1)

pub empty_same : (x y : Polyhedron) → AreSamePolyhedra x y → HasNoPoint x → HasNoPoint y
empty_same x y same h p w = h p (record { point = subst (λ (n : ℕ). IsPoint n p) (sym same.dim) w.point; holds = (same_at x y y.cons.dim p same same.dim w.point).1 w.holds })

-- ---- how a set lies to a constraint
within_same : (x y : Polyhedron) (v : List ℤ) → AreSamePolyhedra x y → IsWithin x.cons v → IsWithin y.cons v
within_same x y v same w = record { point = subst (λ (n : ℕ). IsPoint n v) same.dim w.point; holds = (same.points v w.point).0 w.holds }

pub throughout_same : (x y : Polyhedron) (c : Constraint) → AreSamePolyhedra x y → HoldsThroughout x.cons c → HoldsThroughout y.cons c
throughout_same x y c same h v w = h v (within_same y x v (same_back x y same) w)

pub nowhere_same : (x y : Polyhedron) (c : Constraint) → AreSamePolyhedra x y → HoldsNowhere x.cons c → HoldsNowhere y.cons c
nowhere_same x y c same h v w = h v (within_same y x v (same_back x y same) w)

pub both_same : (x y : Polyhedron) (c : Constraint) → AreSamePolyhedra x y → HoldsSomewhere x.cons c × FailsSomewhere x.cons c → HoldsSomewhere y.cons c × FailsSomewhere y.cons c
both_same x y c same (s, f) = (record { point = s.point; within = within_same x y s.point same s.within; holds = s.holds }, record { point = f.point; within = within_same x y f.point same f.within; fails = f.fails })
