-- What makes transition systems, and what changes and runs them or automata, has one result.
use Rattle.std.proofs.Common.{◌≡◌, ℕ, ◌^◌, ◌<◌, List, length, get_or, refl, ap, sym, ◌∙◌, subst, arith, decimal, All}
use Rattle.std.specs.Prelude.{◌↔◌, ℤ, Some, slice_get}
use Rattle.std.proofs.lemmas.Fmt.{decimal_injective}
use Rattle.std.proofs.lemmas.List.{append_cancel_left, same_lists}
use Rattle.std.proofs.lemmas.Option.{slice_get_within}
use Rattle.row_core.specs.Points.{IsPoint}
use Rattle.cons_sys.specs.Constraints.{In}
use Rattle.poly_pair.specs.Polyhedra.{Polyhedron, IsKept, IsOver, IsEmpty}
use Rattle.poly_pair.specs.declared.topology.Topology.TheVariants.{Closed}
use Rattle.poly_pair.specs.ClosedPolyhedra.{IsClosedOver}
use Rattle.trans_sys.specs.Systems.{TransitionSystem, IsKeptSystem}
use Rattle.trans_sys.specs.declared.transition.Transition.{Transition}
use Rattle.hybrid.specs.Systems.{HybridAutomaton, IsKeptHybrid}
use Rattle.hybrid.specs.Reaches.{AreReached as AreReachedBy}
use Rattle.hybrid.specs.Turns.{turns_of}
use Rattle.hybrid.proofs.HybridTurns.{proper, initial_sets}
use Rattle.widening.proofs.Places.{same_at}
use Rattle.widening.proofs.RoundLemmas.{start_table, rounds_table}
use Rattle.calc_state.specs.declared.entry.Entry.{Entry}
use Rattle.calc_state.specs.declared.entry.Entry.TheVariants as entry
use Rattle.fixpoint.specs.Commands.{IsEmptySystem, AreReached}
use Rattle.hybrid.specs.Commands.{AreReachedParts}
use Rattle.name_table.specs.Table.{numbered}
use Rattle.run_laws.specs.Sets.{IsMadeAs, IsChangedBy, IsReachedSet}
use Rattle.run_laws.specs.Sameness.{AreSamePolyhedra, AreSameEntries}
use Rattle.run_laws.proofs.OneForm.{OneForm, one_closed}

-- ---- systems that are made
same_systems : (s t : TransitionSystem) → s.dim ≡ t.dim → s.initial ≡ t.initial → s.transitions ≡ t.transitions → s ≡ t
same_systems s t d i r =
    ap (λ (n : ℕ). record { dim = n; initial = s.initial; transitions = s.transitions }) d ∙ ap (λ (x : List Polyhedron). record { dim = t.dim; initial = x; transitions = s.transitions }) i
    ∙ ap (λ (x : List Transition). record { dim = t.dim; initial = t.initial; transitions = x }) r

-- closed sets with the same points
pub one_set_of : OneForm → (n : ℕ) (p q : Polyhedron) → IsKept p → IsKept q → IsOver Closed n p → IsOver Closed n q → ((v : List ℤ) → IsPoint n v → In p.cons v ↔ In q.cons v) → p ≡ q
one_set_of laws n p q a b d e points =
    one_closed laws p q a b d.same_topology (d.same_topology ∙ sym e.same_topology) (d.same_dim ∙ sym e.same_dim) (λ v is. points v (subst (λ (m : ℕ). IsPoint m v) d.same_dim is))

pub one_empty_set : OneForm → (n : ℕ) (p q : Polyhedron) → IsKept p → IsKept q → IsEmpty Closed n p → IsEmpty Closed n q → p ≡ q
one_empty_set laws n p q a b h k = one_set_of laws n p q a b h.over k.over (λ v is. (λ x. none p h v is x, λ y. none q k v is y))
  where
    none : {A : Type 0} (r : Polyhedron) → IsEmpty Closed n r → (v : List ℤ) → IsPoint n v → In r.cons v → A
    none r e v is x = absurd (e.points v (record { point = subst (λ (m : ℕ). IsPoint m v) (sym e.over.same_dim) is; holds = x }))

-- lists of sets that are told by a property
pub one_list : (m k : ℕ) (Is : Polyhedron → Type 0) (xs ys : List Polyhedron) → ((p q : Polyhedron) → IsKept p → IsKept q → Is p → Is q → p ≡ q) → length xs ≡ length ys → All (IsClosedOver m) xs → All (IsClosedOver k) ys → All Is xs → All Is ys → xs ≡ ys
one_list m k Is xs ys one l a b h e = same_lists xs ys l at
  where
    at : (i : ℕ) (d : Polyhedron) → i < length xs → get_or xs i d ≡ get_or ys i d
    at i d below = let other : i < length ys = omega (arith, below, l) in one (get_or xs i d) (get_or ys i d) (a i d below).kept (b i d other).kept (h i d below) (e i d other)

pub one_empty_system : OneForm → (n locations : ℕ) (s t : TransitionSystem) → IsMadeAs entry.System (IsEmptySystem n locations) s → IsMadeAs entry.System (IsEmptySystem n locations) t → s ≡ t
one_empty_system laws n locations s t h k =
    same_systems s t (h.is.dim ∙ sym k.is.dim) (one_list s.dim t.dim (IsEmpty Closed n) s.initial t.initial (one_empty_set laws n) (h.is.as_many ∙ sym k.is.as_many) h.kept.initial k.kept.initial h.is.initial k.is.initial) (h.is.transitions ∙ sym k.is.transitions)

-- ---- and changed
pub one_changed : {A : Type 0} (kind : A → Entry) (Was WasPart : Entry → Type 0) (changed : A → Polyhedron → A) (s t : A) → ((x y : A) → Was (kind x) → Was (kind y) → x ≡ y) →
    ((e f : Entry) → WasPart e → WasPart f → AreSameEntries e f) → IsChangedBy kind Was WasPart changed s → IsChangedBy kind Was WasPart changed t → s ≡ t
one_changed {A} kind Was WasPart changed s t one one_part h k =
    let same : h.part ≡ k.part = (one_part (entry.Poly h.part) (entry.Poly k.part) h.was_part k.was_part).closed h.closed in
    h.made.is ∙ ap (λ (x : A). changed x h.part) (one h.old k.old h.was k.was) ∙ ap (changed k.old) same ∙ sym k.made.is

-- ---- and run
same_polyhedra : (p q : Polyhedron) → p ≡ q → AreSamePolyhedra p q
same_polyhedra p q e = subst (AreSamePolyhedra p) e (record { topology = refl; dim = refl; points = λ v is. (λ x. x, λ x. x); closed = λ c. refl })

-- a number in decimal behind the prefix is one number
one_number : (prefix name : List ℕ) (m n : ℕ) → m < 2 ^ 64 → n < 2 ^ 64 → name ≡ numbered prefix m → name ≡ numbered prefix n → m ≡ n
one_number prefix name m n a b e f = decimal_injective m n a b (append_cancel_left prefix (decimal m) (decimal n) (sym e ∙ f))

pub one_reached : {A : Type 0} (kind : A → Entry) (Was : Entry → Type 0) (Are : A → List Polyhedron → Type 0) (prefix name : List ℕ) (p q : Polyhedron) → ((x y : A) → Was (kind x) → Was (kind y) → x ≡ y) → ((x : A) (xs ys : List Polyhedron) → Was (kind x) → Are x xs → Are x ys → xs ≡ ys) →
    ((x : A) (xs : List Polyhedron) → Was (kind x) → Are x xs → length xs < 2 ^ 64) → IsReachedSet kind Was Are prefix name p → IsReachedSet kind Was Are prefix name q → AreSamePolyhedra p q
one_reached {A} kind Was Are prefix name p q one once few h k =
    let there : Are h.system k.sets = subst (λ (x : A). Are x k.sets) (one k.system h.system k.was h.was) k.reached in
    let sets : h.sets ≡ k.sets = once h.system h.sets k.sets h.was h.reached there in
    let mine : h.location < 2 ^ 64 = omega (arith, slice_get_within h.sets h.location p h.there, few h.system h.sets h.was h.reached) in
    let theirs : k.location < 2 ^ 64 = omega (arith, slice_get_within k.sets k.location q k.there, few h.system k.sets h.was there) in
    let number : h.location ≡ k.location = one_number prefix name h.location k.location mine theirs h.name_is k.name_is in
    let at : slice_get h.sets h.location ≡ Some q = ap (λ (xs : List Polyhedron). slice_get xs h.location) sets ∙ ap (slice_get k.sets) number ∙ k.there in
    same_polyhedra p q (same_at h.sets h.location p q h.there at)

-- the sets of a run of a system are as many as its locations, and one list
pub run_count : (s : TransitionSystem) (delay : ℕ) (sets : List Polyhedron) → AreReached s delay sets → length sets ≡ length s.initial
run_count s delay sets r = r.closed.as_many

pub run_few : (s : TransitionSystem) (delay : ℕ) (sets : List Polyhedron) → IsKeptSystem s → AreReached s delay sets → length sets < 2 ^ 64
run_few s delay sets kept r = omega (arith, run_count s delay sets r, kept.few)

pub one_run : OneForm → (s : TransitionSystem) (delay : ℕ) (xs ys : List Polyhedron) → IsKeptSystem s → AreReached s delay xs → AreReached s delay ys → xs ≡ ys
one_run laws s delay xs ys kept a b = laws.limit s delay xs ys kept a.limit b.limit

-- so are those of an automaton
pub reach_count : (h : HybridAutomaton) (delay : ℕ) (parts : List Polyhedron) → IsKeptHybrid h → AreReachedBy h delay parts → length parts ≡ length h.system.initial
reach_count h delay parts kept r = r.of_limit.as_many ∙ (rounds_table (turns_of h) (proper h kept) (start_table (turns_of h) h.system.initial delay (initial_sets h kept)) r.limit.limit.rounds).sets.as_many

pub reach_few : (h : HybridAutomaton) (delay : ℕ) (parts : List Polyhedron) → IsKeptHybrid h → AreReachedParts h delay parts → length parts < 2 ^ 64
reach_few h delay parts kept r = omega (arith, reach_count h delay parts kept r.reached, kept.system.few)

pub one_reach : OneForm → (h : HybridAutomaton) (delay : ℕ) (xs ys : List Polyhedron) → IsKeptHybrid h → AreReachedParts h delay xs → AreReachedParts h delay ys → xs ≡ ys
one_reach laws h delay xs ys kept a b = laws.reach h delay xs ys kept a.reached b.reached
