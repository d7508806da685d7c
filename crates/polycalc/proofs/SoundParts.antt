-- Systems, automata, powersets, shapes and ranking functions are those that are said.
use Rattle.std.proofs.Common.{false, ◌≡◌, ◌⊎◌, inl, inr, ◌↔◌, ℕ, ◌+◌, ◌-◌, ◌*◌, ◌/◌, ◌%◌, ◌<◌, ◌≤◌, List, [], ◌∷◌, ◌++◌, map, length, take, refl, ap, sym, ◌∙◌, subst, slice_get, slice_set, All, Contains, ℤ, codes, arith}
use Rattle.std.specs.Prelude.{Option, None, Some, decimal, slice_index_or, ⊤}
use Rattle.std.specs.Option.{option_map}
use Rattle.std.proofs.lemmas.Bool.{cases_lt}
use Rattle.std.proofs.lemmas.Option.{slice_get-map, slice_get_within, get_or_from_slice_get}
use Rattle.std.proofs.lemmas.List.Elements.{All-map, All-weaker}
use Rattle.std.proofs.lemmas.List.{length-map, map-set, get_or-map}
use Rattle.row_core.specs.Vectors.{cell}
use Rattle.row_core.specs.Points.{IsPoint}
use Rattle.cons_sys.specs.Constraints.{In}
use Rattle.stored_systems.specs.PointSets.{IsWithin}
use Rattle.poly_pair.specs.declared.topology.Topology.{Topology}
use Rattle.poly_pair.specs.declared.topology.Topology.TheVariants.{Closed}
use Rattle.poly_pair.specs.TopologyLists.{AreConstraintsFor}
use Rattle.poly_pair.proofs.StoredLemmas.{kept_constraints}
use Rattle.poly_pair.specs.Polyhedra as poly
use Rattle.poly_pair.specs.Polyhedra.{Polyhedron}
use Rattle.poly_pair.specs.ClosedPolyhedra as closed
use Rattle.trans_sys.specs.Systems as trans
use Rattle.trans_sys.specs.declared.transition.Transition as declared
use Rattle.fixpoint.specs.RunLaws as fixpoint
use Rattle.hybrid.specs.Reaches as reaches
use Rattle.hybrid.specs.Turns.{turns_of}
use Rattle.hybrid.proofs.HybridTurns.{proper, initial_sets}
use Rattle.widening.specs.RunLaws.{AreSetsOf}
use Rattle.widening.proofs.RoundLemmas.{start_table, rounds_table}
use Rattle.widening.proofs.Places.{all_at, has_at}
use Rattle.affine_maps.specs.Posts.{IsStepTo}
use Rattle.powerset.specs.Powersets as powersets
use Rattle.powerset.specs.Powersets.{FinitePowerset, IsKeptPowerset}
use Rattle.powerset.specs.PowersetLaws.{JoinIsUnion, PairMeetIsIntersection}
use Rattle.powerset.specs.declared.covering.Cover.{Cover}
use Rattle.powerset.specs.declared.covering.Cover.TheVariants.{Yes, No}
use Rattle.expr_text.specs.Printed.{constraints_text}
use Rattle.expr_text.specs.ReadBack.{ConstraintsAreReadBack}
use Rattle.ranking.specs.Laws as ranking
use Rattle.ranking.specs.Laws.{PrintedFunctionRanks}
use Rattle.bd_shape.specs.Shapes.{DifferenceShape, Includes, IsIn, IsHull, IsShape}
use Rattle.bd_shape.specs.Rows.{shape_constraints}
use Rattle.bd_shape.proofs.RowLists.{closed_rows}
use Rattle.powerset.specs.Covers as covers
use Rattle.ranking.specs.Rankings as rankings
use Rattle.ranking.specs.Functions as functions
use Rattle.hybrid.specs.Systems as hybrid
use Rattle.script_text.specs.declared.command.Part.{Part}
use Rattle.script_text.specs.declared.command.LocationPart.{LocationPart}
use Rattle.script_text.specs.declared.command.LocationPart.TheVariants.{Invariant, Flow}
use Rattle.script_text.specs.declared.command.PowersetOperator.{PowersetOperator}
use Rattle.script_text.specs.declared.command.PowersetOperator.TheVariants.{Join, Meet}
use Rattle.script_text.specs.declared.command.ShapeOperator.{ShapeOperator}
use Rattle.script_text.specs.declared.command.ShapeOperator.TheVariants as shape_operator
use Rattle.line_values.specs.Texts as texts
use Rattle.line_values.specs.Meaning.{IsTold}
use Rattle.line_values.specs.Order.{Conditions, Passes}
use Rattle.line_values.specs.Proper.{IsProper}
use Rattle.fixpoint.specs.Commands as made
use Rattle.hybrid.specs.Commands as made_automata
use Rattle.calc_state.specs.Parts as parts
use Rattle.powerset.specs.Commands as made_powersets
use Rattle.ranking.specs.Commands as made_rankings
use Rattle.bd_shape.specs.Commands as made_shapes
use Rattle.elapse.specs.ElapsedPoints.{IsMoved}
use Rattle.soundness.specs.Points.{PointSet, LackStrict, HasNoPoint, IsOver}
use Rattle.soundness.specs.Values.{Transition, TransitionSystem, HybridAutomaton}
use Rattle.script_text.specs.declared.command.Comparison.TheVariants as comparison
use Rattle.soundness.specs.Sets.{constraints, IsCopy}
use Rattle.soundness.specs.Answers.{as_line, LieSo, TellsHowTheyLie, TellsConstraints}
use Rattle.soundness.specs.Unions as unions
use Rattle.soundness.specs.Shapes.{IsInSmallestShape, IsOfBounds, IsSmallestShape, IsOfTwoShapes}
use Rattle.soundness.specs.Systems.{IsEmptySystem, IsWithInitial, IsWithTransition, IsStill, with_part, IsWithPart, IsAt, IncludeInitial, AreClosedUnder, AreInvariant, AreReached}
use Rattle.soundness.proofs.PointLaws.{TextLaws, via, turn, is_nnc, set_of, lack_strict, is_over, closed_is_over, set_is, moved}
use Rattle.soundness.proofs.MadeSets.{IsPartFor, said_kinds}
use Rattle.soundness.proofs.Operands.{one_topology, one_number, below}
use Rattle.soundness.proofs.TrueAnswers.{told}
use Rattle.soundness.proofs.ShapeRows.{shape_fits}
use Rattle.soundness.proofs.ShapeSets.{shape_set, in_shape, within_shape, shape_is, own_shape, smallest_from, smallest_to, hull_to, smallest_same}
use Rattle.polycalc.proofs.SoundValues.{transition_of, system_of, automaton_of, powerset_of}

-- ---- places of a list
-- at a place of a mapped list stands what the map gives of what stands there
record Mapped {A B : Type 0} (f : A → B) (xs : List A) (i : ℕ) (b : B) : Type 0 where
  source : A
  at : slice_get xs i ≡ Some source
  is : f source ≡ b

some_mapped : {A B : Type 0} (f : A → B) (b : B) (o : Option A) → option_map f o ≡ Some b → (a : A) × (o ≡ Some a) × (f a ≡ b)
some_mapped f b None h = cc
some_mapped f b (Some a) h = (a, refl, cc)

mapped : {A B : Type 0} (f : A → B) (xs : List A) (i : ℕ) (b : B) → slice_get (map f xs) i ≡ Some b → Mapped f xs i b
mapped f xs i b h = let m = some_mapped f b (slice_get xs i) (sym (slice_get-map f xs i) ∙ h) in record { source = m.0; at = m.1; is = m.2 }

set_map : {A B : Type 0} (f : A → B) (xs : List A) (i : ℕ) (a : A) → map f (slice_set xs i a) ≡ slice_set (map f xs) i (f a)
set_map f xs i a = map-set f xs i a

push_map : {A B : Type 0} (f : A → B) (xs : List A) (a : A) → map f (xs ++ a ∷ []) ≡ map f xs ++ f a ∷ []
push_map f [] a = refl
push_map f (x ∷ xs) a = ap (λ (l : List _). f x ∷ l) (push_map f xs a)

-- ---- closed sets
closed_over : (dim : ℕ) (p : Polyhedron) → poly.IsKept p → p.topology ≡ Closed → p.cons.dim ≡ dim → IsOver false dim (set_of p)
closed_over dim p kept c d = closed_is_over dim p kept (record { same_topology = c; same_dim = d })

all_closed : (dim : ℕ) (sets : List Polyhedron) → All (closed.IsClosedOver dim) sets → All (IsOver false dim) (map set_of sets)
all_closed dim sets each = All-map (IsOver false dim) set_of sets (All-weaker (closed.IsClosedOver dim) (λ p. IsOver false dim (set_of p)) (λ p h. closed_is_over dim p h.kept h.over) sets each)

-- ---- systems
abbrev system_from : ℕ → List Transition → List PointSet → TransitionSystem
system_from dim transitions initial = record { dim = dim; initial = initial; transitions = transitions }

abbrev automaton_from : TransitionSystem → List PointSet → List PointSet → HybridAutomaton
automaton_from system invariants flows = record { system = system; invariants = invariants; flows = flows }

pub system_made : (n locations : ℕ) (s : trans.TransitionSystem) → trans.IsKeptSystem s → made.IsEmptySystem n locations s → IsEmptySystem n locations (system_of s)
system_made n locations s kept h = record {
  dim = h.dim;
  as_many = length-map s.initial set_of ∙ h.as_many;
  over = All-map (IsOver false n) set_of s.initial (λ i d l. closed_is_over n (slice_index_or s.initial i d) (kept.initial i d l).kept (h.initial i d l).over);
  initial = All-map HasNoPoint set_of s.initial (All-weaker (poly.IsEmpty Closed n) (λ p. HasNoPoint (set_of p)) (λ p e. e.points) s.initial h.initial);
  transitions = ap (map transition_of) h.transitions;
}

pub init_made : (location : ℕ) (s : trans.TransitionSystem) (p : Polyhedron) (r : trans.TransitionSystem) → IsProper p → Passes (parts.misfits s.dim p (length s.initial ≤ location)) → r ≡ trans.with_initial s location p → IsWithInitial location (system_of s) (set_of p) (system_of r)
init_made location s p r fit passes h = record {
  there = subst (λ (n : ℕ). location < n) (sym (length-map s.initial set_of)) (below (length s.initial) location passes.1.1.1.1.1.0);
  over = closed_over s.dim p fit.kept (one_topology p.topology Closed passes.1.1.0) (one_number p.cons.dim s.dim passes.1.1.1.0);
  is = ap system_of h ∙ ap (system_from s.dim (map transition_of s.transitions)) (set_map set_of s.initial location p);
}

pub trans_made : (source target : ℕ) (s : trans.TransitionSystem) (p : Polyhedron) (r : trans.TransitionSystem) → IsProper p → Passes (parts.misfits (2 * s.dim) p ((length s.initial ≤ source) ⊎ (length s.initial ≤ target))) →
    r ≡ trans.with_transition s (record { source = source; target = target; relation = p }) → IsWithTransition source target (system_of s) (set_of p) (system_of r)
trans_made source target s p r fit passes h = record {
  source_there = subst (λ (n : ℕ). source < n) (sym (length-map s.initial set_of)) (below (length s.initial) source (λ x. passes.1.1.1.1.1.0 (inl x)));
  target_there = subst (λ (n : ℕ). target < n) (sym (length-map s.initial set_of)) (below (length s.initial) target (λ x. passes.1.1.1.1.1.0 (inr x)));
  over = closed_over (2 * s.dim) p fit.kept (one_topology p.topology Closed passes.1.1.0) (one_number p.cons.dim (2 * s.dim) passes.1.1.1.0);
  is = ap system_of h ∙ ap (λ (x : List Transition). system_from s.dim x (map set_of s.initial)) (push_map transition_of s.transitions (record { source = source; target = target; relation = p }));
}

dim_at : (dim : ℕ) (sets : List Polyhedron) (i : ℕ) (p : Polyhedron) → All (closed.IsClosedOver dim) sets → slice_get sets i ≡ Some p → p.cons.dim ≡ dim
dim_at dim sets i p each at = (all_at (closed.IsClosedOver dim) sets i p each at).over.same_dim

at_from : (sets : List Polyhedron) (l : ℕ) (v : List ℤ) → IsAt (map set_of sets) l v → (p : Polyhedron) × (slice_get sets l ≡ Some p) × IsWithin p.cons v
at_from sets l v h = let m = mapped set_of sets l h.0 h.1 in (m.source, m.at, subst (λ (y : PointSet). IsWithin y.cons v) (sym m.is) h.2)

at_to : (sets : List Polyhedron) (l : ℕ) (v : List ℤ) (p : Polyhedron) → slice_get sets l ≡ Some p → IsPoint p.cons.dim v → In p.cons v → IsAt (map set_of sets) l v
at_to sets l v p at is holds = (set_of p, slice_get-map set_of sets l ∙ ap (option_map set_of) at, record { point = is; holds = holds })

-- closed sets of as many locations
record AreSets (dim count : ℕ) (sets : List Polyhedron) : Type 0 where
  as_many : length sets ≡ count
  dims : (l : ℕ) (p : Polyhedron) → slice_get sets l ≡ Some p → p.cons.dim ≡ dim

set_at : (dim count : ℕ) (sets : List Polyhedron) → AreSets dim count sets → (l : ℕ) → l < count → (p : Polyhedron) × (slice_get sets l ≡ Some p)
set_at dim count sets are l less = has_at sets l (subst (λ (n : ℕ). l < n) (sym are.as_many) less)

put_at : (dim count : ℕ) (sets : List Polyhedron) → AreSets dim count sets → (l : ℕ) (v : List ℤ) (p : Polyhedron) → slice_get sets l ≡ Some p → IsPoint dim v → In p.cons v → IsAt (map set_of sets) l v
put_at dim count sets are l v p at is holds = at_to sets l v p at (moved dim p.cons.dim v (sym (are.dims l p at)) is) holds

initial_included : (s : trans.TransitionSystem) (sets : List Polyhedron) → All (closed.IsClosedOver s.dim) s.initial → AreSets s.dim (length s.initial) sets → fixpoint.IncludeInitial s sets → IncludeInitial (system_of s) (λ l v. ⊤) (map set_of sets)
initial_included s sets each are h l v on stays =
    let i = at_from s.initial l v on in
    let x = set_at s.dim (length s.initial) sets are l (slice_get_within s.initial l i.0 i.1) in
    put_at s.dim (length s.initial) sets are l v x.0 x.1 (moved i.0.cons.dim s.dim v (dim_at s.dim s.initial l i.0 each i.1) i.2.point) (h l i.0 x.0 i.1 x.1 v i.2.point i.2.holds)

-- a step by a transition that is said is one by a transition of the list
module _ (transitions : List declared.Transition) (sets : List Polyhedron) (Stays : ℕ → Type 0) (v : List ℤ) (each : (k : ℕ) (old : declared.Transition) (from : Polyhedron) → slice_get transitions k ≡ Some old → slice_get sets old.source ≡ Some from → IsStepTo from.cons old.relation.cons v → Stays old.target → IsAt (map set_of sets) old.target v) where
  from_set : (k : ℕ) (old : declared.Transition) (source : PointSet) → slice_get transitions k ≡ Some old → Mapped set_of sets old.source source → IsStepTo source.cons old.relation.cons v → Stays old.target → IsAt (map set_of sets) old.target v
  from_set k old source at m step stays = each k old m.source at m.at (subst (λ (y : PointSet). IsStepTo y.cons old.relation.cons v) (sym m.is) step) stays

  from_transition : (k : ℕ) (t : Transition) (source : PointSet) → Mapped transition_of transitions k t → slice_get (map set_of sets) t.source ≡ Some source → IsStepTo source.cons t.relation.cons v → Stays t.target → IsAt (map set_of sets) t.target v
  from_transition k t source m =
      subst (λ (y : Transition). slice_get (map set_of sets) y.source ≡ Some source → IsStepTo source.cons y.relation.cons v → Stays y.target → IsAt (map set_of sets) y.target v) m.is
      (λ at_source. from_set k m.source source m.at (mapped set_of sets m.source.source source at_source))

transitions_closed : (s : trans.TransitionSystem) (sets : List Polyhedron) → All (trans.IsTransition (length s.initial) s.dim) s.transitions → AreSets s.dim (length s.initial) sets → fixpoint.AreClosedUnder s.transitions sets → AreClosedUnder (system_of s) (λ l v. ⊤) (map set_of sets)
transitions_closed s sets each are h k t source v at_t at_source is step stays = from_transition s.transitions sets (λ l. ⊤) v closed k t source (mapped transition_of s.transitions k t at_t) at_source step tt
  where
    lands : (n : ℕ) (old : declared.Transition) (from : Polyhedron) → slice_get s.transitions n ≡ Some old → slice_get sets old.source ≡ Some from → IsStepTo from.cons old.relation.cons v → (z : (p : Polyhedron) × (slice_get sets old.target ≡ Some p)) → IsAt (map set_of sets) old.target v
    lands n old from at there go z = put_at s.dim (length s.initial) sets are old.target v z.0 z.1 is (h n old from z.0 at there z.1 v (moved s.dim from.cons.dim v (sym (are.dims old.source from there)) is) go)

    closed : (n : ℕ) (old : declared.Transition) (from : Polyhedron) → slice_get s.transitions n ≡ Some old → slice_get sets old.source ≡ Some from → IsStepTo from.cons old.relation.cons v → ⊤ → IsAt (map set_of sets) old.target v
    closed n old from at there go free = lands n old from at there go (set_at s.dim (length s.initial) sets are old.target (all_at (trans.IsTransition (length s.initial) s.dim) s.transitions n old each at).target)

pub fixpoint_made : (s : trans.TransitionSystem) (delay : ℕ) (sets : List Polyhedron) → trans.IsKeptSystem s → made.AreReached s delay sets → AreInvariant (system_of s) (map set_of sets)
fixpoint_made s delay sets kept h =
    let are : AreSets s.dim (length s.initial) sets = record { as_many = h.closed.as_many; dims = λ l p at. dim_at s.dim sets l p h.closed.each at } in
    record {
      are = record { as_many = length-map sets set_of ∙ h.closed.as_many ∙ sym (length-map s.initial set_of); over = all_closed s.dim sets h.closed.each };
      initial = initial_included s sets kept.initial are h.initial;
      transitions = transitions_closed s sets kept.transitions are h.successors;
    }

-- ---- automata
pub still_made : (s : trans.TransitionSystem) (h : hybrid.HybridAutomaton) → hybrid.IsKeptHybrid h → made_automata.IsStill s h → IsStill (system_of s) (automaton_of h)
still_made s h kept i = record {
  system = ap system_of i.system;
  invariants = record {
    as_many = length-map h.invariants set_of ∙ i.invariant_count ∙ sym (length-map s.initial set_of);
    over = All-map (IsOver false s.dim) set_of h.invariants (λ k d l. closed_is_over s.dim (slice_index_or h.invariants k d) (kept.invariants.each k d l).kept (i.invariants k d l).over);
  };
  flows = record {
    as_many = length-map h.flows set_of ∙ i.flow_count ∙ sym (length-map s.initial set_of);
    over = All-map (IsOver false s.dim) set_of h.flows (λ k d l. closed_is_over s.dim (slice_index_or h.flows k d) (kept.flows.each k d l).kept (i.flows k d l).over);
  };
  everywhere = All-map (λ (p : PointSet). (v : List ℤ) → IsPoint s.dim v → In p.cons v) set_of h.invariants (All-weaker (poly.IsUniverse Closed s.dim) (λ p. (v : List ℤ) → IsPoint s.dim v → In p.cons v) (λ p e. e.points) h.invariants i.invariants);
  still = All-map HasNoPoint set_of h.flows (All-weaker (poly.IsEmpty Closed s.dim) (λ p. HasNoPoint (set_of p)) (λ p e. e.points) h.flows i.flows);
}

part_map : (part : LocationPart) (h : hybrid.HybridAutomaton) (location : ℕ) (p : Polyhedron) → automaton_of (parts.with_part part h location p) ≡ with_part part (automaton_of h) location (set_of p)
part_map Invariant h location p = ap (λ (x : List PointSet). automaton_from (system_of h.system) x (map set_of h.flows)) (set_map set_of h.invariants location p)
part_map Flow h location p = ap (automaton_from (system_of h.system) (map set_of h.invariants)) (set_map set_of h.flows location p)

pub part_made : (part : LocationPart) (location : ℕ) (h : hybrid.HybridAutomaton) (p : Polyhedron) (r : hybrid.HybridAutomaton) → IsProper p → Passes (parts.misfits h.system.dim p (length h.system.initial ≤ location)) → r ≡ parts.with_part part h location p →
    IsWithPart part location (automaton_of h) (set_of p) (automaton_of r)
part_made part location h p r fit passes e = record {
  there = subst (λ (n : ℕ). location < n) (sym (length-map h.system.initial set_of)) (below (length h.system.initial) location passes.1.1.1.1.1.0);
  over = closed_over h.system.dim p fit.kept (one_topology p.topology Closed passes.1.1.0) (one_number p.cons.dim h.system.dim passes.1.1.1.0);
  is = ap automaton_of e ∙ part_map part h location p;
}

-- the parts of a reach, closed and over the system's variables
record ArePartsOver (h : hybrid.HybridAutomaton) (sets : List Polyhedron) : Type 0 where
  as_many : length sets ≡ length h.system.initial
  over : All (IsOver false h.system.dim) (map set_of sets)
  dims : (l : ℕ) (p : Polyhedron) → slice_get sets l ≡ Some p → p.cons.dim ≡ h.system.dim
  within : (l : ℕ) (invariant set : Polyhedron) → slice_get h.invariants l ≡ Some invariant → slice_get sets l ≡ Some set → (v : List ℤ) → IsPoint h.system.dim v → In set.cons v → In invariant.cons v

parts_over : (h : hybrid.HybridAutomaton) (delay : ℕ) (sets : List Polyhedron) → hybrid.IsKeptHybrid h → All IsProper sets → reaches.AreReached h delay sets → ArePartsOver h sets
parts_over h delay sets kept fits r = record {
  as_many = r.of_limit.as_many ∙ limit.as_many;
  over = All-map (IsOver false h.system.dim) set_of sets (λ k d l. (let a = has_at sets k l in
      subst (λ (p : Polyhedron). IsProper p → IsOver false h.system.dim (set_of p)) (sym (get_or_from_slice_get sets k a.0 d a.1)) (λ fit. (let o = part_at k a.0 a.1 in closed_over h.system.dim a.0 fit.kept o.0 o.1)) (fits k d l)));
  dims = λ l p at. (part_at l p at).1;
  within = λ l invariant set at_invariant at_set v is holds.
      let b = has_at r.sets l (limit_below l set at_set) in
      let o = all_at (closed.IsClosedOver h.system.dim) r.sets l b.0 limit.each b.1 in
      (((r.of_limit.each l set at_set invariant b.0 at_invariant b.1).is_meet.points v (moved h.system.dim b.0.cons.dim v (sym o.over.same_dim) is)).0 holds).1;
}
  where
    limit : AreSetsOf h.system.dim (length h.system.initial) r.sets
    limit = (rounds_table (turns_of h) (proper h kept) (start_table (turns_of h) h.system.initial delay (initial_sets h kept)) r.limit.limit.rounds).sets

    limit_below : (l : ℕ) (p : Polyhedron) → slice_get sets l ≡ Some p → l < length r.sets
    limit_below l p at = subst (λ (n : ℕ). l < n) r.of_limit.as_many (slice_get_within sets l p at)

    part_at : (l : ℕ) (p : Polyhedron) → slice_get sets l ≡ Some p → (p.topology ≡ Closed) × (p.cons.dim ≡ h.system.dim)
    part_at l p at =
        let b = has_at r.sets l (limit_below l p at) in
        let c = has_at h.invariants l (subst (λ (n : ℕ). l < n) (limit.as_many ∙ sym kept.invariants.as_many) (limit_below l p at)) in
        let o = all_at (closed.IsClosedOver h.system.dim) r.sets l b.0 limit.each b.1 in
        let m = (r.of_limit.each l p at c.0 b.0 c.1 b.1).is_meet.over in
        (m.same_topology ∙ o.over.same_topology, m.same_dim ∙ o.over.same_dim)

sets_of : (h : hybrid.HybridAutomaton) (sets : List Polyhedron) → ArePartsOver h sets → AreSets h.system.dim (length h.system.initial) sets
sets_of h sets parts = record { as_many = parts.as_many; dims = parts.dims }

initial_reached : (h : hybrid.HybridAutomaton) (sets : List Polyhedron) → hybrid.IsKeptHybrid h → ArePartsOver h sets → reaches.IncludeInitial h sets → IncludeInitial (automaton_of h).system (IsAt (automaton_of h).invariants) (map set_of sets)
initial_reached h sets kept parts each l v on stays =
    let i = at_from h.system.initial l v on in
    let j = at_from h.invariants l v stays in
    let x = set_at h.system.dim (length h.system.initial) sets (sets_of h sets parts) l (slice_get_within h.system.initial l i.0 i.1) in
    let point : IsPoint h.system.dim v = moved i.0.cons.dim h.system.dim v (dim_at h.system.dim h.system.initial l i.0 kept.system.initial i.1) i.2.point in
    put_at h.system.dim (length h.system.initial) sets (sets_of h sets parts) l v x.0 x.1 point (each l i.0 j.0 x.0 i.1 j.1 x.1 v point i.2.holds j.2.holds)

flow_reached : (h : hybrid.HybridAutomaton) (sets : List Polyhedron) → ArePartsOver h sets → reaches.AreClosedUnderFlow h sets → (l : ℕ) (x y v : List ℤ) → IsAt (map set_of sets) l x → IsAt (automaton_of h).flows l y → IsMoved h.system.dim x y v → IsAt (automaton_of h).invariants l v → IsAt (map set_of sets) l v
flow_reached h sets parts each l x y v on flows moves stays =
    let z = at_from sets l x on in
    let f = at_from h.flows l y flows in
    let j = at_from h.invariants l v stays in
    put_at h.system.dim (length h.system.initial) sets (sets_of h sets parts) l v z.0 z.1 moves.point (each l j.0 f.0 z.0 j.1 f.1 z.1 x y v z.2 f.2 moves j.2.holds)

jumps_reached : (h : hybrid.HybridAutomaton) (sets : List Polyhedron) → hybrid.IsKeptHybrid h → ArePartsOver h sets → reaches.AreClosedUnderJumps h sets → AreClosedUnder (automaton_of h).system (IsAt (automaton_of h).invariants) (map set_of sets)
jumps_reached h sets kept parts each k t source v at_t at_source is step stays =
    from_transition h.system.transitions sets (λ l. IsAt (map set_of h.invariants) l v) v closed k t source (mapped transition_of h.system.transitions k t at_t) at_source step stays
  where
    lands : (n : ℕ) (old : declared.Transition) (from : Polyhedron) → slice_get h.system.transitions n ≡ Some old → slice_get sets old.source ≡ Some from → IsStepTo from.cons old.relation.cons v → (z : (p : Polyhedron) × (slice_get sets old.target ≡ Some p)) → (j : (p : Polyhedron) × (slice_get h.invariants old.target ≡ Some p) × IsWithin p.cons v) → IsAt (map set_of sets) old.target v
    lands n old from at there go z j = put_at h.system.dim (length h.system.initial) sets (sets_of h sets parts) old.target v z.0 z.1 is (each n old from z.0 j.0 at there z.1 j.1 v is go j.2.holds)

    closed : (n : ℕ) (old : declared.Transition) (from : Polyhedron) → slice_get h.system.transitions n ≡ Some old → slice_get sets old.source ≡ Some from → IsStepTo from.cons old.relation.cons v → IsAt (map set_of h.invariants) old.target v → IsAt (map set_of sets) old.target v
    closed n old from at there go on = lands n old from at there go (set_at h.system.dim (length h.system.initial) sets (sets_of h sets parts) old.target (all_at (trans.IsTransition (length h.system.initial) h.system.dim) h.system.transitions n old kept.system.transitions at).target) (at_from h.invariants old.target v on)

within_reached : (h : hybrid.HybridAutomaton) (sets : List Polyhedron) → hybrid.IsKeptHybrid h → ArePartsOver h sets → (l : ℕ) (v : List ℤ) → IsAt (map set_of sets) l v → IsAt (automaton_of h).invariants l v
within_reached h sets kept parts l v on =
    let z = at_from sets l v on in
    let invariants : AreSets h.system.dim (length h.system.initial) h.invariants = record { as_many = kept.invariants.as_many; dims = λ k p at. dim_at h.system.dim h.invariants k p kept.invariants.each at } in
    let j = set_at h.system.dim (length h.system.initial) h.invariants invariants l (subst (λ (n : ℕ). l < n) parts.as_many (slice_get_within sets l z.0 z.1)) in
    let point : IsPoint h.system.dim v = moved z.0.cons.dim h.system.dim v (parts.dims l z.0 z.1) z.2.point in
    put_at h.system.dim (length h.system.initial) h.invariants invariants l v j.0 j.1 point (parts.within l j.0 z.0 j.1 z.1 v point z.2.holds)

pub reach_made : (h : hybrid.HybridAutomaton) (delay : ℕ) (sets : List Polyhedron) → hybrid.IsKeptHybrid h → All IsProper sets → made_automata.AreReachedParts h delay sets → AreReached (automaton_of h) (map set_of sets)
reach_made h delay sets kept fits r =
    let parts = parts_over h delay sets kept fits r.reached in
    record {
      are = record { as_many = length-map sets set_of ∙ parts.as_many ∙ sym (length-map h.system.initial set_of); over = parts.over };
      within = within_reached h sets kept parts;
      initial = initial_reached h sets kept parts r.initial;
      flow = flow_reached h sets parts r.flow;
      jumps = jumps_reached h sets kept parts r.jumps;
    }

-- ---- powersets
abbrev Members : Type 0
Members = List Polyhedron

listed_to : (members : Members) (p : Polyhedron) → Contains members p → Contains (map set_of members) (set_of p)
listed_to members p (k, below, e) = (k, subst (λ (n : ℕ). k < n) (sym (length-map members set_of)) below, get_or-map set_of members k p (set_of p) below ∙ ap set_of e)

listed_from : (members : Members) (s : PointSet) → Contains (map set_of members) s → (p : Polyhedron) × Contains members p × (set_of p ≡ s)
listed_from members s (k, below, e) =
    let l : k < length members = subst (λ (n : ℕ). k < n) (length-map members set_of) below in
    let a = has_at members k l in
    let same = get_or_from_slice_get members k a.0 a.0 a.1 in
    (a.0, (k, l, same), ap set_of (sym same) ∙ (sym (get_or-map set_of members k a.0 s l) ∙ e))

-- the points of a powerset
in_union : (u : FinitePowerset) (v : List ℤ) → powersets.IsInPowerset u.members v ↔ unions.IsInUnion (powerset_of u) v
in_union u v = (
  λ h. (set_of h.member, listed_to u.members h.member h.listed, h.holds),
  λ h. (let m = listed_from u.members h.0 h.1 in record { member = m.0; listed = m.1; holds = subst (λ (y : PointSet). In y.cons v) (sym m.2) h.2 }),
)

pub pset_made : (p : Polyhedron) (u : FinitePowerset) → powersets.IsPowersetOfOne p u → unions.IsOfOne (set_of p) (powerset_of u)
pset_made p u h = record {
  kind = ap is_nnc h.same_topology;
  variables = h.same_dim;
  members = single u.members h.members;
}
  where
    single : (members : Members) → powersets.IsSingle p members → (HasNoPoint (set_of p) × (map set_of members ≡ [])) ⊎ ((¬ (HasNoPoint (set_of p))) × (map set_of members ≡ set_of p ∷ []))
    single members (inl e) = inl (e.0, ap (map set_of) e.1)
    single members (inr e) = inr (e.0, ap (map set_of) e.1)

pub unions_alike : (s t : FinitePowerset) (others : Conditions) → Passes (made_powersets.alike_unions s t others) → unions.AreAlikeUnions (powerset_of s) (powerset_of t)
unions_alike s t others passes = record { kind = ap is_nnc (one_topology s.topology t.topology passes.1.0); variables = one_number s.dim t.dim passes.1.1.1.0 }

-- the laws of powersets that are cited
pub record UnionLaws : Type 0 where
  pub join : JoinIsUnion
  pub meet : PairMeetIsIntersection

same_way : (A : Type 0) → A ↔ A
same_way A = (λ x. x, λ x. x)

both_ways : {A B C D : Type 0} → A ↔ B → C ↔ D → (A × C) ↔ (B × D)
both_ways f g = (λ x. (f.0 x.0, g.0 x.1), λ y. (f.1 y.0, g.1 y.1))

either_way : {A B C D : Type 0} → A ↔ B → C ↔ D → (A ⊎ C) ↔ (B ⊎ D)
either_way f g = (
  λ x. elim x [
    | inl a ↦ inl (f.0 a)
    | inr c ↦ inr (g.0 c)
  ],
  λ y. elim y [
    | inl b ↦ inl (f.1 b)
    | inr d ↦ inr (g.1 d)
  ],
)

-- of the powerset's kind, over its variables, and closed if it must be
abbrev IsFor : FinitePowerset → PointSet → Type 0
IsFor u p = (p.nnc ≡ is_nnc u.topology) × (p.cons.dim ≡ u.dim) × LackStrict (is_nnc u.topology) p.cons.list

members_alike : (u : FinitePowerset) → IsKeptPowerset u → All (IsFor u) (map set_of u.members)
members_alike u kept = All-map (IsFor u) set_of u.members (λ i d l.
    (let m = kept.each i d l in
    let p = slice_index_or u.members i d in
    (ap is_nnc m.over.same_topology, m.over.same_dim, lack_strict u.topology p.cons (subst (λ (t : Topology). AreConstraintsFor t p.cons) m.over.same_topology (kept_constraints p m.kept)))))

pub combined_made : UnionLaws → (op : PowersetOperator) (s t u : FinitePowerset) (others : Conditions) → IsKeptPowerset s → IsKeptPowerset t → IsKeptPowerset u → Passes (made_powersets.alike_unions s t others) → made_powersets.IsPowersetOf op s t u →
    unions.IsCombined op (powerset_of s) (powerset_of t) (powerset_of u)
combined_made laws Join s t u others kept_s kept_t kept_u passes h =
    let alike = unions_alike s t others passes in
    record {
      operands = alike;
      kind = ap is_nnc h.same_topology;
      variables = h.same_dim;
      members = members_alike u kept_u;
      points = λ v is. via (turn (in_union u v)) (via (laws.join s t u kept_s kept_t alike.variables h v is) (either_way (in_union s v) (in_union t v)));
    }
combined_made laws Meet s t u others kept_s kept_t kept_u passes h =
    let alike = unions_alike s t others passes in
    record {
      operands = alike;
      kind = ap is_nnc h.same_topology;
      variables = h.same_dim;
      members = members_alike u kept_u;
      points = λ v is. via (turn (in_union u v)) (via (laws.meet s t u kept_s kept_t alike.variables h v is) (both_ways (in_union s v) (in_union t v)));
    }

pub member_made : (i : ℕ) (s : FinitePowerset) (r : Polyhedron) (others : Conditions) → IsKeptPowerset s → IsProper r → Passes (made_powersets.misses_member (length s.members) i others) → slice_get s.members (i - 1) ≡ Some r → unions.IsMember i (powerset_of s) (set_of r)
member_made i s r others kept fit passes h = record {
  counted = counted;
  is = slice_get-map set_of s.members (i - 1) ∙ ap (option_map set_of) h;
  over = is_over s.topology s.dim r fit (all_at (powersets.IsMember s.topology s.dim) s.members (i - 1) r kept.each h).over;
}
  where
    counted : 0 < i
    counted = elim (cases_lt 0 i) [
      | inl more ↦ more
      | inr most ↦ absurd (passes.1.1.1.1.1.0 (inl (omega (arith, most))))
    ]

pub psize_true : (s : FinitePowerset) (reply : List ℕ) → reply ≡ as_line (made_powersets.members_text s) → unions.TellsMembers (powerset_of s) reply
psize_true s reply h = h ∙ ap (λ (n : ℕ). as_line (codes "members " ++ decimal n)) (sym (length-map s.members set_of))

cover_cases : (s t : FinitePowerset) (reply : List ℕ) (c : Cover) → covers.IsCover s t c → reply ≡ made_powersets.cover_line s.dim c →
    (((v : List ℤ) → IsPoint s.dim v → unions.IsInUnion (powerset_of t) v → unions.IsInUnion (powerset_of s) v) × (reply ≡ as_line (codes "yes"))) ⊎ unions.TellsMissing (powerset_of s) (powerset_of t) reply
cover_cases s t reply Yes h said = inl (λ v is on_t. (in_union s v).0 (h v is ((in_union t v).1 on_t)), said)
cover_cases s t reply (No v) h said = inr (record { point = v; is_point = h.point; lowest = h.primitive; within = (in_union t v).0 h.within; outside = λ on_s. h.outside ((in_union s v).1 on_s); said = said })

pub cover_true : (s t : FinitePowerset) (reply : List ℕ) (others : Conditions) → Passes (made_powersets.alike_unions s t others) → made_powersets.IsCoverTold s t reply → unions.TellsCover (powerset_of s) (powerset_of t) reply
cover_true s t reply others passes h = record { operands = unions_alike s t others passes; tells = cover_cases s t reply h.answer h.true_of h.said }

-- ---- ranking functions
pub relates : (r : Polyhedron) (others : Conditions) → Passes (made_rankings.relates_states r others) → unions.IsRelation (set_of r)
relates r others passes = record { closed = ap is_nnc (one_topology r.topology Closed passes.1.1.0); even = one_number (r.cons.dim % 2) 0 passes.1.1.1.0 }

pub rank_made : (r s : Polyhedron) (others : Conditions) → IsProper s → Passes (made_rankings.relates_states r others) → rankings.IsRankingSet (r.cons.dim / 2) r s → unions.AreRankings (set_of r) (set_of s)
rank_made r s others fit passes h = record { relation = relates r others passes; set = set_is Closed (r.cons.dim / 2 + 1) (functions.IsRanking (r.cons.dim / 2) r.cons) s fit h.over h.points }

function_cases : TextLaws → (r : Polyhedron) (text reply : List ℕ) → reply ≡ as_line text → ranking.IsWithoutRanking (r.cons.dim / 2) r.cons text ⊎ ranking.IsOfRanking (r.cons.dim / 2) r.cons text →
    unions.TellsFunction (set_of r) reply ⊎ (((f : List ℤ) → IsPoint (r.cons.dim / 2 + 1) f → ¬ (functions.IsRanking (r.cons.dim / 2) r.cons f)) × (reply ≡ as_line (codes "none")))
function_cases laws r text reply said (inl h) = inr (h.none, said ∙ ap as_line h.told)
function_cases laws r text reply said (inr h) =
    let says = laws.fraction (r.cons.dim / 2) text (take (r.cons.dim / 2 + 1) h.function) (cell h.function (r.cons.dim / 2 + 1)) ((h.read (take (r.cons.dim / 2 + 1) h.function, cell h.function (r.cons.dim / 2 + 1))).1 refl) in
    inl (record { function = h.function; point = h.point; ranks = h.ranks; text = text; divisor = says.below; last = says.same; is_text = says.is_text; said = said })

pub ranking_true : TextLaws → PrintedFunctionRanks → (r : Polyhedron) (reply : List ℕ) (others : Conditions) → Passes (made_rankings.relates_states r others) → made_rankings.IsRankingTold r reply → unions.TellsRanking (set_of r) reply
ranking_true laws law r reply others passes h = record { relation = relates r others passes; tells = function_cases laws r h.text reply h.said (law (r.cons.dim / 2) r h.functions h.text h.is h.told) }

-- ---- shapes
pub shape_made : (p : Polyhedron) (s : DifferenceShape) (others : Conditions) → IsShape s → Passes (made_shapes.closed p others) → made_shapes.IsShapeOfSet p s → IsSmallestShape (set_of p) (shape_set s)
shape_made p s others is passes h = record {
  closed = ap is_nnc (one_topology p.topology Closed passes.1.1.0);
  set = shape_is p.cons.dim (IsInSmallestShape p.cons.dim (IsWithin p.cons)) s is h.dim (λ v point. (
    λ on. subst (λ (n : ℕ). IsInSmallestShape n (IsWithin p.cons) v) h.dim (smallest_to p s h.dim h.empty h.suprema v on),
    λ least. smallest_from s is (IsWithin p.cons) h.smallest.includes v (moved p.cons.dim s.dim v (sym h.dim) point) (subst (λ (n : ℕ). IsInSmallestShape n (IsWithin p.cons) v) (sym h.dim) least),
  ));
}

pub bounds_made : TextLaws → (n : ℕ) (part : Part) (s : DifferenceShape) → IsShape s → IsPartFor Closed part → texts.SaysConstraints n part (λ cs. made_shapes.IsShapeOfConstraints cs s) → IsOfBounds n part.text (shape_set s)
bounds_made laws n part s is for h =
    let says = laws.constraints n part.text h.system h.read in
    let same : h.system.dim ≡ n = h.read.holds.over in (
      record {
        list = says.list;
        says = says.is_text;
        kinds = says.kinds false (said_kinds Closed n part h.system for h.read);
        set = shape_is n (In (constraints n says.list)) s is (h.holds.dim ∙ same) (λ v point. (
          λ on. (says.same v).0 ((h.holds.points v).0 on).1,
          λ holds. (h.holds.points v).1 (moved n h.system.dim v (sym same) point, (says.same v).1 holds),
        ));
      },
      own_shape n s is (h.holds.dim ∙ same),
    )

-- the point is in one of two shapes
abbrev IsInEither : DifferenceShape → DifferenceShape → List ℤ → Type 0
IsInEither s t v = IsWithin (shape_constraints s) v ⊎ IsWithin (shape_constraints t) v

one_of : (s t : DifferenceShape) → IsShape s → IsShape t → (v : List ℤ) → IsIn s v ⊎ IsIn t v → IsInEither s t v
one_of s t is_s is_t v (inl on) = inl ((within_shape s is_s v).1 on)
one_of s t is_s is_t v (inr on) = inr ((within_shape t is_t v).1 on)

hull_includes : (s t r : DifferenceShape) → IsShape s → IsShape t → IsHull s t r → (v : List ℤ) → IsInEither s t v → IsIn r v
hull_includes s t r is_s is_t hull v (inl w) = hull.first v ((within_shape s is_s v).0 w)
hull_includes s t r is_s is_t hull v (inr w) = hull.second v ((within_shape t is_t v).0 w)

pub shapes_made : (op : ShapeOperator) (s t r : DifferenceShape) (others : Conditions) → IsShape s → IsShape t → IsShape r → Passes (made_shapes.of_one_dim s t others) → made_shapes.IsShapeBy op s t r → IsOfTwoShapes op (shape_set s) (shape_set t) (shape_set r)
shapes_made shape_operator.Meet s t r others is_s is_t is_r passes h =
    let dims : s.dim ≡ t.dim = one_number s.dim t.dim passes.1.1.1.0 in (
      record { kind = refl; variables = dims },
      shape_is s.dim (λ v. In (shape_constraints s) v × In (shape_constraints t) v) r is_r h.dim
          (λ v point. via (h.set v) (turn (both_ways (in_shape s is_s v point) (in_shape t is_t v (moved s.dim t.dim v dims point))))),
    )
shapes_made shape_operator.Hull s t r others is_s is_t is_r passes h =
    let dims : s.dim ≡ t.dim = one_number s.dim t.dim passes.1.1.1.0 in (
      record { kind = refl; variables = dims },
      shape_is s.dim (IsInSmallestShape s.dim (IsInEither s t)) r is_r h.dim (λ v point. (
        λ on. smallest_same s.dim (λ u. IsIn s u ⊎ IsIn t u) (IsInEither s t) (one_of s t is_s is_t) v (hull_to s t r is_s is_t (sym dims) h.dim h.set v on),
        λ least. smallest_from r is_r (IsInEither s t) (hull_includes s t r is_s is_t h.set) v (moved s.dim r.dim v (sym h.dim) point) (subst (λ (n : ℕ). IsInSmallestShape n (IsInEither s t) v) (sym h.dim) least),
      )),
    )

pub spoly_made : (s : DifferenceShape) (p : Polyhedron) → IsShape s → IsProper p → made_shapes.IsPolyOfShape s p → IsCopy (shape_set s) (set_of p)
spoly_made s p is fit h = set_is Closed s.dim (In (shape_constraints s)) p fit (record { same_topology = h.topology; same_dim = h.dim }) (λ v point. (
  λ holds. (in_shape s is v point).1 ((h.points v).0 (record { point = moved s.dim p.cons.dim v (sym h.dim) point; holds = holds })),
  λ holds. ((h.points v).1 ((in_shape s is v point).0 holds)).holds,
))

pub inclusion_true : (s t : DifferenceShape) (reply : List ℕ) (others : Conditions) → IsShape s → IsShape t → Passes (made_shapes.of_one_dim s t others) → IsTold (Includes s t) reply → TellsHowTheyLie comparison.Contains (shape_set s) (shape_set t) reply
inclusion_true s t reply others is_s is_t passes h =
    let dims : s.dim ≡ t.dim = one_number s.dim t.dim passes.1.1.1.0 in
    record {
      operands = record { kind = refl; variables = dims };
      tells = told (LieSo comparison.Contains (shape_set s) (shape_set t)) reply h.holds (via h.true_of (
        λ includes. λ v point holds. (in_shape s is_s v point).1 (includes v ((in_shape t is_t v (moved s.dim t.dim v dims point)).0 holds)),
        λ includes. λ v on.
            (let point : IsPoint s.dim v = moved t.dim s.dim v (sym dims) on.point in (in_shape s is_s v point).0 (includes v point ((in_shape t is_t v on.point).1 on))),
      )) h.said;
    }

pub sprint_true : TextLaws → ConstraintsAreReadBack → (s : DifferenceShape) (reply : List ℕ) → IsShape s → reply ≡ as_line (constraints_text (shape_constraints s)) → TellsConstraints (shape_set s) reply
sprint_true laws law s reply is h =
    let says = laws.constraints s.dim (constraints_text (shape_constraints s)) (shape_constraints s) ((law (shape_constraints s) (shape_constraints s) (shape_fits s is)).1 refl) in
    record { text = constraints_text (shape_constraints s); said = h; is = record { list = says.list; says = says.is_text; kinds = says.kinds false (lack_strict Closed (shape_constraints s) (closed_rows s.dim s.bounds)); set = shape_is s.dim (In (constraints s.dim says.list)) s is refl (λ v point. via (turn (in_shape s is v point)) (says.same v)) } }
