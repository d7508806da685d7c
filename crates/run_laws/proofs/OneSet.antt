-- What is accepted gives a name one entry at most.
use Rattle.std.proofs.Common.{◌≡◌, ℕ, ◌-◌, ◌/◌, List, [], ◌∷◌, refl, sym, ◌∙◌, subst, Bool, true, false}
use Rattle.std.specs.Prelude.{◌↔◌, MatchBool, ℤ}
use Rattle.std.specs.Str.{bytes_eq}
use Rattle.row_core.specs.Points.{IsPoint}
use Rattle.cons_sys.specs.Constraints.{Constraints, In}
use Rattle.gens_sys.specs.Generators.{Generators}
use Rattle.gens_sys.specs.Spans.{Span}
use Rattle.term_text.specs.Systems.{IsCons}
use Rattle.expr_text.specs.GeneratorSystems.{IsGens}
use Rattle.set_laws.specs.JoinedSets.{GenerateSame}
use Rattle.poly_pair.specs.Polyhedra.{Polyhedron, IsOver, IsOfConstraints, IsOfGenerators, IsUniverse, IsEmpty}
use Rattle.poly_pair.specs.declared.topology.Topology.{Topology}
use Rattle.poly_pair.specs.declared.topology.Topology.TheVariants.{Closed}
use Rattle.cdd_reading.specs.declared.format.Format.{Format}
use Rattle.cdd_reading.specs.declared.format.Format.TheVariants.{Ine, Ext}
use Rattle.file_poly.specs.Files.{IsListOf, IsOfList, IsOfFile}
use Rattle.file_poly.specs.declared.listed.Listed.{Listed}
use Rattle.file_poly.specs.declared.listed.Listed.TheVariants as listed
use Rattle.trans_sys.specs.Systems.{TransitionSystem, with_initial, with_transition}
use Rattle.powerset.specs.Powersets.{FinitePowerset, IsPowersetOfOne}
use Rattle.ranking.specs.Rankings.{IsRankingSet}
use Rattle.bd_shape.specs.Shapes.{DifferenceShape}
use Rattle.hybrid.specs.Systems.{HybridAutomaton}
use Rattle.script_text.specs.declared.command.Part.{Part}
use Rattle.script_text.specs.declared.command.Space.{Space as SpaceWord}
use Rattle.script_text.specs.declared.command.Space.TheVariants.{Universe, Empty}
use Rattle.script_text.specs.declared.command.Command.{Command}
use Rattle.script_text.specs.declared.command.Command.TheVariants.{Cons, Gens, Space, Copy, Add, Addgen, OfTwo, Closure, Map, Extend, Remove, Widen, System, Init, Trans, Fixpoint, Pset, OfTwoPowersets, Member, Rank, ShapeOf, Bounds, OfTwoShapes, ShapePoly, Hybrid, SetPart, Reach}
use Rattle.calc_state.specs.declared.entry.Entry.{Entry}
use Rattle.calc_state.specs.declared.entry.Entry.TheVariants as entry
use Rattle.open_files.specs.OpenFiles.{OpenFile}
use Rattle.line_values.specs.Proper.{IsProper}
use Rattle.calc_state.specs.Entries.{IsKeptEntry}
use Rattle.poly_makers.specs.Makers.{more_generators, IsSpace}
use Rattle.line_values.specs.Texts.{SaysConstraints, SaysGenerators}
use Rattle.poly_makers.specs.Results.{IsResultOfConstraints, IsResultOfGenerators, IsResultOfClosure}
use Rattle.poly_makers.specs.Operators.{Fits, IsMadeBy, IsExtended}
use Rattle.poly_makers.specs.Affine.{IsRemoved, IsMappedBy}
use Rattle.fixpoint.specs.Commands.{AreReached}
use Rattle.powerset.specs.Commands.{IsPowersetOf}
use Rattle.bd_shape.specs.Commands.{IsShapeOfSet, IsShapeOfConstraints, IsShapeBy, IsPolyOfShape}
use Rattle.hybrid.specs.Commands.{IsStill, AreReachedParts}
use Rattle.calc_state.specs.Parts.{with_part}
use Rattle.line_values.specs.Operands.{topology_of, format_of}
use Rattle.run_laws.specs.Acts.{Act, Did, Took}
use Rattle.run_laws.specs.Sets.{IsMade, IsCut, IsCutOf, IsAdded, IsJoined, IsOfFit, IsOfClosed, IsOfNested, IsMemberAt, IsRankedBy, AreAlikePowersets, HaveOneDim, sets, GivesPoly, GivesSystem, GivesPowerset, GivesShape, GivesHybrid, GivesEntry, GivesFile, IsEntryOf, IsSetOf}
use Rattle.run_laws.specs.Sameness.{AreSamePolyhedra, AreSamePowersets, AreSameEntries}
use Rattle.run_laws.proofs.OneForm.{OneForm, same_dims, of_set, one_of_points}
use Rattle.run_laws.proofs.OneResult.{one_of_one, one_of_poly, one_of_two, one_closure, one_widened}
use Rattle.run_laws.proofs.OneSystem.{one_reached, one_changed, one_empty_system, one_run, run_few, one_reach, reach_few}
use Rattle.run_laws.proofs.OneMap.{one_extended, one_operated, one_mapped_by, one_removed}
use Rattle.run_laws.proofs.OneUnion.{one_single, one_powerset, one_member}
use Rattle.run_laws.proofs.OneShape.{one_shape_of, one_bounds, one_shape_by, one_poly_of_shape, one_ranking_set}
use Rattle.run_laws.proofs.OneHybrid.{one_still}

-- ---- what each entry keeps
one_case : (b : Bool) (A B E : Type 0) → (A → E) → (B → E) → MatchBool b A B → E
one_case true A B E f g h = f h
one_case false A B E f g h = g h

module _ (Had : List ℕ → Entry → Type 0) (kept : (name : List ℕ) (e : Entry) → Had name e → IsKeptEntry e) where
  poly_kept : (c : Command) (name : List ℕ) (p : Polyhedron) → GivesPoly c Had name p → IsProper p
  poly_kept (Cons out top n part) name p h = h.kept
  poly_kept (Gens out top n part) name p h = h.kept
  poly_kept (Space space out top n) name p h = h.kept
  poly_kept (Copy out other) name p h = kept other (entry.Poly p) h
  poly_kept (Add out part) name p h = h.made.kept
  poly_kept (Addgen out part) name p h = h.made.kept
  poly_kept (OfTwo op out one other) name p h = h.made.kept
  poly_kept (Closure out other) name p h = h.made.kept
  poly_kept (Map by out other v rel part) name p h = h.made.kept
  poly_kept (Extend by out other n) name p h = h.made.kept
  poly_kept (Remove out other vars) name p h = h.made.kept
  poly_kept (Widen out one other) name p h = h.made.kept
  poly_kept (Fixpoint s delay prefix) name p h = h.proper
  poly_kept (Member out s i) name p h = h.made.kept
  poly_kept (Rank out r) name p h = h.made.kept
  poly_kept (ShapePoly out s) name p h = h.made.kept
  poly_kept (Reach s delay prefix) name p h = h.proper
  poly_kept other name p h = absurd h

  system_kept : (c : Command) (s : TransitionSystem) → GivesSystem c Had s → IsKeptEntry (entry.System s)
  system_kept (System out n locations) s h = h.kept
  system_kept (Init out location p) s h = h.made.kept
  system_kept (Trans out source target r) s h = h.made.kept
  system_kept other s h = absurd h

  powerset_kept : (c : Command) (u : FinitePowerset) → GivesPowerset c Had u → IsKeptEntry (entry.Powerset u)
  powerset_kept (Pset out p) u h = h.made.kept
  powerset_kept (OfTwoPowersets op out s t) u h = h.made.kept
  powerset_kept other u h = absurd h

  shape_kept : (c : Command) (r : DifferenceShape) → GivesShape c Had r → IsKeptEntry (entry.Shape r)
  shape_kept (ShapeOf out p) r h = h.made.kept
  shape_kept (Bounds out n part) r h = h.kept
  shape_kept (OfTwoShapes op out s t) r h = h.made.kept
  shape_kept other r h = absurd h

  hybrid_kept : (c : Command) (k : HybridAutomaton) → GivesHybrid c Had k → IsKeptEntry (entry.Hybrid k)
  hybrid_kept (Hybrid out s) k h = h.made.kept
  hybrid_kept (SetPart part out location p) k h = h.made.kept
  hybrid_kept other k h = absurd h

  given_kept : (c : Command) (name : List ℕ) (e : Entry) → GivesEntry c Had name e → IsKeptEntry e
  given_kept c name (entry.Poly p) h = poly_kept c name p h
  given_kept c name (entry.System s) h = system_kept c s h
  given_kept c name (entry.Powerset u) h = powerset_kept c u h
  given_kept c name (entry.Shape r) h = shape_kept c r h
  given_kept c name (entry.Hybrid k) h = hybrid_kept c k h

file_kept : (file : OpenFile) (e : Entry) → GivesFile file e → IsKeptEntry e
file_kept file (entry.Poly p) h = h.kept
file_kept file other h = absurd h

pub entry_kept : (all : List Act) (name : List ℕ) (e : Entry) → IsEntryOf all name e → IsKeptEntry e
entry_kept [] name e h = absurd h
entry_kept (Did c ∷ earlier) name e h = one_case (sets earlier c name) (GivesEntry c (IsEntryOf earlier) name e) (IsEntryOf earlier name e) (IsKeptEntry e) (given_kept (IsEntryOf earlier) (entry_kept earlier) c name e) (entry_kept earlier name e) h
entry_kept (Took file ∷ earlier) name e h = one_case (bytes_eq name file.name) (GivesFile file e) (IsEntryOf earlier name e) (IsKeptEntry e) (file_kept file e) (entry_kept earlier name e) h

-- the polyhedron of a name is kept as its set is stored
pub set_proper : (all : List Act) (name : List ℕ) (p : Polyhedron) → IsSetOf all name p → IsProper p
set_proper all name p h = entry_kept all name (entry.Poly p) h

-- ---- one set of points
one_of_constraints : OneForm → (t : Topology) (cs : Constraints) (p q : Polyhedron) → IsProper p → IsProper q → IsOfConstraints t cs p → IsOfConstraints t cs q → AreSamePolyhedra p q
one_of_constraints laws t cs p q a b h k = one_of_points laws t cs.dim (In cs) p q a b h.over k.over h.points k.points

one_of_generators : OneForm → (t : Topology) (gs : Generators) (p q : Polyhedron) → IsProper p → IsProper q → IsOfGenerators t gs p → IsOfGenerators t gs q → AreSamePolyhedra p q
one_of_generators laws t gs p q a b h k = one_of_points laws t gs.dim (Span gs) p q a b h.over k.over h.points k.points

one_universe : OneForm → (t : Topology) (n : ℕ) (p q : Polyhedron) → IsMade (IsUniverse t n) p → IsMade (IsUniverse t n) q → AreSamePolyhedra p q
one_universe laws t n p q h k =
    one_of_points laws t n (λ v. Unit {0}) p q h.kept k.kept h.is.over k.is.over (λ v is. (λ x. h.is.points v is, λ x. tt)) (λ v is. (λ x. k.is.points v is, λ x. tt))

none_in : (t : Topology) (n : ℕ) (p : Polyhedron) → IsEmpty t n p → (v : List ℤ) → IsPoint n v → ⊥ ↔ In p.cons v
none_in t n p h v is = (λ x. absurd x, λ x. h.points v (record { point = subst (λ (m : ℕ). IsPoint m v) (sym h.over.same_dim) is; holds = x }))

one_empty : OneForm → (t : Topology) (n : ℕ) (p q : Polyhedron) → IsMade (IsEmpty t n) p → IsMade (IsEmpty t n) q → AreSamePolyhedra p q
one_empty laws t n p q h k = one_of_points laws t n (λ v. ⊥) p q h.kept k.kept h.is.over k.is.over (none_in t n p h.is) (none_in t n q k.is)

one_space : OneForm → (space : SpaceWord) (t : Topology) (n : ℕ) (p q : Polyhedron) → IsMade (IsSpace space t n) p → IsMade (IsSpace space t n) q → AreSamePolyhedra p q
one_space laws Universe t n p q h k = one_universe laws t n p q h k
one_space laws Empty t n p q h k = one_empty laws t n p q h k

-- ---- polyhedra that are cut or joined
module _ (laws : OneForm) (old other : Polyhedron) (same : AreSamePolyhedra old other) where
  over_old : (dim : ℕ) (q : Polyhedron) → dim ≡ old.cons.dim → IsOver other.topology dim q → IsOver old.topology old.cons.dim q
  over_old dim q e o = record { same_topology = o.same_topology ∙ sym same.topology; same_dim = o.same_dim ∙ e }

  at_other : (v : List ℤ) → IsPoint old.cons.dim v → IsPoint other.cons.dim v
  at_other v is = subst (λ (n : ℕ). IsPoint n v) same.dim is

  one_cut : (cs : Constraints) (p q : Polyhedron) → IsProper p → IsProper q → IsCut old cs p → IsCut other cs q → AreSamePolyhedra p q
  one_cut cs p q a b h k =
      one_of_points laws old.topology old.cons.dim (λ v. In old.cons v × In cs v) p q a b h.over (over_old other.cons.dim q (sym same.dim) k.over) (λ v is. ((h.points v is).1, (h.points v is).0)) other_points
    where
      other_points : (v : List ℤ) → IsPoint old.cons.dim v → (In old.cons v × In cs v) ↔ In q.cons v
      other_points v is =
          let s = same.points v is in
          let t = k.points v (at_other v is) in
          (λ x. t.1 (s.0 x.0, x.1), λ y. (s.1 (t.0 y).0, (t.0 y).1))

  module _ (a : IsProper old) (b : IsProper other) where
    generate_same : GenerateSame old.gens other.gens
    generate_same v is =
        let here : IsPoint old.cons.dim v = subst (λ (n : ℕ). IsPoint n v) (same_dims old a) is in
        let s = laws.pair old a.kept v here in
        let t = laws.pair other b.kept v (at_other v here) in
        let m = same.points v here in
        (λ x. t.0 (m.0 (s.1 x)), λ y. s.0 (m.1 (t.1 y)))

    one_joined_set : (gs : Generators) (p q : Polyhedron) → IsProper p → IsProper q → IsOfGenerators old.topology (more_generators old.gens gs) p → IsOfGenerators other.topology (more_generators other.gens gs) q → AreSamePolyhedra p q
    one_joined_set gs p q c d h k =
        one_of_points laws old.topology old.gens.dim (Span (more_generators old.gens gs)) p q c d h.over
        (record { same_topology = k.over.same_topology ∙ sym same.topology; same_dim = k.over.same_dim ∙ gens_dim }) h.points other_points
      where
        gens_dim : other.gens.dim ≡ old.gens.dim
        gens_dim = same_dims other b ∙ sym same.dim ∙ sym (same_dims old a)

        other_points : (v : List ℤ) → IsPoint old.gens.dim v → Span (more_generators old.gens gs) v ↔ In q.cons v
        other_points v is =
            let s = laws.joined old.gens other.gens gs.list (of_set laws old a) (of_set laws other b) (sym gens_dim) generate_same v is in
            let t = k.points v (subst (λ (n : ℕ). IsPoint n v) (sym gens_dim) is) in
            (λ x. t.0 (s.0 x), λ y. s.1 (t.1 y))

-- ---- what one text says
one_says_constraints : OneForm → (dim other : ℕ) (part : Part) (P Q : Constraints → Type 0) (E : Type 0) → dim ≡ other → ((cs : Constraints) → P cs → Q cs → E) → SaysConstraints dim part P → SaysConstraints other part Q → E
one_says_constraints laws dim other part P Q E e both h k =
    let one = laws.cons other part.text in
    both k.system (subst P (one.one_value h.system k.system (subst (λ (n : ℕ). IsCons n part.text h.system) e h.read) k.read) h.holds) k.holds

one_says_generators : OneForm → (dim other : ℕ) (part : Part) (P Q : Generators → Type 0) (E : Type 0) → dim ≡ other → ((gs : Generators) → P gs → Q gs → E) → SaysGenerators dim part P → SaysGenerators other part Q → E
one_says_generators laws dim other part P Q E e both h k =
    let one = laws.gens other part.text in
    both k.system (subst P (one.one_value h.system k.system (subst (λ (n : ℕ). IsGens n part.text h.system) e h.read) k.read) h.holds) k.holds

-- ---- one set of a name
same_case : (b : Bool) (A B C D E : Type 0) → (A → C → E) → (B → D → E) → MatchBool b A B → MatchBool b C D → E
same_case true A B C D E f g h k = f h k
same_case false A B C D E f g h k = g h k

one_made_of_constraints : OneForm → (t : Topology) (n : ℕ) (part : Part) (p q : Polyhedron) → IsMade (λ r. SaysConstraints n part (λ cs. IsResultOfConstraints t cs r)) p → IsMade (λ r. SaysConstraints n part (λ cs. IsResultOfConstraints t cs r)) q → AreSamePolyhedra p q
one_made_of_constraints laws t n part p q h k =
    one_says_constraints laws n n part (λ cs. IsResultOfConstraints t cs p) (λ cs. IsResultOfConstraints t cs q) (AreSamePolyhedra p q) refl (λ cs x y. one_of_constraints laws t cs p q h.kept k.kept x.set y.set) h.is k.is

one_made_of_generators : OneForm → (t : Topology) (n : ℕ) (part : Part) (p q : Polyhedron) → IsMade (λ r. SaysGenerators n part (λ gs. IsResultOfGenerators t gs r)) p → IsMade (λ r. SaysGenerators n part (λ gs. IsResultOfGenerators t gs r)) q → AreSamePolyhedra p q
one_made_of_generators laws t n part p q h k =
    one_says_generators laws n n part (λ gs. IsResultOfGenerators t gs p) (λ gs. IsResultOfGenerators t gs q) (AreSamePolyhedra p q) refl (λ gs x y. one_of_generators laws t gs p q h.kept k.kept x.set y.set) h.is k.is

one_added : OneForm → (part : Part) (x y p q : Polyhedron) → AreSamePolyhedra x y → IsProper p → IsProper q → IsAdded part x p → IsAdded part y q → AreSamePolyhedra p q
one_added laws part x y p q same a b h k =
    one_says_constraints laws x.cons.dim y.cons.dim part (λ cs. IsCutOf x cs p) (λ cs. IsCutOf y cs q) (AreSamePolyhedra p q) same.dim (λ cs i j. one_cut laws x y same cs p q a b i.set j.set) h k

one_joined : OneForm → (part : Part) (x y p q : Polyhedron) → AreSamePolyhedra x y → IsProper x → IsProper y → IsProper p → IsProper q → IsJoined part x p → IsJoined part y q → AreSamePolyhedra p q
one_joined laws part x y p q same a b c d h k =
    one_says_generators laws x.gens.dim y.gens.dim part (λ gs. IsResultOfGenerators x.topology (more_generators x.gens gs) p) (λ gs. IsResultOfGenerators y.topology (more_generators y.gens gs) q) (AreSamePolyhedra p q)
    (same_dims x a ∙ same.dim ∙ sym (same_dims y b)) (λ gs i j. one_joined_set laws x y same a b gs p q c d i.set j.set) h k

one_ranked : OneForm → (x y p q : Polyhedron) → AreSamePolyhedra x y → IsProper p → IsProper q → IsOfClosed IsRankedBy x p → IsOfClosed IsRankedBy y q → AreSamePolyhedra p q
one_ranked laws x y p q same a b h k = one_ranking_set laws (y.cons.dim / 2) y p q a b (subst (λ (z : Polyhedron). IsRankingSet (z.cons.dim / 2) z p) (same.closed h.closed) h.is.1) k.is.1

-- a file holds one list
one_list : OneForm → (want : Format) (bytes : List ℕ) (k l : Listed) (p q : Polyhedron) → IsProper p → IsProper q → IsListOf want bytes k → IsListOf want bytes l → IsOfList k p → IsOfList l q → AreSamePolyhedra p q
one_list laws Ine bytes (listed.Cons cs) (listed.Cons ds) p q a b h k x y = one_of_constraints laws Closed ds p q a b (subst (λ (c : Constraints). IsOfConstraints Closed c p) (laws.ine bytes cs ds h k) x) y
one_list laws Ext bytes (listed.Gens gs) (listed.Gens hs) p q a b h k x y = one_of_generators laws Closed hs p q a b (subst (λ (g : Generators). IsOfGenerators Closed g p) (laws.ext bytes gs hs h k) x) y
one_list laws Ine bytes (listed.Gens gs) l p q a b h k x y = absurd h
one_list laws Ine bytes (listed.Cons cs) (listed.Gens gs) p q a b h k x y = absurd k
one_list laws Ext bytes (listed.Cons cs) l p q a b h k x y = absurd h
one_list laws Ext bytes (listed.Gens gs) (listed.Cons cs) p q a b h k x y = absurd k

one_file : OneForm → (want : Format) (bytes : List ℕ) (p q : Polyhedron) → IsMade (IsOfFile want bytes) p → IsMade (IsOfFile want bytes) q → AreSamePolyhedra p q
one_file laws want bytes p q h k = one_list laws want bytes h.is.list k.is.list p q h.kept k.kept h.is.read k.is.read h.is.set k.is.set

-- ---- one entry of a name
one_file_entry : OneForm → (file : OpenFile) (e f : Entry) → GivesFile file e → GivesFile file f → AreSameEntries e f
one_file_entry laws file (entry.Poly p) (entry.Poly q) h k = one_file laws (format_of file.ext) file.text p q h k
one_file_entry laws file (entry.Poly p) other h k = absurd k
one_file_entry laws file other f h k = absurd h

-- the kind of an entry, and that of what a command gives
abbrev kind_of : Entry → ℕ
kind_of (entry.Poly p) = 0
kind_of (entry.System s) = 1
kind_of (entry.Powerset u) = 2
kind_of (entry.Shape r) = 3
kind_of (entry.Hybrid h) = 4

abbrev kind_given : Command → ℕ
kind_given (System out n locations) = 1
kind_given (Init out location p) = 1
kind_given (Trans out source target r) = 1
kind_given (Pset out p) = 2
kind_given (OfTwoPowersets op out s t) = 2
kind_given (ShapeOf out p) = 3
kind_given (Bounds out n part) = 3
kind_given (OfTwoShapes op out s t) = 3
kind_given (Hybrid out s) = 4
kind_given (SetPart part out location p) = 4
kind_given other = 0

module _ (Had : List ℕ → Entry → Type 0) where
  poly_given : (c : Command) (name : List ℕ) (p : Polyhedron) → GivesPoly c Had name p → kind_given c ≡ 0
  poly_given (System out n locations) name p h = absurd h
  poly_given (Init out location other) name p h = absurd h
  poly_given (Trans out source target r) name p h = absurd h
  poly_given (Pset out other) name p h = absurd h
  poly_given (OfTwoPowersets op out s t) name p h = absurd h
  poly_given (ShapeOf out other) name p h = absurd h
  poly_given (Bounds out n part) name p h = absurd h
  poly_given (OfTwoShapes op out s t) name p h = absurd h
  poly_given (Hybrid out s) name p h = absurd h
  poly_given (SetPart part out location other) name p h = absurd h
  poly_given other name p h = refl

  system_given : (c : Command) (s : TransitionSystem) → GivesSystem c Had s → kind_given c ≡ 1
  system_given (System out n locations) s h = refl
  system_given (Init out location p) s h = refl
  system_given (Trans out source target r) s h = refl
  system_given other s h = absurd h

  powerset_given : (c : Command) (u : FinitePowerset) → GivesPowerset c Had u → kind_given c ≡ 2
  powerset_given (Pset out p) u h = refl
  powerset_given (OfTwoPowersets op out s t) u h = refl
  powerset_given other u h = absurd h

  shape_given : (c : Command) (r : DifferenceShape) → GivesShape c Had r → kind_given c ≡ 3
  shape_given (ShapeOf out p) r h = refl
  shape_given (Bounds out n part) r h = refl
  shape_given (OfTwoShapes op out s t) r h = refl
  shape_given other r h = absurd h

  hybrid_given : (c : Command) (k : HybridAutomaton) → GivesHybrid c Had k → kind_given c ≡ 4
  hybrid_given (Hybrid out s) k h = refl
  hybrid_given (SetPart part out location p) k h = refl
  hybrid_given other k h = absurd h

  entry_given : (c : Command) (name : List ℕ) (e : Entry) → GivesEntry c Had name e → kind_given c ≡ kind_of e
  entry_given c name (entry.Poly p) h = poly_given c name p h
  entry_given c name (entry.System s) h = system_given c s h
  entry_given c name (entry.Powerset u) h = powerset_given c u h
  entry_given c name (entry.Shape r) h = shape_given c r h
  entry_given c name (entry.Hybrid k) h = hybrid_given c k h

module _ (laws : OneForm) (Had : List ℕ → Entry → Type 0) (kept : (name : List ℕ) (x : Entry) → Had name x → IsKeptEntry x) (one : (name : List ℕ) (x y : Entry) → Had name x → Had name y → AreSameEntries x y) where
  one_given_poly : (c : Command) (name : List ℕ) (p q : Polyhedron) → GivesPoly c Had name p → GivesPoly c Had name q → AreSamePolyhedra p q
  one_given_poly (Cons out top n part) name p q h k = one_made_of_constraints laws (topology_of top) n part p q h k
  one_given_poly (Gens out top n part) name p q h k = one_made_of_generators laws (topology_of top) n part p q h k
  one_given_poly (Space space out top n) name p q h k = one_space laws space (topology_of top) n p q h k
  one_given_poly (Copy out other) name p q h k = one other (entry.Poly p) (entry.Poly q) h k
  one_given_poly (Add out part) name p q h k = one_of_poly (Had out) (IsAdded part) p q (kept out) (one out) (one_added laws part) h k
  one_given_poly (Addgen out part) name p q h k = one_of_one entry.Poly entry.Poly (Had out) (IsJoined part) p q (kept out) (one out) (λ x y e a b c d i j. one_joined laws part x y p q e a b c d i j) h k
  one_given_poly (OfTwo op out first other) name p q h k =
      one_of_two entry.Poly entry.Poly (Had first) (Had other) (IsOfFit (Fits op) (IsMadeBy op)) p q (kept first) (kept other) (one first) (one other) (λ x y v w e d a b c z r s i j. one_operated laws op x y v w p q e d r s i j) h k
  one_given_poly (Closure out other) name p q h k = one_of_poly (Had other) IsResultOfClosure p q (kept other) (one other) (one_closure laws) h k
  one_given_poly (Map by out other v rel part) name p q h k = one_of_poly (Had other) (IsMappedBy by v rel part) p q (kept other) (one other) (one_mapped_by laws by v rel part) h k
  one_given_poly (Extend by out other n) name p q h k = one_of_poly (Had other) (IsExtended by n) p q (kept other) (one other) (one_extended laws by n) h k
  one_given_poly (Remove out other vars) name p q h k = one_of_poly (Had other) (IsRemoved vars) p q (kept other) (one other) (one_removed laws vars) h k
  one_given_poly (Widen out first other) name p q h k =
      one_of_two entry.Poly entry.Poly (Had first) (Had other) IsOfNested p q (kept first) (kept other) (one first) (one other) (λ x y v w e d a b c z r s i j. one_widened laws x y v w p q a e d r s i j) h k
  one_given_poly (Fixpoint s delay prefix) name p q h k =
      one_reached entry.System (Had s) (λ x xs. AreReached x delay xs) prefix name p q (λ x y u w. one s (entry.System x) (entry.System y) u w) (λ x xs ys w a b. one_run laws x delay xs ys (kept s (entry.System x) w) a b) (λ x xs w a. run_few x delay xs (kept s (entry.System x) w) a) h k
  one_given_poly (Member out s i) name p q h k = one_of_one entry.Powerset entry.Poly (Had s) (IsMemberAt i) p q (kept s) (one s) (λ x y e a b c d u w. one_member x y (i - 1) p q e u.1 w.1) h k
  one_given_poly (Rank out r) name p q h k = one_of_poly (Had r) (IsOfClosed IsRankedBy) p q (kept r) (one r) (one_ranked laws) h k
  one_given_poly (ShapePoly out s) name p q h k =
      one_of_one entry.Shape entry.Poly (Had s) IsPolyOfShape p q (kept s) (one s) (λ x y e a b c d i j. one_poly_of_shape laws y p q c d (subst (λ (z : DifferenceShape). IsPolyOfShape z p) e i) j) h k
  one_given_poly (Reach s delay prefix) name p q h k =
      one_reached entry.Hybrid (Had s) (λ x xs. AreReachedParts x delay xs) prefix name p q (λ x y u w. one s (entry.Hybrid x) (entry.Hybrid y) u w) (λ x xs ys w a b. one_reach laws x delay xs ys (kept s (entry.Hybrid x) w) a b) (λ x xs w a. reach_few x delay xs (kept s (entry.Hybrid x) w) a) h k
  one_given_poly other name p q h k = absurd h

  one_given_system : (c : Command) (s t : TransitionSystem) → GivesSystem c Had s → GivesSystem c Had t → s ≡ t
  one_given_system (System out n locations) s t h k = one_empty_system laws n locations s t h k
  one_given_system (Init out location p) s t h k = one_changed entry.System (Had out) (Had p) (λ old q. with_initial old location q) s t (λ x y u w. one out (entry.System x) (entry.System y) u w) (one p) h k
  one_given_system (Trans out source target r) s t h k =
      one_changed entry.System (Had out) (Had r) (λ old q. with_transition old (record { source = source; target = target; relation = q })) s t (λ x y u w. one out (entry.System x) (entry.System y) u w) (one r) h k
  one_given_system other s t h k = absurd h

  one_given_powerset : (c : Command) (u w : FinitePowerset) → GivesPowerset c Had u → GivesPowerset c Had w → AreSamePowersets u w
  one_given_powerset (Pset out p) u w h k = one_of_one entry.Poly entry.Powerset (Had p) IsPowersetOfOne u w (kept p) (one p) (λ x y e a b c d i j. one_single laws x y u w e i j c d) h k
  one_given_powerset (OfTwoPowersets op out s t) u w h k =
      one_of_two entry.Powerset entry.Powerset (Had s) (Had t) (IsOfFit AreAlikePowersets (IsPowersetOf op)) u w (kept s) (kept t) (one s) (one t)
      (λ x y v z e d a b c f g r i j. one_powerset laws op x y v z u w e d a b c f g r i.fit.topology i.fit.dim i.is j.is) h k
  one_given_powerset other u w h k = absurd h

  one_given_shape : (c : Command) (s r : DifferenceShape) → GivesShape c Had s → GivesShape c Had r → s ≡ r
  one_given_shape (ShapeOf out p) s r h k = one_of_one entry.Poly entry.Shape (Had p) (IsOfClosed IsShapeOfSet) s r (kept p) (one p) (λ x y e a b c d i j. one_shape_of x y s r (e.closed i.closed) c d i.is j.is) h k
  one_given_shape (Bounds out n part) s r h k =
      one_says_constraints laws n n part (λ cs. IsShapeOfConstraints cs s) (λ cs. IsShapeOfConstraints cs r) (s ≡ r) refl (λ cs i j. one_bounds cs s r h.kept k.kept i j) h.is k.is
  one_given_shape (OfTwoShapes op out first other) s r h k =
      one_of_two entry.Shape entry.Shape (Had first) (Had other) (IsOfFit HaveOneDim (IsShapeBy op)) s r (kept first) (kept other) (one first) (one other)
      (λ x y v w e d a b c f g z i j. one_shape_by op y w s r g z (subst (λ (t : DifferenceShape). IsShapeBy op t w s) e (subst (λ (t : DifferenceShape). IsShapeBy op x t s) d i.is)) j.is) h k
  one_given_shape other s r h k = absurd h

  one_given_hybrid : (c : Command) (h k : HybridAutomaton) → GivesHybrid c Had h → GivesHybrid c Had k → h ≡ k
  one_given_hybrid (Hybrid out s) h k u w = one_of_one entry.System entry.Hybrid (Had s) IsStill h k (kept s) (one s) (λ x y e a b c d i j. one_still laws y h k c d (subst (λ (z : TransitionSystem). IsStill z h) e i) j) u w
  one_given_hybrid (SetPart part out location p) h k u w = one_changed entry.Hybrid (Had out) (Had p) (λ old q. with_part part old location q) h k (λ x y i j. one out (entry.Hybrid x) (entry.Hybrid y) i j) (one p) u w
  one_given_hybrid other h k u w = absurd u

  -- of one kind
  one_given_entry : (c : Command) (name : List ℕ) (e f : Entry) → GivesEntry c Had name e → GivesEntry c Had name f → AreSameEntries e f
  one_given_entry c name (entry.Poly p) (entry.Poly q) h k = one_given_poly c name p q h k
  one_given_entry c name (entry.System s) (entry.System t) h k = one_given_system c s t h k
  one_given_entry c name (entry.Powerset u) (entry.Powerset w) h k = one_given_powerset c u w h k
  one_given_entry c name (entry.Shape s) (entry.Shape r) h k = one_given_shape c s r h k
  one_given_entry c name (entry.Hybrid x) (entry.Hybrid y) h k = one_given_hybrid c x y h k
  one_given_entry c name e f h k = (let same : kind_of e ≡ kind_of f = sym (entry_given Had c name e h) ∙ entry_given Had c name f k in cc)

pub one_entry : OneForm → (all : List Act) (name : List ℕ) (e f : Entry) → IsEntryOf all name e → IsEntryOf all name f → AreSameEntries e f
one_entry laws [] name e f h k = absurd h
one_entry laws (Did c ∷ earlier) name e f h k =
    same_case (sets earlier c name) (GivesEntry c (IsEntryOf earlier) name e) (IsEntryOf earlier name e) (GivesEntry c (IsEntryOf earlier) name f) (IsEntryOf earlier name f) (AreSameEntries e f)
    (one_given_entry laws (IsEntryOf earlier) (entry_kept earlier) (one_entry laws earlier) c name e f) (one_entry laws earlier name e f) h k
one_entry laws (Took file ∷ earlier) name e f h k =
    same_case (bytes_eq name file.name) (GivesFile file e) (IsEntryOf earlier name e) (GivesFile file f) (IsEntryOf earlier name f) (AreSameEntries e f) (one_file_entry laws file e f) (one_entry laws earlier name e f) h k

pub one_set : OneForm → (all : List Act) (name : List ℕ) (p q : Polyhedron) → IsSetOf all name p → IsSetOf all name q → AreSamePolyhedra p q
one_set laws all name p q h k = one_entry laws all name (entry.Poly p) (entry.Poly q) h k
