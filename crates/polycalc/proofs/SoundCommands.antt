-- What an accepted command does is what it says.
use Rattle.std.proofs.Common.{Bool, ◌≡◌, ◌⊎◌, ℕ, ◌*◌, ◌≤◌, List, [], ◌++◌, map, length, refl, ap, sym, ◌∙◌, subst, codes}
use Rattle.std.specs.Prelude.{Option, None, Some, All, decimal}
use Rattle.std.specs.Map.{keys_of}
use Rattle.poly_pair.specs.Polyhedra.{Polyhedron, HasNoPoint}
use Rattle.ranking.specs.Laws.{PrintedFunctionRanks}
use Rattle.trans_sys.specs.Systems as trans
use Rattle.powerset.specs.Powersets.{FinitePowerset}
use Rattle.bd_shape.specs.Shapes.{DifferenceShape}
use Rattle.hybrid.specs.Systems as hybrid
use Rattle.name_table.specs.Table.{entry_of, put, put_each, without, has_no_room}
use Rattle.name_table.specs.Listing.{spaced, names_text}
use Rattle.script_text.specs.Commands.{is_strict}
use Rattle.script_text.specs.Line.{PartsTold}
use Rattle.script_text.specs.declared.command.Command.{Command}
use Rattle.script_text.specs.declared.command.Command.TheVariants as command
use Rattle.script_text.specs.declared.command.Comparison.{Comparison}
use Rattle.script_text.specs.declared.command.Comparison.TheVariants as comparison
use Rattle.script_text.specs.declared.command.Extension.{Extension}
use Rattle.script_text.specs.declared.command.Extremum.{Extremum}
use Rattle.script_text.specs.declared.command.LocationPart.{LocationPart}
use Rattle.script_text.specs.declared.command.Mapping.{Mapping}
use Rattle.script_text.specs.declared.command.Operator.{Operator}
use Rattle.script_text.specs.declared.command.Part.{Part}
use Rattle.script_text.specs.declared.command.PowersetOperator.{PowersetOperator}
use Rattle.script_text.specs.declared.command.Rel.{Rel}
use Rattle.script_text.specs.declared.command.ShapeOperator.{ShapeOperator}
use Rattle.script_text.specs.declared.command.Space.{Space}
use Rattle.line_values.specs.declared.change.Change.TheVariants.{Says, Puts, PutsAll, TakesOut}
use Rattle.line_values.specs.Proper.{IsProper}
use Rattle.line_values.specs.Order.{Passes}
use Rattle.line_values.specs.Meaning.{Meaning, unknown, on_one, on_two, no_fault, room, line, says}
use Rattle.line_values.specs.Effects.{IsReply, IsPutAs, AreAllPut, IsTakenOut, drop_of, puts, tells, lines_of, ok_line}
use Rattle.line_values.specs.Operands.{topology_of, is_max}
use Rattle.poly_makers.specs.Makers as makers
use Rattle.poly_questions.specs.Questions.{names as tell_names, has, size, print}
use Rattle.poly_questions.specs.Optima.{relation, bound}
use Rattle.poly_makers.specs.Makers.{closure}
use Rattle.poly_questions.specs.Lattice.{compared, isempty}
use Rattle.poly_makers.specs.Operators as operators
use Rattle.poly_makers.specs.Affine.{mapped_by, remove}
use Rattle.poly_makers.specs.Widening.{widen}
use Rattle.poly_questions.specs.Files.{write}
use Rattle.calc_state.specs.declared.entry.Entry.{Entry}
use Rattle.calc_state.specs.declared.entry.Entry.TheVariants as entry
use Rattle.calc_state.specs.Entries.{IsKeptEntry}
use Rattle.calc_state.specs.Table.{Table, Change, as_poly, as_system, as_powerset, as_shape, as_hybrid, poly_of, numbered_sets}
use Rattle.fixpoint.specs.Commands as systems
use Rattle.calc_state.specs.Parts as parts
use Rattle.powerset.specs.Commands as powersets
use Rattle.ranking.specs.Commands as rankings
use Rattle.bd_shape.specs.Commands as shapes
use Rattle.hybrid.specs.Commands as hybrids
use Rattle.calc_state.specs.Meanings.{meaning}
use Rattle.calc_state.specs.Step.{IsAccepted, PutsProper, after}
use Rattle.calc_state.proofs.EntryKinds.{IsKind, poly_there, system_there, powerset_there, shape_there, hybrid_there, Found, found_of, same_entry}
use Rattle.calc_state.proofs.SaysOnce.{reply_is}
use Rattle.soundness.specs.Points as points
use Rattle.soundness.specs.Points.{PointSet, AreAlike}
use Rattle.soundness.specs.Values as values
use Rattle.soundness.specs.Values.{Value}
use Rattle.soundness.specs.Sets.{IsOfConstraints, IsOfGenerators, IsSpace, IsCopy, IsAdded, IsJoined, IsClosure, IsOfTwo, IsWidening, IsExtended, IsRemoved, IsMapped}
use Rattle.soundness.specs.Answers as answers
use Rattle.soundness.specs.Unions as unions
use Rattle.soundness.specs.Shapes.{IsOfBounds, IsSmallestShape, IsOfTwoShapes}
use Rattle.soundness.specs.Systems as said_systems
use Rattle.soundness.specs.Files as files
use Rattle.soundness.specs.Commands.{Act, OfOne, OfTwo, Makes, MakesEach, Asks, TakesOut as TakesOutOf, Does}
use Rattle.soundness.proofs.PointLaws.{TextLaws, set_of}
use Rattle.soundness.proofs.Operands.{one_topology, are_alike, fit_operator}
use Rattle.soundness.proofs.MadeSets.{cons_made, gens_made, space_made, copy_made, add_made, addgen_made, closure_made, two_made, extension_made, remove_made, map_made}
use Rattle.soundness.proofs.ShapeSets.{shape_set}
use Rattle.soundness.proofs.TrueAnswers.{PolyLaws, same_dims, told_so, has_true, compared_true, relation_true, extreme_true, size_true, side_true, file_true, widen_made}
use Rattle.polycalc.proofs.SoundValues.{system_of as said_system, automaton_of, powerset_of as said_powerset, value_of, named, stands, named_put, named_without, named_put_each, named_numbered, named_keys, named_length, AreKept, kept_at}
use Rattle.polycalc.proofs.SoundParts.{UnionLaws, system_made, init_made, trans_made, fixpoint_made, still_made, part_made, reach_made, pset_made, combined_made, member_made, psize_true, cover_true, rank_made, ranking_true, shape_made, bounds_made, shapes_made, spoly_made, inclusion_true, sprint_true}
use Rattle.poly_pair.specs.declared.topology.Topology.TheVariants.{Closed}

-- the laws that are cited
pub record Laws : Type 0 where
  pub texts : TextLaws
  pub poly : PolyLaws
  pub unions : UnionLaws
  pub ranking : PrintedFunctionRanks

-- ---- entries of a kind
-- an entry of a kind with the property is put under the name
record IsMade {A : Type 0} (kind : A → Entry) (out : List ℕ) (Is : A → Type 0) (old : Table) (text : List ℕ) (new : Table) : Type 0 where
  made : A
  is : Is made
  kept : IsKeptEntry (kind made)
  table : new ≡ put old out (kind made)
  said : text ≡ ok_line

put_made : {A : Type 0} (found : Option Entry → Option A) (kind : A → Entry) → IsKind found kind → (out : List ℕ) (Is : A → Type 0) (old : Table) (text : List ℕ) (new : Table) (change : Change) → IsPutAs found out Is change → PutsProper change → text ≡ lines_of change → new ≡ after old change → IsMade kind out Is old text new
put_made found kind there out Is old text new (Puts name e) h proper said table =
    let f = found_of (found (Some e)) Is h.1 in
    let is_kind : e ≡ kind f.value = same_entry e (kind f.value) (there (Some e) f.value f.there) in
    record { made = f.value; is = f.is; kept = subst IsKeptEntry is_kind proper; table = table ∙ (ap (λ (n : List ℕ). put old n e) h.0 ∙ ap (put old out) is_kind); said = said }
put_made found kind there out Is old text new (Says t) h proper said table = absurd h
put_made found kind there out Is old text new (PutsAll prefix sets) h proper said table = absurd h
put_made found kind there out Is old text new (TakesOut name) h proper said table = absurd h

said_table : (old : Table) (Is : List ℕ → Type 0) (change : Change) → IsReply Is change → after old change ≡ old
said_table old Is (Says text) h = refl
said_table old Is (Puts name e) h = absurd h
said_table old Is (PutsAll prefix xs) h = absurd h
said_table old Is (TakesOut name) h = absurd h

-- the polyhedra of a run are put under the numbered names
record IsMadeEach (prefix : List ℕ) (Are : List Polyhedron → Type 0) (old : Table) (text : List ℕ) (new : Table) : Type 0 where
  sets : List Polyhedron
  kept : All IsProper sets
  are : Are sets
  table : new ≡ put_each old (numbered_sets prefix 0 sets)
  said : text ≡ ok_line

put_each_made : (prefix : List ℕ) (Are : List Polyhedron → Type 0) (old : Table) (text : List ℕ) (new : Table) (change : Change) → AreAllPut prefix Are change → PutsProper change → text ≡ lines_of change → new ≡ after old change → IsMadeEach prefix Are old text new
put_each_made prefix Are old text new (PutsAll out xs) h proper said table = record { sets = xs.items; kept = proper; are = h.1; table = table ∙ ap (λ (x : List ℕ). put_each old (numbered_sets x 0 xs.items)) h.0; said = said }
put_each_made prefix Are old text new (Says t) h proper said table = absurd h
put_each_made prefix Are old text new (Puts name e) h proper said table = absurd h
put_each_made prefix Are old text new (TakesOut name) h proper said table = absurd h

taken_made : (name : List ℕ) (e : Entry) (old : Table) (text : List ℕ) (new : Table) (change : Change) → entry_of old name ≡ Some e → IsTakenOut name change → text ≡ lines_of change → new ≡ after old change → TakesOutOf name (named old) text (named new)
taken_made name e old text new (TakesOut taken) there h said table =
    record { value = value_of e; stands = stands old name e there; names = ap named (table ∙ ap (λ (n : List ℕ). without old n) h) ∙ named_without old name; said = said }
taken_made name e old text new (Says t) there h said table = absurd h
taken_made name e old text new (Puts n x) there h said table = absurd h
taken_made name e old text new (PutsAll prefix xs) there h said table = absurd h

abbrev names_line : ℕ → List (List ℕ) → List ℕ
names_line n names = line (codes "names " ++ decimal n ++ spaced names)

-- the meanings of the commands that change a part, before the part is put
abbrev init_meaning : ℕ → trans.TransitionSystem → Polyhedron → Meaning trans.TransitionSystem
init_meaning location x q = record { conditions = parts.misfits x.dim q (length x.initial ≤ location); overflows = λ over. ⊥; does = λ r. r ≡ trans.with_initial x location q }

abbrev trans_meaning : ℕ → ℕ → trans.TransitionSystem → Polyhedron → Meaning trans.TransitionSystem
trans_meaning source target x q = record { conditions = parts.misfits (2 * x.dim) q ((length x.initial ≤ source) ⊎ (length x.initial ≤ target)); overflows = λ over. ⊥; does = λ r. r ≡ trans.with_transition x (record { source = source; target = target; relation = q }) }

abbrev part_meaning : LocationPart → ℕ → hybrid.HybridAutomaton → Polyhedron → Meaning hybrid.HybridAutomaton
part_meaning part location x q = record { conditions = parts.misfits x.system.dim q (length x.system.initial ≤ location); overflows = λ over. ⊥; does = λ r. r ≡ parts.with_part part x location q }

compared_alike : (by : Comparison) (x y : Polyhedron) → Passes (compared by x y).conditions → AreAlike (set_of x) (set_of y)
compared_alike comparison.Contains x y passes = are_alike x y no_fault passes
compared_alike comparison.Equal x y passes = are_alike x y no_fault passes
compared_alike comparison.Disjoint x y passes = are_alike x y no_fault passes

-- ---- kinds
-- a kind of entries, and what is said of them
record Kind (A B : Type 0) : Type 0 where
  find : Option Entry → Option A
  kind : A → Entry
  there : IsKind find kind
  value : B → Value
  said : A → B
  same : (a : A) → value_of (kind a) ≡ value (said a)

abbrev poly : Kind Polyhedron PointSet
poly = record { find = as_poly; kind = entry.Poly; there = poly_there; value = values.Polyhedron; said = set_of; same = λ p. refl }

abbrev system : Kind trans.TransitionSystem values.TransitionSystem
system = record { find = as_system; kind = entry.System; there = system_there; value = values.System; said = said_system; same = λ s. refl }

abbrev union : Kind FinitePowerset values.Powerset
union = record { find = as_powerset; kind = entry.Powerset; there = powerset_there; value = values.Union; said = said_powerset; same = λ u. refl }

abbrev shape : Kind DifferenceShape PointSet
shape = record { find = as_shape; kind = entry.Shape; there = shape_there; value = values.Shape; said = shape_set; same = λ s. refl }

abbrev automaton : Kind hybrid.HybridAutomaton values.HybridAutomaton
automaton = record { find = as_hybrid; kind = entry.Hybrid; there = hybrid_there; value = values.Automaton; said = automaton_of; same = λ h. refl }

module _ (old new : Table) (text : List ℕ) (kept : AreKept old) where
  -- what the command does, where it is accepted, is what is said
  abbrev Sound : Command → Type 0
  Sound c = IsAccepted (meaning old c) old text new → Does c (named old) text (named new)

  -- ---- results
  -- an entry of a kind, where what a meaning makes is what is said
  makes : {A B : Type 0} (k : Kind A B) (out : List ℕ) (m : Meaning A) (Is : B → Type 0) → ((a : A) → IsKeptEntry (k.kind a) → Passes m.conditions → m.does a → Is (k.said a)) → IsAccepted (puts k.find out m) old text new → Makes k.value out Is (named old) text (named new)
  makes k out m Is gives h =
      let p = put_made k.find k.kind k.there out m.does old text new h.change h.does h.proper h.lines_are h.table in
      record { made = k.said p.made; is = gives p.made p.kept h.passes p.is; names = ap named p.table ∙ (named_put old out (k.kind p.made) ∙ ap (put (named old) out) (k.same p.made)); said = p.said }

  -- a reply, where what a meaning says is true
  asks : (m : Meaning (List ℕ)) (Is : List ℕ → Type 0) → (Passes m.conditions → m.does text → Is text) → IsAccepted (tells m) old text new → Asks Is (named old) text (named new)
  asks m Is gives h = (ap named (h.table ∙ said_table old m.does h.change h.does), gives h.passes (subst m.does (sym h.lines_are) (reply_is m.does h.change h.does)))

  -- each set that a run puts under a numbered name
  makes_each : (prefix : List ℕ) (Are : List Polyhedron → Type 0) (AreSaid : List PointSet → Type 0) (m : Meaning Change) → ((sets : List Polyhedron) → All IsProper sets → Are sets → AreSaid (map set_of sets)) → ((change : Change) → m.does change → AreAllPut prefix Are change) → IsAccepted m old text new → MakesEach prefix AreSaid (named old) text (named new)
  makes_each prefix Are AreSaid m gives does h =
      let p = put_each_made prefix Are old text new h.change (does h.change h.does) h.proper h.lines_are h.table in
      record {
        sets = map set_of p.sets;
        are = gives p.sets p.kept p.are;
        names = ap named p.table ∙ (named_put_each old (numbered_sets prefix 0 p.sets) ∙ ap (put_each (named old)) (named_numbered prefix 0 p.sets));
        said = p.said;
      }

  -- ---- operands
  -- nothing is accepted where a name isn't there
  no_put : {A B : Type 0} (k : Kind A B) (out : List ℕ) → ¬ (IsAccepted (puts k.find out unknown) old text new)
  no_put k out h = (put_made k.find k.kind k.there out (λ b. ⊥) old text new h.change h.does h.proper h.lines_are h.table).is

  no_tell : ¬ (IsAccepted (tells unknown) old text new)
  no_tell h = reply_is (λ t. ⊥) h.change h.does

  found_one : {A C : Type 0} (T : Meaning C → Meaning Change) → ¬ (IsAccepted (T unknown) old text new) → (m : A → Meaning C) (o : Option A) → IsAccepted (T (on_one o m)) old text new → Found o (λ a. IsAccepted (T (m a)) old text new)
  found_one T never m None h = absurd (never h)
  found_one T never m (Some a) h = record { value = a; there = refl; is = h }

  record FoundTwo {A B : Type 0} (o : Option A) (u : Option B) (Is : A → B → Type 0) : Type 0 where
    first : A
    second : B
    first_there : o ≡ Some first
    second_there : u ≡ Some second
    is : Is first second

  found_two : {A B C : Type 0} (T : Meaning C → Meaning Change) → ¬ (IsAccepted (T unknown) old text new) → (m : A → B → Meaning C) (o : Option A) (u : Option B) → IsAccepted (T (on_two o u m)) old text new → FoundTwo o u (λ a b. IsAccepted (T (m a b)) old text new)
  found_two T never m None u h = absurd (never h)
  found_two T never m (Some a) None h = absurd (never h)
  found_two T never m (Some a) (Some b) h = record { first = a; second = b; first_there = refl; second_there = refl; is = h }

  -- with what is under the name, and with what is under two
  of_one : {A B : Type 0} (k : Kind A B) (name : List ℕ) (C : A → Type 0) (Is : B → Act) → ((a : A) → IsKeptEntry (k.kind a) → C a → Is (k.said a) (named old) text (named new)) → Found (k.find (entry_of old name)) C → OfOne k.value name Is (named old) text (named new)
  of_one k name C Is gives f =
      let at = k.there (entry_of old name) f.value f.there in
      record { operand = k.said f.value; stands = stands old name (k.kind f.value) at ∙ ap Some (k.same f.value); is = gives f.value (kept_at old name (k.kind f.value) kept at) f.is }

  of_two : {A B : Type 0} (k : Kind A B) (one other : List ℕ) (C : A → A → Type 0) (Is : B → B → Act) → ((a b : A) → IsKeptEntry (k.kind a) → IsKeptEntry (k.kind b) → C a b → Is (k.said a) (k.said b) (named old) text (named new)) → FoundTwo (k.find (entry_of old one)) (k.find (entry_of old other)) C → OfTwo k.value one other Is (named old) text (named new)
  of_two k one other C Is gives f =
      let first = k.there (entry_of old one) f.first f.first_there in
      let second = k.there (entry_of old other) f.second f.second_there in
      record {
        first = k.said f.first;
        second = k.said f.second;
        first_stands = stands old one (k.kind f.first) first ∙ ap Some (k.same f.first);
        second_stands = stands old other (k.kind f.second) second ∙ ap Some (k.same f.second);
        is = gives f.first f.second (kept_at old one (k.kind f.first) kept first) (kept_at old other (k.kind f.second) kept second) f.is;
      }

  -- ---- families of commands
  -- one operand of a kind, and a result of a kind
  makes_of : {A B C D : Type 0} (k : Kind A B) (j : Kind C D) (name out : List ℕ) (m : A → Meaning C) (Is : B → D → Type 0) → ((a : A) (c : C) → IsKeptEntry (k.kind a) → IsKeptEntry (j.kind c) → Passes (m a).conditions → (m a).does c → Is (k.said a) (j.said c)) →
      IsAccepted (puts j.find out (on_one (k.find (entry_of old name)) m)) old text new → OfOne k.value name (λ x. Makes j.value out (Is x)) (named old) text (named new)
  makes_of k j name out m Is gives h =
      of_one k name (λ a. IsAccepted (puts j.find out (m a)) old text new) (λ x. Makes j.value out (Is x)) (λ a kept_a b. makes j out (m a) (Is (k.said a)) (λ c kept_c passes d. gives a c kept_a kept_c passes d) b)
      (found_one (puts j.find out) (no_put j out) m (k.find (entry_of old name)) h)

  -- two operands of a kind, and a result of a kind
  makes_of_two : {A B C D : Type 0} (k : Kind A B) (j : Kind C D) (one other out : List ℕ) (m : A → A → Meaning C) (Is : B → B → D → Type 0) → ((a b : A) (c : C) → IsKeptEntry (k.kind a) → IsKeptEntry (k.kind b) → IsKeptEntry (j.kind c) → Passes (m a b).conditions → (m a b).does c → Is (k.said a) (k.said b) (j.said c)) →
      IsAccepted (puts j.find out (on_two (k.find (entry_of old one)) (k.find (entry_of old other)) m)) old text new → OfTwo k.value one other (λ x y. Makes j.value out (Is x y)) (named old) text (named new)
  makes_of_two k j one other out m Is gives h =
      of_two k one other (λ a b. IsAccepted (puts j.find out (m a b)) old text new) (λ x y. Makes j.value out (Is x y)) (λ a b kept_a kept_b i. makes j out (m a b) (Is (k.said a) (k.said b)) (λ c kept_c passes d. gives a b c kept_a kept_b kept_c passes d) i)
      (found_two (puts j.find out) (no_put j out) m (k.find (entry_of old one)) (k.find (entry_of old other)) h)

  -- a question about one operand
  asks_of : {A B : Type 0} (k : Kind A B) (name : List ℕ) (m : A → Meaning (List ℕ)) (Is : B → List ℕ → Type 0) → ((a : A) → IsKeptEntry (k.kind a) → Passes (m a).conditions → (m a).does text → Is (k.said a) text) →
      IsAccepted (tells (on_one (k.find (entry_of old name)) m)) old text new → OfOne k.value name (λ x. Asks (Is x)) (named old) text (named new)
  asks_of k name m Is gives h =
      of_one k name (λ a. IsAccepted (tells (m a)) old text new) (λ x. Asks (Is x)) (λ a kept_a b. asks (m a) (Is (k.said a)) (λ passes d. gives a kept_a passes d) b)
      (found_one tells no_tell m (k.find (entry_of old name)) h)

  -- a question about two
  asks_of_two : {A B : Type 0} (k : Kind A B) (one other : List ℕ) (m : A → A → Meaning (List ℕ)) (Is : B → B → List ℕ → Type 0) → ((a b : A) → IsKeptEntry (k.kind a) → IsKeptEntry (k.kind b) → Passes (m a b).conditions → (m a b).does text → Is (k.said a) (k.said b) text) →
      IsAccepted (tells (on_two (k.find (entry_of old one)) (k.find (entry_of old other)) m)) old text new → OfTwo k.value one other (λ x y. Asks (Is x y)) (named old) text (named new)
  asks_of_two k one other m Is gives h =
      of_two k one other (λ a b. IsAccepted (tells (m a b)) old text new) (λ x y. Asks (Is x y)) (λ a b kept_a kept_b i. asks (m a b) (Is (k.said a) (k.said b)) (λ passes d. gives a b kept_a kept_b passes d) i)
      (found_two tells no_tell m (k.find (entry_of old one)) (k.find (entry_of old other)) h)

  -- what is under the name, with a polyhedron as one of its parts
  changes_of : {A B : Type 0} (k : Kind A B) (name p : List ℕ) (m : A → Polyhedron → Meaning A) (Is : B → PointSet → B → Type 0) → ((a : A) (q : Polyhedron) (c : A) → IsProper q → Passes (m a q).conditions → (m a q).does c → Is (k.said a) (set_of q) (k.said c)) →
      IsAccepted (on_one (k.find (entry_of old name)) (λ a. on_one (poly_of old p) (λ q. puts k.find name (m a q)))) old text new → OfOne k.value name (λ x. OfOne values.Polyhedron p (λ y. Makes k.value name (Is x y))) (named old) text (named new)
  changes_of k name p m Is gives h =
      of_one k name (λ a. IsAccepted (on_one (poly_of old p) (λ q. puts k.find name (m a q))) old text new) (λ x. OfOne values.Polyhedron p (λ y. Makes k.value name (Is x y)))
      (λ a kept_a i.
      of_one poly p (λ q. IsAccepted (puts k.find name (m a q)) old text new) (λ y. Makes k.value name (Is (k.said a) y)) (λ q proper b. makes k name (m a q) (Is (k.said a) (set_of q)) (λ c kept_c passes d. gives a q c proper passes d) b)
      (found_one (λ x. x) (λ i. absurd i.does) (λ q. puts k.find name (m a q)) (poly_of old p) i))
      (found_one (λ x. x) (λ i. absurd i.does) (λ a. on_one (poly_of old p) (λ q. puts k.find name (m a q))) (k.find (entry_of old name)) h)

  -- the sets of a run of what is under the name
  runs_of : {A B : Type 0} (k : Kind A B) (name prefix : List ℕ) (Are : A → List Polyhedron → Type 0) (AreSaid : B → List PointSet → Type 0) (m : A → Meaning Change) → ((a : A) (change : Change) → (m a).does change → AreAllPut prefix (Are a) change) → ((a : A) (sets : List Polyhedron) → IsKeptEntry (k.kind a) → All IsProper sets → Are a sets → AreSaid (k.said a) (map set_of sets)) →
      IsAccepted (on_one (k.find (entry_of old name)) m) old text new → OfOne k.value name (λ x. MakesEach prefix (AreSaid x)) (named old) text (named new)
  runs_of k name prefix Are AreSaid m does gives h =
      of_one k name (λ a. IsAccepted (m a) old text new) (λ x. MakesEach prefix (AreSaid x)) (λ a kept_a i. makes_each prefix (Are a) (AreSaid (k.said a)) (m a) (λ sets kept_sets r. gives a sets kept_a kept_sets r) (does a) i)
      (found_one (λ x. x) (λ i. absurd i.does) m (k.find (entry_of old name)) h)

  -- ---- names
  drops : (name : List ℕ) (o : Option Entry) → entry_of old name ≡ o → IsAccepted (drop_of name o) old text new → TakesOutOf name (named old) text (named new)
  drops name None there h = absurd h.does
  drops name (Some e) there h = taken_made name e old text new h.change there h.does h.lines_are h.table

  lists : text ≡ line (names_text old) → text ≡ names_line (length (named old)) (keys_of (named old))
  lists e = e ∙ (ap (λ (n : ℕ). names_line n (keys_of old)) (sym (named_length old)) ∙ ap (names_line (length (named old))) (sym (named_keys old)))

  does_nothing : Sound command.Nothing
  does_nothing h = asks (says []) (λ reply. reply ≡ []) (λ passes e. e) h

  does_drop : (name : List ℕ) → Sound (command.Drop name)
  does_drop name h = drops name (entry_of old name) refl h

  does_names : Sound command.Names
  does_names h =
      let a = asks (tell_names old) (λ reply. reply ≡ names_line (length (named old)) (keys_of (named old))) (λ passes d. lists d) h in
      record { same = a.0; said = a.1 }

  does_read : (out : List ℕ) (ext : Bool) → Sound (command.Read out ext)
  does_read out ext h = asks (says []) (λ reply. reply ≡ []) (λ passes e. e) h

  -- ---- each other command
  module _ (laws : Laws) where
    does_cons : (out : List ℕ) (top : Bool) (n : ℕ) (part : Part) → part.strict ≡ is_strict part.text → Sound (command.Cons out top n part)
    does_cons out top n part told h = makes poly out (makers.cons (has_no_room old out) (topology_of top) n part) (IsOfConstraints top n part.text) (λ r proper passes d. cons_made laws.texts top n part r proper (told, passes.1.1.1.1.1.1.1.1.0) d) h

    does_gens : (out : List ℕ) (top : Bool) (n : ℕ) (part : Part) → part.strict ≡ is_strict part.text → Sound (command.Gens out top n part)
    does_gens out top n part told h = makes poly out (makers.gens (has_no_room old out) (topology_of top) n part) (IsOfGenerators top n part.text) (λ r proper passes d. gens_made laws.texts top n part r proper (told, passes.1.1.1.1.1.1.1.1.0) d) h

    does_space : (space : Space) (out : List ℕ) (top : Bool) (n : ℕ) → Sound (command.Space space out top n)
    does_space space out top n h = makes poly out (makers.space_of space (has_no_room old out) (topology_of top) n) (IsSpace space top n) (λ r proper passes d. space_made space top n r proper d) h

    does_copy : (out p : List ℕ) → Sound (command.Copy out p)
    does_copy out p h = makes_of poly poly p out (makers.copy (has_no_room old out)) IsCopy (λ q r own fit passes d. copy_made q r own d) h

    does_add : (p : List ℕ) (part : Part) → part.strict ≡ is_strict part.text → Sound (command.Add p part)
    does_add p part told h = makes_of poly poly p p (makers.add part) (IsAdded part) (λ q r own fit passes d. add_made laws.texts part q r fit (told, passes.1.1.1.1.1.1.1.1.0) d) h

    does_addgen : (p : List ℕ) (part : Part) → part.strict ≡ is_strict part.text → Sound (command.Addgen p part)
    does_addgen p part told h = makes_of poly poly p p (makers.addgen part) (IsJoined part) (λ q r own fit passes d. addgen_made laws.texts part q r own fit (told, passes.1.1.1.1.1.1.1.1.0) (same_dims q own) (laws.poly.pair q own.kept) (laws.poly.empty q own.kept).1 d) h

    does_has : (p : List ℕ) (part : Part) → Sound (command.Has p part)
    does_has p part h = asks_of poly p (has part) (answers.TellsWhether part) (λ q own passes d. has_true laws.texts part q text d) h

    does_size : (p : List ℕ) → Sound (command.Size p)
    does_size p h = asks_of poly p size answers.TellsSize (λ q own passes d. size_true laws.poly q text own d) h

    does_print : (side : Bool) (p : List ℕ) → Sound (command.Print side p)
    does_print side p h = asks_of poly p (print side) (answers.TellsSystem side) (λ q own passes d. side_true laws.texts laws.poly side q text own d) h

    does_operator : (op : Operator) (out p q : List ℕ) → Sound (command.OfTwo op out p q)
    does_operator op out p q h = makes_of_two poly poly p q out (operators.operated op (has_no_room old out)) (IsOfTwo op) (λ x y r own_x own_y fit passes d. two_made op x y r fit (fit_operator op x y (room (has_no_room old out)) passes) d) h

    does_closure : (out p : List ℕ) → Sound (command.Closure out p)
    does_closure out p h = makes_of poly poly p out (closure (has_no_room old out)) IsClosure (λ q r own fit passes d. closure_made q r fit d) h

    does_compare : (by : Comparison) (p q : List ℕ) → Sound (command.Compare by p q)
    does_compare by p q h = asks_of_two poly p q (compared by) (answers.TellsHowTheyLie by) (λ x y own_x own_y passes d. (let alike = compared_alike by x y passes in record { operands = alike; tells = compared_true by x y text alike d })) h

    does_isempty : (p : List ℕ) → Sound (command.Isempty p)
    does_isempty p h = asks_of poly p isempty (λ x. answers.Tells (points.HasNoPoint x)) (λ q own passes d. told_so (HasNoPoint q) text d) h

    does_relation : (p : List ℕ) (part : Part) → Sound (command.Relation p part)
    does_relation p part h = asks_of poly p (relation part) (answers.TellsRelation part) (λ q own passes d. relation_true laws.texts part q text d) h

    does_bound : (extremum : Extremum) (p : List ℕ) (part : Part) → Sound (command.Bound extremum p part)
    does_bound extremum p part h = asks_of poly p (bound (is_max extremum) part) (answers.TellsExtreme extremum part) (λ q own passes d. extreme_true laws.texts laws.poly extremum part q text own d) h

    does_map : (by : Mapping) (out p : List ℕ) (v : ℕ) (rel : Rel) (part : Part) → Sound (command.Map by out p v rel part)
    does_map by out p v rel part h = makes_of poly poly p out (mapped_by by (has_no_room old out) v rel part) (IsMapped by v rel part) (λ q r own fit passes d. map_made laws.texts by v rel part q r fit d) h

    does_extend : (by : Extension) (out p : List ℕ) (n : ℕ) → Sound (command.Extend by out p n)
    does_extend by out p n h = makes_of poly poly p out (operators.extended by (has_no_room old out) n) (IsExtended by n) (λ q r own fit passes d. extension_made by n q r fit d) h

    does_remove : (out p vars : List ℕ) → Sound (command.Remove out p vars)
    does_remove out p vars h = makes_of poly poly p out (remove (has_no_room old out) vars) (IsRemoved vars) (λ q r own fit passes d. remove_made vars q r fit passes.1.1.1.1.1.0 d) h

    does_widen : (out p q : List ℕ) → Sound (command.Widen out p q)
    does_widen out p q h = makes_of_two poly poly p q out (widen (has_no_room old out)) IsWidening (λ x y r own_x own_y fit passes d. widen_made laws.poly x y r (room (has_no_room old out)) own_x own_y fit passes d) h

    does_write : (p : List ℕ) (ext : Bool) → Sound (command.Write p ext)
    does_write p ext h = asks_of poly p (write ext) (files.TellsFile ext) (λ q own passes d. file_true laws.poly ext q text own (one_topology q.topology Closed passes.1.1.0) d) h

    does_system : (out : List ℕ) (n locations : ℕ) → Sound (command.System out n locations)
    does_system out n locations h = makes system out (systems.system (has_no_room old out) n locations) (said_systems.IsEmptySystem n locations) (λ s kept_s passes d. system_made n locations s kept_s d) h

    does_init : (s : List ℕ) (location : ℕ) (p : List ℕ) → Sound (command.Init s location p)
    does_init s location p h = changes_of system s p (init_meaning location) (said_systems.IsWithInitial location) (λ x q r own passes d. init_made location x q r own passes d) h

    does_trans : (s : List ℕ) (source target : ℕ) (p : List ℕ) → Sound (command.Trans s source target p)
    does_trans s source target p h = changes_of system s p (trans_meaning source target) (said_systems.IsWithTransition source target) (λ x q r own passes d. trans_made source target x q r own passes d) h

    does_fixpoint : (s : List ℕ) (delay : ℕ) (prefix : List ℕ) → Sound (command.Fixpoint s delay prefix)
    does_fixpoint s delay prefix h = runs_of system s prefix (λ x. systems.AreReached x delay) said_systems.AreInvariant (systems.fixpoint old delay prefix) (λ x change d. d) (λ x sets kept_x kept_sets r. fixpoint_made x delay sets kept_x r) h

    does_pset : (out p : List ℕ) → Sound (command.Pset out p)
    does_pset out p h = makes_of poly union p out (powersets.pset (has_no_room old out)) unions.IsOfOne (λ q u own kept_u passes d. pset_made q u d) h

    does_combination : (op : PowersetOperator) (out s t : List ℕ) → Sound (command.OfTwoPowersets op out s t)
    does_combination op out s t h = makes_of_two union union s t out (powersets.of_two_powersets op (has_no_room old out)) (unions.IsCombined op) (λ x y u kept_x kept_y kept_u passes d. combined_made laws.unions op x y u (room (has_no_room old out)) kept_x kept_y kept_u passes d) h

    does_member : (out s : List ℕ) (i : ℕ) → Sound (command.Member out s i)
    does_member out s i h = makes_of union poly s out (powersets.member (has_no_room old out) i) (unions.IsMember i) (λ x r kept_x fit passes d. member_made i x r (room (has_no_room old out)) kept_x fit passes d) h

    does_psize : (s : List ℕ) → Sound (command.Psize s)
    does_psize s h = asks_of union s powersets.psize unions.TellsMembers (λ x kept_x passes d. psize_true x text d) h

    does_covers : (s t : List ℕ) → Sound (command.Covers s t)
    does_covers s t h = asks_of_two union s t powersets.covers unions.TellsCover (λ x y kept_x kept_y passes d. cover_true x y text no_fault passes d) h

    does_rank : (out r : List ℕ) → Sound (command.Rank out r)
    does_rank out r h = makes_of poly poly r out (rankings.rank (has_no_room old out)) unions.AreRankings (λ q s own fit passes d. rank_made q s (room (has_no_room old out)) fit passes d) h

    does_ranking : (r : List ℕ) → Sound (command.Ranking r)
    does_ranking r h = asks_of poly r rankings.ranking unions.TellsRanking (λ q own passes d. ranking_true laws.texts laws.ranking q text no_fault passes d) h

    does_shape : (out p : List ℕ) → Sound (command.ShapeOf out p)
    does_shape out p h = makes_of poly shape p out (shapes.shape (has_no_room old out)) IsSmallestShape (λ q s own kept_s passes d. shape_made q s (room (has_no_room old out)) kept_s passes d) h

    does_bounds : (out : List ℕ) (n : ℕ) (part : Part) → part.strict ≡ is_strict part.text → Sound (command.Bounds out n part)
    does_bounds out n part told h = makes shape out (shapes.bounds (has_no_room old out) n part) (IsOfBounds n part.text) (λ s kept_s passes d. bounds_made laws.texts n part s kept_s (told, passes.1.1.1.1.1.1.1.1.0) d) h

    does_of_shapes : (op : ShapeOperator) (out s t : List ℕ) → Sound (command.OfTwoShapes op out s t)
    does_of_shapes op out s t h = makes_of_two shape shape s t out (shapes.of_two_shapes op (has_no_room old out)) (IsOfTwoShapes op) (λ x y r kept_x kept_y kept_r passes d. shapes_made op x y r (room (has_no_room old out)) kept_x kept_y kept_r passes d) h

    does_scontains : (s t : List ℕ) → Sound (command.ShapeContains s t)
    does_scontains s t h = asks_of_two shape s t shapes.shape_contains (answers.TellsHowTheyLie comparison.Contains) (λ x y kept_x kept_y passes d. inclusion_true x y text no_fault kept_x kept_y passes d) h

    does_sprint : (s : List ℕ) → Sound (command.ShapePrint s)
    does_sprint s h = asks_of shape s shapes.shape_print answers.TellsConstraints (λ x kept_x passes d. sprint_true laws.texts laws.poly.cons x text kept_x d) h

    does_spoly : (out s : List ℕ) → Sound (command.ShapePoly out s)
    does_spoly out s h = makes_of shape poly s out (shapes.shape_poly (has_no_room old out)) IsCopy (λ x p kept_x fit passes d. spoly_made x p kept_x fit d) h

    does_hybrid : (out s : List ℕ) → Sound (command.Hybrid out s)
    does_hybrid out s h = makes_of system automaton s out (hybrids.hybrid (has_no_room old out)) said_systems.IsStill (λ x k kept_x kept_k passes d. still_made x k kept_k d) h

    does_part : (part : LocationPart) (name : List ℕ) (location : ℕ) (p : List ℕ) → Sound (command.SetPart part name location p)
    does_part part name location p h = changes_of automaton name p (part_meaning part location) (said_systems.IsWithPart part location) (λ x q r own passes d. part_made part location x q r own passes d) h

    does_reach : (k : List ℕ) (delay : ℕ) (prefix : List ℕ) → Sound (command.Reach k delay prefix)
    does_reach k delay prefix h = runs_of automaton k prefix (λ x. hybrids.AreReachedParts x delay) said_systems.AreReached (hybrids.reach old delay prefix) (λ x change d. d) (λ x sets kept_x kept_sets r. reach_made x delay sets kept_x kept_sets r) h

  -- ---- all commands
  pub accepted_does : Laws → (c : Command) → PartsTold c → Sound c
  accepted_does laws command.Nothing told h = does_nothing h
  accepted_does laws (command.Cons out top n part) told h = does_cons laws out top n part told h
  accepted_does laws (command.Gens out top n part) told h = does_gens laws out top n part told h
  accepted_does laws (command.Space space out top n) told h = does_space laws space out top n h
  accepted_does laws (command.Copy out p) told h = does_copy laws out p h
  accepted_does laws (command.Drop name) told h = does_drop name h
  accepted_does laws (command.Add p part) told h = does_add laws p part told h
  accepted_does laws (command.Addgen p part) told h = does_addgen laws p part told h
  accepted_does laws (command.Has p part) told h = does_has laws p part h
  accepted_does laws (command.Size p) told h = does_size laws p h
  accepted_does laws (command.Print side p) told h = does_print laws side p h
  accepted_does laws command.Names told h = does_names h
  accepted_does laws (command.OfTwo op out p q) told h = does_operator laws op out p q h
  accepted_does laws (command.Closure out p) told h = does_closure laws out p h
  accepted_does laws (command.Compare by p q) told h = does_compare laws by p q h
  accepted_does laws (command.Isempty p) told h = does_isempty laws p h
  accepted_does laws (command.Relation p part) told h = does_relation laws p part h
  accepted_does laws (command.Bound extremum p part) told h = does_bound laws extremum p part h
  accepted_does laws (command.Map by out p v rel part) told h = does_map laws by out p v rel part h
  accepted_does laws (command.Extend by out p n) told h = does_extend laws by out p n h
  accepted_does laws (command.Remove out p vars) told h = does_remove laws out p vars h
  accepted_does laws (command.Widen out p q) told h = does_widen laws out p q h
  accepted_does laws (command.Read out ext) told h = does_read out ext h
  accepted_does laws (command.Write p ext) told h = does_write laws p ext h
  accepted_does laws (command.System out n locations) told h = does_system laws out n locations h
  accepted_does laws (command.Init s location p) told h = does_init laws s location p h
  accepted_does laws (command.Trans s source target p) told h = does_trans laws s source target p h
  accepted_does laws (command.Fixpoint s delay prefix) told h = does_fixpoint laws s delay prefix h
  accepted_does laws (command.Pset out p) told h = does_pset laws out p h
  accepted_does laws (command.OfTwoPowersets op out s t) told h = does_combination laws op out s t h
  accepted_does laws (command.Member out s i) told h = does_member laws out s i h
  accepted_does laws (command.Psize s) told h = does_psize laws s h
  accepted_does laws (command.Covers s t) told h = does_covers laws s t h
  accepted_does laws (command.Rank out r) told h = does_rank laws out r h
  accepted_does laws (command.Ranking r) told h = does_ranking laws r h
  accepted_does laws (command.ShapeOf out p) told h = does_shape laws out p h
  accepted_does laws (command.Bounds out n part) told h = does_bounds laws out n part told h
  accepted_does laws (command.OfTwoShapes op out s t) told h = does_of_shapes laws op out s t h
  accepted_does laws (command.ShapeContains s t) told h = does_scontains laws s t h
  accepted_does laws (command.ShapePrint s) told h = does_sprint laws s h
  accepted_does laws (command.ShapePoly out s) told h = does_spoly laws out s h
  accepted_does laws (command.Hybrid out s) told h = does_hybrid laws out s h
  accepted_does laws (command.SetPart part name location p) told h = does_part laws part name location p h
  accepted_does laws (command.Reach k delay prefix) told h = does_reach laws k delay prefix h
