-- After a run the table has the entries and the names that the accepted commands give.
use Rattle.std.proofs.Common.{◌≡◌, ℕ, List, [], ◌∷◌, refl, ap, sym, ◌∙◌, subst, arith, Bool, true, false, cond}
use Rattle.std.specs.Prelude.{length, Option, None, Some, MatchBool, All}
use Rattle.std.specs.Str.{bytes_eq}
use Rattle.std.specs.Map.{keys_of}
use Rattle.std.proofs.lemmas.List.Elements.{All-append}
use Rattle.cons_sys.specs.Constraints.{Constraints, Satisfies}
use Rattle.stored_systems.proofs.ListLemmas.{All-left, All-right}
use Rattle.poly_pair.specs.declared.topology.Topology.TheVariants.{Closed}
use Rattle.poly_pair.specs.Polyhedra.{Polyhedron, IsOfConstraints}
use Rattle.trans_sys.specs.Systems.{with_initial, with_transition}
use Rattle.powerset.specs.Powersets.{IsPowersetOfOne}
use Rattle.script_text.specs.declared.command.Part.{Part}
use Rattle.script_text.specs.declared.command.Command.{Command}
use Rattle.script_text.specs.declared.command.Command.TheVariants.{Nothing, Cons, Gens, Space, Copy, Drop, Add, Addgen, Has, Size, Print, Names, OfTwo, Closure, Compare, Isempty, Relation, Bound, Map, Extend, Remove, Widen, Read, Write, System, Init, Trans, Fixpoint, Pset, OfTwoPowersets, Member, Psize, Covers, Rank, Ranking, ShapeOf, Bounds, OfTwoShapes, ShapeContains, ShapePrint, ShapePoly, Hybrid, SetPart, Reach}
use Rattle.calc_state.specs.declared.entry.Entry.{Entry}
use Rattle.calc_state.specs.declared.entry.Entry.TheVariants as entry
use Rattle.line_values.specs.declared.change.Change.TheVariants.{Says, Puts, PutsAll, TakesOut}
use Rattle.line_values.specs.Proper.{IsProper}
use Rattle.name_table.specs.Table.{entry_of, put, put_each, numbered, has_no_room, HasDistinctNames}
use Rattle.calc_state.specs.Table.{Table, as_poly, poly_of, as_system, system_of, as_powerset, powerset_of, as_shape, shape_of, as_hybrid, hybrid_of, numbered_sets, Change}
use Rattle.line_values.specs.Order.{Passes}
use Rattle.line_values.specs.Meaning.{Meaning, on_one, on_two, room, says}
use Rattle.line_values.specs.Effects.{IsReply, IsPutAs, AreAllPut, IsTakenOut, puts, tells, drop_of}
use Rattle.line_values.specs.Operands.{topology_of, is_max, format_of}
use Rattle.calc_state.specs.Meanings.{meaning}
use Rattle.poly_makers.specs.Makers.{more_constraints, IsSpace, copy, add, addgen, closure}
use Rattle.line_values.specs.Texts.{SaysConstraints, SaysGenerators}
use Rattle.poly_questions.specs.Questions.{names as tell_names, has, size, print}
use Rattle.poly_questions.specs.Optima.{relation, bound}
use Rattle.poly_questions.specs.Lattice.{compared, isempty}
use Rattle.poly_makers.specs.Operators.{Fits, operated, IsMadeBy, extended, IsExtended}
use Rattle.poly_makers.specs.Affine.{mapped_by, remove, IsRemoved, IsMappedBy}
use Rattle.poly_makers.specs.Results.{IsResultOfConstraints, IsResultOfGenerators, IsResultOfClosure}
use Rattle.poly_makers.specs.Widening.{widen}
use Rattle.fixpoint.specs.Commands.{IsEmptySystem, AreReached, fixpoint}
use Rattle.calc_state.specs.Parts.{init, trans, set_part, with_part}
use Rattle.powerset.specs.Commands.{pset, of_two_powersets, IsPowersetOf, member, psize, covers}
use Rattle.ranking.specs.Commands.{rank, ranking}
use Rattle.bd_shape.specs.Commands.{shape, IsShapeOfSet, IsShapeOfConstraints, of_two_shapes, IsShapeBy, shape_contains, shape_print, shape_poly, IsPolyOfShape}
use Rattle.hybrid.specs.Commands.{hybrid, IsStill, reach, AreReachedParts}
use Rattle.widening.proofs.Places.{all_at}
use Rattle.poly_questions.specs.Files.{write}
use Rattle.open_files.specs.OpenFiles.{OpenFile}
use Rattle.calc_state.specs.State.{State, closed}
use Rattle.calc_state.specs.Reading.{IsRead}
use Rattle.calc_state.specs.Step.{IsAccepted, PutsProper, after}
use Rattle.line_values.specs.Replies.{Reply}
use Rattle.calc_state.specs.Laws.{KeepsNamesDistinct}
use Rattle.file_poly.specs.Files.{IsOfFile}
use Rattle.calc_state.specs.Runs.{Run}
use Rattle.run_laws.specs.Acts.{Act, Did, Took, Accepted, acts}
use Rattle.run_laws.specs.Sets.{IsMadeAs, IsMade, IsCut, IsMadeOfOne, IsMadeOfTwo, IsChangedBy, IsReachedSet, IsAdded, IsJoined, IsOfFit, IsOfClosed, IsOfNested, IsMemberAt, IsRankedBy, AreAlikePowersets, HaveOneDim, sets, locations_of, is_numbered, with_numbered, GivesEntry, GivesFile, IsEntryOf, IsSetOf, with_name, less_name, names_of}
use Rattle.run_laws.specs.Laws.{IsUnder, AreAsCommanded}
use Rattle.run_laws.proofs.AcceptedRuns.{Steps, run_told}
use Rattle.run_laws.proofs.TableLaws.{entry_of-put, entry_of-without, distinct_keys, names-put, names-put_there, names-without}
use Rattle.run_laws.proofs.NumberedLaws.{AtNumber, entry_of-put_each, names-put_each, has_locations}
use Rattle.run_laws.proofs.OneSystem.{run_count, reach_count}
use Rattle.calc_state.proofs.EntryKinds.{IsKind, poly_there, system_there, powerset_there, shape_there, hybrid_there}
use Rattle.run_laws.proofs.EntryKinds.{put_made}
use Rattle.soundness.proofs.Operands.{one_topology, fit_operator}
use Rattle.run_laws.proofs.Operands.{are_alike_unions, have_one_dim, is_closed, is_closed_relation, is_even, is_counted, of_nested}
use Rattle.run_laws.proofs.OneForm.{OneForm}
use Rattle.run_laws.proofs.OneSet.{entry_kept, set_proper, one_entry}

-- what was found is such a one
abbrev pub Stands : {A : Type 0} → Option A → (A → Type 0) → Type 0
Stands None Is = Unit {0}
Stands (Some a) Is = Is a

-- and nothing is found exactly where there is no such one
abbrev pub StandsAlone : Option Entry → (Entry → Type 0) → Type 0
StandsAlone None Is = (e : Entry) → Is e → ⊥
StandsAlone (Some e) Is = Is e

-- the table has what the commands give
pub record Agrees (table : Table) (commands : List Act) : Type 0 where
  pub distinct : HasDistinctNames table
  pub sets : (name : List ℕ) → StandsAlone (entry_of table name) (IsEntryOf commands name)
  pub names : keys_of table ≡ names_of commands

-- the same, but for the distinct names, after one command more
record Follows (table : Table) (earlier : List Act) (act : Act) : Type 0 where
  sets : (name : List ℕ) → StandsAlone (entry_of table name) (IsEntryOf (act ∷ earlier) name)
  names : keys_of table ≡ names_of (act ∷ earlier)

-- ---- what is read under a name
stands_of : {A : Type 0} (o : Option A) (Is : A → Type 0) → ((a : A) → o ≡ Some a → Is a) → Stands o Is
stands_of None Is each = tt
stands_of (Some a) Is each = each a refl

is_alone : (o : Option Entry) (e : Entry) (E : Entry → Type 0) → o ≡ Some e → StandsAlone o E → E e
is_alone o e E f h = subst (λ (x : Option Entry). StandsAlone x E) f h

-- an entry of a kind
kind_at : {A : Type 0} (found : Option Entry → Option A) (kind : A → Entry) → IsKind found kind → (table : Table) (commands : List Act) → Agrees table commands → (name : List ℕ) → Stands (found (entry_of table name)) (λ a. IsEntryOf commands name (kind a))
kind_at {A} found kind there table commands agrees name =
    stands_of (found (entry_of table name)) (λ (a : A). IsEntryOf commands name (kind a)) (λ a f. is_alone (entry_of table name) (kind a) (IsEntryOf commands name) (there (entry_of table name) a f) (agrees.sets name))

pub poly_at : (table : Table) (commands : List Act) → Agrees table commands → (name : List ℕ) → Stands (poly_of table name) (IsSetOf commands name)
poly_at table commands agrees name = kind_at as_poly entry.Poly poly_there table commands agrees name

system_at : (table : Table) (commands : List Act) → Agrees table commands → (name : List ℕ) → Stands (system_of table name) (λ s. IsEntryOf commands name (entry.System s))
system_at table commands agrees name = kind_at as_system entry.System system_there table commands agrees name

pub powerset_at : (table : Table) (commands : List Act) → Agrees table commands → (name : List ℕ) → Stands (powerset_of table name) (λ u. IsEntryOf commands name (entry.Powerset u))
powerset_at table commands agrees name = kind_at as_powerset entry.Powerset powerset_there table commands agrees name

pub shape_at : (table : Table) (commands : List Act) → Agrees table commands → (name : List ℕ) → Stands (shape_of table name) (λ s. IsEntryOf commands name (entry.Shape s))
shape_at table commands agrees name = kind_at as_shape entry.Shape shape_there table commands agrees name

hybrid_at : (table : Table) (commands : List Act) → Agrees table commands → (name : List ℕ) → Stands (hybrid_of table name) (λ h. IsEntryOf commands name (entry.Hybrid h))
hybrid_at table commands agrees name = kind_at as_hybrid entry.Hybrid hybrid_there table commands agrees name

-- ---- what a change does to what is under the names
put_stands : (b : Bool) (e : Entry) (o : Option Entry) (M E : Entry → Type 0) → M e → StandsAlone o E → StandsAlone (cond b (Some e) o) (λ x. MatchBool b (M x) (E x))
put_stands true e o M E m h = m
put_stands false e o M E m h = h

taken_stands : (b : Bool) (o : Option Entry) (M E : Entry → Type 0) → ((e : Entry) → M e → ⊥) → StandsAlone o E → StandsAlone (cond b None o) (λ x. MatchBool b (M x) (E x))
taken_stands true o M E never h = never
taken_stands false o M E never h = h

said_table : (old : Table) (Is : List ℕ → Type 0) (change : Change) → IsReply Is change → after old change ≡ old
said_table old Is (Says text) h = refl
said_table old Is (Puts name e) h = absurd h
said_table old Is (PutsAll prefix xs) h = absurd h
said_table old Is (TakesOut name) h = absurd h

taken_change : (name : List ℕ) (change : Change) → IsTakenOut name change → change ≡ TakesOut name
taken_change name (TakesOut taken) h = ap TakesOut h
taken_change name (Says text) h = absurd h
taken_change name (Puts n e) h = absurd h
taken_change name (PutsAll prefix xs) h = absurd h

-- what is taken out is given by nothing
none_given : (out : List ℕ) (Had : List ℕ → Entry → Type 0) (name : List ℕ) (e : Entry) → GivesEntry (Drop out) Had name e → ⊥
none_given out Had name (entry.Poly p) h = h
none_given out Had name (entry.System s) h = h
none_given out Had name (entry.Powerset u) h = h
none_given out Had name (entry.Shape r) h = h
none_given out Had name (entry.Hybrid k) h = h

-- the polyhedra of a run are put under the numbered names
record IsPutEach (prefix : List ℕ) (Are : List Polyhedron → Type 0) (old : Table) (change : Change) : Type 0 where
  sets : List Polyhedron
  are : Are sets
  proper : All IsProper sets
  table : after old change ≡ put_each old (numbered_sets prefix 0 sets)

put_all : (prefix : List ℕ) (Are : List Polyhedron → Type 0) (old : Table) (change : Change) → AreAllPut prefix Are change → PutsProper change → IsPutEach prefix Are old change
put_all prefix Are old (PutsAll out xs) h proper = record { sets = xs.items; are = h.1; proper = proper; table = ap (λ (x : List ℕ). put_each old (numbered_sets x 0 xs.items)) h.0 }
put_all prefix Are old (Says text) h proper = absurd h
put_all prefix Are old (Puts name e) h proper = absurd h
put_all prefix Are old (TakesOut name) h proper = absurd h

numbered_stands : (b : Bool) (prefix name : List ℕ) (xs : List Polyhedron) (o u : Option Entry) (M E : Entry → Type 0) → ((k : AtNumber prefix 0 xs name o) → M (entry.Poly k.set)) → MatchBool b (AtNumber prefix 0 xs name o) (o ≡ u) → StandsAlone u E → StandsAlone o (λ x. MatchBool b (M x) (E x))
numbered_stands true prefix name xs o u M E gives k h = subst (λ (x : Option Entry). StandsAlone x M) (sym k.stands) (gives k)
numbered_stands false prefix name xs o u M E gives e h = subst (λ (x : Option Entry). StandsAlone x E) (sym e) h

-- the points of what there was at which the constraints hold as well
cut_of : (q : Polyhedron) (cs : Constraints) (r : Polyhedron) → IsOfConstraints q.topology (more_constraints q.cons cs) r → IsCut q cs r
cut_of q cs r h = record {
  over = h.over;
  points = λ v is. (
    λ x. (let all = (h.points v is).1 x in (All-left (Satisfies v) q.cons.list cs.list all, All-right (Satisfies v) q.cons.list cs.list all)),
    λ y. (h.points v is).0 (All-append (Satisfies v) q.cons.list cs.list y.0 y.1),
  );
}

added_of : (part : Part) (q r : Polyhedron) → SaysConstraints q.cons.dim part (λ cs. IsResultOfConstraints q.topology (more_constraints q.cons cs) r) → IsAdded part q r
added_of part q r h = record { system = h.system; read = h.read; holds = record { set = cut_of q h.system r h.holds.set; stored = h.holds.stored } }

-- ---- one accepted command more
module _ (old new : Table) (earlier : List Act) (text : List ℕ) (a : Agrees old earlier) where
  -- the command makes, changes or takes out what is under this name alone
  abbrev Owns : Command → List ℕ → Type 0
  Owns c out = (name : List ℕ) → sets earlier c name ≡ bytes_eq name out

  -- with an entry under the name the table has the names after the command
  abbrev IsNamed : Command → List ℕ → Type 0
  IsNamed c out = (e : Entry) → keys_of (put old out e) ≡ names_of (Did c ∷ earlier)

  new_name : (out : List ℕ) (e : Entry) → keys_of (put old out e) ≡ with_name out (names_of earlier)
  new_name out e = names-put old out e ∙ ap (with_name out) a.names

  kept_name : (out : List ℕ) (there : Entry) → entry_of old out ≡ Some there → (e : Entry) → keys_of (put old out e) ≡ names_of earlier
  kept_name out there f e = names-put_there old out e there f ∙ a.names

  -- an entry is put under the name of a command
  entry_follows : (c : Command) (out : List ℕ) (e : Entry) → new ≡ put old out e → Owns c out → ((name : List ℕ) → GivesEntry c (IsEntryOf earlier) name e) → keys_of (put old out e) ≡ names_of (Did c ∷ earlier) → Follows new earlier (Did c)
  entry_follows c out e now own gives names = subst (λ (t : Table). Follows t earlier (Did c)) (sym now) (record { sets = entries; names = names })
    where
      entries : (name : List ℕ) → StandsAlone (entry_of (put old out e) name) (IsEntryOf (Did c ∷ earlier) name)
      entries name =
          subst (λ (b : Bool). StandsAlone (entry_of (put old out e) name) (λ x. MatchBool b (GivesEntry c (IsEntryOf earlier) name x) (IsEntryOf earlier name x))) (sym (own name))
          (subst (λ (o : Option Entry). StandsAlone o (λ x. MatchBool (bytes_eq name out) (GivesEntry c (IsEntryOf earlier) name x) (IsEntryOf earlier name x))) (sym (entry_of-put old out name e))
          (put_stands (bytes_eq name out) e (entry_of old name) (GivesEntry c (IsEntryOf earlier) name) (IsEntryOf earlier name) (gives name) (a.sets name)))

  -- a command that puts an entry of a kind under its name
  put_follows : {A : Type 0} (found : Option Entry → Option A) (kind : A → Entry) → IsKind found kind → (c : Command) (out : List ℕ) (Is : A → Type 0) (change : Change) → IsPutAs found out Is change → PutsProper change → new ≡ after old change → Owns c out →
      ((name : List ℕ) (r : A) → IsMadeAs kind Is r → GivesEntry c (IsEntryOf earlier) name (kind r)) → IsNamed c out → Follows new earlier (Did c)
  put_follows found kind there c out Is change does proper table own gives names =
      let p = put_made found kind there out Is change does proper in
      entry_follows c out (kind p.made) (table ∙ ap (after old) p.change_is) own (λ name. gives name p.made p.is) (names (kind p.made))

  -- that makes it of one operand
  one_follows : {A B : Type 0} (kind : A → Entry) (found : Option Entry → Option B) (into : B → Entry) → IsKind found into → (c : Command) (out name : List ℕ) (m : A → Meaning B) (Is : A → B → Type 0) (o : Option A) → Stands o (λ x. IsEntryOf earlier name (kind x)) → Owns c out →
      ((n : List ℕ) (r : B) → IsMadeOfOne kind into (IsEntryOf earlier name) Is r → GivesEntry c (IsEntryOf earlier) n (into r)) → ((x : A) → o ≡ Some x → IsNamed c out) → ((x : A) (r : B) → Passes (m x).conditions → (m x).does r → Is x r) →
      IsAccepted (puts found out (on_one o m)) old text new → Follows new earlier (Did c)
  one_follows kind found into there c out name m Is None s own gives names made p = absurd (put_made found into there out (on_one None m).does p.change p.does p.proper).is.is
  one_follows kind found into there c out name m Is (Some x) s own gives names made p =
      let q = put_made found into there out (m x).does p.change p.does p.proper in
      entry_follows c out (into q.made) (p.table ∙ ap (after old) q.change_is) own (λ n. gives n q.made (record { operand = x; was = s; made = record { kept = q.is.kept; is = made x q.made p.passes q.is.is } })) (names x refl (into q.made))

  -- of two operands
  two_follows : {A B : Type 0} (kind : A → Entry) (found : Option Entry → Option B) (into : B → Entry) → IsKind found into → (c : Command) (out name other : List ℕ) (m : A → A → Meaning B) (Is : A → A → B → Type 0) (o u : Option A) →
      Stands o (λ x. IsEntryOf earlier name (kind x)) → Stands u (λ x. IsEntryOf earlier other (kind x)) → Owns c out → ((n : List ℕ) (r : B) → IsMadeOfTwo kind into (IsEntryOf earlier name) (IsEntryOf earlier other) Is r → GivesEntry c (IsEntryOf earlier) n (into r)) → IsNamed c out →
      ((x y : A) (r : B) → Passes (m x y).conditions → (m x y).does r → Is x y r) → IsAccepted (puts found out (on_two o u m)) old text new → Follows new earlier (Did c)
  two_follows kind found into there c out name other m Is None u s t own gives names made p = absurd (put_made found into there out (on_two None u m).does p.change p.does p.proper).is.is
  two_follows kind found into there c out name other m Is (Some x) None s t own gives names made p = absurd (put_made found into there out (on_two (Some x) None m).does p.change p.does p.proper).is.is
  two_follows kind found into there c out name other m Is (Some x) (Some y) s t own gives names made p =
      let q = put_made found into there out (m x y).does p.change p.does p.proper in
      entry_follows c out (into q.made) (p.table ∙ ap (after old) q.change_is) own (λ n. gives n q.made (record { first = x; second = y; was_first = s; was_second = t; made = record { kept = q.is.kept; is = made x y q.made p.passes q.is.is } })) (names (into q.made))

  -- that changes what is under its name by a closed polyhedron
  changed_follows : {A : Type 0} (found : Option Entry → Option A) (kind : A → Entry) → IsKind found kind → (c : Command) (out other : List ℕ) (m : A → Polyhedron → Meaning Change) (changed : A → Polyhedron → A) (u : Option A) (o : Option Polyhedron) → found (entry_of old out) ≡ u →
      Stands u (λ x. IsEntryOf earlier out (kind x)) → Stands o (IsSetOf earlier other) → Owns c out → ((n : List ℕ) (r : A) → IsChangedBy kind (IsEntryOf earlier out) (IsEntryOf earlier other) changed r → GivesEntry c (IsEntryOf earlier) n (kind r)) → names_of (Did c ∷ earlier) ≡ names_of earlier →
      ((x : A) (q : Polyhedron) → Passes (m x q).conditions → q.topology ≡ Closed) → ((x : A) (q : Polyhedron) (change : Change) → (m x q).does change → IsPutAs found out (λ r. r ≡ changed x q) change) → IsAccepted (on_one u (λ x. on_one o (m x))) old text new → Follows new earlier (Did c)
  changed_follows found kind there c out other m changed None o e s t own gives names closed puts p = absurd p.does
  changed_follows found kind there c out other m changed (Some x) None e s t own gives names closed puts p = absurd p.does
  changed_follows {A} found kind there c out other m changed (Some x) (Some q) e s t own gives names closed puts p =
      put_follows found kind there c out (λ (r : A). r ≡ changed x q) p.change (puts x q p.change p.does) p.proper p.table own (λ n r made. gives n r (record { old = x; part = q; was = s; was_part = t; closed = closed x q p.passes; made = made }))
      (λ entry. kept_name out (kind x) (there (entry_of old out) x e) entry ∙ sym names)

  -- that only says something
  said_follows : (c : Command) (m : Meaning (List ℕ)) → IsAccepted (tells m) old text new → ((name : List ℕ) → sets earlier c name ≡ false) → names_of (Did c ∷ earlier) ≡ names_of earlier → Follows new earlier (Did c)
  said_follows c m p own names =
      subst (λ (t : Table). Follows t earlier (Did c)) (sym (p.table ∙ said_table old m.does p.change p.does)) (record {
        sets = λ name. subst (λ (b : Bool). StandsAlone (entry_of old name) (λ x. MatchBool b (GivesEntry c (IsEntryOf earlier) name x) (IsEntryOf earlier name x))) (sym (own name)) (a.sets name);
        names = a.names ∙ sym names;
      })

  -- that takes a name out
  drop_follows : (out : List ℕ) (o : Option Entry) → IsAccepted (drop_of out o) old text new → Follows new earlier (Did (Drop out))
  drop_follows out None p = absurd p.does
  drop_follows out (Some e) p =
      let distinct = distinct_keys old a.distinct in
      subst (λ (t : Table). Follows t earlier (Did (Drop out))) (sym (p.table ∙ ap (after old) (taken_change out p.change p.does))) (record {
        sets = λ name. subst (λ (o : Option Entry). StandsAlone o (λ x. MatchBool (bytes_eq name out) (GivesEntry (Drop out) (IsEntryOf earlier) name x) (IsEntryOf earlier name x))) (sym (entry_of-without old out name distinct))
            (taken_stands (bytes_eq name out) (entry_of old name) (GivesEntry (Drop out) (IsEntryOf earlier) name) (IsEntryOf earlier name) (none_given out (IsEntryOf earlier) name) (a.sets name));
        names = names-without old out distinct ∙ ap (less_name out) a.names;
      })

  -- that puts a polyhedron for each location under the numbered names
  run_follows : {A : Type 0} (kind : A → Entry) (c : Command) (name prefix : List ℕ) (m : A → Meaning Change) (Are : A → List Polyhedron → Type 0) (o : Option A) → Stands o (λ x. IsEntryOf earlier name (kind x)) → ((n : List ℕ) → sets earlier c n ≡ is_numbered prefix 0 (locations_of earlier name) n) →
      ((n : List ℕ) (p : Polyhedron) → IsReachedSet kind (IsEntryOf earlier name) Are prefix n p → GivesEntry c (IsEntryOf earlier) n (entry.Poly p)) → names_of (Did c ∷ earlier) ≡ with_numbered prefix 0 (locations_of earlier name) (names_of earlier) →
      ((x : A) (xs : List Polyhedron) → IsEntryOf earlier name (kind x) → Are x xs → length xs ≡ locations_of earlier name) → ((x : A) (change : Change) → (m x).does change → AreAllPut prefix (Are x) change) → IsAccepted (on_one o m) old text new → Follows new earlier (Did c)
  run_follows kind c name prefix m Are None was own gives names count puts p = absurd p.does
  run_follows kind c name prefix m Are (Some found) was own gives names count puts p =
      subst (λ (t : Table). Follows t earlier (Did c)) (sym (p.table ∙ put.table)) (record {
        sets = entries;
        names = names-put_each put.sets old prefix 0 ∙ ap (λ (n : ℕ). with_numbered prefix 0 n (keys_of old)) as_many ∙ ap (with_numbered prefix 0 (locations_of earlier name)) a.names ∙ sym names;
      })
    where
      put : IsPutEach prefix (Are found) old p.change
      put = put_all prefix (Are found) old p.change (puts found p.change p.does) p.proper

      as_many : length put.sets ≡ locations_of earlier name
      as_many = count found put.sets was put.are

      Given : List ℕ → Entry → Type 0
      Given n e = GivesEntry c (IsEntryOf earlier) n e

      after_run : Table
      after_run = put_each old (numbered_sets prefix 0 put.sets)

      reached : (n : List ℕ) → (k : AtNumber prefix 0 put.sets n (entry_of after_run n)) → Given n (entry.Poly k.set)
      reached n k =
          gives n k.set (record { proper = all_at IsProper put.sets k.number k.set put.proper k.there; system = found; was = was; sets = put.sets; reached = put.are; location = k.number; there = k.there; name_is = k.name_is ∙ ap (numbered prefix) (omega arith) })

      entries : (n : List ℕ) → StandsAlone (entry_of after_run n) (IsEntryOf (Did c ∷ earlier) n)
      entries n =
          subst (λ (b : Bool). StandsAlone (entry_of after_run n) (λ x. MatchBool b (Given n x) (IsEntryOf earlier n x))) (ap (λ (i : ℕ). is_numbered prefix 0 i n) as_many ∙ sym (own n))
          (numbered_stands (is_numbered prefix 0 (length put.sets) n) prefix n put.sets (entry_of after_run n) (entry_of old n) (Given n) (IsEntryOf earlier n) (reached n) (entry_of-put_each put.sets old prefix 0 n) (a.sets n))

  -- a polyhedron of one
  poly_follows : (c : Command) (out name : List ℕ) (m : Polyhedron → Meaning Polyhedron) (Is : Polyhedron → Polyhedron → Type 0) → Owns c out → ((n : List ℕ) (r : Polyhedron) → IsMadeOfOne entry.Poly entry.Poly (IsEntryOf earlier name) Is r → GivesEntry c (IsEntryOf earlier) n (entry.Poly r)) → IsNamed c out →
      ((x r : Polyhedron) → Passes (m x).conditions → (m x).does r → Is x r) → IsAccepted (puts as_poly out (on_one (poly_of old name) m)) old text new → Follows new earlier (Did c)
  poly_follows c out name m Is own gives names made p = one_follows entry.Poly as_poly entry.Poly poly_there c out name m Is (poly_of old name) (poly_at old earlier a name) own gives (λ x e. names) made p

  -- what an accepted command leaves is what the commands give
  accepted_follows : (c : Command) → IsAccepted (meaning old c) old text new → Follows new earlier (Did c)
  accepted_follows Nothing p = said_follows Nothing (says []) p (λ n. refl) refl
  accepted_follows (Cons out top n part) p =
      put_follows as_poly entry.Poly poly_there (Cons out top n part) out (λ r. SaysConstraints n part (λ cs. IsResultOfConstraints (topology_of top) cs r)) p.change p.does p.proper p.table (λ name. refl) (λ name r is. is) (new_name out)
  accepted_follows (Gens out top n part) p =
      put_follows as_poly entry.Poly poly_there (Gens out top n part) out (λ r. SaysGenerators n part (λ gs. IsResultOfGenerators (topology_of top) gs r)) p.change p.does p.proper p.table (λ name. refl) (λ name r is. is) (new_name out)
  accepted_follows (Space space out top n) p = put_follows as_poly entry.Poly poly_there (Space space out top n) out (IsSpace space (topology_of top) n) p.change p.does p.proper p.table (λ name. refl) (λ name r is. is) (new_name out)
  accepted_follows (Copy out other) p =
      poly_follows (Copy out other) out other (copy (has_no_room old out)) (λ q r. r ≡ q) (λ n. refl) (λ n r h. subst (λ (x : Polyhedron). IsEntryOf earlier other (entry.Poly x)) (sym h.made.is) h.was) (new_name out) (λ x r passes is. is) p
  accepted_follows (Drop out) p = drop_follows out (entry_of old out) p
  accepted_follows (Add out part) p =
      one_follows entry.Poly as_poly entry.Poly poly_there (Add out part) out out (add part) (IsAdded part) (poly_of old out) (poly_at old earlier a out) (λ n. refl) (λ n r h. h) (λ x e. kept_name out (entry.Poly x) (poly_there (entry_of old out) x e))
      (λ x r passes is. added_of part x r is) p
  accepted_follows (Addgen out part) p =
      one_follows entry.Poly as_poly entry.Poly poly_there (Addgen out part) out out (addgen part) (IsJoined part) (poly_of old out) (poly_at old earlier a out) (λ n. refl) (λ n r h. h) (λ x e. kept_name out (entry.Poly x) (poly_there (entry_of old out) x e)) (λ x r passes is. is) p
  accepted_follows (Has name part) p = said_follows (Has name part) (on_one (poly_of old name) (has part)) p (λ n. refl) refl
  accepted_follows (Size name) p = said_follows (Size name) (on_one (poly_of old name) size) p (λ n. refl) refl
  accepted_follows (Print side name) p = said_follows (Print side name) (on_one (poly_of old name) (print side)) p (λ n. refl) refl
  accepted_follows Names p = said_follows Names (tell_names old) p (λ n. refl) refl
  accepted_follows (OfTwo op out one other) p =
      two_follows entry.Poly as_poly entry.Poly poly_there (OfTwo op out one other) out one other (operated op (has_no_room old out)) (IsOfFit (Fits op) (IsMadeBy op)) (poly_of old one) (poly_of old other) (poly_at old earlier a one) (poly_at old earlier a other) (λ n. refl) (λ n r h. h) (new_name out)
      (λ x y r passes is. record { fit = fit_operator op x y (room (has_no_room old out)) passes; is = is }) p
  accepted_follows (Closure out other) p = poly_follows (Closure out other) out other (closure (has_no_room old out)) IsResultOfClosure (λ n. refl) (λ n r h. h) (new_name out) (λ x r passes is. is) p
  accepted_follows (Compare by one other) p = said_follows (Compare by one other) (on_two (poly_of old one) (poly_of old other) (compared by)) p (λ n. refl) refl
  accepted_follows (Isempty name) p = said_follows (Isempty name) (on_one (poly_of old name) isempty) p (λ n. refl) refl
  accepted_follows (Relation name part) p = said_follows (Relation name part) (on_one (poly_of old name) (relation part)) p (λ n. refl) refl
  accepted_follows (Bound extremum name part) p = said_follows (Bound extremum name part) (on_one (poly_of old name) (bound (is_max extremum) part)) p (λ n. refl) refl
  accepted_follows (Map by out other v rel part) p = poly_follows (Map by out other v rel part) out other (mapped_by by (has_no_room old out) v rel part) (IsMappedBy by v rel part) (λ n. refl) (λ n r h. h) (new_name out) (λ x r passes is. is) p
  accepted_follows (Extend by out other n) p = poly_follows (Extend by out other n) out other (extended by (has_no_room old out) n) (IsExtended by n) (λ i. refl) (λ i r h. h) (new_name out) (λ x r passes is. is) p
  accepted_follows (Remove out other vars) p = poly_follows (Remove out other vars) out other (remove (has_no_room old out) vars) (IsRemoved vars) (λ n. refl) (λ n r h. h) (new_name out) (λ x r passes is. is) p
  accepted_follows (Widen out one other) p =
      two_follows entry.Poly as_poly entry.Poly poly_there (Widen out one other) out one other (widen (has_no_room old out)) IsOfNested (poly_of old one) (poly_of old other) (poly_at old earlier a one) (poly_at old earlier a other) (λ n. refl) (λ n r h. h) (new_name out)
      (λ x y r passes is. of_nested x y r (room (has_no_room old out)) passes is) p
  accepted_follows (Read out form) p = said_follows (Read out form) (says []) p (λ n. refl) refl
  accepted_follows (Write name form) p = said_follows (Write name form) (on_one (poly_of old name) (write form)) p (λ n. refl) refl
  accepted_follows (System out n locations) p = put_follows as_system entry.System system_there (System out n locations) out (IsEmptySystem n locations) p.change p.does p.proper p.table (λ name. refl) (λ name s is. is) (new_name out)
  accepted_follows (Init out location other) p =
      changed_follows as_system entry.System system_there (Init out location other) out other (init out location) (λ x q. with_initial x location q) (system_of old out) (poly_of old other) refl (system_at old earlier a out) (poly_at old earlier a other) (λ n. refl) (λ n r h. h) refl
      (λ x q passes. one_topology q.topology Closed passes.1.1.0) (λ x q change does. does) p
  accepted_follows (Trans out source target other) p =
      changed_follows as_system entry.System system_there (Trans out source target other) out other (trans out source target) (λ x q. with_transition x (record { source = source; target = target; relation = q })) (system_of old out) (poly_of old other) refl (system_at old earlier a out) (poly_at old earlier a other) (λ n. refl)
      (λ n r h. h) refl (λ x q passes. one_topology q.topology Closed passes.1.1.0) (λ x q change does. does) p
  accepted_follows (Fixpoint s delay prefix) p =
      run_follows entry.System (Fixpoint s delay prefix) s prefix (fixpoint old delay prefix) (λ x xs. AreReached x delay xs) (system_of old s) (system_at old earlier a s) (λ n. refl) (λ n q h. h) refl
      (λ x xs was are. run_count x delay xs are ∙ sym (has_locations earlier s (entry.System x) was)) (λ x change does. does) p
  accepted_follows (Pset out other) p =
      one_follows entry.Poly as_powerset entry.Powerset powerset_there (Pset out other) out other (pset (has_no_room old out)) IsPowersetOfOne (poly_of old other) (poly_at old earlier a other) (λ n. refl) (λ n r h. h) (λ x e. new_name out) (λ x r passes is. is) p
  accepted_follows (OfTwoPowersets op out one other) p =
      two_follows entry.Powerset as_powerset entry.Powerset powerset_there (OfTwoPowersets op out one other) out one other (of_two_powersets op (has_no_room old out)) (IsOfFit AreAlikePowersets (IsPowersetOf op)) (powerset_of old one) (powerset_of old other) (powerset_at old earlier a one) (powerset_at old earlier a other)
      (λ n. refl) (λ n r h. h) (new_name out) (λ x y r passes is. record { fit = are_alike_unions x y (room (has_no_room old out)) passes; is = is }) p
  accepted_follows (Member out s i) p =
      one_follows entry.Powerset as_poly entry.Poly poly_there (Member out s i) out s (member (has_no_room old out) i) (IsMemberAt i) (powerset_of old s) (powerset_at old earlier a s) (λ n. refl) (λ n r h. h) (λ x e. new_name out)
      (λ x r passes is. (is_counted (length x.members) i (room (has_no_room old out)) passes, is)) p
  accepted_follows (Psize name) p = said_follows (Psize name) (on_one (powerset_of old name) psize) p (λ n. refl) refl
  accepted_follows (Covers one other) p = said_follows (Covers one other) (on_two (powerset_of old one) (powerset_of old other) covers) p (λ n. refl) refl
  accepted_follows (Rank out r) p =
      poly_follows (Rank out r) out r (rank (has_no_room old out)) (IsOfClosed IsRankedBy) (λ n. refl) (λ n q h. h) (new_name out)
      (λ x q passes is. record { closed = is_closed_relation x (room (has_no_room old out)) passes; is = (is_even x (room (has_no_room old out)) passes, is) }) p
  accepted_follows (Ranking name) p = said_follows (Ranking name) (on_one (poly_of old name) ranking) p (λ n. refl) refl
  accepted_follows (ShapeOf out other) p =
      one_follows entry.Poly as_shape entry.Shape shape_there (ShapeOf out other) out other (shape (has_no_room old out)) (IsOfClosed IsShapeOfSet) (poly_of old other) (poly_at old earlier a other) (λ n. refl) (λ n r h. h) (λ x e. new_name out)
      (λ x r passes is. record { closed = is_closed x (room (has_no_room old out)) passes; is = is }) p
  accepted_follows (Bounds out n part) p =
      put_follows as_shape entry.Shape shape_there (Bounds out n part) out (λ s. SaysConstraints n part (λ cs. IsShapeOfConstraints cs s)) p.change p.does p.proper p.table (λ name. refl) (λ name r is. is) (new_name out)
  accepted_follows (OfTwoShapes op out one other) p =
      two_follows entry.Shape as_shape entry.Shape shape_there (OfTwoShapes op out one other) out one other (of_two_shapes op (has_no_room old out)) (IsOfFit HaveOneDim (IsShapeBy op)) (shape_of old one) (shape_of old other) (shape_at old earlier a one) (shape_at old earlier a other) (λ n. refl) (λ n r h. h) (new_name out)
      (λ x y r passes is. record { fit = have_one_dim x y (room (has_no_room old out)) passes; is = is }) p
  accepted_follows (ShapeContains one other) p = said_follows (ShapeContains one other) (on_two (shape_of old one) (shape_of old other) shape_contains) p (λ n. refl) refl
  accepted_follows (ShapePrint name) p = said_follows (ShapePrint name) (on_one (shape_of old name) shape_print) p (λ n. refl) refl
  accepted_follows (ShapePoly out s) p =
      one_follows entry.Shape as_poly entry.Poly poly_there (ShapePoly out s) out s (shape_poly (has_no_room old out)) IsPolyOfShape (shape_of old s) (shape_at old earlier a s) (λ n. refl) (λ n r h. h) (λ x e. new_name out) (λ x r passes is. is) p
  accepted_follows (Hybrid out s) p =
      one_follows entry.System as_hybrid entry.Hybrid hybrid_there (Hybrid out s) out s (hybrid (has_no_room old out)) IsStill (system_of old s) (system_at old earlier a s) (λ n. refl) (λ n r h. h) (λ x e. new_name out) (λ x r passes is. is) p
  accepted_follows (SetPart part out location other) p =
      changed_follows as_hybrid entry.Hybrid hybrid_there (SetPart part out location other) out other (set_part part out location) (λ x q. with_part part x location q) (hybrid_of old out) (poly_of old other) refl (hybrid_at old earlier a out) (poly_at old earlier a other) (λ n. refl) (λ n r h. h) refl
      (λ x q passes. one_topology q.topology Closed passes.1.1.0) (λ x q change does. does) p
  accepted_follows (Reach h delay prefix) p =
      run_follows entry.Hybrid (Reach h delay prefix) h prefix (reach old delay prefix) (λ x xs. AreReachedParts x delay xs) (hybrid_of old h) (hybrid_at old earlier a h) (λ n. refl) (λ n q i. i) refl
      (λ x xs was are. reach_count x delay xs (entry_kept earlier h (entry.Hybrid x) was) are.reached ∙ sym (has_locations earlier h (entry.Hybrid x) was)) (λ x change does. does) p

  -- a file that was read
  read_follows : (file : OpenFile) → IsRead old file text new → Follows new earlier (Took file)
  read_follows file p =
      let made : IsMade (IsOfFile (format_of file.ext) file.text) p.polyhedron = record { kept = p.proper; is = p.set } in
      subst (λ (t : Table). Follows t earlier (Took file)) (sym p.table) (record {
        sets = λ name. subst (λ (o : Option Entry). StandsAlone o (λ x. MatchBool (bytes_eq name file.name) (GivesFile file x) (IsEntryOf earlier name x))) (sym (entry_of-put old file.name name (entry.Poly p.polyhedron)))
            (put_stands (bytes_eq name file.name) (entry.Poly p.polyhedron) (entry_of old name) (GivesFile file) (IsEntryOf earlier name) made (a.sets name));
        names = new_name file.name (entry.Poly p.polyhedron);
      })

-- ---- runs
-- the table before the first line
pub nothing_agrees : HasDistinctNames {E = Entry} [] → Agrees [] []
nothing_agrees distinct = record { distinct = distinct; sets = λ name e h. h; names = refl }

pub agrees_command : (old new : Table) (earlier : List Act) (c : Command) (text : List ℕ) → Agrees old earlier → HasDistinctNames new → IsAccepted (meaning old c) old text new → Agrees new (Did c ∷ earlier)
agrees_command old new earlier c text g distinct p = (let f = accepted_follows old new earlier text g c p in record { distinct = distinct; sets = f.sets; names = f.names })

pub agrees_file : (old new : Table) (earlier : List Act) (file : OpenFile) (text : List ℕ) → Agrees old earlier → HasDistinctNames new → IsRead old file text new → Agrees new (Took file ∷ earlier)
agrees_file old new earlier file text g distinct p = (let f = read_follows old new earlier text g file p in record { distinct = distinct; sets = f.sets; names = f.names })

abbrev pub AgreesAll : Table → List Accepted → Type 0
AgreesAll table all = Agrees table (acts all)

agreeing : Steps AgreesAll
agreeing = record {
  command = λ old new earlier c text g distinct p. agrees_command old new (acts earlier) c text g distinct p;
  file = λ old new earlier file text g distinct p. agrees_file old new (acts earlier) file text g distinct p;
}

-- what stands under a name, where such a one is given
there_of : (table : Table) (all : List Act) (name : List ℕ) (e : Entry) (o : Option Entry) → OneForm → entry_of table name ≡ o → StandsAlone o (IsEntryOf all name) → IsEntryOf all name e → IsUnder table name e
there_of table all name e None laws f s h = absurd (s e h)
there_of table all name e (Some kept) laws f s h = record { kept = kept; there = f; same = one_entry laws all name e kept h s }

-- the table has under each name what was accepted gives it
pub as_commanded : KeepsNamesDistinct → HasDistinctNames {E = Entry} [] → OneForm → (lines : List (List ℕ)) (replies : List Reply) (new : State) → Run (closed []) lines replies new → AreAsCommanded lines replies new.names
as_commanded keeps empty laws lines replies new run =
    let t = run_told AgreesAll keeps agreeing (closed []) [] lines replies new empty (nothing_agrees empty) run in
    let given : (name : List ℕ) (e : Entry) → entry_of new.names name ≡ Some e → IsEntryOf (acts t.all) name e = λ name e f. subst (λ (o : Option Entry). StandsAlone o (IsEntryOf (acts t.all) name)) f (t.holds.sets name) in
    record {
      all = t.all;
      accepted = t.accepted;
      given = given;
      there = λ name e h. there_of new.names (acts t.all) name e (entry_of new.names name) laws refl (t.holds.sets name) h;
      pairs = λ name p f. laws.pair p (set_proper (acts t.all) name p (given name (entry.Poly p) (poly_there (entry_of new.names name) p f))).kept;
      names = t.holds.names;
    }
