-- In each run the answers are true of the entries that accepted commands and files give.
use Rattle.std.proofs.Common.{◌≡◌, ℕ, List, [], ◌++◌, length, refl, ap, sym, ◌∙◌, subst, Bool, true, false}
use Rattle.std.specs.Prelude.{Option, None, Some, Ok, ℤ, codes, decimal}
use Rattle.std.specs.Map.{keys_of}
use Rattle.std.proofs.lemmas.Map.Entries.{length-keys_of}
use Rattle.expr_text.specs.Printed.{constraints_text, generators_text}
use Rattle.expr_text.specs.ReadBack.{ConstraintsAreReadBack, GeneratorsAreReadBack}
use Rattle.expr_text.specs.GeneratorSystems.{IsGens}
use Rattle.optimum.specs.Laws.{GeneratorIsWitness}
use Rattle.optimum.specs.Suprema.{SupAnswer}
use Rattle.optimum.specs.declared.outcome.Sup.{Sup}
use Rattle.optimum.specs.declared.outcome.Sup.TheVariants as sup
use Rattle.poly_pair.specs.KeptLaws.{KeptIsPair}
use Rattle.poly_pair.specs.declared.topology.Topology.TheVariants.{Closed}
use Rattle.poly_pair.specs.Polyhedra.{Polyhedron, HasNoPoint, AreAlike}
use Rattle.ranking.specs.Laws.{PrintedFunctionRanks}
use Rattle.bd_shape.specs.Shapes.{Includes}
use Rattle.script_text.specs.declared.command.Comparison.{Comparison}
use Rattle.script_text.specs.declared.command.Comparison.TheVariants as comparison
use Rattle.script_text.specs.declared.command.Command.{Command}
use Rattle.script_text.specs.declared.command.Command.TheVariants.{Nothing, Cons, Gens, Space, Copy, Drop, Add, Addgen, Has, Size, Print, Names, OfTwo, Closure, Compare, Isempty, Relation, Bound, Map, Extend, Remove, Widen, Read, Write, System, Init, Trans, Fixpoint, Pset, OfTwoPowersets, Member, Psize, Covers, Rank, Ranking, ShapeOf, Bounds, OfTwoShapes, ShapeContains, ShapePrint, ShapePoly, Hybrid, SetPart, Reach}
use Rattle.calc_state.specs.declared.entry.Entry.{Entry}
use Rattle.calc_state.specs.declared.entry.Entry.TheVariants as entry
use Rattle.line_values.specs.declared.change.Change.TheVariants.{Says, Puts, PutsAll, TakesOut}
use Rattle.line_values.specs.Proper.{IsProper}
use Rattle.name_table.specs.Table.{entry_of, has_no_room, HasDistinctNames}
use Rattle.calc_state.specs.Table.{Table, as_poly, poly_of, as_system, system_of, as_powerset, powerset_of, as_shape, shape_of, as_hybrid, hybrid_of, Change}
use Rattle.line_values.specs.Order.{Passes}
use Rattle.line_values.specs.Meaning.{Meaning, on_one, on_two, no_fault, line, says, IsTold}
use Rattle.line_values.specs.Effects.{IsPutAs, AreAllPut, IsTakenOut, puts, tells, lines_of, ok_line, drop_of}
use Rattle.line_values.specs.Operands.{topology_of, is_max}
use Rattle.calc_state.specs.Meanings.{meaning}
use Rattle.poly_makers.specs.Makers.{cons, gens, space_of, copy, add, addgen, closure}
use Rattle.name_table.specs.Listing.{spaced, names_text}
use Rattle.poly_questions.specs.Questions.{names as tell_names, has, size, print, size_text, side_text}
use Rattle.poly_questions.specs.Optima.{relation, bound}
use Rattle.poly_questions.specs.Lattice.{compared, isempty}
use Rattle.poly_makers.specs.Operators.{operated, extended}
use Rattle.poly_makers.specs.Affine.{mapped_by, remove}
use Rattle.calc_state.specs.Step.{IsAccepted}
use Rattle.line_values.specs.Replies.{Reply}
use Rattle.poly_makers.specs.Widening.{widen}
use Rattle.fixpoint.specs.Commands.{system, AreReached, fixpoint}
use Rattle.calc_state.specs.Parts.{init, trans, set_part, with_part}
use Rattle.trans_sys.specs.Systems.{with_initial, with_transition}
use Rattle.powerset.specs.Commands.{pset, of_two_powersets, member, psize, members_text, covers}
use Rattle.ranking.specs.Commands.{rank, ranking}
use Rattle.bd_shape.specs.Commands.{shape, bounds, of_two_shapes, shape_contains, shape_print, shape_poly}
use Rattle.hybrid.specs.Commands.{hybrid, reach, AreReachedParts}
use Rattle.poly_questions.specs.Files.{write, file_of}
use Rattle.calc_state.specs.State.{State, closed}
use Rattle.calc_state.specs.Laws.{KeepsNamesDistinct}
use Rattle.calc_state.proofs.SaysOnce.{reply_is}
use Rattle.calc_state.specs.Runs.{Run}
use Rattle.run_laws.specs.Acts.{Act, Accepted, acts}
use Rattle.run_laws.specs.Sets.{AreAlikePowersets, HaveOneDim, IsEntryOf, names_of}
use Rattle.run_laws.specs.Laws.{AnswersAreTrue}
use Rattle.run_laws.specs.Truth.{SaysWhether, IsTrueOf, IsTrueOfTwo, SaysTruth, LieSo, SaysHowItLies, IsShownBy, SaysExtremum, SaysSide, SaysCover, SaysRanking, SaysBounds, IsTruthful, AreTruthful}
use Rattle.run_laws.proofs.KindTruth.{cover_says, ranking_says, bounds_say}
use Rattle.run_laws.proofs.OneForm.{same_dims}
use Rattle.soundness.proofs.Operands.{one_topology}
use Rattle.run_laws.proofs.Operands.{are_alike, are_alike_unions, have_one_dim, is_closed_relation}
use Rattle.run_laws.proofs.OneSet.{entry_kept, set_proper}
use Rattle.run_laws.proofs.AcceptedRuns.{Steps, Told, run_told}
use Rattle.run_laws.proofs.SetLaws.{Stands, Agrees, poly_at, powerset_at, shape_at, nothing_agrees, agrees_command, agrees_file}

-- the laws that are cited: what is printed is read back, both stored systems hold the same points,
-- the generator of a bound shows it, and a printed function ranks its relation
pub record ReadBack : Type 0 where
  pub cons : ConstraintsAreReadBack
  pub gens : GeneratorsAreReadBack
  pub pair : KeptIsPair
  pub witness : GeneratorIsWitness
  pub ranking : PrintedFunctionRanks

-- ---- what is said of an entry
side_says : ReadBack → (side : Bool) (text : List ℕ) (q : Polyhedron) → IsProper q → text ≡ line (side_text side q) → SaysSide side text q
side_says laws false text q proper e = record { text = constraints_text q.cons; said = e; system = q.cons; printed = refl; read = (laws.cons q.cons q.cons proper.cons).1 refl; stored = refl; points = λ v is. (λ x. x, λ x. x) }
side_says laws true text q proper e = record {
  text = generators_text q.gens;
  said = e;
  system = q.gens;
  printed = refl;
  read = subst (λ (n : ℕ). IsGens n (generators_text q.gens) q.gens) (same_dims q proper) ((laws.gens q.gens q.gens proper.gens).1 refl);
  stored = refl;
  points = λ v is. ((laws.pair q proper.kept v is).1, (laws.pair q proper.kept v is).0);
}

shown_by : GeneratorIsWitness → (up : Bool) (row : List ℤ) (q : Polyhedron) (b : Sup) → IsProper q → SupAnswer up row q.gens (Ok b) → IsShownBy up row q b
shown_by law up row q sup.Empty proper answer = tt
shown_by law up row q sup.Unbounded proper answer = tt
shown_by law up row q (sup.At num den attained index) proper answer = law up row q num den attained index proper.kept proper.gens answer

abbrev names_line : ℕ → List (List ℕ) → List ℕ
names_line n names = line (codes "names " ++ decimal n ++ spaced names)

names_true : (old : Table) (earlier : List Act) (text : List ℕ) → keys_of old ≡ names_of earlier → text ≡ line (names_text old) → text ≡ names_line (length (names_of earlier)) (names_of earlier)
names_true old earlier text same e =
    e ∙ ap (λ (n : ℕ). names_line n (keys_of old)) (sym (length-keys_of old)) ∙ ap (λ (names : List (List ℕ)). names_line (length names) names) same

told_true : (Statement : Type 0) (text : List ℕ) → IsTold Statement text → SaysTruth text Statement
told_true Statement text h = record { holds = h.holds; said = h.said; true_of = h.true_of }

compared_true : (by : Comparison) (x y : Polyhedron) (text : List ℕ) → (compared by x y).does text → SaysTruth text (LieSo by x y)
compared_true comparison.Contains x y text h = told_true (LieSo comparison.Contains x y) text h.told
compared_true comparison.Equal x y text h = told_true (LieSo comparison.Equal x y) text h.told
compared_true comparison.Disjoint x y text h = told_true (LieSo comparison.Disjoint x y) text h

compared_alike : (by : Comparison) (x y : Polyhedron) → Passes (compared by x y).conditions → AreAlike x y
compared_alike comparison.Contains x y passes = are_alike x y no_fault passes
compared_alike comparison.Equal x y passes = are_alike x y no_fault passes
compared_alike comparison.Disjoint x y passes = are_alike x y no_fault passes

-- ---- what is done
put_ok : {A : Type 0} (found : Option Entry → Option A) (out : List ℕ) (Is : A → Type 0) (change : Change) → IsPutAs found out Is change → lines_of change ≡ ok_line
put_ok found out Is (Puts name e) h = refl
put_ok found out Is (Says text) h = absurd h
put_ok found out Is (PutsAll prefix sets) h = absurd h
put_ok found out Is (TakesOut name) h = absurd h

all_ok : (prefix : List ℕ) (Are : List Polyhedron → Type 0) (change : Change) → AreAllPut prefix Are change → lines_of change ≡ ok_line
all_ok prefix Are (PutsAll out sets) h = refl
all_ok prefix Are (Says text) h = absurd h
all_ok prefix Are (Puts name e) h = absurd h
all_ok prefix Are (TakesOut name) h = absurd h

taken_ok : (name : List ℕ) (change : Change) → IsTakenOut name change → lines_of change ≡ ok_line
taken_ok name (TakesOut taken) h = refl
taken_ok name (Says text) h = absurd h
taken_ok name (Puts out e) h = absurd h
taken_ok name (PutsAll prefix sets) h = absurd h

-- ---- the answer to an accepted command
module _ (laws : ReadBack) (old new : Table) (earlier : List Act) (text : List ℕ) (g : Agrees old earlier) where
  -- what is said is the answer
  said : (m : Meaning (List ℕ)) → IsAccepted (tells m) old text new → m.does text
  said m p = subst m.does (sym p.lines_are) (reply_is m.does p.change p.does)

  -- to a question on one operand
  one_true : {A : Type 0} (kind : A → Entry) (name : List ℕ) (m : A → Meaning (List ℕ)) (SaysOf : A → Type 0) (o : Option A) → Stands o (λ x. IsEntryOf earlier name (kind x)) →
      ((x : A) → IsEntryOf earlier name (kind x) → Passes (m x).conditions → (m x).does text → SaysOf x) → IsAccepted (tells (on_one o m)) old text new → IsTrueOf kind earlier name SaysOf
  one_true kind name m SaysOf None s says p = absurd (said (on_one None m) p)
  one_true kind name m SaysOf (Some x) s says p = record { operand = x; given = s; says = says x s p.passes (said (m x) p) }

  -- on two
  two_true : {A : Type 0} (kind : A → Entry) (Fit : A → A → Type 0) (one other : List ℕ) (m : A → A → Meaning (List ℕ)) (SaysOf : A → A → Type 0) (o u : Option A) → Stands o (λ x. IsEntryOf earlier one (kind x)) → Stands u (λ x. IsEntryOf earlier other (kind x)) →
      ((x y : A) → Passes (m x y).conditions → Fit x y) → ((x y : A) → (m x y).does text → SaysOf x y) → IsAccepted (tells (on_two o u m)) old text new → IsTrueOfTwo kind Fit earlier one other SaysOf
  two_true kind Fit one other m SaysOf None u s t fit says p = absurd (said (on_two None u m) p)
  two_true kind Fit one other m SaysOf (Some x) None s t fit says p = absurd (said (on_two (Some x) None m) p)
  two_true kind Fit one other m SaysOf (Some x) (Some y) s t fit says p =
      record { first = x; second = y; given_first = s; given_second = t; fit = fit x y p.passes; says = says x y (said (m x y) p) }

  -- to a command that puts what it makes under its name
  made_ok : {A : Type 0} (found : Option Entry → Option A) (out : List ℕ) (m : Meaning A) → IsAccepted (puts found out m) old text new → text ≡ ok_line
  made_ok found out m p = p.lines_are ∙ put_ok found out m.does p.change p.does

  -- that does something to one operand
  one_ok : {A : Type 0} (m : A → Meaning Change) (o : Option A) → ((x : A) (change : Change) → (m x).does change → lines_of change ≡ ok_line) → IsAccepted (on_one o m) old text new → text ≡ ok_line
  one_ok m None does p = absurd p.does
  one_ok m (Some x) does p = p.lines_are ∙ does x p.change p.does

  changed_ok : {A : Type 0} (m : A → Polyhedron → Meaning Change) (u : Option A) (o : Option Polyhedron) → ((x : A) (q : Polyhedron) (change : Change) → (m x q).does change → lines_of change ≡ ok_line) → IsAccepted (on_one u (λ x. on_one o (m x))) old text new → text ≡ ok_line
  changed_ok m None o does p = absurd p.does
  changed_ok m (Some x) None does p = absurd p.does
  changed_ok m (Some x) (Some q) does p = p.lines_are ∙ does x q p.change p.does

  drop_ok : (out : List ℕ) (o : Option Entry) → IsAccepted (drop_of out o) old text new → text ≡ ok_line
  drop_ok out None p = absurd p.does
  drop_ok out (Some e) p = p.lines_are ∙ taken_ok out p.change p.does

  accepted_true : (c : Command) → IsAccepted (meaning old c) old text new → IsTruthful earlier c text
  accepted_true (Has name part) p =
      one_true entry.Poly name (has part) (SaysWhether part text) (poly_of old name) (poly_at old earlier g name)
      (λ x s passes h. record { point = h.point; read = h.read; holds = h.holds.holds; said = h.holds.said; true_of_point = h.holds.true_of_point }) p
  accepted_true (Size name) p = one_true entry.Poly name size (λ q. text ≡ line (size_text q)) (poly_of old name) (poly_at old earlier g name) (λ x s passes h. h) p
  accepted_true (Print side name) p = one_true entry.Poly name (print side) (SaysSide side text) (poly_of old name) (poly_at old earlier g name) (λ x s passes h. side_says laws side text x (set_proper earlier name x s) h) p
  accepted_true Names p = names_true old earlier text g.names (said (tell_names old) p)
  accepted_true (Compare by one other) p =
      two_true entry.Poly AreAlike one other (compared by) (λ x y. SaysTruth text (LieSo by x y)) (poly_of old one) (poly_of old other) (poly_at old earlier g one) (poly_at old earlier g other) (λ x y passes. compared_alike by x y passes) (λ x y h. compared_true by x y text h) p
  accepted_true (Isempty name) p = one_true entry.Poly name isempty (λ x. SaysTruth text (HasNoPoint x)) (poly_of old name) (poly_at old earlier g name) (λ x s passes h. told_true (HasNoPoint x) text h) p
  accepted_true (Relation name part) p =
      one_true entry.Poly name (relation part) (SaysHowItLies part text) (poly_of old name) (poly_at old earlier g name)
      (λ x s passes h. record { row = h.row; kind = h.kind; read = h.read; flags = h.holds.flags; said = h.holds.said; true_of = h.holds.answer.1 }) p
  accepted_true (Bound extremum name part) p =
      one_true entry.Poly name (bound (is_max extremum) part) (SaysExtremum (is_max extremum) part text) (poly_of old name) (poly_at old earlier g name)
      (λ x s passes h. record {
        row = h.row;
        read = h.read;
        bound = h.holds.bound;
        said = h.holds.said;
        true_of = h.holds.true_of;
        shown = shown_by laws.witness (is_max extremum) h.row x h.holds.bound (set_proper earlier name x s) h.holds.answer;
        first = h.holds.answer;
      }) p
  accepted_true (Write name form) p = one_true entry.Poly name (write form) (λ q. (q.topology ≡ Closed) × (text ≡ file_of form q)) (poly_of old name) (poly_at old earlier g name) (λ x s passes h. (one_topology x.topology Closed passes.1.1.0, h)) p
  accepted_true (Read out form) p = said (says []) p
  accepted_true Nothing p = said (says []) p
  accepted_true (Psize name) p = one_true entry.Powerset name psize (λ u. text ≡ line (members_text u)) (powerset_of old name) (powerset_at old earlier g name) (λ x s passes h. h) p
  accepted_true (Covers one other) p =
      two_true entry.Powerset AreAlikePowersets one other covers (SaysCover text) (powerset_of old one) (powerset_of old other) (powerset_at old earlier g one) (powerset_at old earlier g other) (λ x y passes. are_alike_unions x y no_fault passes) (λ x y h. cover_says x y text h) p
  accepted_true (Ranking name) p = one_true entry.Poly name ranking (SaysRanking text) (poly_of old name) (poly_at old earlier g name) (λ x s passes h. ranking_says laws.ranking x text (is_closed_relation x no_fault passes) h) p
  accepted_true (ShapeContains one other) p =
      two_true entry.Shape HaveOneDim one other shape_contains (λ x y. SaysTruth text (Includes x y)) (shape_of old one) (shape_of old other) (shape_at old earlier g one) (shape_at old earlier g other) (λ x y passes. have_one_dim x y no_fault passes) (λ x y h. told_true (Includes x y) text h) p
  accepted_true (ShapePrint name) p =
      one_true entry.Shape name shape_print (SaysBounds text) (shape_of old name) (shape_at old earlier g name) (λ x s passes h. bounds_say laws.cons x text (entry_kept earlier name (entry.Shape x) s) h) p
  accepted_true (Cons out top n part) p = made_ok as_poly out (cons (has_no_room old out) (topology_of top) n part) p
  accepted_true (Gens out top n part) p = made_ok as_poly out (gens (has_no_room old out) (topology_of top) n part) p
  accepted_true (Space space out top n) p = made_ok as_poly out (space_of space (has_no_room old out) (topology_of top) n) p
  accepted_true (Copy out other) p = made_ok as_poly out (on_one (poly_of old other) (copy (has_no_room old out))) p
  accepted_true (Drop out) p = drop_ok out (entry_of old out) p
  accepted_true (Add out part) p = made_ok as_poly out (on_one (poly_of old out) (add part)) p
  accepted_true (Addgen out part) p = made_ok as_poly out (on_one (poly_of old out) (addgen part)) p
  accepted_true (OfTwo op out one other) p = made_ok as_poly out (on_two (poly_of old one) (poly_of old other) (operated op (has_no_room old out))) p
  accepted_true (Closure out other) p = made_ok as_poly out (on_one (poly_of old other) (closure (has_no_room old out))) p
  accepted_true (Map by out other v rel part) p = made_ok as_poly out (on_one (poly_of old other) (mapped_by by (has_no_room old out) v rel part)) p
  accepted_true (Extend by out other n) p = made_ok as_poly out (on_one (poly_of old other) (extended by (has_no_room old out) n)) p
  accepted_true (Remove out other vars) p = made_ok as_poly out (on_one (poly_of old other) (remove (has_no_room old out) vars)) p
  accepted_true (Widen out one other) p = made_ok as_poly out (on_two (poly_of old one) (poly_of old other) (widen (has_no_room old out))) p
  accepted_true (System out n locations) p = made_ok as_system out (system (has_no_room old out) n locations) p
  accepted_true (Init out location other) p = changed_ok (init out location) (system_of old out) (poly_of old other) (λ s q change h. put_ok as_system out (λ r. r ≡ with_initial s location q) change h) p
  accepted_true (Trans out source target other) p =
      changed_ok (trans out source target) (system_of old out) (poly_of old other) (λ s q change h. put_ok as_system out (λ r. r ≡ with_transition s (record { source = source; target = target; relation = q })) change h) p
  accepted_true (Fixpoint s delay prefix) p = one_ok (fixpoint old delay prefix) (system_of old s) (λ x change h. all_ok prefix (AreReached x delay) change h) p
  accepted_true (Pset out other) p = made_ok as_powerset out (on_one (poly_of old other) (pset (has_no_room old out))) p
  accepted_true (OfTwoPowersets op out one other) p = made_ok as_powerset out (on_two (powerset_of old one) (powerset_of old other) (of_two_powersets op (has_no_room old out))) p
  accepted_true (Member out s i) p = made_ok as_poly out (on_one (powerset_of old s) (member (has_no_room old out) i)) p
  accepted_true (Rank out r) p = made_ok as_poly out (on_one (poly_of old r) (rank (has_no_room old out))) p
  accepted_true (ShapeOf out other) p = made_ok as_shape out (on_one (poly_of old other) (shape (has_no_room old out))) p
  accepted_true (Bounds out n part) p = made_ok as_shape out (bounds (has_no_room old out) n part) p
  accepted_true (OfTwoShapes op out one other) p = made_ok as_shape out (on_two (shape_of old one) (shape_of old other) (of_two_shapes op (has_no_room old out))) p
  accepted_true (ShapePoly out s) p = made_ok as_poly out (on_one (shape_of old s) (shape_poly (has_no_room old out))) p
  accepted_true (Hybrid out s) p = made_ok as_hybrid out (on_one (system_of old s) (hybrid (has_no_room old out))) p
  accepted_true (SetPart part out location other) p = changed_ok (set_part part out location) (hybrid_of old out) (poly_of old other) (λ x q change h. put_ok as_hybrid out (λ r. r ≡ with_part part x location q) change h) p
  accepted_true (Reach h delay prefix) p = one_ok (reach old delay prefix) (hybrid_of old h) (λ x change i. all_ok prefix (AreReachedParts x delay) change i) p

-- ---- runs
abbrev pub IsToldTruly : Table → List Accepted → Type 0
IsToldTruly table all = Agrees table (acts all) × AreTruthful all

telling : ReadBack → Steps IsToldTruly
telling laws = record {
  command = λ old new earlier c text h distinct p. (agrees_command old new (acts earlier) c text h.0 distinct p, (accepted_true laws old new (acts earlier) text h.0 c p, h.1));
  file = λ old new earlier file text h distinct p. (agrees_file old new (acts earlier) file text h.0 distinct p, (p.lines_are, h.1));
}

-- what a run accepts, with the table that agrees with it and true answers
pub run_truthful : KeepsNamesDistinct → HasDistinctNames {E = Entry} [] → ReadBack → (lines : List (List ℕ)) (replies : List Reply) (new : State) → Run (closed []) lines replies new → Told IsToldTruly None [] lines replies new
run_truthful keeps empty laws lines replies new run = run_told IsToldTruly keeps (telling laws) (closed []) [] lines replies new empty (nothing_agrees empty, tt) run

pub answers_true : KeepsNamesDistinct → HasDistinctNames {E = Entry} [] → ReadBack → AnswersAreTrue
answers_true keeps empty laws lines replies new run =
    let t = run_truthful keeps empty laws lines replies new run in record { all = t.all; accepted = t.accepted; truthful = t.holds.1 }
