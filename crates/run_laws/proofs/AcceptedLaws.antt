-- Two runs that accept the same commands and files come to the same sets, with the same answers.
use Rattle.std.proofs.Common.{◌≡◌, ◌⊎◌, inl, inr, ℕ, ◌<◌, List, [], ◌∷◌, refl, ap, sym, ◌∙◌, subst, arith, Bool, true, false, codes}
use Rattle.std.specs.Prelude.{◌↔◌, IsTrue, ℤ, pos, ◌<ℤ◌, Ok, Result, None}
use Rattle.std.proofs.lemmas.Int.{ints}
use Rattle.row_core.specs.Points.{IsPoint as IsPointRow}
use Rattle.row_core.specs.Vectors.{cell}
use Rattle.row_core.specs.declared.errors.PairOver.{PairOver}
use Rattle.cons_sys.specs.Constraints.{Constraint, In}
use Rattle.cons_sys.specs.declared.kind.ConKind.{ConKind}
use Rattle.cons_sys.specs.declared.kind.ConKind.TheVariants.{Eq}
use Rattle.grammar.specs.Cases.{point_cases}
use Rattle.term_text.specs.Values.{Ratio, point_by, alone_by}
use Rattle.term_text.specs.Texts.{IsPoint, IsPointOf}
use Rattle.term_text.specs.Systems.{IsCon}
use Rattle.expr_text.specs.OneAnswer.{ExprHasOneAnswer, ConHasOneAnswer, PointHasOneAnswer}
use Rattle.poly_pair.specs.Polyhedra.{Polyhedron, HasNoPoint, AreAlike}
use Rattle.poly_pair.specs.declared.topology.Topology.{Topology}
use Rattle.poly_pair.specs.declared.topology.Topology.TheVariants.{Closed, Nnc}
use Rattle.optimum.specs.Relations.{IsRelation, HoldsThroughout, HoldsNowhere, HoldsSomewhere, FailsSomewhere}
use Rattle.optimum.specs.Suprema.{SupAnswer}
use Rattle.optimum.specs.Laws.{HasOneSup}
use Rattle.optimum.specs.declared.outcome.Relation.{Relation as Flags}
use Rattle.optimum.specs.declared.outcome.Sup.{Sup}
use Rattle.script_text.specs.declared.command.Part.{Part}
use Rattle.bd_shape.specs.Shapes.{DifferenceShape, Includes}
use Rattle.bd_shape.specs.Rows.{shape_constraints}
use Rattle.script_text.specs.declared.command.Comparison.{Comparison}
use Rattle.script_text.specs.declared.command.Comparison.TheVariants as comparison
use Rattle.script_text.specs.declared.command.Command.{Command}
use Rattle.script_text.specs.declared.command.Command.TheVariants.{Nothing, Has, Size, Print, Names, Compare, Isempty, Relation, Bound, Read, Write, Psize, Covers, Ranking, ShapeContains, ShapePrint}
use Rattle.script_text.specs.Line.{SpellsOne}
use Rattle.name_table.specs.Table.{HasDistinctNames}
use Rattle.line_values.specs.Meaning.{answer_line, line}
use Rattle.poly_questions.specs.Questions.{size_text, side_text}
use Rattle.poly_questions.specs.Optima.{with_word, relation_text, bound_text}
use Rattle.line_values.specs.Operands.{is_max}
use Rattle.powerset.specs.Commands.{members_text}
use Rattle.poly_questions.specs.Files.{file_of}
use Rattle.calc_state.specs.declared.entry.Entry.{Entry}
use Rattle.calc_state.specs.declared.entry.Entry.TheVariants as entry
use Rattle.line_values.specs.Proper.{IsProper}
use Rattle.calc_state.specs.Laws.{KeepsNamesDistinct}
use Rattle.expr_text.specs.Printed.{constraints_text, generators_text}
use Rattle.run_laws.specs.Acts.{Act, Did, Took, Accepted, acts}
use Rattle.run_laws.specs.Sets.{AreAlikePowersets, HaveOneDim, IsSetOf, IsEntryOf}
use Rattle.run_laws.specs.Sameness.{AreSamePolyhedra, AreSameEntries}
use Rattle.run_laws.specs.Truth.{SaysWhether, IsTrueOf, IsTrueOfTwo, SaysTruth, LieSo, SaysHowItLies, SaysExtremum, SaysSide, SaysCover, SaysRanking, SaysBounds, IsTruthful, IsTrueAnswer, AreTruthful}
use Rattle.run_laws.specs.Laws.{IsNotClosed, ShowsStored, ShowPoints, AreSameAnswers, AcceptedDecide}
use Rattle.run_laws.proofs.OneForm.{OneForm}
use Rattle.run_laws.proofs.OneResult.{same_back, included_same, equal_same, disjoint_same, empty_same, throughout_same, nowhere_same, both_same}
use Rattle.run_laws.proofs.OneSet.{one_entry, one_set, entry_kept, set_proper}
use Rattle.run_laws.proofs.KindAnswers.{sized_alike, covered_once, ranked_once}
use Rattle.run_laws.proofs.AcceptedRuns.{accepted_once}
use Rattle.run_laws.proofs.SetLaws.{Agrees}
use Rattle.run_laws.proofs.SameTables.{agreeing_same}
use Rattle.run_laws.proofs.TruthLaws.{ReadBack, IsToldTruly, run_truthful}

-- the laws that are cited: a line spells one command, a text says one thing, the generators of a
-- polyhedron give one bound, and commands give a name one set
pub record OneMeaning : Type 0 where
  pub spells : SpellsOne
  pub point : PointHasOneAnswer
  pub constraint : ConHasOneAnswer
  pub expression : ExprHasOneAnswer
  pub bound : HasOneSup
  pub form : OneForm

-- ---- one answer to what is accepted
same_bool : (b c : Bool) (P Q : Type 0) → P ↔ Q → IsTrue b ↔ P → IsTrue c ↔ Q → b ≡ c
same_bool true true P Q e h k = refl
same_bool false false P Q e h k = refl
same_bool true false P Q e h k = sym (k.1 (e.0 (h.0 refl)))
same_bool false true P Q e h k = h.1 (e.1 (k.0 refl))

positive_of : (d : ℕ) (z : ℤ) → z ≡ pos d → 0 < d → pos 0 <ℤ z
positive_of d z e h = omega (arith, ints, e, h)

row_of_point : (dim : ℕ) (r : Ratio) (row : List ℤ) → IsPointOf dim r row → IsPointRow dim row
row_of_point dim r row is = record { wide = is.wide; positive = positive_of r.divisor (cell row dim) is.last is.positive }

-- the vector of a point's text is one of a point
point_row : (dim : ℕ) (text : List ℕ) (row : List ℤ) → IsPoint dim text row → IsPointRow dim row
point_row dim text row says = row_of_point dim (alone_by point_cases point_by text says.form) row says.holds

told_once : PointHasOneAnswer → (part : Part) (text other : List ℕ) (p q : Polyhedron) → AreSamePolyhedra p q → SaysWhether part text p → SaysWhether part other q → text ≡ other
told_once one part text other p q same a b =
    let read : IsPoint q.cons.dim part.text a.point = subst (λ (n : ℕ). IsPoint n part.text a.point) same.dim a.read in
    let point : a.point ≡ b.point = (one q.cons.dim part.text).one_value a.point b.point read b.read in
    let sets : In p.cons a.point ↔ In q.cons b.point = subst (λ (v : List ℤ). In p.cons a.point ↔ In q.cons v) point (same.points a.point (point_row p.cons.dim part.text a.point a.read)) in
    a.said ∙ ap answer_line (same_bool a.holds b.holds (In p.cons a.point) (In q.cons b.point) sets a.true_of_point b.true_of_point) ∙ sym b.said

truth_once : (text other : List ℕ) (P Q : Type 0) → P ↔ Q → SaysTruth text P → SaysTruth other Q → text ≡ other
truth_once text other P Q e a b = a.said ∙ ap answer_line (same_bool a.holds b.holds P Q e a.true_of b.true_of) ∙ sym b.said

-- ---- how a set lies to a constraint
abbrev con_of : List ℤ → ConKind → Constraint
con_of row kind = (row, kind)

abbrev words_of : Bool → Bool → Bool → Bool → List ℕ
words_of d i n s = line (with_word (with_word (with_word (with_word [] (codes "disjoint") d) (codes "intersects") i) (codes "included") n) (codes "saturates") s)

-- one set lies to a constraint in one way
lies_once : (row : List ℤ) (kind : ConKind) (p q : Polyhedron) (f g : Flags) → AreSamePolyhedra p q → IsRelation p.cons row kind f → IsRelation q.cons row kind g → line (relation_text f) ≡ line (relation_text g)
lies_once row kind p q f g same a b =
    let back = same_back p q same in
    let d : f.disjoint ≡ g.disjoint = same_bool f.disjoint g.disjoint (HoldsNowhere p.cons (row, kind)) (HoldsNowhere q.cons (row, kind)) (nowhere_same p q (row, kind) same, nowhere_same q p (row, kind) back) a.disjoint b.disjoint in
    let n : f.included ≡ g.included = same_bool f.included g.included (HoldsThroughout p.cons (row, kind)) (HoldsThroughout q.cons (row, kind)) (throughout_same p q (row, kind) same, throughout_same q p (row, kind) back) a.included b.included in
    let s : f.saturates ≡ g.saturates = same_bool f.saturates g.saturates (HoldsThroughout p.cons (row, Eq)) (HoldsThroughout q.cons (row, Eq)) (throughout_same p q (row, Eq) same, throughout_same q p (row, Eq) back) a.saturates b.saturates in
    let i : f.intersects ≡ g.intersects = same_bool f.intersects g.intersects (HoldsSomewhere p.cons (row, kind) × FailsSomewhere p.cons (row, kind)) (HoldsSomewhere q.cons (row, kind) × FailsSomewhere q.cons (row, kind)) (both_same p q (row, kind) same, both_same q p (row, kind) back) a.intersects b.intersects in
    ap (λ (x : Bool). words_of x f.intersects f.included f.saturates) d ∙ ap (λ (x : Bool). words_of g.disjoint x f.included f.saturates) i ∙ ap (λ (x : Bool). words_of g.disjoint g.intersects x f.saturates) n ∙ ap (λ (x : Bool). words_of g.disjoint g.intersects g.included x) s

relation_said_once : ConHasOneAnswer → (part : Part) (text other : List ℕ) (p q : Polyhedron) → AreSamePolyhedra p q → SaysHowItLies part text p → SaysHowItLies part other q → text ≡ other
relation_said_once one part text other p q same a b =
    let read : IsCon q.cons.dim part.text a.row a.kind = subst (λ (n : ℕ). IsCon n part.text a.row a.kind) same.dim a.read in
    let con : con_of a.row a.kind ≡ con_of b.row b.kind = (one q.cons.dim part.text).one_value (con_of a.row a.kind) (con_of b.row b.kind) read b.read in
    let there : IsRelation q.cons a.row a.kind b.flags = subst (λ (c : Constraint). IsRelation q.cons c.0 c.1 b.flags) (sym con) b.true_of in
    a.said ∙ lies_once a.row a.kind p q a.flags b.flags same a.true_of there ∙ sym b.said

-- ---- bounds
abbrev bound_of : Sup → Result Sup PairOver
bound_of b = Ok b

-- the stored systems decide a bound and the generator that shows it
bound_said_once : ExprHasOneAnswer → HasOneSup → (up : Bool) (part : Part) (text other : List ℕ) (p : Polyhedron) → IsProper p → SaysExtremum up part text p → SaysExtremum up part other p → text ≡ other
bound_said_once one law up part text other p proper a b =
    let row : a.row ≡ b.row = (one p.cons.dim part.text).one_value a.row b.row a.read b.read in
    let same : bound_of a.bound ≡ bound_of b.bound = law up b.row p.gens proper.gens (Ok a.bound) (Ok b.bound) (subst (λ (r : List ℤ). SupAnswer up r p.gens (Ok a.bound)) row a.first) b.first in
    let bounds : a.bound ≡ b.bound = cc in
    a.said ∙ ap (λ (x : Sup). line (bound_text p.gens x)) bounds ∙ sym b.said

-- the topology of a set is closed, or stored systems are shown
by_topology : (all : List Act) (name : List ℕ) (p : Polyhedron) (t : Topology) (E : Type 0) → IsSetOf all name p → p.topology ≡ t → (p.topology ≡ Closed → E) → IsNotClosed all name ⊎ E
by_topology all name p Closed E s e f = inr (f e)
by_topology all name p Nnc E s e f = inl (record { polyhedron = p; set = s; topology = e })

said_side : (side : Bool) (text : List ℕ) (p : Polyhedron) → SaysSide side text p → text ≡ line (side_text side p)
said_side false text p a = a.said ∙ ap line (a.printed ∙ ap constraints_text a.stored)
said_side true text p a = a.said ∙ ap line (a.printed ∙ ap generators_text a.stored)

-- how two polyhedra lie depends on their points
lie_same : (by : Comparison) (x y v w : Polyhedron) → AreSamePolyhedra x y → AreSamePolyhedra v w → AreAlike x v → LieSo by x v → LieSo by y w
lie_same comparison.Contains x y v w e d like h = included_same v w x y d e (sym like.dim) h
lie_same comparison.Equal x y v w e d like h = equal_same x y v w e d like.dim h
lie_same comparison.Disjoint x y v w e d like h = disjoint_same x y v w e d like.dim h

includes_same : (s r t u : DifferenceShape) → s ≡ r → t ≡ u → Includes s t → Includes r u
includes_same s r t u e d h = subst (λ (x : DifferenceShape). Includes x u) e (subst (λ (y : DifferenceShape). Includes s y) d h)

module _ (laws : OneMeaning) (earlier : List Act) where
  -- the answers are the same, but where stored systems or points are shown
  abbrev IsOnce : Command → List ℕ → List ℕ → Type 0
  IsOnce c text other = ShowsStored earlier (Did c) ⊎ (ShowPoints (Did c) text other ⊎ (text ≡ other))

  stored_or : (c : Command) (text other : List ℕ) → ShowsStored earlier (Did c) ⊎ (text ≡ other) → IsOnce c text other
  stored_or c text other (inl s) = inl s
  stored_or c text other (inr e) = inr (inr e)

  one_of : (name : List ℕ) (p q : Polyhedron) → IsSetOf earlier name p → IsSetOf earlier name q → AreSamePolyhedra p q
  one_of name p q h k = one_set laws.form earlier name p q h k

  -- an answer about one operand, or two, is the same where it is the same of operands that are the
  -- same
  about_one : {A : Type 0} (kind : A → Entry) (name : List ℕ) (Says Said : A → Type 0) (E : Type 0) → ((x y : A) → IsEntryOf earlier name (kind x) → IsEntryOf earlier name (kind y) → AreSameEntries (kind x) (kind y) → Says x → Said y → E) →
      IsTrueOf kind earlier name Says → IsTrueOf kind earlier name Said → E
  about_one kind name Says Said E same a b = same a.operand b.operand a.given b.given (one_entry laws.form earlier name (kind a.operand) (kind b.operand) a.given b.given) a.says b.says

  about_two : {A : Type 0} (kind : A → Entry) (Fit : A → A → Type 0) (one other : List ℕ) (Says Said : A → A → Type 0) (E : Type 0) →
      ((x y v w : A) → IsEntryOf earlier one (kind x) → IsEntryOf earlier one (kind y) → IsEntryOf earlier other (kind v) → IsEntryOf earlier other (kind w) → AreSameEntries (kind x) (kind y) → AreSameEntries (kind v) (kind w) → Fit x v → Fit y w → Says x v → Said y w → E) →
      IsTrueOfTwo kind Fit earlier one other Says → IsTrueOfTwo kind Fit earlier one other Said → E
  about_two kind Fit one other Says Said E same a b =
      same a.first b.first a.second b.second a.given_first b.given_first a.given_second b.given_second (one_entry laws.form earlier one (kind a.first) (kind b.first) a.given_first b.given_first)
      (one_entry laws.form earlier other (kind a.second) (kind b.second) a.given_second b.given_second) a.fit b.fit a.says b.says

  sized_once : (name text other : List ℕ) → IsTrueOf entry.Poly earlier name (λ p. text ≡ line (size_text p)) → IsTrueOf entry.Poly earlier name (λ p. other ≡ line (size_text p)) → IsNotClosed earlier name ⊎ (text ≡ other)
  sized_once name text other a b =
      let same = one_of name a.operand b.operand a.given b.given in
      by_topology earlier name a.operand a.operand.topology (text ≡ other) a.given refl (λ c. a.says ∙ ap (λ (p : Polyhedron). line (size_text p)) (same.closed c) ∙ sym b.says)

  printed_once : (side : Bool) (name text other : List ℕ) → IsTrueOf entry.Poly earlier name (SaysSide side text) → IsTrueOf entry.Poly earlier name (SaysSide side other) → IsNotClosed earlier name ⊎ (text ≡ other)
  printed_once side name text other a b =
      let same = one_of name a.operand b.operand a.given b.given in
      by_topology earlier name a.operand a.operand.topology (text ≡ other) a.given refl
      (λ c. said_side side text a.operand a.says ∙ ap (λ (p : Polyhedron). line (side_text side p)) (same.closed c) ∙ sym (said_side side other b.operand b.says))

  bounded_once : (up : Bool) (part : Part) (name text other : List ℕ) → IsTrueOf entry.Poly earlier name (SaysExtremum up part text) → IsTrueOf entry.Poly earlier name (SaysExtremum up part other) → IsNotClosed earlier name ⊎ (text ≡ other)
  bounded_once up part name text other a b =
      let same = one_of name a.operand b.operand a.given b.given in
      by_topology earlier name a.operand a.operand.topology (text ≡ other) a.given refl
      (λ c. bound_said_once laws.expression laws.bound up part text other a.operand (set_proper earlier name a.operand a.given) a.says (subst (SaysExtremum up part other) (sym (same.closed c)) b.says))

  -- of one command
  answered_once : (c : Command) (text other : List ℕ) → IsTruthful earlier c text → IsTruthful earlier c other → IsOnce c text other
  answered_once (Has name part) text other a b = inr (inr (about_one entry.Poly name (SaysWhether part text) (SaysWhether part other) (text ≡ other) (λ p q h k same x y. told_once laws.point part text other p q same x y) a b))
  answered_once (Size name) text other a b = stored_or (Size name) text other (sized_once name text other a b)
  answered_once (Print side name) text other a b = stored_or (Print side name) text other (printed_once side name text other a b)
  answered_once Names text other a b = inr (inr (a ∙ sym b))
  answered_once Nothing text other a b = inr (inr (a ∙ sym b))
  answered_once (Read out form) text other a b = inr (inr (a ∙ sym b))
  answered_once (Compare by one name) text other a b =
      inr (inr (about_two entry.Poly AreAlike one name (λ p q. SaysTruth text (LieSo by p q)) (λ p q. SaysTruth other (LieSo by p q)) (text ≡ other)
      (λ x y v w g h i j e d like alike s t. truth_once text other (LieSo by x v) (LieSo by y w) (lie_same by x y v w e d like, lie_same by y x w v (same_back x y e) (same_back v w d) alike) s t) a b))
  answered_once (Isempty name) text other a b =
      inr (inr (about_one entry.Poly name (λ p. SaysTruth text (HasNoPoint p)) (λ p. SaysTruth other (HasNoPoint p)) (text ≡ other)
      (λ p q h k same x y. truth_once text other (HasNoPoint p) (HasNoPoint q) (empty_same p q same, empty_same q p (same_back p q same)) x y) a b))
  answered_once (Relation name part) text other a b = inr (inr (about_one entry.Poly name (SaysHowItLies part text) (SaysHowItLies part other) (text ≡ other) (λ p q h k same x y. relation_said_once laws.constraint part text other p q same x y) a b))
  answered_once (Bound extremum name part) text other a b = stored_or (Bound extremum name part) text other (bounded_once (is_max extremum) part name text other a b)
  answered_once (Write name form) text other a b =
      let same = one_of name a.operand b.operand a.given b.given in
      inr (inr (a.says.1 ∙ ap (file_of form) (same.closed a.says.0) ∙ sym b.says.1))
  answered_once (Psize name) text other a b =
      inr (inr (about_one entry.Powerset name (λ u. text ≡ line (members_text u)) (λ u. other ≡ line (members_text u)) (text ≡ other) (λ u w h k same x y. x ∙ sized_alike u w same ∙ sym y) a b))
  answered_once (Covers one name) text other a b =
      inr (about_two entry.Powerset AreAlikePowersets one name (SaysCover text) (SaysCover other) (ShowPoints (Did (Covers one name)) text other ⊎ (text ≡ other))
      (λ x y v w g h i j e d fit fits s t. covered_once x y v w text other e d (entry_kept earlier one (entry.Powerset x) g) (entry_kept earlier one (entry.Powerset y) h) (entry_kept earlier name (entry.Powerset v) i) (entry_kept earlier name (entry.Powerset w) j) fit.dim s t) a b)
  answered_once (Ranking name) text other a b =
      inr (inr (about_one entry.Poly name (SaysRanking text) (SaysRanking other) (text ≡ other) (λ p q h k same x y. ranked_once laws.form q text other (subst (SaysRanking text) (same.closed x.closed) x) y) a b))
  answered_once (ShapeContains one name) text other a b =
      inr (inr (about_two entry.Shape HaveOneDim one name (λ s t. SaysTruth text (Includes s t)) (λ s t. SaysTruth other (Includes s t)) (text ≡ other)
      (λ x y v w g h i j e d fit fits s t. truth_once text other (Includes x v) (Includes y w) (includes_same x y v w e d, includes_same y x w v (sym e) (sym d)) s t) a b))
  answered_once (ShapePrint name) text other a b =
      inr (inr (about_one entry.Shape name (SaysBounds text) (SaysBounds other) (text ≡ other) (λ s r h k same x y. x.said ∙ ap line (x.printed ∙ ap (λ (z : DifferenceShape). constraints_text (shape_constraints z)) same ∙ sym y.printed) ∙ sym y.said) a b))
  answered_once done text other a b = inr (inr (a ∙ sym b))

  -- of one command or file
  accepted_answered : (act : Act) (text other : List ℕ) → IsTrueAnswer earlier act text → IsTrueAnswer earlier act other → ShowsStored earlier act ⊎ (ShowPoints act text other ⊎ (text ≡ other))
  accepted_answered (Did c) text other a b = answered_once c text other a b
  accepted_answered (Took file) text other a b = inr (inr (a ∙ sym b))

-- ---- the answers to what is accepted
abbrev first_act : Act → List Act → Act
first_act none [] = none
first_act none (a ∷ rest) = a

abbrev other_acts : List Act → List Act
other_acts [] = []
other_acts (a ∷ rest) = rest

same_answers : OneMeaning → (all rest : List Accepted) → acts all ≡ acts rest → AreTruthful all → AreTruthful rest → AreSameAnswers all rest
same_answers laws [] [] e t u = tt
same_answers laws [] (b ∷ rest) e t u = cc
same_answers laws (a ∷ all) [] e t u = cc
same_answers laws (a ∷ all) (b ∷ rest) e t u =
    let act : a.act ≡ b.act = ap (first_act a.act) e in
    let others : acts all ≡ acts rest = ap other_acts e in
    let there : IsTrueAnswer (acts all) a.act b.answer = subst (λ (x : Act). IsTrueAnswer (acts all) x b.answer) (sym act) (subst (λ (l : List Act). IsTrueAnswer l b.act b.answer) (sym others) u.0) in
    (accepted_answered laws (acts all) a.act a.answer b.answer t.0 there, same_answers laws all rest others t.1 u.1)

-- ---- runs
pub accepted_decide : KeepsNamesDistinct → HasDistinctNames {E = Entry} [] → OneMeaning → ReadBack → AcceptedDecide
accepted_decide keeps empty laws read lines others r s new other all rest run next a b same =
    let t = run_truthful keeps empty read lines r new run in
    let u = run_truthful keeps empty read others s other next in
    let mine : IsToldTruly new.names all = subst (IsToldTruly new.names) (accepted_once laws.spells None [] lines r t.all all t.accepted a) t.holds in
    let theirs : IsToldTruly other.names rest = subst (IsToldTruly other.names) (accepted_once laws.spells None [] others s u.all rest u.accepted b) u.holds in
    (agreeing_same laws.form new.names other.names (acts rest) (subst (Agrees new.names) same mine.0) theirs.0, same_answers laws all rest same mine.1 theirs.1)
