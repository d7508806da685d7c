-- A question for a relation or a bound has one reply.
use Rattle.std.proofs.Common.{◌≡◌, ℕ, List, Ok, Err, Result, Bool, ap, sym, ◌∙◌, subst}
use Rattle.std.specs.Prelude.{ℤ}
use Rattle.row_core.specs.declared.errors.Overflow.{Overflow}
use Rattle.row_core.specs.declared.errors.PairOver.{PairOver}
use Rattle.cons_sys.specs.Constraints.{Constraint}
use Rattle.cons_sys.specs.declared.kind.ConKind.{ConKind}
use Rattle.gens_sys.specs.Generators.{Generators}
use Rattle.expr_text.specs.OneAnswer.{ConHasOneAnswer, ExprHasOneAnswer}
use Rattle.poly_pair.specs.Polyhedra.{Polyhedron}
use Rattle.optimum.specs.Laws.{HasOneRelation, HasOneSup}
use Rattle.optimum.specs.Values.{RowLeaves}
use Rattle.optimum.specs.declared.outcome.Relation.{Relation as Flags}
use Rattle.optimum.specs.declared.outcome.Sup.{Sup}
use Rattle.script_text.specs.declared.command.Part.{Part}
use Rattle.line_values.specs.Meaning.{line}
use Rattle.optimum.specs.Showing.{shown_values}
use Rattle.poly_questions.specs.Optima.{SaysConstraint, SaysExpression, SaysRelation, SaysBound, SearchLeaves, ShowsValues, relation, bound, relation_text, bound_text}
use Rattle.poly_questions.specs.OneAnswer.{SaysOnce}

shown_once : (Leaves : PairOver → Type 0) (row : List ℤ) (gs : Generators) (o u : Overflow) → ((x y : PairOver) → Leaves x → Leaves y → x ≡ y) → ShowsValues Leaves row gs o → ShowsValues Leaves row gs u → o ≡ u
shown_once Leaves row gs o u one a b = a.shown ∙ ap (shown_values row gs) (one a.pair b.pair a.leaves b.leaves) ∙ sym b.shown

-- ---- relation
abbrev flags_of : Flags → Result Flags PairOver
flags_of flags = Ok flags

abbrev no_flags : PairOver → Result Flags PairOver
no_flags over = Err over

abbrev con_of : List ℤ → ConKind → Constraint
con_of row kind = (row, kind)

module _ (part : Part) (p : Polyhedron) (C : ConHasOneAnswer) (R : HasOneRelation) where
  -- what holds of the constraint that a text says holds of it however it is said
  brought : (P Q : List ℤ → ConKind → Type 0) (a : SaysConstraint p.cons.dim part P) (b : SaysConstraint p.cons.dim part Q) → P b.row b.kind
  brought P Q a b = subst (λ (k : Constraint). P k.0 k.1) ((C p.cons.dim part.text).one_value (con_of a.row a.kind) (con_of b.row b.kind) a.read b.read) a.holds

  lines_once : (k l : List ℕ) (row : List ℤ) (kind : ConKind) → SaysRelation p k row kind → SaysRelation p l row kind → k ≡ l
  lines_once k l row kind a b =
      let same : flags_of a.flags ≡ flags_of b.flags = R row kind p (Ok a.flags) (Ok b.flags) a.answer b.answer in
      let flags : a.flags ≡ b.flags = cc in
      a.said ∙ (ap (λ (f : Flags). line (relation_text f)) flags ∙ sym b.said)

  leaves_once : (row : List ℤ) (kind : ConKind) (x y : PairOver) → RowLeaves row p.gens.list x → RowLeaves row p.gens.list y → x ≡ y
  leaves_once row kind x y a b = let same : no_flags x ≡ no_flags y = R row kind p (Err x) (Err y) a b in cc

  not_both : (k : List ℕ) (o : Overflow) (row : List ℤ) (kind : ConKind) → SaysRelation p k row kind → ShowsValues (RowLeaves row p.gens.list) row p.gens o → ⊥
  not_both k o row kind a b = let same : flags_of a.flags ≡ no_flags b.pair = R row kind p (Ok a.flags) (Err b.pair) a.answer b.leaves in cc

  abbrev Shows : Overflow → List ℤ → ConKind → Type 0
  Shows o row kind = ShowsValues (RowLeaves row p.gens.list) row p.gens o

  pub relation_once : SaysOnce (relation part p)
  relation_once = record {
    one_text = λ k l a b. lines_once k l b.row b.kind (brought (SaysRelation p k) (SaysRelation p l) a b) b.holds;
    one_overflow = λ o u a b. shown_once (RowLeaves b.row p.gens.list) b.row p.gens o u (leaves_once b.row b.kind) (brought (Shows o) (Shows u) a b) b.holds;
    not_both = λ k o a b. not_both k o b.row b.kind (brought (SaysRelation p k) (Shows o) a b) b.holds;
  }

-- ---- bounds
abbrev bound_of : Sup → Result Sup PairOver
bound_of b = Ok b

abbrev no_bound : PairOver → Result Sup PairOver
no_bound over = Err over

module _ (up : Bool) (part : Part) (p : Polyhedron) (E : ExprHasOneAnswer) (S : HasOneSup) where
  brought_row : (P Q : List ℤ → Type 0) (a : SaysExpression p.cons.dim part P) (b : SaysExpression p.cons.dim part Q) → P b.row
  brought_row P Q a b = subst P ((E p.cons.dim part.text).one_value a.row b.row a.read b.read) a.holds

  bounds_once : (k l : List ℕ) (row : List ℤ) → SaysBound up p k row → SaysBound up p l row → k ≡ l
  bounds_once k l row a b =
      let same : bound_of a.bound ≡ bound_of b.bound = S up row p.gens a.fit (Ok a.bound) (Ok b.bound) a.answer b.answer in
      let bounds : a.bound ≡ b.bound = cc in
      a.said ∙ (ap (λ (x : Sup). line (bound_text p.gens x)) bounds ∙ sym b.said)

  search_once : (row : List ℤ) (x y : PairOver) → SearchLeaves up row p.gens x → SearchLeaves up row p.gens y → x ≡ y
  search_once row x y a b = let same : no_bound x ≡ no_bound y = S up row p.gens a.0 (Err x) (Err y) a.1 b.1 in cc

  not_bound : (k : List ℕ) (o : Overflow) (row : List ℤ) → SaysBound up p k row → ShowsValues (SearchLeaves up row p.gens) row p.gens o → ⊥
  not_bound k o row a b = let same : bound_of a.bound ≡ no_bound b.pair = S up row p.gens a.fit (Ok a.bound) (Err b.pair) a.answer b.leaves.1 in cc

  abbrev ShowsRow : Overflow → List ℤ → Type 0
  ShowsRow o row = ShowsValues (SearchLeaves up row p.gens) row p.gens o

  pub bound_once : SaysOnce (bound up part p)
  bound_once = record {
    one_text = λ k l a b. bounds_once k l b.row (brought_row (SaysBound up p k) (SaysBound up p l) a b) b.holds;
    one_overflow = λ o u a b. shown_once (SearchLeaves up b.row p.gens) b.row p.gens o u (search_once b.row) (brought_row (ShowsRow o) (ShowsRow u) a b) b.holds;
    not_both = λ k o a b. not_bound k o b.row (brought_row (SaysBound up p k) (ShowsRow o) a b) b.holds;
  }
