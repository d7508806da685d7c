-- The points of polyhedra, and what their texts say.
use Rattle.std.proofs.Common.{◌≡◌, ◌≢◌, ◌↔◌, inl, inr, ℕ, ◌+◌, ◌<◌, ◌≤◌, ◌^◌, List, [], ◌++◌, length, refl, ap, sym, ◌∙◌, subst, arith, Bool, true, false, ℤ, pos, All}
use Rattle.std.specs.Prelude.{slice_index_or}
use Rattle.row_core.specs.Points.{IsPoint}
use Rattle.cons_sys.specs.declared.kind.ConKind.{ConKind}
use Rattle.cons_sys.specs.declared.kind.ConKind.TheVariants.{Eq, Ge, Gt}
use Rattle.cons_sys.specs.Constraints.{Constraint, Constraints, In, Satisfies}
use Rattle.gens_sys.specs.Generators.{Generator, Generators}
use Rattle.gens_sys.specs.declared.kind.GenKind.{GenKind}
use Rattle.gens_sys.specs.declared.kind.GenKind.TheVariants.{Line, Ray, Point, ClosurePoint}
use Rattle.gens_sys.specs.Spans.{Span}
use Rattle.stored_systems.specs.PointSets.{IsWithin, AreWide, IsClosedKind, IsClosedGenKind}
use Rattle.stored_systems.specs.StoredForms.{IsStored, false_row}
use Rattle.stored_systems.proofs.StoredPair.{pair_wide}
use Rattle.stored_systems.proofs.Stored.{stored_is_closed}
use Rattle.elapse.proofs.ElapseLaws.{false_for}
use Rattle.std.proofs.lemmas.List.Elements.{All-nil, All-cons, All-weaker}
use Rattle.poly_pair.specs.declared.topology.Topology.{Topology}
use Rattle.poly_pair.specs.declared.topology.Topology.TheVariants.{Closed, Nnc}
use Rattle.poly_pair.specs.Polyhedra as poly
use Rattle.poly_pair.specs.Polyhedra.{Polyhedron, IsKept}
use Rattle.lattice_ops.proofs.KeptSets.{constraint_for}
use Rattle.line_values.specs.Proper.{IsProper}
use Rattle.poly_pair.specs.TopologyConstraints as topology
use Rattle.poly_pair.specs.TopologyLists.{AreConstraintsFor, AreGeneratorsFor}
use Rattle.poly_pair.specs.declared.topology.TheConstants.{MAX_DIM}
use Rattle.script_text.specs.Line as readers
use Rattle.script_text.specs.declared.command.Command.{Command}
use Rattle.term_text.specs.Texts.{IsExpr, IsFrac, IsPoint as IsPointOfText}
use Rattle.term_text.specs.Systems.{IsCon, IsCons}
use Rattle.expr_text.specs.GeneratorSystems.{IsGens}
use Rattle.soundness.specs.Points.{PointSet, LackStrict, IsOver, IsSetOf, IsConstraintFor, IsInSmallest}
use Rattle.soundness.specs.Sets.{constraints, generators, LackClosurePoints}
use Rattle.soundness.specs.TextsExpressions.{ExpressionText, FractionText}
use Rattle.soundness.specs.TextsSystems.{ConstraintText, ConstraintsText, PointText, GeneratorsText}
use Rattle.soundness.specs.TextsLines.{Spells}

-- ---- texts
-- the text of constraints, which hold at the points of the system, and of which one is strict only
-- if one of these is
pub record SaysConstraints (dim : ℕ) (text : List ℕ) (system : Constraints) : Type 0 where
  pub list : List Constraint
  pub is_text : ConstraintsText dim text list
  pub same : (v : List ℤ) → In system v ↔ In (constraints dim list) v
  pub kinds : (nnc : Bool) → LackStrict nnc system.list → LackStrict nnc list

-- the text of generators, which generate the points of the system, behind any others, and of which
-- one is a closure point only if one of these is
pub record SaysGenerators (dim : ℕ) (text : List ℕ) (system : Generators) : Type 0 where
  pub list : List Generator
  pub is_text : GeneratorsText dim text list
  pub same : (own : List Generator) (v : List ℤ) → Span (generators dim (own ++ system.list)) v ↔ Span (generators dim (own ++ list)) v
  pub kinds : (nnc : Bool) → LackClosurePoints nnc system.list → LackClosurePoints nnc list

-- the text of a fraction with the divisor
pub record SaysFraction (dim : ℕ) (text : List ℕ) (row : List ℤ) (divisor : ℤ) : Type 0 where
  pub below : ℕ
  pub positive : 0 < below
  pub same : divisor ≡ pos below
  pub is_text : FractionText dim text row below

-- what a line or a text spells by the tables is spelled by the cases
pub record TextLaws : Type 0 where
  pub spelled : (line : List ℕ) (c : Command) → readers.Spells line c → Spells line c
  pub expression : (dim : ℕ) (text : List ℕ) (row : List ℤ) → IsExpr dim text row → ExpressionText dim text row
  pub fraction : (dim : ℕ) (text : List ℕ) (row : List ℤ) (divisor : ℤ) → IsFrac dim text row divisor → SaysFraction dim text row divisor
  pub point : (dim : ℕ) (text : List ℕ) (row : List ℤ) → IsPointOfText dim text row → PointText dim text row × IsPoint dim row
  pub constraint : (dim : ℕ) (text : List ℕ) (row : List ℤ) (kind : ConKind) → IsCon dim text row kind → ConstraintText dim text (row, kind)
  pub constraints : (dim : ℕ) (text : List ℕ) (system : Constraints) → IsCons dim text system → SaysConstraints dim text system
  pub generators : (dim : ℕ) (text : List ℕ) (system : Generators) → IsGens dim text system → SaysGenerators dim text system

-- ---- equivalences
pub via : {A B C : Type 0} → A ↔ B → B ↔ C → A ↔ C
via f g = (λ a. g.0 (f.0 a), λ c. f.1 (g.1 c))

pub turn : {A B : Type 0} → A ↔ B → B ↔ A
turn f = (f.1, f.0)

-- ---- the set of a polyhedron
abbrev pub is_nnc : Topology → Bool
is_nnc Closed = false
is_nnc Nnc = true

abbrev pub set_of : Polyhedron → PointSet
set_of p = record { nnc = is_nnc p.topology; cons = p.cons }

pub moved : (m n : ℕ) (v : List ℤ) → m ≡ n → IsPoint m v → IsPoint n v
moved m n v e is = subst (λ (k : ℕ). IsPoint k v) e is

pub within : (n : ℕ) (cs : Constraints) (v : List ℤ) → cs.dim ≡ n → IsPoint n v → In cs v → IsWithin cs v
within n cs v e is holds = record { point = moved n cs.dim v (sym e) is; holds = holds }

-- ---- constraints of a kind
not_strict : (kind : ConKind) → IsClosedKind kind → kind ≢ Gt
not_strict Eq h e = cc
not_strict Ge h e = cc
not_strict Gt h e = absurd h

kind_to : (t : Topology) (kind : ConKind) → topology.IsKindFor t kind → is_nnc t ≡ false → kind ≢ Gt
kind_to Closed kind h closed = not_strict kind h
kind_to Nnc kind h closed = cc

kind_from : (t : Topology) (kind : ConKind) → (is_nnc t ≡ false → kind ≢ Gt) → topology.IsKindFor t kind
kind_from Closed Eq h = tt
kind_from Closed Ge h = tt
kind_from Closed Gt h = absurd (h refl refl)
kind_from Nnc kind h = tt

-- those of a system for the topology
pub lack_strict : (t : Topology) (cs : Constraints) → AreConstraintsFor t cs → LackStrict (is_nnc t) cs.list
lack_strict Closed cs each closed = All-weaker (λ (c : Constraint). IsClosedKind c.1) (λ (c : Constraint). c.1 ≢ Gt) (λ c h. not_strict c.1 h) cs.list each
lack_strict Nnc cs each closed = cc

no_closure_point : (kind : GenKind) → IsClosedGenKind kind → kind ≢ ClosurePoint
no_closure_point Line h e = cc
no_closure_point Ray h e = cc
no_closure_point Point h e = cc
no_closure_point ClosurePoint h e = absurd h

pub lack_closure_points : (t : Topology) (gs : Generators) → AreGeneratorsFor t gs → LackClosurePoints (is_nnc t) gs.list
lack_closure_points Closed gs each closed = All-weaker (λ (g : Generator). IsClosedGenKind g.1) (λ (g : Generator). g.1 ≢ ClosurePoint) (λ g h. no_closure_point g.1 h) gs.list each
lack_closure_points Nnc gs each closed = cc

pub for_to : (t : Topology) (dim : ℕ) (c : Constraint) → topology.IsConstraintFor t dim c → IsConstraintFor (is_nnc t) dim c
for_to t dim c h = record { wide = h.wide; kind = kind_to t c.1 h.kind }

pub for_from : (t : Topology) (dim : ℕ) (c : Constraint) → IsConstraintFor (is_nnc t) dim c → topology.IsConstraintFor t dim c
for_from t dim c h = record { wide = h.wide; kind = kind_from t c.1 h.kind }

-- a polyhedron has no more variables than sets that are said
pub few_variables : (dim most : ℕ) → most ≡ dim → most ≤ MAX_DIM → dim ≤ 2 ^ 32
few_variables dim most e narrow = omega (arith, e, narrow)

-- a stored polyhedron has only constraints that its set may have
pub is_over : (t : Topology) (dim : ℕ) (p : Polyhedron) → IsProper p → poly.IsOver t dim p → IsOver (is_nnc t) dim (set_of p)
is_over t dim p proper over = record {
  kind = ap is_nnc over.same_topology;
  variables = over.same_dim;
  narrow = few_variables dim p.cons.dim over.same_dim proper.kept.narrow;
  rows = λ i d h. for_to t dim (slice_index_or p.cons.list i d) (constraint_for t dim p over proper.kept proper.cons i d h);
}

-- the stored constraints of a closed set have a column for each variable and one more
stored_wide : (cs : Constraints) (gs : Generators) → IsStored cs gs → AreWide cs
stored_wide cs gs (inl e) =
    subst (λ (xs : List Constraint). All (λ c. length c.0 ≡ cs.dim + 1) xs) (sym e.cons)
    (All-cons (λ (c : Constraint). length c.0 ≡ cs.dim + 1) (false_row cs.dim, Ge) [] (false_for Closed cs.dim).wide (All-nil (λ (c : Constraint). length c.0 ≡ cs.dim + 1)))
stored_wide cs gs (inr f) =
    subst (λ (xs : List Constraint). All (λ c. length c.0 ≡ cs.dim + 1) xs) (sym f.cons) (pair_wide cs.dim f.lines f.rays f.equalities f.inequalities f.systems)

-- so a closed polyhedron needs no more than what it keeps
pub closed_is_over : (dim : ℕ) (p : Polyhedron) → IsKept p → poly.IsOver Closed dim p → IsOver false dim (set_of p)
closed_is_over dim p kept over =
    let stored : IsStored p.cons p.gens = subst (λ (t : Topology). poly.IsStoredAs t p.cons p.gens) over.same_topology kept.stored in
    record {
      kind = ap is_nnc over.same_topology;
      variables = over.same_dim;
      narrow = few_variables dim p.cons.dim over.same_dim kept.narrow;
      rows = λ i d h. for_to Closed dim (slice_index_or p.cons.list i d) (record {
        wide = stored_wide p.cons p.gens stored i d h ∙ ap (λ (n : ℕ). n + 1) over.same_dim;
        kind = (stored_is_closed p.cons p.gens stored).cons i d h;
      });
    }

pub set_is : (t : Topology) (dim : ℕ) (Has : List ℤ → Type 0) (p : Polyhedron) → IsProper p → poly.IsOver t dim p → ((v : List ℤ) → IsPoint dim v → In p.cons v ↔ Has v) → IsSetOf (is_nnc t) dim Has (set_of p)
set_is t dim Has p proper over points = record { over = is_over t dim p proper over; points = points }

-- ---- the smallest set
-- the points at which each constraint holds that holds at all of some
pub smallest : (t : Topology) (dim : ℕ) (Has : List ℤ → Type 0) (Valid : Constraint → Type 0) → ((c : Constraint) → Valid c ↔ ((u : List ℤ) → Has u → Satisfies u c)) → (v : List ℤ) →
    ((c : Constraint) → topology.IsConstraintFor t dim c → Valid c → Satisfies v c) ↔ IsInSmallest (is_nnc t) dim Has v
smallest t dim Has Valid same v = (
  λ each. λ c for valid. each c (for_from t dim c for) ((same c).1 valid),
  λ least. λ c for valid. least c (for_to t dim c for) ((same c).0 valid),
)
