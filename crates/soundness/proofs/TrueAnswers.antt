-- The answers to questions about polyhedra are true of their points.
use Rattle.std.proofs.Common.{◌≡◌, inl, inr, ◌↔◌, ℕ, ◌+◌, ◌<◌, List, [], ◌∷◌, ◌++◌, length, arith, refl, ap, sym, ◌∙◌, subst, Bool, true, false, IsTrue, ℤ, Ok, codes, All}
use Rattle.std.proofs.lemmas.List.Elements.{All-cons, All-weaker}
use Rattle.std.specs.Fmt.{signed_decimal}
use Rattle.cdd_text.specs.Written.{ine_text, ext_text}
use Rattle.row_core.specs.Points.{IsPoint}
use Rattle.row_core.specs.Range.{InRange}
use Rattle.cons_sys.specs.Constraints as cons
use Rattle.cons_sys.specs.Constraints.{In}
use Rattle.gens_sys.specs.Generators as gens
use Rattle.gens_sys.specs.Generators.{Generator, generator_at, row_at, kind_at}
use Rattle.gens_sys.specs.declared.kind.GenKind.{GenKind}
use Rattle.gens_sys.specs.declared.kind.GenKind.TheVariants.{Line, Ray, Point, ClosurePoint}
use Rattle.gens_sys.specs.Spans.{Span}
use Rattle.stored_systems.specs.PointSets.{IsWithin}
use Rattle.stored_systems.specs.StoredLaws.{AreClosedForms}
use Rattle.stored_systems.proofs.Stored.{stored_is_closed}
use Rattle.poly_pair.specs.declared.topology.Topology.{Topology}
use Rattle.poly_pair.specs.declared.topology.Topology.TheVariants.{Closed, Nnc}
use Rattle.poly_pair.specs.ClosedPolyhedra.{IsClosedOver}
use Rattle.poly_pair.specs.KeptLaws.{KeptIsPair, KeptIsEmpty}
use Rattle.poly_pair.specs.FirstLists.{LacksPoint}
use Rattle.poly_pair.specs.Polyhedra.{Polyhedron, IsKept, IsStoredAs}
use Rattle.poly_pair.proofs.StoredLemmas.{kept_constraints, kept_generators}
use Rattle.expr_text.specs.Printed.{constraints_text, generators_text, generator_list_text, generator_text}
use Rattle.expr_text.specs.ReadBack.{ConstraintsAreReadBack, GeneratorsAreReadBack}
use Rattle.expr_text.specs.GeneratorSystems.{IsGens}
use Rattle.optimum.specs.Laws.{GeneratorIsWitness}
use Rattle.optimum.specs.Search.{IsPointKind}
use Rattle.optimum.specs.Suprema.{SupAnswer, IsTrueSup}
use Rattle.optimum.specs.declared.outcome.Sup.{Sup}
use Rattle.optimum.specs.declared.outcome.Sup.TheVariants as sup
use Rattle.optimum.proofs.AnswerRange.{found_in_range}
use Rattle.widening.specs.WideningLaws.{WideningIncludes}
use Rattle.script_text.specs.declared.command.Part.{Part}
use Rattle.script_text.specs.declared.command.Comparison.{Comparison}
use Rattle.script_text.specs.declared.command.Comparison.TheVariants.{Contains, Equal, Disjoint}
use Rattle.script_text.specs.declared.command.Extremum.{Extremum}
use Rattle.script_text.specs.declared.command.Extremum.TheVariants.{Max, Min}
use Rattle.line_values.specs.Proper.{IsProper}
use Rattle.line_values.specs.Meaning.{IsTold, answer_line}
use Rattle.line_values.specs.Operands as operands
use Rattle.line_values.specs.Order.{Conditions, Passes}
use Rattle.poly_questions.specs.Questions as questions
use Rattle.poly_questions.specs.Optima as optima
use Rattle.poly_questions.specs.Lattice.{compared}
use Rattle.poly_questions.specs.Files.{file_of}
use Rattle.poly_makers.specs.Widening.{nested, IsWidened}
use Rattle.soundness.specs.Points.{IsSetOf, AreAlike, Includes}
use Rattle.soundness.specs.Sets.{constraints, generators, LackClosurePoints, IsWidening}
use Rattle.soundness.specs.Answers.{as_line, Tells, TellsWhether, LieSo, TellsRelation, is_max, attained_text, witness_kind, IsWitness, IsShort, TellsExtremeOf, TellsExtreme, TellsGenerators, TellsSystem, TellsSize}
use Rattle.soundness.specs.TextsSystems.{GeneratorsText, no_generator}
use Rattle.soundness.specs.FileLines.{IsVectorOf}
use Rattle.soundness.specs.Files.{TellsFile, as_listed}
use Rattle.soundness.proofs.FileWrites.{IsTextOf, ine_writes, ext_writes}
use Rattle.soundness.proofs.MadeSets.{own_generate}
use Rattle.soundness.proofs.PointLaws.{TextLaws, via, turn, is_nnc, set_of, lack_strict, lack_closure_points, set_is, is_over, closed_is_over, moved, for_from}
use Rattle.soundness.proofs.TextTokens.{token_is}
use Rattle.soundness.proofs.Operands.{one_topology, one_number}

-- the laws that are cited: both stored systems hold the same points, and there is no generator
-- where there is none; what is printed is read back; the generator of a bound shows it; a widening
-- includes the larger set
pub record PolyLaws : Type 0 where
  pub pair : KeptIsPair
  pub empty : KeptIsEmpty
  pub cons : ConstraintsAreReadBack
  pub gens : GeneratorsAreReadBack
  pub witness : GeneratorIsWitness
  pub widening : WideningIncludes

-- ---- what each polyhedron keeps
stored_dims : (t : Topology) (p : Polyhedron) → IsStoredAs t p.cons p.gens → p.gens.dim ≡ p.cons.dim
stored_dims Closed p (inl e) = e.same_dim
stored_dims Closed p (inr f) = f.same_dim
stored_dims Nnc p (inl e) = e.same_dim
stored_dims Nnc p (inr f) = f.same_dim

pub kept_dims : (p : Polyhedron) → IsKept p → p.gens.dim ≡ p.cons.dim
kept_dims p kept = stored_dims p.topology p kept.stored

pub same_dims : (p : Polyhedron) → IsProper p → p.gens.dim ≡ p.cons.dim
same_dims p a = kept_dims p a.kept

-- ---- yes and no
never : false ≡ true → ⊥
never e = cc

pub told : (Statement : Type 0) (reply : List ℕ) (holds : Bool) → IsTrue holds ↔ Statement → reply ≡ answer_line holds → Tells Statement reply
told Statement reply true same said = inl (same.0 refl, said)
told Statement reply false same said = inr (λ s. never (same.1 s), said)

pub told_so : (Statement : Type 0) (reply : List ℕ) → IsTold Statement reply → Tells Statement reply
told_so Statement reply h = told Statement reply h.holds h.true_of h.said

pub has_true : TextLaws → (part : Part) (p : Polyhedron) (reply : List ℕ) → questions.SaysPoint p.cons.dim part (questions.Tells p.cons reply) → TellsWhether part (set_of p) reply
has_true laws part p reply h =
    let text = laws.point p.cons.dim part.text h.point h.read in
    record { point = h.point; text = text.0; is_point = text.1; tells = told (In p.cons h.point) reply h.holds.holds h.holds.true_of_point h.holds.said }

included : (p q : Polyhedron) (reply : List ℕ) → AreAlike (set_of p) (set_of q) → IsTold ((v : List ℤ) → IsPoint q.cons.dim v → In q.cons v → In p.cons v) reply → Tells (Includes (set_of p) (set_of q)) reply
included p q reply alike h =
    told (Includes (set_of p) (set_of q)) reply h.holds
    (via h.true_of (λ x. λ v is. x v (moved p.cons.dim q.cons.dim v alike.variables is), λ x. λ v is. x v (moved q.cons.dim p.cons.dim v (sym alike.variables) is))) h.said

pub compared_true : (by : Comparison) (p q : Polyhedron) (reply : List ℕ) → AreAlike (set_of p) (set_of q) → (compared by p q).does reply → Tells (LieSo by (set_of p) (set_of q)) reply
compared_true Contains p q reply alike h = included p q reply alike h.told
compared_true Equal p q reply alike h = told_so (LieSo Equal (set_of p) (set_of q)) reply h.told
compared_true Disjoint p q reply alike h = told_so (LieSo Disjoint (set_of p) (set_of q)) reply h

-- ---- a constraint
pub relation_true : TextLaws → (part : Part) (p : Polyhedron) (reply : List ℕ) → optima.SaysConstraint p.cons.dim part (optima.SaysRelation p reply) → TellsRelation part (set_of p) reply
relation_true laws part p reply h = record {
  constraint = (h.row, h.kind);
  text = laws.constraint p.cons.dim part.text h.row h.kind h.read;
  disjoint = h.holds.flags.disjoint;
  intersects = h.holds.flags.intersects;
  included = h.holds.flags.included;
  saturates = h.holds.flags.saturates;
  said = h.holds.said;
  nowhere = h.holds.answer.1.disjoint;
  divided = h.holds.answer.1.intersects;
  throughout = h.holds.answer.1.included;
  equal = h.holds.answer.1.saturates;
}

-- ---- extreme values
shows : PolyLaws → (up : Bool) (row : List ℤ) (p : Polyhedron) (num den : ℤ) (attained : Bool) (index : ℕ) → IsProper p → SupAnswer up row p.gens (Ok (sup.At num den attained index)) → IsWitness row (set_of p) num den attained (generator_at p.gens.list index).0
shows laws up row p num den attained index proper answer =
    let w = laws.witness up row p num den attained index proper.kept proper.gens answer in
    record { point = w.point; near = λ c for valid. w.closure c (for_from Closed p.cons.dim c for).kind valid; inside = w.inside; value = w.value }

-- a number of the range is printed whole
short : (z : ℤ) → InRange z → IsShort z
short z r = omega (arith, r.size)

shown_short : (up : Bool) (row : List ℤ) (p : Polyhedron) (num den : ℤ) (attained : Bool) (index : ℕ) → IsProper p → length row ≡ p.cons.dim + 1 → SupAnswer up row p.gens (Ok (sup.At num den attained index)) → All IsShort (num ∷ den ∷ row_at p.gens.list index)
shown_short up row p num den attained index proper wide answer =
    let v = row_at p.gens.list index in
    let r = found_in_range up p proper.kept proper.gens row wide num den attained index answer in
    All-cons IsShort num (den ∷ v) (short num r.0) (All-cons IsShort den v (short den r.1) (All-weaker InRange IsShort short v (proper.gens.each index ([], Line) answer.best.below).in_range))

-- the generator of a bound is a point of the set where the bound is attained, and else a closure
-- point
kind_shown : (attained : Bool) (kind : GenKind) → IsTrue attained ↔ kind ≡ Point → IsPointKind kind → kind ≡ witness_kind attained
kind_shown true kind same is = same.0 refl
kind_shown false Line same is = absurd is
kind_shown false Ray same is = absurd is
kind_shown false Point same is = absurd (never (same.1 refl))
kind_shown false ClosurePoint same is = refl

bound_true : PolyLaws → (up : Bool) (row : List ℤ) (p : Polyhedron) (reply : List ℕ) (b : Sup) → IsProper p → length row ≡ p.cons.dim + 1 → SupAnswer up row p.gens (Ok b) → IsTrueSup up row p b → reply ≡ as_line (optima.bound_text p.gens b) → TellsExtremeOf up row (set_of p) reply
bound_true laws up row p reply sup.Empty proper wide answer true_of said = inl (true_of, said)
bound_true laws up row p reply sup.Unbounded proper wide answer true_of said = inr (inl (true_of, said))
bound_true laws up row p reply (sup.At num den attained index) proper wide answer true_of said =
    let v = row_at p.gens.list index in
    let kind : kind_at p.gens.list index ≡ witness_kind attained = kind_shown attained (kind_at p.gens.list index) answer.point answer.best.kind in
    inr (inr (record {
      num = num;
      den = den;
      attained = attained;
      bound = true_of;
      witness = v;
      is_witness = shows laws up row p num den attained index proper answer;
      short = shown_short up row p num den attained index proper wide answer;
      said = said ∙ (ap (λ (n : ℕ). text_of n (kind_at p.gens.list index)) (same_dims p proper) ∙ ap (λ (k : GenKind). text_of p.cons.dim k) kind);
    }))
  where
    text_of : ℕ → GenKind → List ℕ
    text_of n k = as_line (signed_decimal num ++ codes "/" ++ signed_decimal den ++ attained_text attained ++ generator_text n (row_at p.gens.list index, k))

max_same : (extremum : Extremum) → operands.is_max extremum ≡ is_max extremum
max_same Max = refl
max_same Min = refl

pub extreme_true : TextLaws → PolyLaws → (extremum : Extremum) (part : Part) (p : Polyhedron) (reply : List ℕ) → IsProper p → optima.SaysExpression p.cons.dim part (optima.SaysBound (operands.is_max extremum) p reply) → TellsExtreme extremum part (set_of p) reply
extreme_true texts laws extremum part p reply proper h = record {
  row = h.row;
  text = texts.expression p.cons.dim part.text h.row h.read;
  tells = subst (λ (up : Bool). TellsExtremeOf up h.row (set_of p) reply) (max_same extremum) (bound_true laws (operands.is_max extremum) h.row p reply h.holds.bound proper h.read.holds.sums.wide h.holds.answer h.holds.true_of h.holds.said);
}

-- ---- systems
own_gens : PolyLaws → (p : Polyhedron) → IsKept p → (v : List ℤ) → IsPoint p.cons.dim v → Span (generators p.cons.dim p.gens.list) v ↔ In p.cons v
own_gens laws p kept v is =
    turn (via (laws.pair p kept v is) (subst (λ (n : ℕ). Span p.gens v ↔ Span (generators n p.gens.list) v) (kept_dims p kept) (λ x. x, λ x. x)))

-- the set of a polyhedron, where these are its points
own_set : (p : Polyhedron) → IsProper p → (Has : List ℤ → Type 0) → ((v : List ℤ) → IsPoint p.cons.dim v → In p.cons v ↔ Has v) → IsSetOf (is_nnc p.topology) p.cons.dim Has (set_of p)
own_set p proper Has points = set_is p.topology p.cons.dim Has p proper (record { same_topology = refl; same_dim = refl }) points

pub size_true : PolyLaws → (p : Polyhedron) (reply : List ℕ) → IsProper p → reply ≡ as_line (questions.size_text p) → TellsSize (set_of p) reply
size_true laws p reply proper said = record { constraints_are = p.cons.list; generators_are = p.gens.list; hold = own_set p proper (In p.cons) (λ v is. (λ x. x, λ x. x)); generate = own_generate p proper (same_dims p proper) (laws.pair p proper.kept) (laws.empty p proper.kept).1; said = said }

no_text : (dim : ℕ) → GeneratorsText dim (codes "none") []
no_text dim = record { pieces = codes "none" ∷ []; split = token_is (codes "none") (codes "none") refl; means = no_generator }

own_closure_points : (p : Polyhedron) → IsProper p → LackClosurePoints (is_nnc p.topology) p.gens.list
own_closure_points p proper = lack_closure_points p.topology p.gens (kept_generators p proper.kept)

-- the generators that are printed; none where none is stored
gens_told : TextLaws → PolyLaws → (p : Polyhedron) (reply : List ℕ) (list : List Generator) → p.gens.list ≡ list → IsProper p → reply ≡ as_line (generators_text p.gens) → TellsGenerators (set_of p) reply
gens_told texts laws p reply [] e proper said = record {
  text = codes "none";
  said = said ∙ ap (λ (l : List Generator). as_line (generator_list_text p.gens.dim l)) e;
  is = record { list = []; says = no_text p.cons.dim; kinds = subst (λ (l : List Generator). LackClosurePoints (is_nnc p.topology) l) e (own_closure_points p proper); set = own_set p proper (Span (generators p.cons.dim [])) (λ v is. turn (subst (λ (l : List Generator). Span (generators p.cons.dim l) v ↔ In p.cons v) e (own_gens laws p proper.kept v is))) };
  none = λ empty. refl;
}
gens_told texts laws p reply (g ∷ list) e proper said =
    let read = subst (λ (n : ℕ). IsGens n (generators_text p.gens) p.gens) (same_dims p proper) ((laws.gens p.gens p.gens proper.gens).1 refl) in
    let says = texts.generators p.cons.dim (generators_text p.gens) p.gens read in
    record {
      text = generators_text p.gens;
      said = said;
      is = record { list = says.list; says = says.is_text; kinds = says.kinds (is_nnc p.topology) (own_closure_points p proper); set = own_set p proper (Span (generators p.cons.dim says.list)) (λ v is. via (turn (own_gens laws p proper.kept v is)) (says.same [] v)) };
      none = λ empty. (let no : g ∷ list ≡ [] = sym e ∙ (laws.empty p proper.kept).1 empty in cc);
    }

pub side_true : TextLaws → PolyLaws → (side : Bool) (p : Polyhedron) (reply : List ℕ) → IsProper p → reply ≡ as_line (questions.side_text side p) → TellsSystem side (set_of p) reply
side_true texts laws false p reply proper said =
    let says = texts.constraints p.cons.dim (constraints_text p.cons) p.cons ((laws.cons p.cons p.cons proper.cons).1 refl) in
    record { text = constraints_text p.cons; said = said; is = record { list = says.list; says = says.is_text; kinds = says.kinds (is_nnc p.topology) (lack_strict p.topology p.cons (kept_constraints p proper.kept)); set = own_set p proper (In (constraints p.cons.dim says.list)) (λ v is. says.same v) } }
side_true texts laws true p reply proper said = gens_told texts laws p reply p.gens.list refl proper said

-- ---- files
closed_forms : (p : Polyhedron) → IsKept p → p.topology ≡ Closed → AreClosedForms p.cons p.gens
closed_forms p kept closed = stored_is_closed p.cons p.gens (subst (λ (t : Topology). IsStoredAs t p.cons p.gens) closed kept.stored)

-- where there are generators some is a point
no_lack : PolyLaws → (p : Polyhedron) → IsKept p → ¬ (LacksPoint p.gens.list)
no_lack laws p kept lacks = no_element (subst (λ (list : List Generator). 0 < length list) ((laws.empty p kept).1 none_within) lacks.some)
  where
    none_within : (v : List ℤ) → ¬ (IsWithin p.cons v)
    none_within v w =
        let s : Span p.gens v = (laws.pair p kept v w.point).0 w.holds in
        lacks.none s.point.index s.point.within s.point.kind

    no_element : 0 < 0 → ⊥
    no_element z = omega arith

pub ine_side : (p : Polyhedron) (reply : List ℕ) → IsKept p → p.topology ≡ Closed → cons.FitDimension p.cons → reply ≡ ine_text p.cons → TellsFile false (set_of p) reply
ine_side p reply kept closed fit said =
    let w = ine_writes p.cons fit (closed_forms p kept closed).cons in
    record {
      marked = w.marked;
      type = w.type;
      rows = w.rows;
      typed = w.typed;
      wide = w.wide;
      begun = w.begun;
      marks = w.marks;
      said = said ∙ w.text_is;
      set = record { list = p.cons.list; say = w.says; set = record { over = closed_is_over p.cons.dim p kept (record { same_topology = closed; same_dim = refl }); points = λ v is. (λ x. x, λ x. x) } };
    }

pub ext_side : PolyLaws → (p : Polyhedron) (reply : List ℕ) → IsKept p → p.topology ≡ Closed → gens.FitDimension p.gens → reply ≡ ext_text p.gens → TellsFile true (set_of p) reply
ext_side laws p reply kept closed fit said =
    let own : IsTextOf true (ext_text p.gens) (p.gens.dim + 1) (IsVectorOf p.gens.dim) p.gens.list = ext_writes p.gens fit (λ i d h. ((closed_forms p kept closed).gens i d h).kind) in
    let w = subst (λ (n : ℕ). IsTextOf true (ext_text p.gens) (n + 1) (IsVectorOf n) p.gens.list) (kept_dims p kept) own in
    record {
      marked = w.marked;
      type = w.type;
      rows = w.rows;
      typed = w.typed;
      wide = w.wide;
      begun = w.begun;
      marks = w.marks;
      said = said ∙ w.text_is;
      set = record {
        listed = p.gens.list;
        say = w.says;
        list = p.gens.list;
        origin = as_listed (no_lack laws p kept);
        set = record { over = closed_is_over p.cons.dim p kept (record { same_topology = closed; same_dim = refl }); points = λ v is. turn (own_gens laws p kept v is) };
      };
    }

pub file_true : PolyLaws → (ext : Bool) (p : Polyhedron) (reply : List ℕ) → IsProper p → p.topology ≡ Closed → reply ≡ file_of ext p → TellsFile ext (set_of p) reply
file_true laws false p reply proper closed said = ine_side p reply proper.kept closed proper.cons said
file_true laws true p reply proper closed said = ext_side laws p reply proper.kept closed proper.gens said

-- ---- a widening
pub widen_made : PolyLaws → (p q r : Polyhedron) (others : Conditions) → IsProper p → IsProper q → IsProper r → Passes (nested p q others) → IsWidened p q r → IsWidening (set_of p) (set_of q) (set_of r)
widen_made laws p q r others proper_p proper_q fit passes h =
    let same : p.topology ≡ q.topology = one_topology p.topology q.topology passes.1.0 in
    let closed : p.topology ≡ Closed = one_topology p.topology Closed passes.1.1.0 in
    let dims : p.cons.dim ≡ q.cons.dim = one_number p.cons.dim q.cons.dim passes.1.1.1.0 in
    let closed_p : IsClosedOver p.cons.dim p = record { kept = proper_p.kept; over = record { same_topology = closed; same_dim = refl } } in
    let closed_q : IsClosedOver p.cons.dim q = record { kept = proper_q.kept; over = record { same_topology = sym same ∙ closed; same_dim = sym dims } } in
    let over = h.widening.over in
    let second = laws.widening p q r closed_p closed_q h.nested h.widening in
    record {
      alike = record { kind = ap is_nnc same; variables = dims };
      closed = ap is_nnc closed;
      nested = λ v is holds. h.nested v (moved q.cons.dim p.cons.dim v (sym dims) is) holds;
      same = is_over p.topology p.cons.dim r fit (record { same_topology = over.same_topology ∙ sym closed; same_dim = over.same_dim });
      first = λ v is holds. (let on_p = moved r.cons.dim p.cons.dim v over.same_dim is in second v (moved p.cons.dim q.cons.dim v dims on_p) (h.nested v on_p holds));
      second = λ v is holds. second v (moved r.cons.dim q.cons.dim v (over.same_dim ∙ dims) is) holds;
    }
