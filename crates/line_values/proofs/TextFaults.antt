-- The first fault of a text, by what its reader answers.
use Rattle.std.proofs.Common.{◌≡◌, ℕ, List, Bool, true, false, refl, sym, ◌∙◌, subst, inl, inr, arith}
use Rattle.std.specs.Prelude.{ℤ, pos, ◌<ℤ◌, ◌<◌, MatchBool}
use Rattle.std.proofs.lemmas.Int.{ints}
use Rattle.grammar.specs.Form.{Form, Matches}
use Rattle.grammar.specs.Grammar.{alone}
use Rattle.grammar.specs.Cases.{con_cases, expr_cases, gens_cases, point_cases}
use Rattle.cons_sys.specs.Constraints.{Constraint, Constraints}
use Rattle.cons_sys.specs.declared.kind.ConKind.{ConKind}
use Rattle.gens_sys.specs.Generators.{Generators}
use Rattle.poly_pair.specs.TopologyLists.{AreConstraintsFor, AreGeneratorsFor}
use Rattle.poly_pair.specs.declared.topology.Topology.{Topology}
use Rattle.poly_pair.specs.declared.topology.Topology.TheVariants.{Closed, Nnc}
use Rattle.reply_text.specs.declared.faults.Fault.{Fault}
use Rattle.reply_text.specs.declared.faults.Fault.TheVariants.{Syntax, OutOfRange, NumberTooLarge, ZeroDivisor, StrictInClosed, ZeroVector}
use Rattle.reply_text.specs.declared.faults.ReadErr.{ReadErr}
use Rattle.reply_text.specs.declared.faults.ReadErr.TheVariants.{Input, Memory}
use Rattle.term_text.specs.declared.terms.ValueErr.{ValueErr}
use Rattle.term_text.specs.declared.terms.ValueErr.TheVariants as value
use Rattle.term_text.specs.Texts.{IsExpr, IsExprFault, IsPoint, IsPointFault}
use Rattle.term_text.specs.Systems.{IsCon, IsConFault, IsCons, IsConsFault}
use Rattle.expr_text.specs.GeneratorSystems.{IsGens, IsGensFault}
use Rattle.expr_text.specs.OneAnswer.{HasOneAnswer, ExprHasOneAnswer, ConHasOneAnswer, ConsHasOneAnswer, GensHasOneAnswer, PointHasOneAnswer}
use Rattle.expr_text.specs.Refusals.{IsRefused, IsTextFault, IsValueFault}
use Rattle.script_text.specs.Commands.{is_strict}
use Rattle.script_text.specs.declared.command.Part.{Part}
use Rattle.line_values.specs.Refusals.{refusal_of_text}
use Rattle.line_values.specs.Order.{IsFirstOf, NoneOf}
use Rattle.line_values.specs.Texts.{text_order, IsStrictIn, constraints_fault, generators_fault, point_fault, value_fault, constraint_fault, expression_fault, IsTextRefusal, refusal_of_unread, ReadsConstraints, ReadsGenerators, ReadsPoint, ReadsConstraint, ReadsExpression}
use Rattle.line_values.proofs.StrictTexts.{closed_constraints, closed_generators}

not_true : (b : Bool) → ¬ (b ≡ true) → b ≡ false
not_true true h = absurd (h refl)
not_true false h = refl

-- ---- constraints
pub constraints_refused : (t : Topology) (dim : ℕ) (part : Part) (cause : ValueErr) → ConsHasOneAnswer → IsConsFault dim part.text cause → IsTextRefusal (constraints_fault t dim part) (refusal_of_text cause)
constraints_refused t dim part value.OutOfRange law is = inl (is, refl)
constraints_refused t dim part value.TooLarge law is =
    inr (λ k. let same : OutOfRange ≡ NumberTooLarge = (law dim part.text).one_fault OutOfRange NumberTooLarge k is in cc, inl (is, refl))
constraints_refused t dim part value.ZeroDivisor law is = absurd is.holds
constraints_refused t dim part value.Memory law is = tt

pub constraints_strict : (t : Topology) (dim : ℕ) (part : Part) (system : Constraints) → ConsHasOneAnswer → IsCons dim part.text system → IsStrictIn t part → IsFirstOf text_order (constraints_fault t dim part) StrictInClosed
constraints_strict t dim part system law is strict =
    inr (λ k. (law dim part.text).not_both system OutOfRange is k, inr (λ k. (law dim part.text).not_both system NumberTooLarge is k, inr (λ k. k, inl (strict, refl))))

-- a text that isn't refused as strict says constraints that the topology may have
constraint_kinds : (t : Topology) (dim : ℕ) (part : Part) (system : Constraints) → IsCons dim part.text system → part.strict ≡ is_strict part.text → ¬ (IsStrictIn t part) → AreConstraintsFor t system
constraint_kinds Closed dim part system is told calm = closed_constraints dim part.text system (sym told ∙ not_true part.strict calm) is
constraint_kinds Nnc dim part system is told calm = tt

pub constraints_said : (t : Topology) (dim : ℕ) (part : Part) (system : Constraints) → ConsHasOneAnswer → IsCons dim part.text system → part.strict ≡ is_strict part.text → ¬ (IsStrictIn t part) → ReadsConstraints t dim part system
constraints_said t dim part system law is told calm = record {
  faultless = (λ k. (law dim part.text).not_both system OutOfRange is k, (λ k. (law dim part.text).not_both system NumberTooLarge is k, (λ k. k, (calm, (λ k. k, (λ k. k, tt))))));
  read = is;
  kinds = constraint_kinds t dim part system is told calm;
}

-- ---- generators
-- a text of generators has one fault
apart : (dim : ℕ) (text : List ℕ) (d e : Fault) → GensHasOneAnswer → IsTextFault gens_cases text (IsGensFault dim text) d → IsTextFault gens_cases text (IsGensFault dim text) e → d ≡ e
apart dim text d e law h k = (law dim text).one_fault d e h k

pub generators_refused : (t : Topology) (dim : ℕ) (part : Part) (e : ReadErr) (b : Bool) → MatchBool b (IsStrictIn t part) (¬ (IsStrictIn t part)) → GensHasOneAnswer → Matches (alone gens_cases) part.text → IsRefused gens_cases part.text (IsGensFault dim part.text) e → IsTextRefusal (generators_fault t dim part) (refusal_of_unread e b)
generators_refused t dim part (Input (Syntax column)) b told law form is = absurd (is.not form)
generators_refused t dim part (Input OutOfRange) b told law form is = inl (is, refl)
generators_refused t dim part (Input NumberTooLarge) b told law form is =
    inr (λ k. let same : OutOfRange ≡ NumberTooLarge = apart dim part.text OutOfRange NumberTooLarge law k is in cc, inl (is, refl))
generators_refused t dim part (Input ZeroDivisor) b told law form is =
    inr (λ k. let same : OutOfRange ≡ ZeroDivisor = apart dim part.text OutOfRange ZeroDivisor law k is in cc, inr (λ k. let same : NumberTooLarge ≡ ZeroDivisor = apart dim part.text NumberTooLarge ZeroDivisor law k is in cc, inl (is, refl)))
generators_refused t dim part (Input ZeroVector) true told law form is =
    inr (λ k. let same : OutOfRange ≡ ZeroVector = apart dim part.text OutOfRange ZeroVector law k is in cc, inr (λ k. let same : NumberTooLarge ≡ ZeroVector = apart dim part.text NumberTooLarge ZeroVector law k is in cc, inr (λ k. let same : ZeroDivisor ≡ ZeroVector = apart dim part.text ZeroDivisor ZeroVector law k is in cc, inl (told, refl))))
generators_refused t dim part (Input ZeroVector) false told law form is =
    inr (λ k. let same : OutOfRange ≡ ZeroVector = apart dim part.text OutOfRange ZeroVector law k is in cc, inr (λ k. let same : NumberTooLarge ≡ ZeroVector = apart dim part.text NumberTooLarge ZeroVector law k is in cc, inr (λ k. let same : ZeroDivisor ≡ ZeroVector = apart dim part.text ZeroDivisor ZeroVector law k is in cc, inr (told, inr (λ k. k, inl (is, refl))))))
generators_refused t dim part (Input other) b told law form is = absurd is.holds
generators_refused t dim part Memory b told law form is = tt

pub generators_strict : (t : Topology) (dim : ℕ) (part : Part) (system : Generators) → GensHasOneAnswer → IsGens dim part.text system → IsStrictIn t part → IsFirstOf text_order (generators_fault t dim part) StrictInClosed
generators_strict t dim part system law is strict =
    inr (λ k. (law dim part.text).not_both system OutOfRange is k, inr (λ k. (law dim part.text).not_both system NumberTooLarge is k, inr (λ k. (law dim part.text).not_both system ZeroDivisor is k, inl (strict, refl))))

-- a text that isn't refused as strict says generators that the topology may have
generator_kinds : (t : Topology) (dim : ℕ) (part : Part) (system : Generators) → IsGens dim part.text system → part.strict ≡ is_strict part.text → ¬ (IsStrictIn t part) → AreGeneratorsFor t system
generator_kinds Closed dim part system is told calm = closed_generators dim part.text system (sym told ∙ not_true part.strict calm) is
generator_kinds Nnc dim part system is told calm = tt

pub generators_said : (t : Topology) (dim : ℕ) (part : Part) (system : Generators) → GensHasOneAnswer → IsGens dim part.text system → part.strict ≡ is_strict part.text → ¬ (IsStrictIn t part) → ReadsGenerators t dim part system
generators_said t dim part system law is told calm = record {
  faultless = (λ k. (law dim part.text).not_both system OutOfRange is k, (λ k. (law dim part.text).not_both system NumberTooLarge is k, (λ k. (law dim part.text).not_both system ZeroDivisor is k, (calm, (λ k. k, (λ k. (law dim part.text).not_both system ZeroVector is k, tt))))));
  read = is;
  kinds = generator_kinds t dim part system is told calm;
}

-- ---- points
point_apart : (dim : ℕ) (text : List ℕ) (d e : Fault) → PointHasOneAnswer → IsTextFault point_cases text (IsValueFault (IsPointFault dim text)) d → IsTextFault point_cases text (IsValueFault (IsPointFault dim text)) e → d ≡ e
point_apart dim text d e law h k = (law dim text).one_fault d e h k

pub point_refused : (dim : ℕ) (part : Part) (cause : ValueErr) → PointHasOneAnswer → IsPointFault dim part.text cause → IsTextRefusal (point_fault dim part) (refusal_of_text cause)
point_refused dim part value.OutOfRange law is = inl (is, refl)
point_refused dim part value.TooLarge law is =
    inr (λ k. let same : OutOfRange ≡ NumberTooLarge = point_apart dim part.text OutOfRange NumberTooLarge law k is in cc, inl (is, refl))
point_refused dim part value.ZeroDivisor law is =
    inr (λ k. let same : OutOfRange ≡ ZeroDivisor = point_apart dim part.text OutOfRange ZeroDivisor law k is in cc, inr (λ k. let same : NumberTooLarge ≡ ZeroDivisor = point_apart dim part.text NumberTooLarge ZeroDivisor law k is in cc, inl (is, refl)))
point_refused dim part value.Memory law is = tt

positive_number : (n : ℕ) → 0 < n → pos 0 <ℤ pos n
positive_number n h = omega (arith, ints)

pub point_said : (dim : ℕ) (part : Part) (row : List ℤ) → PointHasOneAnswer → IsPoint dim part.text row → ReadsPoint dim part row
point_said dim part row law is = record {
  faultless = (λ k. (law dim part.text).not_both row OutOfRange is k, (λ k. (law dim part.text).not_both row NumberTooLarge is k, (λ k. (law dim part.text).not_both row ZeroDivisor is k, (λ k. k, (λ k. k, (λ k. k, tt))))));
  read = is;
  point = record { wide = is.holds.wide; positive = subst (λ (z : ℤ). pos 0 <ℤ z) (sym is.holds.last) (positive_number _ is.holds.positive) };
}

-- ---- texts of one value
module _ (form : Form) (text : List ℕ) (V : Type 0) (IsValue : V → Type 0) (Lacks : ValueErr → Type 0) (one : HasOneAnswer IsValue (IsTextFault form text (IsValueFault Lacks))) where
  value_refused : (cause : ValueErr) → Lacks cause → IsTextRefusal (value_fault Lacks) (refusal_of_text cause)
  value_refused value.OutOfRange is = inl (is, refl)
  value_refused value.TooLarge is = inr (λ k. let same : OutOfRange ≡ NumberTooLarge = one.one_fault OutOfRange NumberTooLarge k is in cc, inl (is, refl))
  value_refused value.ZeroDivisor is =
      inr (λ k. let same : OutOfRange ≡ ZeroDivisor = one.one_fault OutOfRange ZeroDivisor k is in cc, inr (λ k. let same : NumberTooLarge ≡ ZeroDivisor = one.one_fault NumberTooLarge ZeroDivisor k is in cc, inl (is, refl)))
  value_refused value.Memory is = tt

  value_said : (v : V) → IsValue v → NoneOf text_order (value_fault Lacks)
  value_said v is = (λ k. one.not_both v OutOfRange is k, (λ k. one.not_both v NumberTooLarge is k, (λ k. one.not_both v ZeroDivisor is k, (λ k. k, (λ k. k, (λ k. k, tt))))))

abbrev IsConstraintOf : ℕ → List ℕ → Constraint → Type 0
IsConstraintOf dim text c = IsCon dim text c.0 c.1

pub constraint_refused : (dim : ℕ) (part : Part) (cause : ValueErr) → ConHasOneAnswer → IsConFault dim part.text cause → IsTextRefusal (constraint_fault dim part) (refusal_of_text cause)
constraint_refused dim part cause law is = value_refused con_cases part.text Constraint (IsConstraintOf dim part.text) (IsConFault dim part.text) (law dim part.text) cause is

pub constraint_said : (dim : ℕ) (part : Part) (row : List ℤ) (kind : ConKind) → ConHasOneAnswer → IsCon dim part.text row kind → ReadsConstraint dim part row kind
constraint_said dim part row kind law is =
    record { faultless = value_said con_cases part.text Constraint (IsConstraintOf dim part.text) (IsConFault dim part.text) (law dim part.text) (row, kind) is; read = is; wide = is.holds.sums.wide }

pub expression_refused : (dim : ℕ) (part : Part) (cause : ValueErr) → ExprHasOneAnswer → IsExprFault dim part.text cause → IsTextRefusal (expression_fault dim part) (refusal_of_text cause)
expression_refused dim part cause law is = value_refused expr_cases part.text (List ℤ) (IsExpr dim part.text) (IsExprFault dim part.text) (law dim part.text) cause is

pub expression_said : (dim : ℕ) (part : Part) (row : List ℤ) → ExprHasOneAnswer → IsExpr dim part.text row → ReadsExpression dim part row
expression_said dim part row law is = record { faultless = value_said expr_cases part.text (List ℤ) (IsExpr dim part.text) (IsExprFault dim part.text) (law dim part.text) row is; read = is; wide = is.holds.sums.wide }
