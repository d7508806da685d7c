-- The first fault of a text of an expression with a divisor, by what its reader answers.
use Rattle.std.proofs.Common.{◌≡◌, ◌⊎◌, ℕ, ◌<◌, ◌≤◌, List, refl, inl, inr, arith}
use Rattle.std.specs.Prelude.{ℤ}
use Rattle.grammar.specs.Cases.{frac_cases}
use Rattle.reply_text.specs.declared.faults.Fault.{Fault}
use Rattle.reply_text.specs.declared.faults.Fault.TheVariants.{OutOfRange, NumberTooLarge, ZeroDivisor, StrictInClosed}
use Rattle.term_text.specs.declared.terms.ValueErr.{ValueErr}
use Rattle.term_text.specs.declared.terms.ValueErr.TheVariants as value
use Rattle.term_text.specs.Texts.{IsFrac, IsFracFault}
use Rattle.expr_text.specs.OneAnswer.{FracHasOneAnswer}
use Rattle.expr_text.specs.Refusals.{IsTextFault, IsValueFault}
use Rattle.poly_pair.specs.declared.topology.Topology.{Topology}
use Rattle.script_text.specs.declared.command.Part.{Part}
use Rattle.script_text.specs.declared.command.Rel.{Rel}
use Rattle.line_values.specs.declared.refusal.StepErr.TheVariants as err
use Rattle.line_values.specs.Refusals.{refusal_of_text}
use Rattle.line_values.specs.Texts.{IsTextRefusal, IsStrictFor, fraction_fault, ReadsFraction}

apart : (dim : ℕ) (text : List ℕ) (d e : Fault) → FracHasOneAnswer → IsTextFault frac_cases text (IsValueFault (IsFracFault dim text)) d → IsTextFault frac_cases text (IsValueFault (IsFracFault dim text)) e → d ≡ e
apart dim text d e law h k = (law dim text).one_fault d e h k

not_outside : (dim v : ℕ) (P : Type 0) → v < dim → ¬ P → ¬ ((dim ≤ v) ⊎ P)
not_outside dim v P below never (inl h) = omega (arith, below, h)
not_outside dim v P below never (inr p) = never p

pub fraction_refused : (topology : Topology) (dim v : ℕ) (rel : Rel) (part : Part) (cause : ValueErr) → FracHasOneAnswer → v < dim → IsFracFault dim part.text cause → IsTextRefusal (fraction_fault topology dim v rel part) (refusal_of_text cause)
fraction_refused topology dim v rel part value.OutOfRange law below is = inl (inr is, refl)
fraction_refused topology dim v rel part value.TooLarge law below is =
    inr (not_outside dim v (IsFracFault dim part.text value.OutOfRange) below (λ k. let same : OutOfRange ≡ NumberTooLarge = apart dim part.text OutOfRange NumberTooLarge law k is in cc), inl (is, refl))
fraction_refused topology dim v rel part value.ZeroDivisor law below is =
    inr (not_outside dim v (IsFracFault dim part.text value.OutOfRange) below (λ k. let same : OutOfRange ≡ ZeroDivisor = apart dim part.text OutOfRange ZeroDivisor law k is in cc), inr (λ k. let same : NumberTooLarge ≡ ZeroDivisor = apart dim part.text NumberTooLarge ZeroDivisor law k is in cc, inl (is, refl)))
fraction_refused topology dim v rel part value.Memory law below is = tt

-- the text says an expression and a divisor, so of its faults none holds
module _ (topology : Topology) (dim v : ℕ) (rel : Rel) (part : Part) (expr : List ℤ) (den : ℤ) (law : FracHasOneAnswer) (below : v < dim) (is : IsFrac dim part.text expr den) where
  inside : ¬ ((dim ≤ v) ⊎ IsFracFault dim part.text value.OutOfRange)
  inside = not_outside dim v (IsFracFault dim part.text value.OutOfRange) below (λ k. (law dim part.text).not_both (expr, den) OutOfRange is k)

  not_large : ¬ (IsFracFault dim part.text value.TooLarge)
  not_large k = (law dim part.text).not_both (expr, den) NumberTooLarge is k

  divided : ¬ (IsFracFault dim part.text value.ZeroDivisor)
  divided k = (law dim part.text).not_both (expr, den) ZeroDivisor is k

  pub fraction_strict : IsStrictFor topology rel → IsTextRefusal (fraction_fault topology dim v rel part) (err.Input StrictInClosed)
  fraction_strict strict = inr (inside, inr (not_large, inr (divided, inl (strict, refl))))

  pub fraction_said : ¬ (IsStrictFor topology rel) → ReadsFraction topology dim v rel part expr den
  fraction_said other = record { faultless = (inside, (not_large, (divided, (other, (λ k. k, (λ k. k, tt)))))); within = below; read = is }
