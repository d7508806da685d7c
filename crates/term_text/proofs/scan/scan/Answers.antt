use Rattle.std.proofs.Common.{◌≡◌, get_or, ◌∙◌, sym, subst}
use Rattle.std.specs.Prelude.{option_to_list}
use Rattle.std.proofs.lemmas.Result.{err_from_is_err_and}
use Rattle.term_text.specs.Terms.{AreWithin}
use Rattle.term_text.specs.Reading.{start, ended, term_of, terms_read}
use Rattle.term_text.specs.declared.terms.ValueErr.TheVariants.{OutOfRange}
use Rattle.term_text.proofs.ScanSteps.{state_more, summed_more, ended_within, state_all, summed_all, last_within}
use Rattle.term_text.proofs.scan.scan.Goals as goal

pub returns-in_err-push : goal.returns-in_err-push
returns-in_err-push c =
    let text = c.args.text.now in
    let i = c.loop-byte.byte-index in
    let refused : (c.in_err-push.field-0.0 ≡ OutOfRange) × ¬ (AreWithin c.args.sum.now.dim (terms_read start text)) = (c.in_err-push.ensures.sum.0, λ all. c.in_err-push.ensures.sum.1 (subst (λ d. AreWithin d (ended c.loop-byte.state (get_or text i 0))) (sym c.loop-byte.invariant.over) (ended_within c.args.sum.now.dim text i c.loop-byte.state c.loop-byte-test.true c.loop-byte.invariant.state all))) in
    let p = err_from_is_err_and c.from_residual.result c.from_residual.ensures.1 in
    rw (p.1, p.2) refused

pub loop-byte-preserved : goal.loop-byte-preserved
loop-byte-preserved c =
    let text = c.args.text.now in
    let i = c.loop-byte.byte-index in
    record {
      summed = summed_more text i c.loop-byte.state c.loop-byte.sum c.push.new.sum c.loop-byte-test.true c.loop-byte.invariant.state c.loop-byte.invariant.summed c.in_ok-push.ensures.sum;
      over = c.in_ok-push.ensures.sum.over ∙ c.loop-byte.invariant.over;
      state = state_more text i c.loop-byte.state c.push.new.self c.loop-byte-test.true c.loop-byte.invariant.state c.in_ok-push.ensures.state;
    }

pub returns-in_err-end_term : goal.returns-in_err-end_term
returns-in_err-end_term c =
    let text = c.args.text.now in
    let i = c.loop-byte.byte-index in
    let refused : (c.in_err-end_term.field-0.0 ≡ OutOfRange) × ¬ (AreWithin c.args.sum.now.dim (terms_read start text)) = (c.in_err-end_term.ensures.0, λ all. c.in_err-end_term.ensures.1 (subst (λ d. AreWithin d (option_to_list (term_of c.loop-byte.state))) (sym c.loop-byte.invariant.over) (last_within c.args.sum.now.dim text i c.loop-byte.state c.loop-byte-test.false c.loop-byte.invariant.state all))) in
    let p = err_from_is_err_and c.from_residual-in_err-end_term.result c.from_residual-in_err-end_term.ensures.1 in
    rw (p.1, p.2) refused

pub returns : goal.returns
returns c =
    let text = c.args.text.now in
    let i = c.loop-byte.byte-index in (
      summed_all text i c.loop-byte.state c.loop-byte.sum c.end_term.new.sum c.loop-byte-test.false c.loop-byte.invariant.state c.loop-byte.invariant.summed c.in_ok-end_term.ensures,
      c.in_ok-end_term.ensures.over ∙ c.loop-byte.invariant.over,
      state_all text i c.loop-byte.state c.loop-byte-test.false c.loop-byte.invariant.state,
    )
