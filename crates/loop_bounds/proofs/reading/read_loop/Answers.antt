use Rattle.std.proofs.Common.{eqb, length, Result, MatchResult, rules, tests, arith, sym, subst}
use Rattle.std.proofs.lemmas.List.{length_push}
use Rattle.std.proofs.lemmas.Iterator.Splits.{YieldsList-from_slice_split}
use Rattle.std.proofs.lemmas.Iterator.Consumers.{YieldsList-turn, YieldsList-end}
use Rattle.loop_bounds.specs.declared.reading.LoopErr.{LoopErr}
use Rattle.loop_analysis.specs.Loops.{WhileLoop}
use Rattle.loop_bounds.specs.Reading.{lines_of, Spells, IsTextRefused}
use Rattle.loop_bounds.proofs.ReadingLemmas.{say_more, all_said, says_fit, refused_cause}
use Rattle.loop_bounds.proofs.reading.read_loop.Goals as goal

pub returns-in-Err : goal.returns-in-Err
returns-in-Err c =
    let t = YieldsList-turn (YieldsList-from_slice_split _ (λ b. eqb b 10) c.args.text.now (cc) (cc) (cc) (λ x b q e. search (rules, tests))) c.loop-line.yielded _ c.loop-line.yielded_by _ _ c.in-Some.line c.in-Some.is c.next.ensures.steps in
    refused_cause c.args.text.now (length c.loop-line.yielded) c.saturating_add-number.result c.in-Some.line.now c.loop-line.draft c.in-Err.cause t c.loop-line.invariant.say c.in-Err.ensures (omega (arith, c.loop-line.invariant.counted, c.saturating_add-number.ensures))

pub loop-line-preserved : goal.loop-line-preserved
loop-line-preserved c =
    let t = YieldsList-turn (YieldsList-from_slice_split _ (λ b. eqb b 10) c.args.text.now (cc) (cc) (cc) (λ x b q e. search (rules, tests))) c.loop-line.yielded _ c.loop-line.yielded_by _ _ c.in-Some.line c.in-Some.is c.next.ensures.steps in
    let longer = length_push c.loop-line.yielded c.in-Some.line in
    record {
      can_next = search rules;
      is_finite = search rules;
      say = say_more (lines_of c.args.text.now) (length c.loop-line.yielded) _ c.in-Some.line.now c.loop-line.draft c.in-Ok.next longer t c.loop-line.invariant.say c.in-Ok.ensures;
      fits = says_fit c.loop-line.draft c.in-Some.line.now c.in-Ok.next c.loop-line.invariant.fits c.in-Ok.ensures;
      counted = omega (arith, c.loop-line.invariant.counted, c.saturating_add-number.ensures, longer);
    }

pub returns : goal.returns
returns c =
    let t = YieldsList-end (YieldsList-from_slice_split _ (λ b. eqb b 10) c.args.text.now (cc) (cc) (cc) (λ x b q e. search (rules, tests))) c.loop-line.yielded _ c.loop-line.yielded_by _ _ c.in-None.is c.next.ensures.steps in
    subst (λ (r : Result WhileLoop LoopErr). MatchResult r (Spells c.args.text.now) (IsTextRefused c.args.text.now)) (sym c.ok_or.ensures.value)
    (all_said c.args.text.now (length c.loop-line.yielded) c.loop-line.number c.loop-line.draft c.whole.result t.1 c.loop-line.invariant.say c.whole.ensures c.loop-line.invariant.counted)
