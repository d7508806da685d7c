use Rattle.std.proofs.Common.{ℕ, ◌+◌, ◌≤◌, ◌≢◌, ◌∷◌, [], ◌++◌, sym, arith}
use Rattle.cdd_reading.proofs.BodyLaws.{all_more, one_longer}
use Rattle.cdd_reading.proofs.ListLaws.{one_further}
use Rattle.cdd_reading.proofs.body.check_numbers.Goals as goal

one_more : (n m : ℕ) → n ≤ m → n ≢ m → n + 1 ≤ m
one_more n m h unlike = omega (arith, h, unlike)

pub loop-line-preserved : goal.loop-line-preserved
loop-line-preserved c =
    let i = c.loop-line.invariant.done in
    let s = c.in-Some in
    record {
      can_next = tt;
      is_finite = tt;
      done = (
        i.0 ++ (s.line, s.token.now) ∷ [],
        one_further i.0 (s.line, s.token.now) c.loop-line.line-iterator c.next.new.self c.args.tokens i.1 s.ensures.steps,
        all_more c.args.number_type i.0 (s.line, s.token.now) i.2 (sym c.if-not-is_number.ensures),
        one_longer i.0 (s.line, s.token.now) c.loop-line.count i.3,
        one_more c.loop-line.count c.args.most i.4 c.if-count-most.false,
      );
    }
