use Rattle.std.proofs.Common.{rules}
use Rattle.cdd_reading.proofs.ValueLaws.{Divide, others_left, with_first}
use Rattle.cdd_reading.proofs.values.all_divide.Goals as goal

pub loop-token-preserved : goal.loop-token-preserved
loop-token-preserved c =
    let i = c.loop-token.invariant in
    let s = c.in-Some in
    record {
      can_next = search rules;
      is_finite = search rules;
      left = λ all. others_left Divide (s.field-0-0, s.token.now) c.loop-token.token-iterator c.next.new.self (search rules) (i.left all);
      whole = λ rest. i.whole (with_first Divide (s.field-0-0, s.token.now) c.loop-token.token-iterator c.next.new.self (search rules) (search rules) rest);
    }
