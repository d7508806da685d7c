use Rattle.plain_text.proofs.Capped.{one_byte, next_most, at_last}
use Rattle.plain_text.proofs.digits.number_up_to.Goals as goal

pub loop-byte-preserved : goal.loop-byte-preserved
loop-byte-preserved c = record {
  value = one_byte c.args.most c.args.digits.now c.loop-byte.byte-index c.loop-byte.number c.saturating_sub.result c.next-number.result _ c.loop-byte-test.true c.saturating_sub.ensures c.next-number.ensures c.loop-byte.invariant.value;
  most = next_most c.args.most c.loop-byte.number c.saturating_sub.result c.next-number.result c.next-number.ensures;
}

pub returns : goal.returns
returns c = at_last c.args.most c.args.digits.now c.loop-byte.byte-index c.loop-byte.number _ c.loop-byte-test.false c.loop-byte.invariant.value c.loop-byte.invariant.most
