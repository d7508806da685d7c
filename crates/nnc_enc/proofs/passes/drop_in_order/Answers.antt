use Rattle.std.proofs.Common.{◌∙◌, arith}
use Rattle.sat_matrix.specs.Tables.{bits_of}
use Rattle.nnc_enc.proofs.PassLemmas.{passed_more}
use Rattle.nnc_enc.proofs.passes.drop_in_order.Goals as goal

pub loop-i-preserved : goal.loop-i-preserved
loop-i-preserved c = record {
  length = c.drop_if_covered.ensures.length ∙ c.loop-i.invariant.length;
  passed = passed_more (bits_of c.args.table.now.rows c.args.level) c.args.marks.now c.args.table.now.rows c.args.keep.now c.loop-i.keep c.drop_if_covered.new.keep c.loop-i.i (omega (arith, c.loop-i.invariant.length)) c.loop-i.invariant.passed c.drop_if_covered.ensures.step;
}
