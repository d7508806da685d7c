use Rattle.std.proofs.Common.{arith, IsTrue, false}
use Rattle.std.proofs.lemmas.Bool.{false≢true}
use Rattle.sat_matrix.specs.Tables.{bits_of}
use Rattle.nnc_enc.specs.Passes.{IsCoveredRow}
use Rattle.nnc_enc.proofs.PassLemmas.{flag_within}
use Rattle.nnc_enc.proofs.passes.is_covered.Goals as goal

pub returns : goal.returns
returns c = ((λ h. absurd (false≢true h)), none)
  where
    none : IsCoveredRow (bits_of c.args.table.now.rows c.args.level) c.args.marks.now c.args.table.now.rows c.args.keep.now c.args.i → IsTrue false
    none (t, k) = absurd (c.loop-t.invariant t (omega (arith, flag_within c.args.marks.now t k.marked, c.requires.marks, c.loop-t-test.false)) k)
