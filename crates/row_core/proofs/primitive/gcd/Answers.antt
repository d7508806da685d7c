use Rattle.std.specs.Int.{IsGcd}
use Rattle.std.proofs.Common.{arith, sym, subst}
use Rattle.std.proofs.lemmas.Nat.Gcd.{IsGcd-from_zero, IsGcd-from_mod}
use Rattle.row_core.proofs.primitive.gcd.Goals as goal

pub returns-then-b-le-WORD : goal.returns-then-b-le-WORD
returns-then-b-le-WORD c = subst (IsGcd c.args.a c.args.b) (sym c.from.ensures) c.word_gcd.ensures

pub loop-y-preserved : goal.loop-y-preserved
loop-y-preserved c g h = c.loop-y.invariant g (IsGcd-from_mod _ _ g h)

pub returns : goal.returns
returns c = c.loop-y.invariant _ (IsGcd-from_zero _ _ (omega arith))
