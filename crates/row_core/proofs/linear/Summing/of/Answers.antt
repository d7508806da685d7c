use Rattle.std.specs.Prelude.{length}
use Rattle.std.proofs.Common.{arith}
use Rattle.row_core.proofs.SizeLemmas.{few_columns, least_bits, AllStay-dot_of_words, AllStay-dot_of_bits}
use Rattle.row_core.proofs.linear.Summing.of.Goals as goal

pub returns-then-bits-le63-clause-suffices : goal.returns-then-bits-le63-clause-suffices
returns-then-bits-le63-clause-suffices c u v wide other left right =
    AllStay-dot_of_words c.args.left c.args.right u v (omega (arith, wide, other)) left right
    (few_columns (length u) c.args.left c.args.right c.bits_of.result 63
    (omega (arith, wide, c.bits_of.ensures.below)) (omega arith))

pub returns-then-bits-le127-clause-suffices : goal.returns-then-bits-le127-clause-suffices
returns-then-bits-le127-clause-suffices c u v wide other left right =
    AllStay-dot_of_bits c.args.left c.args.right u v (omega (arith, wide, other)) left right
    (few_columns (length u) c.args.left c.args.right c.bits_of.result 127
    (omega (arith, wide, c.bits_of.ensures.below)) (omega arith))

pub returns-then-bits-le127-clause-words : goal.returns-then-bits-le127-clause-words
returns-then-bits-le127-clause-words c k few short =
    absurd (omega (arith, short, least_bits c.bits_of.result c.args.width k c.bits_of.ensures.least few))

pub returns-clause-words : goal.returns-clause-words
returns-clause-words c k few short =
    absurd (omega (arith, short, least_bits c.bits_of.result c.args.width k c.bits_of.ensures.least few))

pub returns-clause-exact : goal.returns-clause-exact
returns-clause-exact c k few short =
    absurd (omega (arith, short, least_bits c.bits_of.result c.args.width k c.bits_of.ensures.least few))
