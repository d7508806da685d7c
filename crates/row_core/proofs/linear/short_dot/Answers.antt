use Rattle.std.proofs.Common.{refl, sym}
use Rattle.row_core.proofs.SizeLemmas.{AllStay-short_dot}
use Rattle.row_core.proofs.linear.short_dot.Goals as goal

pub word_dot-requires-clause-words : goal.word_dot-requires-clause-words
word_dot-requires-clause-words c =
    c.in-Words.ensures.suffices c.args.u.now c.args.v.now refl (sym c.requires.same_width) c.requires.left
    c.requires.right

pub exact_dot-requires-clause-stays : goal.exact_dot-requires-clause-stays
exact_dot-requires-clause-stays c =
    AllStay-short_dot c.args.left c.args.right c.args.u.now c.args.v.now c.requires.same_width
    c.requires.left c.requires.right c.requires.narrow c.requires.short

pub returns-in_default-clause-stays : goal.returns-in_default-clause-stays
returns-in_default-clause-stays c =
    AllStay-short_dot c.args.left c.args.right c.args.u.now c.args.v.now c.requires.same_width
    c.requires.left c.requires.right c.requires.narrow c.requires.short
