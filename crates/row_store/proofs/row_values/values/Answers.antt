use Rattle.std.proofs.Common.{refl}
use Rattle.row_core.specs.Lists.{row_at}
use Rattle.row_store.proofs.row_values.values.Goals as goal

pub word_values-requires-clause-words : goal.word_values-requires-clause-words
word_values-requires-clause-words c i below wide =
    c.in-Words.ensures.suffices c.args.row.now (row_at c.args.list.now.rows i) refl wide c.requires.row (c.bits.ensures i below)

pub summed_values-requires-clause-suffices : goal.summed_values-requires-clause-suffices
summed_values-requires-clause-suffices c i below wide =
    c.of-summing.ensures.suffices c.args.row.now (row_at c.args.list.now.rows i) refl wide c.requires.row (c.bits.ensures i below)
