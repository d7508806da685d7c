use Rattle.std.proofs.Common.{rules}
use Rattle.std.specs.Cmp.{unsigned_Decides}
use Rattle.std.proofs.lemmas.Slice.Eq.{strip_prefix_is}
use Rattle.loop_bounds.proofs.reading.part_of.Goals as goal

pub returns : goal.returns
returns c =
    let found = strip_prefix_is unsigned_Decides c.args.line.now c.args.word.now c.strip_prefix.result c.strip_prefix.ensures.cases in
    search rules
