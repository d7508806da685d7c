use Rattle.std.proofs.Common.{take, sym, rules}
use Rattle.std.proofs.lemmas.List.{take_all}
use Rattle.std.proofs.lemmas.List.Elements.{All-more, All-same}
use Rattle.line_values.specs.Proper.{IsProper}
use Rattle.line_values.proofs.proper.are_proper.Goals as goal

pub loop-index-preserved : goal.loop-index-preserved
loop-index-preserved c = All-more IsProper c.args.sets.now c.loop-index.index c.index-sets-index.result (search rules) c.loop-index.invariant (search rules)

pub returns : goal.returns
returns c = All-same IsProper c.args.sets.now (take c.loop-index.index c.args.sets.now) (sym (take_all c.loop-index.index c.args.sets.now (search rules))) c.loop-index.invariant
