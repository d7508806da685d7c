use Rattle.std.specs.Str.Lines.{lines}
use Rattle.cdd_reading.proofs.Behind.{none_behind, told_behind}
use Rattle.cdd_reading.proofs.file.linearity_after_end.Goals as goal

pub returns-in_default : goal.returns-in_default
returns-in_default c = none_behind c.args.bytes.now c.in_default.ensures

pub returns : goal.returns
returns c = told_behind c.args.bytes.now (lines c.in-Some.cut.file.now) (lines c.in-Some.cut.behind.now) c.has_linearity.result c.in-Some.ensures.0 c.has_linearity.ensures
