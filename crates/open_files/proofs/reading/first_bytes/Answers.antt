use Rattle.std.proofs.Common.{sym, arith}
use Rattle.std.proofs.lemmas.List.{length-take-le, take_all}
use Rattle.open_files.proofs.reading.first_bytes.Goals as goal

pub slice_bounds-result-end : goal.slice_bounds-result-end
slice_bounds-result-end c = sym (length-take-le 65536 c.args.line.now (omega (arith, c.if-line-gt-KEPT.true)))

pub returns-else-line-gt-KEPT : goal.returns-else-line-gt-KEPT
returns-else-line-gt-KEPT c = sym (take_all 65536 c.args.line.now (omega (arith, c.if-line-gt-KEPT.false)))
