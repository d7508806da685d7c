use Rattle.std.proofs.Common.{ap, take, arith, ◌∙◌}
use Rattle.poly_io.proofs.ReadLaws.{settled}
use Rattle.poly_io.proofs.line_reader.settle.Goals as goal

pub returns-clause-front : goal.returns-clause-front
returns-clause-front c =
    ap (take c.min-count.result) c.copy_within.ensures.after
    ∙ settled c.args.bytes.now c.args.start c.args.end c.min-count.result (omega (arith, c.requires, c.min-count.ensures)) c.min-count.ensures
