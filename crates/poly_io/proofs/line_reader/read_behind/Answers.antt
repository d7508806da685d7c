use Rattle.std.proofs.Common.{◌-◌, take, drop, arith}
use Rattle.poly_io.proofs.ReadLaws.{read_told}
use Rattle.poly_io.proofs.line_reader.read_behind.Goals as goal

pub returns-clause-filled : goal.returns-clause-filled
returns-clause-filled g c =
    let b = c.settle-kept.new.bytes in
    let left = g.S.Source.left in
    read_told b c.read-answer.new.buf _ (take 65537 (take (c.args.end - c.args.start) (drop c.args.start c.args.bytes.now))) c.settle-kept.result
    (left c.args.source.now) (left c.read-answer.new.self) c.read-answer.result (omega (arith, c.requires, c.settle-kept.ensures)) (omega (arith, c.read-answer.auto.buf, c.requires, c.settle-kept.ensures)) c.settle-kept.ensures.front c.read-answer.ensures.moved
