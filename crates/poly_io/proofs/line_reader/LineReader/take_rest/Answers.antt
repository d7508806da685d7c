use Rattle.std.proofs.Common.{ap}
use Rattle.poly_io.specs.LineReading.{Reading}
use Rattle.poly_io.proofs.ReadLaws.{front_lent}
use Rattle.poly_io.proofs.line_reader.LineReader.take_rest.Goals as goal

pub returns-clause-line : goal.returns-clause-line
returns-clause-line c =
    let s = c.self.inside in
    front_lent s.bytes.items c.args.self.now.pending s.start s.end c.min.result (ap (λ (r : Reading). r.pending) c.self.view_is) c.min.ensures
