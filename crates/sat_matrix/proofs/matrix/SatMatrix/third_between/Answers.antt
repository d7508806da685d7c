use Rattle.std.proofs.Common.{IsTrue, arith}
use Rattle.sat_matrix.proofs.BitRows.{seen_in, third_seen}
use Rattle.sat_matrix.proofs.matrix.SatMatrix.third_between.Goals as goal

pub returns : goal.returns
returns c =
    third_seen c.self.inside.columns c.self.inside.words c.args.self.now c.cells.result.now c.width-width.result c.self.invariant c.self.view_is c.cells.ensures c.width-width.ensures.value c.len.result c.args.i c.args.j (IsTrue c.has_third_row.result) c.len.ensures c.requires.first c.requires.second c.has_third_row.ensures

pub has_third_row-requires-clause-first : goal.has_third_row-requires-clause-first
has_third_row-requires-clause-first c = omega (arith, (seen_in c.self.inside.columns c.self.inside.words c.args.self.now c.self.view_is).count, c.len.ensures, c.requires.first)

pub has_third_row-requires-clause-second : goal.has_third_row-requires-clause-second
has_third_row-requires-clause-second c = omega (arith, (seen_in c.self.inside.columns c.self.inside.words c.args.self.now c.self.view_is).count, c.len.ensures, c.requires.second)
