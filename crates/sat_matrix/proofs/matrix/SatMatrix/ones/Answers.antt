use Rattle.std.proofs.Common.{arith, ◌∙◌}
use Rattle.sat_matrix.specs.Tables.{bits_of}
use Rattle.sat_matrix.proofs.BitRows.{seen_in}
use Rattle.sat_matrix.proofs.Counting.{count_seen, ones-le}
use Rattle.sat_matrix.proofs.matrix.SatMatrix.ones.Goals as goal

pub count-requires : goal.count-requires
count-requires c =
    let count = count_seen c.self.inside.columns c.self.inside.words c.args.self.now c.args.i c.row.result.now c.self.invariant c.self.view_is c.requires c.row.ensures.value c.row.ensures.wide in
    omega (arith, count, ones-le (bits_of c.args.self.now.rows c.args.i), c.columns-columns.ensures.rectangular c.args.i c.requires, c.columns-columns.ensures.value)

pub returns : goal.returns
returns c = c.count.ensures ∙ count_seen c.self.inside.columns c.self.inside.words c.args.self.now c.args.i c.row.result.now c.self.invariant c.self.view_is c.requires c.row.ensures.value c.row.ensures.wide

pub row-requires : goal.row-requires
row-requires c = omega (arith, (seen_in c.self.inside.columns c.self.inside.words c.args.self.now c.self.view_is).count, c.requires)
