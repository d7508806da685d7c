use Rattle.std.proofs.Common.{arith, sym, ◌∙◌}
use Rattle.sat_matrix.specs.Tables.{bits_of}
use Rattle.sat_matrix.proofs.BitRows.{seen_in}
use Rattle.sat_matrix.proofs.Counting.{shared_seen, shared-le}
use Rattle.sat_matrix.proofs.matrix.SatMatrix.shared.Goals as goal

pub count_and-requires-clause-few : goal.count_and-requires-clause-few
count_and-requires-clause-few c =
    let count = shared_seen c.self.inside.columns c.self.inside.words c.args.self.now c.args.i c.args.j c.row.result.now c.row-2.result.now c.self.invariant c.self.view_is c.requires.first c.requires.second c.row.ensures.value c.row-2.ensures.value c.row.ensures.wide in
    let wide = c.columns-columns.ensures.rectangular c.args.i c.requires.first in
    let also = c.columns-columns.ensures.rectangular c.args.j c.requires.second in
    omega (arith, count, shared-le (bits_of c.args.self.now.rows c.args.i) (bits_of c.args.self.now.rows c.args.j) (also ∙ sym wide), wide, c.columns-columns.ensures.value)

pub returns : goal.returns
returns c = c.count_and.ensures ∙ shared_seen c.self.inside.columns c.self.inside.words c.args.self.now c.args.i c.args.j c.row.result.now c.row-2.result.now c.self.invariant c.self.view_is c.requires.first c.requires.second c.row.ensures.value c.row-2.ensures.value c.row.ensures.wide

pub row-requires : goal.row-requires
row-requires c = omega (arith, (seen_in c.self.inside.columns c.self.inside.words c.args.self.now c.self.view_is).count, c.requires.first)

pub row-requires-2 : goal.row-requires-2
row-requires-2 c = omega (arith, (seen_in c.self.inside.columns c.self.inside.words c.args.self.now c.self.view_is).count, c.requires.second)

pub count_and-requires-clause-second : goal.count_and-requires-clause-second
count_and-requires-clause-second c = c.row-2.ensures.wide ∙ sym c.row.ensures.wide
