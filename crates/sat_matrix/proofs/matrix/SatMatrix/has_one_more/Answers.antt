use Rattle.std.proofs.Common.{arith, sym, ◌∙◌}
use Rattle.sat_matrix.proofs.BitRows.{seen_in}
use Rattle.sat_matrix.proofs.Counting.{count_seen, shared_seen}
use Rattle.sat_matrix.proofs.matrix.SatMatrix.has_one_more.Goals as goal

pub returns : goal.returns
returns c =
    let count = count_seen c.self.inside.columns c.self.inside.words c.args.self.now c.args.i c.row.result.now c.self.invariant c.self.view_is c.requires.first c.row.ensures.value c.row.ensures.wide in
    let shared = shared_seen c.self.inside.columns c.self.inside.words c.args.self.now c.args.i c.args.j c.row.result.now c.row-2.result.now c.self.invariant c.self.view_is c.requires.first c.requires.second c.row.ensures.value c.row-2.ensures.value c.row.ensures.wide in
    (λ h. omega (arith, c.has_one_more.ensures.0 h, count, shared), λ h. c.has_one_more.ensures.1 (omega (arith, h, count, shared)))

pub row-requires : goal.row-requires
row-requires c = omega (arith, (seen_in c.self.inside.columns c.self.inside.words c.args.self.now c.self.view_is).count, c.requires.first)

pub row-requires-2 : goal.row-requires-2
row-requires-2 c = omega (arith, (seen_in c.self.inside.columns c.self.inside.words c.args.self.now c.self.view_is).count, c.requires.second)

pub has_one_more-requires : goal.has_one_more-requires
has_one_more-requires c = c.row-2.ensures.wide ∙ sym c.row.ensures.wide
