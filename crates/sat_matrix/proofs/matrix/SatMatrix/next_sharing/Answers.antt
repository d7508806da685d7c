use Rattle.std.proofs.Common.{get_or, arith}
use Rattle.sat_matrix.proofs.BitRows.{row_lies}
use Rattle.sat_matrix.proofs.NextSharing.{places_fit, next_seen}
use Rattle.sat_matrix.proofs.matrix.SatMatrix.next_sharing.Goals as goal

pub next_sharing-requires-clause-few : goal.next_sharing-requires-clause-few
next_sharing-requires-clause-few c q h =
    places_fit c.self.inside.columns c.self.inside.words c.args.self.now c.cells.result.now c.width-width.result c.self.invariant c.width-width.ensures.rectangular c.self.view_is c.cells.ensures c.width-width.ensures.value c.args.i (get_or c.args.among.now q 0)
    c.columns-columns.ensures.rectangular (omega (arith, c.columns-columns.ensures.value)) c.requires.row (c.requires.among q h)

pub returns : goal.returns
returns c =
    next_seen c.self.inside.columns c.self.inside.words c.args.self.now c.cells.result.now c.width-width.result c.self.invariant c.width-width.ensures.rectangular c.self.view_is c.cells.ensures c.width-width.ensures.value c.args.i c.args.least c.args.from c.next_sharing.result c.args.among.now
    c.requires.row c.requires.among c.next_sharing.ensures

pub next_sharing-requires-clause-row : goal.next_sharing-requires-clause-row
next_sharing-requires-clause-row c = row_lies c.self.inside.columns c.self.inside.words c.args.self.now c.cells.result.now c.width-width.result c.args.i c.self.view_is c.cells.ensures c.width-width.ensures.value c.requires.row

pub next_sharing-requires-clause-among : goal.next_sharing-requires-clause-among
next_sharing-requires-clause-among c q h = row_lies c.self.inside.columns c.self.inside.words c.args.self.now c.cells.result.now c.width-width.result (get_or c.args.among.now q 0) c.self.view_is c.cells.ensures c.width-width.ensures.value (c.requires.among q h)
