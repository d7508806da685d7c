use Rattle.std.proofs.Common.{IsTrue, get_or}
use Rattle.sat_matrix.proofs.BitRows.{row_lies, covering_seen}
use Rattle.sat_matrix.proofs.matrix.SatMatrix.covered_among.Goals as goal

pub has_covering_row-requires-clause-row : goal.has_covering_row-requires-clause-row
has_covering_row-requires-clause-row c = row_lies c.self.inside.columns c.self.inside.words c.args.self.now c.cells.result.now c.width-width.result c.args.i c.self.view_is c.cells.ensures c.width-width.ensures.value c.requires.row

pub has_covering_row-requires-clause-among : goal.has_covering_row-requires-clause-among
has_covering_row-requires-clause-among c = λ q h. row_lies c.self.inside.columns c.self.inside.words c.args.self.now c.cells.result.now c.width-width.result (get_or c.args.among.now q 0) c.self.view_is c.cells.ensures c.width-width.ensures.value (c.requires.among q h)

pub returns : goal.returns
returns c =
    covering_seen c.self.inside.columns c.self.inside.words c.args.self.now c.cells.result.now c.width-width.result c.self.invariant c.self.view_is c.cells.ensures c.width-width.ensures.value c.args.i c.args.among.now (IsTrue c.has_covering_row.result) c.requires.row c.requires.among c.has_covering_row.ensures
