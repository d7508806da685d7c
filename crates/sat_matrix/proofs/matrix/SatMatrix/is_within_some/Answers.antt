use Rattle.std.proofs.Common.{IsTrue, get_or}
use Rattle.sat_matrix.proofs.BitRows.{row_lies, within_some_seen}
use Rattle.sat_matrix.proofs.matrix.SatMatrix.is_within_some.Goals as goal

pub is_within_some-requires-clause-row : goal.is_within_some-requires-clause-row
is_within_some-requires-clause-row c = row_lies c.self.inside.columns c.self.inside.words c.args.self.now c.cells.result.now c.width-width.result c.args.i c.self.view_is c.cells.ensures c.width-width.ensures.value c.requires.row

pub is_within_some-requires-clause-among : goal.is_within_some-requires-clause-among
is_within_some-requires-clause-among c = λ q h. row_lies c.self.inside.columns c.self.inside.words c.args.self.now c.cells.result.now c.width-width.result (get_or c.args.among.now q 0) c.self.view_is c.cells.ensures c.width-width.ensures.value (c.requires.among q h)

pub returns : goal.returns
returns c =
    within_some_seen c.self.inside.columns c.self.inside.words c.args.self.now c.cells.result.now c.width-width.result c.self.invariant c.self.view_is c.cells.ensures c.width-width.ensures.value c.args.i c.args.among.now (IsTrue c.is_within_some.result) c.requires.row c.requires.among c.is_within_some.ensures
