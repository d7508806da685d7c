use Rattle.std.proofs.Common.{IsTrue}
use Rattle.sat_matrix.proofs.BitRows.{covers_seen}
use Rattle.sat_matrix.proofs.matrix.SatMatrix.covers.Goals as goal

pub returns : goal.returns
returns c =
    covers_seen c.self.inside.columns c.self.inside.words c.args.self.now c.args.i c.args.j c.args.k _ _ _ (IsTrue c.is_subset_of_and.result) c.self.invariant c.self.view_is c.requires.first c.requires.second c.requires.third
    c.row.ensures.value c.row-2.ensures.value c.row-3.ensures.value c.is_subset_of_and.ensures
