use Rattle.sat_matrix.proofs.BitRows.{rectangular_in}
use Rattle.sat_matrix.proofs.matrix.SatMatrix.columns.Goals as goal

pub returns-clause-rectangular : goal.returns-clause-rectangular
returns-clause-rectangular c = rectangular_in c.self.inside.columns c.self.inside.words c.args.self.now c.self.view_is
