use Rattle.std.proofs.Common.{List, ℕ, ap, ◌∙◌}
use Rattle.sat_bits.specs.Places.{place}
use Rattle.sat_matrix.proofs.BitRows.{bit_seen}
use Rattle.sat_matrix.proofs.matrix.SatMatrix.get.Goals as goal

pub returns : goal.returns
returns c =
    c.get.ensures ∙ ap (λ (r : List ℕ). place r c.args.column) c.row.ensures.value
    ∙ bit_seen c.self.inside.columns c.self.inside.words c.args.self.now c.args.row c.args.column c.self.view_is c.requires.row c.requires.column
