use Rattle.poly_pair.specs.Parts.{IsClosedOf}
use Rattle.chernikova.specs.declared.cone.Cone.{Cone}
use Rattle.std.proofs.lemmas.Result.{IfOk-weaker}
use Rattle.std.proofs.Common.{◌∙◌, sym}
use Rattle.row_core.specs.Lists.{vectors}
use Rattle.row_core.proofs.RowListLemmas.{length-vectors}
use Rattle.poly_pair.specs.Conversions.{cone_rows}
use Rattle.poly_pair.proofs.ConeZeros.{spanning_zero, told_turned}
use Rattle.poly_pair.proofs.pairing.closed_of_vectors.Goals as goal

pub closed_pair-requires-clause-zeros : goal.closed_pair-requires-clause-zeros
closed_pair-requires-clause-zeros c =
    told_turned c.args.dim c.args.spanning c.args.bounding c.requires.systems c.in_ok-sat.sat
    (c.in_ok-sat.ensures (cone_rows c.args.bounding) (vectors c.args.spanning.lines.rows) (vectors c.args.spanning.rays.rows) (length-vectors c.args.spanning.lines.rows ∙ sym c.len.ensures)
    (spanning_zero c.args.dim c.args.spanning c.args.bounding c.requires.systems) c.requires.zeros)
    c.len-from.result c.len-from.ensures

pub returns : goal.returns
returns c =
    let turned : Cone = record { lines = c.args.bounding.lines; rays = c.args.bounding.rays; sat = c.in_ok-sat.sat } in
    IfOk-weaker c.closed_pair.result (IsClosedOf c.args.dim c.args.spanning turned) (IsClosedOf c.args.dim c.args.spanning c.args.bounding) (λ p h. record { over = h.over; stored = h.stored }) c.closed_pair.ensures

pub closed_pair-requires-clause-bounding_lists : goal.closed_pair-requires-clause-bounding_lists
closed_pair-requires-clause-bounding_lists c = c.requires.bounding_lists

pub closed_pair-requires-clause-spanning_lists : goal.closed_pair-requires-clause-spanning_lists
closed_pair-requires-clause-spanning_lists c = c.requires.spanning_lists

pub closed_pair-requires-clause-systems : goal.closed_pair-requires-clause-systems
closed_pair-requires-clause-systems c = c.requires.systems

pub closed_pair-requires-clause-narrow : goal.closed_pair-requires-clause-narrow
closed_pair-requires-clause-narrow c = c.requires.narrow
