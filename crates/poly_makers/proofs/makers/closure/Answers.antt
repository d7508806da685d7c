use Rattle.std.specs.Prelude.{IfOk, Result}
use Rattle.row_core.specs.declared.errors.ConvErr.{ConvErr}
use Rattle.poly_pair.specs.Polyhedra.{Polyhedron}
use Rattle.poly_pair.specs.Work.{AreStored, Converts}
use Rattle.poly_pair.proofs.WorkLemmas.{refused_overflow}
use Rattle.lattice_ops.specs.Sets.{IsClosure, closure_work}
use Rattle.line_values.specs.Refusals.{refusal_of_conversion}
use Rattle.line_values.proofs.PerformedLemmas.{room_passes, leaves}
use Rattle.poly_makers.specs.Makers.{closure}
use Rattle.poly_makers.proofs.MakerLemmas.{turned}
use Rattle.poly_makers.proofs.makers.closure.Goals as goal

pub returns : goal.returns
returns g c =
    let p = c.args.p.now in
    let passes = room_passes c.args.full c.if-full.false in
    turned (closure c.args.full p) refusal_of_conversion
    (λ (r : Result Polyhedron ConvErr). IfOk r (IsClosure p) × (IfOk r (AreStored p.topology (closure_work p)) × Converts (closure_work p) c.args.steps.now c.closure.new.steps r))
    c.closure.result c.map_err.result c.map_err.ensures.cases (c.closure.ensures.points, (c.closure.ensures.stored, c.closure.ensures.conversion))
    (λ made is. (passes, record { set = is.0; stored = is.1.0 }))
    (λ cause is. leaves (closure c.args.full p) cause passes (refused_overflow _ _ _ cause is.1.1))
