use Rattle.std.proofs.Common.{ℕ, ◌≤◌, subst}
use Rattle.poly_pair.specs.declared.topology.TheConstants.{MAX_DIM}
use Rattle.line_values.specs.Texts.{ReadsConstraints}
use Rattle.line_values.proofs.PerformedLemmas.{not_full}
use Rattle.poly_makers.proofs.MakerLemmas.{cons_full, cons_made, cons_leaves}
use Rattle.poly_pair.proofs.WorkLemmas.{refused_overflow}
use Rattle.std.specs.Prelude.{IfOk, Result}
use Rattle.row_core.specs.declared.errors.ConvErr.{ConvErr}
use Rattle.poly_pair.specs.Polyhedra.{Polyhedron, IsOfConstraints}
use Rattle.poly_pair.specs.Work.{AreStored, Converts, cons_work}
use Rattle.line_values.specs.Refusals.{refusal_of_conversion}
use Rattle.poly_makers.specs.Makers.{cons}
use Rattle.poly_makers.proofs.MakerLemmas.{turned}
use Rattle.poly_makers.proofs.makers.cons.Goals as goal

pub returns-then-full : goal.returns-then-full
returns-then-full g c =
    let small = subst (λ (k : ℕ). k ≤ MAX_DIM) c.in-Some.ensures.0 c.in-Some.ensures.1 in
    let read = subst (λ (k : ℕ). ReadsConstraints c.args.topology k c.args.part.now c.in-Ok.system) c.in-Some.ensures.0 c.in-Ok.ensures in
    cons_full c.args.full c.args.topology c.args.n c.args.part.now c.in-Ok.system small read c.if-full.true

pub returns : goal.returns
returns g c =
    let small = subst (λ (k : ℕ). k ≤ MAX_DIM) c.in-Some.ensures.0 c.in-Some.ensures.1 in
    let read = subst (λ (k : ℕ). ReadsConstraints c.args.topology k c.args.part.now c.in-Ok.system) c.in-Some.ensures.0 c.in-Ok.ensures in
    let room = not_full c.args.full c.if-full.false in
    let t = c.args.topology in
    let system = c.in-Ok.system in
    turned (cons c.args.full t c.args.n c.args.part.now) refusal_of_conversion
    (λ (r : Result Polyhedron ConvErr). IfOk r (IsOfConstraints t system) × (IfOk r (AreStored t (cons_work t system)) × Converts (cons_work t system) c.args.steps.now c.from_cons.new.steps r))
    c.from_cons.result c.map_err.result c.map_err.ensures.cases (c.from_cons.ensures.points, (c.from_cons.ensures.stored, c.from_cons.ensures.conversion))
    (λ made is. cons_made c.args.full t c.args.n c.args.part.now system made small read room (record { set = is.0; stored = is.1.0 }))
    (λ cause is. cons_leaves c.args.full t c.args.n c.args.part.now system cause small read room (refused_overflow _ _ _ cause is.1.1))
