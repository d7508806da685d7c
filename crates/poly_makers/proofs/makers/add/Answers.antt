use Rattle.std.proofs.Common.{ℕ, subst}
use Rattle.poly_pair.specs.TopologyLists.{AreConstraintsFor}
use Rattle.poly_pair.specs.declared.topology.Topology.{Topology}
use Rattle.line_values.specs.Texts.{constraints_fault, IsTextRefusal, ReadsConstraints}
use Rattle.poly_makers.proofs.MakerLemmas.{add_refused, add_made, add_leaves}
use Rattle.poly_pair.proofs.WorkLemmas.{refused_overflow}
use Rattle.std.specs.Prelude.{IfOk, Result}
use Rattle.row_core.specs.declared.errors.ConvErr.{ConvErr}
use Rattle.poly_pair.specs.Additions.{with_constraints}
use Rattle.poly_pair.specs.Polyhedra.{Polyhedron, IsOfConstraints}
use Rattle.poly_pair.specs.Work.{AreStored, Converts, added_cons}
use Rattle.line_values.specs.Refusals.{refusal_of_conversion}
use Rattle.poly_makers.specs.Makers.{add}
use Rattle.poly_makers.proofs.MakerLemmas.{turned}
use Rattle.poly_makers.proofs.makers.add.Goals as goal

pub returns-in-Err : goal.returns-in-Err
returns-in-Err g c =
    let at = subst (λ (k : ℕ). IsTextRefusal (constraints_fault c.topology-topology.result k c.args.part.now) c.in-Err.cause) c.dim.ensures.value c.in-Err.ensures in
    let fault = subst (λ (t : Topology). IsTextRefusal (constraints_fault t c.args.p.now.cons.dim c.args.part.now) c.in-Err.cause) c.topology-topology.ensures.value at in
    add_refused c.args.part.now c.args.p.now c.in-Err.cause fault

pub add_cons-requires-clause-kinds : goal.add_cons-requires-clause-kinds
add_cons-requires-clause-kinds g c = subst (λ (t : Topology). AreConstraintsFor t c.in-Ok.more) c.topology-topology.ensures.value c.in-Ok.ensures.kinds

pub returns : goal.returns
returns g c =
    let at = subst (λ (k : ℕ). ReadsConstraints c.topology-topology.result k c.args.part.now c.in-Ok.more) c.dim.ensures.value c.in-Ok.ensures in
    let p = c.args.p.now in
    let more = c.in-Ok.more in
    let read = subst (λ (t : Topology). ReadsConstraints t p.cons.dim c.args.part.now more) c.topology-topology.ensures.value at in
    turned (add c.args.part.now p) refusal_of_conversion
    (λ (r : Result Polyhedron ConvErr). IfOk r (IsOfConstraints p.topology (with_constraints p more)) × (IfOk r (AreStored p.topology (added_cons p more)) × Converts (added_cons p more) c.args.steps.now c.add_cons.new.steps r))
    c.add_cons.result c.map_err.result c.map_err.ensures.cases (c.add_cons.ensures.points, (c.add_cons.ensures.stored, c.add_cons.ensures.conversion))
    (λ made is. add_made c.args.part.now p more made read (record { set = is.0; stored = is.1.0 }))
    (λ cause is. add_leaves c.args.part.now p more cause read (refused_overflow _ _ _ cause is.1.1))
