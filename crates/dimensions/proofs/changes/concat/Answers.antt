use Rattle.std.proofs.Common.{subst, inl, inr, refl}
use Rattle.std.proofs.lemmas.Result.{IfOk-weaker, err_from_is_err_and}
use Rattle.cons_sys.specs.Constraints.{Constraints}
use Rattle.poly_pair.specs.declared.topology.Topology.{Topology}
use Rattle.poly_pair.specs.Polyhedra.{IsOfConstraints}
use Rattle.poly_pair.specs.Work.{cons_work, conv_overflow, overflow_in, IsConversion}
use Rattle.mapped_systems.specs.MappedLists.{IsJoinedSystem}
use Rattle.dimensions.specs.Results.{IsProduct}
use Rattle.dimensions.proofs.PulledResults.{joined_kinds, product_points}
use Rattle.dimensions.proofs.changes.concat.Goals as goal

pub from_cons-requires-clause-kinds : goal.from_cons-requires-clause-kinds
from_cons-requires-clause-kinds g c =
    let p = c.args.p.now in
    let q = c.args.q.now in
    let j : IsJoinedSystem p.cons q.cons c.in_ok-joined.joined = subst (λ (ds : Constraints). IsJoinedSystem p.cons ds c.in_ok-joined.joined) c.cons-2.ensures.value (subst (λ (cs : Constraints). IsJoinedSystem cs c.cons-2.result.now c.in_ok-joined.joined) c.cons.ensures.value c.in_ok-joined.ensures) in
    joined_kinds c.topology.result p q c.in_ok-joined.joined c.topology.ensures.value c.requires.topology c.topology.ensures.kept c.cons-2.ensures.kept j

pub returns-clause-points : goal.returns-clause-points
returns-clause-points g c =
    let p = c.args.p.now in
    let q = c.args.q.now in
    let j : IsJoinedSystem p.cons q.cons c.in_ok-joined.joined = subst (λ (ds : Constraints). IsJoinedSystem p.cons ds c.in_ok-joined.joined) c.cons-2.ensures.value (subst (λ (cs : Constraints). IsJoinedSystem cs c.cons-2.result.now c.in_ok-joined.joined) c.cons.ensures.value c.in_ok-joined.ensures) in
    IfOk-weaker c.from_cons.result (IsOfConstraints c.topology.result c.in_ok-joined.joined) (IsProduct p q)
    (λ r o. product_points p q c.in_ok-joined.joined c.topology.result c.topology.ensures.value j r o)
    c.from_cons.ensures.points

pub returns-clause-conversion : goal.returns-clause-conversion
returns-clause-conversion g c =
    let p = c.args.p.now in
    let q = c.args.q.now in
    let j : IsJoinedSystem p.cons q.cons c.in_ok-joined.joined = subst (λ (ds : Constraints). IsJoinedSystem p.cons ds c.in_ok-joined.joined) c.cons-2.ensures.value (subst (λ (cs : Constraints). IsJoinedSystem cs c.cons-2.result.now c.in_ok-joined.joined) c.cons.ensures.value c.in_ok-joined.ensures) in
    inr (record { system = c.in_ok-joined.joined; joined = j; conversion = subst (λ (t : Topology). IsConversion (cons_work t c.in_ok-joined.joined) c.args.steps.now c.from_cons.new.steps (overflow_in conv_overflow c.from_cons.result)) c.topology.ensures.value c.from_cons.ensures.conversion })

pub returns-in_err-joined-clause-conversion : goal.returns-in_err-joined-clause-conversion
returns-in_err-joined-clause-conversion g c = let p = err_from_is_err_and c.from_residual.result c.from_residual.ensures.1 in rw (p.1, p.2) (inl (refl, refl))
