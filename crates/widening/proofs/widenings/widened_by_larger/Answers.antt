use Rattle.std.proofs.Common.{length, inl, inr, refl, sym, subst}
use Rattle.std.proofs.lemmas.Result.{IfOk-weaker}
use Rattle.cons_sys.specs.Constraints.{Constraints}
use Rattle.stored_systems.specs.PointSets.{AreClosed}
use Rattle.stored_systems.proofs.Stored.{stored_is_closed}
use Rattle.poly_pair.specs.declared.topology.Topology.TheVariants.{Closed}
use Rattle.poly_pair.specs.Polyhedra.{Polyhedron, IsOfConstraints}
use Rattle.widening.specs.Widenings.{IsWidening}
use Rattle.widening.specs.Values.{HaveZerosAmong, IsOfAmong, IsAmong}
use Rattle.widening.proofs.WidenedSets.{kept_stored, has_member}
use Rattle.widening.proofs.AmongSets.{among_is_widening, all_among_is_widening}
use Rattle.widening.proofs.widenings.widened_by_larger.Goals as goal

pub with_zeros-requires-clause-closed_kinds : goal.with_zeros-requires-clause-closed_kinds
with_zeros-requires-clause-closed_kinds g c = subst AreClosed (sym c.cons.ensures.value) (stored_is_closed c.args.q.now.cons c.args.q.now.gens (kept_stored c.args.q.now c.cons.ensures.kept c.requires.second)).cons

pub returns-in-Some-clause-points : goal.returns-in-Some-clause-points
returns-in-Some-clause-points g c =
    let p = c.args.p.now in
    let q = c.args.q.now in
    let stored = kept_stored p c.dim-2.ensures.kept c.requires.first in
    let stored2 = kept_stored q c.cons.ensures.kept c.requires.second in
    let among = subst (λ (cs : Constraints). IsOfAmong c.args.p.now cs c.in-Some.kept) c.cons.ensures.value (subst (IsAmong c.args.p.now c.cons.result.now) c.in-Some.is c.in_ok-kept.ensures) in
    IfOk-weaker c.from_cons.result (IsOfConstraints Closed c.in-Some.kept) (IsWidening p q)
    (λ r of. among_is_widening p q stored stored2 c.requires.dim c.requires.nested (has_member p stored c.requires.some) c.in-Some.kept r among of) c.from_cons.ensures.points

pub returns-in_ok-try_copy-in-None-clause-points : goal.returns-in_ok-try_copy-in-None-clause-points
returns-in_ok-try_copy-in-None-clause-points g c =
    let p = c.args.p.now in
    let q = c.args.q.now in
    let stored = kept_stored p c.dim-2.ensures.kept c.requires.first in
    let stored2 = kept_stored q c.cons.ensures.kept c.requires.second in
    let all = subst (λ (cs : Constraints). HaveZerosAmong c.args.p.now cs (length cs.list)) c.cons.ensures.value (subst (IsAmong c.args.p.now c.cons.result.now) c.in-None.is c.in_ok-kept.ensures) in
    subst (λ (r : Polyhedron). IsWidening c.args.p.now c.args.q.now r) (sym c.in_ok-try_copy-in-None.ensures) (all_among_is_widening p q stored stored2 c.requires.dim c.requires.nested (has_member p stored c.requires.some) c.requires.second all)

pub returns-in-Some-clause-conversion : goal.returns-in-Some-clause-conversion
returns-in-Some-clause-conversion g c =
    let among = subst (λ (cs : Constraints). IsOfAmong c.args.p.now cs c.in-Some.kept) c.cons.ensures.value (subst (IsAmong c.args.p.now c.cons.result.now) c.in-Some.is c.in_ok-kept.ensures) in
    inr (record { system = c.in-Some.kept; is_system = among; conversion = c.from_cons.ensures.conversion })

pub returns-in_ok-try_copy-in-None-clause-conversion : goal.returns-in_ok-try_copy-in-None-clause-conversion
returns-in_ok-try_copy-in-None-clause-conversion g c = inl refl

pub returns-in_err-kept-clause-conversion : goal.returns-in_err-kept-clause-conversion
returns-in_err-kept-clause-conversion g c = inl refl

pub returns-in_err-try_copy-in-None-clause-conversion : goal.returns-in_err-try_copy-in-None-clause-conversion
returns-in_err-try_copy-in-None-clause-conversion g c = inl refl
