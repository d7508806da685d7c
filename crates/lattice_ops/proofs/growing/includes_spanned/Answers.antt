use Rattle.std.proofs.Common.{subst}
use Rattle.std.specs.Prelude.{false, Ok}
use Rattle.cons_sys.specs.Constraints.{Constraints}
use Rattle.lattice_ops.specs.Questions.{Answers}
use Rattle.lattice_ops.proofs.PairAnswers.{contained_exactly}
use Rattle.lattice_ops.proofs.KeptSets.{proper_without_lack}
use Rattle.lattice_ops.proofs.growing.includes_spanned.Goals as goal

pub returns-in-Ok : goal.returns-in-Ok
returns-in-Ok c t =
    let cs = c.args.p.now.cons in
    let gs = c.args.gens.now in
    let answer = subst (λ (x : Constraints). Answers x.list gs.list false (Ok c.in-Ok.within)) c.cons.ensures.value (subst (Answers c.cons.result.now.list gs.list false) c.in-Ok.is c.test_in_order.ensures) in
    (contained_exactly cs gs false (Ok c.in-Ok.within) c.dim-fit.ensures.rows (proper_without_lack gs c.requires.point) answer).0 t
