use Rattle.std.proofs.Common.{ℕ, List, ◌≡◌, Err, sym, subst}
use Rattle.lattice_ops.specs.Sets.{AreDisjoint}
use Rattle.line_values.specs.declared.refusal.StepErr.{StepErr}
use Rattle.line_values.specs.Meaning.{answer_line}
use Rattle.line_values.specs.Performed.{IsPerformed}
use Rattle.line_values.proofs.PerformedLemmas.{answered}
use Rattle.poly_questions.specs.Lattice.{disjoint}
use Rattle.poly_questions.proofs.LatticeLemmas.{alike_pass, told, disjoint_leaves}
use Rattle.poly_questions.proofs.lattice.disjoint.Goals as goal

pub returns-in-Ok : goal.returns-in-Ok
returns-in-Ok g c =
    let passes = alike_pass c.args.p.now c.args.q.now c.requires.topology c.requires.dim in
    answered (disjoint c.args.p.now c.args.q.now) (λ (text : List ℕ). text ≡ answer_line c.in-Ok.holds) c.answer.result (λ text said. (passes, told (AreDisjoint c.args.p.now c.args.q.now) c.in-Ok.holds text c.in-Ok.ensures.holds said)) c.answer.ensures

pub returns-in-Err : goal.returns-in-Err
returns-in-Err g c =
    let passes = alike_pass c.args.p.now c.args.q.now c.requires.topology c.requires.dim in
    subst (λ (e : StepErr). IsPerformed (disjoint c.args.p.now c.args.q.now) (Err e)) (sym c.from.ensures)
    (disjoint_leaves c.args.p.now c.args.q.now c.args.steps.now c.disjoint.new.steps c.in-Err.cause passes c.in-Err.ensures.conversion)
