use Rattle.std.proofs.Common.{◌≡◌, Some, slice_get, rules, sym, subst}
use Rattle.widening.specs.RunLaws.{AreSetsOf}
use Rattle.loop_analysis.proofs.TurnLemmas.{sets_of_one, invariant_of, stable_of, closed_of, run_leaves_from}
use Rattle.loop_analysis.proofs.analysis.invariant.Goals as goal

pub run-requires : goal.run-requires
run-requires g c = subst (AreSetsOf c.args.program.now.dim 1) (sym c.in_ok-initial.ensures) (sets_of_one c.args.program.now.dim c.args.start.now c.requires)

pub returns-in_err-sets-clause-overflow : goal.returns-in_err-sets-clause-overflow
returns-in_err-sets-clause-overflow g c =
    let leaves = run_leaves_from c.args.program.now c.args.start.now c.in_ok-initial.initial.items c.in_ok-initial.ensures c.in_err-sets.field-0.0 c.in_err-sets.ensures.overflow in
    search (rules, leaves)

pub returns-clause-invariant : goal.returns-clause-invariant
returns-clause-invariant g c =
    let at : slice_get c.in_ok-sets.sets.items 0 ≡ Some c.in_ok-set.set = search (rules, c.first.ensures, c.in_ok-set.ensures) in
    invariant_of c.args.program.now c.args.start.now c.in_ok-set.set c.in_ok-initial.initial.items c.in_ok-sets.sets.items c.in_ok-initial.ensures c.in_ok-sets.ensures.sets at c.in_ok-sets.ensures.limit

pub returns-clause-stable : goal.returns-clause-stable
returns-clause-stable g c =
    let at : slice_get c.in_ok-sets.sets.items 0 ≡ Some c.in_ok-set.set = search (rules, c.first.ensures, c.in_ok-set.ensures) in
    stable_of c.args.program.now c.args.start.now c.in_ok-set.set c.in_ok-initial.initial.items c.in_ok-sets.sets.items c.in_ok-initial.ensures c.in_ok-sets.ensures.sets at c.in_ok-sets.ensures.includes_initial c.in_ok-sets.ensures.taken

pub returns-clause-closed : goal.returns-clause-closed
returns-clause-closed g c =
    let at : slice_get c.in_ok-sets.sets.items 0 ≡ Some c.in_ok-set.set = search (rules, c.first.ensures, c.in_ok-set.ensures) in
    closed_of c.args.program.now c.args.start.now c.in_ok-set.set c.in_ok-initial.initial.items c.in_ok-sets.sets.items c.in_ok-initial.ensures c.in_ok-sets.ensures.sets at
