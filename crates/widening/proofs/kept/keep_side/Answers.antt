use Rattle.std.proofs.Common.{IsTrue, List, ℤ, ◌∷◌, [], ◌++◌, refl, sym, ap, ◌∙◌, subst, rules}
use Rattle.std.proofs.lemmas.Result.{err_from_is_err_and}
use Rattle.row_core.specs.Content.{IsPrimitive}
use Rattle.widening.specs.Inequalities.{side_of}
use Rattle.widening.specs.Widenings.{as_least}
use Rattle.widening.specs.Values.{IsLeastOn}
use Rattle.widening.proofs.KeptLists.{gains_taken, gains_passed}
use Rattle.widening.proofs.kept.keep_side.Goals as goal

pub returns-then-not-branch-clause-kept : goal.returns-then-not-branch-clause-kept
returns-then-not-branch-clause-kept c =
    gains_passed (IsLeastOn c.args.gens.now.list) (side_of c.args.row.now c.args.other) c.args.kept.now.list
    (λ h. absurd (let t : IsTrue c.in_ok-is_least_on.field-0 = c.in_ok-is_least_on.ensures.least.1 h in search (rules, t, c.if-not-branch.true)))

pub push_inequality-requires-clause-primitive : goal.push_inequality-requires-clause-primitive
push_inequality-requires-clause-primitive c = subst IsPrimitive (sym c.deref.ensures.value) (c.in_ok-negative.ensures.primitive c.requires.primitive)

pub returns-then-other-clause-kept : goal.returns-then-other-clause-kept
returns-then-other-clause-kept c =
    let t : IsTrue c.in_ok-is_least_on.field-0 = search (rules, c.if-not-branch.false) in
    gains_taken (IsLeastOn c.args.gens.now.list) (side_of c.args.row.now c.args.other) c.args.kept.now.list c.push_inequality.new.system.list (c.in_ok-is_least_on.ensures.least.0 t)
    (c.in_ok-push_inequality.ensures.list ∙ ap (λ (v : List ℤ). c.args.kept.now.list ++ as_least (v ∷ [])) (c.deref.ensures.value ∙ c.in_ok-negative.ensures.value ∙ ap (side_of c.args.row.now) (sym c.if-other.true)))

pub returns-clause-kept : goal.returns-clause-kept
returns-clause-kept c =
    let t : IsTrue c.in_ok-is_least_on.field-0 = search (rules, c.if-not-branch.false) in
    gains_taken (IsLeastOn c.args.gens.now.list) (side_of c.args.row.now c.args.other) c.args.kept.now.list c.push_inequality-2.new.system.list (c.in_ok-is_least_on.ensures.least.0 t)
    (c.in_ok-push_inequality-2.ensures.list ∙ ap (λ (v : List ℤ). c.args.kept.now.list ++ as_least (v ∷ [])) (ap (side_of c.args.row.now) (sym c.if-other.false)))

pub returns-in_err-is_least_on : goal.returns-in_err-is_least_on
returns-in_err-is_least_on c = let p = err_from_is_err_and c.from_residual.result c.from_residual.ensures.1 in rw (p.1, p.2) (record { dim = refl; kept = tt; overflow = c.in_err-is_least_on.ensures.overflow })

pub returns-in_err-negative : goal.returns-in_err-negative
returns-in_err-negative c = let p = err_from_is_err_and c.from_residual-in_err-negative.result c.from_residual-in_err-negative.ensures.1 in rw (p.1, p.2) (record { dim = refl; kept = tt; overflow = tt })

pub returns-in_err-push_inequality : goal.returns-in_err-push_inequality
returns-in_err-push_inequality c = let p = err_from_is_err_and c.from_residual-in_err-push_inequality.result c.from_residual-in_err-push_inequality.ensures.1 in rw (p.1, p.2) (record { dim = c.in_err-push_inequality.ensures.dim; kept = tt; overflow = tt })

pub returns-in_err-push_inequality-2 : goal.returns-in_err-push_inequality-2
returns-in_err-push_inequality-2 c = let p = err_from_is_err_and c.from_residual-in_err-push_inequality-2.result c.from_residual-in_err-push_inequality-2.ensures.1 in rw (p.1, p.2) (record { dim = c.in_err-push_inequality-2.ensures.dim; kept = tt; overflow = tt })
