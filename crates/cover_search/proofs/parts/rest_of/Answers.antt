use Rattle.std.proofs.Common.{inl, inr, refl, subst}
use Rattle.std.proofs.lemmas.Result.{err_from_is_err_and}
use Rattle.cons_sys.specs.Constraints.{Constraints}
use Rattle.cover_search.specs.Parts.{IsPushed}
use Rattle.cover_search.proofs.ConversionLemmas.{next_of_same, rest_counted}
use Rattle.cover_search.proofs.parts.rest_of.Goals as goal

pub returns-then-is_inside-clause-conversion : goal.returns-then-is_inside-clause-conversion
returns-then-is_inside-clause-conversion g c = inl (c.is_inside.ensures c.if-is_inside.true, refl, refl, refl)

pub returns-in_err-copy-clause-conversion : goal.returns-in_err-copy-clause-conversion
returns-in_err-copy-clause-conversion g c = let p = err_from_is_err_and c.from_residual.result c.from_residual.ensures.1 in rw (p.1, p.2) (inl (refl, refl))

pub returns-in_err-push_outside-clause-conversion : goal.returns-in_err-push_outside-clause-conversion
returns-in_err-push_outside-clause-conversion g c =
    let same = next_of_same _ c.args.region _ _ _ _ c.in_ok-copy.ensures c.in_err-push_outside.ensures.conversion in
    let p = err_from_is_err_and c.from_residual-in_err-push_outside.result c.from_residual-in_err-push_outside.ensures.1 in
    rw (p.1, p.2) (inr (inl same))

pub returns-clause-conversion : goal.returns-clause-conversion
returns-clause-conversion g c =
    let same = next_of_same _ c.args.region _ _ _ _ c.in_ok-copy.ensures c.in_ok-push_outside.ensures.conversion in
    let pushed = subst (λ (cs : Constraints). IsPushed c.args.walls.now c.args.index cs c.args.numbers.now c.args.pending.now.items c.push_outside.new.pending.items) c.in_ok-copy.ensures c.in_ok-push_outside.ensures.part in
    rest_counted c.args.walls.now c.args.index c.args.region c.args.numbers.now c.args.pending.now.items c.push_outside.new.pending.items _ _ _ c.inside.result pushed c.inside.ensures.region same c.inside.ensures.conversion
