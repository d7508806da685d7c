use Rattle.std.proofs.Common.{List, ℕ, Option, Ok, Err, inl, inr, length, refl, subst}
use Rattle.std.specs.Prelude.{MatchOption}
use Rattle.cover_search.specs.declared.contacts.Plan.{Plan}
use Rattle.cover_search.specs.Pieces.{LiesInSome}
use Rattle.cover_search.specs.Parts.{IsPlan}
use Rattle.cover_search.proofs.PartLemmas.{settled_within, followed_settles}
use Rattle.std.proofs.lemmas.Result.{err_from_is_err_and}
use Rattle.cover_search.proofs.ConversionLemmas.{followed_counts}
use Rattle.cover_search.proofs.parts.settle_at.Goals as goal

pub returns-in-None-clause-settled : goal.returns-in-None-clause-settled
returns-in-None-clause-settled g c = settled_within c.args.systems.now c.args.part c.args.pending.now.items
    (subst (λ (o : Option Plan). MatchOption o (LiesInSome c.args.systems.now c.args.part.region) (IsPlan c.args.systems.now c.args.part.region c.deref.result.now (length c.deref.result.now))) c.in-None.is c.in_ok-planned.ensures)

pub returns-in_ok-found-in-Some-clause-settled : goal.returns-in_ok-found-in-Some-clause-settled
returns-in_ok-found-in-Some-clause-settled g c =
    let planned : IsPlan c.args.systems.now c.args.part.region c.deref.result.now (length c.deref.result.now) c.in-Some.plan = subst (λ (o : Option Plan). MatchOption o (LiesInSome c.args.systems.now c.args.part.region) (IsPlan c.args.systems.now c.args.part.region c.deref.result.now (length c.deref.result.now))) c.in-Some.is c.in_ok-planned.ensures in
    let plan : IsPlan c.args.systems.now c.args.part.region c.args.part.met.items (length c.args.part.met.items) c.in-Some.plan = subst (λ (xs : List ℕ). IsPlan c.args.systems.now c.args.part.region xs (length xs) c.in-Some.plan) c.deref.ensures.value planned in
    followed_settles c.args.systems.now c.args.part c.args.pending.now.items c.requires.part c.in-Some.plan plan c.args.point c.follow.new.pending.items c.in_ok-found-in-Some.found c.requires.point c.in_ok-found-in-Some.ensures.followed

pub returns-in_err-planned-clause-conversion : goal.returns-in_err-planned-clause-conversion
returns-in_err-planned-clause-conversion g c = let p = err_from_is_err_and c.from_residual.result c.from_residual.ensures.1 in rw (p.1, p.2) (inl (refl, refl))

pub returns-in-None-clause-conversion : goal.returns-in-None-clause-conversion
returns-in-None-clause-conversion g c =
    let lies = subst (λ (o : Option Plan). MatchOption o (LiesInSome c.args.systems.now c.args.part.region) (IsPlan c.args.systems.now c.args.part.region c.deref.result.now (length c.deref.result.now))) c.in-None.is c.in_ok-planned.ensures in
    inl (inr lies, refl, refl)

pub returns-in_ok-found-in-Some-clause-conversion : goal.returns-in_ok-found-in-Some-clause-conversion
returns-in_ok-found-in-Some-clause-conversion g c =
    let planned : IsPlan c.args.systems.now c.args.part.region c.deref.result.now (length c.deref.result.now) c.in-Some.plan = subst (λ (o : Option Plan). MatchOption o (LiesInSome c.args.systems.now c.args.part.region) (IsPlan c.args.systems.now c.args.part.region c.deref.result.now (length c.deref.result.now))) c.in-Some.is c.in_ok-planned.ensures in
    let plan : IsPlan c.args.systems.now c.args.part.region c.args.part.met.items (length c.args.part.met.items) c.in-Some.plan = subst (λ (xs : List ℕ). IsPlan c.args.systems.now c.args.part.region xs (length xs) c.in-Some.plan) c.deref.ensures.value planned in
    followed_counts c.args.systems.now c.args.part c.in-Some.plan plan c.args.pending.now.items c.follow.new.pending.items c.args.steps.now _ c.args.point (Ok c.in_ok-found-in-Some.found) c.in_ok-found-in-Some.ensures.followed c.in_ok-found-in-Some.ensures.conversion

pub returns-in_err-found-in-Some-clause-conversion : goal.returns-in_err-found-in-Some-clause-conversion
returns-in_err-found-in-Some-clause-conversion g c =
    let planned : IsPlan c.args.systems.now c.args.part.region c.deref.result.now (length c.deref.result.now) c.in-Some.plan = subst (λ (o : Option Plan). MatchOption o (LiesInSome c.args.systems.now c.args.part.region) (IsPlan c.args.systems.now c.args.part.region c.deref.result.now (length c.deref.result.now))) c.in-Some.is c.in_ok-planned.ensures in
    let plan : IsPlan c.args.systems.now c.args.part.region c.args.part.met.items (length c.args.part.met.items) c.in-Some.plan = subst (λ (xs : List ℕ). IsPlan c.args.systems.now c.args.part.region xs (length xs) c.in-Some.plan) c.deref.ensures.value planned in
    let p = err_from_is_err_and c.from_residual-in_err-found-in-Some.result c.from_residual-in_err-found-in-Some.ensures.1 in
    rw (p.1, p.2) (followed_counts c.args.systems.now c.args.part c.in-Some.plan plan c.args.pending.now.items c.follow.new.pending.items c.args.steps.now _ c.args.point (Err c.in_err-found-in-Some.field-0.0) tt c.in_err-found-in-Some.ensures.conversion)
