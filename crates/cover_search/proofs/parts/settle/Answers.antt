use Rattle.std.proofs.Common.{List, ℤ, Option, inl, refl, subst}
use Rattle.std.specs.Prelude.{MatchOption}
use Rattle.poly_pair.specs.Spanning.{HoldNowhere}
use Rattle.cover_search.specs.Regions.{IsPointIn}
use Rattle.cover_search.proofs.PartLemmas.{settled_empty}
use Rattle.std.proofs.lemmas.Result.{err_from_is_err_and}
use Rattle.cover_search.proofs.parts.settle.Goals as goal

pub returns-in-None-clause-settled : goal.returns-in-None-clause-settled
returns-in-None-clause-settled g c = settled_empty c.args.systems.now c.args.part c.args.pending.now.items (subst (λ (o : Option (List ℤ)). MatchOption o (HoldNowhere c.args.part.region) (IsPointIn c.args.part.region)) c.in-None.is c.in_ok-seen.ensures)

pub settle_at-requires-clause-point : goal.settle_at-requires-clause-point
settle_at-requires-clause-point g c = subst (λ (o : Option (List ℤ)). MatchOption o (HoldNowhere c.args.part.region) (IsPointIn c.args.part.region)) c.in-Some.is c.in_ok-seen.ensures

pub returns-in_err-seen-clause-conversion : goal.returns-in_err-seen-clause-conversion
returns-in_err-seen-clause-conversion g c = let p = err_from_is_err_and c.from_residual.result c.from_residual.ensures.1 in rw (p.1, p.2) (inl (refl, refl))

pub returns-in-None-clause-conversion : goal.returns-in-None-clause-conversion
returns-in-None-clause-conversion g c = inl (inl (subst (λ (o : Option (List ℤ)). MatchOption o (HoldNowhere c.args.part.region) (IsPointIn c.args.part.region)) c.in-None.is c.in_ok-seen.ensures), refl, refl)
