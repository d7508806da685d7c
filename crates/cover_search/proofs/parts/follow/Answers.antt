use Rattle.std.proofs.lemmas.Result.{err_from_is_err_and}
use Rattle.cover_search.proofs.PartLemmas.{next_below}
use Rattle.std.proofs.Common.{◌≡◌, ℕ, List, Some, refl, subst}
use Rattle.std.specs.Prelude.{slice_get}
use Rattle.cons_sys.specs.Constraints.{Constraints}
use Rattle.poly_pair.specs.Work.{conv_overflow}
use Rattle.cover_search.specs.Conversions.{IsCountedParting, IsBrokenParting}
use Rattle.cover_search.proofs.parts.follow.Goals as goal

pub returns-in_err-cut_by-in-Some-clause-followed : goal.returns-in_err-cut_by-in-Some-clause-followed
returns-in_err-cut_by-in-Some-clause-followed g c = let p = err_from_is_err_and c.from_residual.result c.from_residual.ensures.1 in rw p.1 tt

pub cut_by-requires-clause-system : goal.cut_by-requires-clause-system
cut_by-requires-clause-system g c = next_below c.args.systems.now c.args.region c.args.plan.met.items c.args.plan.next c.in-Some.cut c.requires.next c.in-Some.is

pub returns-in-None-clause-conversion : goal.returns-in-None-clause-conversion
returns-in-None-clause-conversion g c = rw c.in-None.is (refl, refl)

pub returns-clause-conversion : goal.returns-clause-conversion
returns-clause-conversion g c =
    rw c.in-Some.is (subst (λ (xs : List ℕ). (rows : Constraints) × (slice_get c.args.systems.now c.in-Some.cut.system ≡ Some rows) × IsCountedParting rows c.in-Some.cut.last c.args.region xs c.args.pending.now.items c.cut_by.new.pending.items c.args.steps.now c.cut_by.new.steps) c.deref.ensures.value c.in_ok-cut_by-in-Some.ensures.conversion)

pub returns-in_err-cut_by-in-Some-clause-conversion : goal.returns-in_err-cut_by-in-Some-clause-conversion
returns-in_err-cut_by-in-Some-clause-conversion g c =
    let p = err_from_is_err_and c.from_residual.result c.from_residual.ensures.1 in
    rw (p.1, p.2, c.in-Some.is) (subst (λ (xs : List ℕ). (rows : Constraints) × (slice_get c.args.systems.now c.in-Some.cut.system ≡ Some rows) × IsBrokenParting rows c.in-Some.cut.last c.args.region xs c.args.pending.now.items c.args.steps.now c.cut_by.new.steps (conv_overflow c.in_err-cut_by-in-Some.field-0.0)) c.deref.ensures.value c.in_err-cut_by-in-Some.ensures.conversion)
