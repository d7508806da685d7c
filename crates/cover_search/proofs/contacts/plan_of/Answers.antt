use Rattle.std.proofs.Common.{◌≡◌, Some, false, sym, subst, ap, ◌∙◌, Bool, MatchBool}
use Rattle.std.specs.Prelude.{slice_get}
use Rattle.std.proofs.lemmas.Option.{slice_get-get_or}
use Rattle.cons_sys.specs.Constraints.{Constraints}
use Rattle.cover_search.specs.Inequalities.{AreInequalities}
use Rattle.cover_search.specs.Parts.{IsMet}
use Rattle.cover_search.specs.Regions.{LiesIn}
use Rattle.cover_search.proofs.PartLemmas.{plan_next}
use Rattle.cover_search.proofs.contacts.plan_of.Goals as goal
use Rattle.std.proofs.Common.{get_or}

pub loop-place-preserved : goal.loop-place-preserved
loop-place-preserved c =
    let system = get_or c.args.numbers.now c.loop-place.place 0 in
    let rows = c.index-systems-system.result in
    let within : c.in_ok-within.within ≡ false = c.if-within.false in
    let met : IsMet c.args.region.now rows system c.loop-place.plan c.meet.new.plan = subst (λ (b : Bool). MatchBool b (LiesIn c.args.region.now rows) (IsMet c.args.region.now rows system c.loop-place.plan c.meet.new.plan)) within c.in_ok-within.ensures in
    let at : slice_get c.args.systems.now system ≡ Some rows = slice_get-get_or c.args.systems.now system rows (c.requires.below c.loop-place.place 0 c.loop-place-test.true) ∙ ap Some (sym c.index-systems-system.is) in
    plan_next c.args.systems.now c.args.region.now c.args.numbers.now c.loop-place.place c.loop-place.plan c.loop-place.invariant rows c.meet.new.plan at met

pub meet-requires : goal.meet-requires
meet-requires c =
    let system = get_or c.args.numbers.now c.loop-place.place 0 in
    let rows = c.index-systems-system.result in
    let below = c.requires.below c.loop-place.place 0 c.loop-place-test.true in
    record {
      dim = subst (λ (cs : Constraints). cs.dim ≡ c.args.region.now.dim) (sym c.index-systems-system.is) (c.requires.dims system rows below);
      inequalities = subst AreInequalities (sym c.index-systems-system.is) (c.requires.inequalities system rows below);
    }

pub bounds-systems-system : goal.bounds-systems-system
bounds-systems-system c = c.requires.below c.loop-place.place 0 c.loop-place-test.true
