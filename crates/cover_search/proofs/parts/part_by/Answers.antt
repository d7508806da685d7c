use Rattle.std.proofs.Common.{◌<◌, inl, inr, length, subst, arith, ℕ, ◌≡◌}
use Rattle.std.proofs.lemmas.Result.{err_from_is_err_and}
use Rattle.cover_search.specs.Parts.{IsPartedBy}
use Rattle.cover_search.specs.Conversions.{begins, takes, AreCountedRests}
use Rattle.cover_search.proofs.PartLemmas.{parted_none, parted_next, parted_last}
use Rattle.cover_search.proofs.parts.part_by.Goals as goal

pub loop-index-init : goal.loop-index-init
loop-index-init g c = record { parted = parted_none c.args.walls.now c.args.region c.args.numbers.now c.requires.inequalities c.args.pending.now.items; counted = begins }

pub loop-index-preserved : goal.loop-index-preserved
loop-index-preserved g c =
    let below : c.loop-index.index < length c.args.walls.now.list = omega arith in
    record {
      parted = parted_next c.args.walls.now c.args.region c.args.numbers.now c.requires.inequalities c.args.pending.now.items c.loop-index.index below c.loop-index.pending.items c.rest_of.new.pending.items c.loop-index.rest c.loop-index.invariant.parted c.in_ok-rest.rest c.in_ok-rest.ensures.rest;
      counted = takes c.loop-index.invariant.counted c.in_ok-rest.ensures.conversion;
    }

pub returns-in_err-rest-clause-conversion : goal.returns-in_err-rest-clause-conversion
returns-in_err-rest-clause-conversion g c =
    let p = err_from_is_err_and c.from_residual.result c.from_residual.ensures.1 in
    rw (p.1, p.2) (record {
      index = c.loop-index.index;
      middle = c.loop-index.pending.items;
      rest = c.loop-index.rest;
      counted = c.loop-index.steps;
      rests = c.loop-index.invariant.counted;
      broken = inl (omega arith, c.in_err-rest.ensures.conversion);
    })

pub returns-in_err-push_outside-clause-conversion : goal.returns-in_err-push_outside-clause-conversion
returns-in_err-push_outside-clause-conversion g c =
    let p = err_from_is_err_and c.from_residual-in_err-push_outside.result c.from_residual-in_err-push_outside.ensures.1 in
    rw (p.1, p.2) (record {
      index = c.loop-index.index;
      middle = c.loop-index.pending.items;
      rest = c.loop-index.rest;
      counted = c.loop-index.steps;
      rests = c.loop-index.invariant.counted;
      broken = inr (omega arith, c.in_err-push_outside.ensures.conversion);
    })

pub returns-clause-conversion : goal.returns-clause-conversion
returns-clause-conversion g c =
    let e : c.loop-index.index ≡ c.args.last = omega arith in
    record {
      middle = c.loop-index.pending.items;
      rest = c.loop-index.rest;
      counted = c.loop-index.steps;
      rests = subst (λ (k : ℕ). AreCountedRests c.args.walls.now c.args.numbers.now c.args.region c.args.pending.now.items c.args.steps.now k c.loop-index.pending.items c.loop-index.rest c.loop-index.steps) e c.loop-index.invariant.counted;
      pushed = c.in_ok-push_outside.ensures.part;
      conversion = c.in_ok-push_outside.ensures.conversion;
    }

pub returns-clause-parts : goal.returns-clause-parts
returns-clause-parts g c =
    let e : c.loop-index.index ≡ c.args.last = omega arith in
    let p = subst (λ (k : ℕ). IsPartedBy c.args.walls.now k c.args.region c.args.numbers.now c.args.pending.now.items c.loop-index.pending.items c.loop-index.rest) e c.loop-index.invariant.parted in
    parted_last c.args.walls.now c.args.region c.args.numbers.now c.requires.inequalities c.args.pending.now.items c.args.last c.requires.last c.loop-index.pending.items c.push_outside.new.pending.items c.loop-index.rest p c.requires.behind c.in_ok-push_outside.ensures.part
