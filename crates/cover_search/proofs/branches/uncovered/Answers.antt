use Rattle.std.proofs.Common.{inl, inr, None, refl}
use Rattle.cover_search.proofs.ConversionLemmas.{searches_fewer}
use Rattle.cover_search.proofs.branches.uncovered.Goals as goal

pub returns-in-Ok-clause-conversion : goal.returns-in-Ok-clause-conversion
returns-in-Ok-clause-conversion g c = inl (refl, c.in-Ok.ensures.conversion)

pub returns-in-Err-Memory-clause-conversion : goal.returns-in-Err-Memory-clause-conversion
returns-in-Err-Memory-clause-conversion g c = inl (refl, rw c.in-Err-Memory.field-0-is at c.in-Err-Memory.ensures.conversion)

pub returns-clause-conversion : goal.returns-clause-conversion
returns-clause-conversion g c =
    let free = rw c.in-Err-Overflow.field-0-is at c.in-Err-Overflow.ensures.conversion in
    inr (record { between = c.search.new.steps; refused = _; free = free; branches = c.by_branches.ensures.conversion })

pub returns-in-Ok-clause-no_fewer : goal.returns-in-Ok-clause-no_fewer
returns-in-Ok-clause-no_fewer g c = searches_fewer c.args.first.now c.args.systems.now c.args.steps.now c.search.new.steps None (inl (refl, c.in-Ok.ensures.conversion))

pub returns-in-Err-Memory-clause-no_fewer : goal.returns-in-Err-Memory-clause-no_fewer
returns-in-Err-Memory-clause-no_fewer g c = searches_fewer c.args.first.now c.args.systems.now c.args.steps.now c.search.new.steps None (inl (refl, rw c.in-Err-Memory.field-0-is at c.in-Err-Memory.ensures.conversion))

pub returns-clause-no_fewer : goal.returns-clause-no_fewer
returns-clause-no_fewer g c =
    let free = rw c.in-Err-Overflow.field-0-is at c.in-Err-Overflow.ensures.conversion in
    searches_fewer _ _ _ _ _ (inr (record { between = c.search.new.steps; refused = _; free = free; branches = c.by_branches.ensures.conversion }))
