use Rattle.std.specs.Prelude.{◌≡◌, length, drop}
use Rattle.std.proofs.Common.{arith, subst, sym, ◌∙◌}
use Rattle.std.proofs.lemmas.List.{take_at}
use Rattle.std.proofs.lemmas.Grind.{common_steps}
use Rattle.row_core.specs.Content.{IsPrimitive}
use Rattle.row_core.proofs.buffers.RowBuf.negated.Goals as goal

pub returns-clause-primitive : goal.returns-clause-primitive
returns-clause-primitive c p =
    let full : length c.negate.new.row ≡ c.in_ok-entries.entries.len = omega arith in
    let given : c.args.cells.now ≡ c.as_mut_slice.result.now =
    sym (c.as_mut_slice.ensures.value ∙ c.in_ok-entries.ensures.items) in
    rw (take_at c.negate.new.row (drop (length c.negate.new.row) c.in_ok-entries.entries.items)
    c.in_ok-entries.entries.len full)
    (c.negate.ensures.primitive (subst IsPrimitive given p))

pub negate-requires : goal.negate-requires
negate-requires c = grind (arith, common_steps)

pub returns-clause-value : goal.returns-clause-value
returns-clause-value c = grind (arith, common_steps)

pub returns-clause-in_range : goal.returns-clause-in_range
returns-clause-in_range c = grind (arith, common_steps)

pub returns-clause-width : goal.returns-clause-width
returns-clause-width c = grind (arith, common_steps)

pub invariant_of-result : goal.invariant_of-result
invariant_of-result c = grind (arith, common_steps)
