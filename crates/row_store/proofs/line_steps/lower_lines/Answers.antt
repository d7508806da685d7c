use Rattle.std.specs.Prelude.{◌≡◌, [], List, true}
use Rattle.std.specs.Int.{w128}
use Rattle.std.proofs.Common.{sym, subst, ◌∙◌, arith}
use Rattle.std.proofs.lemmas.Result.{err_from_is_err_and}
use Rattle.std.proofs.lemmas.List.Elements.{All-same}
use mir.Val.{SFits}
use Rattle.row_core.specs.Lists.{Row}
use Rattle.row_core.proofs.SignTests.{fits}
use Rattle.row_store.specs.Changes.{AreLowered}
use Rattle.row_core.proofs.RowListLemmas.{length-vectors}
use Rattle.row_store.proofs.FaultLemmas.{other_from_below, others_outcome}
use Rattle.row_store.proofs.ChangeLemmas.{marked_none}
use Rattle.row_store.proofs.line_steps.lower_lines.Goals as goal

pub returns-in_err-lower_range-clause-lowered : goal.returns-in_err-lower_range-clause-lowered
returns-in_err-lower_range-clause-lowered g c =
    let line_fits : SFits w128 c.args.crossing.value = fits c.args.crossing.value c.requires.in_range.1 in
    let p = err_from_is_err_and c.from_residual.result c.from_residual.ensures.1 in
    rw (p.1, p.2) (other_from_below _ _ _ _ _ _ (omega (arith, c.requires.index, length-vectors c.args.lines.now.rows)) c.in_err-lower_range.ensures.lowered)

pub returns-clause-lowered : goal.returns-clause-lowered
returns-clause-lowered g c =
    let P : List Row → Type 0 = λ old. AreLowered c.args.crossing.value c.args.crossing.line.now c.args.values.now c.args.lines.now.rows 0 c.args.crossing.index old c.lower_range.new.into.rows in
    others_outcome c.args.crossing.value c.args.crossing.index c.args.crossing.line.now c.args.values.now c.args.lines.now.rows c.lower_range.new.into.rows c.lower_range-2.new.into.rows c.len-count.result c.lower_range-2.result
    c.requires.index c.len-count.ensures (subst P c.requires.empty c.in_ok-lower_range.ensures.lowered) c.lower_range-2.ensures.lowered

pub lower_range-requires-clause-marked : goal.lower_range-requires-clause-marked
lower_range-requires-clause-marked g c = All-same (λ (row : Row). row.1 ≡ true) c.args.into.now.rows [] c.requires.empty (marked_none true)

pub lower_range-requires-clause-spare : goal.lower_range-requires-clause-spare
lower_range-requires-clause-spare g c = omega (arith, c.requires.spare, c.requires.index)

pub lower_range-requires-clause-line : goal.lower_range-requires-clause-line
lower_range-requires-clause-line g c = c.requires.line

pub lower_range-requires-clause-bits : goal.lower_range-requires-clause-bits
lower_range-requires-clause-bits g c = c.requires.bits

pub lower_range-requires-clause-wide : goal.lower_range-requires-clause-wide
lower_range-requires-clause-wide g c = c.requires.wide

pub lower_range-requires-clause-bounds : goal.lower_range-requires-clause-bounds
lower_range-requires-clause-bounds g c = (omega arith, omega (arith, c.requires.index))

pub lower_range-requires-clause-as_many : goal.lower_range-requires-clause-as_many
lower_range-requires-clause-as_many g c = c.requires.as_many

pub lower_range-requires-clause-in_range : goal.lower_range-requires-clause-in_range
lower_range-requires-clause-in_range g c = c.requires.in_range

pub lower_range-requires-clause-nonzero : goal.lower_range-requires-clause-nonzero
lower_range-requires-clause-nonzero g c = c.requires.nonzero

pub lower_range-requires-clause-primitive : goal.lower_range-requires-clause-primitive
lower_range-requires-clause-primitive g c = c.requires.primitive

pub lower_range-requires-2-clause-spare : goal.lower_range-requires-2-clause-spare
lower_range-requires-2-clause-spare g c = omega (arith, c.requires.spare, c.in_ok-lower_range.ensures.spare, c.len-count.ensures)

pub lower_range-requires-2-clause-line : goal.lower_range-requires-2-clause-line
lower_range-requires-2-clause-line g c = c.requires.line ∙ sym c.in_ok-lower_range.ensures.width

pub lower_range-requires-2-clause-bits : goal.lower_range-requires-2-clause-bits
lower_range-requires-2-clause-bits g c = c.requires.bits

pub lower_range-requires-2-clause-wide : goal.lower_range-requires-2-clause-wide
lower_range-requires-2-clause-wide g c = c.requires.wide ∙ sym c.in_ok-lower_range.ensures.width

pub lower_range-requires-2-clause-bounds : goal.lower_range-requires-2-clause-bounds
lower_range-requires-2-clause-bounds g c = (omega (arith, c.requires.index, c.len-count.ensures), omega (arith, c.len-count.ensures))

pub lower_range-requires-2-clause-as_many : goal.lower_range-requires-2-clause-as_many
lower_range-requires-2-clause-as_many g c = c.requires.as_many

pub lower_range-requires-2-clause-in_range : goal.lower_range-requires-2-clause-in_range
lower_range-requires-2-clause-in_range g c = c.requires.in_range

pub lower_range-requires-2-clause-nonzero : goal.lower_range-requires-2-clause-nonzero
lower_range-requires-2-clause-nonzero g c = c.requires.nonzero

pub lower_range-requires-2-clause-primitive : goal.lower_range-requires-2-clause-primitive
lower_range-requires-2-clause-primitive g c = c.requires.primitive

pub lower_range-requires-2-clause-marked : goal.lower_range-requires-2-clause-marked
lower_range-requires-2-clause-marked g c = c.in_ok-lower_range.ensures.marked

pub returns-clause-no_fewer : goal.returns-clause-no_fewer
returns-clause-no_fewer g c = omega (arith, c.in_ok-lower_range.ensures.counted, c.lower_range-2.ensures.counted)

pub returns-clause-counted : goal.returns-clause-counted
returns-clause-counted g c = omega (arith, c.in_ok-lower_range.ensures.counted, c.lower_range-2.ensures.counted, c.len-count.ensures, c.requires.index)

pub returns-clause-marked : goal.returns-clause-marked
returns-clause-marked g c = c.lower_range-2.ensures.marked

pub returns-in_err-lower_range-clause-no_fewer : goal.returns-in_err-lower_range-clause-no_fewer
returns-in_err-lower_range-clause-no_fewer g c = c.in_err-lower_range.ensures.counted.0

pub returns-in_err-lower_range-clause-counted : goal.returns-in_err-lower_range-clause-counted
returns-in_err-lower_range-clause-counted g c = omega (arith, c.in_err-lower_range.ensures.counted, c.requires.index)
