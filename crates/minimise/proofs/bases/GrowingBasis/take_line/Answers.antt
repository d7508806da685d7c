use Rattle.std.specs.Prelude.{true}
use Rattle.std.specs.List.{insert}
use Rattle.std.proofs.Common.{List, [], ℤ, length, arith, sym, ap, ◌∙◌, subst}
use Rattle.std.proofs.lemmas.Int.{ints}
use Rattle.std.proofs.lemmas.Result.{err_from_is_err_and}
use Rattle.row_core.specs.Range.{AllInRange}
use Rattle.row_core.specs.Lists.{vectors}
use Rattle.row_core.proofs.RowListLemmas.{length-vectors}
use Rattle.minimise.proofs.ClearedRows.{taken_from, marked_insert}
use Rattle.minimise.proofs.FaultCases.{take_fault}
use Rattle.minimise.proofs.bases.GrowingBasis.take_line.Goals as goal

pub returns-clause-taken : goal.returns-clause-taken
returns-clause-taken g c =
    let place = c.place_of-place.result in
    let rows = c.clear_before.new.self.lines.rows in
    taken_from c.args.pivot (vectors c.args.self.now.lines.rows) c.args.self.now.reduced.items place rows c.insert.new.self.rows c.requires.echelon (λ i h. c.requires.primitive i [] h) c.requires.line.at c.place_of-place.ensures c.in_ok-clear_before.ensures.cleared
    (c.in_ok-insert.ensures.rows ∙ ap (λ (v : List ℤ). insert c.clear_before.new.self.lines.rows c.place_of-place.result (v, true)) (c.deref.ensures ∙ c.clear_before.ensures.same))

pub returns-clause-marked : goal.returns-clause-marked
returns-clause-marked g c = λ m. marked_insert c.clear_before.new.self.lines.rows c.place_of-place.result c.deref.result.now c.insert.new.self.rows c.in_ok-insert.ensures.rows (c.in_ok-clear_before.ensures.marked m)

pub place_of-place-requires-clause-apart : goal.place_of-place-requires-clause-apart
place_of-place-requires-clause-apart g c = λ i h p.
    let below = length-vectors c.args.self.now.lines.rows in
    omega (arith, ints, c.requires.line.zeros i c.args.pivot (omega (arith, h, below)) p, c.requires.line.at.positive)

pub clear_before-requires-clause-buffers : goal.clear_before-requires-clause-buffers
clear_before-requires-clause-buffers g c = c.requires.buffers

pub clear_before-requires-clause-end : goal.clear_before-requires-clause-end
clear_before-requires-clause-end g c = omega (arith, c.place_of-place.ensures.within, length-vectors c.args.self.now.lines.rows)

pub clear_before-requires-clause-primitive : goal.clear_before-requires-clause-primitive
clear_before-requires-clause-primitive g c = c.requires.primitive

pub returns-in_err-clear_before-clause-taken : goal.returns-in_err-clear_before-clause-taken
returns-in_err-clear_before-clause-taken g c =
    let p = err_from_is_err_and c.from_residual.result c.from_residual.ensures.1 in
    rw (p.1, p.2) (take_fault c.args.pivot (vectors c.args.self.now.lines.rows) c.args.self.now.reduced.items c.place_of-place.result _ c.place_of-place.ensures c.in_err-clear_before.ensures.cleared)

pub returns-in_err-clear_before-clause-counted : goal.returns-in_err-clear_before-clause-counted
returns-in_err-clear_before-clause-counted g c = (c.clear_before.ensures.counted.0, omega (arith, c.clear_before.ensures.counted.1, c.place_of-place.ensures.within, length-vectors c.args.self.now.lines.rows))

pub insert-requires-clause-place : goal.insert-requires-clause-place
insert-requires-clause-place g c =
    let old = length-vectors c.args.self.now.lines.rows in
    let new = length-vectors c.clear_before.new.self.lines.rows in
    omega (arith, c.place_of-place.ensures.within, old, new, c.in_ok-clear_before.ensures.cleared.as_many)

pub insert-requires-clause-wide : goal.insert-requires-clause-wide
insert-requires-clause-wide g c = ap (λ (v : List ℤ). length v) c.deref.ensures ∙ c.clear_before.ensures.buffers.reduced

pub insert-requires-clause-in_range : goal.insert-requires-clause-in_range
insert-requires-clause-in_range g c = subst AllInRange (sym (c.deref.ensures ∙ c.clear_before.ensures.same)) c.requires.in_range

pub returns-in_err-insert-clause-buffers : goal.returns-in_err-insert-clause-buffers
returns-in_err-insert-clause-buffers g c = record {
  reduced = c.clear_before.ensures.buffers.reduced ∙ sym c.insert.ensures.width;
  cleared = c.clear_before.ensures.buffers.cleared ∙ sym c.insert.ensures.width;
  scratch = c.clear_before.ensures.buffers.scratch ∙ sym c.insert.ensures.width;
}

pub returns-in_err-insert-clause-counted : goal.returns-in_err-insert-clause-counted
returns-in_err-insert-clause-counted g c = (c.clear_before.ensures.counted.0, omega (arith, c.clear_before.ensures.counted.1, c.place_of-place.ensures.within, length-vectors c.args.self.now.lines.rows))

pub returns-clause-counted : goal.returns-clause-counted
returns-clause-counted g c = (c.clear_before.ensures.counted.0, omega (arith, c.clear_before.ensures.counted.1, c.place_of-place.ensures.within, length-vectors c.args.self.now.lines.rows))

pub returns-clause-buffers : goal.returns-clause-buffers
returns-clause-buffers g c = record {
  reduced = c.clear_before.ensures.buffers.reduced ∙ sym c.insert.ensures.width;
  cleared = c.clear_before.ensures.buffers.cleared ∙ sym c.insert.ensures.width;
  scratch = c.clear_before.ensures.buffers.scratch ∙ sym c.insert.ensures.width;
}
