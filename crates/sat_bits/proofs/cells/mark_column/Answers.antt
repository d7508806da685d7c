use Rattle.std.proofs.Common.{◌+◌, IsTrue, inr, arith}
use Rattle.sat_bits.specs.Places.{place}
use Rattle.sat_bits.specs.Cells.{IsBitOf}
use Rattle.sat_bits.proofs.CellLemmas.{IsAmongFirst, none_marked, none_first, marked_again, marked_as, one_index, all_first}
use Rattle.sat_bits.proofs.cells.mark_column.Goals as goal

pub mark_word-requires-clause-within : goal.mark_word-requires-clause-within
mark_word-requires-clause-within c = λ i b.
    let set : IsTrue (place c.args.words.now i) = ((one_index c.args.words.now c.loop-index.index i).0 (inr b)).1 in
    omega (arith, c.requires.within i set, c.loop-index.invariant.len)

pub loop-index-init : goal.loop-index-init
loop-index-init c = none_marked c.args.width c.args.column (IsAmongFirst c.args.words.now 0) c.args.cells.now (none_first c.args.words.now)

pub loop-index-preserved : goal.loop-index-preserved
loop-index-preserved c =
    marked_again c.args.width c.args.column (IsAmongFirst c.args.words.now c.loop-index.index) (IsBitOf c.loop-index.index _) (IsAmongFirst c.args.words.now (c.loop-index.index + 1)) c.args.cells.now c.loop-index.cells c.mark_word.new.cells
    c.loop-index.invariant c.mark_word.ensures (one_index c.args.words.now c.loop-index.index)

pub returns : goal.returns
returns c =
    marked_as c.args.width c.args.column (IsAmongFirst c.args.words.now c.loop-index.index) _ c.args.cells.now c.loop-index.cells c.loop-index.invariant
    (λ i. all_first c.args.words.now c.loop-index.index i (omega (arith, c.loop-index-test.false)))
