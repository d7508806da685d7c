use Rattle.std.proofs.Common.{◌+◌, arith}
use Rattle.sat_bits.specs.Cells.{IsBitOf}
use Rattle.sat_bits.proofs.CellLemmas.{IsAmongFirst, none_joined, none_first, joined_again, joined_as, one_index, all_first}
use Rattle.sat_bits.proofs.cells.join_behind.Goals as goal

pub loop-index-init : goal.loop-index-init
loop-index-init c = none_joined c.args.width c.args.row c.args.front (IsAmongFirst c.args.words.now 0) c.args.cells.now (none_first c.args.words.now)

pub loop-index-preserved : goal.loop-index-preserved
loop-index-preserved c =
    joined_again c.args.width c.args.row c.args.front (IsAmongFirst c.args.words.now c.loop-index.index) (IsBitOf c.loop-index.index _) (IsAmongFirst c.args.words.now (c.loop-index.index + 1)) c.args.cells.now c.loop-index.cells c.join_word.new.cells
    c.loop-index.invariant c.join_word.ensures (one_index c.args.words.now c.loop-index.index)

pub returns : goal.returns
returns c =
    joined_as c.args.width c.args.row c.args.front (IsAmongFirst c.args.words.now c.loop-index.index) _ c.args.cells.now c.loop-index.cells c.loop-index.invariant
    (λ j. all_first c.args.words.now c.loop-index.index j (omega (arith, c.loop-index-test.false)))
