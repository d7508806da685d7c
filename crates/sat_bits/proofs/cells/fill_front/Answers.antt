use Rattle.std.proofs.Common.{◌≡◌, ◌+◌, ◌*◌, ◌/◌, ◌%◌, ◌<◌, ℕ, set, get_or, arith, subst}
use Rattle.sat_bits.specs.Cells.{IsFrontFilled}
use Rattle.sat_bits.proofs.CellLemmas.{front_more, front_end, with_low}
use Rattle.sat_bits.proofs.cells.fill_front.Goals as goal

pub loop-word-preserved : goal.loop-word-preserved
loop-word-preserved c =
    let inv = c.loop-word.invariant in
    front_more c.args.width c.args.row c.loop-word.word c.args.cells.now c.loop-word.cells (omega (arith, inv.len, c.requires.row)) (omega (arith, c.loop-word-test.true, c.requires.count)) inv

pub returns-then-count-ne0 : goal.returns-then-count-ne0
returns-then-count-ne0 c =
    let inv = c.loop-word.invariant in
    let cells = c.loop-word.cells in
    let w = c.args.width in
    let row = c.args.row in
    let count = c.args.count in
    let k : ℕ = count / 64 in
    let done : c.loop-word.word * 64 ≡ k * 64 = omega arith in
    let before : IsFrontFilled w row (k * 64) c.args.cells.now cells = subst (λ (n : ℕ). IsFrontFilled w row n c.args.cells.now cells) done inv in
    let all : k * 64 + count % 64 ≡ count = omega arith in
    let in_row : k < w = omega (arith, c.requires.count, c.if-count-ne0.true) in
    subst (λ (n : ℕ). IsFrontFilled w row n c.args.cells.now (set cells (row * w + k) (with_low (get_or cells (row * w + k) 0) (count % 64)))) all
    (front_end w row k (count % 64) c.args.cells.now cells (omega (arith, inv.len, c.requires.row)) in_row (omega arith) before)
