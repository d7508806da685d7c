use Rattle.std.proofs.Common.{◌≡◌, ◌+◌, ◌*◌, ◌^◌, ◌<◌, ◌≤◌, ℕ, length, arith}
use Rattle.sat_bits.proofs.CellLemmas.{IsTaken, lowest, without_lowest, lowest_inside, lowest_set, lowest_cleared, others_kept, no_more_bits, is_less, place_within, none_joined, none_taken, joined_again, cell_set, set_joins, one_taken, all_taken, joined_as}
use Rattle.sat_bits.proofs.cells.join_word.Goals as goal

pub loop-rest-init : goal.loop-rest-init
loop-rest-init c = record {
  marked = none_joined c.args.width c.args.row c.args.front (IsTaken c.args.index c.args.word c.args.word) c.args.cells.now (none_taken c.args.index c.args.word);
  left = λ j t. t;
}

pub loop-rest-smaller : goal.loop-rest-smaller
loop-rest-smaller c = is_less c.loop-rest.rest (omega arith) (omega arith)

pub loop-rest-preserved : goal.loop-rest-preserved
loop-rest-preserved c =
    let inv = c.loop-rest.invariant in
    let width = c.args.width in
    let row = c.args.row in
    let front = c.args.front in
    let index = c.args.index in
    let word = c.args.word in
    let rest = c.loop-rest.rest in
    let some : 0 < rest = omega arith in
    let fits : rest < 2 ^ 64 = omega arith in
    let j : ℕ = index * 64 + lowest rest in
    let in_word = inv.left (lowest rest) (lowest_set rest some fits) in
    let below : front + j < width * 64 = place_within index word rest front (width * 64) some fits inv.left c.requires.within in
    let in_cells : row * width + width ≤ length c.loop-rest.cells = omega (arith, c.requires.row, inv.marked.len) in
    record {
      marked = joined_again width row front (IsTaken index word rest) (λ i. i ≡ j) (IsTaken index word (without_lowest rest)) c.args.cells.now c.loop-rest.cells _ inv.marked
          (set_joins width row front j c.loop-rest.cells _ (cell_set c.loop-rest.cells width row (front + j) c.with_bit.result _ in_cells below c.with_bit.ensures.same c.with_bit.ensures.others))
          (λ i. one_taken index word rest (without_lowest rest) (lowest rest) i (lowest_inside rest some fits) in_word (lowest_set rest some fits) (lowest_cleared rest some fits) (others_kept rest some fits));
      left = λ k t. inv.left k (no_more_bits rest some fits k t);
    }

pub returns : goal.returns
returns c = joined_as c.args.width c.args.row c.args.front (IsTaken c.args.index c.args.word c.loop-rest.rest) _ c.args.cells.now c.loop-rest.cells c.loop-rest.invariant.marked (λ i. all_taken c.args.index c.args.word c.loop-rest.rest i (omega arith))

pub overflow_mul-place : goal.overflow_mul-place
overflow_mul-place c = omega (arith, place_within c.args.index c.args.word c.loop-rest.rest c.args.front (2 ^ 64) (omega arith) (omega arith) c.loop-rest.invariant.left c.requires.fits)

pub overflow_add-place : goal.overflow_add-place
overflow_add-place c = omega (arith, place_within c.args.index c.args.word c.loop-rest.rest c.args.front (2 ^ 64) (omega arith) (omega arith) c.loop-rest.invariant.left c.requires.fits)

pub overflow_add-place-in-loop-rest : goal.overflow_add-place-in-loop-rest
overflow_add-place-in-loop-rest c = omega (arith, place_within c.args.index c.args.word c.loop-rest.rest c.args.front (2 ^ 64) (omega arith) (omega arith) c.loop-rest.invariant.left c.requires.fits)

pub overflow_add-at : goal.overflow_add-at
overflow_add-at c =
    let below = place_within c.args.index c.args.word c.loop-rest.rest c.args.front (c.args.width * 64) (omega arith) (omega arith) c.loop-rest.invariant.left c.requires.within in
    omega (arith, below, c.requires.row, c.loop-rest.invariant.marked.len)

pub offset_bounds-cells-at : goal.offset_bounds-cells-at
offset_bounds-cells-at c =
    let below = place_within c.args.index c.args.word c.loop-rest.rest c.args.front (c.args.width * 64) (omega arith) (omega arith) c.loop-rest.invariant.left c.requires.within in
    omega (arith, below, c.requires.row, c.loop-rest.invariant.marked.len)

pub bounds-cells-at : goal.bounds-cells-at
bounds-cells-at c =
    let below = place_within c.args.index c.args.word c.loop-rest.rest c.args.front (c.args.width * 64) (omega arith) (omega arith) c.loop-rest.invariant.left c.requires.within in
    omega (arith, below, c.requires.row, c.loop-rest.invariant.marked.len)

pub offset_bounds-cells-at-in-loop-rest : goal.offset_bounds-cells-at-in-loop-rest
offset_bounds-cells-at-in-loop-rest c =
    let below = place_within c.args.index c.args.word c.loop-rest.rest c.args.front (c.args.width * 64) (omega arith) (omega arith) c.loop-rest.invariant.left c.requires.within in
    omega (arith, below, c.requires.row, c.loop-rest.invariant.marked.len)

pub bounds-cells-at-in-loop-rest : goal.bounds-cells-at-in-loop-rest
bounds-cells-at-in-loop-rest c =
    let below = place_within c.args.index c.args.word c.loop-rest.rest c.args.front (c.args.width * 64) (omega arith) (omega arith) c.loop-rest.invariant.left c.requires.within in
    omega (arith, below, c.requires.row, c.loop-rest.invariant.marked.len)
