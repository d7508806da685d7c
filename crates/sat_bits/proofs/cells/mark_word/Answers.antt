use Rattle.std.proofs.Common.{◌≡◌, ◌+◌, ◌*◌, ◌^◌, ◌<◌, ◌≤◌, ℕ, length, arith}
use Rattle.sat_bits.proofs.CellLemmas.{IsTaken, lowest, without_lowest, lowest_inside, lowest_set, lowest_cleared, others_kept, no_more_bits, is_less, row_within, times_most, none_marked, none_taken, marked_again, cell_set, set_marks, one_taken, all_taken, marked_as}
use Rattle.sat_bits.proofs.cells.mark_word.Goals as goal

pub loop-rest-init : goal.loop-rest-init
loop-rest-init c = record {
  marked = none_marked c.args.width c.args.column (IsTaken c.args.index c.args.word c.args.word) c.args.cells.now (none_taken c.args.index c.args.word);
  left = λ j t. t;
}

pub loop-rest-smaller : goal.loop-rest-smaller
loop-rest-smaller c = is_less c.loop-rest.rest (omega arith) (omega arith)

pub loop-rest-preserved : goal.loop-rest-preserved
loop-rest-preserved c =
    let inv = c.loop-rest.invariant in
    let width = c.args.width in
    let column = c.args.column in
    let index = c.args.index in
    let word = c.args.word in
    let rest = c.loop-rest.rest in
    let some : 0 < rest = omega arith in
    let fits : rest < 2 ^ 64 = omega arith in
    let row : ℕ = index * 64 + lowest rest in
    let in_word = inv.left (lowest rest) (lowest_set rest some fits) in
    let below : row * width + width ≤ length c.args.cells.now = row_within index word rest width (length c.args.cells.now) some fits inv.left c.requires.within in
    let in_cells : row * width + width ≤ length c.loop-rest.cells = omega (arith, below, inv.marked.len) in
    record {
      marked = marked_again width column (IsTaken index word rest) (λ i. i ≡ row) (IsTaken index word (without_lowest rest)) c.args.cells.now c.loop-rest.cells _ inv.marked
          (set_marks width row column c.loop-rest.cells _ c.requires.column (cell_set c.loop-rest.cells width row column c.with_bit.result _ in_cells c.requires.column c.with_bit.ensures.same c.with_bit.ensures.others))
          (λ i. one_taken index word rest (without_lowest rest) (lowest rest) i (lowest_inside rest some fits) in_word (lowest_set rest some fits) (lowest_cleared rest some fits) (others_kept rest some fits));
      left = λ j t. inv.left j (no_more_bits rest some fits j t);
    }

pub returns : goal.returns
returns c = marked_as c.args.width c.args.column (IsTaken c.args.index c.args.word c.loop-rest.rest) _ c.args.cells.now c.loop-rest.cells c.loop-rest.invariant.marked (λ i. all_taken c.args.index c.args.word c.loop-rest.rest i (omega arith))

pub overflow_mul-at : goal.overflow_mul-at
overflow_mul-at c =
    let below = row_within c.args.index c.args.word c.loop-rest.rest c.args.width (length c.args.cells.now) (omega arith) (omega arith) c.loop-rest.invariant.left c.requires.within in
    omega (arith, below, c.requires.column, times_most (c.args.index * 64 + lowest c.loop-rest.rest) c.args.width (omega (arith, c.requires.column)))

pub overflow_add-at : goal.overflow_add-at
overflow_add-at c =
    let below = row_within c.args.index c.args.word c.loop-rest.rest c.args.width (length c.args.cells.now) (omega arith) (omega arith) c.loop-rest.invariant.left c.requires.within in
    omega (arith, below, c.requires.column, times_most (c.args.index * 64 + lowest c.loop-rest.rest) c.args.width (omega (arith, c.requires.column)))

pub overflow_mul-at-in-loop-rest : goal.overflow_mul-at-in-loop-rest
overflow_mul-at-in-loop-rest c =
    let below = row_within c.args.index c.args.word c.loop-rest.rest c.args.width (length c.args.cells.now) (omega arith) (omega arith) c.loop-rest.invariant.left c.requires.within in
    omega (arith, below, c.requires.column, c.loop-rest.invariant.marked.len)

pub overflow_add-at-in-loop-rest : goal.overflow_add-at-in-loop-rest
overflow_add-at-in-loop-rest c =
    let below = row_within c.args.index c.args.word c.loop-rest.rest c.args.width (length c.args.cells.now) (omega arith) (omega arith) c.loop-rest.invariant.left c.requires.within in
    omega (arith, below, c.requires.column, c.loop-rest.invariant.marked.len)

pub offset_bounds-cells-at : goal.offset_bounds-cells-at
offset_bounds-cells-at c =
    let below = row_within c.args.index c.args.word c.loop-rest.rest c.args.width (length c.args.cells.now) (omega arith) (omega arith) c.loop-rest.invariant.left c.requires.within in
    omega (arith, below, c.requires.column, c.loop-rest.invariant.marked.len)

pub bounds-cells-at : goal.bounds-cells-at
bounds-cells-at c =
    let below = row_within c.args.index c.args.word c.loop-rest.rest c.args.width (length c.args.cells.now) (omega arith) (omega arith) c.loop-rest.invariant.left c.requires.within in
    omega (arith, below, c.requires.column, c.loop-rest.invariant.marked.len)

pub offset_bounds-cells-at-in-loop-rest : goal.offset_bounds-cells-at-in-loop-rest
offset_bounds-cells-at-in-loop-rest c =
    let below = row_within c.args.index c.args.word c.loop-rest.rest c.args.width (length c.args.cells.now) (omega arith) (omega arith) c.loop-rest.invariant.left c.requires.within in
    omega (arith, below, c.requires.column, c.loop-rest.invariant.marked.len)

pub bounds-cells-at-in-loop-rest : goal.bounds-cells-at-in-loop-rest
bounds-cells-at-in-loop-rest c =
    let below = row_within c.args.index c.args.word c.loop-rest.rest c.args.width (length c.args.cells.now) (omega arith) (omega arith) c.loop-rest.invariant.left c.requires.within in
    omega (arith, below, c.requires.column, c.loop-rest.invariant.marked.len)
