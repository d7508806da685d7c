use Rattle.std.proofs.Common.{◌≡◌, ◌<◌, ℕ, length, subst, sym, ap, arith, ◌∙◌}
use Rattle.std.specs.Prelude.{◌+ℤ◌, ℤ, pos}
use Rattle.std.proofs.lemmas.List.Elements.{All-get_or, All-set}
use Rattle.row_core.specs.Range.{InRange}
use Rattle.std.specs.Int.{w128}
use mir.Val.{of_z, to_z}
use Rattle.row_core.specs.Vectors.{cell}
use Rattle.term_text.specs.Terms.{FitsBehind, value_of}
use Rattle.term_text.proofs.RowSums.{added_at, read_back, range_read}
use Rattle.term_text.proofs.rows.add.Goals as goal

pub added_to-requires : goal.added_to-requires
added_to-requires c =
    let k = c.column-column.result in
    range_read (cell c.args.cells.now k) (All-get_or InRange c.args.cells.now k (pos 0) (omega (arith, c.column-column.ensures.within, c.requires.wide)) c.requires.in_range)

pub returns-in_err-cells : goal.returns-in_err-cells
returns-in_err-cells c =
    let cells = c.args.cells.now in
    let k = c.column-column.result in
    let exact : to_z w128 (of_z w128 (cell cells k)) ≡ cell cells k = read_back (cell cells k) (All-get_or InRange cells k (pos 0) (omega (arith, c.column-column.ensures.within, c.requires.wide)) c.requires.in_range) in
    rw c.from_residual.ensures (record {
      in_range = c.requires.in_range;
      value = λ fits. c.in_err-cells.ensures (subst (FitsBehind c.args.term) (sym exact) (subst (λ (n : ℕ). FitsBehind c.args.term (cell cells n)) (sym c.column-column.ensures.value) fits));
    })

pub returns-clause-in_range : goal.returns-clause-in_range
returns-clause-in_range c = All-set InRange c.args.cells.now c.column-column.result (to_z w128 (of_z w128 c.in_ok-cells.field-0)) (range_read c.in_ok-cells.field-0 c.in_ok-cells.ensures.2) c.requires.in_range

pub returns-clause-value : goal.returns-clause-value
returns-clause-value c =
    let cells = c.args.cells.now in
    let k = c.column-column.result in
    let below : k < length cells = omega (arith, c.column-column.ensures.within, c.requires.wide) in
    let exact : to_z w128 (of_z w128 (cell cells k)) ≡ cell cells k = read_back (cell cells k) (All-get_or InRange cells k (pos 0) below c.requires.in_range) in
    let value = read_back c.in_ok-cells.field-0 c.in_ok-cells.ensures.2 ∙ c.in_ok-cells.ensures.1 ∙ ap (λ (z : ℤ). z +ℤ value_of c.args.term) exact in
    (subst (λ (n : ℕ). FitsBehind c.args.term (cell cells n)) c.column-column.ensures.value (subst (FitsBehind c.args.term) exact c.in_ok-cells.ensures.0), λ j le. added_at c.args.dim c.args.term cells k (to_z w128 (of_z w128 c.in_ok-cells.field-0)) c.column-column.ensures.value below value j)
