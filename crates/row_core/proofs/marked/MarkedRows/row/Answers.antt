use Rattle.std.specs.Prelude.{◌≡◌, ◌+◌, ◌-◌, ◌*◌, ℕ, length, take, drop}
use Rattle.std.proofs.Common.{sym, ap, ◌∙◌, arith}
use Rattle.row_core.proofs.MarkedCellLemmas.{row_within, read_row}
use Rattle.row_core.proofs.marked.MarkedRows.row.Goals as goal

pub overflow_mul-start : goal.overflow_mul-start
overflow_mul-start g c =
    omega (
      arith,
      row_within c.self.inside.width c.self.inside.cells.items c.self.inside.marks.items
          c.args.self.now c.args.i c.self.invariant c.self.view_is c.requires,
      c.self.inside.cells.ok.0,
    )

pub overflow_add-result : goal.overflow_add-result
overflow_add-result g c =
    omega (
      arith,
      row_within c.self.inside.width c.self.inside.cells.items c.self.inside.marks.items
          c.args.self.now c.args.i c.self.invariant c.self.view_is c.requires,
      c.self.inside.cells.ok.0,
    )

pub offset_bounds-deref-start : goal.offset_bounds-deref-start
offset_bounds-deref-start g c =
    omega (
      arith,
      row_within c.self.inside.width c.self.inside.cells.items c.self.inside.marks.items
          c.args.self.now c.args.i c.self.invariant c.self.view_is c.requires,
      c.deref.type_inv,
      ap length c.deref.ensures.value,
    )

pub slice_bounds-result-end : goal.slice_bounds-result-end
slice_bounds-result-end g c =
    omega (
      arith,
      row_within c.self.inside.width c.self.inside.cells.items c.self.inside.marks.items
          c.args.self.now c.args.i c.self.invariant c.self.view_is c.requires,
      ap length c.deref.ensures.value,
    )

pub returns-clause-value : goal.returns-clause-value
returns-clause-value g c d =
    let start : ℕ = c.args.i * c.self.inside.width in
    let width : start + c.self.inside.width - start ≡ c.self.inside.width = omega arith in
    (λ k. take (width k) (drop start (c.deref.ensures.value k))) ∙
    sym (read_row c.self.inside.width c.self.inside.cells.items c.self.inside.marks.items
    c.args.self.now c.args.i c.self.invariant c.self.view_is c.requires d)
