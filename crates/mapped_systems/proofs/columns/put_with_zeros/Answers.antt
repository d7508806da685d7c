use Rattle.std.proofs.Common.{◌≡◌, ◌∙◌, List, ℤ, pos, ◌+◌, ◌-◌, ◌++◌, length, length-drop, take, drop, replicate, ap, sym, subst, arith}
use Rattle.std.proofs.lemmas.List.{take_all, length-take-le}
use Rattle.row_core.specs.Range.{AllInRange}
use Rattle.mapped_systems.specs.Maps.{with_zeros}
use Rattle.mapped_systems.proofs.WrittenRows.{zeros_put, with_zeros-in_range}
use Rattle.mapped_systems.proofs.columns.put_with_zeros.Goals as goal

pub returns : goal.returns
returns c =
    let row = c.args.row.now in
    let column = c.args.column in
    let count = c.args.count in
    let held = c.extend_from_slice.new.self in
    let front : held.items ≡ take column row = c.in_ok-extend_from_slice.ensures.items ∙ ap (λ (v : List ℤ). v ++ take column row) c.clear.ensures.items in
    let full : held.len ≡ column = omega (arith, c.in_ok-extend_from_slice.ensures.len, c.clear.ensures.len, length-take-le column row c.requires.column) in
    let filled : c.resize.new.self.items ≡ take column row ++ replicate count (pos 0) = c.in_ok-resize.ensures.items ∙ zeros_put column count held.len row held.items c.requires.column front full in
    let back : take (length row - column) (drop column row) ≡ drop column row = take_all (length row - column) (drop column row) (omega (arith, length-drop column row)) in
    let joined : c.extend_from_slice-2.new.self.items ≡ with_zeros column count row = c.in_ok-extend_from_slice-2.ensures.items ∙ ap (λ (v : List ℤ). c.resize.new.self.items ++ v) back ∙ ap (λ (v : List ℤ). v ++ drop column row) filled in
    record { row = joined; in_range = subst AllInRange (sym joined) (with_zeros-in_range column count row c.requires.in_range) }
