use Rattle.std.specs.Prelude.{◌≡◌, [], length}
use Rattle.std.proofs.Common.{rules, arith, refl, sym, ◌∙◌, subst}
use Rattle.std.proofs.lemmas.List.{nil_from_length}
use Rattle.row_core.specs.MarkedCells.{AreWide}
use Rattle.row_core.proofs.MarkedCellLemmas.{counted, laid_none, push_rows, push_laid}
use Rattle.row_core.proofs.marked.MarkedRows.push.Given.{Over}
use Rattle.row_core.proofs.marked.MarkedRows.push.Goals as goal

-- no row was there
none : (g : Over) (c : goal.After-push_reserved g) →
    (c.args.self.now ≡ []) × (c.reserve.new.self.items ≡ [])
none g c =
    let count : length c.self.inside.marks.items ≡ 0 = search rules in
    let left : length c.args.self.now ≡ length c.self.inside.marks.items =
    counted c.self.inside.width c.self.inside.cells.items c.self.inside.marks.items
    c.args.self.now c.self.view_is in
    let right : length c.args.self.now ≡ length c.self-2.inside.marks.items =
    counted c.self-2.inside.width c.self-2.inside.cells.items
    c.self-2.inside.marks.items c.args.self.now c.self-2.view_is in (
      nil_from_length c.args.self.now (left ∙ count),
      rw c.reserve.ensures.items (nil_from_length c.self-2.inside.marks.items
          (sym right ∙ left ∙ count)),
    )

pub invariant_of-self-2 : goal.invariant_of-self-2
invariant_of-self-2 g c =
    push_laid (length c.args.row) c.len-self-inside.result [] [] c.args.self.now
    (laid_none (length c.args.row) (omega (arith, c.into_vec.ensures.narrow)))
    (sym (none g c).0)
    (subst (λ n. AreWide n c.args.self.now) (sym c.len-self-inside.ensures) c.requires.wide) []
    c.args.row _ _ _ c.args.mark (sym c.len-self-inside.ensures) refl c.into_vec.ensures.value
    (none g c).1 c.push_reserved.ensures.items c.into_vec.ensures.in_range
    (omega (arith, c.len-self-inside.ensures, c.into_vec.ensures.narrow))

pub returns : goal.returns
returns g c =
    push_rows (length c.args.row) c.len-self-inside.result [] [] c.args.self.now
    (laid_none (length c.args.row) (omega (arith, c.into_vec.ensures.narrow)))
    (sym (none g c).0)
    (subst (λ n. AreWide n c.args.self.now) (sym c.len-self-inside.ensures) c.requires.wide) []
    c.args.row _ _ _ c.args.mark (sym c.len-self-inside.ensures) refl c.into_vec.ensures.value
    (none g c).1 c.push_reserved.ensures.items
