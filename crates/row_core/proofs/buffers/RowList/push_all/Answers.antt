use Rattle.std.specs.Prelude.{◌≡◌}
use Rattle.std.proofs.Common.{refl, sym, ap, ◌∙◌}
use Rattle.row_core.specs.Lists.{Rows}
use Rattle.row_core.proofs.RowListLemmas.{IsRow-rows, HaveOneWidth-rows, FitWidth-append}
use Rattle.row_core.proofs.buffers.RowList.push_all.Goals as goal

pub append_copies-requires : goal.append_copies-requires
append_copies-requires c =
    let same : c.list.inside.width ≡ c.self.inside.width =
    ap (λ (l : Rows). l.width) c.list.view_is ∙ c.requires ∙
    sym (ap (λ (l : Rows). l.width) c.self.view_is) in
    HaveOneWidth-rows c.self.inside.width c.self.inside.marked c.list.inside.marked
    c.self.invariant.each (IsRow-rows c.self.inside.width _ _ c.list.invariant same refl)

pub invariant_of-self : goal.invariant_of-self
invariant_of-self c =
    let same : c.list.inside.width ≡ c.self.inside.width =
    ap (λ (l : Rows). l.width) c.list.view_is ∙ c.requires ∙
    sym (ap (λ (l : Rows). l.width) c.self.view_is) in
    FitWidth-append c.append_copies.result c.self.inside.width c.self.inside.marked
    c.list.inside.marked c.append_copies.new.self c.self.invariant
    (IsRow-rows c.self.inside.width _ _ c.list.invariant same refl) c.append_copies.ensures
