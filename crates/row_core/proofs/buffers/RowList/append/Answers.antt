use Rattle.std.proofs.Common.{sym, ap, ◌∙◌}
use Rattle.row_core.specs.Lists.{Rows}
use Rattle.row_core.proofs.RowListLemmas.{IsRow-rows}
use Rattle.row_core.proofs.buffers.RowList.append.Goals as goal

pub invariant_of-self : goal.invariant_of-self
invariant_of-self c = record {
  each = IsRow-rows c.self.inside.width c.args.list c.into_marked.result c.into_marked.ensures.fit
      (c.requires ∙ sym (ap (λ (l : Rows). l.width) c.self.view_is)) c.into_marked.ensures.value;
  narrow = c.self.invariant.narrow;
}
