use Rattle.std.specs.Prelude.{◌≡◌, length, ℤ, List, drop}
use Rattle.std.proofs.Common.{arith, ◌∙◌, subst}
use Rattle.std.proofs.lemmas.List.{take_at}
use Rattle.row_core.specs.Content.{IsMultipleOf}
use Rattle.row_core.proofs.buffers.RowBuf.into_primitive.Goals as goal

pub returns-clause-primitive : goal.returns-clause-primitive
returns-clause-primitive c =
    let full : length c.make_primitive.new.row ≡ c.self.inside.entries.len = omega arith in
    rw (take_at c.make_primitive.new.row
    (drop (length c.make_primitive.new.row) c.self.inside.entries.items)
    c.self.inside.entries.len full)
    (record {
      multiple = subst (λ (v : List ℤ). IsMultipleOf v c.make_primitive.new.row)
          (c.as_mut_slice.ensures.value ∙ c.self.view_is) c.make_primitive.ensures.multiple;
      primitive = c.make_primitive.ensures.primitive;
    })
