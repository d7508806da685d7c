use Rattle.std.specs.Prelude.{◌≡◌, ℤ, List, [], length, map}
use Rattle.std.proofs.Common.{arith, ap, ◌∙◌}
use Rattle.std.proofs.lemmas.Grind.{common_steps}
use Rattle.std.proofs.lemmas.List.{take_all}
use Rattle.row_core.specs.Signs.{stays}
use Rattle.row_store.proofs.row_values.marks.Goals as goal

pub loop-value-preserved : goal.loop-value-preserved
loop-value-preserved c = record {
  len = grind (arith, common_steps);
  room = omega (arith, c.push_reserved.ensures.capacity, c.loop-value.invariant.room);
  marks = grind (arith, common_steps);
}

pub push_reserved-requires : goal.push_reserved-requires
push_reserved-requires c =
    omega (arith, c.loop-value.invariant.len, c.loop-value.invariant.room, c.loop-value-test.true)

pub loop-value-init : goal.loop-value-init
loop-value-init c =
    let items : c.reserve.new.self.items ≡ [] = c.reserve.ensures.items ∙ c.clear.ensures.items in
    record {
      len = ap length items;
      room = omega (arith, ap length items, c.in_ok-reserve.ensures.ok);
      marks = items;
    }

pub returns : goal.returns
returns c = c.loop-value.invariant.marks ∙ ap (λ (xs : List ℤ). map (λ value. stays c.args.eq value) xs) (take_all c.loop-value.value-index c.args.values.now c.loop-value-test.false)
