use Rattle.std.proofs.Common.{ℕ, ◌-◌, Bool, false, true, List, [], ◌∷◌, ◌++◌, replicate, ap, ◌∙◌, arith}
use native.Mathlib.Nat.{le_antisymm}
use Rattle.stored_systems.proofs.StoredLists.{one_mark_more}
use Rattle.stored_systems.proofs.parts.all_but_first.Goals as goal

pub loop-row-preserved : goal.loop-row-preserved
loop-row-preserved c = record {
  from = omega (arith, c.loop-row.invariant.from);
  items = one_mark_more c.loop-row.marks.items c.push-in-loop-row.new.self.items c.loop-row._row c.loop-row.invariant.from c.loop-row.invariant.items c.in_ok-push-2.ensures.items;
}

pub loop-row-init : goal.loop-row-init
loop-row-init c = record {
  from = omega arith;
  items = c.in_ok-push.ensures.items ∙ ap (λ (bs : List Bool). bs ++ false ∷ []) c.in_ok-marks.ensures.items;
}

pub returns : goal.returns
returns c =
    c.loop-row.invariant.items ∙ ap (λ (n : ℕ). false ∷ replicate (n - 1) true) (le_antisymm (c.loop-row.auto._row-end c.requires) c.loop-row-test.false)
