use Rattle.std.specs.Prelude.{◌≡◌, ℕ, ◌+◌}
use Rattle.std.proofs.Common.{arith, rules, ◌∙◌, refl, subst}
use Rattle.row_core.specs.Refusals.{IsOverflowIn}
use Rattle.row_core.proofs.RefusalLemmas.{overflow_weaker}
use Rattle.difference_bounds.specs.Walks.{Bounds}
use Rattle.difference_bounds.specs.Tables.{bounds_of}
use Rattle.difference_bounds.specs.Combining.{IsChoosing, LeavesInChoosing}
use Rattle.difference_bounds.proofs.ChoiceLemmas.{choosing_begins, choosing_ends}
use Rattle.difference_bounds.proofs.table.BoundTable.combine.Goals as goal

pub loop-i-init : goal.loop-i-init
loop-i-init c = record { places = refl; choosing = choosing_begins c.args.choice (bounds_of c.args.self.now) (bounds_of c.args.other.now) c.args.self.now.places }

pub returns-in_err-combine_row-clause-overflow : goal.returns-in_err-combine_row-clause-overflow
returns-in_err-combine_row-clause-overflow c =
    let known : IsOverflowIn (LeavesInChoosing c.args.choice (bounds_of c.args.self.now) (bounds_of c.args.other.now) c.args.self.now.places) c.in_err-combine_row.field-0.0 =
    overflow_weaker (λ over. (old : Bounds) → IsChoosing c.args.choice old (bounds_of c.args.other.now) (bounds_of c.loop-i.self) c.loop-i.self.places c.loop-i.i 0 → LeavesInChoosing c.args.choice old (bounds_of c.args.other.now) c.loop-i.self.places over)
    (LeavesInChoosing c.args.choice (bounds_of c.args.self.now) (bounds_of c.args.other.now) c.args.self.now.places)
    (λ over h. subst (λ (m : ℕ). IsChoosing c.args.choice (bounds_of c.args.self.now) (bounds_of c.args.other.now) (bounds_of c.loop-i.self) m c.loop-i.i 0 → LeavesInChoosing c.args.choice (bounds_of c.args.self.now) (bounds_of c.args.other.now) m over) c.loop-i.invariant.places (h (bounds_of c.args.self.now)) c.loop-i.invariant.choosing)
    c.in_err-combine_row.field-0.0 c.in_err-combine_row.ensures.overflow in
    search (rules, known, c.from_residual.ensures)

pub loop-i-preserved : goal.loop-i-preserved
loop-i-preserved c = record {
  places = c.combine_row.ensures.places ∙ c.loop-i.invariant.places;
  choosing = subst (λ (m : ℕ). IsChoosing c.args.choice (bounds_of c.args.self.now) (bounds_of c.args.other.now) (bounds_of c.loop-i.self) m c.loop-i.i 0 → IsChoosing c.args.choice (bounds_of c.args.self.now) (bounds_of c.args.other.now) (bounds_of c.combine_row.new.self) m (c.loop-i.i + 1) 0) c.loop-i.invariant.places (c.in_ok-combine_row.ensures.chosen (bounds_of c.args.self.now)) c.loop-i.invariant.choosing;
}

pub returns-clause-chosen : goal.returns-clause-chosen
returns-clause-chosen c =
    let e : c.loop-i.i ≡ c.args.self.now.places = omega arith in
    choosing_ends c.args.choice (bounds_of c.args.self.now) (bounds_of c.args.other.now) (bounds_of c.loop-i.self) c.args.self.now.places (subst (λ (x : ℕ). IsChoosing c.args.choice (bounds_of c.args.self.now) (bounds_of c.args.other.now) (bounds_of c.loop-i.self) c.args.self.now.places x 0) e c.loop-i.invariant.choosing)
