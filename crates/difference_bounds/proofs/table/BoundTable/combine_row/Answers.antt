use Rattle.std.specs.Prelude.{◌≡◌, ℕ, ◌<◌}
use Rattle.std.proofs.Common.{arith, rules, ◌∙◌, subst}
use Rattle.row_core.specs.Refusals.{IsOverflowIn}
use Rattle.row_core.proofs.RefusalLemmas.{overflow_weaker}
use Rattle.difference_bounds.specs.Walks.{Bounds}
use Rattle.difference_bounds.specs.Tables.{bounds_of}
use Rattle.difference_bounds.specs.Combining.{IsChoosing, LeavesInChoice, LeavesInChoosing}
use Rattle.difference_bounds.proofs.ChoiceLemmas.{chosen_cell, choosing_leaves, choosing_row}
use Rattle.difference_bounds.proofs.table.BoundTable.combine_row.Goals as goal

pub returns-in_err-combine_at-clause-overflow : goal.returns-in_err-combine_at-clause-overflow
returns-in_err-combine_at-clause-overflow c =
    let lt : c.loop-j.j < c.args.self.now.places = omega arith in
    let known : IsOverflowIn (λ over. (old : Bounds) → IsChoosing c.args.choice old (bounds_of c.args.other.now) (bounds_of c.args.self.now) c.args.self.now.places c.args.i 0 → LeavesInChoosing c.args.choice old (bounds_of c.args.other.now) c.args.self.now.places over) c.in_err-combine_at.field-0.0 =
    overflow_weaker (LeavesInChoice c.args.choice (bounds_of c.loop-j.self c.args.i c.loop-j.j) (bounds_of c.args.other.now c.args.i c.loop-j.j))
    (λ over. (old : Bounds) → IsChoosing c.args.choice old (bounds_of c.args.other.now) (bounds_of c.args.self.now) c.args.self.now.places c.args.i 0 → LeavesInChoosing c.args.choice old (bounds_of c.args.other.now) c.args.self.now.places over)
    (λ over h old p. choosing_leaves c.args.choice old (bounds_of c.args.other.now) (bounds_of c.loop-j.self) (bounds_of c.loop-j.self) c.args.self.now.places c.loop-j.self.places c.args.i c.loop-j.j c.loop-j.invariant.places c.requires.row lt (c.loop-j.invariant.choosing old p) over h)
    c.in_err-combine_at.field-0.0 c.in_err-combine_at.ensures.overflow in
    search (rules, known, c.from_residual.ensures)

pub loop-j-preserved : goal.loop-j-preserved
loop-j-preserved c =
    let lt : c.loop-j.j < c.args.self.now.places = omega arith in
    record {
      places = c.combine_at.ensures.places ∙ c.loop-j.invariant.places;
      choosing = λ old p. chosen_cell c.args.choice old (bounds_of c.args.other.now) (bounds_of c.loop-j.self) (bounds_of c.combine_at.new.self) c.args.self.now.places c.loop-j.self.places c.args.i c.loop-j.j c.loop-j.invariant.places c.requires.row lt (c.loop-j.invariant.choosing old p) c.in_ok-combine_at.ensures.here c.in_ok-combine_at.ensures.elsewhere;
    }

pub returns-clause-chosen : goal.returns-clause-chosen
returns-clause-chosen c = λ old p.
    let e : c.loop-j.j ≡ c.args.self.now.places = omega arith in
    choosing_row c.args.choice old (bounds_of c.args.other.now) (bounds_of c.loop-j.self) c.args.self.now.places c.args.i (subst (λ (x : ℕ). IsChoosing c.args.choice old (bounds_of c.args.other.now) (bounds_of c.loop-j.self) c.args.self.now.places c.args.i x) e (c.loop-j.invariant.choosing old p))
