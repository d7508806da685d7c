use Rattle.std.proofs.Common.{ℕ, ◌<◌, arith, rules, refl, sym, ◌∙◌}
use Rattle.std.proofs.lemmas.Bool.{false≢true}
use borrow.Author.Count.{below_more}
use Rattle.row_core.specs.Refusals.{IsOverflowIn}
use Rattle.row_core.proofs.RefusalLemmas.{overflow_weaker}
use Rattle.difference_bounds.specs.Laws.{IsCovered}
use Rattle.difference_bounds.specs.Combining.{LeavesInRow, LeavesInCovering}
use Rattle.difference_bounds.proofs.ChoiceLemmas.{row_leaves}
use Rattle.difference_bounds.specs.Tables.{bounds_of}
use Rattle.difference_bounds.proofs.table.BoundTable.covers.Goals as goal

pub loop-i-preserved : goal.loop-i-preserved
loop-i-preserved c =
    let row = c.in_ok-covers_row.ensures.covers.0 c.if-not-branch.false in
    λ p q lp lq. below_more (λ (r : ℕ). (s : ℕ) → s < c.args.self.now.places → IsCovered (bounds_of c.args.self.now r s) (bounds_of c.args.other.now r s)) c.loop-i.i (λ r l s k. c.loop-i.invariant r s l k) row p lp q lq

pub returns-in_err-covers_row-clause-overflow : goal.returns-in_err-covers_row-clause-overflow
returns-in_err-covers_row-clause-overflow c =
    let here = bounds_of c.args.self.now in
    let there = bounds_of c.args.other.now in
    let below : c.loop-i.i < c.args.self.now.places = omega (arith, c.places-i-end.ensures.value) in
    let known : IsOverflowIn (LeavesInCovering here there c.args.self.now.places) c.in_err-covers_row.field-0.0 =
    overflow_weaker (LeavesInRow here there c.args.self.now.places c.loop-i.i) (LeavesInCovering here there c.args.self.now.places)
    (row_leaves here there c.args.self.now.places c.loop-i.i below c.loop-i.invariant)
    c.in_err-covers_row.field-0.0 c.in_err-covers_row.ensures.overflow in
    search (rules, known, c.from_residual.ensures)

pub returns-clause-covers : goal.returns-clause-covers
returns-clause-covers c = (λ t i j li lj. c.loop-i.invariant i j (omega (arith, c.places-i-end.ensures.value)) lj, λ all. refl)

pub returns-then-not-branch-clause-covers : goal.returns-then-not-branch-clause-covers
returns-then-not-branch-clause-covers c = (λ t. absurd (false≢true t), λ all. sym c.if-not-branch.true ∙ c.in_ok-covers_row.ensures.covers.1 (λ j l. all c.loop-i.i j (omega (arith, c.places-i-end.ensures.value)) l))
