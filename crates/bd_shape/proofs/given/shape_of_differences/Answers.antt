use Rattle.std.specs.Prelude.{◌≡◌, ◌↔◌, ◌+◌, ◌<◌, ◌≤◌, ℕ, ℤ, List, length, Some, IfOk}
use Rattle.std.proofs.Common.{arith, inl, inr, ap, sym, subst, ◌∙◌}
use Rattle.std.proofs.lemmas.Option.{none-some}
use Rattle.std.proofs.lemmas.Result.{IfOk-weaker, IfErr-weaker}
use Rattle.difference_bounds.specs.Tables.{HasZeros, bounds_of}
use Rattle.difference_bounds.specs.Overflows.{LeavesInClosing}
use Rattle.row_core.specs.Refusals.{IsOverflowIn}
use Rattle.row_core.specs.Points.{IsPoint}
use Rattle.cons_sys.specs.Constraints.{In}
use Rattle.poly_pair.specs.declared.topology.TheConstants.{MAX_DIM}
use Rattle.bd_shape.specs.Shapes.{DifferenceShape, IsIn, IsInBounds}
use Rattle.bd_shape.specs.Given.{IsReading}
use Rattle.bd_shape.proofs.GivenPoints.{shape_points}
use Rattle.std.proofs.lemmas.Result.{err_from_is_err_and}
use Rattle.row_core.proofs.RefusalLemmas.{overflow_weaker}
use Rattle.bd_shape.specs.Refusals.{LeavesInTwoGiven, LeavesInConstraints}
use Rattle.bd_shape.proofs.given.shape_of_differences.Goals as goal

pub returns-clause-points : goal.returns-clause-points
returns-clause-points c =
    let cs = c.args.cons.now in
    let end : c.loop-k.k ≡ length cs.list = omega (arith, c.len-k-end.ensures) in
    IfOk-weaker c.closed.result (λ (s : DifferenceShape). (p : List ℤ) → IsIn s p ↔ (IsPoint c.dim-dim.result p × IsInBounds (Some c.loop-k.bounds) c.dim-dim.result p)) (λ (s : DifferenceShape). (p : List ℤ) → IsIn s p ↔ (IsPoint cs.dim p × In cs p))
    (λ s h. shape_points cs c.loop-k.bounds (subst (λ (k : ℕ). IsReading cs k c.loop-k.bounds) end c.loop-k.invariant) c.places-kept.ensures.table.fractions c.requires.closed s
    (subst (λ (n : ℕ). (p : List ℤ) → IsIn s p ↔ (IsPoint n p × IsInBounds (Some c.loop-k.bounds) n p)) c.dim-dim.ensures.value h))
    c.closed.ensures.points

pub returns-in_err-bounds : goal.returns-in_err-bounds
returns-in_err-bounds c = let p = err_from_is_err_and c.from_residual.result c.from_residual.ensures.1 in rw (p.1, p.2) (record { dim = tt; points = tt; overflow = tt })

pub returns-in_err-take_constraint : goal.returns-in_err-take_constraint
returns-in_err-take_constraint c = let p = err_from_is_err_and c.from_residual-in_err-take_constraint.result c.from_residual-in_err-take_constraint.ensures.1 in rw (p.1, p.2) (record { dim = tt; points = tt; overflow = overflow_weaker (LeavesInTwoGiven c.args.cons.now) (LeavesInConstraints c.args.cons.now) (λ over h. inl h) _ c.in_err-take_constraint.ensures.overflow })

pub loop-k-init : goal.loop-k-init
loop-k-init c = record {
  places = c.in_ok-bounds.ensures.places ∙ ap (λ (n : ℕ). n + 1) c.dim-dim.ensures.value;
  zeros = subst (λ (n : ℕ). HasZeros (bounds_of c.in_ok-bounds.bounds) (n + 1)) c.dim-dim.ensures.value c.in_ok-bounds.ensures.zeros;
  least = record {
    given = λ i j f li lj n e. absurd (none-some f (sym (c.in_ok-bounds.ensures.others i j (omega arith) (omega arith) n) ∙ e));
    least = λ i j f li lj n g. absurd (let before = g.before in omega arith);
  };
  read = λ k h. absurd (omega arith);
}

pub loop-k-preserved : goal.loop-k-preserved
loop-k-preserved c = rw c.if-not-branch.false at c.in_ok-take_constraint.ensures.read

pub closed-requires : goal.closed-requires
closed-requires c = record {
  narrow = subst (λ (n : ℕ). n ≤ MAX_DIM) (sym c.dim-dim.ensures.value) c.requires.narrow;
  places = c.loop-k.invariant.places ∙ ap (λ (n : ℕ). n + 1) (sym c.dim-dim.ensures.value);
  zeros = subst (λ (n : ℕ). HasZeros (bounds_of c.loop-k.bounds) (n + 1)) (sym c.dim-dim.ensures.value) c.loop-k.invariant.zeros;
}

pub take_constraint-requires : goal.take_constraint-requires
take_constraint-requires c = record { index = subst (λ (n : ℕ). c.loop-k.k < n) c.len-k-end.ensures c.loop-k-test.true; differences = c.requires.differences; reading = c.loop-k.invariant }

pub returns-clause-overflow : goal.returns-clause-overflow
returns-clause-overflow c =
    let cs = c.args.cons.now in
    let bounds = c.loop-k.bounds in
    let end : c.loop-k.k ≡ length cs.list = omega (arith, c.len-k-end.ensures) in
    let reading = subst (λ (k : ℕ). IsReading cs k bounds) end c.loop-k.invariant in
    IfErr-weaker c.closed.result (IsOverflowIn (LeavesInClosing (bounds_of bounds) (c.dim-dim.result + 1))) (IsOverflowIn (LeavesInConstraints cs))
    (overflow_weaker (LeavesInClosing (bounds_of bounds) (c.dim-dim.result + 1)) (LeavesInConstraints cs)
    (λ over l. inr (record { given = bounds; is_given = record { zeros = reading.zeros; least = reading.least }; leaves = subst (λ (n : ℕ). LeavesInClosing (bounds_of bounds) (n + 1) over) c.dim-dim.ensures.value l })))
    c.closed.ensures.overflow

pub returns-clause-dim : goal.returns-clause-dim
returns-clause-dim c = subst (λ (n : ℕ). IfOk c.closed.result (λ (s : DifferenceShape). s.dim ≡ n)) c.dim-dim.ensures.value c.closed.ensures.dim

pub returns-then-not-branch : goal.returns-then-not-branch
returns-then-not-branch c =
    let nowhere = rw c.if-not-branch.true at c.in_ok-take_constraint.ensures.read in
    let index = subst (λ (n : ℕ). c.loop-k.k < n) c.len-k-end.ensures c.loop-k-test.true in
    record { dim = c.dim-dim.ensures.value; points = λ p. ((λ h. absurd h.within), (λ h. absurd (nowhere p h.0 (h.1 c.loop-k.k _ index)))); overflow = tt }
