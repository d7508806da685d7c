use Rattle.std.specs.Prelude.{◌≡◌, ℕ, ◌+◌}
use Rattle.std.proofs.Common.{arith, rules, ◌∙◌, subst}
use Rattle.row_core.specs.Refusals.{IsOverflowIn}
use Rattle.row_core.proofs.RefusalLemmas.{overflow_weaker}
use Rattle.difference_bounds.specs.Tables.{Table, bounds_of}
use Rattle.difference_bounds.specs.Overflows.{LeavesInClosing}
use Rattle.difference_bounds.specs.Passes.{IsPassing}
use Rattle.difference_bounds.proofs.table.BoundTable.relax_all.Goals as goal

pub returns-in_err-relax_row-clause-overflow : goal.returns-in_err-relax_row-clause-overflow
returns-in_err-relax_row-clause-overflow c =
    let known : IsOverflowIn (λ over. (given : Table) → IsPassing given c.args.self.now.places c.args.k c.args.self.now 0 0 → LeavesInClosing (bounds_of given) c.args.self.now.places over) c.in_err-relax_row.field-0.0 =
    overflow_weaker (λ over. (given : Table) → IsPassing given c.loop-i.self.places c.args.k c.loop-i.self c.loop-i.i 0 → LeavesInClosing (bounds_of given) c.loop-i.self.places over)
    (λ over. (given : Table) → IsPassing given c.args.self.now.places c.args.k c.args.self.now 0 0 → LeavesInClosing (bounds_of given) c.args.self.now.places over)
    (λ over h given p. subst (λ (m : ℕ). IsPassing given m c.args.k c.loop-i.self c.loop-i.i 0 → LeavesInClosing (bounds_of given) m over) c.loop-i.invariant.places (h given) (c.loop-i.invariant.passing given p))
    c.in_err-relax_row.field-0.0 c.in_err-relax_row.ensures.overflow in
    search (rules, known, c.from_residual.ensures)

pub loop-i-preserved : goal.loop-i-preserved
loop-i-preserved c = record {
  places = c.relax_row.ensures.places ∙ c.loop-i.invariant.places;
  passing = λ given p. subst (λ (m : ℕ). IsPassing given m c.args.k c.loop-i.self c.loop-i.i 0 → IsPassing given m c.args.k c.relax_row.new.self (c.loop-i.i + 1) 0) c.loop-i.invariant.places (c.in_ok-relax_row.ensures.passed given) (c.loop-i.invariant.passing given p);
}

pub returns-clause-passed : goal.returns-clause-passed
returns-clause-passed c = λ given p.
    let e : c.loop-i.i ≡ c.args.self.now.places = omega arith in
    subst (λ (x : ℕ). IsPassing given c.args.self.now.places c.args.k c.loop-i.self x 0) e (c.loop-i.invariant.passing given p)
