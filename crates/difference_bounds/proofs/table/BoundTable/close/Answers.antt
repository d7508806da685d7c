use Rattle.std.specs.Prelude.{◌≡◌, ℕ, ◌<◌}
use Rattle.std.proofs.Common.{arith, rules, ◌∙◌, subst, refl}
use Rattle.row_core.specs.Refusals.{IsOverflowIn}
use Rattle.row_core.proofs.RefusalLemmas.{overflow_weaker}
use Rattle.difference_bounds.specs.Tables.{Table, AreLeast, bounds_of}
use Rattle.difference_bounds.specs.Overflows.{LeavesInClosing}
use Rattle.difference_bounds.specs.Passes.{IsPassing, HasNegative, HasNoNegative}
use Rattle.difference_bounds.proofs.PassLemmas.{least_begins, negative_by, nonnegative_by, pass_begins, pass_ends, closed_by}
use Rattle.difference_bounds.proofs.Tightness.{negative_has_none}
use Rattle.difference_bounds.proofs.table.BoundTable.close.Goals as goal

pub loop-k-init : goal.loop-k-init
loop-k-init c = record { places = refl; least = least_begins c.args.self.now c.args.self.now.places c.places-k-end.ensures.table.fractions }

pub returns-then-has_negative-clause-closed : goal.returns-then-has_negative-clause-closed
returns-then-has_negative-clause-closed c =
    negative_has_none c.args.self.now c.args.self.now.places c.loop-k.k c.places-k-end.ensures.table.fractions (omega arith)
    (negative_by c.args.self.now c.args.self.now.places c.loop-k.k c.loop-k.self c.places-k-end.ensures.table.fractions c.loop-k.invariant.least (subst (HasNegative c.loop-k.self) c.loop-k.invariant.places c.if-has_negative.ensures.negative))

pub returns-in_err-relax_all-clause-overflow : goal.returns-in_err-relax_all-clause-overflow
returns-in_err-relax_all-clause-overflow c =
    let lt : c.loop-k.k < c.args.self.now.places = omega arith in
    let begins : IsPassing c.args.self.now c.args.self.now.places c.loop-k.k c.loop-k.self 0 0 = pass_begins c.args.self.now c.args.self.now.places c.loop-k.k c.loop-k.self c.places-k-end.ensures.table.fractions lt
    (nonnegative_by c.args.self.now c.args.self.now.places c.loop-k.k c.loop-k.self c.places-k-end.ensures.table.fractions c.loop-k.invariant.least (subst (HasNoNegative c.loop-k.self) c.loop-k.invariant.places c.if-has_negative.ensures.negative)) c.loop-k.invariant.least in
    let known : IsOverflowIn (LeavesInClosing (bounds_of c.args.self.now) c.args.self.now.places) c.in_err-relax_all.field-0.0 =
    overflow_weaker (λ over. (given : Table) → IsPassing given c.loop-k.self.places c.loop-k.k c.loop-k.self 0 0 → LeavesInClosing (bounds_of given) c.loop-k.self.places over)
    (LeavesInClosing (bounds_of c.args.self.now) c.args.self.now.places)
    (λ over h. subst (λ (m : ℕ). IsPassing c.args.self.now m c.loop-k.k c.loop-k.self 0 0 → LeavesInClosing (bounds_of c.args.self.now) m over) c.loop-k.invariant.places (h c.args.self.now) begins)
    c.in_err-relax_all.field-0.0 c.in_err-relax_all.ensures.overflow in
    search (rules, known, c.from_residual.ensures)

pub loop-k-preserved : goal.loop-k-preserved
loop-k-preserved c =
    let lt : c.loop-k.k < c.args.self.now.places = omega arith in
    let begins : IsPassing c.args.self.now c.args.self.now.places c.loop-k.k c.loop-k.self 0 0 = pass_begins c.args.self.now c.args.self.now.places c.loop-k.k c.loop-k.self c.places-k-end.ensures.table.fractions lt
    (nonnegative_by c.args.self.now c.args.self.now.places c.loop-k.k c.loop-k.self c.places-k-end.ensures.table.fractions c.loop-k.invariant.least (subst (HasNoNegative c.loop-k.self) c.loop-k.invariant.places c.if-has_negative.ensures.negative)) c.loop-k.invariant.least in
    record {
      places = c.relax_all.ensures.places ∙ c.loop-k.invariant.places;
      least = pass_ends c.args.self.now c.args.self.now.places c.loop-k.k c.relax_all.new.self (subst (λ (m : ℕ). IsPassing c.args.self.now m c.loop-k.k c.loop-k.self 0 0 → IsPassing c.args.self.now m c.loop-k.k c.relax_all.new.self m 0) c.loop-k.invariant.places (c.in_ok-relax_all.ensures.passed c.args.self.now) begins);
    }

pub returns-clause-closed : goal.returns-clause-closed
returns-clause-closed c =
    let e : c.loop-k.k ≡ c.args.self.now.places = omega arith in
    closed_by c.args.self.now c.loop-k.self c.args.self.now.places c.loop-k.self.places c.has_negative-2.result c.loop-k.invariant.places c.places-k-end.ensures.table.fractions c.has_negative-2.ensures.table.fractions c.requires
    (subst (λ (x : ℕ). AreLeast (bounds_of c.args.self.now) c.args.self.now.places x (bounds_of c.loop-k.self)) e c.loop-k.invariant.least) c.has_negative-2.ensures.negative
