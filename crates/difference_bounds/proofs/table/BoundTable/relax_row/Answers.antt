use Rattle.std.specs.Prelude.{◌≡◌, ℕ, ◌<◌, None}
use Rattle.std.specs.Int.{w64}
use mir.Val.{SFits}
use Rattle.std.proofs.Common.{arith, rules, ◌∙◌, subst}
use Rattle.row_core.specs.Refusals.{IsOverflowIn}
use Rattle.row_core.proofs.RefusalLemmas.{overflow_weaker}
use Rattle.difference_bounds.specs.Tables.{Table, bounds_of}
use Rattle.difference_bounds.specs.Overflows.{LeavesInRelaxing, LeavesInClosing}
use Rattle.difference_bounds.specs.Passes.{IsPassing}
use Rattle.difference_bounds.proofs.PassLemmas.{pass_cell, passing_leaves, row_passed, row_skipped}
use Rattle.difference_bounds.proofs.WordLemmas.{none_of, absent_word}
use Rattle.difference_bounds.proofs.table.BoundTable.relax_row.Goals as goal

pub returns-then-word-eq-ABSENT-clause-passed : goal.returns-then-word-eq-ABSENT-clause-passed
returns-then-word-eq-ABSENT-clause-passed c =
    let fits : SFits w64 c.word.result = search rules in
    let none : bounds_of c.args.self.now c.args.i c.args.k ≡ None = none_of (bounds_of c.args.self.now c.args.i c.args.k) c.word.result c.word.ensures.word (absent_word c.word.result fits c.if-word-eq-ABSENT.true) in
    λ given p. row_skipped given c.args.self.now.places c.args.k c.args.self.now c.args.i c.requires.way c.requires.row none p

pub returns-in_err-relax-clause-overflow : goal.returns-in_err-relax-clause-overflow
returns-in_err-relax-clause-overflow c =
    let lt : c.loop-j.j < c.args.self.now.places = omega arith in
    let known : IsOverflowIn (λ over. (given : Table) → IsPassing given c.args.self.now.places c.args.k c.args.self.now c.args.i 0 → LeavesInClosing (bounds_of given) c.args.self.now.places over) c.in_err-relax.field-0.0 =
    overflow_weaker (LeavesInRelaxing (bounds_of c.loop-j.self c.args.i c.loop-j.j) (bounds_of c.loop-j.self c.args.i c.args.k) (bounds_of c.loop-j.self c.args.k c.loop-j.j))
    (λ over. (given : Table) → IsPassing given c.args.self.now.places c.args.k c.args.self.now c.args.i 0 → LeavesInClosing (bounds_of given) c.args.self.now.places over)
    (λ over h given p. passing_leaves given c.args.self.now.places c.args.k c.loop-j.self c.args.i c.loop-j.j over c.requires.way c.requires.row lt (c.loop-j.invariant.passing given p) h)
    c.in_err-relax.field-0.0 c.in_err-relax.ensures.overflow in
    search (rules, known, c.from_residual.ensures)

pub loop-j-preserved : goal.loop-j-preserved
loop-j-preserved c =
    let lt : c.loop-j.j < c.args.self.now.places = omega arith in
    record {
      places = c.relax.ensures.places ∙ c.loop-j.invariant.places;
      passing = λ given p. pass_cell given c.args.self.now.places c.loop-j.self.places c.args.k c.loop-j.self c.relax.new.self c.args.i c.loop-j.j c.loop-j.invariant.places c.requires.way c.requires.row lt (c.loop-j.invariant.passing given p) c.in_ok-relax.ensures.here c.in_ok-relax.ensures.elsewhere;
    }

pub returns-clause-passed : goal.returns-clause-passed
returns-clause-passed c = λ given p.
    let e : c.loop-j.j ≡ c.args.self.now.places = omega arith in
    row_passed given c.args.self.now.places c.args.k c.loop-j.self c.args.i (subst (λ (x : ℕ). IsPassing given c.args.self.now.places c.args.k c.loop-j.self c.args.i x) e (c.loop-j.invariant.passing given p))
