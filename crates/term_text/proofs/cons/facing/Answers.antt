use Rattle.std.proofs.Common.{◌≡◌, ℕ, List, length, sym, subst, ap, ◌∙◌, arith}
use Rattle.std.specs.Prelude.{ℤ}
use Rattle.std.proofs.Math.IntN.{neg_ℤ}
use Rattle.std.proofs.lemmas.List.{with_items_is}
use Rattle.row_core.specs.Vectors.{cell}
use Rattle.row_core.specs.Range.{AllInRange}
use Rattle.term_text.proofs.cons.facing.Goals as goal

pub returns-then-turns-clause-in_range : goal.returns-then-turns-clause-in_range
returns-then-turns-clause-in_range c =
    let full : length c.negate.new.cells ≡ c.args.cells.len = omega arith in
    subst AllInRange (sym (with_items_is c.args.cells c.negate.new.cells full)) c.negate.ensures.in_range

pub returns-then-turns-clause-cells : goal.returns-then-turns-clause-cells
returns-then-turns-clause-cells c =
    let full : length c.negate.new.cells ≡ c.args.cells.len = omega arith in
    λ (j : ℕ). rw (← c.if-turns.ensures) (ap (λ (cells : List ℤ). cell cells j) (with_items_is c.args.cells c.negate.new.cells full) ∙ c.negate.ensures.cells j ∙ ap (λ (cells : List ℤ). neg_ℤ (cell cells j)) c.deref_mut.ensures.value)
