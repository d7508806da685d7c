use Rattle.std.proofs.Common.{below_more, subst, sym, ◌∙◌, arith, ℕ, List, get_or}
use Rattle.std.proofs.lemmas.Bool.{false≢true}
use Rattle.std.specs.Prelude.{IsTrue}
use Rattle.sat_bits.specs.Places.{IsSubsetOfAnd}
use Rattle.sat_bits.specs.Searches.{row_words}
use Rattle.sat_bits.proofs.searches.is_within_as_wide.Goals as goal

pub is_subset_of_and-requires-clause-third : goal.is_subset_of_and-requires-clause-third
is_subset_of_and-requires-clause-third c = c.row_at-other.ensures.wide ∙ sym c.row_at-row.ensures.wide

pub loop-q-preserved : goal.loop-q-preserved
loop-q-preserved c =
    below_more _ _ c.loop-q.invariant
    (λ within.
    let other : List ℕ = row_words c.args.cells.now c.args.width (get_or c.args.among.now c.loop-q.q 0) in
    let P : List ℕ → Type 0 = λ row. IsSubsetOfAnd row row other in
    let Q : List ℕ → Type 0 = λ row. IsSubsetOfAnd c.row_at-row.result.now c.row_at-row.result.now row in
    false≢true (subst IsTrue c.if-is_subset_of_and.false (c.is_subset_of_and.ensures.1 (subst Q (sym c.row_at-other.ensures.value) (subst P (sym c.row_at-row.ensures.value) within)))))

pub returns : goal.returns
returns c = (λ t. absurd (false≢true t), λ h. absurd (c.loop-q.invariant h.0 (omega (arith, h.1, c.loop-q-test.false)) h.2))
