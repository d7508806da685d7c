use Rattle.std.proofs.Common.{◌^◌, ◌<◌, ℕ, sym, subst, ◌∙◌, arith}
use Rattle.sat_bits.specs.Searches.{SharesPlaces}
use Rattle.sat_bits.proofs.RowSearches.{none_more, places_along}
use Rattle.sat_bits.proofs.searches.next_sharing_as_wide.Goals as goal

pub count_and-requires-clause-few : goal.count_and-requires-clause-few
count_and-requires-clause-few c =
    let P : ℕ → Type 0 = λ n. n < 2 ^ 64 in
    subst P (sym (places_along _ _ _ _ c.row_at-row.ensures.value c.row_at-other.ensures.value)) (c.requires.few c.loop-q.q c.loop-q-test.true)

pub count_and-requires-clause-second : goal.count_and-requires-clause-second
count_and-requires-clause-second c = c.row_at-other.ensures.wide ∙ sym c.row_at-row.ensures.wide

pub loop-q-preserved : goal.loop-q-preserved
loop-q-preserved c =
    let same = places_along _ _ _ _ c.row_at-row.ensures.value c.row_at-other.ensures.value in
    none_more (SharesPlaces c.args.cells.now c.args.width c.args.i c.args.among.now c.args.least) c.args.from c.loop-q.q c.loop-q.invariant
    (λ shares. absurd (omega (arith, shares, same, c.count_and.ensures, c.if-count_and-least.false)))
