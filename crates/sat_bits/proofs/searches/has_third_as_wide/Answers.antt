use Rattle.std.proofs.Common.{IsTrue, arith, below_more, refl, sym, subst, ◌∙◌}
use Rattle.std.proofs.lemmas.Bool.{false≢true}
use Rattle.sat_bits.specs.Searches.{IsThirdRow}
use Rattle.sat_bits.proofs.PlaceLemmas.{none_in_word}
use Rattle.sat_bits.proofs.RowSearches.{subset_along, words_fit, third_apart}
use Rattle.sat_bits.proofs.searches.has_third_as_wide.Goals as goal
use Rattle.sat_bits.proofs.searches.has_third_as_wide.Goals.{else-both-row-eq0-via-then-both-row-eq0+then-k-i+then-k-j+else-is_subset_of_and, else-both-row-eq0-via-then-both-row-eq0+then-k-i+else-k-j, else-both-row-eq0-via-then-both-row-eq0+else-k-i, else-both-row-eq0-via-else-both-row-eq0}

pub returns-then-word-width : goal.returns-then-word-width
returns-then-word-width c =
    third_apart c.args.cells.now c.row_at-first.result.now c.row_at-second.result.now c.args.width c.args.rows c.args.i c.args.j c.first_common_word-word.result (IsTrue c.has_other_row.result) c.requires.rows c.row_at-first.ensures.value c.row_at-second.ensures.value
    c.row_at-first.ensures.wide c.row_at-second.ensures.wide c.first_common_word-word.ensures c.if-word-width.true c.has_other_row.ensures

pub returns-then-is_subset_of_and : goal.returns-then-is_subset_of_and
returns-then-is_subset_of_and c = (
  λ t. (
    c.loop-k.k,
    record {
      row = c.loop-k-test.true;
      not_first = c.if-k-i.true;
      not_second = c.if-k-j.true;
      covers = subset_along _ _ _ _ _ _ (sym c.row_at-first.ensures.value) (sym c.row_at-second.ensures.value) (sym c.row_at-row.ensures.value) (c.if-is_subset_of_and.ensures.0 refl);
    },
  ),
  λ h. refl,
)

pub loop-k-preserved : goal.loop-k-preserved
loop-k-preserved c =
    below_more _ _ c.loop-k.invariant
    (λ third.
    let covers = subset_along _ _ _ _ _ _ c.row_at-first.ensures.value c.row_at-second.ensures.value c.row_at-row.ensures.value third.covers in
    elim c.else-both-row-eq0.branch [
      | else-both-row-eq0-via-else-both-row-eq0 w ↦
          let fit = words_fit c.args.cells.now _ c.args.width c.loop-k.k c.row_at-row.ensures.value (λ q. (c.type_inv.cells q).fits) in
          w.if-both-row-eq0.false (none_in_word _ _ _ _ _ _ c.first_common_word-word.result (λ q. (c.type_inv.first q).fits) fit refl refl refl covers)
      | else-both-row-eq0-via-then-both-row-eq0+then-k-i+then-k-j+else-is_subset_of_and w ↦ false≢true (subst IsTrue w.if-is_subset_of_and.false (w.is_subset_of_and.ensures.1 covers))
      | else-both-row-eq0-via-then-both-row-eq0+then-k-i+else-k-j w ↦ third.not_second (omega (arith, w.if-k-j.false))
      | else-both-row-eq0-via-then-both-row-eq0+else-k-i w ↦ third.not_first (omega (arith, w.if-k-i.false))
    ])

pub returns : goal.returns
returns c = (λ t. absurd (false≢true t), λ h. absurd (c.loop-k.invariant h.0 (let third : IsThirdRow c.args.cells.now c.args.width c.args.rows c.args.i c.args.j h.0 = h.1 in omega (arith, third.row, c.loop-k-test.false)) h.1))

pub is_subset_of_and-requires-clause-second : goal.is_subset_of_and-requires-clause-second
is_subset_of_and-requires-clause-second c = c.row_at-second.ensures.wide ∙ sym c.row_at-first.ensures.wide

pub is_subset_of_and-requires-clause-third : goal.is_subset_of_and-requires-clause-third
is_subset_of_and-requires-clause-third c = c.row_at-row.ensures.wide ∙ sym c.row_at-first.ensures.wide
