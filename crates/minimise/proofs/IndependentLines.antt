-- Independent lines are as many as the lines of their basis.
use Rattle.std.proofs.Common.{◌≡◌, ◌⊎◌, inl, inr, ℕ, ◌+◌, ◌<◌, List, [], length, take, remove, ℤ, pos, neg_ℤ, ◌+ℤ◌, ◌*ℤ◌, sym, ap, ◌∙◌, arith}
use Rattle.std.proofs.lemmas.Int.{ints}
use Rattle.std.proofs.lemmas.List.{get_or-take, length-take}
use Rattle.std.proofs.lemmas.List.Edits.{length-remove, get_or-remove_below}
use Rattle.std.proofs.lemmas.List.Elements.{All-nil}
use Rattle.row_core.specs.Vectors.{cell, scale, combined}
use Rattle.row_core.specs.Lists.{vector_at}
use Rattle.row_core.proofs.CellLemmas.{combined-scale}
use Rattle.cone_laws.proofs.Sums.{V, Nothing, SpansBy, spans_same, spans_spans, spans_more}
use Rattle.cone_laws.proofs.Bridge.{columns, In, to_lines, from_lines}
use Rattle.minimise.specs.Bases.{IsBasis, IsReduced, IsGrown, HasGrown}
use Rattle.minimise.specs.MinimalForms.{AreIndependent}

module _ (flat lines : List (List ℤ)) (n : ℕ) (below : n < length flat) (basis : IsBasis (take n flat) lines) where
  -- a vector of the first ones is another than the next
  before_in : (l : V) → In (take n flat) l → In (remove flat n) l
  before_in l m =
      let h : m.index < n = omega (arith, m.is, length-take n flat) in
      record {
        index = m.index;
        is = omega (arith, h, below, length-remove flat n below);
        same = λ j. m.same j ∙ ap (λ (v : List ℤ). cell v j) (get_or-take n flat m.index [] h ∙ sym (get_or-remove_below flat n [] m.index h below));
      }

  line_spanned : (l : V) → In lines l → SpansBy (In (remove flat n)) Nothing l
  line_spanned l m = spans_same (columns lines m.index) l (spans_more before_in (λ r k. k) (columns lines m.index) (to_lines (take n flat) (vector_at lines m.index) (basis.spanned m.index [] m.is))) m.same

  zero_sum : (t x f y z w : ℤ) → t *ℤ x ≡ f *ℤ y +ℤ z → x ≡ pos 0 → w ≡ neg_ℤ (pos 1) *ℤ z → f *ℤ y ≡ w +ℤ pos 0
  zero_sum t x f y z w e h g = let k = ap (λ (u : ℤ). t *ℤ u) h in omega (arith, ints, e, k, g)

  -- a vector that the basis reduces to 0 is spanned by the first ones
  pub dependent : (reduced : List ℤ) → IsReduced lines (vector_at flat n) reduced → ((j : ℕ) → cell reduced j ≡ pos 0) → ¬ (AreIndependent flat)
  dependent reduced r zero free = free n below (from_lines (remove flat n) (vector_at flat n) (spans_spans line_spanned (λ u m. elim m [ ]) (cell (vector_at flat n)) (to_lines lines (vector_at flat n) (record {
    times = r.factor;
    positive = r.factor_positive;
    line_factors = scale (neg_ℤ (pos 1)) r.factors;
    ray_factors = [];
    at_least_zero = All-nil _;
    sum = λ j. zero_sum r.times (cell reduced j) r.factor (cell (vector_at flat n) j) (combined r.factors lines j) (combined (scale (neg_ℤ (pos 1)) r.factors) lines j) (r.same j) (zero j) (combined-scale (neg_ℤ (pos 1)) r.factors lines j);
  }))))

  pub one_line_more : (new : List (List ℤ)) → IsGrown lines (vector_at flat n) new → AreIndependent flat → length lines ≡ n → length new ≡ n + 1
  one_line_more new g free many = by_case g.outcome
    where
      by_case : (((j : ℕ) → cell g.reduced j ≡ pos 0) × (new ≡ lines)) ⊎ HasGrown lines g.reduced new → length new ≡ n + 1
      by_case (inl z) = absurd (dependent g.reduced g.is_reduced z.0 free)
      by_case (inr h) = omega (arith, many, h.taken.cleared.as_many, length-remove new h.taken.k h.taken.within)
