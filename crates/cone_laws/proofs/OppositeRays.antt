-- A step with a row that is 0 on all lines, over lists: the rays that stay and a ray for each pair on the two sides of the row generate the cone of one row more.
use Rattle.std.proofs.Common.{◌≡◌, ℕ, ◌+◌, ◌<◌, List, [], length, slice_index_or, Bool, ℤ, pos, ◌+ℤ◌, ◌-ℤ◌, ◌*ℤ◌, neg_ℤ, ◌<ℤ◌, All, ap, ◌∙◌, subst, arith}
use Rattle.std.proofs.lemmas.Int.{ints}
use Rattle.std.proofs.lemmas.List.{get_or_default}
use Rattle.row_core.specs.Vectors.{cell, dot}
use Rattle.row_core.specs.Lists.{Row, vector_at}
use Rattle.cone_laws.specs.Cones.{Upto, Generates, negated}
use Rattle.cone_laws.specs.Steps.{IsRowAt, IsPair}
use Rattle.row_core.proofs.Ring.{ring, zero_of_mul}
use Rattle.cone_laws.proofs.Columns.{dot-negated}
use Rattle.cone_laws.proofs.UptoRows.{zero_asks, IsSumOf, dot_sum, upto_sum, upto_more}

-- ---- the pair of two vectors on the two sides of a row
pair_as_sum : (x p u q v : ℤ) → x ≡ p *ℤ u -ℤ q *ℤ v → x ≡ p *ℤ u +ℤ neg_ℤ q *ℤ v
pair_as_sum x p u q v e = e ∙ simp ring

abbrev as_sum_of : (a p n r : List ℤ) → IsPair a p n r → IsSumOf r (dot a p) n (neg_ℤ (dot a n)) p
as_sum_of a p n r b = record {
  times = b.times;
  positive = b.positive;
  same = λ j. pair_as_sum (b.times *ℤ cell r j) (dot a p) (cell n j) (dot a n) (cell p j) (b.same j);
}

pair_value : (t r p n : ℤ) → t *ℤ r ≡ p *ℤ n +ℤ neg_ℤ n *ℤ p → t *ℤ r ≡ pos 0
pair_value t r p n e = let f : p *ℤ n +ℤ neg_ℤ n *ℤ p ≡ pos 0 = simp ring (omega (arith, ints)) in e ∙ f

pub pair_dot : (a p n r : List ℤ) → IsPair a p n r → dot a r ≡ pos 0
pair_dot a p n r b = zero_of_mul b.times (dot a r) b.positive (pair_value b.times (dot a r) (dot a p) (dot a n) (dot_sum a r (dot a p) n (neg_ℤ (dot a n)) p (as_sum_of a p n r b)))

pub pair_within : (width : ℕ) (rows : List Row) (k : ℕ) (a : List ℤ) (eq : Bool) → IsRowAt rows k (a, eq) → (p n r : List ℤ) → pos 0 <ℤ dot a p → dot a n <ℤ pos 0 → IsPair a p n r → length r ≡ width → Upto width rows k p → Upto width rows k n → Upto width rows (k + 1) r
pair_within width rows k a eq row p n r above below b w up un =
    upto_more width rows k (a, eq) r row
    (upto_sum width rows k r (dot a p) n (neg_ℤ (dot a n)) p (as_sum_of a p n r b) w (omega (arith, ints)) (omega (arith, ints)) un up)
    (zero_asks eq (dot a r) (pair_dot a p n r b))

-- ---- places in lists
-- the vector stands in the list
pub record Stands (vectors : List (List ℤ)) (v : List ℤ) : Type 0 where
  pub place : ℕ
  pub below : place < length vectors
  pub same : v ≡ vector_at vectors place

module _ (width : ℕ) (rows : List Row) (k : ℕ) (a : List ℤ) (lines rays : List (List ℤ)) (gen : Generates (Upto width rows k) lines rays) (flat : (i : ℕ) → i < length lines → dot a (vector_at lines i) ≡ pos 0) where
  pub lines_stay : (eq : Bool) → IsRowAt rows k (a, eq) → All (λ l. Upto width rows (k + 1) l × Upto width rows (k + 1) (negated l)) lines
  lines_stay eq row m d h =
      let l = slice_index_or lines m d in
      let z : dot a l ≡ pos 0 = subst (λ (v : List ℤ). dot a v ≡ pos 0) (get_or_default lines m [] d h) (flat m h) in (
        upto_more width rows k (a, eq) l row (gen.lines_within m d h).0 (zero_asks eq (dot a l) z),
        upto_more width rows k (a, eq) (negated l) row (gen.lines_within m d h).1 (zero_asks eq (dot a (negated l)) (dot-negated a l ∙ ap neg_ℤ z)),
      )
