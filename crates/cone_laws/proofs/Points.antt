-- The points of a cone, positive at a column, determine its directions.
use Rattle.std.proofs.Common.{◌≡◌, ◌⊎◌, inl, inr, ℕ, List, length, slice_index_or, true, false, ℤ, pos, ◌+ℤ◌, ◌*ℤ◌, neg_ℤ, ◌≤ℤ◌, ◌<ℤ◌, sym, ◌∙◌, arith}
use Rattle.std.proofs.lemmas.Int.{ints}
use Rattle.row_core.specs.Vectors.{cell, dot}
use Rattle.row_core.specs.Lists.{Row}
use Rattle.cone_laws.specs.ConeSets.{IsCone}
use Rattle.cone_laws.specs.Cones.{Meets, negated}
use Rattle.cone_laws.proofs.Ring.{ring, mul-at_least_zero, at_least_zero_or_not}
use Rattle.cone_laws.proofs.Existence.{both, cell-both, length-both}
use Rattle.cone_laws.proofs.Bipolar.{dot-both}
use Rattle.cone_laws.proofs.UniqueSystems.{upto_cone}
use Rattle.cone_laws.specs.Members.{ConeOf}
use Rattle.cone_laws.proofs.MemberLemmas.{zero_of_signs, negated_dot}

once_sum : (x s u t v : ℤ) → x ≡ s *ℤ u +ℤ t *ℤ v → pos 1 *ℤ x ≡ s *ℤ u +ℤ t *ℤ v
once_sum x s u t v e = omega (arith, ints, e)

stays_positive : (x d t e : ℤ) → x ≡ pos 1 *ℤ d +ℤ t *ℤ e → pos 0 ≤ℤ (t *ℤ e) → pos 0 <ℤ d → pos 0 <ℤ x
stays_positive x d t e h z p = omega (arith, ints, h, z, p)

-- x and x + 1 times a number below 0 are below 0 together
pub too_far : (x y z : ℤ) → pos 0 ≤ℤ x → y <ℤ pos 0 → z ≡ pos 1 *ℤ x +ℤ (x +ℤ pos 1) *ℤ y → pos 0 ≤ℤ z → ⊥
too_far x y z p q e h =
    let f : pos 0 ≤ℤ ((x +ℤ pos 1) *ℤ (neg_ℤ y +ℤ neg_ℤ (pos 1))) = mul-at_least_zero (x +ℤ pos 1) (neg_ℤ y +ℤ neg_ℤ (pos 1)) (omega (arith, ints)) (omega (arith, ints)) in
    let g : (x +ℤ pos 1) *ℤ (neg_ℤ y +ℤ neg_ℤ (pos 1)) ≡ neg_ℤ ((x +ℤ pos 1) *ℤ y) +ℤ neg_ℤ (x +ℤ pos 1) = simp ring (omega (arith, ints)) in
    omega (arith, ints, e, f, g, h)

-- a row that is at least 0 at the points of a cone is at least 0 on its directions too
module _ (width column : ℕ) (C : List ℤ → Type 0) (cone : IsCone width C) (inner : List ℤ) (within : C inner) (positive : pos 0 <ℤ cell inner column) (a : List ℤ) (holds : (p : List ℤ) → C p → pos 0 <ℤ cell p column → pos 0 ≤ℤ dot a p) where
  -- the point, moved along the direction
  abbrev moved : List ℤ → List ℤ
  moved v = both (pos 1) inner (dot a inner +ℤ pos 1) v

  factor_least : pos 0 ≤ℤ (dot a inner +ℤ pos 1)
  factor_least = let h = holds inner within positive in omega (arith, ints, h)

  moved_within : (v : List ℤ) → C v → C (moved v)
  moved_within v c =
      cone.closed (pos 1) (pos 1) (dot a inner +ℤ pos 1) inner v (moved v) (omega (arith, ints)) (omega (arith, ints)) factor_least within c
      (length-both (pos 1) inner (dot a inner +ℤ pos 1) v (cone.wide inner within ∙ sym (cone.wide v c)) ∙ cone.wide v c)
      (λ j. once_sum (cell (moved v) j) (pos 1) (cell inner j) (dot a inner +ℤ pos 1) (cell v j) (cell-both (pos 1) inner (dot a inner +ℤ pos 1) v j))

  pub least_from_points : (v : List ℤ) → C v → pos 0 ≤ℤ cell v column → pos 0 ≤ℤ dot a v
  least_from_points v c least = by_case (at_least_zero_or_not (dot a v))
    where
      by_case : (pos 0 ≤ℤ dot a v) ⊎ (dot a v <ℤ pos 0) → pos 0 ≤ℤ dot a v
      by_case (inl h) = h
      by_case (inr h) =
          absurd (too_far (dot a inner) (dot a v) (dot a (moved v)) (holds inner within positive) h (dot-both a (pos 1) inner (dot a inner +ℤ pos 1) v)
          (holds (moved v) (moved_within v c) (stays_positive (cell (moved v) column) (cell inner column) (dot a inner +ℤ pos 1) (cell v column) (cell-both (pos 1) inner (dot a inner +ℤ pos 1) v column) (mul-at_least_zero (dot a inner +ℤ pos 1) (cell v column) factor_least least) positive)))

zero_least : (x : ℤ) → x ≡ pos 0 → pos 0 ≤ℤ x
zero_least x e = omega (arith, ints)

zero_least_negated : (x y : ℤ) → x ≡ pos 0 → y ≡ neg_ℤ x → pos 0 ≤ℤ y
zero_least_negated x y e f = omega (arith, ints)

pub points_determine : (width : ℕ) (rows others : List Row) (column : ℕ) (point v : List ℤ) → ConeOf width rows point → pos 0 <ℤ cell point column → ((p : List ℤ) → pos 0 <ℤ cell p column → ConeOf width rows p → ConeOf width others p) → ConeOf width rows v → pos 0 ≤ℤ cell v column → ConeOf width others v
points_determine width rows others column point v u above f c least = record { wide = c.wide; meets = λ m d low high. met (slice_index_or others m d) (λ p h i. (f p h i).meets m d low high) }
  where
    from_points : (a : List ℤ) → ((p : List ℤ) → pos 0 <ℤ cell p column → ConeOf width rows p → pos 0 ≤ℤ dot a p) → pos 0 ≤ℤ dot a v
    from_points a g = least_from_points width column (ConeOf width rows) (upto_cone width rows (length rows)) point u above a (λ p i h. g p h i) v c least

    met : (r : Row) → ((p : List ℤ) → pos 0 <ℤ cell p column → ConeOf width rows p → Meets p r) → Meets v r
    met (a, false) g = from_points a g
    met (a, true) g =
        zero_of_signs (dot a v) (dot (negated a) v)
        (from_points a (λ p h i. zero_least (dot a p) (g p h i)))
        (from_points (negated a) (λ p h i. zero_least_negated (dot a p) (dot (negated a) p) (g p h i) (negated_dot a p)))
        (negated_dot a v)
