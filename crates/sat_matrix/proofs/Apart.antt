-- Pairs of rays that share too few zeros are passed over.
use Rattle.std.proofs.Common.{◌≡◌, ℕ, zero, suc, ◌+◌, ◌-◌, ◌<◌, ◌≤◌, List, length, subst, inl, inr, arith}
use Rattle.std.proofs.lemmas.Bool.{cases_lt}
use Rattle.sat_matrix.specs.Tables.{Table, bits_of, conjunction}
use Rattle.sat_matrix.specs.Counts.{ones}
use Rattle.sat_bits.specs.Searches.{IsFirstFrom}
use Rattle.sat_matrix.specs.Searches.{Shares}
use Rattle.sat_matrix.specs.declared.adjacency.Side.{Side}
use Rattle.sat_matrix.specs.declared.adjacency.Side.TheVariants.{Above, Below}
use Rattle.sat_matrix.specs.CountTests.{CountsDecide}
use Rattle.sat_matrix.specs.Pairs.{index_at, AreRising, IsAdjacent, pair_of, AreFound}
use Rattle.sat_matrix.proofs.FoundPairs.{found_skip}
use Rattle.sat_matrix.proofs.SharedCounts.{both_turned}

-- the two aren't adjacent, whichever of them stands first
module _ (least : ℕ) (table : Table) (decide : CountsDecide least table) (outer inner : List ℕ) (p q : ℕ) (rising_outer : AreRising (length table.rows) outer) (rising_inner : AreRising (length table.rows) inner) (first : p < length outer) (second : q < length inner) where
  too_few : ¬ (Shares table.rows (index_at outer p) inner least q) → ones (conjunction (bits_of table.rows (index_at outer p)) (bits_of table.rows (index_at inner q))) < least
  too_few apart = elim (cases_lt (ones (conjunction (bits_of table.rows (index_at outer p)) (bits_of table.rows (index_at inner q)))) least) [ inl few ↦ few | inr enough ↦ absurd (apart enough) ]

  pub apart : (side : Side) → ¬ (Shares table.rows (index_at outer p) inner least q) → ¬ (IsAdjacent table (pair_of side outer inner p q))
  apart Above few = decide.too_few (index_at outer p) (index_at inner q) (rising_outer.within p first) (rising_inner.within q second) (too_few few)
  apart Below few = decide.too_few (index_at inner q) (index_at outer p) (rising_inner.within q second) (rising_outer.within p first)
      (subst (λ (n : ℕ). n < least) (both_turned (bits_of table.rows (index_at outer p)) (bits_of table.rows (index_at inner q))) (too_few few))

-- so many positions are passed over at which the two aren't adjacent
pub found_gap : (side : Side) (table : Table) (outer inner : List ℕ) (bound from gap : ℕ) (pairs : List (ℕ × ℕ)) → ((q : ℕ) → from ≤ q → q < from + gap → ¬ (IsAdjacent table (pair_of side outer inner bound q)))
    → AreFound side table outer inner bound from pairs → AreFound side table outer inner bound (from + gap) pairs
found_gap side table outer inner bound from zero pairs none h = subst (λ (n : ℕ). AreFound side table outer inner bound n pairs) (let e : from ≡ from + zero = omega arith in e) h
found_gap side table outer inner bound from (suc gap) pairs none h =
    subst (λ (n : ℕ). AreFound side table outer inner bound n pairs) (let e : from + gap + 1 ≡ from + suc gap = omega arith in e)
    (found_skip side table outer inner bound (from + gap) pairs (found_gap side table outer inner bound from gap pairs (λ q a b. none q a (omega (arith, b))) h) (none (from + gap) (omega arith) (omega arith)))

-- up to the next position at which the two share enough zeros
pub found_next : (side : Side) (table : Table) (outer inner : List ℕ) (bound from next least : ℕ) (pairs : List (ℕ × ℕ)) → CountsDecide least table → AreRising (length table.rows) outer → AreRising (length table.rows) inner → bound < length outer
    → IsFirstFrom (Shares table.rows (index_at outer bound) inner least) from (length inner) next → AreFound side table outer inner bound from pairs → AreFound side table outer inner bound next pairs
found_next side table outer inner bound from next least pairs decide rising_outer rising_inner first is h =
    subst (λ (n : ℕ). AreFound side table outer inner bound n pairs) (let e : from + (next - from) ≡ next = omega (arith, is.behind) in e)
    (found_gap side table outer inner bound from (next - from) pairs
    (λ q a b. apart least table decide outer inner bound q rising_outer rising_inner first (omega (arith, b, is.behind, is.within)) side (is.before q a (omega (arith, b, is.behind)))) h)
