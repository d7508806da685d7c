-- A row that is true wherever another is shares at least as much.
use Rattle.std.specs.Prelude.{◌≡◌, ℕ, ◌+◌, ◌*◌, ◌^◌, ◌<◌, ◌≤◌, ◌&&◌, ◌||◌, Bool, true, false, List, length, cond, IsTrue}
use Rattle.std.specs.List.{range_with_len, count_by}
use Rattle.std.proofs.Common.{refl, sym, subst, ◌∙◌, inl, inr, arith}
use Rattle.std.proofs.lemmas.Bool.{false≢true, cases_eq, or_left, or_right}
use Rattle.std.proofs.lemmas.List.Sums.{sum_by-le-sum_by}
use Rattle.sat_bits.specs.Places.{place}
use Rattle.flat_rows.specs.Flat.{Flat, entries_at}
use Rattle.sat_matrix.specs.Tables.{Table, bits_of}
use Rattle.sat_matrix.specs.Words.{AreWordsOf}
use Rattle.sat_bits.specs.Searches.{shared_places}
use Rattle.sat_matrix.specs.Searches.{Shares}
use Rattle.sat_matrix.specs.Pairs.{index_at}
use Rattle.sat_matrix.specs.Near.{IsUnionOf, SharesWords}
use Rattle.sat_matrix.proofs.BitRows.{seen_in, rectangular_in}
use Rattle.sat_matrix.proofs.Counting.{count_seen, ones-le, shared_seen}
use Rattle.sat_matrix.proofs.SharedCounts.{both_turned}

true_in_both : (x y z : Bool) → (IsTrue x → IsTrue y) → cond (z && x) 1 0 ≤ cond (z && y) 1 0
true_in_both true true z h = omega arith
true_in_both true false z h = absurd (false≢true (h refl))
true_in_both false y true h = omega arith
true_in_both false y false h = omega arith

true_in_first : (x z : Bool) → cond (z && x) 1 0 ≤ cond z 1 0
true_in_first true true = omega arith
true_in_first false true = omega arith
true_in_first x false = omega arith

-- a row shares no fewer places with one that is true wherever another is
shared_more : (row a u : List ℕ) → ((c : ℕ) → IsTrue (place a c) → IsTrue (place u c)) → shared_places row a ≤ shared_places row u
shared_more row a u h =
    sum_by-le-sum_by (λ c. cond (place row c && place a c) 1 0) (λ c. cond (place row c && place u c) 1 0) (range_with_len 0 (length row * 64)) (λ c. true_in_both (place a c) (place u c) (place row c) (h c))

-- no more places are true in both than in the first
shared_in_first : (row u : List ℕ) → shared_places row u ≤ count_by (place row) (range_with_len 0 (length row * 64))
shared_in_first row u =
    sum_by-le-sum_by (λ c. cond (place row c && place u c) 1 0) (λ c. cond (place row c) 1 0) (range_with_len 0 (length row * 64)) (λ c. true_in_first (place u c) (place row c))

-- the row that a list names next is united with those before it
pub union_more : (rows : List (List ℕ)) (outer : List ℕ) (from to : ℕ) (row old new : List ℕ) → row ≡ entries_at rows (index_at outer to) → ((i : ℕ) → place new i ≡ (place old i || place row i)) → IsUnionOf rows outer from to old → IsUnionOf rows outer from (to + 1) new
union_more rows outer from to row old new is places before = λ p c low below named. elim (cases_eq p to) [
  | inl here ↦
      let P : ℕ → Type 0 = λ n. IsTrue (place (entries_at rows (index_at outer n)) c) in
      let Q : List ℕ → Type 0 = λ words. IsTrue (place words c) in
      places c ∙ or_right (place old c) (place row c) (subst Q (sym is) (subst P here named))
  | inr other ↦ places c ∙ or_left (place old c) (place row c) (before p c low (omega (arith, below, other)) named)
]

module _ (table : Table) (words : Flat ℕ) (are : AreWordsOf table words) where
  pub in_words : (i : ℕ) → i < length table.rows → i < length words.rows
  in_words i h = omega (arith, h, (seen_in table.columns words table are.seen).count)

  -- the numbers of shared places fit
  pub shared_fits : (union : List ℕ) (i : ℕ) → i < length table.rows → shared_places (entries_at words.rows i) union < 2 ^ 64
  shared_fits union i inside =
      omega (
        arith,
        shared_in_first (entries_at words.rows i) union,
        count_seen table.columns words table i (entries_at words.rows i) are.laid are.seen inside refl (are.wide i (in_words i inside)),
        ones-le (bits_of table.rows i),
        rectangular_in table.columns words table are.seen i inside,
        are.fits,
      )

  -- a ray that shares so many zeros with one of a group shares as many with their union
  pub union_shares : (outer among : List ℕ) (from to least p q : ℕ) (union : List ℕ) → IsUnionOf words.rows outer from to union → from ≤ p → p < to → index_at outer p < length table.rows → index_at among q < length table.rows → Shares table.rows (index_at outer p) among least q → SharesWords words.rows union among least q
  union_shares outer among from to least p q union is low below in_outer in_among shares =
      omega (
        arith,
        shares,
        both_turned (bits_of table.rows (index_at outer p)) (bits_of table.rows (index_at among q)),
        shared_seen table.columns words table (index_at among q) (index_at outer p) (entries_at words.rows (index_at among q)) (entries_at words.rows (index_at outer p)) are.laid are.seen in_among in_outer refl refl (are.wide (index_at among q) (in_words (index_at among q) in_among)),
        shared_more (entries_at words.rows (index_at among q)) (entries_at words.rows (index_at outer p)) union (λ c. is p c low below),
      )
