-- The first row of a list that shares enough places, by the words of the rows.
use Rattle.std.proofs.Common.{◌≡◌, ℕ, ◌^◌, ◌<◌, ◌≤◌, List, length, sym, ap, ◌∙◌, subst, get_or, arith}
use Rattle.sat_bits.specs.Searches.{row_words, IsFirstFrom, shared_by, SharesPlaces}
use Rattle.flat_rows.specs.Flat.{Flat, AreCells, HasOneWidth}
use Rattle.sat_matrix.specs.Tables.{Table, bits_of, conjunction, IsRectangular}
use Rattle.sat_matrix.specs.Counts.{ones}
use Rattle.sat_matrix.specs.Words.{IsTable}
use Rattle.sat_matrix.specs.Searches.{Shares}
use Rattle.sat_matrix.proofs.BitRows.{seen_bits, seen_in, row_is}
use Rattle.sat_matrix.proofs.Counting.{shared_seen, shared-le}

module _ (columns : ℕ) (words : Flat ℕ) (t : Table) (cells : List ℕ) (width : ℕ) (table : IsTable columns words) (wide : HasOneWidth words) (e : seen_bits columns words ≡ t) (are : AreCells words cells) (is : width ≡ words.width) where
  places_seen : (i j : ℕ) → i < length t.rows → j < length t.rows → shared_by cells width i j ≡ ones (conjunction (bits_of t.rows i) (bits_of t.rows j))
  places_seen i j in_i in_j =
      let s = seen_in columns words t e in
      let below : i < length words.rows = omega (arith, s.count, in_i) in
      let row = row_is words cells width i are is below in
      shared_seen columns words t i j (row_words cells width i) (row_words cells width j) table e in_i in_j row (row_is words cells width j are is (omega (arith, s.count, in_j))) (ap length row ∙ wide i below)

  pub places_fit : (i j : ℕ) → IsRectangular t → t.columns < 2 ^ 64 → i < length t.rows → j < length t.rows → shared_by cells width i j < 2 ^ 64
  places_fit i j rect fits in_i in_j =
      omega (arith, places_seen i j in_i in_j, shared-le (bits_of t.rows i) (bits_of t.rows j) (rect j in_j ∙ sym (rect i in_i)), rect i in_i, fits)

  pub next_seen : (i least from next : ℕ) (among : List ℕ) → i < length t.rows → ((q : ℕ) → q < length among → get_or among q 0 < length t.rows) → IsFirstFrom (SharesPlaces cells width i among least) from (length among) next → IsFirstFrom (Shares t.rows i among least) from (length among) next
  next_seen i least from next among in_i inside h = record {
    behind = h.behind;
    within = h.within;
    before = λ q a b s. h.before q a b (subst (λ (n : ℕ). least ≤ n) (sym (places_seen i (get_or among q 0) in_i (inside q (omega (arith, b, h.within))))) s);
    at = λ b. subst (λ (n : ℕ). least ≤ n) (places_seen i (get_or among next 0) in_i (inside next b)) (h.at b);
  }
