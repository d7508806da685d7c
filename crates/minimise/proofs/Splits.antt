-- The places of rows that are true at each place, and those of the others.
use Rattle.std.proofs.Common.{◌≡◌, ℕ, ◌+◌, ◌<◌, Bool, false, not, List, [], ◌∷◌, ◌++◌, length, map, slice_index_or, ℤ, refl, sym, ap, ◌∙◌, subst, arith, length-append}
use Rattle.std.specs.Prelude.{All, IsTrue, ◌↔◌}
use Rattle.std.specs.List.{range_with_len}
use Rattle.std.proofs.lemmas.List.{length-map, map-append, map-id}
use Rattle.std.proofs.lemmas.List.Elements.{All-from_get_or}
use Rattle.std.proofs.lemmas.List.FromFn.{length-range_with_len, get_or-range_with_len, map-range_with_len_more, fill_by_all}
use Rattle.flat_rows.specs.Flat.{marked}
use Rattle.flat_rows.proofs.Marked.{marked-map, marked-append}
use Rattle.row_core.specs.Lists.{Row, row_at, vectors}
use Rattle.row_core.proofs.RowListLemmas.{length-vectors, vector_at-vectors}
use Rattle.sat_matrix.specs.Tables.{bits_of}
use Rattle.sat_matrix.specs.Counts.{ones}
use Rattle.minimise.specs.Facets.{IsFull, AreSplit, AreUneven, AreRising}
use Rattle.minimise.proofs.FacetLemmas.{ComesFrom, comes_from, length-both, unmarked_uneven, uneven_among}
use Rattle.minimise.proofs.FullRows.{full_more}
use Rattle.minimise.proofs.KeptPlaces.{rising_marked}

-- ---- one row after another
-- the places before an index
pub record AreSplitBefore (rows : List (List Bool)) (n : ℕ) (full others : List ℕ) : Type 0 where
  pub marks : List Bool
  pub as_many : length marks ≡ n
  pub tells : (k : ℕ) → k < n → IsTrue (slice_index_or marks k false) ↔ IsFull (bits_of rows k)
  pub full_are : full ≡ marked marks (range_with_len 0 n)
  pub others_are : others ≡ marked (map not marks) (range_with_len 0 n)

pub split_none : (rows : List (List Bool)) (full others : List ℕ) → full ≡ [] → others ≡ [] → AreSplitBefore rows 0 full others
split_none rows full others e f = record { marks = []; as_many = refl; tells = λ k h. absurd (omega (arith, h)); full_are = e; others_are = f }

range_more : (n : ℕ) → range_with_len 0 (n + 1) ≡ range_with_len 0 n ++ n ∷ []
range_more n =
    let zero_more : 0 + n ≡ n = omega arith in
    sym (map-id (range_with_len 0 (n + 1))) ∙ map-range_with_len_more (λ (k : ℕ). k) 0 n n zero_more ∙ ap (λ (ks : List ℕ). ks ++ n ∷ []) (map-id (range_with_len 0 n))

marked_more : (marks : List Bool) (n : ℕ) (b : Bool) (old new : List ℕ) → length marks ≡ n → old ≡ marked marks (range_with_len 0 n) → new ≡ old ++ marked (b ∷ []) (n ∷ []) → new ≡ marked (marks ++ b ∷ []) (range_with_len 0 (n + 1))
marked_more marks n b old new size before is =
    is ∙ ap (λ (ks : List ℕ). ks ++ marked (b ∷ []) (n ∷ [])) before ∙ sym (marked-append marks (b ∷ []) (range_with_len 0 n) (n ∷ []) (size ∙ sym (length-range_with_len 0 n)))
    ∙ ap (λ (ks : List ℕ). marked (marks ++ b ∷ []) ks) (sym (range_more n))

pub split_more : (rows : List (List Bool)) (n : ℕ) (b : Bool) (full others new_full new_others : List ℕ) → (IsTrue b ↔ (ones (bits_of rows n) ≡ length (bits_of rows n))) → new_full ≡ full ++ marked (b ∷ []) (n ∷ []) → new_others ≡ others ++ marked (not b ∷ []) (n ∷ []) → AreSplitBefore rows n full others → AreSplitBefore rows (n + 1) new_full new_others
split_more rows n b full others new_full new_others test e f s = record {
  marks = s.marks ++ b ∷ [];
  as_many = length-append s.marks (b ∷ []) ∙ ap (λ (k : ℕ). k + 1) s.as_many;
  tells = full_more rows s.marks (s.marks ++ b ∷ []) n b refl s.as_many test s.tells;
  full_are = marked_more s.marks n b full new_full s.as_many s.full_are e;
  others_are = marked_more (map not s.marks) n (not b) others new_others (length-map s.marks not ∙ s.as_many) s.others_are f ∙ ap (λ (ms : List Bool). marked ms (range_with_len 0 (n + 1))) (sym (map-append not s.marks (b ∷ [])));
}

pub split_all : (rows : List (List Bool)) (n : ℕ) (full others : List ℕ) → n ≡ length rows → AreSplitBefore rows n full others → AreSplit rows full others
split_all rows n full others end s = record {
  marks = s.marks;
  tells = record { as_many = s.as_many ∙ end; tells = λ i h. s.tells i (omega (arith, h, end)) };
  full_are = s.full_are ∙ ap (λ (k : ℕ). marked s.marks (range_with_len 0 k)) (sym s.as_many);
  others_are = s.others_are ∙ ap (λ (k : ℕ). marked (map not s.marks) (range_with_len 0 k)) (sym s.as_many);
}

-- ---- all rows
module _ (table : List (List Bool)) (full others : List ℕ) (s : AreSplit table full others) where
  pub full_within : All (λ p. p < length table) full
  full_within =
      subst (λ (ps : List ℕ). All (λ p. p < length table) ps) (sym s.full_are) (All-from_get_or (λ p. p < length table) (marked s.marks range) 0 (λ k h.
      let c : ComesFrom s.marks range range 0 0 k = comes_from s.marks range range 0 0 k refl h in
      let at : c.index < length s.marks = omega (arith, c.below, length-range_with_len 0 (length s.marks)) in
      omega (arith, at, c.first, get_or-range_with_len 0 (length s.marks) c.index 0 at, s.tells.as_many)))
    where
      range : List ℕ
      range = range_with_len 0 (length s.marks)

  pub others_uneven : AreUneven table others
  others_uneven = subst (λ (ps : List ℕ). AreUneven table ps) (sym s.others_are) (record { uneven = unmarked_uneven table s.marks s.tells; each = λ i u. uneven_among table s.marks s.tells i u })

  pub others_rising : AreRising others
  others_rising = subst AreRising (sym s.others_are) (rising_marked (map not s.marks) 0 (length s.marks))

  -- the rows at the full places and those at the others are all
  pub split_size : length full + length others ≡ length table
  split_size =
      let range : List ℕ = range_with_len 0 (length s.marks) in
      let size : length s.marks ≡ length range = sym (length-range_with_len 0 (length s.marks)) in
      omega (arith, ap length s.full_are, ap length s.others_are, length-both s.marks range range size size, size, s.tells.as_many)

  -- the rows of a list at the full places are those that are marked
  pub full_rows : (rows : List Row) → length table ≡ length rows → map (row_at rows) full ≡ marked s.marks (vectors rows)
  full_rows rows size =
      ap (λ (ps : List ℕ). map (row_at rows) ps) s.full_are ∙ marked-map (row_at rows) s.marks (range_with_len 0 (length s.marks))
      ∙ ap (λ (vs : List (List ℤ)). marked s.marks vs) (sym (fill_by_all (row_at rows) (vectors rows) (length s.marks) [] (length-vectors rows ∙ sym size ∙ sym s.tells.as_many) (λ k h. vector_at-vectors rows k)))

-- the same full places
pub split_of : (table : List (List Bool)) (full others lent : List ℕ) → full ≡ lent → AreSplit table full others → AreSplit table lent others
split_of table full others lent e s = record { marks = s.marks; tells = s.tells; full_are = sym e ∙ s.full_are; others_are = s.others_are }
