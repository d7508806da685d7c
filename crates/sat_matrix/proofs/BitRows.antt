-- Rows of truth values in rows of words.
use Rattle.std.proofs.Common.{◌≡◌, ◌≢◌, ◌↔◌, ℕ, suc, zero, ◌+◌, ◌*◌, ◌/◌, ◌%◌, ◌<◌, ◌≤◌, Bool, false, ◌&&◌, bit_and, IsTrue, List, [], ◌∷◌, ◌++◌, length, get_or, set, map, replicate, nat_eq, refl, sym, ap, inl, inr, ◌⊎◌, subst, ◌∙◌, arith}
use Rattle.std.specs.Prelude.{All}
use Rattle.std.proofs.lemmas.List.{ext_get_or, get_or-map, length-map, map-append, map-set, length-set, get_or-set_same, get_or-set_other, length-replicate, get_or-replicate}
use Rattle.std.proofs.lemmas.Nat.Bits.{bit_at-zero}
use Rattle.std.proofs.lemmas.List.FromFn.{length-map-range_with_len, get_or-map-range_with_len, map-range_with_len_more}
use Rattle.std.proofs.lemmas.List.Elements.{All-head, All-tail}
use Rattle.std.proofs.lemmas.Bool.{cases_lt, cases_eq}
use Rattle.sat_bits.specs.Places.{place, bit_in, IsSubsetOfAnd}
use Rattle.sat_bits.specs.Searches.{row_words, IsThirdRow, HasThirdRow, HasCoveringRow, IsWithinNamed, IsWithinSome as AreWordsWithinSome}
use Rattle.sat_bits.proofs.PlaceLemmas.{places_and}
use Rattle.flat_rows.proofs.WordRows.{length-and_words}
use Rattle.flat_rows.specs.Flat.{Flat, entries_at, AreCells, HasOneWidth, marked}
use Rattle.flat_rows.proofs.Flat.{row_end, row_of_cells}
pub use Rattle.flat_rows.proofs.Marked.{marked-map, all_marked}
use Rattle.sat_matrix.specs.Tables.{Table, bits_of, bit_at, conjunction, Covers, IsWithin, IsThird, HasThird, IsCoveredAmong, IsWithinSome}
use Rattle.flat_rows.specs.Words.{and_words}
use Rattle.sat_matrix.specs.Words.{bits_in, IsPadded, IsTable, IsPlaceSet}

pub length-conjunction : (xs ys : List Bool) → length xs ≡ length ys → length (conjunction xs ys) ≡ length xs
length-conjunction [] ys e = refl
length-conjunction (x ∷ xs) [] e = absurd (omega (arith, e))
length-conjunction (x ∷ xs) (y ∷ ys) e = ap (λ n. suc n) (length-conjunction xs ys (omega (arith, e)))

pub Covers_along : (a b c a' b' c' : List Bool) → a' ≡ a → b' ≡ b → c' ≡ c → Covers a b c → Covers a' b' c'
Covers_along a b c a' b' c' p q r h = let P : List Bool → Type 0 = λ x. Covers x b' c' in subst P (sym p) (let Q : List Bool → Type 0 = λ y. Covers a y c' in subst Q (sym q) (let R : List Bool → Type 0 = λ z. Covers a b z in subst R (sym r) h))

pub length-bits_in : (columns : ℕ) (words : List ℕ) → length (bits_in columns words) ≡ columns
length-bits_in columns words = length-map-range_with_len (place words) 0 columns

pub bit_is : (columns : ℕ) (words : List ℕ) (j : ℕ) → j < columns → get_or (bits_in columns words) j false ≡ place words j
bit_is columns words j h = get_or-map-range_with_len (place words) 0 columns j j false h (omega arith)

pub bits_of-map : (columns : ℕ) (rows : List (List ℕ)) (i : ℕ) → i < length rows → bits_of (map (bits_in columns) rows) i ≡ bits_in columns (entries_at rows i)
bits_of-map columns rows i h = get_or-map (bits_in columns) rows i [] [] h

-- the table that is seen in rows of words
abbrev pub seen_bits : ℕ → Flat ℕ → Table
seen_bits columns words = record { columns = columns; rows = map (bits_in columns) words.rows; spare = words.spare }

pub record IsSeenIn (columns : ℕ) (words : Flat ℕ) (t : Table) : Type 0 where
  pub count : length t.rows ≡ length words.rows
  pub wide : t.columns ≡ columns
  pub spare : t.spare ≡ words.spare
  pub row : (i : ℕ) → i < length words.rows → bits_of t.rows i ≡ bits_in columns (entries_at words.rows i)

pub seen_in : (columns : ℕ) (words : Flat ℕ) (t : Table) → seen_bits columns words ≡ t → IsSeenIn columns words t
seen_in columns words t e = record {
  count = ap (λ (u : Table). length u.rows) (sym e) ∙ length-map words.rows (bits_in columns);
  wide = ap (λ (u : Table). u.columns) (sym e);
  spare = ap (λ (u : Table). u.spare) (sym e);
  row = λ i h. ap (λ (u : Table). bits_of u.rows i) (sym e) ∙ bits_of-map columns words.rows i h;
}

pub rectangular_in : (columns : ℕ) (words : Flat ℕ) (t : Table) → seen_bits columns words ≡ t → (i : ℕ) → i < length t.rows → length (bits_of t.rows i) ≡ t.columns
rectangular_in columns words t e i h =
    let k = seen_in columns words t e in
    ap length (k.row i (omega (arith, k.count, h))) ∙ length-bits_in columns (entries_at words.rows i) ∙ sym k.wide

pub bit_seen : (columns : ℕ) (words : Flat ℕ) (t : Table) (i c : ℕ) → seen_bits columns words ≡ t → i < length t.rows → c < t.columns → place (entries_at words.rows i) c ≡ bit_at t.rows i c
bit_seen columns words t i c e in_i in_c =
    let k = seen_in columns words t e in
    sym (ap (λ (r : List Bool). get_or r c false) (k.row i (omega (arith, k.count, in_i))) ∙ bit_is columns (entries_at words.rows i) c (omega (arith, k.wide, in_c)))

-- ---- rows that cover
no_truth : IsTrue false → ⊥
no_truth h = grind (arith, h)

-- a place that is true is within the columns
pub true_within : (columns : ℕ) (words : Flat ℕ) (t : Table) (r i : ℕ) → IsTable columns words → seen_bits columns words ≡ t → r < length t.rows → IsTrue (place (entries_at words.rows r) i) → i < t.columns
true_within columns words t r i table e in_r holds =
    let k = seen_in columns words t e in
    let below : r < length words.rows = omega (arith, k.count, in_r) in
    elim (cases_lt i columns) [
      | inl l ↦ omega (arith, k.wide, l)
      | inr past ↦ absurd (no_truth (subst IsTrue (table.padded r [] below i past) holds))
    ]

covers_to : (columns : ℕ) (a b c : List ℕ) → IsSubsetOfAnd a b c → Covers (bits_in columns a) (bits_in columns b) (bits_in columns c)
covers_to columns a b c f j h p q =
    let l : j < columns = omega (arith, h, length-bits_in columns a) in
    subst IsTrue (sym (bit_is columns c j l)) (f j (subst IsTrue (bit_is columns a j l) p) (subst IsTrue (bit_is columns b j l) q))

covers_from : (columns : ℕ) (a b c : List ℕ) → IsPadded columns a → Covers (bits_in columns a) (bits_in columns b) (bits_in columns c) → IsSubsetOfAnd a b c
covers_from columns a b c padded f i p q = by_order (cases_lt i columns)
  where
    by_order : (i < columns) ⊎ (columns ≤ i) → IsTrue (place c i)
    by_order (inl l) = subst IsTrue (bit_is columns c i l) (f i (omega (arith, l, length-bits_in columns a)) (subst IsTrue (sym (bit_is columns a i l)) p) (subst IsTrue (sym (bit_is columns b i l)) q))
    by_order (inr past) = absurd (no_truth (subst IsTrue (padded i past) p))

pub covers_seen : (columns : ℕ) (words : Flat ℕ) (t : Table) (i j k : ℕ) (a b c : List ℕ) (S : Type 0) → IsTable columns words → seen_bits columns words ≡ t → i < length t.rows → j < length t.rows → k < length t.rows
    → a ≡ entries_at words.rows i → b ≡ entries_at words.rows j → c ≡ entries_at words.rows k → (S → IsSubsetOfAnd a b c) × (IsSubsetOfAnd a b c → S)
    → (S → Covers (bits_of t.rows i) (bits_of t.rows j) (bits_of t.rows k)) × (Covers (bits_of t.rows i) (bits_of t.rows j) (bits_of t.rows k) → S)
covers_seen columns words t i j k a b c S table e in_i in_j in_k ea eb ec r =
    let s = seen_in columns words t e in
    let below : i < length words.rows = omega (arith, s.count, in_i) in
    let ra : bits_of t.rows i ≡ bits_in columns a = s.row i below ∙ ap (bits_in columns) (sym ea) in
    let rb : bits_of t.rows j ≡ bits_in columns b = s.row j (omega (arith, s.count, in_j)) ∙ ap (bits_in columns) (sym eb) in
    let rc : bits_of t.rows k ≡ bits_in columns c = s.row k (omega (arith, s.count, in_k)) ∙ ap (bits_in columns) (sym ec) in
    let padded : IsPadded columns a = subst (λ (w : List ℕ). IsPadded columns w) (sym ea) (table.padded i [] below) in (
      λ h. Covers_along (bits_in columns a) (bits_in columns b) (bits_in columns c) (bits_of t.rows i) (bits_of t.rows j) (bits_of t.rows k) ra rb rc (covers_to columns a b c (r.0 h)),
      λ h. r.1 (covers_from columns a b c padded (Covers_along (bits_of t.rows i) (bits_of t.rows j) (bits_of t.rows k) (bits_in columns a) (bits_in columns b) (bits_in columns c) (sym ra) (sym rb) (sym rc) h)),
    )

-- the words of a row in the cells are the row
pub row_is : (words : Flat ℕ) (cells : List ℕ) (width i : ℕ) → AreCells words cells → width ≡ words.width → i < length words.rows → row_words cells width i ≡ entries_at words.rows i
row_is words cells width i are is below = ap (λ (w : ℕ). row_words cells w i) is ∙ row_of_cells words cells i are below

-- and lie within the cells
pub row_lies : (columns : ℕ) (words : Flat ℕ) (t : Table) (cells : List ℕ) (width i : ℕ) → seen_bits columns words ≡ t → AreCells words cells → width ≡ words.width → i < length t.rows → i * width + width ≤ length cells
row_lies columns words t cells width i e are is in_i =
    let below : i < length words.rows = omega (arith, (seen_in columns words t e).count, in_i) in
    omega (arith, row_end width (length words.rows) i below, are.taken, ap (λ (w : ℕ). length words.rows * w) is)

-- rows of words in the cells cover as those of truth values do
module _ (columns : ℕ) (words : Flat ℕ) (t : Table) (cells : List ℕ) (width : ℕ) (table : IsTable columns words) (e : seen_bits columns words ≡ t) (are : AreCells words cells) (is : width ≡ words.width) where
  covers_in : (i j k : ℕ) → i < length t.rows → j < length t.rows → k < length t.rows
      → IsSubsetOfAnd (row_words cells width i) (row_words cells width j) (row_words cells width k) ↔ Covers (bits_of t.rows i) (bits_of t.rows j) (bits_of t.rows k)
  covers_in i j k in_i in_j in_k =
      let s = seen_in columns words t e in
      let row = λ (n : ℕ) (h : n < length t.rows). row_is words cells width n are is (omega (arith, s.count, h)) in
      covers_seen columns words t i j k (row_words cells width i) (row_words cells width j) (row_words cells width k) (IsSubsetOfAnd (row_words cells width i) (row_words cells width j) (row_words cells width k))
      table e in_i in_j in_k (row i in_i) (row j in_j) (row k in_k) (λ x. x, λ x. x)

  -- row i is within a row that the list names in bits where it is in words
  within_named : (i : ℕ) (among : List ℕ) → i < length t.rows → ((q : ℕ) → q < length among → get_or among q 0 < length t.rows) → (q : ℕ) → q < length among
      → IsWithinNamed cells width i among q ↔ IsWithin (bits_of t.rows i) (bits_of t.rows (get_or among q 0))
  within_named i among in_i within q h = covers_in i i (get_or among q 0) in_i in_i (within q h)

  pub covering_seen : (i : ℕ) (among : List ℕ) (S : Type 0) → i < length t.rows → ((q : ℕ) → q < length among → get_or among q 0 < length t.rows) → S ↔ HasCoveringRow cells width i among → S ↔ IsCoveredAmong t.rows i among
  covering_seen i among S in_i within r = (λ h. to (r.0 h), λ h. r.1 (from h))
    where
      to : HasCoveringRow cells width i among → IsCoveredAmong t.rows i among
      to h = (h.0, h.1, h.2.0, (within_named i among in_i within h.0 h.1).0 h.2.1)

      from : IsCoveredAmong t.rows i among → HasCoveringRow cells width i among
      from h = (h.0, h.1, (h.2, (within_named i among in_i within h.0 h.1).1 h.3))

  pub within_some_seen : (i : ℕ) (among : List ℕ) (S : Type 0) → i < length t.rows → ((q : ℕ) → q < length among → get_or among q 0 < length t.rows) → S ↔ AreWordsWithinSome cells width i among → S ↔ IsWithinSome t.rows i among
  within_some_seen i among S in_i within r = (λ h. to (r.0 h), λ h. r.1 (from h))
    where
      to : AreWordsWithinSome cells width i among → IsWithinSome t.rows i among
      to h = (h.0, h.1, (within_named i among in_i within h.0 h.1).0 h.2)

      from : IsWithinSome t.rows i among → AreWordsWithinSome cells width i among
      from h = (h.0, h.1, (within_named i among in_i within h.0 h.1).1 h.2)

  -- a third row of words is one of truth values
  pub third_seen : (rows i j : ℕ) (S : Type 0) → rows ≡ length words.rows → i < length t.rows → j < length t.rows → S ↔ HasThirdRow cells width rows i j → S ↔ HasThird t i j
  third_seen rows i j S count in_i in_j r = (λ h. let x = r.0 h in (x.0, to x.0 x.1), λ h. r.1 (h.0, from h.0 h.1))
    where
      to : (k : ℕ) → IsThirdRow cells width rows i j k → IsThird t i j k
      to k h =
          let in_k : k < length t.rows = omega (arith, (seen_in columns words t e).count, count, h.row) in
          record { row = in_k; not_first = h.not_first; not_second = h.not_second; covers = (covers_in i j k in_i in_j in_k).0 h.covers }

      from : (k : ℕ) → IsThird t i j k → IsThirdRow cells width rows i j k
      from k h =
          record { row = omega (arith, (seen_in columns words t e).count, count, h.row); not_first = h.not_first; not_second = h.not_second; covers = (covers_in i j k in_i in_j h.row).1 h.covers }

-- ---- one place
pub place_set : (words : List ℕ) (c word : ℕ) (bit : Bool) → c / 64 < length words → bit_in word (c % 64) ≡ bit → ((k : ℕ) → k < 64 → k ≢ c % 64 → bit_in word k ≡ bit_in (get_or words (c / 64) 0) k) → IsPlaceSet c bit words (set words (c / 64) word)
place_set words c word bit h same others = record {
  width = length-set words (c / 64) word;
  same = ap (λ (w : ℕ). bit_in w (c % 64)) (get_or-set_same words (c / 64) word 0 h) ∙ same;
  others = λ k other.
      elim (cases_eq (k / 64) (c / 64)) as (λ _. place (set words (c / 64) word) k ≡ place words k) [
        | inl e ↦
            let apart : k % 64 ≢ c % 64 = λ r. other (let q : k ≡ c = omega (arith, e, r) in q) in
            let inside : k % 64 < 64 = omega arith in
            ap (λ (q : ℕ). bit_in (get_or (set words (c / 64) word) q 0) (k % 64)) e
            ∙ ap (λ (w : ℕ). bit_in w (k % 64)) (get_or-set_same words (c / 64) word 0 h)
            ∙ others (k % 64) inside apart
            ∙ ap (λ (q : ℕ). bit_in (get_or words q 0) (k % 64)) (sym e)
        | inr d ↦ ap (λ (w : ℕ). bit_in w (k % 64)) (get_or-set_other words (c / 64) (k / 64) word 0 d)
      ];
}

pub bits_in_set : (columns c : ℕ) (bit : Bool) (old new : List ℕ) → c < columns → IsPlaceSet c bit old new → bits_in columns new ≡ set (bits_in columns old) c bit
bits_in_set columns c bit old new h p =
    ext_get_or false (bits_in columns new) (set (bits_in columns old) c bit)
    (length-bits_in columns new ∙ sym (length-set (bits_in columns old) c bit ∙ length-bits_in columns old))
    (λ k below.
    let l : k < columns = omega (arith, below, length-bits_in columns new) in
    bit_is columns new k l ∙
    elim (cases_eq k c) as (λ _. place new k ≡ get_or (set (bits_in columns old) c bit) k false) [
      | inl e ↦ ap (place new) e ∙ p.same ∙ sym (ap (λ (q : ℕ). get_or (set (bits_in columns old) c bit) q false) e ∙ get_or-set_same (bits_in columns old) c bit false (omega (arith, h, length-bits_in columns old)))
      | inr d ↦ p.others k d ∙ sym (bit_is columns old k l) ∙ sym (get_or-set_other (bits_in columns old) c k bit false d)
    ])

pub padded_set : (columns c : ℕ) (bit : Bool) (old new : List ℕ) → c < columns → IsPlaceSet c bit old new → IsPadded columns old → IsPadded columns new
padded_set columns c bit old new h p padded k past = p.others k (λ e. absurd (omega (arith, e, h, past))) ∙ padded k past

pub set_in : (columns : ℕ) (words : Flat ℕ) (t : Table) (i c : ℕ) (bit : Bool) (row : List ℕ) → seen_bits columns words ≡ t → i < length t.rows → c < t.columns → IsPlaceSet c bit (entries_at words.rows i) row
    → seen_bits columns (record words { rows = set words.rows i row }) ≡ record t { rows = set t.rows i (set (bits_of t.rows i) c bit) }
set_in columns words t i c bit row e in_i in_c p =
    let s = seen_in columns words t e in
    let below : i < length words.rows = omega (arith, s.count, in_i) in
    let make : List (List Bool) → Table = λ rs. record { columns = columns; rows = rs; spare = words.spare } in
    let P : Table → Type 0 = λ u. seen_bits columns (record words { rows = set words.rows i row }) ≡ record u { rows = set u.rows i (set (bits_of u.rows i) c bit) } in
    subst P e (ap make (map-set (bits_in columns) words.rows i row
    ∙ ap (λ (r : List Bool). set (map (bits_in columns) words.rows) i r) (bits_in_set columns c bit (entries_at words.rows i) row (omega (arith, s.wide, in_c)) p ∙ ap (λ (r : List Bool). set r c bit) (sym (bits_of-map columns words.rows i below)))))

-- ---- rows that are kept
pub kept_seen : (columns : ℕ) (words new : Flat ℕ) (t : Table) (keep : List Bool) → seen_bits columns words ≡ t → new.rows ≡ marked keep words.rows → map (bits_in columns) new.rows ≡ marked keep t.rows
kept_seen columns words new t keep e rows =
    ap (λ (rs : List (List ℕ)). map (bits_in columns) rs) rows ∙ marked-map (bits_in columns) keep words.rows ∙ ap (λ (u : Table). marked keep u.rows) e

-- ---- conjunctions
and_word : (a b : List ℕ) (k : ℕ) → length a ≡ length b → k < length a → get_or (and_words a b) k 0 ≡ bit_and (get_or a k 0) (get_or b k 0)
and_word [] b k e h = absurd (omega (arith, h))
and_word (x ∷ a) [] k e h = absurd (omega (arith, e))
and_word (x ∷ a) (y ∷ b) zero e h = refl
and_word (x ∷ a) (y ∷ b) (suc k) e h = and_word a b k (omega (arith, e)) (omega (arith, h))

and_place : (a b : List ℕ) (i : ℕ) → length a ≡ length b → place (and_words a b) i ≡ (place a i && place b i)
and_place a b i e =
    let l : length (and_words a b) ≡ length a = length-and_words a b e in
    places_and a b (and_words a b) (sym l) (sym e ∙ sym l) (λ k h. and_word a b k e (omega (arith, h, l))) i

conjunction_at : (xs ys : List Bool) (k : ℕ) → length xs ≡ length ys → k < length xs → get_or (conjunction xs ys) k false ≡ (get_or xs k false && get_or ys k false)
conjunction_at [] ys k e h = absurd (omega (arith, h))
conjunction_at (x ∷ xs) [] k e h = absurd (omega (arith, e))
conjunction_at (x ∷ xs) (y ∷ ys) zero e h = refl
conjunction_at (x ∷ xs) (y ∷ ys) (suc k) e h = conjunction_at xs ys k (omega (arith, e)) (omega (arith, h))

pub bits_in_and : (columns : ℕ) (a b : List ℕ) → length a ≡ length b → bits_in columns (and_words a b) ≡ conjunction (bits_in columns a) (bits_in columns b)
bits_in_and columns a b e =
    let same : length (bits_in columns a) ≡ length (bits_in columns b) = length-bits_in columns a ∙ sym (length-bits_in columns b) in
    ext_get_or false (bits_in columns (and_words a b)) (conjunction (bits_in columns a) (bits_in columns b))
    (length-bits_in columns (and_words a b) ∙ sym (length-conjunction (bits_in columns a) (bits_in columns b) same ∙ length-bits_in columns a))
    (λ k h.
    let l : k < columns = omega (arith, h, length-bits_in columns (and_words a b)) in
    bit_is columns (and_words a b) k l ∙ and_place a b k e
    ∙ ap (λ (x : Bool). x && place b k) (sym (bit_is columns a k l)) ∙ ap (λ (y : Bool). get_or (bits_in columns a) k false && y) (sym (bit_is columns b k l))
    ∙ sym (conjunction_at (bits_in columns a) (bits_in columns b) k same (omega (arith, l, length-bits_in columns a))))

pub padded_and : (columns : ℕ) (a b : List ℕ) → length a ≡ length b → IsPadded columns a → IsPadded columns (and_words a b)
padded_and columns a b e padded c h = and_place a b c e ∙ ap (λ (x : Bool). x && place b c) (padded c h)

pub and_seen : (columns : ℕ) (words new : Flat ℕ) (t : Table) (i j : ℕ) → HasOneWidth words → seen_bits columns words ≡ t → i < length t.rows → j < length t.rows → new.rows ≡ words.rows ++ and_words (entries_at words.rows i) (entries_at words.rows j) ∷ []
    → map (bits_in columns) new.rows ≡ t.rows ++ conjunction (bits_of t.rows i) (bits_of t.rows j) ∷ []
and_seen columns words new t i j rect e in_i in_j rows =
    let s = seen_in columns words t e in
    let below_i : i < length words.rows = omega (arith, s.count, in_i) in
    let below_j : j < length words.rows = omega (arith, s.count, in_j) in
    let a : List ℕ = entries_at words.rows i in
    let b : List ℕ = entries_at words.rows j in
    ap (λ (rs : List (List ℕ)). map (bits_in columns) rs) rows
    ∙ map-append (bits_in columns) words.rows (and_words a b ∷ [])
    ∙ ap (λ (u : Table). u.rows ++ bits_in columns (and_words a b) ∷ []) e
    ∙ ap (λ (r : List Bool). t.rows ++ r ∷ []) (bits_in_and columns a b (rect i below_i ∙ sym (rect j below_j)))
    ∙ ap (λ (r : List Bool). t.rows ++ conjunction r (bits_in columns b) ∷ []) (sym (s.row i below_i))
    ∙ ap (λ (r : List Bool). t.rows ++ conjunction (bits_of t.rows i) r ∷ []) (sym (s.row j below_j))

-- ---- whole rows
no_words : (z n k : ℕ) → get_or (replicate n z) k z ≡ z
no_words z zero k = refl
no_words z (suc n) zero = refl
no_words z (suc n) (suc k) = no_words z n k

none_in_zero : (j : ℕ) → bit_in 0 j ≡ false
none_in_zero j = ap (λ (n : ℕ). nat_eq n 1) (bit_at-zero j)

pub none_in_zeros : (n c : ℕ) → place (replicate n 0) c ≡ false
none_in_zeros n c = ap (λ (w : ℕ). bit_in w (c % 64)) (no_words 0 n (c / 64)) ∙ none_in_zero (c % 64)

pub bits_in_zeros : (columns n : ℕ) → bits_in columns (replicate n 0) ≡ replicate columns false
bits_in_zeros columns n =
    ext_get_or false (bits_in columns (replicate n 0)) (replicate columns false) (length-bits_in columns (replicate n 0) ∙ sym (length-replicate columns false))
    (λ k h. let l : k < columns = omega (arith, h, length-bits_in columns (replicate n 0)) in
    bit_is columns (replicate n 0) k l ∙ none_in_zeros n k ∙ sym (get_or-replicate columns k false false l))

pub zero_rows : (columns width n : ℕ) → map (bits_in columns) (replicate n (replicate width 0)) ≡ replicate n (replicate columns false)
zero_rows columns width zero = refl
zero_rows columns width (suc n) =
    ap (λ (r : List Bool). r ∷ map (bits_in columns) (replicate n (replicate width 0))) (bits_in_zeros columns width)
    ∙ ap (λ (rs : List (List Bool)). replicate columns false ∷ rs) (zero_rows columns width n)

pub false_seen : (columns n : ℕ) (words new : Flat ℕ) (t : Table) → seen_bits columns words ≡ t → new.rows ≡ words.rows ++ replicate n 0 ∷ [] → map (bits_in columns) new.rows ≡ t.rows ++ replicate t.columns false ∷ []
false_seen columns n words new t e rows =
    ap (λ (rs : List (List ℕ)). map (bits_in columns) rs) rows
    ∙ map-append (bits_in columns) words.rows (replicate n 0 ∷ [])
    ∙ ap (λ (r : List Bool). map (bits_in columns) words.rows ++ r ∷ []) (bits_in_zeros columns n)
    ∙ ap (λ (u : Table). u.rows ++ replicate u.columns false ∷ []) e

-- ---- a column more
longer_row : (columns : ℕ) (row : List ℕ) → IsPadded columns row → bits_in (columns + 1) row ≡ bits_in columns row ++ false ∷ []
longer_row columns row padded =
    map-range_with_len_more (place row) 0 columns columns (omega arith)
    ∙ ap (λ (b : Bool). bits_in columns row ++ b ∷ []) (padded columns (omega arith))

-- padded rows have one column of false more
longer_rows : (columns : ℕ) (rows : List (List ℕ)) → All (IsPadded columns) rows → map (bits_in (columns + 1)) rows ≡ map (λ (row : List Bool). row ++ false ∷ []) (map (bits_in columns) rows)
longer_rows columns [] padded = refl
longer_rows columns (x ∷ xs) padded =
    ap (λ (r : List Bool). r ∷ map (bits_in (columns + 1)) xs) (longer_row columns x (All-head (IsPadded columns) x xs padded))
    ∙ ap (λ (rs : List (List Bool)). (bits_in columns x ++ false ∷ []) ∷ rs) (longer_rows columns xs (All-tail (IsPadded columns) x xs padded))

-- the table with a column of false more
abbrev pub with_column : Table → Table
with_column t = record { columns = t.columns + 1; rows = map (λ (row : List Bool). row ++ false ∷ []) t.rows; spare = 0 }

pub column_seen : (columns : ℕ) (words new : Flat ℕ) (t : Table) → IsTable columns words → seen_bits columns words ≡ t → map (bits_in (columns + 1)) new.rows ≡ map (bits_in (columns + 1)) words.rows → new.spare ≡ 0 → seen_bits (columns + 1) new ≡ with_column t
column_seen columns words new t table e rows none =
    let make : List (List Bool) → ℕ → Table = λ rs n. record { columns = columns + 1; rows = rs; spare = n } in
    ap (λ (rs : List (List Bool)). make rs new.spare) (rows ∙ longer_rows columns words.rows table.padded)
    ∙ ap (λ (n : ℕ). make (map (λ (row : List Bool). row ++ false ∷ []) (map (bits_in columns) words.rows)) n) none
    ∙ ap with_column e
