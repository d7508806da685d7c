-- Copies of rows of words.
use Rattle.std.specs.Prelude.{All}
use Rattle.std.proofs.Common.{◌≡◌, ℕ, ◌+◌, ◌*◌, ◌/◌, ◌%◌, ◌<◌, ◌≤◌, ◌⊎◌, inl, inr, Bool, false, List, [], ◌∷◌, ◌++◌, length, get_or, map, replicate, refl, sym, ap, ◌∙◌, arith}
use Rattle.std.proofs.lemmas.Bool.{cases_lt}
use Rattle.std.proofs.lemmas.List.{ext_get_or, get_or_past, get_or-replicate, length-replicate, map-append}
use Rattle.std.proofs.lemmas.List.Elements.{All-map}
use Rattle.std.proofs.lemmas.List.FromFn.{get_or-map-range_with_len}
use Rattle.sat_bits.specs.Places.{place, bit_in}
use Rattle.flat_rows.specs.Flat.{Flat, entries_at, fitted}
use Rattle.flat_rows.proofs.Flat.{length-fitted}
use Rattle.sat_matrix.specs.Tables.{Table, bits_of}
use Rattle.sat_matrix.specs.Words.{bits_in, IsPadded, IsTable}
use Rattle.sat_matrix.proofs.BitRows.{seen_bits, seen_in, length-bits_in, bit_is, none_in_zeros, with_column, column_seen}

pub fitted_none : (width : ℕ) → fitted {X = ℕ} width 0 [] ≡ replicate width 0
fitted_none width =
    let none : List ℕ = [] in
    ext_get_or 0 (fitted width 0 none) (replicate width 0) (length-fitted width 0 none ∙ sym (length-replicate width 0))
    (λ k h. let l : k < width = omega (arith, h, length-fitted width 0 none) in
    get_or-map-range_with_len (λ i. get_or none i 0) 0 width k k 0 l (omega arith) ∙ sym (get_or-replicate width k 0 0 l))

place_within : (width c : ℕ) (row : List ℕ) → c / 64 < width → place (fitted width 0 row) c ≡ place row c
place_within width c row h = ap (λ (w : ℕ). bit_in w (c % 64)) (get_or-map-range_with_len (λ k. get_or row k 0) 0 width (c / 64) (c / 64) 0 h (omega arith))

place_past : (width c : ℕ) (row : List ℕ) → width ≤ c / 64 → place (fitted width 0 row) c ≡ false
place_past width c row h = ap (λ (w : ℕ). bit_in w (c % 64)) (get_or_past (fitted width 0 row) (c / 64) 0 (omega (arith, h, length-fitted width 0 row))) ∙ none_in_zeros 0 c

pub padded_fitted : (columns width : ℕ) (row : List ℕ) → IsPadded columns row → IsPadded columns (fitted width 0 row)
padded_fitted columns width row padded c past = by_order (cases_lt (c / 64) width)
  where
    by_order : (c / 64 < width) ⊎ (width ≤ c / 64) → place (fitted width 0 row) c ≡ false
    by_order (inl h) = place_within width c row h ∙ padded c past
    by_order (inr h) = place_past width c row h

bits_in_fitted : (columns width : ℕ) (row : List ℕ) → columns ≤ width * 64 → bits_in columns (fitted width 0 row) ≡ bits_in columns row
bits_in_fitted columns width row within =
    ext_get_or false (bits_in columns (fitted width 0 row)) (bits_in columns row) (length-bits_in columns (fitted width 0 row) ∙ sym (length-bits_in columns row))
    (λ k h. let l : k < columns = omega (arith, h, length-bits_in columns (fitted width 0 row)) in
    bit_is columns (fitted width 0 row) k l ∙ place_within width k row (omega (arith, l, within)) ∙ sym (bit_is columns row k l))

-- a copy of a row of another table with as many columns
pub copy_seen : (columns others : ℕ) (words new other : Flat ℕ) (t u : Table) (i : ℕ) → columns ≤ words.width * 64 → seen_bits columns words ≡ t → seen_bits others other ≡ u → u.columns ≡ t.columns → i < length u.rows → new.rows ≡ words.rows ++ fitted words.width 0 (entries_at other.rows i) ∷ []
    → map (bits_in columns) new.rows ≡ t.rows ++ bits_of u.rows i ∷ []
copy_seen columns others words new other t u i within e f same in_i rows =
    let s = seen_in columns words t e in
    let k = seen_in others other u f in
    let row : List ℕ = entries_at other.rows i in
    let as_many : columns ≡ others = omega (arith, s.wide, k.wide, same) in
    ap (λ (rs : List (List ℕ)). map (bits_in columns) rs) rows
    ∙ map-append (bits_in columns) words.rows (fitted words.width 0 row ∷ [])
    ∙ ap (λ (v : Table). v.rows ++ bits_in columns (fitted words.width 0 row) ∷ []) e
    ∙ ap (λ (r : List Bool). t.rows ++ r ∷ []) (bits_in_fitted columns words.width row within ∙ ap (λ (n : ℕ). bits_in n row) as_many ∙ sym (k.row i (omega (arith, k.count, in_i))))

-- ---- rows of more words
fitted_rows : (columns width : ℕ) (rows : List (List ℕ)) → columns ≤ width * 64 → map (bits_in columns) (map (fitted width 0) rows) ≡ map (bits_in columns) rows
fitted_rows columns width [] within = refl
fitted_rows columns width (x ∷ xs) within =
    ap (λ (r : List Bool). r ∷ map (bits_in columns) (map (fitted width 0) xs)) (bits_in_fitted columns width x within)
    ∙ ap (λ (rs : List (List Bool)). bits_in columns x ∷ rs) (fitted_rows columns width xs within)

pub wider_column : (columns : ℕ) (words new : Flat ℕ) (t : Table) → IsTable columns words → seen_bits columns words ≡ t → words.width < new.width → new.rows ≡ map (fitted new.width 0) words.rows → new.spare ≡ 0 → seen_bits (columns + 1) new ≡ with_column t
wider_column columns words new t table e wider rows none =
    column_seen columns words new t table e (ap (λ (rs : List (List ℕ)). map (bits_in (columns + 1)) rs) rows ∙ fitted_rows (columns + 1) new.width words.rows (omega (arith, wider, table.within))) none

pub all_fitted : (columns width : ℕ) (rows : List (List ℕ)) → All (IsPadded columns) rows → All (IsPadded (columns + 1)) (map (fitted width 0) rows)
all_fitted columns width rows padded = All-map (IsPadded (columns + 1)) (fitted width 0) rows (λ i d h c past. padded_fitted columns width (get_or rows i d) (padded i d h) c (omega (arith, past)))
