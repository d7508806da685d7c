-- Rows of truth values whose words are written in one list of cells.
use Rattle.std.specs.Ordering.{int_eq}
use Rattle.std.proofs.Common.{◌≡◌, ◌≢◌, ◌⊎◌, inl, inr, ℕ, ◌+◌, ◌*◌, ◌-◌, ◌/◌, ◌%◌, ◌<◌, ◌≤◌, Bool, true, false, IsTrue, List, [], ◌++◌, length, get_or, set, drop, map, replicate, ℤ, pos, refl, sym, ap, subst, ◌∙◌, arith}
use Rattle.std.proofs.lemmas.Bool.{cases_lt, cases_eq}
use Rattle.std.proofs.lemmas.List.{ext_get_or, get_or-take, get_or-drop, get_or_past, get_or_append_left, get_or-append-add, get_or-set_same, get_or-set_other, length-set, length-map, length-append, length-drop, length-replicate, get_or-replicate}
use Rattle.std.proofs.lemmas.List.FromFn.{get_or-map-range_with_len}
use Rattle.flat_rows.specs.Flat.{Flat, entries_at, rows_of, window, with_cells, AreCells}
use Rattle.flat_rows.proofs.Flat.{length-rows_of, length-window, entries_at-rows_of, row_end, row_of_cells, with_cells_is}
use Rattle.sat_bits.specs.Places.{place, bit_in}
use Rattle.sat_bits.specs.Cells.{cell_place, IsMarked, IsZeroColumn, IsFrontFilled, IsWrittenBehind}
use Rattle.sat_matrix.specs.Tables.{Table, bits_of, bit_at}
use Rattle.sat_matrix.specs.Columns.{IsColumnMarked, HasLastZeros}
use Rattle.sat_matrix.specs.Words.{bits_in, IsPadded, IsTable, IsPlaceSet}
use Rattle.sat_matrix.proofs.BitRows.{seen_bits, length-bits_in, bit_is, bits_of-map, bits_in_set, none_in_zeros, seen_in}

-- a place of a row is the place of the cells
window_place : (cells : List ℕ) (w i c : ℕ) → c / 64 < w → place (window (i * w) w cells) c ≡ cell_place cells w i c
window_place cells w i c h = ap (λ (v : ℕ). bit_in v (c % 64)) (get_or-take w (drop (i * w) cells) (c / 64) 0 h ∙ get_or-drop (i * w) cells (c / 64) 0)

-- no place past the words of a row is true
place_past : (row : List ℕ) (c : ℕ) → length row * 64 ≤ c → place row c ≡ false
place_past row c past = ap (λ (v : ℕ). bit_in v (c % 64)) (get_or_past row (c / 64) 0 (omega (arith, past))) ∙ none_in_zeros 0 c

no_truth : (b : Bool) → b ≡ false → IsTrue b → ⊥
no_truth b e t = let f : false ≡ true = sym e ∙ t in grind (arith, f)

-- the cells of rows were written
module _ (columns : ℕ) (words : Flat ℕ) (cells ws : List ℕ) (table : IsTable columns words) (are : AreCells words cells) (long : length ws ≡ length cells) where
  abbrev w : ℕ
  w = words.width

  abbrev n : ℕ
  n = length words.rows

  abbrev new : Flat ℕ
  new = with_cells words ws

  pub changed : new ≡ record words { rows = rows_of w n ws }
  changed = with_cells_is words cells ws are.same long

  row_at_is : (i : ℕ) → i < n → entries_at (rows_of w n ws) i ≡ window (i * w) w ws
  row_at_is i h = entries_at-rows_of w n i ws h

  size : (i : ℕ) → i < n → length (window (i * w) w ws) ≡ w
  size i h = length-window (i * w) w ws (omega (arith, long, are.taken, row_end w n i h))

  old_size : (i : ℕ) → i < n → length (entries_at words.rows i) ≡ w
  old_size i h = ap length (sym (row_of_cells words cells i are h)) ∙ length-window (i * w) w cells (omega (arith, are.taken, row_end w n i h))

  old_place : (i c : ℕ) → i < n → c < w * 64 → place (entries_at words.rows i) c ≡ cell_place cells w i c
  old_place i c h l = ap (λ (r : List ℕ). place r c) (sym (row_of_cells words cells i are h)) ∙ window_place cells w i c (omega (arith, l))

  new_place : (i c : ℕ) → c < w * 64 → place (window (i * w) w ws) c ≡ cell_place ws w i c
  new_place i c l = window_place ws w i c (omega (arith, l))

  -- where no place past the columns is written, none is true
  abbrev pub AreKeptPast : Type 0
  AreKeptPast = (i c : ℕ) → c < w * 64 → columns ≤ c → cell_place ws w i c ≡ cell_place cells w i c

  padded_row : AreKeptPast → (i : ℕ) → i < n → IsPadded columns (window (i * w) w ws)
  padded_row kept i h c past = elim (cases_lt c (w * 64)) as (λ _. place (window (i * w) w ws) c ≡ false) [
    | inl l ↦ new_place i c l ∙ kept i c l past ∙ sym (old_place i c h l) ∙ table.padded i [] h c past
    | inr over ↦ place_past (window (i * w) w ws) c (omega (arith, over, size i h))
  ]

  pub still_table : AreKeptPast → IsTable columns new
  still_table kept = subst (IsTable columns) (sym changed) (record {
    within = table.within;
    padded = λ i d h.
        let below : i < n = omega (arith, h, length-rows_of w n ws) in
        subst (IsPadded columns) (sym (get_or-map-range_with_len (λ k. window (k * w) w ws) 0 n i i d below (omega arith))) (padded_row kept i below);
  })

  -- ---- the rows that are seen
  abbrev rows : List (List Bool)
  rows = map (bits_in columns) (rows_of w n ws)

  abbrev before : List (List Bool)
  before = map (bits_in columns) words.rows

  count : length rows ≡ n
  count = length-map (rows_of w n ws) (bits_in columns) ∙ length-rows_of w n ws

  count_before : length before ≡ n
  count_before = length-map words.rows (bits_in columns)

  seen : (i : ℕ) → i < n → bits_of rows i ≡ bits_in columns (window (i * w) w ws)
  seen i h = bits_of-map columns (rows_of w n ws) i (omega (arith, h, length-rows_of w n ws)) ∙ ap (bits_in columns) (row_at_is i h)

  seen_before : (i : ℕ) → i < n → bits_of before i ≡ bits_in columns (entries_at words.rows i)
  seen_before i h = bits_of-map columns words.rows i h

  bit : (i j : ℕ) → i < n → j < columns → bit_at rows i j ≡ cell_place ws w i j
  bit i j h l = ap (λ (r : List Bool). get_or r j false) (seen i h) ∙ bit_is columns (window (i * w) w ws) j l ∙ new_place i j (omega (arith, l, table.within))

  bit_before : (i j : ℕ) → i < n → j < columns → bit_at before i j ≡ cell_place cells w i j
  bit_before i j h l = ap (λ (r : List Bool). get_or r j false) (seen_before i h) ∙ bit_is columns (entries_at words.rows i) j l ∙ old_place i j h (omega (arith, l, table.within))

  wide : (i : ℕ) → i < n → length (bits_of rows i) ≡ columns
  wide i h = ap length (seen i h) ∙ length-bits_in columns (window (i * w) w ws)

  wide_before : (i : ℕ) → i < n → length (bits_of before i) ≡ columns
  wide_before i h = ap length (seen_before i h) ∙ length-bits_in columns (entries_at words.rows i)

  past_rows : (i : ℕ) → n ≤ i → bits_of rows i ≡ []
  past_rows i h = get_or_past rows i [] (omega (arith, h, count))

  past_before : (i : ℕ) → n ≤ i → bits_of before i ≡ []
  past_before i h = get_or_past before i [] (omega (arith, h, count_before))

  -- where the cells are the same, the bits are
  same_bits : (i j : ℕ) → (i < n → j < columns → cell_place ws w i j ≡ cell_place cells w i j) → bit_at rows i j ≡ bit_at before i j
  same_bits i j same = elim (cases_lt i n) as (λ _. bit_at rows i j ≡ bit_at before i j) [
    | inl h ↦ elim (cases_lt j columns) as (λ _. bit_at rows i j ≡ bit_at before i j) [
      | inl l ↦ bit i j h l ∙ same h l ∙ sym (bit_before i j h l)
      | inr over ↦ get_or_past (bits_of rows i) j false (omega (arith, over, wide i h)) ∙ sym (get_or_past (bits_of before i) j false (omega (arith, over, wide_before i h)))
    ]
    | inr over ↦ ap (λ (r : List Bool). get_or r j false) (past_rows i over ∙ sym (past_before i over))
  ]

  -- ---- a column that is marked
  module _ (column : ℕ) (P : ℕ → Type 0) (inside : column < columns) (few : (i : ℕ) → P i → i < n) (marked : IsMarked w column P cells ws) where
    from : (i : ℕ) → IsTrue (bit_at rows i column) → IsTrue (bit_at before i column) ⊎ P i
    from i t = elim (cases_lt i n) as (λ _. IsTrue (bit_at before i column) ⊎ P i) [
      | inl h ↦ elim ((marked.marked i).0 (sym (bit i column h inside) ∙ t)) as (λ _. IsTrue (bit_at before i column) ⊎ P i) [
        | inl old ↦ inl (bit_before i column h inside ∙ old)
        | inr named ↦ inr named
      ]
      | inr over ↦ absurd (no_truth (bit_at rows i column) (ap (λ (r : List Bool). get_or r column false) (past_rows i over)) t)
    ]

    to_within : (i : ℕ) → i < n → (IsTrue (bit_at before i column) ⊎ P i) → IsTrue (bit_at rows i column)
    to_within i h (inl old) = bit i column h inside ∙ (marked.marked i).1 (inl (sym (bit_before i column h inside) ∙ old))
    to_within i h (inr named) = bit i column h inside ∙ (marked.marked i).1 (inr named)

    to : (i : ℕ) → (IsTrue (bit_at before i column) ⊎ P i) → IsTrue (bit_at rows i column)
    to i (inr named) = to_within i (few i named) (inr named)
    to i (inl old) = elim (cases_lt i n) as (λ _. IsTrue (bit_at rows i column)) [
      | inl h ↦ to_within i h (inl old)
      | inr over ↦ absurd (no_truth (bit_at before i column) (ap (λ (r : List Bool). get_or r column false) (past_before i over)) old)
    ]

    as_wide : (i : ℕ) → length (bits_of rows i) ≡ length (bits_of before i)
    as_wide i = elim (cases_lt i n) as (λ _. length (bits_of rows i) ≡ length (bits_of before i)) [
      | inl h ↦ wide i h ∙ sym (wide_before i h)
      | inr over ↦ ap length (past_rows i over ∙ sym (past_before i over))
    ]

    pub marked_bits : IsColumnMarked column P (seen_bits columns words) (seen_bits columns (record words { rows = rows_of w n ws }))
    marked_bits = record {
      columns = refl;
      spare = refl;
      count = count ∙ sym count_before;
      wide = as_wide;
      marked = λ i. (from i, to i);
      others = λ i j other. same_bits i j (λ h l. marked.others i j (omega (arith, l, table.within)) other);
    }

    pub kept_past_column : AreKeptPast
    kept_past_column = λ i c l past. marked.others i c l (let d : c ≢ column = omega (arith, past, inside) in d)

  -- ---- a column of zeros
  module _ (values : List ℤ) (some : 0 < columns) (told : IsZeroColumn w (columns - 1) values n cells ws) where
    others_past : (i k : ℕ) → i < n → k ≢ columns - 1 → w * 64 ≤ k → place (window (i * w) w ws) k ≡ place (entries_at words.rows i) k
    others_past i k h other over = place_past (window (i * w) w ws) k (omega (arith, over, size i h)) ∙ sym (place_past (entries_at words.rows i) k (omega (arith, over, old_size i h)))

    set_at_last : (i : ℕ) → i < n → IsPlaceSet (columns - 1) (int_eq (get_or values i (pos 0)) (pos 0)) (entries_at words.rows i) (window (i * w) w ws)
    set_at_last i h = record {
      width = size i h ∙ sym (old_size i h);
      same = new_place i (columns - 1) (omega (arith, some, table.within)) ∙ told.told i h;
      others = λ k other. elim (cases_lt k (w * 64)) as (λ _. place (window (i * w) w ws) k ≡ place (entries_at words.rows i) k) [
        | inl l ↦ new_place i k l ∙ told.others i k l other ∙ sym (old_place i k h l)
        | inr over ↦ others_past i k h other over
      ];
    }

    pub zeros_seen : HasLastZeros values (seen_bits columns words) (seen_bits columns (record words { rows = rows_of w n ws }))
    zeros_seen = record {
      large = record { columns = refl; as_many = count ∙ sym count_before; spare = refl };
      each = λ i below.
          let h : i < n = omega (arith, below, count_before) in
          seen i h ∙ bits_in_set columns (columns - 1) (int_eq (get_or values i (pos 0)) (pos 0)) (entries_at words.rows i) (window (i * w) w ws) (omega (arith, some)) (set_at_last i h)
          ∙ ap (λ (r : List Bool). set r (columns - 1) (int_eq (get_or values i (pos 0)) (pos 0))) (sym (seen_before i h));
    }

    pub kept_past_last : AreKeptPast
    kept_past_last = λ i c l past. told.others i c l (let d : c ≢ columns - 1 = omega (arith, past, some) in d)

  -- ---- a front that is filled
  module _ (row size_of : ℕ) (inside : row < n) (fits : size_of ≤ columns) (filled : IsFrontFilled w row size_of cells ws) where
    abbrev bits : List Bool
    bits = replicate size_of true ++ drop size_of (bits_of before row)

    length_bits : length bits ≡ columns
    length_bits = omega (arith, length-append (replicate size_of true) (drop size_of (bits_of before row)), length-replicate size_of true, length-drop size_of (bits_of before row), wide_before row inside, fits)

    at_front : (k : ℕ) → k < size_of → bit_at rows row k ≡ get_or bits k false
    at_front k l =
        bit row k inside (omega (arith, l, fits)) ∙ filled.front k l
        ∙ sym (get_or_append_left (replicate size_of true) (drop size_of (bits_of before row)) false k (omega (arith, l, length-replicate size_of true)) ∙ get_or-replicate size_of k true false l)

    behind : (k : ℕ) → size_of ≤ k → k < columns → bit_at rows row k ≡ get_or bits k false
    behind k over l =
        let at : size_of + (k - size_of) ≡ k = omega (arith, over) in
        let seam : length (replicate size_of true) + (k - size_of) ≡ k = omega (arith, over, length-replicate size_of true) in
        bit row k inside l ∙ filled.others row k (omega (arith, l, table.within)) (inr over) ∙ sym (bit_before row k inside l)
        ∙ ap (λ (m : ℕ). bit_at before row m) (sym at) ∙ sym (get_or-drop size_of (bits_of before row) (k - size_of) false)
        ∙ sym (get_or-append-add (replicate size_of true) (drop size_of (bits_of before row)) (k - size_of) false)
        ∙ ap (λ (m : ℕ). get_or bits m false) seam

    row_is : bits_of rows row ≡ bits
    row_is = ext_get_or false (bits_of rows row) bits (wide row inside ∙ sym length_bits)
        (λ k l.
        let within : k < columns = omega (arith, l, wide row inside) in
        elim (cases_lt k size_of) as (λ _. bit_at rows row k ≡ get_or bits k false) [
          | inl h ↦ at_front k h
          | inr over ↦ behind k over within
        ])

    row_kept : (i : ℕ) → i < n → i ≢ row → bits_of rows i ≡ bits_of before i
    row_kept i h other = ext_get_or false (bits_of rows i) (bits_of before i) (wide i h ∙ sym (wide_before i h))
        (λ k l. same_bits i k (λ below inner. filled.others i k (omega (arith, inner, table.within)) (inl other)))

    pub front_seen : seen_bits columns (record words { rows = rows_of w n ws }) ≡ record (seen_bits columns words) { rows = set before row bits }
    front_seen =
        let make : List (List Bool) → Table = λ rs. record { columns = columns; rows = rs; spare = words.spare } in
        ap make (ext_get_or [] rows (set before row bits) (count ∙ sym (length-set before row bits ∙ count_before))
        (λ i l.
        let h : i < n = omega (arith, l, count) in
        elim (cases_eq i row) as (λ _. bits_of rows i ≡ get_or (set before row bits) i []) [
          | inl e ↦ ap (bits_of rows) e ∙ row_is ∙ sym (ap (λ (m : ℕ). get_or (set before row bits) m []) e ∙ get_or-set_same before row bits [] (omega (arith, inside, count_before)))
          | inr d ↦ row_kept i h d ∙ sym (get_or-set_other before row i bits [] d)
        ]))

    pub kept_past_front : AreKeptPast
    kept_past_front = λ i c l past. filled.others i c l (inr (omega (arith, past, fits)))

  -- ---- a row that is written behind places
  module _ (row front : ℕ) (words_behind : List ℕ) (inside : row < n) (fits : front ≤ columns) (written : IsWrittenBehind w row front words_behind cells ws) where
    abbrev joint : List Bool
    joint = replicate front true ++ bits_in (columns - front) words_behind

    length_joint : length joint ≡ columns
    length_joint = omega (arith, length-append (replicate front true) (bits_in (columns - front) words_behind), length-replicate front true, length-bits_in (columns - front) words_behind, fits)

    at_first : (k : ℕ) → k < front → bit_at rows row k ≡ get_or joint k false
    at_first k l =
        bit row k inside (omega (arith, l, fits)) ∙ written.front_true k l
        ∙ sym (get_or_append_left (replicate front true) (bits_in (columns - front) words_behind) false k (omega (arith, l, length-replicate front true)) ∙ get_or-replicate front k true false l)

    at_rest : (j : ℕ) → front + j < columns → bit_at rows row (front + j) ≡ get_or joint (length (replicate front true) + j) false
    at_rest j l =
        bit row (front + j) inside l ∙ written.behind j (omega (arith, l, table.within))
        ∙ sym (bit_is (columns - front) words_behind j (omega (arith, l)))
        ∙ sym (get_or-append-add (replicate front true) (bits_in (columns - front) words_behind) j false)

    joint_is : bits_of rows row ≡ joint
    joint_is = ext_get_or false (bits_of rows row) joint (wide row inside ∙ sym length_joint)
        (λ k l.
        let within : k < columns = omega (arith, l, wide row inside) in
        elim (cases_lt k front) as (λ _. bit_at rows row k ≡ get_or joint k false) [
          | inl h ↦ at_first k h
          | inr over ↦
              let at : front + (k - front) ≡ k = omega (arith, over) in
              let seam : length (replicate front true) + (k - front) ≡ k = omega (arith, over, length-replicate front true) in
              ap (λ (m : ℕ). bit_at rows row m) (sym at) ∙ at_rest (k - front) (omega (arith, over, within)) ∙ ap (λ (m : ℕ). get_or joint m false) seam
        ])

    others_kept : (i : ℕ) → i < n → i ≢ row → bits_of rows i ≡ bits_of before i
    others_kept i h other = ext_get_or false (bits_of rows i) (bits_of before i) (wide i h ∙ sym (wide_before i h))
        (λ k l. same_bits i k (λ below inner. written.others i k (omega (arith, inner, table.within)) other))

    pub behind_seen : seen_bits columns (record words { rows = rows_of w n ws }) ≡ record (seen_bits columns words) { rows = set before row joint }
    behind_seen =
        let make : List (List Bool) → Table = λ rs. record { columns = columns; rows = rs; spare = words.spare } in
        ap make (ext_get_or [] rows (set before row joint) (count ∙ sym (length-set before row joint ∙ count_before))
        (λ i l.
        let h : i < n = omega (arith, l, count) in
        elim (cases_eq i row) as (λ _. bits_of rows i ≡ get_or (set before row joint) i []) [
          | inl e ↦ ap (bits_of rows) e ∙ joint_is ∙ sym (ap (λ (m : ℕ). get_or (set before row joint) m []) e ∙ get_or-set_same before row joint [] (omega (arith, inside, count_before)))
          | inr d ↦ others_kept i h d ∙ sym (get_or-set_other before row i joint [] d)
        ]))

    -- past the columns nothing is written, where the words are false there
    past_same : ((j : ℕ) → columns ≤ front + j → place words_behind j ≡ false) → (c : ℕ) → c < w * 64 → columns ≤ c → cell_place ws w row c ≡ cell_place cells w row c
    past_same none c l past =
        let at : front + (c - front) ≡ c = omega (arith, past, fits) in
        ap (λ (m : ℕ). cell_place ws w row m) (sym at) ∙ written.behind (c - front) (omega (arith, l, at)) ∙ none (c - front) (omega (arith, past, at))
        ∙ sym (sym (old_place row c inside l) ∙ table.padded row [] inside c past)

    pub kept_past_behind : ((j : ℕ) → columns ≤ front + j → place words_behind j ≡ false) → AreKeptPast
    kept_past_behind none i c l past = elim (cases_eq i row) as (λ _. cell_place ws w i c ≡ cell_place cells w i c) [
      | inl e ↦ ap (λ (m : ℕ). cell_place ws w m c) e ∙ past_same none c l past ∙ ap (λ (m : ℕ). cell_place cells w m c) (sym e)
      | inr d ↦ written.others i c l d
    ]

-- ---- tables after their cells were written
-- what is left is a table, and what is seen in it follows
pub record IsLeft (columns : ℕ) (words : Flat ℕ) (Says : Table → Type 0) : Type 0 where
  pub table : IsTable columns words
  pub says : Says (seen_bits columns words)

-- where what is said of a table of the same rows is said of what was lent
abbrev left_as : (columns : ℕ) (words : Flat ℕ) (cells ws : List ℕ) (Says : Table → Type 0) → IsTable columns words → AreCells words cells → length ws ≡ length cells → IsTable columns (with_cells words ws) → Says (seen_bits columns (record words { rows = rows_of words.width (length words.rows) ws })) → IsLeft columns (with_cells words ws) Says
left_as columns words cells ws Says table are long still said = record {
  table = still;
  says = subst (λ (f : Flat ℕ). Says (seen_bits columns f)) (sym (changed columns words cells ws table are long)) said;
}

pub column_marked : (columns : ℕ) (words : Flat ℕ) (cells ws : List ℕ) (t : Table) (v column : ℕ) (P : ℕ → Type 0) → IsTable columns words → AreCells words cells → seen_bits columns words ≡ t → v ≡ words.width → column < t.columns → ((i : ℕ) → P i → i < length t.rows) → IsMarked v column P cells ws → IsLeft columns (with_cells words ws) (λ new. IsColumnMarked column P t new)
column_marked columns words cells ws t v column P table are e same inside few marked =
    let m : IsMarked words.width column P cells ws = subst (λ (u : ℕ). IsMarked u column P cells ws) same marked in
    let s = seen_in columns words t e in
    let within : column < columns = omega (arith, inside, s.wide) in
    let below : (i : ℕ) → P i → i < length words.rows = λ i p. omega (arith, few i p, s.count) in
    let Q : Table → Type 0 = λ u. IsColumnMarked column P u (seen_bits columns (record words { rows = rows_of words.width (length words.rows) ws })) in
    left_as columns words cells ws (λ new. IsColumnMarked column P t new) table are m.len
    (still_table columns words cells ws table are m.len (kept_past_column columns words cells ws table are m.len column P within below m))
    (subst Q e (marked_bits columns words cells ws table are m.len column P within below m))

pub zeros_told_last : (columns : ℕ) (words : Flat ℕ) (cells ws : List ℕ) (t : Table) (v : ℕ) (values : List ℤ) → IsTable columns words → AreCells words cells → seen_bits columns words ≡ t → v ≡ words.width → 0 < t.columns → length values ≡ length t.rows → IsZeroColumn v (columns - 1) values (length values) cells ws → IsLeft columns (with_cells words ws) (λ new. HasLastZeros values t new)
zeros_told_last columns words cells ws t v values table are e same some as_many told =
    let s = seen_in columns words t e in
    let z : IsZeroColumn words.width (columns - 1) values (length values) cells ws = subst (λ (u : ℕ). IsZeroColumn u (columns - 1) values (length values) cells ws) same told in
    let all : length values ≡ length words.rows = as_many ∙ s.count in
    let m : IsZeroColumn words.width (columns - 1) values (length words.rows) cells ws = subst (λ (k : ℕ). IsZeroColumn words.width (columns - 1) values k cells ws) all z in
    let any : 0 < columns = omega (arith, some, s.wide) in
    let Q : Table → Type 0 = λ u. HasLastZeros values u (seen_bits columns (record words { rows = rows_of words.width (length words.rows) ws })) in
    left_as columns words cells ws (λ new. HasLastZeros values t new) table are m.len
    (still_table columns words cells ws table are m.len (kept_past_last columns words cells ws table are m.len values any m))
    (subst Q e (zeros_seen columns words cells ws table are m.len values any m))

pub front_filled : (columns : ℕ) (words : Flat ℕ) (cells ws : List ℕ) (t : Table) (v row count : ℕ) → IsTable columns words → AreCells words cells → seen_bits columns words ≡ t → v ≡ words.width → row < length t.rows → count ≤ t.columns → IsFrontFilled v row count cells ws
    → IsLeft columns (with_cells words ws) (λ new. new ≡ record t { rows = set t.rows row (replicate count true ++ drop count (bits_of t.rows row)) })
front_filled columns words cells ws t v row count table are e same inside fits filled =
    let m : IsFrontFilled words.width row count cells ws = subst (λ (u : ℕ). IsFrontFilled u row count cells ws) same filled in
    let s = seen_in columns words t e in
    let below : row < length words.rows = omega (arith, inside, s.count) in
    let few : count ≤ columns = omega (arith, fits, s.wide) in
    let Q : Table → Type 0 = λ u. seen_bits columns (record words { rows = rows_of words.width (length words.rows) ws }) ≡ record u { rows = set u.rows row (replicate count true ++ drop count (bits_of u.rows row)) } in
    left_as columns words cells ws (λ new. new ≡ record t { rows = set t.rows row (replicate count true ++ drop count (bits_of t.rows row)) }) table are m.len
    (still_table columns words cells ws table are m.len (kept_past_front columns words cells ws table are m.len row count below few m))
    (subst Q e (front_seen columns words cells ws table are m.len row count below few m))

truth_or_not : (b : Bool) → (IsTrue b → ⊥) → b ≡ false
truth_or_not true f = absurd (f refl)
truth_or_not false f = refl

-- a row of false has no cell that is true
pub none_in_row : (columns : ℕ) (words : Flat ℕ) (cells : List ℕ) (t : Table) (v row p : ℕ) → IsTable columns words → AreCells words cells → seen_bits columns words ≡ t → v ≡ words.width → row < length t.rows → bits_of t.rows row ≡ replicate t.columns false → p < v * 64 → cell_place cells v row p ≡ false
none_in_row columns words cells t v row p table are e same inside none within =
    let s = seen_in columns words t e in
    let below : row < length words.rows = omega (arith, inside, s.count) in
    let old : List ℕ = entries_at words.rows row in
    let seen_at : cell_place cells words.width row p ≡ place old p = sym (window_place cells words.width row p (omega (arith, within, same))) ∙ ap (λ (r : List ℕ). place r p) (row_of_cells words cells row are below) in
    ap (λ (u : ℕ). cell_place cells u row p) same ∙ seen_at ∙
    elim (cases_lt p columns) as (λ _. place old p ≡ false) [
      | inl l ↦ sym (bit_is columns old p l) ∙ ap (λ (r : List Bool). get_or r p false) (sym (s.row row below) ∙ none) ∙ get_or-replicate t.columns p false false (omega (arith, l, s.wide))
      | inr past ↦ table.padded row [] below p past
    ]

pub row_behind : (columns : ℕ) (words : Flat ℕ) (cells ws : List ℕ) (t : Table) (v row front : ℕ) (more : List ℕ) → IsTable columns words → AreCells words cells → seen_bits columns words ≡ t → v ≡ words.width → row < length t.rows → front ≤ t.columns → ((j : ℕ) → IsTrue (place more j) → front + j < t.columns) → IsWrittenBehind v row front more cells ws
    → IsLeft columns (with_cells words ws) (λ new. new ≡ record t { rows = set t.rows row (replicate front true ++ bits_in (t.columns - front) more) })
row_behind columns words cells ws t v row front more table are e same inside fits few written =
    let m : IsWrittenBehind words.width row front more cells ws = subst (λ (u : ℕ). IsWrittenBehind u row front more cells ws) same written in
    let s = seen_in columns words t e in
    let below : row < length words.rows = omega (arith, inside, s.count) in
    let within : front ≤ columns = omega (arith, fits, s.wide) in
    let none : (j : ℕ) → columns ≤ front + j → place more j ≡ false = λ j past. truth_or_not (place more j) (λ h. absurd (omega (arith, few j h, past, s.wide))) in
    let Q : Table → Type 0 = λ u. seen_bits columns (record words { rows = rows_of words.width (length words.rows) ws }) ≡ record u { rows = set u.rows row (replicate front true ++ bits_in (u.columns - front) more) } in
    left_as columns words cells ws (λ new. new ≡ record t { rows = set t.rows row (replicate front true ++ bits_in (t.columns - front) more) }) table are m.len
    (still_table columns words cells ws table are m.len (kept_past_behind columns words cells ws table are m.len row front more below within m none))
    (subst Q e (behind_seen columns words cells ws table are m.len row front more below within m))
