-- Rows of one width, one after another.
use Rattle.std.proofs.Common.{◌≡◌, ◌≢◌, ℕ, suc, zero, ◌+◌, ◌-◌, ◌*◌, ◌<◌, ◌≤◌, Bool, true, false, List, [], ◌∷◌, ◌++◌, length, get_or, set, take, drop, refl, sym, ap, inl, inr, ◌⊎◌, subst, ◌∙◌, arith, length-take, length-drop, length-append, replicate, add-one}
use Rattle.std.specs.Prelude.{All}
use Rattle.std.specs.List.{range_with_len, copy_within, refill}
use Rattle.std.proofs.lemmas.List.{ext_get_or, get_or-drop, drop_at, take-append-le, drop-append-le, get_or-set_same, get_or-set_other, length-set, take_more_set, drop-drop, take_all, take_at, take-take, drop-take, take-append-drop, append_assoc, append-nil, length-replicate, replicate-append-replicate, replicate_more, take-set-le, drop-set-lt, drop-set-add}
use Rattle.std.proofs.lemmas.List.Elements.{All-nil, All-head, All-tail, All-append, All-map, All-take, All-drop}
use Rattle.std.proofs.lemmas.List.FromFn.{length-map-range_with_len, get_or-map-range_with_len, take-map-range_with_len, map-range_with_len_more}
use Rattle.std.proofs.lemmas.Bool.{cases_eq, cases_lt}
use Rattle.std.proofs.Math.Seq.{take-set-lt}
use Rattle.std.proofs.Math.Nat.{mul-le-mul_right}
use Rattle.flat_rows.specs.Flat.{Flat, entries_at, rows_of, cells_of, AreCells, with_cells, window, with_window, fitted, IsLaidOut, HasOneWidth, marked}

-- the places of a row lie before those of the end
pub row_end : (w n i : ℕ) → i < n → i * w + w ≤ n * w
row_end w n i below = let le : suc i ≤ n = omega arith in omega (arith, mul-le-mul_right w le)

pub length-rows_of : {X : Type 0} (w n : ℕ) (cells : List X) → length (rows_of w n cells) ≡ n
length-rows_of w n cells = length-map-range_with_len (λ i. take w (drop (i * w) cells)) 0 n

pub entries_at-rows_of : {X : Type 0} (w n i : ℕ) (cells : List X) → i < n → entries_at (rows_of w n cells) i ≡ take w (drop (i * w) cells)
entries_at-rows_of w n i cells below = get_or-map-range_with_len (λ i. take w (drop (i * w) cells)) 0 n i i [] below (omega arith)

-- rows whose places agree are the same
pub rows_of_same : {X : Type 0} (w n : ℕ) (xs ys : List X) → ((i : ℕ) → i < n → take w (drop (i * w) xs) ≡ take w (drop (i * w) ys)) → rows_of w n xs ≡ rows_of w n ys
rows_of_same w n xs ys same =
    ext_get_or [] (rows_of w n xs) (rows_of w n ys) (length-rows_of w n xs ∙ sym (length-rows_of w n ys))
    (λ i h. let below : i < n = omega (arith, length-rows_of w n xs) in entries_at-rows_of w n i xs below ∙ same i below ∙ sym (entries_at-rows_of w n i ys below))

-- a part before the seam of two lists
pub take-drop-append : {X : Type 0} (w k : ℕ) (xs ys : List X) → k + w ≤ length xs → take w (drop k (xs ++ ys)) ≡ take w (drop k xs)
take-drop-append w k xs ys within =
    let first : k ≤ length xs = omega arith in
    let second : w ≤ length (drop k xs) = omega (arith, length-drop k xs) in
    rw (drop-append-le k xs ys first) (take-append-le w (drop k xs) ys second)

pub rows_of-push : {X : Type 0} (w n : ℕ) (xs row : List X) → length xs ≡ n * w → length row ≡ w → rows_of w (n + 1) (xs ++ row) ≡ rows_of w n xs ++ row ∷ []
rows_of-push w n xs row wide one =
    let last : take w (drop (n * w) (xs ++ row)) ≡ row = rw (drop_at xs row (n * w) wide) (take_all w row (omega arith)) in
    let before : rows_of w n (xs ++ row) ≡ rows_of w n xs = rows_of_same w n (xs ++ row) xs (λ i h. take-drop-append w (i * w) xs row (omega (arith, row_end w n i h))) in
    map-range_with_len_more (λ i. take w (drop (i * w) (xs ++ row))) 0 n n (omega arith) ∙ ap (λ r. rows_of w n (xs ++ row) ++ r ∷ []) last ∙ ap (λ rs. rs ++ row ∷ []) before

-- the table that is seen in the places
abbrev pub seen_flat : {X : Type 0} (w n s : ℕ) → List X → Flat X
seen_flat w n s cells = record { width = w; rows = rows_of w n cells; spare = s }

-- what the layout says of a table that is seen as t
pub record IsSeen {X : Type 0} (w n s : ℕ) (cells : List X) (t : Flat X) : Type 0 where
  pub count : length t.rows ≡ n
  pub width : t.width ≡ w
  pub row : (i : ℕ) → i < n → entries_at t.rows i ≡ take w (drop (i * w) cells)

pub seen : {X : Type 0} (w n s : ℕ) (cells : List X) (t : Flat X) → seen_flat w n s cells ≡ t → IsSeen w n s cells t
seen {X = X} w n s cells t e = record {
  count = ap (λ (u : Flat X). length u.rows) (sym e) ∙ length-rows_of w n cells;
  width = ap (λ (u : Flat X). u.width) (sym e);
  row = λ i h. ap (λ (u : Flat X). entries_at u.rows i) (sym e) ∙ entries_at-rows_of w n i cells h;
}

pub length_row : {X : Type 0} (w n i : ℕ) (cells : List X) → i < n → length cells ≡ n * w → length (take w (drop (i * w) cells)) ≡ w
length_row w n i cells below wide = omega (arith, length-take w (drop (i * w) cells), length-drop (i * w) cells, row_end w n i below)

-- row i of a table that is seen as t lies within its places
pub row_within : {X : Type 0} (w n s len room i : ℕ) (cells : List X) (t : Flat X) → IsLaidOut w n s len room → seen_flat w n s cells ≡ t → i < length t.rows → i * w + w ≤ len
row_within w n s len room i cells t laid e below =
    let count = (seen w n s cells t e).count in
    omega (arith, laid.taken, row_end w n i (omega arith))

pub rectangular : {X : Type 0} (w n s len room : ℕ) (cells : List X) (t : Flat X) → IsLaidOut w n s len room → length cells ≡ len → seen_flat w n s cells ≡ t → HasOneWidth t
rectangular w n s len room cells t laid wide e = λ i h.
    let k = seen w n s cells t e in
    let below : i < n = omega (arith, k.count) in
    ap length (k.row i below) ∙ length_row w n i cells below (wide ∙ laid.taken) ∙ sym k.width

pub take-set-drop : {X : Type 0} (w k c : ℕ) (xs : List X) (b : X) → take w (drop k (set xs (k + c) b)) ≡ take w (set (drop k xs) c b)
take-set-drop w k c xs b = ap (λ ys. take w ys) (drop-set-add k xs c b)

-- a write outside of row k
pub row_of-set_other : {X : Type 0} (w k p : ℕ) (xs : List X) (b : X) → (p < k * w) ⊎ (k * w + w ≤ p) → take w (drop (k * w) (set xs p b)) ≡ take w (drop (k * w) xs)
row_of-set_other w k p xs b (inl before) = ap (λ ys. take w ys) (drop-set-lt (k * w) xs p b before)
row_of-set_other w k p xs b (inr after) =
    let there : k * w + (p - k * w) ≡ p = omega arith in
    let moved : drop (k * w) (set xs p b) ≡ set (drop (k * w) xs) (p - k * w) b = ap (λ q. drop (k * w) (set xs q b)) (sym there) ∙ drop-set-add (k * w) xs (p - k * w) b in
    ap (λ ys. take w ys) moved ∙ take-set-le w (drop (k * w) xs) (p - k * w) b (omega arith)

-- another row lies before or behind
pub apart : (w i k c : ℕ) → k ≢ i → c < w → (i * w + c < k * w) ⊎ (k * w + w ≤ i * w + c)
apart w i k c other within =
    elim (cases_lt i k) [ inl less ↦ inl (omega (arith, row_end w k i less)) | inr more ↦ inr (omega (arith, row_end w i k (omega arith))) ]

-- a write at row i and column c
pub rows_of-set : {X : Type 0} (w n i c : ℕ) (xs : List X) (b : X) → i < n → c < w → rows_of w n (set xs (i * w + c) b) ≡ set (rows_of w n xs) i (set (entries_at (rows_of w n xs) i) c b)
rows_of-set {X = X} w n i c xs b below within =
    let new : List X = set xs (i * w + c) b in
    let row : List X = set (entries_at (rows_of w n xs) i) c b in
    let old : List (List X) = rows_of w n xs in
    ext_get_or [] (rows_of w n new) (set old i row)
    (length-rows_of w n new ∙ sym (length-set old i row ∙ length-rows_of w n xs))
    (λ k h.
    let inside : k < n = omega (arith, length-rows_of w n new) in
    entries_at-rows_of w n k new inside ∙
    elim (cases_eq k i) as (λ _. take w (drop (k * w) new) ≡ get_or (set old i row) k []) [
      | inl same ↦ rw same (take-set-drop w (i * w) c xs b ∙ take-set-lt w (drop (i * w) xs) c b within ∙ ap (λ r. set r c b) (sym (entries_at-rows_of w n i xs below)) ∙ sym (get_or-set_same old i row [] (omega (arith, length-rows_of w n xs))))
      | inr other ↦ row_of-set_other w k (i * w + c) xs b (apart w i k c other within) ∙ sym (entries_at-rows_of w n k xs inside) ∙ sym (get_or-set_other old i k row [] other)
    ])

pub set_seen : {X : Type 0} (w n s len room : ℕ) (cells : List X) (t : Flat X) (i c : ℕ) (b : X) → IsLaidOut w n s len room → seen_flat w n s cells ≡ t → i < length t.rows → c < t.width → seen_flat w n s (set cells (i * w + c) b) ≡ record t { rows = set t.rows i (set (entries_at t.rows i) c b) }
set_seen {X = X} w n s len room cells t i c b laid e below within =
    let k = seen w n s cells t e in
    let P : Flat X → Type 0 = λ u. seen_flat w n s (set cells (i * w + c) b) ≡ record u { rows = set u.rows i (set (entries_at u.rows i) c b) } in
    let make : List (List X) → Flat X = λ rs. record { width = w; rows = rs; spare = s } in
    subst P e (ap make (rows_of-set w n i c cells b (omega (arith, k.count)) (omega (arith, k.width))))

-- a row that is appended, made from the width
pub push_seen : {X : Type 0} (w n s len room : ℕ) (cells : List X) (t : Flat X) (row : ℕ → List X) → IsLaidOut w n s len room → length cells ≡ len → seen_flat w n s cells ≡ t → length (row w) ≡ w → rows_of w (n + 1) (cells ++ row w) ≡ t.rows ++ row t.width ∷ []
push_seen {X = X} w n s len room cells t row laid wide e one =
    let P : Flat X → Type 0 = λ u. rows_of w (n + 1) (cells ++ row w) ≡ u.rows ++ row u.width ∷ [] in
    subst P e (rows_of-push w n cells (row w) (wide ∙ laid.taken) one)

-- a copy of row i that is appended
pub push_copy_seen : {X : Type 0} (w n s len room i : ℕ) (cells : List X) (t : Flat X) → IsLaidOut w n s len room → length cells ≡ len → seen_flat w n s cells ≡ t → i < length t.rows → rows_of w (n + 1) (cells ++ window (i * w) w cells) ≡ t.rows ++ entries_at t.rows i ∷ []
push_copy_seen {X = X} w n s len room i cells t laid wide e in_i =
    let k = seen w n s cells t e in
    let below : i < n = omega (arith, k.count, in_i) in
    push_seen w n s len room cells t (λ _. window (i * w) w cells) laid wide e (length_row w n i cells below (wide ∙ laid.taken))
    ∙ ap (λ (r : List X). t.rows ++ r ∷ []) (sym (k.row i below))

pub length-fitted : {X : Type 0} (width : ℕ) (rest : X) (row : List X) → length (fitted width rest row) ≡ width
length-fitted width rest row = length-map-range_with_len (λ k. get_or row k rest) 0 width

-- a row of the width is fitted
pub fitted_whole : {X : Type 0} (width : ℕ) (rest : X) (row : List X) → length row ≡ width → fitted width rest row ≡ row
fitted_whole width rest row wide =
    ext_get_or rest (fitted width rest row) row (length-fitted width rest row ∙ sym wide)
    (λ k h. get_or-map-range_with_len (λ i. get_or row i rest) 0 width k k rest (omega (arith, h, length-fitted width rest row)) (omega arith))

-- one entry more
pub fitted_more : {X : Type 0} (k : ℕ) (rest : X) (old cells row : List X) (entry : X) → cells ≡ old ++ fitted k rest row → entry ≡ get_or row k rest → cells ++ entry ∷ [] ≡ old ++ fitted (k + 1) rest row
fitted_more {X = X} k rest old cells row entry so is =
    let step : fitted (k + 1) rest row ≡ fitted k rest row ++ get_or row k rest ∷ [] = map-range_with_len_more (λ i. get_or row i rest) 0 k k (omega arith) in
    ap (λ (zs : List X). zs ++ entry ∷ []) so ∙ append_assoc old (fitted k rest row) (entry ∷ [])
    ∙ ap (λ (x : X). old ++ (fitted k rest row ++ x ∷ [])) is ∙ ap (λ (zs : List X). old ++ zs) (sym step)

-- ---- a row that is written over another
pub length-window : {X : Type 0} (p w : ℕ) (cells : List X) → p + w ≤ length cells → length (window p w cells) ≡ w
length-window p w cells h = omega (arith, length-take w (drop p cells), length-drop p cells, h)

row_before : {X : Type 0} (w i k : ℕ) (cells row : List X) → k < i → i * w ≤ length cells → window (k * w) w (with_window (i * w) w row cells) ≡ window (k * w) w cells
row_before {X = X} w i k cells row less within =
    let long : k * w + w ≤ length (take (i * w) cells) = omega (arith, length-take (i * w) cells, row_end w i k less) in
    take-drop-append w (k * w) (take (i * w) cells) (row ++ drop (i * w + w) cells) long
    ∙ sym (take-drop-append w (k * w) (take (i * w) cells) (drop (i * w) cells) long)
    ∙ ap (λ (r : List X). window (k * w) w r) (take-append-drop (i * w) cells)

row_behind : {X : Type 0} (w i k : ℕ) (cells row : List X) → i < k → i * w + w ≤ length cells → length row ≡ w → window (k * w) w (with_window (i * w) w row cells) ≡ window (k * w) w cells
row_behind {X = X} w i k cells row more within one =
    let r : ℕ = k * w - (i * w + w) in
    let at : k * w ≡ i * w + w + r = omega (arith, row_end w k i more) in
    let front : List X = take (i * w) cells ++ row in
    let rest : List X = drop (i * w + w) cells in
    let long : length front ≡ i * w + w = omega (arith, length-append (take (i * w) cells) row, length-take (i * w) cells, one, within) in
    ap (λ (xs : List X). take w (drop (k * w) xs)) (sym (append_assoc (take (i * w) cells) row rest))
    ∙ ap (λ (n : ℕ). take w (drop n (front ++ rest))) at
    ∙ ap (λ (xs : List X). take w xs) (sym (drop-drop r (i * w + w) (front ++ rest)) ∙ ap (λ (xs : List X). drop r xs) (drop_at front rest (i * w + w) long) ∙ drop-drop r (i * w + w) cells)
    ∙ ap (λ (n : ℕ). take w (drop n cells)) (sym at)

row_itself : {X : Type 0} (w i : ℕ) (cells row : List X) → i * w + w ≤ length cells → length row ≡ w → window (i * w) w (with_window (i * w) w row cells) ≡ row
row_itself {X = X} w i cells row within one =
    ap (λ (xs : List X). take w xs) (drop_at (take (i * w) cells) (row ++ drop (i * w + w) cells) (i * w) (omega (arith, length-take (i * w) cells, within)))
    ∙ take_at row (drop (i * w + w) cells) w one

pub rows_of-with_window : {X : Type 0} (w n i : ℕ) (cells row : List X) → i < n → length cells ≡ n * w → length row ≡ w → rows_of w n (with_window (i * w) w row cells) ≡ set (rows_of w n cells) i row
rows_of-with_window {X = X} w n i cells row below wide one =
    let new : List X = with_window (i * w) w row cells in
    let old : List (List X) = rows_of w n cells in
    let within : i * w + w ≤ length cells = omega (arith, wide, row_end w n i below) in
    ext_get_or [] (rows_of w n new) (set old i row)
    (length-rows_of w n new ∙ sym (length-set old i row ∙ length-rows_of w n cells))
    (λ k h.
    let inside : k < n = omega (arith, length-rows_of w n new) in
    entries_at-rows_of w n k new inside ∙
    elim (cases_eq k i) as (λ _. window (k * w) w new ≡ get_or (set old i row) k []) [
      | inl same ↦ rw same (row_itself w i cells row within one ∙ sym (get_or-set_same old i row [] (omega (arith, length-rows_of w n cells))))
      | inr other ↦ elim (cases_lt k i) as (λ _. window (k * w) w new ≡ get_or (set old i row) k []) [
        | inl less ↦ row_before w i k cells row less (omega (arith, within)) ∙ sym (entries_at-rows_of w n k cells inside) ∙ sym (get_or-set_other old i k row [] other)
        | inr more ↦ row_behind w i k cells row (omega (arith, other, more)) within one ∙ sym (entries_at-rows_of w n k cells inside) ∙ sym (get_or-set_other old i k row [] other)
      ]
    ])

-- one row copied over another
pub copy_seen : {X : Type 0} (w n s len room from to : ℕ) (cells : List X) (t : Flat X) → IsLaidOut w n s len room → length cells ≡ len → seen_flat w n s cells ≡ t → from < length t.rows → to < length t.rows → seen_flat w n s (copy_within cells (from * w) (from * w + w) (to * w)) ≡ record t { rows = set t.rows to (entries_at t.rows from) }
copy_seen {X = X} w n s len room from to cells t laid long e in_from in_to =
    let k = seen w n s cells t e in
    let wide : length cells ≡ n * w = long ∙ laid.taken in
    let below_from : from < n = omega (arith, k.count, in_from) in
    let below_to : to < n = omega (arith, k.count, in_to) in
    let row : List X = window (from * w) w cells in
    let size : from * w + w - from * w ≡ w = omega arith in
    let P : Flat X → Type 0 = λ u. seen_flat w n s (copy_within cells (from * w) (from * w + w) (to * w)) ≡ record u { rows = set u.rows to (entries_at u.rows from) } in
    let make : List (List X) → Flat X = λ rs. record { width = w; rows = rs; spare = s } in
    subst P e (
    ap (λ (m : ℕ). seen_flat w n s (take (to * w) cells ++ take m (drop (from * w) cells) ++ drop (to * w + m) cells)) size
    ∙ ap (λ (cs : List X). seen_flat w n s cs) (append_assoc (take (to * w) cells) row (drop (to * w + w) cells))
    ∙ ap make (rows_of-with_window w n to cells row below_to wide (length_row w n from cells below_from wide) ∙ ap (λ (r : List X). set (rows_of w n cells) to r) (sym (entries_at-rows_of w n from cells below_from)))
    )

-- ---- row i, where the width is handed over
pub wide_within : {X : Type 0} (v w n s len room i : ℕ) (cells : List X) (t : Flat X) → v ≡ t.width → IsLaidOut w n s len room → seen_flat w n s cells ≡ t → i < length t.rows → i * v + v ≤ len
wide_within v w n s len room i cells t same laid e below =
    subst (λ (u : ℕ). i * u + u ≤ len) (sym (same ∙ (seen w n s cells t e).width)) (row_within w n s len room i cells t laid e below)

pub wide_row : {X : Type 0} (v w n s i : ℕ) (cells : List X) (t : Flat X) → v ≡ t.width → seen_flat w n s cells ≡ t → i < length t.rows → take (i * v + v - i * v) (drop (i * v) cells) ≡ entries_at t.rows i
wide_row {X = X} v w n s i cells t same e below =
    let k = seen w n s cells t e in
    let size : i * v + v - i * v ≡ v = omega arith in
    ap (λ (m : ℕ). take m (drop (i * v) cells)) size
    ∙ ap (λ (m : ℕ). take m (drop (i * m) cells)) (same ∙ k.width)
    ∙ sym (k.row i (omega (arith, k.count, below)))

-- ---- the cells of rows
cells_of-append : {X : Type 0} (xs ys : List (List X)) → cells_of (xs ++ ys) ≡ cells_of xs ++ cells_of ys
cells_of-append [] ys = refl
cells_of-append {X = X} (x ∷ xs) ys = ap (λ (zs : List X). x ++ zs) (cells_of-append xs ys) ∙ sym (append_assoc x (cells_of xs) (cells_of ys))

take-add : {X : Type 0} (m n : ℕ) (xs : List X) → take (m + n) xs ≡ take m xs ++ take n (drop m xs)
take-add {X = X} m n xs =
    sym (take-append-drop m (take (m + n) xs))
    ∙ ap (λ (zs : List X). zs ++ drop m (take (m + n) xs)) (take-take m (m + n) xs (omega arith))
    ∙ ap (λ (zs : List X). take m xs ++ zs) (drop-take m n xs)

cells_of-rows_of : {X : Type 0} (w n : ℕ) (cells : List X) → cells_of (rows_of w n cells) ≡ take (n * w) cells
cells_of-rows_of {X = X} w zero cells = ap (λ (k : ℕ). take k cells) (let e : 0 ≡ 0 * w = omega arith in e)
cells_of-rows_of {X = X} w (suc n) cells =
    let more : rows_of w (suc n) cells ≡ rows_of w n cells ++ window (n * w) w cells ∷ [] = ap (λ (k : ℕ). rows_of w k cells) (sym (add-one n)) ∙ map-range_with_len_more (λ i. take w (drop (i * w) cells)) 0 n n (omega arith) in
    ap (λ (rs : List (List X)). cells_of rs) more
    ∙ cells_of-append (rows_of w n cells) (window (n * w) w cells ∷ [])
    ∙ ap (λ (zs : List X). zs ++ (window (n * w) w cells ++ [])) (cells_of-rows_of w n cells)
    ∙ ap (λ (zs : List X). take (n * w) cells ++ zs) (append-nil (window (n * w) w cells))
    ∙ sym (take-add (n * w) w cells)
    ∙ ap (λ (k : ℕ). take k cells) (omega arith)

cells_of-seen : {X : Type 0} (w n s len room : ℕ) (cells : List X) (t : Flat X) → IsLaidOut w n s len room → length cells ≡ len → seen_flat w n s cells ≡ t → cells ≡ cells_of t.rows
cells_of-seen {X = X} w n s len room cells t laid long e =
    sym (cells_of-rows_of w n cells ∙ take_all (n * w) cells (omega (arith, long, laid.taken))) ∙ ap (λ (u : Flat X). cells_of u.rows) e

-- what a loan of the cells shows
pub cells_seen : {X : Type 0} (w n s len room : ℕ) (cells : List X) (t : Flat X) → IsLaidOut w n s len room → length cells ≡ len → seen_flat w n s cells ≡ t → AreCells t cells
cells_seen {X = X} w n s len room cells t laid long e =
    let k = seen w n s cells t e in
    record {
      same = cells_of-seen w n s len room cells t laid long e;
      rows = ap (λ (v : ℕ). rows_of v (length t.rows) cells) k.width ∙ ap (λ (m : ℕ). rows_of w m cells) k.count ∙ ap (λ (u : Flat X). u.rows) e;
      taken = long ∙ laid.taken ∙ ap (λ (m : ℕ). m * w) (sym k.count) ∙ ap (λ (v : ℕ). length t.rows * v) (sym k.width);
    }

-- and what it leaves
pub lent_seen : {X : Type 0} (w n s len room : ℕ) (cells ws : List X) (t : Flat X) → IsLaidOut w n s len room → length cells ≡ len → seen_flat w n s cells ≡ t → seen_flat w n s (refill len cells ws) ≡ with_cells t ws
lent_seen {X = X} w n s len room cells ws t laid long e =
    let P : Flat X → Type 0 = λ u. seen_flat w n s (refill len cells ws) ≡ with_cells u ws in
    let rows : List (List X) = rows_of w n cells in
    subst P e (
    ap (λ (m : ℕ). seen_flat w n s (refill m cells ws)) (sym long)
    ∙ ap (λ (xs : List X). seen_flat w n s (refill (length xs) xs ws)) (cells_of-seen w n s len room cells (seen_flat w n s cells) laid long refl)
    ∙ ap (λ (m : ℕ). seen_flat w m s (refill (length (cells_of rows)) (cells_of rows) ws)) (sym (length-rows_of w n cells))
    )

pub with_cells_is : {X : Type 0} (t : Flat X) (cells ws : List X) → cells ≡ cells_of t.rows → length ws ≡ length cells → with_cells t ws ≡ record t { rows = rows_of t.width (length t.rows) ws }
with_cells_is {X = X} t cells ws e long =
    let as_many : length ws ≡ length (cells_of t.rows) = long ∙ ap length e in
    ap (λ (xs : List X). record t { rows = rows_of t.width (length t.rows) xs }) (take_at ws (drop (length ws) (cells_of t.rows)) (length (cells_of t.rows)) as_many)

pub row_of_cells : {X : Type 0} (t : Flat X) (cells : List X) (i : ℕ) → AreCells t cells → i < length t.rows → window (i * t.width) t.width cells ≡ entries_at t.rows i
row_of_cells {X = X} t cells i are below =
    sym (entries_at-rows_of t.width (length t.rows) i cells below) ∙ ap (λ (rs : List (List X)). entries_at rs i) are.rows

-- what holds of all cells is what holds of those of each row
pub All-rows_of : {X : Type 0} (P : X → Type 0) (w n : ℕ) (cells : List X) → All P cells → All (All P) (rows_of w n cells)
All-rows_of P w n cells all = All-map (All P) (λ i. take w (drop (i * w) cells)) (range_with_len 0 n) (λ i d h. All-take P w (drop (get_or (range_with_len 0 n) i d * w) cells) (All-drop P (get_or (range_with_len 0 n) i d * w) cells all))

pub All-each : {X : Type 0} (P : X → Type 0) (t : Flat X) (cells : List X) → AreCells t cells → All P cells → All (All P) t.rows
All-each P t cells are all = subst (All (All P)) are.rows (All-rows_of P t.width (length t.rows) cells all)

All-cells_of : {X : Type 0} (P : X → Type 0) (rows : List (List X)) → All (All P) rows → All P (cells_of rows)
All-cells_of P [] all = All-nil P
All-cells_of P (x ∷ rows) all = All-append P x (cells_of rows) (All-head (All P) x rows all) (All-cells_of P rows (All-tail (All P) x rows all))

pub All-cells : {X : Type 0} (P : X → Type 0) (t : Flat X) (cells : List X) → AreCells t cells → All (All P) t.rows → All P cells
All-cells P t cells are all = subst (All P) (sym are.same) (All-cells_of P t.rows all)

-- the first rows lie in the first places
take-drop-take : {X : Type 0} (w p m : ℕ) (xs : List X) → p + w ≤ m → take w (drop p (take m xs)) ≡ take w (drop p xs)
take-drop-take {X = X} w p m xs h =
    let at : m ≡ p + (m - p) = omega (arith, h) in
    ap (λ (k : ℕ). take w (drop p (take k xs))) at ∙ ap (λ (ys : List X). take w ys) (drop-take p (m - p) xs) ∙ take-take w (m - p) (drop p xs) (omega (arith, h))

pub rows_of-take : {X : Type 0} (w n k : ℕ) (xs : List X) → k ≤ n → rows_of w k (take (k * w) xs) ≡ take k (rows_of w n xs)
rows_of-take w n k xs within =
    rows_of_same w k (take (k * w) xs) xs (λ i h. take-drop-take w (i * w) (k * w) xs (row_end w k i h)) ∙
    sym (take-map-range_with_len (λ i. take w (drop (i * w) xs)) 0 n k within)

pub take_seen : {X : Type 0} (w n s k : ℕ) (cells : List X) (t : Flat X) → seen_flat w n s cells ≡ t → k ≤ length t.rows → seen_flat w k s (take (k * w) cells) ≡ record t { rows = take k t.rows }
take_seen {X = X} w n s k cells t e within =
    let count = (seen w n s cells t e).count in
    let P : Flat X → Type 0 = λ u. seen_flat w k s (take (k * w) cells) ≡ record u { rows = take k u.rows } in
    let make : List (List X) → Flat X = λ rs. record { width = w; rows = rs; spare = s } in
    subst P e (ap make (rows_of-take w n k cells (omega arith)))

pub laid_out-take : (w n s len room k : ℕ) → IsLaidOut w n s len room → k ≤ n → IsLaidOut w k s (k * w) room
laid_out-take w n s len room k laid within = record {
  taken = refl;
  room = omega (arith, laid.room, mul-le-mul_right w (let le : k + s ≤ n + s = omega arith in le));
  counted = omega (arith, laid.counted);
}

-- ---- rows of one entry that are appended
rows_of-fill : {X : Type 0} (w n k : ℕ) (xs : List X) (entry : X) → length xs ≡ n * w → rows_of w (n + k) (xs ++ replicate (k * w) entry) ≡ rows_of w n xs ++ replicate k (replicate w entry)
rows_of-fill {X = X} w n zero xs entry wide =
    let none : 0 * w ≡ 0 = omega arith in
    let same : n + 0 ≡ n = omega arith in
    ap (λ (m : ℕ). rows_of w (n + 0) (xs ++ replicate m entry)) none ∙ ap (λ (m : ℕ). rows_of w m (xs ++ [])) same ∙ ap (λ (ys : List X). rows_of w n ys) (append-nil xs) ∙ sym (append-nil (rows_of w n xs))
rows_of-fill {X = X} w n (suc k) xs entry wide =
    let row : List X = replicate w entry in
    let before : List X = xs ++ replicate (k * w) entry in
    let cells : suc k * w ≡ k * w + w = omega arith in
    let count : n + suc k ≡ n + k + 1 = omega arith in
    let more : k + 1 ≡ suc k = omega arith in
    let long : length before ≡ (n + k) * w = omega (arith, length-append xs (replicate (k * w) entry), length-replicate (k * w) entry, wide) in
    let parted : xs ++ replicate (suc k * w) entry ≡ before ++ row =
    ap (λ (m : ℕ). xs ++ replicate m entry) cells
    ∙ ap (λ (ys : List X). xs ++ ys) (sym (replicate-append-replicate (k * w) w entry))
    ∙ sym (append_assoc xs (replicate (k * w) entry) row) in
    ap (λ (m : ℕ). rows_of w m (xs ++ replicate (suc k * w) entry)) count
    ∙ ap (λ (ys : List X). rows_of w (n + k + 1) ys) parted
    ∙ rows_of-push w (n + k) before row long (length-replicate w entry)
    ∙ ap (λ (rs : List (List X)). rs ++ row ∷ []) (rows_of-fill w n k xs entry wide)
    ∙ append_assoc (rows_of w n xs) (replicate k row) (row ∷ [])
    ∙ ap (λ (rs : List (List X)). rows_of w n xs ++ rs) (replicate_more k row)
    ∙ ap (λ (m : ℕ). rows_of w n xs ++ replicate m row) more

pub fill_seen : {X : Type 0} (w n s len room k : ℕ) (cells : List X) (t : Flat X) (entry : X) → IsLaidOut w n s len room → length cells ≡ len → seen_flat w n s cells ≡ t → rows_of w (n + k) (take ((n + k) * w) cells ++ replicate ((n + k) * w - len) entry) ≡ t.rows ++ replicate k (replicate t.width entry)
fill_seen {X = X} w n s len room k cells t entry laid long e =
    let P : Flat X → Type 0 = λ u. rows_of w (n + k) (take ((n + k) * w) cells ++ replicate ((n + k) * w - len) entry) ≡ u.rows ++ replicate k (replicate u.width entry) in
    let rest : (n + k) * w - len ≡ k * w = omega (arith, laid.taken) in
    let all : length cells ≤ (n + k) * w = omega (arith, laid.taken, long) in
    subst P e (
    ap (λ (ys : List X). rows_of w (n + k) (ys ++ replicate ((n + k) * w - len) entry)) (take_all ((n + k) * w) cells all)
    ∙ ap (λ (m : ℕ). rows_of w (n + k) (cells ++ replicate m entry)) rest
    ∙ rows_of-fill w n k cells entry (long ∙ laid.taken)
    )

-- ---- rows that are kept
pub marked_skip : {X : Type 0} (i : ℕ) (keep : List Bool) (xs : List X) → i < length keep → i < length xs → get_or keep i false ≡ false → marked (take (suc i) keep) (take (suc i) xs) ≡ marked (take i keep) (take i xs)
marked_skip i [] xs h h' e = absurd (omega (arith, h))
marked_skip i (k ∷ keep) [] h h' e = absurd (omega (arith, h'))
marked_skip zero (false ∷ keep) (x ∷ xs) h h' e = refl
marked_skip zero (true ∷ keep) (x ∷ xs) h h' e = cc
marked_skip (suc i) (true ∷ keep) (x ∷ xs) h h' e = ap (λ ys. x ∷ ys) (marked_skip i keep xs (omega (arith, h)) (omega (arith, h')) e)
marked_skip (suc i) (false ∷ keep) (x ∷ xs) h h' e = marked_skip i keep xs (omega (arith, h)) (omega (arith, h')) e

pub marked_take : {X : Type 0} (d : X) (i : ℕ) (keep : List Bool) (xs : List X) → i < length keep → i < length xs → get_or keep i false ≡ true → marked (take (suc i) keep) (take (suc i) xs) ≡ marked (take i keep) (take i xs) ++ get_or xs i d ∷ []
marked_take d i [] xs h h' e = absurd (omega (arith, h))
marked_take d i (k ∷ keep) [] h h' e = absurd (omega (arith, h'))
marked_take d zero (true ∷ keep) (x ∷ xs) h h' e = refl
marked_take d zero (false ∷ keep) (x ∷ xs) h h' e = cc
marked_take d (suc i) (true ∷ keep) (x ∷ xs) h h' e = ap (λ ys. x ∷ ys) (marked_take d i keep xs (omega (arith, h)) (omega (arith, h')) e)
marked_take d (suc i) (false ∷ keep) (x ∷ xs) h h' e = marked_take d i keep xs (omega (arith, h)) (omega (arith, h')) e

pub get_or_first : {X : Type 0} (i : ℕ) (rows old : List (List X)) → drop i rows ≡ drop i old → entries_at rows i ≡ entries_at old i
get_or_first i rows old rest =
    let at : i + 0 ≡ i = omega arith in
    ap (λ k. get_or rows k []) (sym at) ∙ sym (get_or-drop i rows 0 []) ∙ ap (λ zs. get_or zs 0 []) rest ∙ get_or-drop i old 0 [] ∙ ap (λ k. get_or old k []) at

pub skip_rest : {X : Type 0} (i : ℕ) (old rows : List (List X)) → drop i rows ≡ drop i old → drop (i + 1) rows ≡ drop (i + 1) old
skip_rest i old rows rest = sym (drop-drop 1 i rows) ∙ ap (λ zs. drop 1 zs) rest ∙ drop-drop 1 i old

-- a row is kept: what is taken and what is left
pub keep_step : {X : Type 0} (i kept : ℕ) (keep : List Bool) (old rows : List (List X)) → i < length keep → i < length old → length rows ≡ length old → kept ≤ i → take kept rows ≡ marked (take i keep) (take i old) → drop i rows ≡ drop i old → get_or keep i false ≡ true → take (kept + 1) (set rows kept (entries_at rows i)) ≡ marked (take (i + 1) keep) (take (i + 1) old)
keep_step i kept keep old rows in_keep in_old as_many within taken rest is =
    let row : entries_at rows i ≡ entries_at old i = get_or_first i rows old rest in
    take_more_set rows kept (entries_at rows i) (omega arith) ∙
    ap (λ zs. zs ++ entries_at rows i ∷ []) taken ∙ ap (λ r. marked (take i keep) (take i old) ++ r ∷ []) row ∙
    sym (rw add-one (marked_take [] i keep old in_keep in_old is))

pub keep_rest : {X : Type 0} (i kept : ℕ) (old rows : List (List X)) (row : List X) → i < length old → length rows ≡ length old → kept ≤ i → drop i rows ≡ drop i old → drop (i + 1) (set rows kept row) ≡ drop (i + 1) old
keep_rest i kept old rows row in_old as_many within rest = drop-set-lt (i + 1) rows kept row (omega arith) ∙ skip_rest i old rows rest

pub skip_step : {X : Type 0} (i kept : ℕ) (keep : List Bool) (old rows : List (List X)) → i < length keep → i < length old → take kept rows ≡ marked (take i keep) (take i old) → get_or keep i false ≡ false → take kept rows ≡ marked (take (i + 1) keep) (take (i + 1) old)
skip_step i kept keep old rows in_keep in_old taken is = taken ∙ sym (rw add-one (marked_skip i keep old in_keep in_old is))
