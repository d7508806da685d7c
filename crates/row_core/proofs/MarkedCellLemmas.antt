-- Rows of one width whose cells stand in one buffer, each with a mark.
use Rattle.std.specs.Prelude.{◌≡◌, ℕ, ◌+◌, ◌*◌, ◌^◌, ◌<◌, ◌≤◌, ◌⊎◌, List, [], ◌∷◌, ◌++◌, length, take, drop, ℤ, Bool, All, slice_index_or, slice_set, remove}
use Rattle.std.specs.List.{insert}
use Rattle.std.proofs.Common.{zero, suc, refl, sym, ap, ◌∙◌, subst, inl, inr, arith}
use Rattle.std.proofs.lemmas.List.{take_at, drop_at, take-append-le, drop-append-le, length-append, length-drop, length-take-le, take-take, drop-drop, drop-take, take-append-drop, take_all, length_push, nil_from_length, set-get_or, set_split}
use Rattle.std.proofs.lemmas.List.Elements.{All-nil, All-cons, All-tail, All-append, All-take, All-drop}
use Rattle.std.proofs.lemmas.List.Edits.{length-insert, length-remove}
use Rattle.std.proofs.Math.Nat.{mul-le-mul_right}
use Rattle.row_core.specs.Range.{InRange, AllInRange}
use Rattle.row_core.specs.Lists.{Row, AreMarked}
use Rattle.row_core.specs.MarkedCells.{marked_rows, cells_of, remarked, AreWide, HaveOneWidth, IsLaid}

-- ---- the cells of rows
pub length-cells_of : {M : Type 0} (width : ℕ) (rows : List (List ℤ × M)) → AreWide width rows →
    length (cells_of rows) ≡ length rows * width
length-cells_of width [] wide = omega arith
length-cells_of {M} width (row ∷ rows) wide =
    let here : length row.0 ≡ width = wide 0 row (omega arith) in
    let rest = length-cells_of width rows
    (All-tail (λ (r : List ℤ × M). length r.0 ≡ width) row rows wide) in
    omega (arith, here, rest, length-append row.0 (cells_of rows))

-- as many rows of one width with the same cells, all with one mark, are the same rows
pub same_cells : (width : ℕ) (eq : Bool) (xs ys : List Row) → AreWide width xs → AreWide width ys →
    length xs ≡ length ys → cells_of xs ≡ cells_of ys → AreMarked eq xs → AreMarked eq ys → xs ≡ ys
same_cells width eq [] [] wide_x wide_y long same marked_x marked_y = refl
same_cells width eq [] (y ∷ ys) wide_x wide_y long same marked_x marked_y =
    absurd (omega (arith, long))
same_cells width eq (x ∷ xs) [] wide_x wide_y long same marked_x marked_y =
    absurd (omega (arith, long))
same_cells width eq (x ∷ xs) (y ∷ ys) wide_x wide_y long same marked_x marked_y =
    let Wide : Row → Type 0 = λ r. length r.0 ≡ width in
    let Marked : Row → Type 0 = λ r. r.1 ≡ eq in
    let first_x : length x.0 ≡ width = wide_x 0 x (omega arith) in
    let first_y : length y.0 ≡ width = wide_y 0 y (omega arith) in
    let first : x.0 ≡ y.0 = sym (take_at x.0 (cells_of xs) width first_x) ∙
    ap (λ (l : List ℤ). take width l) same ∙ take_at y.0 (cells_of ys) width first_y in
    let rest : cells_of xs ≡ cells_of ys = sym (drop_at x.0 (cells_of xs) width first_x) ∙
    ap (λ (l : List ℤ). drop width l) same ∙ drop_at y.0 (cells_of ys) width first_y in
    let mark : x.1 ≡ y.1 = marked_x 0 x (omega arith) ∙ sym (marked_y 0 y (omega arith)) in
    let others : xs ≡ ys = same_cells width eq xs ys (All-tail Wide x xs wide_x)
    (All-tail Wide y ys wide_y) (omega (arith, long)) rest (All-tail Marked x xs marked_x)
    (All-tail Marked y ys marked_y) in
    λ i. (first i, mark i) ∷ others i

-- ---- rows as their cells lie
pub length-marked_rows : {M : Type 0} (width : ℕ) (cells : List ℤ) (marks : List M) →
    length (marked_rows width cells marks) ≡ length marks
length-marked_rows width cells [] = refl
length-marked_rows width cells (mark ∷ marks) =
    ap suc (length-marked_rows width (drop width cells) marks)

-- as many as a list shows
pub counted : {M : Type 0} (width : ℕ) (cells : List ℤ) (marks : List M)
    (rows : List (List ℤ × M)) → marked_rows width cells marks ≡ rows → length rows ≡ length marks
counted width cells marks rows seen = sym (ap length seen) ∙ length-marked_rows width cells marks

-- row i
pub row_of-marked_rows : {M : Type 0} (width : ℕ) (cells : List ℤ) (marks : List M) (i : ℕ)
    (d : List ℤ × M) (mark : M) → i < length marks →
    slice_index_or (marked_rows width cells marks) i d ≡
    (take width (drop (i * width) cells), slice_index_or marks i mark)
row_of-marked_rows width cells [] i d mark within = absurd (omega (arith, within))
row_of-marked_rows {M} width cells (m ∷ marks) zero d mark within =
    let none : 0 ≡ 0 * width = omega arith in
    ap {B = List ℤ × M} (λ (k : ℕ). (take width (drop k cells), m)) none
row_of-marked_rows {M} width cells (m ∷ marks) (suc i) d mark within =
    let past : width + i * width ≡ suc i * width = omega arith in
    row_of-marked_rows width (drop width cells) marks i d mark (omega (arith, within)) ∙
    ap {B = List ℤ × M} (λ (l : List ℤ). (take width l, slice_index_or marks i mark))
    (drop-drop (i * width) width cells ∙ ap (λ (k : ℕ). drop k cells) past)

-- their cells are the cells
pub cells_of-marked_rows : {M : Type 0} (width : ℕ) (cells : List ℤ) (marks : List M) →
    length cells ≡ length marks * width → cells_of (marked_rows width cells marks) ≡ cells
cells_of-marked_rows width cells [] laid = sym (nil_from_length cells (omega (arith, laid)))
cells_of-marked_rows width cells (mark ∷ marks) laid =
    let rest : length (drop width cells) ≡ length marks * width =
    omega (arith, laid, length-drop width cells) in
    ap (λ (l : List ℤ). take width cells ++ l)
    (cells_of-marked_rows width (drop width cells) marks rest) ∙ take-append-drop width cells

-- of cells that are appended
pub marked_rows-append : {M : Type 0} (width : ℕ) (cells later : List ℤ) (marks more : List M) →
    length cells ≡ length marks * width →
    marked_rows width (cells ++ later) (marks ++ more) ≡
    marked_rows width cells marks ++ marked_rows width later more
marked_rows-append width cells later [] more laid =
    ap (λ (l : List ℤ). marked_rows width (l ++ later) more)
    (nil_from_length cells (omega (arith, laid)))
marked_rows-append {M} width cells later (mark ∷ marks) more laid =
    let within : width ≤ length cells = omega (arith, laid) in
    let left : length (drop width cells) ≡ length marks * width =
    omega (arith, laid, length-drop width cells) in
    let here : take width (cells ++ later) ≡ take width cells =
    take-append-le width cells later within in
    let rest : marked_rows width (drop width (cells ++ later)) (marks ++ more) ≡
    marked_rows width (drop width cells) marks ++ marked_rows width later more =
    ap (λ (l : List ℤ). marked_rows width l (marks ++ more))
    (drop-append-le width cells later within) ∙
    marked_rows-append width (drop width cells) later marks more left in
    λ i. (here i, mark) ∷ rest i

-- the first rows
pub take-marked_rows : {M : Type 0} (width : ℕ) (cells : List ℤ) (marks : List M) (i : ℕ) →
    take i (marked_rows width cells marks) ≡
    marked_rows width (take (i * width) cells) (take i marks)
take-marked_rows width cells [] zero = refl
take-marked_rows width cells [] (suc i) = refl
take-marked_rows width cells (mark ∷ marks) zero = refl
take-marked_rows {M} width cells (mark ∷ marks) (suc i) =
    let past : width + i * width ≡ suc i * width = omega arith in
    let here : take width (take (suc i * width) cells) ≡ take width cells =
    take-take width (suc i * width) cells (omega arith) in
    let after : drop width (take (suc i * width) cells) ≡ take (i * width) (drop width cells) =
    ap (λ (k : ℕ). drop width (take k cells)) (sym past) ∙ drop-take width (i * width) cells in
    let rest : take i (marked_rows width (drop width cells) marks) ≡
    marked_rows width (drop width (take (suc i * width) cells)) (take i marks) =
    take-marked_rows width (drop width cells) marks i ∙
    ap (λ (l : List ℤ). marked_rows width l (take i marks)) (sym after) in
    λ k. (sym here k, mark) ∷ rest k

-- the rows from one on
pub drop-marked_rows : {M : Type 0} (width : ℕ) (cells : List ℤ) (marks : List M) (i : ℕ) →
    drop i (marked_rows width cells marks) ≡
    marked_rows width (drop (i * width) cells) (drop i marks)
drop-marked_rows width cells [] zero = refl
drop-marked_rows width cells [] (suc i) = refl
drop-marked_rows width cells (mark ∷ marks) zero =
    let none : 0 ≡ 0 * width = omega arith in
    ap (λ (k : ℕ). marked_rows width (drop k cells) (mark ∷ marks)) none
drop-marked_rows width cells (mark ∷ marks) (suc i) =
    let past : width + i * width ≡ suc i * width = omega arith in
    drop-marked_rows width (drop width cells) marks i ∙
    ap (λ (l : List ℤ). marked_rows width l (drop i marks))
    (drop-drop (i * width) width cells ∙ ap (λ (k : ℕ). drop k cells) past)

-- the rows have one width
width_is : {M : Type 0} (width other : ℕ) (cells : List ℤ) (marks : List M) →
    length cells ≡ length marks * width → AreWide other (marked_rows width cells marks) →
    0 < length marks → width ≡ other
width_is width other cells [] laid wide some = absurd (omega (arith, some))
width_is width other cells (mark ∷ marks) laid wide some =
    sym (length-take-le width cells (omega (arith, laid))) ∙
    wide 0 (take width cells, mark) (omega arith)

-- they are those of the width that they have
of_width : {M : Type 0} (width other : ℕ) (cells : List ℤ) (marks : List M) →
    length cells ≡ length marks * width → AreWide other (marked_rows width cells marks) →
    (length cells ≡ length marks * other) ×
    (marked_rows width cells marks ≡ marked_rows other cells marks)
of_width width other cells [] laid wide = (omega (arith, laid), refl)
of_width width other cells (mark ∷ marks) laid wide =
    let same : width ≡ other =
    width_is width other cells (mark ∷ marks) laid wide (omega arith) in (
      laid ∙ ap (λ (w : ℕ). suc (length marks) * w) same,
      ap (λ (w : ℕ). marked_rows w cells (mark ∷ marks)) same,
    )

-- one row, and then those of the later cells
pub marked_rows-cons : {M : Type 0} (width : ℕ) (row cells : List ℤ) (mark : M) (marks : List M) →
    length row ≡ width →
    marked_rows width (row ++ cells) (mark ∷ marks) ≡ (row, mark) ∷ marked_rows width cells marks
marked_rows-cons width row cells mark marks wide =
    let here = take_at row cells width wide in
    let rest = drop_at row cells width wide in
    λ i. (here i, mark) ∷ marked_rows width (rest i) marks

module _ {M : Type 0} (width : ℕ) (cells : List ℤ) (marks : List M) (i : ℕ)
    (laid : length cells ≡ length marks * width) (within : i ≤ length marks) where
  -- the first rows' cells
  first_laid : length (take (i * width) cells) ≡ length (take i marks) * width
  first_laid =
      let below : i * width ≤ length marks * width = mul-le-mul_right width within in
      let few : length (take i marks) ≡ i = length-take-le i marks within in
      length-take-le (i * width) cells (omega (arith, below, laid)) ∙
      ap (λ (k : ℕ). k * width) (sym few)

  -- other cells and marks follow the first rows
  pub rows_then : (later : List ℤ) (more : List M) →
      marked_rows width (take (i * width) cells ++ later) (take i marks ++ more) ≡
      take i (marked_rows width cells marks) ++ marked_rows width later more
  rows_then later more =
      marked_rows-append width (take (i * width) cells) later (take i marks) more first_laid ∙
      ap (λ (l : List (List ℤ × M)). l ++ marked_rows width later more)
      (sym (take-marked_rows width cells marks i))

  -- a row is put between
  pub marked_rows-insert : (row : List ℤ) (mark : M) → length row ≡ width →
      marked_rows width (take (i * width) cells ++ (row ++ drop (i * width) cells))
      (insert marks i mark) ≡ insert (marked_rows width cells marks) i (row, mark)
  marked_rows-insert row mark wide =
      rows_then (row ++ drop (i * width) cells) (mark ∷ drop i marks) ∙
      ap (λ (l : List (List ℤ × M)). take i (marked_rows width cells marks) ++ l)
      (marked_rows-cons width row (drop (i * width) cells) mark (drop i marks) wide ∙
      ap (λ (l : List (List ℤ × M)). (row, mark) ∷ l) (sym (drop-marked_rows width cells marks i)))

module _ {M : Type 0} (width : ℕ) (cells : List ℤ) (marks : List M) (i : ℕ)
    (laid : length cells ≡ length marks * width) (within : i < length marks) where
  -- the rows after it
  rows_after : marked_rows width (drop (i * width + width) cells) (drop (suc i) marks) ≡
      drop (suc i) (marked_rows width cells marks)
  rows_after =
      let past : i * width + width ≡ suc i * width = omega arith in
      ap (λ (k : ℕ). marked_rows width (drop k cells) (drop (suc i) marks)) past ∙
      sym (drop-marked_rows width cells marks (suc i))

  -- a row is taken out
  pub marked_rows-remove :
      marked_rows width (take (i * width) cells ++ drop (i * width + width) cells)
      (remove marks i) ≡ remove (marked_rows width cells marks) i
  marked_rows-remove =
      rows_then width cells marks i laid (omega arith) (drop (i * width + width) cells)
      (drop (suc i) marks) ∙
      ap (λ (l : List (List ℤ × M)). take i (marked_rows width cells marks) ++ l) rows_after

  -- a row is written over
  pub marked_rows-put : (row : List ℤ) (d : List ℤ × M) → length row ≡ width →
      marked_rows width (take (i * width) cells ++ (row ++ drop (i * width + width) cells)) marks ≡
      slice_set (marked_rows width cells marks) i
      (row, (slice_index_or (marked_rows width cells marks) i d).1)
  marked_rows-put row d wide =
      let rows : List (List ℤ × M) = marked_rows width cells marks in
      let mark : M = slice_index_or marks i d.1 in
      let is_mark : (slice_index_or rows i d).1 ≡ mark =
      ap (λ (r : List ℤ × M). r.1) (row_of-marked_rows width cells marks i d d.1 within) in
      let below : i < length rows = omega (arith, within, length-marked_rows width cells marks) in
      let split : marks ≡ take i marks ++ mark ∷ drop (suc i) marks =
      sym (set-get_or marks i d.1) ∙ set_split marks i mark within in
      let later : List ℤ = drop (i * width + width) cells in
      ap (λ (l : List M). marked_rows width (take (i * width) cells ++ (row ++ later)) l) split ∙
      rows_then width cells marks i laid (omega arith) (row ++ later)
      (mark ∷ drop (suc i) marks) ∙
      ap (λ (l : List (List ℤ × M)). take i rows ++ l)
      (marked_rows-cons width row later mark (drop (suc i) marks) wide ∙
      (λ k. (row, sym is_mark k) ∷ rows_after k)) ∙
      sym (set_split rows i (row, (slice_index_or rows i d).1) below)

-- other marks
pub remarked-marked_rows : {M N : Type 0} (width : ℕ) (cells : List ℤ) (marks : List M)
    (others : List N) → length others ≡ length marks →
    marked_rows width cells others ≡ remarked (marked_rows width cells marks) others
remarked-marked_rows width cells [] [] long = refl
remarked-marked_rows width cells [] (other ∷ others) long = absurd (omega (arith, long))
remarked-marked_rows width cells (mark ∷ marks) [] long = absurd (omega (arith, long))
remarked-marked_rows {M} {N} width cells (mark ∷ marks) (other ∷ others) long =
    ap (λ (l : List (List ℤ × N)). (take width cells, other) ∷ l)
    (remarked-marked_rows width (drop width cells) marks others (omega (arith, long)))

-- all have the mark that all marks are
pub AreMarked-marked_rows : (width : ℕ) (cells : List ℤ) (marks : List Bool) (eq : Bool) →
    All (λ mark. mark ≡ eq) marks → AreMarked eq (marked_rows width cells marks)
AreMarked-marked_rows width cells [] eq same = All-nil (λ (row : Row). row.1 ≡ eq)
AreMarked-marked_rows width cells (mark ∷ marks) eq same =
    All-cons (λ (row : Row). row.1 ≡ eq) (take width cells, mark)
    (marked_rows width (drop width cells) marks) (same 0 mark (omega arith))
    (AreMarked-marked_rows width (drop width cells) marks eq
    (All-tail (λ (m : Bool). m ≡ eq) mark marks same))

-- no cells are those of no row
pub laid_none : (width : ℕ) → width < 2 ^ 32 → IsLaid width 0 []
laid_none width narrow = record {
  taken = omega arith;
  narrow = narrow;
  in_range = All-nil InRange;
}

-- ---- what a list holds after a change
-- the list has rows of a width and no other
module _ {M : Type 0} (width other : ℕ) (cells : List ℤ) (marks : List M)
    (rows : List (List ℤ × M)) (laid : IsLaid width (length marks) cells)
    (seen : marked_rows width cells marks ≡ rows) (wide : AreWide other rows) where
  other_width : (length cells ≡ length marks * other) ×
      (marked_rows width cells marks ≡ marked_rows other cells marks)
  other_width = of_width width other cells marks laid.taken
      (subst (AreWide other) (sym seen) wide)

  seen_so : marked_rows other cells marks ≡ rows
  seen_so = sym other_width.1 ∙ seen

  -- a row is appended
  pub push_rows : (held row new : List ℤ) (kept pushed : List M) (mark : M) → length row ≡ other →
      held ≡ cells → new ≡ held ++ row → kept ≡ marks → pushed ≡ kept ++ mark ∷ [] →
      marked_rows other new pushed ≡ rows ++ (row, mark) ∷ []
  push_rows held row new kept pushed mark long kept_cells cells_are kept_marks marks_are =
      let new_is : new ≡ cells ++ row = cells_are ∙ ap (λ (l : List ℤ). l ++ row) kept_cells in
      let pushed_is : pushed ≡ marks ++ mark ∷ [] =
      marks_are ∙ ap (λ (l : List M). l ++ mark ∷ []) kept_marks in
      let last : marked_rows other row (mark ∷ []) ≡ (row, mark) ∷ [] =
      ap {B = List (List ℤ × M)} (λ (v : List ℤ). (v, mark) ∷ [])
      (take_all other row (omega (arith, long))) in
      (λ k. marked_rows other (new_is k) (pushed_is k)) ∙
      marked_rows-append other cells row marks (mark ∷ []) other_width.0 ∙
      (λ k. seen_so k ++ last k)

  pub push_laid : (held row new : List ℤ) (kept pushed : List M) (mark : M) → length row ≡ other →
      held ≡ cells → new ≡ held ++ row → kept ≡ marks → pushed ≡ kept ++ mark ∷ [] →
      AllInRange row → other < 2 ^ 32 → IsLaid other (length pushed) new
  push_laid held row new kept pushed mark long kept_cells cells_are kept_marks marks_are in_range
      narrow =
      let new_is : new ≡ cells ++ row = cells_are ∙ ap (λ (l : List ℤ). l ++ row) kept_cells in
      let pushed_is : pushed ≡ marks ++ mark ∷ [] =
      marks_are ∙ ap (λ (l : List M). l ++ mark ∷ []) kept_marks in
      let taken : length cells ≡ length marks * other = other_width.0 in
      rw (new_is, pushed_is) (record {
        taken = omega (
          arith,
          taken,
          long,
          length-append cells row,
          ap (λ (n : ℕ). n * other) (length_push marks mark),
        );
        narrow = narrow;
        in_range = All-append InRange cells row laid.in_range in_range;
      })

  -- a row is put between
  pub insert_within : (i : ℕ) → i ≤ length rows → i * other ≤ length cells
  insert_within i within =
      let below : i ≤ length marks = omega (arith, within, counted width cells marks rows seen) in
      let few : i * other ≤ length marks * other = mul-le-mul_right other below in
      omega (arith, few, other_width.0)

  pub insert_rows : (held row new : List ℤ) (kept put : List M) (mark : M) (i : ℕ) →
      i ≤ length rows → length row ≡ other → held ≡ cells →
      new ≡ take (i * other) held ++ (row ++ drop (i * other) held) → kept ≡ marks →
      put ≡ insert kept i mark → marked_rows other new put ≡ insert rows i (row, mark)
  insert_rows held row new kept put mark i within long kept_cells cells_are kept_marks marks_are =
      let below : i ≤ length marks = omega (arith, within, counted width cells marks rows seen) in
      let new_is : new ≡ take (i * other) cells ++ (row ++ drop (i * other) cells) =
      cells_are ∙
      ap (λ (l : List ℤ). take (i * other) l ++ (row ++ drop (i * other) l)) kept_cells in
      let put_is : put ≡ insert marks i mark =
      marks_are ∙ ap (λ (l : List M). insert l i mark) kept_marks in
      (λ k. marked_rows other (new_is k) (put_is k)) ∙
      marked_rows-insert other cells marks i other_width.0 below row mark long ∙
      ap (λ (l : List (List ℤ × M)). insert l i (row, mark)) seen_so

  pub insert_laid : (held row new : List ℤ) (kept put : List M) (mark : M) (i : ℕ) →
      i ≤ length rows → length row ≡ other → held ≡ cells →
      new ≡ take (i * other) held ++ (row ++ drop (i * other) held) → kept ≡ marks →
      put ≡ insert kept i mark → AllInRange row → other < 2 ^ 32 →
      IsLaid other (length put) new
  insert_laid held row new kept put mark i within long kept_cells cells_are kept_marks marks_are
      in_range narrow =
      let below : i ≤ length marks = omega (arith, within, counted width cells marks rows seen) in
      let start : ℕ = i * other in
      let first : start ≤ length cells = insert_within i within in
      let taken : length cells ≡ length marks * other = other_width.0 in
      let new_is : new ≡ take start cells ++ (row ++ drop start cells) =
      cells_are ∙ ap (λ (l : List ℤ). take start l ++ (row ++ drop start l)) kept_cells in
      let put_is : put ≡ insert marks i mark =
      marks_are ∙ ap (λ (l : List M). insert l i mark) kept_marks in
      rw (new_is, put_is) (record {
        taken = omega (
          arith,
          taken,
          long,
          length-append (take start cells) (row ++ drop start cells),
          length-append row (drop start cells),
          length-take-le start cells first,
          length-drop start cells,
          ap (λ (n : ℕ). n * other) (length-insert marks i mark below),
        );
        narrow = narrow;
        in_range = All-append InRange (take start cells) (row ++ drop start cells)
            (All-take InRange start cells laid.in_range)
            (All-append InRange row (drop start cells) in_range
            (All-drop InRange start cells laid.in_range));
      })

-- a row of the list is taken out, or written over
module _ {M : Type 0} (width : ℕ) (cells : List ℤ) (marks : List M)
    (rows : List (List ℤ × M)) (i : ℕ) (laid : IsLaid width (length marks) cells)
    (seen : marked_rows width cells marks ≡ rows) (within : i < length rows) where
  below : i < length marks
  below = omega (arith, within, counted width cells marks rows seen)

  -- its cells lie within the others
  pub row_within : i * width + width ≤ length cells
  row_within =
      let next : suc i ≤ length marks = omega (arith, below) in
      let few : suc i * width ≤ length marks * width = mul-le-mul_right width next in
      omega (arith, few, laid.taken)

  -- it is read
  pub read_row : (d : List ℤ × M) → (slice_index_or rows i d).0 ≡ take width (drop (i * width) cells)
  read_row d = ap (λ (l : List (List ℤ × M)). (slice_index_or l i d).0) (sym seen) ∙
      ap (λ (r : List ℤ × M). r.0) (row_of-marked_rows width cells marks i d d.1 below)

  pub read_mark : (d : List ℤ × M) → (slice_index_or rows i d).1 ≡ slice_index_or marks i d.1
  read_mark d = ap (λ (l : List (List ℤ × M)). (slice_index_or l i d).1) (sym seen) ∙
      ap (λ (r : List ℤ × M). r.1) (row_of-marked_rows width cells marks i d d.1 below)

  pub remove_rows : (new : List ℤ) (left : List M) →
      new ≡ take (i * width) cells ++ drop (i * width + width) cells → left ≡ remove marks i →
      marked_rows width new left ≡ remove rows i
  remove_rows new left cells_are marks_are =
      (λ k. marked_rows width (cells_are k) (marks_are k)) ∙
      marked_rows-remove width cells marks i laid.taken below ∙
      ap (λ (l : List (List ℤ × M)). remove l i) seen

  pub remove_laid : (new : List ℤ) (left : List M) →
      new ≡ take (i * width) cells ++ drop (i * width + width) cells → left ≡ remove marks i →
      IsLaid width (length left) new
  remove_laid new left cells_are marks_are =
      let start : ℕ = i * width in
      let last : start + width ≤ length cells = row_within in
      let few : length (remove marks i) + 1 ≡ length marks = length-remove marks i below in
      let product : (length (remove marks i) + 1) * width ≡ length marks * width =
      ap (λ (n : ℕ). n * width) few in
      rw (cells_are, marks_are) (record {
        taken = omega (
          arith,
          laid.taken,
          product,
          length-append (take start cells) (drop (start + width) cells),
          length-take-le start cells (omega (arith, last)),
          length-drop (start + width) cells,
        );
        narrow = laid.narrow;
        in_range = All-append InRange (take start cells) (drop (start + width) cells)
            (All-take InRange start cells laid.in_range)
            (All-drop InRange (start + width) cells laid.in_range);
      })

  module _ (row : List ℤ) (wide : AreWide (length row) rows) where
    as_wide : length row ≡ width
    as_wide = sym (width_is width (length row) cells marks laid.taken
        (subst (AreWide (length row)) (sym seen) wide) (omega (arith, below)))

    pub put_within : i * width + length row ≤ length cells
    put_within = omega (arith, row_within, as_wide)

    pub put_rows : (new : List ℤ) (d : List ℤ × M) →
        new ≡ take (i * width) cells ++ (row ++ drop (i * width + length row) cells) →
        marked_rows width new marks ≡ slice_set rows i (row, (slice_index_or rows i d).1)
    put_rows new d cells_are =
        let new_is : new ≡ take (i * width) cells ++ (row ++ drop (i * width + width) cells) =
        cells_are ∙ ap (λ (w : ℕ). take (i * width) cells ++ (row ++ drop (i * width + w) cells))
        as_wide in
        ap (λ (l : List ℤ). marked_rows width l marks) new_is ∙
        marked_rows-put width cells marks i laid.taken below row d as_wide ∙
        ap (λ (l : List (List ℤ × M)). slice_set l i (row, (slice_index_or l i d).1)) seen

    pub put_laid : (new : List ℤ) →
        new ≡ take (i * width) cells ++ (row ++ drop (i * width + length row) cells) →
        AllInRange row → IsLaid width (length marks) new
    put_laid new cells_are in_range =
        let start : ℕ = i * width in
        let last : start + length row ≤ length cells = put_within in
        rw cells_are (record {
          taken = omega (
            arith,
            laid.taken,
            length-append (take start cells) (row ++ drop (start + length row) cells),
            length-append row (drop (start + length row) cells),
            length-take-le start cells (omega (arith, last)),
            length-drop (start + length row) cells,
          );
          narrow = laid.narrow;
          in_range = All-append InRange (take start cells) (row ++ drop (start + length row) cells)
              (All-take InRange start cells laid.in_range)
              (All-append InRange row (drop (start + length row) cells) in_range
              (All-drop InRange (start + length row) cells laid.in_range));
        })

-- the width is the other's where no row was there
abbrev pub IsChosen : ℕ → ℕ → ℕ → ℕ → Type 0
IsChosen count width other chosen =
    ((count ≡ 0) × (chosen ≡ other)) ⊎ ((0 < count) × (chosen ≡ width))

-- the rows of another list are appended
module _ {M : Type 0} (width other chosen : ℕ) (cells later : List ℤ) (marks more : List M)
    (rows others : List (List ℤ × M)) (left : IsLaid width (length marks) cells)
    (right : IsLaid other (length more) later) (seen : marked_rows width cells marks ≡ rows)
    (seen_too : marked_rows other later more ≡ others) (one : HaveOneWidth rows others)
    (choice : IsChosen (length marks) width other chosen) where
  -- of that width
  left_as_wide : (length cells ≡ length marks * chosen) × (marked_rows chosen cells marks ≡ rows)
  left_as_wide = by_choice choice
    where
      by_choice : IsChosen (length marks) width other chosen →
          (length cells ≡ length marks * chosen) × (marked_rows chosen cells marks ≡ rows)
      by_choice (inl e) =
          let none : marks ≡ [] = nil_from_length marks e.0 in
          let no_rows : rows ≡ [] =
          sym seen ∙ ap (λ (l : List M). marked_rows width cells l) none in (
            omega (arith, left.taken, ap (λ (n : ℕ). n * width) e.0, ap (λ (n : ℕ). n * chosen) e.0),
            ap (λ (l : List M). marked_rows chosen cells l) none ∙ sym no_rows,
          )
      by_choice (inr e) = (
        left.taken ∙ ap (λ (w : ℕ). length marks * w) (sym e.1),
        ap (λ (w : ℕ). marked_rows w cells marks) e.1 ∙ seen,
      )

  right_as_wide : (length later ≡ length more * chosen) × (marked_rows chosen later more ≡ others)
  right_as_wide = by_choice choice
    where
      by_choice : IsChosen (length marks) width other chosen →
          (length later ≡ length more * chosen) × (marked_rows chosen later more ≡ others)
      by_choice (inl e) = (
        right.taken ∙ ap (λ (w : ℕ). length more * w) (sym e.1),
        ap (λ (w : ℕ). marked_rows w later more) e.1 ∙ seen_too,
      )
      by_choice (inr e) =
          let first : width ≡ one.width = width_is width one.width cells marks left.taken
          (subst (AreWide one.width) (sym seen) one.of_first) e.0 in
          let wide : AreWide chosen (marked_rows other later more) = subst
          (λ (w : ℕ). AreWide w (marked_rows other later more)) (sym (e.1 ∙ first))
          (subst (AreWide one.width) (sym seen_too) one.of_second) in
          let both = of_width other chosen later more right.taken wide in
          (both.0, sym both.1 ∙ seen_too)

  pub append_rows : (held added new : List ℤ) (kept lent both : List M) → held ≡ cells →
      added ≡ later → new ≡ held ++ added → kept ≡ marks → lent ≡ more → both ≡ kept ++ lent →
      marked_rows chosen new both ≡ rows ++ others
  append_rows held added new kept lent both kept_cells later_is cells_are kept_marks more_is
      marks_are =
      let new_is : new ≡ cells ++ later =
      cells_are ∙ (λ k. kept_cells k ++ later_is k) in
      let both_is : both ≡ marks ++ more = marks_are ∙ (λ k. kept_marks k ++ more_is k) in
      (λ k. marked_rows chosen (new_is k) (both_is k)) ∙
      marked_rows-append chosen cells later marks more left_as_wide.0 ∙
      (λ k. left_as_wide.1 k ++ right_as_wide.1 k)

  pub append_laid : (held added new : List ℤ) (kept lent both : List M) → held ≡ cells →
      added ≡ later → new ≡ held ++ added → kept ≡ marks → lent ≡ more → both ≡ kept ++ lent →
      IsLaid chosen (length both) new
  append_laid held added new kept lent both kept_cells later_is cells_are kept_marks more_is
      marks_are =
      let new_is : new ≡ cells ++ later =
      cells_are ∙ (λ k. kept_cells k ++ later_is k) in
      let both_is : both ≡ marks ++ more = marks_are ∙ (λ k. kept_marks k ++ more_is k) in
      rw (new_is, both_is) (record {
        taken = omega (
          arith,
          left_as_wide.0,
          right_as_wide.0,
          length-append cells later,
          ap (λ (n : ℕ). n * chosen) (length-append marks more),
        );
        narrow = narrow choice;
        in_range = All-append InRange cells later left.in_range right.in_range;
      })
    where
      narrow : IsChosen (length marks) width other chosen →
          chosen < 2 ^ 32
      narrow (inl e) = omega (arith, e.1, right.narrow)
      narrow (inr e) = omega (arith, e.1, left.narrow)
