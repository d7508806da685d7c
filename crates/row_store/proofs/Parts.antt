-- Rows of one width in a buffer.
use Rattle.std.proofs.Common.{◌≡◌, ◌≢◌, ℕ, ◌+◌, ◌*◌, ◌<◌, ◌≤◌, List, ◌++◌, length, set, take, drop, refl, sym, ap, inl, inr, ◌⊎◌, subst, ◌∙◌, arith, ℤ}
use Rattle.std.specs.Prelude.{Result, Ok, Err, MatchResult}
use Rattle.std.proofs.lemmas.List.{drop_at, drop-append-le, take-append-le, drop-drop, append_assoc, take-append-drop, take_at}
use Rattle.std.proofs.lemmas.Bool.{cases_lt}
use Rattle.std.proofs.lemmas.Slice.{put_mid-paste}
use Rattle.std.proofs.lemmas.List.Edits.{paste_all}
use borrow.Rule.Slice.PartMut.{put_mid}
use Rattle.row_core.specs.Vectors.{scale, add}
use Rattle.row_core.specs.Range.{CombineStays, IsFirstToLeave, AllStay}
use Rattle.flat_rows.specs.Flat.{Flat, entries_at, rows_of, AreCells, with_cells, window, with_window}
use Rattle.row_core.proofs.CellLemmas.{length-scale, length-add}
use Rattle.row_store.specs.Stores.{IsPartCombined, IsPartLeft, IsCombinedWith, IsRefusedAt}
use Rattle.flat_rows.proofs.Flat.{row_end, length_row, length-window, row_of_cells, rows_of-with_window, with_cells_is}

-- ---- a row written over a part
pub with_window_is : (p w k : ℕ) (cells row : List ℤ) → k ≡ w → length row ≡ w → put_mid p k cells row ≡ with_window p w row cells
with_window_is p w k cells row e l =
    put_mid-paste p k cells row row w refl (sym e) (sym l)
    ∙ paste_all cells p row w (sym l)

-- what a part that wasn't changed leaves
pub with_same_window : (p w : ℕ) (cells : List ℤ) → p + w ≤ length cells → with_window p w (window p w cells) cells ≡ cells
with_same_window p w cells h =
    ap (λ (r : List ℤ). take p cells ++ (window p w cells ++ r)) (sym (drop-drop w p cells ∙ ap (λ (n : ℕ). drop n cells) (omega arith)))
    ∙ ap (λ (r : List ℤ). take p cells ++ r) (take-append-drop w (drop p cells))
    ∙ take-append-drop p cells

-- a row combined in a part, as one combined in the whole
part_combined : (p w k : ℕ) (s t : ℤ) (cells v part new : List ℤ) → k ≡ w → part ≡ window p k cells → p + w ≤ length cells → length new ≡ length part
    → new ≡ add (scale s part) (scale t v) → AllStay (CombineStays part s v t) (length part) → IsPartCombined p w s v t cells (put_mid p k cells new)
part_combined p w k s t cells v part new e is within len value stays =
    let is_w : part ≡ window p w cells = is ∙ ap (λ (n : ℕ). window p n cells) e in
    let wide : length part ≡ w = ap length is_w ∙ length-window p w cells within in (
      with_window_is p w k cells new e (len ∙ wide) ∙ ap (λ (r : List ℤ). with_window p w r cells) (value ∙ ap (λ (r : List ℤ). add (scale s r) (scale t v)) is_w),
      λ i h. subst (λ (r : List ℤ). CombineStays r s v t i) is_w (stays i (omega (arith, wide, h))),
    )

-- and one that was left
part_left : (p w k : ℕ) (s t : ℤ) (cells v part new : List ℤ) (j : ℕ) → k ≡ w → part ≡ window p k cells → p + w ≤ length cells
    → new ≡ part → IsFirstToLeave (CombineStays part s v t) (length part) j → IsPartLeft p w s v t cells (put_mid p k cells new) j
part_left p w k s t cells v part new j e is within same leaves =
    let is_w : part ≡ window p w cells = is ∙ ap (λ (n : ℕ). window p n cells) e in
    let wide : length part ≡ w = ap length is_w ∙ length-window p w cells within in (
      with_window_is p w k cells new e (ap length same ∙ wide) ∙ ap (λ (r : List ℤ). with_window p w r cells) (same ∙ is_w) ∙ with_same_window p w cells within,
      subst (λ (n : ℕ). IsFirstToLeave (CombineStays (window p w cells) s v t) n j) wide (subst (λ (r : List ℤ). IsFirstToLeave (CombineStays r s v t) (length part) j) is_w leaves),
    )

-- the outcome on a part, as an outcome on the whole
pub part_outcome : (p w k : ℕ) (s t : ℤ) (cells v part new : List ℤ) (r : Result ℕ ℕ) → k ≡ w → part ≡ window p k cells → p + w ≤ length cells → length new ≡ length part
    → MatchResult r (λ _. (new ≡ add (scale s part) (scale t v)) × AllStay (CombineStays part s v t) (length part)) (λ j. (new ≡ part) × IsFirstToLeave (CombineStays part s v t) (length part) j)
    → MatchResult r (λ _. IsPartCombined p w s v t cells (put_mid p k cells new)) (IsPartLeft p w s v t cells (put_mid p k cells new))
part_outcome p w k s t cells v part new (Ok x) e is within len h = part_combined p w k s t cells v part new e is within len h.0 h.1
part_outcome p w k s t cells v part new (Err j) e is within len h = part_left p w k s t cells v part new j e is within h.0 h.1

-- ---- two parts of one list
pub with_window_in_front : (p w : ℕ) (row front back : List ℤ) → p + w ≤ length front → with_window p w row front ++ back ≡ with_window p w row (front ++ back)
with_window_in_front p w row front back h =
    append_assoc (take p front) (row ++ drop (p + w) front) back
    ∙ ap (λ (r : List ℤ). take p front ++ r) (append_assoc row (drop (p + w) front) back)
    ∙ ap (λ (r : List ℤ). take p front ++ (row ++ r)) (sym (drop-append-le (p + w) front back h))
    ∙ ap (λ (r : List ℤ). r ++ (row ++ drop (p + w) (front ++ back))) (sym (take-append-le p front back (omega (arith, h))))

pub drop_behind : (p w : ℕ) (front back : List ℤ) → length front ≡ p → drop (p + w) (front ++ back) ≡ drop (0 + w) back
drop_behind p w front back e =
    ap (λ (n : ℕ). drop n (front ++ back)) (omega arith) ∙ sym (drop-drop w p (front ++ back)) ∙ ap (λ (r : List ℤ). drop w r) (drop_at front back p e) ∙ ap (λ (n : ℕ). drop n back) (omega arith)

pub window_in_back : (p w : ℕ) (front back : List ℤ) → length front ≡ p → window 0 w back ≡ window p w (front ++ back)
window_in_back p w front back e = ap (λ (r : List ℤ). take w r) (sym (drop_at front back p e))

pub with_window_in_back : (p w : ℕ) (row front back : List ℤ) → length front ≡ p → front ++ with_window 0 w row back ≡ with_window p w row (front ++ back)
with_window_in_back p w row front back e =
    ap (λ (r : List ℤ). front ++ (row ++ r)) (sym (drop_behind p w front back e))
    ∙ ap (λ (r : List ℤ). r ++ (row ++ drop (p + w) (front ++ back))) (sym (take_at front back p e))

-- the two parts as they are seen in the whole
moved_combined : (p p' w : ℕ) (s t : ℤ) (old v new cells v' new' : List ℤ) → window p' w old ≡ window p w cells → v ≡ v' → ((row : List ℤ) → new ≡ with_window p' w row old → new' ≡ with_window p w row cells)
    → IsPartCombined p' w s v t old new → IsPartCombined p w s v' t cells new'
moved_combined p p' w s t old v new cells v' new' e f wrote h = (
  wrote (add (scale s (window p' w old)) (scale t v)) h.0 ∙ ap (λ (r : List ℤ). with_window p w (add (scale s r) (scale t v)) cells) e ∙ ap (λ (r : List ℤ). with_window p w (add (scale s (window p w cells)) (scale t r)) cells) f,
  λ i l. subst (λ (r : List ℤ). CombineStays r s v' t i) e (subst (λ (r : List ℤ). CombineStays (window p' w old) s r t i) f (h.1 i l)),
)

moved_left : (p p' w : ℕ) (s t : ℤ) (old v new cells v' new' : List ℤ) (j : ℕ) → window p' w old ≡ window p w cells → v ≡ v' → (new ≡ old → new' ≡ cells)
    → IsPartLeft p' w s v t old new j → IsPartLeft p w s v' t cells new' j
moved_left p p' w s t old v new cells v' new' j e f same h =
    (same h.0, subst (λ (r : List ℤ). IsFirstToLeave (CombineStays r s v' t) w j) e (subst (λ (r : List ℤ). IsFirstToLeave (CombineStays (window p' w old) s r t) w j) f h.1))

pub moved_outcome : (p p' w : ℕ) (s t : ℤ) (old v new cells v' new' : List ℤ) (r : Result ℕ ℕ) → window p' w old ≡ window p w cells → v ≡ v' → ((row : List ℤ) → new ≡ with_window p' w row old → new' ≡ with_window p w row cells) → (new ≡ old → new' ≡ cells)
    → MatchResult r (λ _. IsPartCombined p' w s v t old new) (IsPartLeft p' w s v t old new) → MatchResult r (λ _. IsPartCombined p w s v' t cells new') (IsPartLeft p w s v' t cells new')
moved_outcome p p' w s t old v new cells v' new' (Ok x) e f wrote same h = moved_combined p p' w s t old v new cells v' new' e f wrote h
moved_outcome p p' w s t old v new cells v' new' (Err j) e f wrote same h = moved_left p p' w s t old v new cells v' new' j e f same h

-- ---- one row of all
pub rows_apart : (w i j : ℕ) → i ≢ j → (i * w + w ≤ j * w) ⊎ (j * w + w ≤ i * w)
rows_apart w i j other = elim (cases_lt i j) [ inl less ↦ inl (row_end w j i less) | inr more ↦ inr (row_end w i j (omega arith)) ]

combined_with : (i : ℕ) (v : List ℤ) (s t : ℤ) (cells new : List ℤ) (old : Flat ℤ) → AreCells old cells → i < length old.rows → length v ≡ old.width → length new ≡ length cells
    → IsPartCombined (i * old.width) old.width s v t cells new → IsCombinedWith s t i v old (with_cells old new)
combined_with i v s t cells new old are in_i length_v long h =
    let w : ℕ = old.width in
    let n : ℕ = length old.rows in
    let u : List ℤ = window (i * w) w cells in
    let length_u : length u ≡ w = length_row w n i cells in_i are.taken in
    let one : length (add (scale s u) (scale t v)) ≡ w = length-add (scale s u) (scale t v) (length-scale s u ∙ length_u ∙ sym (length-scale t v ∙ length_v)) ∙ length-scale t v ∙ length_v in
    let make : List (List ℤ) → Flat ℤ = λ rs. record old { rows = rs } in
    let at_i : u ≡ entries_at old.rows i = row_of_cells old cells i are in_i in (
      with_cells_is old cells new are.same long
          ∙ ap make (ap (λ (cs : List ℤ). rows_of w n cs) h.0 ∙ rows_of-with_window w n i cells (add (scale s u) (scale t v)) in_i are.taken one
          ∙ ap (λ (rs : List (List ℤ)). set rs i (add (scale s u) (scale t v))) are.rows
          ∙ ap (λ (r : List ℤ). set old.rows i (add (scale s r) (scale t v))) at_i),
      λ c l. subst (λ (r : List ℤ). CombineStays r s v t c) at_i (h.1 c l),
    )

left_with : (i : ℕ) (v : List ℤ) (s t : ℤ) (cells new : List ℤ) (old : Flat ℤ) (c : ℕ) → AreCells old cells → i < length old.rows
    → IsPartLeft (i * old.width) old.width s v t cells new c → IsRefusedAt s t i v old (with_cells old new) c
left_with i v s t cells new old c are in_i h =
    let w : ℕ = old.width in
    let n : ℕ = length old.rows in
    let make : List (List ℤ) → Flat ℤ = λ rs. record old { rows = rs } in
    let at_i : window (i * w) w cells ≡ entries_at old.rows i = row_of_cells old cells i are in_i in (
      with_cells_is old cells new are.same (ap length h.0) ∙ ap make (ap (λ (cs : List ℤ). rows_of w n cs) h.0 ∙ are.rows),
      subst (λ (r : List ℤ). IsFirstToLeave (CombineStays r s v t) w c) at_i h.1,
    )

-- a part of the cells is row i of the rows that are seen
pub record IsRowPart (i p w : ℕ) (inside seen : Flat ℤ) : Type 0 where
  pub seen_as : inside ≡ seen
  pub below : i < length seen.rows
  pub at : p ≡ i * seen.width
  pub wide : w ≡ seen.width

-- what is true of row i as its part of the cells, is true of it as it is seen
pub of_part : (P : ℕ → ℕ → Flat ℤ → Type 0) (i p w : ℕ) (inside seen : Flat ℤ) → IsRowPart i p w inside seen → (i < length inside.rows → P (i * inside.width) inside.width inside) → P p w seen
of_part P i p w inside seen is h =
    subst (λ (n : ℕ). P n w seen) (sym is.at)
    (subst (λ (n : ℕ). P (i * seen.width) n seen) (sym is.wide)
    (subst (λ (f : Flat ℤ). i < length f.rows → P (i * f.width) f.width f) is.seen_as h is.below))

-- a row combined in the buffer, as one combined among the rows
row_combined : (i p w : ℕ) (v : List ℤ) (s t : ℤ) (cells new : List ℤ) (old seen : Flat ℤ) → IsRowPart i p w old seen → AreCells old cells → length v ≡ seen.width → length new ≡ length cells
    → IsPartCombined p w s v t cells new → IsCombinedWith s t i v seen (with_cells old new)
row_combined i p w v s t cells new old seen is are length_v long =
    of_part (λ q n f. IsPartCombined q n s v t cells new → IsCombinedWith s t i v f (with_cells old new)) i p w old seen is
    (λ in_i h. combined_with i v s t cells new old are in_i (length_v ∙ ap (λ (f : Flat ℤ). f.width) (sym is.seen_as)) long h)

-- and one that was left
row_left : (i p w : ℕ) (v : List ℤ) (s t : ℤ) (cells new : List ℤ) (old seen : Flat ℤ) (c : ℕ) → IsRowPart i p w old seen → AreCells old cells
    → IsPartLeft p w s v t cells new c → IsRefusedAt s t i v seen (with_cells old new) c
row_left i p w v s t cells new old seen c is are =
    of_part (λ q n f. IsPartLeft q n s v t cells new c → IsRefusedAt s t i v f (with_cells old new) c) i p w old seen is
    (λ in_i h. left_with i v s t cells new old c are in_i h)

-- the outcome on the buffer, as an outcome on the rows
pub row_outcome : (i p w : ℕ) (v : List ℤ) (s t : ℤ) (cells new : List ℤ) (old seen : Flat ℤ) (r : Result ℕ ℕ) → IsRowPart i p w old seen → AreCells old cells → length v ≡ seen.width → length new ≡ length cells
    → MatchResult r (λ _. IsPartCombined p w s v t cells new) (IsPartLeft p w s v t cells new) → MatchResult r (λ _. IsCombinedWith s t i v seen (with_cells old new)) (IsRefusedAt s t i v seen (with_cells old new))
row_outcome i p w v s t cells new old seen (Ok x) is are length_v long h = row_combined i p w v s t cells new old seen is are length_v long h
row_outcome i p w v s t cells new old seen (Err c) is are length_v long h = row_left i p w v s t cells new old seen c is are h

-- the cells of a part are the row
pub part_is_row : (i p w : ℕ) (cells : List ℤ) (old seen : Flat ℤ) → IsRowPart i p w old seen → AreCells old cells → window p w cells ≡ entries_at seen.rows i
part_is_row i p w cells old seen is are =
    of_part (λ q n f. window q n cells ≡ entries_at f.rows i) i p w old seen is (λ in_i. row_of_cells old cells i are in_i)
