-- A row that is changed in place.
use Rattle.std.proofs.Common.{◌≡◌, ℕ, ◌+◌, ◌*◌, ◌<◌, ◌≤◌, List, ◌++◌, length, take, drop, set, sym, ap, subst, ◌∙◌, arith, ℤ}
use Rattle.std.proofs.lemmas.List.{length-take, take_at}
use Rattle.std.specs.Prelude.{All, Result, Ok, Err, OnOk, OnErr, MatchResult, max}
use Rattle.std.proofs.lemmas.List.Elements.{All-append, All-take, All-drop}
use borrow.Rule.Slice.PartMut.{put_mid}
use Rattle.row_core.specs.Range.{InRange, AllInRange}
use Rattle.flat_rows.specs.Flat.{Flat, entries_at, rows_of, AreCells, with_cells, window}
use Rattle.row_store.specs.Stores.{IsKept, IsPartChanged, IsRowChanged}
use Rattle.flat_rows.proofs.Flat.{rows_of-with_window, entries_at-rows_of, row_of_cells, with_cells_is, All-rows_of}
use Rattle.row_store.proofs.Parts.{with_window_is, window_in_back, IsRowPart, of_part}

-- a row that was changed where a part of the cells was lent
pub part_changed : (Related : List ℤ → List ℤ → Type 0) (p w k : ℕ) (cells part new : List ℤ) → k ≡ w → part ≡ window p k cells → length new ≡ w → Related part new → IsPartChanged Related p w cells (put_mid p k cells new)
part_changed Related p w k cells part new e is wide related = record {
  row = new;
  wide = wide;
  same = with_window_is p w k cells new e wide;
  related = subst (λ (r : List ℤ). Related r new) (is ∙ ap (λ (n : ℕ). window p n cells) e) related;
}

pub part_in_range : (p w k : ℕ) (cells new : List ℤ) → k ≡ w → length new ≡ w → AllInRange cells → AllInRange new → AllInRange (put_mid p k cells new)
part_in_range p w k cells new e wide all changed =
    rw (with_window_is p w k cells new e wide)
    (All-append InRange (take p cells) (new ++ drop (p + w) cells) (All-take InRange p cells all) (All-append InRange new (drop (p + w) cells) changed (All-drop InRange (p + w) cells all)))

-- a part that was changed or left
pub changed_or_left : {A E : Type 0} (P : A → Type 0) (Q : E → Type 0) (old new : List ℤ) (r : Result A E) → OnOk r (AllInRange new) → MatchResult r P (λ j. (new ≡ old) × Q j) → AllInRange old → AllInRange new
changed_or_left P Q old new (Ok x) ok combined all = ok
changed_or_left P Q old new (Err j) ok combined all = subst AllInRange (sym combined.0) all

changed_row : (Related : List ℤ → List ℤ → Type 0) (i : ℕ) (cells new : List ℤ) (old : Flat ℤ) → AreCells old cells → i < length old.rows → length new ≡ length cells
    → IsPartChanged Related (i * old.width) old.width cells new → IsRowChanged Related i old (with_cells old new)
changed_row Related i cells new old are in_i long h =
    let w : ℕ = old.width in
    let n : ℕ = length old.rows in
    record {
      row = h.row;
      same = with_cells_is old cells new are.same long
          ∙ ap (λ (rs : List (List ℤ)). record old { rows = rs }) (ap (λ (cs : List ℤ). rows_of w n cs) h.same ∙ rows_of-with_window w n i cells h.row in_i are.taken h.wide ∙ ap (λ (rs : List (List ℤ)). set rs i h.row) are.rows);
      related = subst (λ (r : List ℤ). Related r h.row) (row_of_cells old cells i are in_i) h.related;
    }

-- a row whose part was changed
pub row_changed : (Related : List ℤ → List ℤ → Type 0) (i p w : ℕ) (cells new : List ℤ) (old seen : Flat ℤ) → IsRowPart i p w old seen → AreCells old cells → length new ≡ length cells
    → IsPartChanged Related p w cells new → IsRowChanged Related i seen (with_cells old new)
row_changed Related i p w cells new old seen is are long =
    of_part (λ q n f. IsPartChanged Related q n cells new → IsRowChanged Related i f (with_cells old new)) i p w old seen is
    (λ in_i h. changed_row Related i cells new old are in_i long h)

-- the part lies within the cells
pub part_within : (cells : List ℤ) (old seen : Flat ℤ) (e : ℕ) → old ≡ seen → AreCells old cells → e ≤ length seen.rows * seen.width → e ≤ length cells
part_within cells old seen e same are within = subst (λ (n : ℕ). e ≤ n) (sym are.taken) (subst (λ (f : Flat ℤ). e ≤ length f.rows * f.width) (sym same) within)

-- what is true of the numbers of a part, where it is lent
pub All-lent : (P : ℤ → Type 0) (p w k : ℕ) (cells : List ℤ) → k ≡ w → All P (window p w cells) → All P (window p k cells)
All-lent P p w k cells e all = subst (λ (n : ℕ). All P (window p n cells)) (sym e) all

-- and of those that are written over it
pub All-written : (P : ℤ → Type 0) (p w k : ℕ) (cells new : List ℤ) → k ≡ w → p + w ≤ length cells → length new ≡ w → All P new → All P (window p w (put_mid p k cells new))
All-written P p w k cells new e within wide all =
    let front : length (take p cells) ≡ p = omega (arith, length-take p cells, within) in
    let same : window p w (put_mid p k cells new) ≡ new = ap (λ (r : List ℤ). window p w r) (with_window_is p w k cells new e wide)
    ∙ sym (window_in_back p w (take p cells) (new ++ drop (p + w) cells) front) ∙ take_at new (drop (p + w) cells) w wide in
    subst (All P) (sym same) all

-- and of the row that the part is
pub All-row : (P : ℤ → Type 0) (i p w : ℕ) (cells new : List ℤ) (old seen : Flat ℤ) → IsRowPart i p w old seen → AreCells old cells → length new ≡ length cells
    → All P (window p w new) → All P (entries_at (with_cells old new).rows i)
All-row P i p w cells new old seen is are long =
    of_part (λ q n f. All P (window q n new) → All P (entries_at (with_cells old new).rows i)) i p w old seen is
    (λ in_i all. subst (All P) (sym (ap (λ (f : Flat ℤ). entries_at f.rows i) (with_cells_is old cells new are.same long) ∙ entries_at-rows_of old.width (length old.rows) i new in_i)) all)

-- ---- what is kept
-- other cells of the range
pub kept_cells : (cells new : List ℤ) (t : Flat ℤ) → AreCells t cells → length new ≡ length cells → AllInRange new → IsKept t → IsKept (with_cells t new)
kept_cells cells new t are long all kept =
    let rows = with_cells_is t cells new are.same long in
    subst IsKept (sym rows) (record { narrow = kept.narrow; in_range = All-rows_of InRange t.width (length t.rows) new all })

-- other rows, of which what holds of the old ones holds
pub kept_among : (t u : Flat ℤ) → u.width ≡ t.width → ((P : List ℤ → Type 0) → All P t.rows → All P u.rows) → IsKept t → IsKept u
kept_among t u width among kept = record { narrow = omega (arith, width, kept.narrow); in_range = among AllInRange kept.in_range }

-- more room
pub kept_reserved : {A E : Type 0} (n : ℕ) (t u : Flat ℤ) (r : Result A E) → OnOk r (u ≡ record t { spare = max t.spare n }) → OnErr r (u ≡ t) → IsKept t → IsKept u
kept_reserved n t u (Ok x) ok err kept = kept_among t u (ap (λ (v : Flat ℤ). v.width) ok) (λ P all. subst (All P) (sym (ap (λ (v : Flat ℤ). v.rows) ok)) all) kept
kept_reserved n t u (Err x) ok err kept = subst IsKept (sym err) kept
