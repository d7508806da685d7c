-- Rows that are cleared at the pivot of a line.
use Rattle.std.proofs.Common.{◌≡◌, ◌≢◌, ◌⊎◌, inl, inr, ℕ, ◌+◌, ◌<◌, ◌≤◌, Bool, true, false, List, [], ◌∷◌, ◌++◌, length, take, drop, set, slice_index_or, ℤ, pos, ◌-ℤ◌, ◌*ℤ◌, ◌<ℤ◌, refl, sym, ap, ◌∙◌, subst, arith}
use Rattle.std.specs.Prelude.{remove}
use Rattle.std.specs.List.{insert}
use Rattle.std.proofs.lemmas.Int.{ints}
use Rattle.std.proofs.lemmas.Bool.{cases_eq, cases_lt}
use Rattle.std.proofs.lemmas.List.{map-append, take-map, drop-map, take-append-drop, length-take-le, length-set, get_or-set_same, get_or-set_other, get_or_default}
use Rattle.std.proofs.lemmas.List.Edits.{length-insert, get_or-insert_at}
use Rattle.std.proofs.lemmas.List.Elements.{All-from_get_or, All-append, All-cons, All-take, All-drop, All-same}
use Rattle.row_core.specs.Vectors.{cell}
use Rattle.row_core.specs.Content.{IsPrimitive}
use Rattle.row_core.specs.Lists.{Row, Pointwise, row_at, is_eq_at, vectors, vector_at, AreMarked}
use Rattle.row_core.proofs.Ring.{zero-mul}
use Rattle.row_core.proofs.RowListLemmas.{length-vectors, vector_at-vectors}
use Rattle.cone_laws.specs.Canon.{IsPivot, IsEchelon}
use Rattle.row_core.specs.Signs.{sign}
use Rattle.row_core.specs.Combinations.{IsCombined}
use Rattle.row_core.proofs.Magnitudes.{magnitude-positive, sign_above}
use Rattle.minimise.specs.Bases.{IsCleared, IsLineCleared, AreCleared, IsPlace, HasTaken}
use Rattle.minimise.proofs.LeftCases.{remove_between}

-- ---- one row
pub cleared_zero : (c : ℕ) (l w : List ℤ) → pos 0 <ℤ cell l c → cell w c ≡ pos 0 → IsPrimitive w → IsCleared c l w w
cleared_zero c l w above zero primitive = record {
  cleared = record { times = cell l c; positive = above; same = λ j. nothing_less (cell l c *ℤ cell w j) (cell w c) (cell l j) zero };
  wide = refl;
  primitive = primitive;
}
  where
    nothing_less : (x y z : ℤ) → y ≡ pos 0 → x ≡ x -ℤ y *ℤ z
    nothing_less x y z e = let f : y *ℤ z ≡ pos 0 = ap (λ (u : ℤ). u *ℤ z) e ∙ zero-mul z in omega (arith, ints, f)

pub cleared_from_combined : (c : ℕ) (l w r : List ℤ) → pos 0 <ℤ cell l c → IsCombined (cell l c) (cell w c) l w r → IsCleared c l w r
cleared_from_combined c l w r above h = record {
  cleared = record {
    times = h.times;
    positive = h.positive;
    same = λ j. h.same j ∙ ap (λ (x : ℤ). x *ℤ cell w j -ℤ (sign (cell l c) *ℤ cell w c) *ℤ cell l j) (magnitude-positive (cell l c) above) ∙ ap (λ (x : ℤ). cell l c *ℤ cell w j -ℤ x *ℤ cell l j) (sym (sign_above (cell l c) (cell w c) above));
  };
  wide = h.wide;
  primitive = h.primitive;
}

-- ---- a line of a list
-- that is written over
pub line_put : (c : ℕ) (line : List ℤ) (rows : List Row) (i : ℕ) (r : List ℤ) (new : List Row) → i < length rows → IsCleared c line (row_at rows i) r → new ≡ set rows i (r, is_eq_at rows i) → IsLineCleared c line rows i new
line_put c line rows i r new h made is = record {
  as_many = ap length is ∙ length-set rows i (r, is_eq_at rows i);
  cleared = subst (λ (v : List ℤ). IsCleared c line (row_at rows i) v) (sym (ap (λ (row : Row). row.0) here)) made;
  others = λ k ne. ap (λ (row : Row). row.0) (there k ne);
  marks = λ k. by_place k (cases_eq k i);
}
  where
    here : slice_index_or new i ([], false) ≡ (r, is_eq_at rows i)
    here = ap (λ (rs : List Row). slice_index_or rs i ([], false)) is ∙ get_or-set_same rows i (r, is_eq_at rows i) ([], false) h

    there : (k : ℕ) → k ≢ i → slice_index_or new k ([], false) ≡ slice_index_or rows k ([], false)
    there k ne = ap (λ (rs : List Row). slice_index_or rs k ([], false)) is ∙ get_or-set_other rows i k (r, is_eq_at rows i) ([], false) ne

    by_place : (k : ℕ) → (k ≡ i) ⊎ (k ≡ i → ⊥) → is_eq_at new k ≡ is_eq_at rows k
    by_place k (inl e) = subst (λ (n : ℕ). is_eq_at new n ≡ is_eq_at rows n) (sym e) (ap (λ (row : Row). row.1) here)
    by_place k (inr ne) = ap (λ (row : Row). row.1) (there k ne)

pub marked_after : (c : ℕ) (line : List ℤ) (rows : List Row) (i : ℕ) (new : List Row) → IsLineCleared c line rows i new → AreMarked true rows → AreMarked true new
marked_after c line rows i new made marked = All-from_get_or (λ (row : Row). row.1 ≡ true) new ([], false) (λ k h. made.marks k ∙ marked k ([], false) (omega (arith, h, made.as_many)))

-- ---- the lines before a place
pub cleared_more : (c : ℕ) (line : List ℤ) (lines : List (List ℤ)) (i : ℕ) (old new : List Row) → AreCleared c line lines i (vectors old) → IsLineCleared c line old i new → AreCleared c line lines (i + 1) (vectors new)
cleared_more c line lines i old new before made = record {
  as_many = length-vectors new ∙ made.as_many ∙ sym (length-vectors old) ∙ before.as_many;
  each = λ m h. by_place m h (cases_lt m i);
  behind = λ m h. other m (λ e. omega (arith, h, e)) ∙ before.behind m (omega (arith, h));
}
  where
    other : (m : ℕ) → m ≢ i → vector_at (vectors new) m ≡ vector_at (vectors old) m
    other m ne = vector_at-vectors new m ∙ made.others m ne ∙ sym (vector_at-vectors old m)

    by_place : (m : ℕ) → m < i + 1 → (m < i) ⊎ (i ≤ m) → IsCleared c line (vector_at lines m) (vector_at (vectors new) m)
    by_place m h (inl l) = subst (λ (v : List ℤ). IsCleared c line (vector_at lines m) v) (sym (other m (λ e. omega (arith, l, e)))) (before.each m l)
    by_place m h (inr l) =
        let e : m ≡ i = omega (arith, h, l) in
        subst (λ (n : ℕ). IsCleared c line (vector_at lines n) (vector_at (vectors new) n)) (sym e)
        (subst (λ (v : List ℤ). IsCleared c line v (vector_at (vectors new) i)) (sym (vector_at-vectors old i) ∙ before.behind i (omega arith))
        (subst (λ (v : List ℤ). IsCleared c line (row_at old i) v) (sym (vector_at-vectors new i)) made.cleared))

-- ---- a line more
vectors-insert : (rows : List Row) (k : ℕ) (v : List ℤ) (eq : Bool) → vectors (insert rows k (v, eq)) ≡ insert (vectors rows) k v
vectors-insert rows k v eq =
    map-append (λ (row : Row). row.0) (take k rows) ((v, eq) ∷ drop k rows) ∙ ap (λ (vs : List (List ℤ)). vs ++ v ∷ vectors (drop k rows)) (sym (take-map (λ (row : Row). row.0) k rows))
    ∙ ap (λ (vs : List (List ℤ)). take k (vectors rows) ++ v ∷ vs) (sym (drop-map (λ (row : Row). row.0) k rows))

pub marked_insert : (rows : List Row) (k : ℕ) (v : List ℤ) (new : List Row) → new ≡ insert rows k (v, true) → AreMarked true rows → AreMarked true new
marked_insert rows k v new is marked =
    let P : Row → Type 0 = λ row. row.1 ≡ true in
    All-same P new (insert rows k (v, true)) is (All-append P (take k rows) ((v, true) ∷ drop k rows) (All-take P k rows marked) (All-cons P (v, true) (drop k rows) refl (All-drop P k rows marked)))

pub taken_from : (c : ℕ) (lines : List (List ℤ)) (line : List ℤ) (k : ℕ) (cleared_rows new : List Row) → IsEchelon lines [] → ((i : ℕ) → i < length lines → IsPrimitive (vector_at lines i)) → IsPivot line c → IsPlace lines c k → AreCleared c line lines k (vectors cleared_rows) → new ≡ insert cleared_rows k (line, true) → HasTaken c lines line (vectors new)
taken_from c lines line k cleared_rows new e primitive at place cleared is = subst (λ (vs : List (List ℤ)). HasTaken c lines line vs) (sym (ap vectors is ∙ vectors-insert cleared_rows k line true)) (record {
  k = k;
  place = place;
  within = omega (arith, length-insert mid k line fits, fits);
  line_is = get_or-insert_at mid k line [] fits;
  cleared = subst (λ (vs : List (List ℤ)). Pointwise (IsCleared c line) lines vs) (sym others_are) others;
})
  where
    mid : List (List ℤ)
    mid = vectors cleared_rows

    fits : k ≤ length mid
    fits = omega (arith, place.within, cleared.as_many)

    others_are : remove (insert mid k line) k ≡ mid
    others_are = remove_between (take k mid) (drop k mid) line k (length-take-le k mid fits) ∙ take-append-drop k mid

    rest : (i : ℕ) → k ≤ i → i < length lines → IsCleared c line (vector_at lines i) (vector_at mid i)
    rest i l h = subst (λ (v : List ℤ). IsCleared c line (vector_at lines i) v) (sym (cleared.behind i l)) (cleared_zero c line (vector_at lines i) at.positive ((e.pivots i h).before c (place.behind i (e.pivot i) l h (e.pivots i h))) (primitive i h))

    by_place : (i : ℕ) → i < length lines → (i < k) ⊎ (k ≤ i) → IsCleared c line (vector_at lines i) (vector_at mid i)
    by_place i h (inl l) = cleared.each i l
    by_place i h (inr l) = rest i l h

    others : Pointwise (IsCleared c line) lines mid
    others = record {
      as_many = cleared.as_many;
      each = λ i d f h.
          subst (λ (v : List ℤ). IsCleared c line v (slice_index_or mid i f)) (get_or_default lines i [] d h)
          (subst (λ (v : List ℤ). IsCleared c line (vector_at lines i) v) (get_or_default mid i [] f (omega (arith, h, cleared.as_many))) (by_place i h (cases_lt i k)));
    }
