-- A step with a line that crosses the row leaves no ray to spare where none was.
use Rattle.std.proofs.Common.{◌≡◌, ◌≢◌, ◌⊎◌, inl, inr, ℕ, ◌<◌, ◌≤◌, List, [], ◌∷◌, ◌++◌, length, Bool, true, false, if◌then◌else◌, ℤ, pos, ◌+ℤ◌, ◌-ℤ◌, ◌*ℤ◌, neg_ℤ, ◌<ℤ◌, unsigned_abs, remove, length-append, refl, sym, ap, ◌∙◌, subst, arith}
use Rattle.std.proofs.lemmas.Int.{ints}
use Rattle.std.proofs.lemmas.Bool.{cases_lt}
use Rattle.std.proofs.lemmas.List.{get_or_append_left, get_or_push}
use Rattle.row_core.specs.Vectors.{cell, dot}
use Rattle.row_core.specs.Lists.{Row, Pointwise, vector_at}
use Rattle.cone_laws.specs.Canon.{IsIrredundant}
use Rattle.cone_laws.specs.Steps.{IsLowered, IsLoweredBy, upward, IsLineStep}
use Rattle.row_core.specs.Signs.{sign}
use Rattle.row_core.proofs.Ring.{neg-mul, magnitude_positive, zero_of_mul}
use Rattle.cone_laws.proofs.Sums.{V, Same, Nothing, SpansBy, same_value, sums_zero, sums_one_line, sums_one_ray, spans_sums, spans_same, spans_of_multiple, spans_add, spans_spans}
use Rattle.cone_laws.proofs.Columns.{value, value_linear, dot_is, cell-scale}
use Rattle.cone_laws.proofs.Bridge.{columns, In, in_at}
use Rattle.cone_laws.proofs.LineSteps.{rest_in_whole, lowered_dot, upward_dot}
use Rattle.cone_laws.proofs.Instance.{Beside, needed_by_columns, needed_by_lists}

module _ (a l : List ℤ) (crosses : dot a l ≢ pos 0) (lines rays kept : List (List ℤ)) (to_kept : Pointwise (IsLowered a l) rays kept) (is_line : In lines (cell l)) where
  magnitude : ℤ
  magnitude = pos (unsigned_abs (dot a l))

  magnitude_above : pos 0 <ℤ magnitude
  unfolding magnitude
  magnitude_above = magnitude_positive (dot a l) crosses

  part : List ℤ → ℤ
  part w = sign (dot a l) *ℤ dot a w

  lowered_same : (w r : List ℤ) (b : IsLoweredBy a l w r) (j : ℕ) → b.times *ℤ cell r j ≡ magnitude *ℤ cell w j -ℤ part w *ℤ cell l j
  unfolding magnitude part
  lowered_same w r b j = b.same j

  of_line : (R : V → Type 0) (c : ℤ) (v : V) → ((j : ℕ) → v j ≡ c *ℤ cell l j) → SpansBy (In lines) R v
  of_line R c v e = spans_sums v (sums_one_line c (cell l) v is_line e)

  -- a lowered vector, where the old one is spanned
  lowered_spanned : (R : V → Type 0) (w r : List ℤ) → IsLoweredBy a l w r → SpansBy (In lines) R (cell w) → SpansBy (In lines) R (cell r)
  lowered_spanned R w r b s = spans_of_multiple b.times (cell r) (λ j. b.times *ℤ cell r j) b.positive (spans_add magnitude (pos 1) (cell w) (λ j. neg_ℤ (part w) *ℤ cell l j) (λ j. b.times *ℤ cell r j) (omega (arith, ints, magnitude_above)) (omega (arith, ints)) s (of_line R (neg_ℤ (part w)) (λ j. neg_ℤ (part w) *ℤ cell l j) (λ j. refl)) (λ j. with_one (b.times *ℤ cell r j) magnitude (cell w j) (part w) (cell l j) (lowered_same w r b j))) (λ j. refl)
    where
      with_one : (x m w c l : ℤ) → x ≡ m *ℤ w -ℤ c *ℤ l → x ≡ m *ℤ w +ℤ pos 1 *ℤ (neg_ℤ c *ℤ l)
      with_one x m w c l e = omega (arith, ints, neg-mul c l)

  -- the old vector, where the lowered one is spanned
  raised_spanned : (R : V → Type 0) (w r : List ℤ) → IsLoweredBy a l w r → SpansBy (In lines) R (cell r) → SpansBy (In lines) R (cell w)
  raised_spanned R w r b s = spans_of_multiple magnitude (cell w) (λ j. magnitude *ℤ cell w j) magnitude_above (spans_add b.times (pos 1) (cell r) (λ j. part w *ℤ cell l j) (λ j. magnitude *ℤ cell w j) (omega (arith, ints, b.positive)) (omega (arith, ints)) s (of_line R (part w) (λ j. part w *ℤ cell l j) (λ j. refl)) (λ j. with_one (b.times *ℤ cell r j) magnitude (cell w j) (part w) (cell l j) (lowered_same w r b j))) (λ j. refl)
    where
      with_one : (x m w c l : ℤ) → x ≡ m *ℤ w -ℤ c *ℤ l → m *ℤ w ≡ x +ℤ pos 1 *ℤ (c *ℤ l)
      with_one x m w c l e = omega (arith, ints)

  old : (i : ℕ) → i < length kept → i < length rays
  old i b = omega (arith, to_kept.as_many)

  kept_is : (i : ℕ) → i < length kept → IsLoweredBy a l (vector_at rays i) (vector_at kept i)
  kept_is i b = (to_kept.each i [] [] (old i b)).lowered

  -- the new rays: those kept, and the line where the row is no equality
  abbrev whole : Bool → List (List ℤ)
  whole eq = kept ++ (if eq then [] else (upward a l ∷ []))

  abbrev IsLast : Bool → ℕ → Type 0
  IsLast eq i = (i ≡ length kept) × (vector_at (whole eq) i ≡ upward a l)

  new_at : (eq : Bool) (i : ℕ) → i < length (whole eq) → (i < length kept) ⊎ IsLast eq i
  new_at true i b = inl (omega (arith, length-append kept []))
  new_at false i b = by_order (cases_lt i (length kept))
    where
      by_order : (i < length kept) ⊎ (length kept ≤ i) → (i < length kept) ⊎ IsLast false i
      by_order (inl h) = inl h
      by_order (inr h) =
          let e : i ≡ length kept = omega (arith, length-append kept (upward a l ∷ [])) in
          inr (e, ap (vector_at (whole false)) e ∙ get_or_push kept (upward a l) [] (length kept) refl)

  kept_same : (eq : Bool) (i : ℕ) → i < length kept → vector_at (whole eq) i ≡ vector_at kept i
  kept_same eq i b = get_or_append_left kept (if eq then [] else (upward a l ∷ [])) [] i b

  as_columns : (u v : List ℤ) → u ≡ v → Same (cell u) (cell v)
  as_columns u v e j = ap (λ (w : List ℤ). cell w j) e

  module _ (new_lines : List (List ℤ)) (index : ℕ) (below : index < length lines) (to_lines : Pointwise (IsLowered a l) (remove lines index) new_lines) (needed : IsIrredundant lines rays) where
    line_is : (i : ℕ) → i < length new_lines → IsLoweredBy a l (vector_at (remove lines index) i) (vector_at new_lines i)
    line_is i b = (to_lines.each i [] [] (omega (arith, to_lines.as_many))).lowered

    rest_in : (i : ℕ) → i < length new_lines → In lines (columns (remove lines index) i)
    rest_in i b = let w = rest_in_whole lines index i below (omega (arith, to_lines.as_many)) in record { index = w.place; is = w.below; same = as_columns (vector_at (remove lines index) i) (vector_at lines w.place) w.same }

    -- new lines are spanned by the old ones
    line_spanned : (u : V) → In new_lines u → SpansBy (In lines) Nothing u
    line_spanned u m = spans_same (columns new_lines m.index) u (lowered_spanned Nothing (vector_at (remove lines index) m.index) (vector_at new_lines m.index) (line_is m.index m.is) (spans_sums (columns (remove lines index) m.index) (sums_one_line (pos 1) (columns (remove lines index) m.index) (columns (remove lines index) m.index) (rest_in m.index m.is) (λ j. omega (arith, ints))))) m.same

    -- new rays but one are spanned by the old lines and the old rays but that one
    other_spanned : (eq : Bool) (i : ℕ) (u : V) → Beside (whole eq) i u → SpansBy (In lines) (Beside rays i) u
    other_spanned eq i u m = by_place (new_at eq m.index m.is.0)
      where
        one_ray : (h : m.index < length kept) → SpansBy (In lines) (Beside rays i) (columns rays m.index)
        one_ray h = spans_sums (columns rays m.index) (sums_one_ray (pos 1) (columns rays m.index) (columns rays m.index) (omega (arith, ints)) (record { index = m.index; is = (old m.index h, m.is.1); same = λ j. refl }) (λ j. omega (arith, ints)))

        by_place : (m.index < length kept) ⊎ IsLast eq m.index → SpansBy (In lines) (Beside rays i) u
        by_place (inl h) = spans_same (columns kept m.index) u (lowered_spanned (Beside rays i) (vector_at rays m.index) (vector_at kept m.index) (kept_is m.index h) (one_ray h)) (λ j. m.same j ∙ as_columns (vector_at (whole eq) m.index) (vector_at kept m.index) (kept_same eq m.index h) j)
        by_place (inr h) = of_line (Beside rays i) (sign (dot a l)) u (λ j. m.same j ∙ as_columns (vector_at (whole eq) m.index) (upward a l) h.1 j ∙ cell-scale (sign (dot a l)) l j)

    kept_required : (eq : Bool) (i : ℕ) → i < length kept → ¬ (SpansBy (In new_lines) (Beside (whole eq) i) (columns (whole eq) i))
    kept_required eq i b s = needed_by_columns lines rays needed i (old i b) (raised_spanned (Beside rays i) (vector_at rays i) (vector_at kept i) (kept_is i b) (spans_same (columns (whole eq) i) (columns kept i) (spans_spans line_spanned (other_spanned eq i) (columns (whole eq) i) s) (λ j. sym (as_columns (vector_at (whole eq) i) (vector_at kept i) (kept_same eq i b) j))))

    -- the row is 0 on all new lines and rays but the line that became one
    abbrev map : V → ℤ
    map = value a

    list_value : (u : V) (r : List ℤ) → Same u (cell r) → map u ≡ dot a r
    list_value u r e = same_value map (value_linear a) u (cell r) e ∙ sym (dot_is a r)

    line_level : (u : V) → In new_lines u → map u ≡ pos 0
    line_level u m = list_value u (vector_at new_lines m.index) m.same ∙ lowered_dot a l (vector_at (remove lines index) m.index) (vector_at new_lines m.index) (line_is m.index m.is)

    other_level : (eq : Bool) (i : ℕ) → IsLast eq i → (u : V) → Beside (whole eq) i u → map u ≡ pos 0
    other_level eq i last u m = by_place (new_at eq m.index m.is.0)
      where
        by_place : (m.index < length kept) ⊎ IsLast eq m.index → map u ≡ pos 0
        by_place (inl h) = list_value u (vector_at kept m.index) (λ j. m.same j ∙ as_columns (vector_at (whole eq) m.index) (vector_at kept m.index) (kept_same eq m.index h) j) ∙ lowered_dot a l (vector_at rays m.index) (vector_at kept m.index) (kept_is m.index h)
        by_place (inr h) = absurd (m.is.1 (h.0 ∙ sym last.0))

    last_required : (eq : Bool) (i : ℕ) → IsLast eq i → ¬ (SpansBy (In new_lines) (Beside (whole eq) i) (columns (whole eq) i))
    unfolding magnitude
    last_required eq i last s = omega (arith, ints, magnitude_above, zero_of_mul s.times (map (columns (whole eq) i)) s.positive (sym ((value_linear a).multiple (λ j. s.times *ℤ columns (whole eq) i j) (columns (whole eq) i) s.times (λ j. refl)) ∙ sums_zero map (value_linear a) line_level (other_level eq i last) (λ j. s.times *ℤ columns (whole eq) i j) s.sums), list_value (columns (whole eq) i) (upward a l) (as_columns (vector_at (whole eq) i) (upward a l) last.1), upward_dot a l)

    required : (eq : Bool) (i : ℕ) → i < length (whole eq) → ¬ (SpansBy (In new_lines) (Beside (whole eq) i) (columns (whole eq) i))
    required eq i b = by_place (new_at eq i b)
      where
        by_place : (i < length kept) ⊎ IsLast eq i → ¬ (SpansBy (In new_lines) (Beside (whole eq) i) (columns (whole eq) i))
        by_place (inl h) = kept_required eq i h
        by_place (inr h) = last_required eq i h

    whole_irredundant : (eq : Bool) → IsIrredundant new_lines (whole eq)
    whole_irredundant eq = needed_by_lists new_lines (whole eq) (required eq)

pub line_step_irredundant : (row : Row) (lines rays new_lines new_rays : List (List ℤ)) → IsIrredundant lines rays → IsLineStep row lines rays new_lines new_rays → IsIrredundant new_lines new_rays
line_step_irredundant row lines rays new_lines new_rays needed s = subst (λ (r : List (List ℤ)). IsIrredundant new_lines r) (sym s.result) (whole_irredundant row.0 (vector_at lines s.index) s.crossing.crosses lines rays s.kept s.rays_lowered (in_at lines s.index s.crossing.below) new_lines s.index s.crossing.below s.lines_lowered needed row.1)
