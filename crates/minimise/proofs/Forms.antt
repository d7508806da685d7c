-- Lines in reduced echelon form and rays reduced by them, and why there are none.
use Rattle.std.proofs.Common.{◌≡◌, ◌≢◌, ◌⊎◌, inl, inr, ℕ, ◌+◌, ◌*◌, ◌-◌, ◌<◌, ◌≤◌, List, [], ◌++◌, length, take, slice_index_or, false, ℤ, pos, ◌+ℤ◌, ◌*ℤ◌, refl, sym, ap, ◌∙◌, subst, arith}
use Rattle.std.specs.Prelude.{All}
use Rattle.std.specs.List.{range_with_len}
use Rattle.std.proofs.lemmas.Int.{ints}
use Rattle.std.proofs.lemmas.List.{get_or_append_left, get_or-append-add, length-append, get_or_default}
use Rattle.std.proofs.lemmas.List.Elements.{All-nil}
use Rattle.std.proofs.lemmas.List.FromFn.{get_or-range_with_len, length-range_with_len}
use Rattle.row_core.specs.Content.{IsPrimitive}
use Rattle.row_core.specs.Lists.{Row, Rows, row_at, vectors, Pointwise}
use Rattle.row_core.specs.MarkedLists.{AreLists}
use Rattle.row_core.proofs.RowListLemmas.{length-vectors, vector_at-vectors}
use Rattle.row_core.specs.Vectors.{cell}
use Rattle.minimise.specs.Bases.{IsBasis, IsReduced, AreReduced}
use Rattle.minimise.specs.Lefts.{IsLeftAmong, IsLineBefore, IsRowReduced}
use Rattle.minimise.specs.MinimalForms.{AreFormed, LeavesInForm, IsFormFault}
use Rattle.minimise.specs.Faults.{IsListFault, IsRowFault}
use Rattle.minimise.specs.declared.fault.Fault.{Fault}
use Rattle.minimise.specs.declared.fault.Fault.TheVariants as fault
use Rattle.minimise.specs.declared.fault.Fault.TheVariants.{Memory, Left}
use Rattle.minimise.proofs.Growing.{basis_none}
use Rattle.minimise.proofs.FaultCases.{list_fault_of_row}

-- ---- without a line
once : (x : ℤ) → pos 1 *ℤ x ≡ pos 1 *ℤ x +ℤ pos 0
once x = omega (arith, ints)

reduced_alone : (a : List ℤ) → IsPrimitive a → IsReduced [] a a
reduced_alone a p = record {
  times = pos 1;
  positive = omega (arith, ints);
  factor = pos 1;
  factor_positive = omega (arith, ints);
  factors = [];
  same = λ j. once (cell a j);
  zeros = λ i p h at. absurd (omega (arith, h));
  wide = refl;
  primitive = p;
}

-- primitive rays are their own form
pub form_alone : (lines rays : Rows) → lines.rows ≡ [] → AreLists lines.width lines rays → All IsPrimitive (vectors rays.rows) → AreFormed lines.width lines rays lines rays
form_alone lines rays none lists primitive = record {
  basis = subst (λ (rows : List Row). IsBasis (vectors rows) (vectors rows)) (sym none) basis_none;
  reduced = subst (λ (rows : List Row). Pointwise (IsReduced (vectors rows)) (vectors rays.rows) (vectors rays.rows)) (sym none) (record { as_many = refl; each = λ i d e b. subst (IsReduced [] (slice_index_or (vectors rays.rows) i d)) (get_or_default (vectors rays.rows) i d e b) (reduced_alone (slice_index_or (vectors rays.rows) i d) (primitive i d b)) });
  lists = lists;
  wide = subst (λ (rows : List Row). All (λ (l : List ℤ). length l ≡ lines.width) (vectors rows)) (sym none) (All-nil (λ (l : List ℤ). length l ≡ lines.width));
  as_many = λ free. refl;
}

-- ---- all places of a list
place_is : (n i d : ℕ) → i < n → slice_index_or (range_with_len 0 n) i d ≡ i
place_is n i d h = get_or-range_with_len 0 n i d (omega (arith, h, length-range_with_len 0 n)) ∙ omega arith

pub listed_reduced : (lines : List (List ℤ)) (rows : List Row) (n : ℕ) (places : List ℕ) (reduced : List (List ℤ)) → places ≡ range_with_len 0 n → n ≡ length rows → AreReduced lines rows places reduced → Pointwise (IsReduced lines) (vectors rows) reduced
listed_reduced lines rows n places reduced e many h = record {
  as_many = h.as_many ∙ ap (λ (is : List ℕ). length is) e ∙ length-range_with_len 0 n ∙ many ∙ sym (length-vectors rows);
  each = λ i d f b.
      let l : i < n = omega (arith, b, many, length-vectors rows) in
      let at : slice_index_or places i 0 ≡ i = ap (λ (is : List ℕ). slice_index_or is i 0) e ∙ place_is n i 0 l in
      subst (λ (a : List ℤ). IsReduced lines a (slice_index_or reduced i f)) (get_or_default (vectors rows) i [] d b)
      (subst (λ (a : List ℤ). IsReduced lines a (slice_index_or reduced i f)) (sym (vector_at-vectors rows i))
      (subst (λ (k : ℕ). IsReduced lines (row_at rows k) (slice_index_or reduced i f)) at (h.each i 0 f (omega (arith, l, ap (λ (is : List ℕ). length is) e, length-range_with_len 0 n)))));
}

pub places_within : (n count : ℕ) → n ≡ count → All (λ p. p < count) (range_with_len 0 n)
places_within n count e i d h = let l : i < n = omega (arith, h, length-range_with_len 0 n) in omega (arith, place_is n i d l, l, e)

-- two passes over the lines and one over the rays
pub formed_total : (lines rays width : ℕ) → 2 * (lines * width) + rays * width ≤ 2 * ((lines + rays) * width)
formed_total lines rays width = omega arith

-- ---- faults
module _ (lines rays : List Row) where
  row_first : (i : ℕ) → i < length lines → row_at (lines ++ rays) i ≡ row_at lines i
  row_first i h = ap (λ (row : Row). row.0) (get_or_append_left lines rays ([], false) i h)

  row_later : (i : ℕ) → row_at (lines ++ rays) (length lines + i) ≡ row_at rays i
  row_later i = ap (λ (row : Row). row.0) (get_or-append-add lines rays i ([], false))

  -- a row of the one list is one of both
  among_both : (rows : List Row) (place : (i : ℕ) → i < length rows → (k : ℕ) × (k < length (lines ++ rays)) × (row_at (lines ++ rays) k ≡ row_at rows i)) (flat : List (List ℤ)) (left right : List ℤ) (column : ℕ) → IsLeftAmong rows flat left right column → IsLeftAmong (lines ++ rays) flat left right column
  among_both rows place flat left right column h = record {
    j = h.j;
    within = h.within;
    lines = h.lines;
    basis = h.basis;
    index = h.index;
    below = h.below;
    left_is = h.left_is;
    pivot = h.pivot;
    at = h.at;
    right_is = by_case h.right_is;
    leaves = h.leaves;
  }
    where
      by_case : ((h.j ≢ 0) × IsLineBefore flat (h.j - 1) right) ⊎ IsRowReduced rows (take h.index h.lines) right → ((h.j ≢ 0) × IsLineBefore flat (h.j - 1) right) ⊎ IsRowReduced (lines ++ rays) (take h.index h.lines) right
      by_case (inl b) = inl b
      by_case (inr r) =
          let p = place r.row r.below in
          inr (record { row = p.0; below = p.1; reduced = subst (λ (a : List ℤ). IsReduced (take h.index h.lines) a right) (sym p.2) r.reduced })

  pub fault_of_lines : (flat : List (List ℤ)) (f : Fault) → flat ≡ vectors lines → IsListFault lines flat f → IsFormFault lines rays f
  fault_of_lines flat Memory e h = tt
  fault_of_lines flat (Left left right column) e h =
      subst (λ (vs : List (List ℤ)). IsLeftAmong (lines ++ rays) vs left right column) e
      (among_both lines (λ i b. (i, omega (arith, b, length-append lines rays), row_first i b)) flat left right column h)

  pub fault_of_rays : (basis_lines : List (List ℤ)) (f : Fault) → IsBasis (vectors lines) basis_lines → IsRowFault rays basis_lines f → IsFormFault lines rays f
  fault_of_rays basis_lines Memory b h = tt
  fault_of_rays basis_lines (Left left right column) b h =
      among_both rays (λ i c. (length lines + i, omega (arith, c, length-append lines rays), row_later i)) (vectors lines) left right column (list_fault_of_row rays (vectors lines) basis_lines (Left left right column) b h)

  pub left_in_form : (f : Fault) (left right : List ℤ) (column : ℕ) → f ≡ fault.Left left right column → IsFormFault lines rays f → LeavesInForm lines rays
  left_in_form f left right column e h = record { left = left; right = right; column = column; among = subst (IsFormFault lines rays) e h }
