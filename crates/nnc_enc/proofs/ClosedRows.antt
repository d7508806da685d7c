-- The set of a system without column e, and what spans it.
use Rattle.std.proofs.Common.{◌≡◌, ℕ, suc, ◌+◌, ◌<◌, List, [], length, slice_index_or, false, ℤ, pos, ◌+ℤ◌, ◌*ℤ◌, ◌≤ℤ◌, sym, ap, ◌∙◌, subst, arith}
use Rattle.std.proofs.lemmas.List.{get_or_default}
use Rattle.row_core.specs.Vectors.{cell, dot}
use Rattle.row_core.specs.Lists.{Row}
use Rattle.cone_laws.specs.Cones.{Meets, Upto}
use Rattle.cone_laws.specs.Canon.{vector_at, IsSystem}
use Rattle.cone_laws.proofs.Sums.{V, IsMore, Same, Among, SpansBy, same_value, sums_same, spans_same, spans_spans}
use Rattle.cone_laws.proofs.Columns.{value, value_linear, dot_is}
use Rattle.cone_laws.proofs.Bridge.{In, to_sums}
use Rattle.cone_laws.proofs.UptoRows.{asks_least}
use Rattle.cone_laws.proofs.Existence.{both, cell-both, length-both}
use Rattle.cone_laws.proofs.Bipolar.{dot-both}
use Rattle.nnc_enc.specs.Encoding.{raised, lowered}
use Rattle.nnc_enc.proofs.KeptSums.{IsKept, line_span}
use Rattle.nnc_enc.proofs.EncodedRows.{dot_by_height, remove_insert, length_remove, length_insert, cell_insert}
use Rattle.nnc_enc.proofs.Relaxed.{Numbered, asks_combined, cell-remove, no_height, relaxed, relaxed_lines, skip, sum_entry, sum_same, sums_columns}

module _ (dim : ℕ) (gens : List Row) (lines rays : List (List ℤ)) (wide : (j : ℕ) → j < length gens → length (slice_index_or gens j ([], false)).0 ≡ dim + 2) (system : IsSystem (Upto (dim + 2) gens (length gens)) lines rays) where
  abbrev gen : ℕ → List ℤ
  gen j = (slice_index_or gens j ([], false)).0

  abbrev D : List ℤ → Type 0
  D = Upto (dim + 2) gens (length gens)

  -- the value of a vector of the list, by its value without column e
  pub value_raised : (j : ℕ) → j < length gens → (p : List ℤ) (z : ℤ) → length p ≡ dim + 1 → dot (gen j) (raised dim p z) ≡ dot (lowered dim (gen j)) p +ℤ cell (gen j) dim *ℤ z
  value_raised j h p z w =
      dot_by_height dim (gen j) (raised dim p z) (omega (arith, wide j h)) (omega (arith, length_insert dim p z (omega (arith, w)), w))
      ∙ ap (λ (q : List ℤ). dot (lowered dim (gen j)) q +ℤ cell (gen j) dim *ℤ cell (raised dim p z) dim) (remove_insert dim p z (omega (arith, w)))
      ∙ ap (λ (y : ℤ). dot (lowered dim (gen j)) p +ℤ cell (gen j) dim *ℤ y) (cell_insert dim p z (omega (arith, w)))

  pub value_flat : (j : ℕ) → j < length gens → (p : List ℤ) → length p ≡ dim + 1 → dot (gen j) (raised dim p (pos 0)) ≡ dot (lowered dim (gen j)) p
  value_flat j h p w = no_height (dot (lowered dim (gen j)) p) (cell (gen j) dim) (dot (gen j) (raised dim p (pos 0))) (value_raised j h p (pos 0) w)

  pub least_on : (a : List ℤ) → D a → (j : ℕ) → j < length gens → pos 0 ≤ℤ dot (gen j) a
  least_on a u j h = asks_least (slice_index_or gens j ([], false)).1 (dot (gen j) a) (u.meets j ([], false) (omega arith) h)

  pub lowered_wide : (a : List ℤ) → length a ≡ dim + 2 → length (lowered dim a) ≡ dim + 1
  lowered_wide a w = omega (arith, length_remove dim a (omega (arith, w)), w)

  -- the value without column e
  abbrev test : ℕ → V → ℤ
  test j = value (lowered dim (gen j))

  test_is : (j : ℕ) (a : List ℤ) → value (lowered dim (gen j)) (cell a) ≡ dot (lowered dim (gen j)) a
  test_is j a = sym (dot_is (lowered dim (gen j)) a)

  -- the rows without column e that are at least 0 on all vectors of the list
  pub record IsClosed (u : V) : Type 0 where
    pub row : List ℤ
    pub row_wide : length row ≡ dim + 1
    pub member : D (raised dim row (pos 0))
    pub same : Same u (cell row)

  closed_value : (j : ℕ) → j < length gens → (u : V) (c : IsClosed u) → value (lowered dim (gen j)) u ≡ dot (gen j) (raised dim c.row (pos 0))
  closed_value j h u c =
      same_value (value (lowered dim (gen j))) (value_linear (lowered dim (gen j))) u (cell c.row) c.same
      ∙ test_is j c.row ∙ sym (value_flat j h c.row c.row_wide)

  pub closed_side : (j : ℕ) → j < length gens → (u : V) → IsClosed u → pos 0 ≤ℤ value (lowered dim (gen j)) u
  closed_side j h u c = subst (λ (z : ℤ). pos 0 ≤ℤ z) (sym (closed_value j h u c)) (least_on (raised dim c.row (pos 0)) c.member j h)

  both_entries : (x y s t p q z : ℤ) → x ≡ p → y ≡ q → z ≡ s *ℤ x +ℤ t *ℤ y → z ≡ s *ℤ p +ℤ t *ℤ q
  both_entries x y s t p q z e f g = g ∙ ap (λ (n : ℤ). s *ℤ n +ℤ t *ℤ y) e ∙ ap (λ (n : ℤ). s *ℤ p +ℤ t *ℤ n) f

  pub closed_combine : (e c d : V) (s t : ℤ) → IsClosed c → IsClosed d → ((j : ℕ) → e j ≡ s *ℤ c j +ℤ t *ℤ d j) → ((j : ℕ) → j < length gens → pos 0 ≤ℤ value (lowered dim (gen j)) e) → IsClosed e
  closed_combine e c d s t cc cd h least = record {
    row = both s cc.row t cd.row;
    row_wide = wide_both;
    member = record { wide = length_insert dim (both s cc.row t cd.row) (pos 0) (omega (arith, wide_both)) ∙ ap suc wide_both ∙ omega arith; meets = λ j d low high. meets_at j d high };
    same = same_both;
  }
    where
      wide_both : length (both s cc.row t cd.row) ≡ dim + 1
      wide_both = length-both s cc.row t cd.row (cc.row_wide ∙ sym cd.row_wide) ∙ cd.row_wide

      same_both : Same e (cell (both s cc.row t cd.row))
      same_both j = both_entries (c j) (d j) s t (cell cc.row j) (cell cd.row j) (e j) (cc.same j) (cd.same j) (h j) ∙ sym (cell-both s cc.row t cd.row j)

      value_at : (j : ℕ) → j < length gens → dot (gen j) (raised dim (both s cc.row t cd.row) (pos 0)) ≡ s *ℤ dot (gen j) (raised dim cc.row (pos 0)) +ℤ t *ℤ dot (gen j) (raised dim cd.row (pos 0))
      value_at j l =
          value_flat j l (both s cc.row t cd.row) wide_both ∙ dot-both (lowered dim (gen j)) s cc.row t cd.row
          ∙ ap (λ (n : ℤ). s *ℤ n +ℤ t *ℤ dot (lowered dim (gen j)) cd.row) (sym (value_flat j l cc.row cc.row_wide))
          ∙ ap (λ (n : ℤ). s *ℤ dot (gen j) (raised dim cc.row (pos 0)) +ℤ t *ℤ n) (sym (value_flat j l cd.row cd.row_wide))

      least_at : (j : ℕ) → j < length gens → pos 0 ≤ℤ dot (gen j) (raised dim (both s cc.row t cd.row) (pos 0))
      least_at j l =
          subst (λ (z : ℤ). pos 0 ≤ℤ z)
          (same_value (value (lowered dim (gen j))) (value_linear (lowered dim (gen j))) e (cell (both s cc.row t cd.row)) same_both ∙ test_is j (both s cc.row t cd.row) ∙ sym (value_flat j l (both s cc.row t cd.row) wide_both))
          (least j l)

      meets_at : (j : ℕ) (d0 : Row) → j < length gens → Meets (raised dim (both s cc.row t cd.row) (pos 0)) (slice_index_or gens j d0)
      meets_at j d0 l =
          subst (λ (g : Row). Meets (raised dim (both s cc.row t cd.row) (pos 0)) g) (get_or_default gens j ([], false) d0 l)
          (asks_combined (slice_index_or gens j ([], false)).1 (dot (gen j) (raised dim (both s cc.row t cd.row) (pos 0))) s (dot (gen j) (raised dim cc.row (pos 0))) t (dot (gen j) (raised dim cd.row (pos 0))) (value_at j l)
          (cc.member.meets j ([], false) (omega arith) l) (cd.member.meets j ([], false) (omega arith) l) (least_at j l))

  -- what is closed is spanned by the lines and the rows of the system
  pub closed_spans : (u : V) → IsClosed u → SpansBy (relaxed_lines dim lines) (Among (relaxed dim rays) (Numbered rays)) u
  closed_spans u c = turned (to_sums lines rays (raised dim c.row (pos 0)) (system.generates.spans (raised dim c.row (pos 0)) c.member))
    where
      line_at : (l : V) → In lines l → relaxed_lines dim lines (λ j. l (skip dim j))
      line_at l m = record { index = m.index; is = m.is; same = λ j. m.same (skip dim j) ∙ sym (cell-remove dim (vector_at lines m.index) j) }

      ray_at : (l : V) → In rays l → Among (relaxed dim rays) (Numbered rays) (λ j. l (skip dim j))
      ray_at l m = record { index = suc m.index; is = m.is; same = λ j. m.same (skip dim j) ∙ sym (cell-remove dim (vector_at rays m.index) j) }

      times_same : (t x y z : ℤ) → x ≡ z → y ≡ z → t *ℤ x ≡ t *ℤ y
      times_same t x y z e f = ap (λ (n : ℤ). t *ℤ n) (e ∙ sym f)

      turned : SpansBy (In lines) (In rays) (cell (raised dim c.row (pos 0))) → SpansBy (relaxed_lines dim lines) (Among (relaxed dim rays) (Numbered rays)) u
      turned s = record {
        times = s.times;
        positive = s.positive;
        sums = sums_same (λ j. s.times *ℤ cell (raised dim c.row (pos 0)) (skip dim j)) (λ j. s.times *ℤ u j)
            (sums_columns (skip dim) line_at ray_at (λ j. s.times *ℤ cell (raised dim c.row (pos 0)) j) s.sums)
            (λ j. times_same s.times (u j) (cell (raised dim c.row (pos 0)) (skip dim j)) (cell c.row j) (c.same j)
            (sym (cell-remove dim (raised dim c.row (pos 0)) j) ∙ ap (λ (p : List ℤ). cell p j) (remove_insert dim c.row (pos 0) (omega (arith, c.row_wide)))));
      }

  pub kept_spans : (G M K : ℕ → Type 0) → ((i : ℕ) → Numbered rays i → G i) → IsKept (relaxed_lines dim lines) (relaxed dim rays) G M K → (u : V) → IsClosed u → SpansBy (relaxed_lines dim lines) (Among (relaxed dim rays) K) u
  kept_spans G M K f k u c = spans_spans line_span (λ v m. spans_same (relaxed dim rays m.index) v (k.spanned m.index (f m.index m.is)) m.same) u (closed_spans u c)

  pub ray_in : (i : ℕ) → i < length rays → D (vector_at rays i)
  ray_in i h = system.generates.rays_within i [] h

  pub sum_lowered : (v : V) (k : ℤ) (l u : V) (a b : List ℤ) → IsMore v k l u → Same l (cell (lowered dim a)) → Same u (cell (lowered dim b)) → Same v (cell (lowered dim (both (pos 1) b k a)))
  sum_lowered v k l u a b h e f j =
      sum_same (v j) k (l j) (u j) (cell a (skip dim j)) (cell b (skip dim j)) (cell (lowered dim (both (pos 1) b k a)) j) (h j) (e j ∙ cell-remove dim a j) (f j ∙ cell-remove dim b j)
      (cell-remove dim (both (pos 1) b k a) j ∙ sum_entry b k a (skip dim j))
