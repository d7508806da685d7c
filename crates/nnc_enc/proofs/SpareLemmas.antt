-- No strong generator can be left out.
use Rattle.std.proofs.Common.{◌≡◌, ◌≢◌, ◌⊎◌, inl, inr, ℕ, zero, suc, ◌+◌, ◌-◌, ◌<◌, ◌≤◌, List, [], ◌∷◌, length, slice_index_or, Bool, true, false, ℤ, pos, negsuc, ◌+ℤ◌, ◌*ℤ◌, ◌≤ℤ◌, ◌<ℤ◌, refl, sym, ap, ◌∙◌, subst, arith}
use Rattle.std.specs.Prelude.{remove, slice_set}
use mathlib.Core.Bool.{true≢false}
use Rattle.std.proofs.lemmas.Int.{ints}
use Rattle.std.proofs.lemmas.Bool.{cases_lt}
use Rattle.std.proofs.lemmas.List.{get_or-set_same, get_or-set_other}
use Rattle.std.proofs.lemmas.List.Edits.{length-remove, get_or-remove_below, get_or-remove_above}
use Rattle.row_core.specs.Vectors.{cell, scale}
use Rattle.row_core.specs.Content.{IsMultipleOf}
use Rattle.row_core.specs.Lists.{Row, row_at, vectors}
use Rattle.gens_sys.specs.declared.kind.GenKind.TheVariants.{Line}
use Rattle.nnc_enc.specs.DecodedVectors.{kind_of}
use Rattle.cone_laws.specs.Cones.{Upto}
use Rattle.cone_laws.specs.Canon.{vector_at}
use Rattle.cone_laws.proofs.Ring.{ring, same_or_not}
use Rattle.cone_laws.proofs.Sums.{line, Among}
use Rattle.cone_laws.proofs.ThirdRay.{same_number}
use Rattle.cone_laws.proofs.Existence.{both, cell-both, length-both}
use Rattle.gens_sys.specs.Generators.{Generator, Generators, generator_at}
use Rattle.gens_sys.specs.Spans.{Span}
use Rattle.nnc_enc.specs.Encoding.{raised, lowered, Codes}
use Rattle.nnc_enc.specs.StrongRows.{kept_at}
use Rattle.nnc_enc.specs.DecodedVectors.{Decodes, StandsForLine, StandsForRay, all_kept}
use Rattle.nnc_enc.proofs.MarkedSums.{Marks}
use Rattle.nnc_enc.proofs.KeptSums.{Both}
use Rattle.nnc_enc.proofs.EncodedRows.{insert_remove}
use Rattle.nnc_enc.proofs.EncodedDuals.{lowered_width}
use Rattle.nnc_enc.proofs.CodedPoints.{coded_of_marks, marks_of_member}
use Rattle.nnc_enc.proofs.Relaxed.{Numbered, PointAt_of, relaxed, relaxed_lines}
use Rattle.nnc_enc.proofs.Decoded.{points_are_needed}
use Rattle.nnc_enc.specs.Strong.{HasStrictRow}
use Rattle.nnc_enc.specs.Decoding.{index_at, Stands, AreListed, AreKept, IsNamed}
use Rattle.nnc_enc.specs.Sorting.{AreStrongVectors}
use Rattle.nnc_enc.specs.Results.{AreVectorsOf}
use Rattle.nnc_enc.specs.Needs.{StandsForOtherLine}
use Rattle.nnc_enc.specs.NeededGenerators.{IsNeededGenerator, StrongVectorsAreNeeded}
use Rattle.nnc_enc.proofs.MarkLemmas.{length-vectors, vector_at-vectors}
use Rattle.nnc_enc.proofs.OrderLemmas.{kept_permutation}
use Rattle.nnc_enc.proofs.GensLemmas.{decodes_kept, level_vectors_are_needed}
use Rattle.nnc_enc.proofs.LineLemmas.{lines_are_needed}
use Rattle.nnc_enc.proofs.ResultLemmas.{strong_vectors_code}

-- ---- one index less
below_kept : (keep : List Bool) (j : ℕ) → kept_at keep j ≡ true → j < length keep
below_kept [] j e = absurd (true≢false (sym e))
below_kept (b ∷ keep) zero e = omega arith
below_kept (b ∷ keep) (suc j) e = omega (arith, below_kept keep j e)

module _ (keep : List Bool) (order : List ℕ) (n : ℕ) (a : AreKept keep order n) (k : ℕ) (hk : k < length order) where
  abbrev less : List Bool
  less = slice_set keep (index_at order k) false

  pub left_out : kept_at (slice_set keep (index_at order k) false) (index_at order k) ≡ false
  left_out = get_or-set_same keep (index_at order k) false false (below_kept keep (index_at order k) (a.each k hk).1)

  pub still_kept : (j : ℕ) → j ≢ index_at order k → kept_at (slice_set keep (index_at order k) false) j ≡ kept_at keep j
  still_kept j d = get_or-set_other keep (index_at order k) j false false d

  pub kept_was : (j : ℕ) → kept_at (slice_set keep (index_at order k) false) j ≡ true → (j ≢ index_at order k) × (kept_at keep j ≡ true)
  kept_was j t = by_number (same_number j (index_at order k))
    where
      by_number : (j ≡ index_at order k) ⊎ (j ≢ index_at order k) → (j ≢ index_at order k) × (kept_at keep j ≡ true)
      by_number (inl e) = absurd (true≢false (sym t ∙ ap (kept_at (slice_set keep (index_at order k) false)) e ∙ left_out))
      by_number (inr d) = (d, sym (still_kept j d) ∙ t)

  size : length (remove order k) + 1 ≡ length order
  size = length-remove order k hk

  -- where the entry stood
  pub old_place : (i : ℕ) → i < length (remove order k) → (m : ℕ) × (m < length order) × (m ≢ k) × (index_at (remove order k) i ≡ index_at order m) × (((i < k) × (m ≡ i)) ⊎ ((k ≤ i) × (m ≡ i + 1)))
  old_place i h = by_order (cases_lt i k)
    where
      by_order : (i < k) ⊎ (k ≤ i) → (m : ℕ) × (m < length order) × (m ≢ k) × (index_at (remove order k) i ≡ index_at order m) × (((i < k) × (m ≡ i)) ⊎ ((k ≤ i) × (m ≡ i + 1)))
      by_order (inl l) = (i, omega (arith, h, size), λ e. absurd (omega (arith, e, l)), get_or-remove_below order k 0 i l hk, inl (l, refl))
      by_order (inr l) = (i + 1, omega (arith, h, size), λ e. absurd (omega (arith, e, l)), get_or-remove_above order k 0 i l hk, inr (l, refl))

  new_place : (m : ℕ) → m < length order → m ≢ k → (i : ℕ) × (i < length (remove order k)) × (index_at (remove order k) i ≡ index_at order m)
  new_place m h d = by_order (cases_lt m k)
    where
      by_order : (m < k) ⊎ (k ≤ m) → (i : ℕ) × (i < length (remove order k)) × (index_at (remove order k) i ≡ index_at order m)
      by_order (inl l) = (m, omega (arith, l, hk, size), get_or-remove_below order k 0 m l hk)
      by_order (inr l) = (m - 1, omega (arith, l, d, h, size), get_or-remove_above order k 0 (m - 1) (omega (arith, l, d)) hk ∙ ap (index_at order) (omega (arith, l, d)))

  pub kept_less : AreKept (slice_set keep (index_at order k) false) (remove order k) n
  kept_less = record { each = each; all = all; once = once }
    where
      each : (i : ℕ) → i < length (remove order k) → (index_at (remove order k) i < n) × (kept_at (slice_set keep (index_at order k) false) (index_at (remove order k) i) ≡ true)
      each i h =
          let o = old_place i h in
          let x = a.each o.0 o.1 in
          subst (λ (j : ℕ). (j < n) × (kept_at (slice_set keep (index_at order k) false) j ≡ true)) (sym o.3) (x.0, still_kept (index_at order o.0) (λ e. o.2 (a.once o.0 k o.1 hk e)) ∙ x.1)

      all : (j : ℕ) → j < n → kept_at (slice_set keep (index_at order k) false) j ≡ true → IsNamed (remove order k) j
      all j h t =
          let was = kept_was j t in
          let named = a.all j h was.1 in
          let p = new_place named.place named.below (λ e. was.0 (sym named.same ∙ ap (index_at order) e)) in
          record { place = p.0; below = p.1; same = p.2 ∙ named.same }

      once : (i m : ℕ) → i < length (remove order k) → m < length (remove order k) → index_at (remove order k) i ≡ index_at (remove order k) m → i ≡ m
      once i m h l e =
          let x = old_place i h in
          let y = old_place m l in
          let same = a.once x.0 y.0 x.1 y.1 (sym x.3 ∙ e ∙ y.3) in
          omega (arith, same, x.4, y.4)

  -- the list without the entry
  pub listed_less : {K : Type 0} (d : List ℤ × K) (line_kind : K) (ray_kind : List ℤ → K) (dim : ℕ) (lines rays : List Row) (list : List (List ℤ × K)) → AreListed d line_kind ray_kind dim lines rays order list → AreListed d line_kind ray_kind dim lines rays (remove order k) (remove list (length lines + k))
  listed_less {K} d line_kind ray_kind dim lines rays list l = record {
    as_many = omega (arith, length-remove list (length lines + k) within, size, l.as_many);
    line = λ i h. subst (λ (c : List ℤ × K). Stands dim (row_at lines i) line_kind c) (sym (get_or-remove_below list (length lines + k) d i (omega (arith, h)) within)) (l.line i h);
    ray = λ i h. by_place i h (old_place i h);
  }
    where
      within : length lines + k < length list
      within = omega (arith, hk, l.as_many)

      by_place : (i : ℕ) → i < length (remove order k) → (m : ℕ) × (m < length order) × (m ≢ k) × (index_at (remove order k) i ≡ index_at order m) × (((i < k) × (m ≡ i)) ⊎ ((k ≤ i) × (m ≡ i + 1))) → Stands dim (row_at rays (index_at (remove order k) i)) (ray_kind (row_at rays (index_at (remove order k) i))) (slice_index_or (remove list (length lines + k)) (length lines + i) d)
      by_place i h o = subst (λ (j : ℕ). Stands dim (row_at rays j) (ray_kind (row_at rays j)) (slice_index_or (remove list (length lines + k)) (length lines + i) d)) (sym o.3)
          (subst (λ (c : List ℤ × K). Stands dim (row_at rays (index_at order o.0)) (ray_kind (row_at rays (index_at order o.0))) c) (sym (entry o.4)) (l.ray o.0 o.1))
        where
          entry : ((i < k) × (o.0 ≡ i)) ⊎ ((k ≤ i) × (o.0 ≡ i + 1)) → slice_index_or (remove list (length lines + k)) (length lines + i) d ≡ slice_index_or list (length lines + o.0) d
          entry (inl q) = get_or-remove_below list (length lines + k) d (length lines + i) (omega (arith, q.0)) within ∙ ap (λ (m : ℕ). slice_index_or list m d) (omega (arith, q.1))
          entry (inr q) = get_or-remove_above list (length lines + k) d (length lines + i) (omega (arith, q.0)) within ∙ ap (λ (m : ℕ). slice_index_or list m d) (omega (arith, q.1))

module _ (dim : ℕ) (rows lines rays : List Row) (gs : Generators) (r : AreVectorsOf dim rows lines rays) (s : AreStrongVectors dim rows lines rays gs.list) where
  kept : AreKept s.keep s.order (length rays)
  kept = kept_permutation s.keep (length rays) s.kept s.order s.ordered.permutation s.are_kept

  code : (v : List ℤ) → length v ≡ dim + 1 → Codes dim (Upto (dim + 2) rows (length rows)) v → Span gs v
  code v w c = (strong_vectors_code dim rows lines rays gs v r s w).1 c

  decodes : Decodes dim (vectors lines) (vectors rays) (kept_at s.keep) gs.list
  decodes = decodes_kept dim lines rays s.keep s.order gs kept s.listed

  -- ---- rays
  module _ (k : ℕ) (hk : k < length s.order) where
    abbrev j : ℕ
    j = index_at s.order k

    abbrev without : Generators
    without = record { dim = gs.dim; list = remove gs.list (length lines + k) }

    in_rays : index_at s.order k < length (vectors rays)
    in_rays = omega (arith, (kept.each k hk).0, length-vectors rays)

    decodes_less : Decodes dim (vectors lines) (vectors rays) (kept_at (slice_set s.keep (index_at s.order k) false)) (remove gs.list (length lines + k))
    decodes_less = decodes_kept dim lines rays (slice_set s.keep (index_at s.order k) false) (remove s.order k) (record { dim = gs.dim; list = remove gs.list (length lines + k) }) (kept_less s.keep s.order (length rays) kept k hk) (listed_less s.keep s.order (length rays) kept k hk ([], Line) Line (kind_of dim) dim lines rays gs.list s.listed)

    out : kept_at (slice_set s.keep (index_at s.order k) false) (index_at s.order k) ≡ false
    out = left_out s.keep s.order (length rays) kept k hk

    scale_one : (v : List ℤ) → scale (pos 1) v ≡ v
    scale_one [] = refl
    scale_one (x ∷ v) = ap (λ (y : ℤ). y ∷ scale (pos 1) v) (one_time x) ∙ ap (λ (w : List ℤ). x ∷ w) (scale_one v)
      where
        one_time : (x : ℤ) → pos 1 *ℤ x ≡ x
        one_time x = omega (arith, ints)

    ray_member : Upto (dim + 2) rows (length rows) (vector_at (vectors rays) (index_at s.order k))
    ray_member = r.system.generates.rays_within (index_at s.order k) [] in_rays

    point_needed : pos 0 <ℤ cell (vector_at (vectors rays) (index_at s.order k)) dim → IsNeededGenerator dim gs (length lines + k)
    point_needed up f =
        points_are_needed dim rows (vectors lines) (vectors rays) (kept_at (slice_set s.keep (index_at s.order k) false)) (record { dim = gs.dim; list = remove gs.list (length lines + k) }) (index_at s.order k) r.wide r.system r.encoded in_rays up out
        (λ t h q p. (let was = kept_was s.keep s.order (length rays) kept k hk t q in s.pass.apart (index_at s.order k) t in_rays h (kept.each k hk).1 was.1 was.0 up p))
        decodes_less
        (f (lowered dim (vector_at (vectors rays) (index_at s.order k))) (lowered_width dim (vector_at (vectors rays) (index_at s.order k)) ray_member.wide)
        (code (lowered dim (vector_at (vectors rays) (index_at s.order k))) (lowered_width dim (vector_at (vectors rays) (index_at s.order k)) ray_member.wide)
        (record {
          times = pos 1;
          positive = omega (arith, ints);
          height = cell (vector_at (vectors rays) (index_at s.order k)) dim;
          above = up;
          member = subst (Upto (dim + 2) rows (length rows)) (sym (ap (λ (v : List ℤ). raised dim v (cell (vector_at (vectors rays) (index_at s.order k)) dim)) (scale_one (lowered dim (vector_at (vectors rays) (index_at s.order k)))) ∙ insert_remove dim (vector_at (vectors rays) (index_at s.order k)) (omega (arith, ray_member.wide)))) ray_member;
        })))

    level_needed : cell (vector_at (vectors rays) (index_at s.order k)) dim ≡ pos 0 → IsNeededGenerator dim gs (length lines + k)
    level_needed z f =
        level_vectors_are_needed dim rows (vectors lines) (vectors rays) (kept_at (slice_set s.keep (index_at s.order k) false)) (record { dim = gs.dim; list = remove gs.list (length lines + k) }) r.vector (index_at s.order k) r.wide r.system r.encoded r.member r.above in_rays z
        (by_divisor (same_or_not (cell (vector_at (vectors rays) (index_at s.order k)) (dim + 1)) (pos 0))) out decodes_less (λ v w c. f v w (code v w c))
      where
        by_divisor : (cell (vector_at (vectors rays) (index_at s.order k)) (dim + 1) ≡ pos 0) ⊎ (cell (vector_at (vectors rays) (index_at s.order k)) (dim + 1) ≢ pos 0) → (cell (vector_at (vectors rays) (index_at s.order k)) (dim + 1) ≡ pos 0) ⊎ HasStrictRow dim rows (vector_at (vectors rays) (index_at s.order k))
        by_divisor (inl d) = inl d
        by_divisor (inr d) = inr (s.pass.bound (index_at s.order k) in_rays (kept.each k hk).1 z d)

    by_height : (e : ℤ) → e ≡ cell (vector_at (vectors rays) (index_at s.order k)) dim → pos 0 ≤ℤ e → IsNeededGenerator dim gs (length lines + k)
    by_height (pos zero) e h = level_needed (sym e)
    by_height (pos (suc n)) e h = point_needed (subst (λ (z : ℤ). pos 0 <ℤ z) e (omega (arith, ints)))
    by_height (negsuc n) e h = absurd (omega (arith, ints, h))

    ray_needed : IsNeededGenerator dim gs (length lines + k)
    ray_needed = by_height (cell (vector_at (vectors rays) (index_at s.order k)) dim) refl (r.encoded.height (vector_at (vectors rays) (index_at s.order k)) ray_member)

  -- ---- lines
  module _ (i : ℕ) (hi : i < length lines) where
    in_lines : i < length (vectors lines)
    in_lines = omega (arith, hi, length-vectors lines)

    within : i < length gs.list
    within = omega (arith, hi, s.listed.as_many)

    -- each other entry stands for another line or for a ray
    other_entry : (m : ℕ) → m < length gs.list → m ≢ i → StandsForOtherLine dim (vectors lines) i (generator_at gs.list m) ⊎ StandsForRay dim (vectors rays) all_kept (generator_at gs.list m)
    other_entry m h d = by_place (cases_lt m (length lines))
      where
        by_place : (m < length lines) ⊎ (length lines ≤ m) → StandsForOtherLine dim (vectors lines) i (generator_at gs.list m) ⊎ StandsForRay dim (vectors rays) all_kept (generator_at gs.list m)
        by_place (inl l) =
            let e = s.listed.line m l in
            inl (record { index = m; below = omega (arith, l, length-vectors lines); other = d; stands = record { kind = e.kind; multiple = subst (λ (v : List ℤ). IsMultipleOf (lowered dim v) (generator_at gs.list m).0) (sym (vector_at-vectors lines m)) e.primitive.multiple } })
        by_place (inr l) = by_stand (decodes.each m h)
          where
            by_stand : StandsForLine dim (vectors lines) (generator_at gs.list m) ⊎ StandsForRay dim (vectors rays) (kept_at s.keep) (generator_at gs.list m) → StandsForOtherLine dim (vectors lines) i (generator_at gs.list m) ⊎ StandsForRay dim (vectors rays) all_kept (generator_at gs.list m)
            by_stand (inl p) = inr (as_ray (m - length lines) (omega (arith, l, h, s.listed.as_many)) (omega (arith, l)))
              where
                as_ray : (k : ℕ) → k < length s.order → length lines + k ≡ m → StandsForRay dim (vectors rays) all_kept (generator_at gs.list m)
                as_ray k q e = subst (λ (n : ℕ). StandsForRay dim (vectors rays) all_kept (generator_at gs.list n)) e
                    (record {
                      index = index_at s.order k;
                      below = omega (arith, (kept.each k q).0, length-vectors rays);
                      kept = refl;
                      stands = record {
                        kind = (s.listed.ray k q).kind ∙ ap (kind_of dim) (sym (vector_at-vectors rays (index_at s.order k)));
                        multiple = subst (λ (v : List ℤ). IsMultipleOf (lowered dim v) (generator_at gs.list (length lines + k)).0) (sym (vector_at-vectors rays (index_at s.order k))) (s.listed.ray k q).primitive.multiple;
                      };
                    })
            by_stand (inr p) = inr (record { index = p.index; below = p.below; kept = refl; stands = p.stands })

    each_rest : (m : ℕ) → m < length (remove gs.list i) → StandsForOtherLine dim (vectors lines) i (generator_at (remove gs.list i) m) ⊎ StandsForRay dim (vectors rays) all_kept (generator_at (remove gs.list i) m)
    each_rest m h = by_order (cases_lt m i)
      where
        by_order : (m < i) ⊎ (i ≤ m) → StandsForOtherLine dim (vectors lines) i (generator_at (remove gs.list i) m) ⊎ StandsForRay dim (vectors rays) all_kept (generator_at (remove gs.list i) m)
        by_order (inl l) = subst (λ (g : Generator). StandsForOtherLine dim (vectors lines) i g ⊎ StandsForRay dim (vectors rays) all_kept g) (sym (get_or-remove_below gs.list i ([], Line) m l within)) (other_entry m (omega (arith, l, within)) (λ e. absurd (omega (arith, e, l))))
        by_order (inr l) = subst (λ (g : Generator). StandsForOtherLine dim (vectors lines) i g ⊎ StandsForRay dim (vectors rays) all_kept g) (sym (get_or-remove_above gs.list i ([], Line) m l within)) (other_entry (m + 1) (omega (arith, h, length-remove gs.list i within)) (λ e. absurd (omega (arith, e, l))))

    further : (t x p g f u q : ℤ) → x ≡ pos 1 *ℤ p +ℤ pos 1 *ℤ g → t *ℤ p ≡ f *ℤ u +ℤ q → t *ℤ x ≡ f *ℤ u +ℤ (t *ℤ g +ℤ q)
    further t x p g f u q e h = ap (λ (z : ℤ). t *ℤ z) (e ∙ ones p g) ∙ over t p g ∙ ap (λ (z : ℤ). t *ℤ g +ℤ z) h ∙ moved (t *ℤ g) (f *ℤ u) q
      where
        ones : (p g : ℤ) → pos 1 *ℤ p +ℤ pos 1 *ℤ g ≡ p +ℤ g
        ones p g = omega (arith, ints)

        over : (t p g : ℤ) → t *ℤ (p +ℤ g) ≡ t *ℤ g +ℤ t *ℤ p
        over t p g = simp ring (omega (arith, ints))

        moved : (a b c : ℤ) → a +ℤ (b +ℤ c) ≡ b +ℤ (a +ℤ c)
        moved a b c = omega (arith, ints)

    abbrev start : List ℤ
    start = lowered dim r.vector

    abbrev along : List ℤ
    along = both (pos 1) (lowered dim r.vector) (pos 1) (lowered dim (vector_at (vectors lines) i))

    start_wide : length (lowered dim r.vector) ≡ dim + 1
    start_wide = lowered_width dim r.vector r.member.wide

    line_wide : length (lowered dim (vector_at (vectors lines) i)) ≡ dim + 1
    line_wide = lowered_width dim (vector_at (vectors lines) i) (r.system.generates.lines_within i [] in_lines).0.wide

    along_wide : length (both (pos 1) (lowered dim r.vector) (pos 1) (lowered dim (vector_at (vectors lines) i))) ≡ dim + 1
    along_wide = length-both (pos 1) (lowered dim r.vector) (pos 1) (lowered dim (vector_at (vectors lines) i)) (start_wide ∙ sym line_wide) ∙ line_wide

    start_marks : Marks (relaxed_lines dim (vectors lines)) (Among (relaxed dim (vectors rays)) (Numbered (vectors rays))) (Among (relaxed dim (vectors rays)) (Both (Numbered (vectors rays)) (PointAt_of dim (vectors rays)))) (cell (lowered dim r.vector))
    start_marks = marks_of_member dim rows (vectors lines) (vectors rays) r.wide r.system r.encoded r.vector r.member r.above r.vector r.member r.above

    along_marks : Marks (relaxed_lines dim (vectors lines)) (Among (relaxed dim (vectors rays)) (Numbered (vectors rays))) (Among (relaxed dim (vectors rays)) (Both (Numbered (vectors rays)) (PointAt_of dim (vectors rays)))) (cell (both (pos 1) (lowered dim r.vector) (pos 1) (lowered dim (vector_at (vectors lines) i))))
    along_marks = record {
      times = start_marks.times;
      positive = start_marks.positive;
      factor = start_marks.factor;
      above = start_marks.above;
      vector = start_marks.vector;
      marked = start_marks.marked;
      rest = λ j. start_marks.times *ℤ cell (lowered dim (vector_at (vectors lines) i)) j +ℤ start_marks.rest j;
      others = line start_marks.times (cell (lowered dim (vector_at (vectors lines) i))) start_marks.rest (record { index = i; is = in_lines; same = λ j. refl }) start_marks.others (λ j. refl);
      same = λ j. further start_marks.times (cell (both (pos 1) (lowered dim r.vector) (pos 1) (lowered dim (vector_at (vectors lines) i))) j) (cell (lowered dim r.vector) j) (cell (lowered dim (vector_at (vectors lines) i)) j) start_marks.factor (start_marks.vector j) (start_marks.rest j) (cell-both (pos 1) (lowered dim r.vector) (pos 1) (lowered dim (vector_at (vectors lines) i)) j) (start_marks.same j);
    }

    one_each : (z x y : ℤ) → z ≡ pos 1 *ℤ x +ℤ pos 1 *ℤ y → z ≡ x +ℤ y
    one_each z x y e = omega (arith, ints, e)

    line_needed : IsNeededGenerator dim gs i
    line_needed f =
        lines_are_needed dim rows (vectors lines) (vectors rays) (record { dim = gs.dim; list = remove gs.list i }) i r.vector (lowered dim r.vector) (both (pos 1) (lowered dim r.vector) (pos 1) (lowered dim (vector_at (vectors lines) i))) r.wide r.system r.encoded r.member r.above in_lines each_rest
        (f (lowered dim r.vector) start_wide (code (lowered dim r.vector) start_wide (coded_of_marks dim rows (vectors lines) (vectors rays) r.wide r.system r.encoded r.vector r.member r.above (lowered dim r.vector) start_wide start_marks)))
        (λ j. one_each (cell (both (pos 1) (lowered dim r.vector) (pos 1) (lowered dim (vector_at (vectors lines) i))) j) (cell (lowered dim r.vector) j) (cell (lowered dim (vector_at (vectors lines) i)) j) (cell-both (pos 1) (lowered dim r.vector) (pos 1) (lowered dim (vector_at (vectors lines) i)) j))
        (f (both (pos 1) (lowered dim r.vector) (pos 1) (lowered dim (vector_at (vectors lines) i))) along_wide (code (both (pos 1) (lowered dim r.vector) (pos 1) (lowered dim (vector_at (vectors lines) i))) along_wide (coded_of_marks dim rows (vectors lines) (vectors rays) r.wide r.system r.encoded r.vector r.member r.above (both (pos 1) (lowered dim r.vector) (pos 1) (lowered dim (vector_at (vectors lines) i))) along_wide along_marks)))

pub strong_vectors_are_needed : StrongVectorsAreNeeded
strong_vectors_are_needed dim rows lines rays gs r s i h = by_place (cases_lt i (length lines))
  where
    by_place : (i < length lines) ⊎ (length lines ≤ i) → IsNeededGenerator dim gs i
    by_place (inl l) = line_needed dim rows lines rays gs r s i l
    by_place (inr l) = subst (IsNeededGenerator dim gs) (omega (arith, l)) (ray_needed dim rows lines rays gs r s (i - length lines) (omega (arith, l, h, s.listed.as_many)))
