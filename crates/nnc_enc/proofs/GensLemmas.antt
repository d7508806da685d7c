-- The generators of what a strong pass keeps.
use Rattle.std.proofs.Common.{map, ◌≡◌, ◌≢◌, ◌⊎◌, inl, inr, ℕ, zero, suc, ◌+◌, ◌-◌, ◌<◌, ◌≤◌, List, [], ◌∷◌, ◌++◌, length, slice_index_or, filter, not, Bool, true, false, ℤ, pos, negsuc, ◌+ℤ◌, ◌*ℤ◌, neg_ℤ, ◌≤ℤ◌, ◌<ℤ◌, refl, sym, ap, ◌∙◌, subst, arith}
use Rattle.std.specs.Prelude.{All, remove}
use mathlib.Core.Bool.{true≢false}
use Rattle.std.proofs.lemmas.Int.{ints}
use Rattle.std.proofs.lemmas.List.{get_or_default}
use Rattle.std.proofs.lemmas.List.Elements.{All-map, All-filter, filter_passes, All-append, All-cons, All-nil, All-head, All-tail}
use Rattle.std.proofs.lemmas.Bool.{cases_lt}
use Rattle.row_core.specs.Vectors.{cell, dot}
use Rattle.row_core.specs.Content.{IsMultipleOf}
use Rattle.row_core.specs.Lists.{Row, row_at, vectors}
use Rattle.cone_laws.specs.Cones.{Meets, Upto, Spans}
use Rattle.cone_laws.specs.Canon.{vector_at, IsSystem}
use Rattle.cone_laws.specs.Duality.{lines_of, rays_of}
use Rattle.cone_laws.proofs.Ring.{ring, mul-at_least_zero, at_least_zero_of_mul}
use Rattle.cone_laws.proofs.Sums.{V, Same, Among, ray, SpansBy, sums_at_least_zero, spans_spans, spans_same}
use Rattle.cone_laws.proofs.Columns.{value, value_linear, dot_is, dot_comm}
use Rattle.cone_laws.proofs.Bridge.{columns, in_at, to_sums}
use Rattle.cone_laws.proofs.Instance.{Beside, rest_beside}
use Rattle.cone_laws.proofs.Factors.{All-remove}
use Rattle.cone_laws.proofs.LineSteps.{InRest, whole_in_rest}
use Rattle.cone_laws.proofs.Existence.{both, cell-both, length-both}
use Rattle.cone_laws.proofs.Bipolar.{dot-both, admitted_is_spanned}
use Rattle.gens_sys.specs.Generators.{Generators, generator_at}
use Rattle.gens_sys.specs.Spans.{Span}
use Rattle.gens_sys.specs.declared.kind.GenKind.TheVariants.{Line}
use Rattle.nnc_enc.specs.Encoding.{lowered, Codes, IsEncoded}
use Rattle.nnc_enc.specs.StrongRows.{kept_at}
use Rattle.nnc_enc.specs.DecodedVectors.{kind_of, StandsForLine, StandsForRay, IsListedAs, Decodes}
use Rattle.nnc_enc.proofs.MarkedSums.{Without, Marks, marks_one, marks_trans, marks_same, marks_spanned}
use Rattle.nnc_enc.proofs.KeptSums.{Both, IsKept, line_span, one_span}
use Rattle.nnc_enc.proofs.Removals.{Stay}
use Rattle.nnc_enc.proofs.ClosedRows.{lowered_wide}
use Rattle.nnc_enc.proofs.CodedPoints.{coded_of_marks, marks_of_coded, marks_of_member}
use Rattle.nnc_enc.proofs.LeftOutVectors.{remain_all}
use Rattle.nnc_enc.proofs.LevelVectors.{level_vector_needed}
use Rattle.nnc_enc.proofs.Relaxed.{Numbered, PointAt_of, cell-remove, relaxed, relaxed_lines, remain_by, skip}
use Rattle.nnc_enc.proofs.SpanMarks.{span_marks, marks_span}
use Rattle.nnc_enc.proofs.Decoded.{from_list, to_list}
use Rattle.nnc_enc.specs.Strong.{HasStrictRow}
use Rattle.nnc_enc.specs.Decoding.{index_at, AreGeneratorsOf, AreKept, IsNamed}
use Rattle.nnc_enc.specs.KeptVectors.{LevelVectorsAreNeeded, KeptGeneratorsCode, ListedDecodes}
use Rattle.nnc_enc.proofs.MarkLemmas.{length-vectors, vector_at-vectors}

-- ---- values at all multiples decide the sign
spread : (t x y : ℤ) → x ≡ neg_ℤ (pos 1) +ℤ y → t *ℤ x ≡ neg_ℤ t +ℤ t *ℤ y
spread t x y e = ap (λ (z : ℤ). t *ℤ z) e ∙ one_less t y
  where
    one_less : (t y : ℤ) → t *ℤ (neg_ℤ (pos 1) +ℤ y) ≡ neg_ℤ t +ℤ t *ℤ y
    one_less t y = simp ring (omega (arith, ints))

product_least : (m k : ℕ) → pos 0 ≤ℤ (pos (suc m) *ℤ pos k)
product_least m k = omega (arith, ints)

falls : (m k : ℕ) → pos 0 ≤ℤ (pos m +ℤ pos (suc m) *ℤ negsuc k) → ⊥
falls m k h =
    let g : pos (suc m) *ℤ negsuc k ≡ neg_ℤ (pos (suc m)) +ℤ pos (suc m) *ℤ neg_ℤ (pos k) = spread (pos (suc m)) (negsuc k) (neg_ℤ (pos k)) (omega (arith, ints)) in
    let t : pos 0 ≤ℤ (pos (suc m) *ℤ pos k) = product_least m k in
    let u : pos (suc m) *ℤ neg_ℤ (pos k) ≡ neg_ℤ (pos (suc m) *ℤ pos k) = simp ring in
    omega (arith, ints, h, g, t, u)

rises : (y x : ℤ) → ((n : ℕ) → pos 0 ≤ℤ (y +ℤ pos n *ℤ x)) → pos 0 ≤ℤ x
rises (pos m) (pos k) f = omega (arith, ints)
rises (negsuc m) x f = absurd (below m x (f 0))
  where
    below : (m : ℕ) (x : ℤ) → pos 0 ≤ℤ (negsuc m +ℤ pos 0 *ℤ x) → ⊥
    below m x h = omega (arith, ints, h)
rises (pos m) (negsuc k) f = absurd (falls m k (f (suc m)))

-- the numbers of what is kept
abbrev KeptAt : (rays : List (List ℤ)) → (ℕ → Bool) → ℕ → Type 0
KeptAt rays keep zero = ⊥
KeptAt rays keep (suc i) = (i < length rays) × (keep i ≡ true)

module _ (dim : ℕ) (rows : List Row) (lines rays : List (List ℤ)) (wide : (j : ℕ) → j < length rows → length (slice_index_or rows j ([], false)).0 ≡ dim + 2) (system : IsSystem (Upto (dim + 2) rows (length rows)) lines rays) (enc : IsEncoded dim (Upto (dim + 2) rows (length rows))) (point : List ℤ) (point_in : Upto (dim + 2) rows (length rows) point) (point_above : pos 0 <ℤ cell point dim) where
  abbrev D : List ℤ → Type 0
  D = Upto (dim + 2) rows (length rows)

  low_wide : (v : List ℤ) → length v ≡ dim + 2 → length (lowered dim v) ≡ dim + 1
  low_wide v w = lowered_wide dim rows lines rays wide system v w

  module _ (i : ℕ) (hi : i < length rays) where
    -- the lines and the other rays without column e, as a list
    abbrev others : List Row
    others = map (λ l. (lowered dim l, true)) lines ++ map (λ r. (lowered dim r, false)) (remove rays i)

    abbrev Rest : V → Type 0
    Rest = Among (relaxed dim rays) (Without (Numbered rays) (suc i))

    abbrev Serves : Row → Type 0
    Serves g = (g.1 ≡ true → relaxed_lines dim lines (cell g.0)) × (g.1 ≡ false → SpansBy (relaxed_lines dim lines) (Among (relaxed dim rays) (Without (Numbered rays) (suc i))) (cell g.0))

    line_serves : All (λ l. Serves (lowered dim l, true)) lines
    line_serves m d h = (λ e. record { index = m; is = h; same = λ j. ap (λ (v : List ℤ). cell (lowered dim v) j) (sym (get_or_default lines m [] d h)) }, λ e. absurd (true≢false e))

    rest_serves : All (λ r. Serves (lowered dim r, false)) (remove rays i)
    rest_serves m d h = (λ e. absurd (true≢false (sym e)), λ e. by_beside (rest_beside rays i hi (columns (remove rays i) m) (in_at (remove rays i) m h)))
      where
        other_number : (a b : ℕ) → a ≢ b → suc a ≢ suc b
        other_number a b d e = d (omega (arith, e))

        by_beside : Beside rays i (columns (remove rays i) m) → SpansBy (relaxed_lines dim lines) (Among (relaxed dim rays) (Without (Numbered rays) (suc i))) (cell (lowered dim (slice_index_or (remove rays i) m d)))
        by_beside b = one_span (cell (lowered dim (slice_index_or (remove rays i) m d))) (record {
          index = suc b.index;
          is = (b.is.0, other_number b.index i b.is.1);
          same = λ j. cell-remove dim (slice_index_or (remove rays i) m d) j ∙ ap (λ (v : List ℤ). cell v (skip dim j)) (sym (get_or_default (remove rays i) m [] d h)) ∙ b.same (skip dim j) ∙ sym (cell-remove dim (vector_at rays b.index) j);
        })

    all_serve : All Serves others
    all_serve = All-append Serves (map (λ l. (lowered dim l, true)) lines) (map (λ r. (lowered dim r, false)) (remove rays i)) (All-map Serves (λ l. (lowered dim l, true)) lines line_serves) (All-map Serves (λ r. (lowered dim r, false)) (remove rays i) rest_serves)

    not_true : (b : Bool) → not b ≡ true → b ≡ false
    not_true true e = absurd (true≢false (sym e))
    not_true false e = refl

    abbrev ServesLine : List ℤ → Type 0
    ServesLine v = relaxed_lines dim lines (cell v)

    abbrev ServesRay : List ℤ → Type 0
    ServesRay v = SpansBy (relaxed_lines dim lines) (Among (relaxed dim rays) (Without (Numbered rays) (suc i))) (cell v)

    lines_served : All ServesLine (lines_of others)
    lines_served = All-map ServesLine (λ g. g.0) (filter (λ g. g.1) others) (λ m d h. (All-filter (λ g. g.1) Serves others all_serve m d h).0 (filter_passes (λ g. g.1) others m d h))

    rays_served : All ServesRay (rays_of others)
    rays_served = All-map ServesRay (λ g. g.0) (filter (λ g. not g.1) others) (λ m d h. (All-filter (λ g. not g.1) Serves others all_serve m d h).1 (not_true (slice_index_or (filter (λ g. not g.1) others) m d).1 (filter_passes (λ g. not g.1) others m d h)))

    line_same : (l v : V) → Same l v → relaxed_lines dim lines v → relaxed_lines dim lines l
    line_same l v e m = record { index = m.index; is = m.is; same = λ j. e j ∙ m.same j }

    served : Spans (lines_of others) (rays_of others) (lowered dim (vector_at rays i)) → SpansBy (relaxed_lines dim lines) (Among (relaxed dim rays) (Without (Numbered rays) (suc i))) (relaxed dim rays (suc i))
    served s =
        spans_spans (λ l m. line_span l (line_same l (columns (lines_of others) m.index) m.same (lines_served m.index [] m.is)))
        (λ r m. spans_same (columns (rays_of others) m.index) r (rays_served m.index [] m.is) m.same)
        (relaxed dim rays (suc i)) (to_sums (lines_of others) (rays_of others) (lowered dim (vector_at rays i)) s)

    abbrev Wide : Row → Type 0
    Wide g = length g.0 ≡ dim + 1

    all_wide : All Wide others
    all_wide =
        All-append Wide (map (λ l. (lowered dim l, true)) lines) (map (λ r. (lowered dim r, false)) (remove rays i))
        (All-map Wide (λ l. (lowered dim l, true)) lines (λ m d h. low_wide (slice_index_or lines m d) (system.generates.lines_within m d h).0.wide))
        (All-map Wide (λ r. (lowered dim r, false)) (remove rays i) (λ m d h. low_wide (slice_index_or (remove rays i) m d) (All-remove D rays i system.generates.rays_within m d h).wide))

    all_left : (P : Row → Type 0) (xs ys : List Row) → All P (xs ++ ys) → All P xs
    all_left P [] ys a = All-nil P
    all_left P (x ∷ xs) ys a = All-cons P x xs (All-head P x (xs ++ ys) a) (all_left P xs ys (All-tail P x (xs ++ ys) a))

    all_right : (P : Row → Type 0) (xs ys : List Row) → All P (xs ++ ys) → All P ys
    all_right P [] ys a = a
    all_right P (x ∷ xs) ys a = all_right P xs ys (All-tail P x (xs ++ ys) a)

    all_of_map : (P : Row → Type 0) (f : List ℤ → Row) (xs : List (List ℤ)) → All P (map f xs) → All (λ x. P (f x)) xs
    all_of_map P f [] a = All-nil (λ x. P (f x))
    all_of_map P f (x ∷ xs) a = All-cons (λ x. P (f x)) x xs (All-head P (f x) (map f xs) a) (all_of_map P f xs (All-tail P (f x) (map f xs) a))

    -- ---- what the point and multiples of the ray code
    abbrev far : ℕ → List ℤ
    far n = both (pos 1) (lowered dim point) (pos n) (lowered dim (vector_at rays i))

    ray_wide : length (lowered dim (vector_at rays i)) ≡ dim + 1
    ray_wide = low_wide (vector_at rays i) (system.generates.rays_within i [] hi).wide

    far_wide : (n : ℕ) → length (far n) ≡ dim + 1
    far_wide n = length-both (pos 1) (lowered dim point) (pos n) (lowered dim (vector_at rays i)) (low_wide point point_in.wide ∙ sym ray_wide) ∙ ray_wide

    further : (t x p k g f u r : ℤ) → x ≡ pos 1 *ℤ p +ℤ k *ℤ g → t *ℤ p ≡ f *ℤ u +ℤ r → t *ℤ x ≡ f *ℤ u +ℤ ((t *ℤ k) *ℤ g +ℤ r)
    further t x p k g f u r e h = ap (λ (z : ℤ). t *ℤ z) e ∙ over t p k g ∙ ap (λ (z : ℤ). (t *ℤ k) *ℤ g +ℤ z) h ∙ moved ((t *ℤ k) *ℤ g) (f *ℤ u) r
      where
        over : (t p k g : ℤ) → t *ℤ (pos 1 *ℤ p +ℤ k *ℤ g) ≡ (t *ℤ k) *ℤ g +ℤ t *ℤ p
        over t p k g = ap (λ (z : ℤ). t *ℤ (z +ℤ k *ℤ g)) (one_time p) ∙ split t p k g
          where
            one_time : (x : ℤ) → pos 1 *ℤ x ≡ x
            one_time x = omega (arith, ints)

            split : (t p k g : ℤ) → t *ℤ (p +ℤ k *ℤ g) ≡ (t *ℤ k) *ℤ g +ℤ t *ℤ p
            split t p k g = simp ring (omega (arith, ints))

        moved : (a b c : ℤ) → a +ℤ (b +ℤ c) ≡ b +ℤ (a +ℤ c)
        moved a b c = omega (arith, ints)

    least_pos : (n : ℕ) → pos 0 ≤ℤ pos n
    least_pos n = omega (arith, ints)

    weak : (t : ℤ) → pos 0 <ℤ t → pos 0 ≤ℤ t
    weak t h = omega (arith, ints, h)

    far_marks : (n : ℕ) → Marks (relaxed_lines dim lines) (Among (relaxed dim rays) (Numbered rays)) (Among (relaxed dim rays) (Both (Numbered rays) (PointAt_of dim rays))) (cell (far n))
    far_marks n = more (marks_of_member dim rows lines rays wide system enc point point_in point_above point point_in point_above)
      where
        more : Marks (relaxed_lines dim lines) (Among (relaxed dim rays) (Numbered rays)) (Among (relaxed dim rays) (Both (Numbered rays) (PointAt_of dim rays))) (cell (lowered dim point)) → Marks (relaxed_lines dim lines) (Among (relaxed dim rays) (Numbered rays)) (Among (relaxed dim rays) (Both (Numbered rays) (PointAt_of dim rays))) (cell (far n))
        more m = record {
          times = m.times;
          positive = m.positive;
          factor = m.factor;
          above = m.above;
          vector = m.vector;
          marked = m.marked;
          rest = λ j. (m.times *ℤ pos n) *ℤ relaxed dim rays (suc i) j +ℤ m.rest j;
          others = ray (m.times *ℤ pos n) (relaxed dim rays (suc i)) m.rest (mul-at_least_zero m.times (pos n) (weak m.times m.positive) (least_pos n)) (record { index = suc i; is = hi; same = λ j. refl }) m.others (λ j. refl);
          same = λ j. further m.times (cell (far n) j) (cell (lowered dim point) j) (pos n) (relaxed dim rays (suc i) j) m.factor (m.vector j) (m.rest j) (cell-both (pos 1) (lowered dim point) (pos n) (lowered dim (vector_at rays i)) j) (m.same j);
        }

    far_coded : (n : ℕ) → Codes dim (Upto (dim + 2) rows (length rows)) (far n)
    far_coded n = coded_of_marks dim rows lines rays wide system enc point point_in point_above (far n) (far_wide n) (far_marks n)

    module _ (keep : ℕ → Bool) (left : keep i ≡ false) (kept : Generators) (decodes : Decodes dim lines rays keep kept.list) (spans : (v : List ℤ) → length v ≡ dim + 1 → Codes dim (Upto (dim + 2) rows (length rows)) v → Span kept v) where
      module _ (q : List ℤ) (q_lines : (m : ℕ) → m < length lines → dot (lowered dim (vector_at lines m)) q ≡ pos 0) (q_rest : (t : ℕ) → t < length rays → t ≢ i → pos 0 ≤ℤ dot (lowered dim (vector_at rays t)) q) where
        value_at : (a : List ℤ) → value q (cell a) ≡ dot a q
        value_at a = sym (dot_is q a) ∙ dot_comm q a

        on_line : (l : V) → relaxed_lines dim lines l → value q l ≡ pos 0
        on_line l m = (value_linear q).multiple l (cell (lowered dim (vector_at lines m.index))) (pos 1) (λ j. m.same j ∙ one_time (cell (lowered dim (vector_at lines m.index)) j)) ∙ zero_time (value q (cell (lowered dim (vector_at lines m.index)))) (value_at (lowered dim (vector_at lines m.index)) ∙ q_lines m.index m.is)
          where
            one_time : (x : ℤ) → x ≡ pos 1 *ℤ x
            one_time x = omega (arith, ints)

            zero_time : (x : ℤ) → x ≡ pos 0 → pos 1 *ℤ x ≡ pos 0
            zero_time x e = omega (arith, ints, e)

        on_kept : (r : V) → Among (relaxed dim rays) (KeptAt rays keep) r → pos 0 ≤ℤ value q r
        on_kept r m = by_number m.index m.is m.same
          where
            one_time : (x : ℤ) → x ≡ pos 1 *ℤ x
            one_time x = omega (arith, ints)

            least_time : (z x : ℤ) → z ≡ pos 1 *ℤ x → pos 0 ≤ℤ x → pos 0 ≤ℤ z
            least_time z x e p = omega (arith, ints, e, p)

            by_number : (n : ℕ) → KeptAt rays keep n → Same r (relaxed dim rays n) → pos 0 ≤ℤ value q r
            by_number zero k e = absurd k
            by_number (suc t) k e = least_time (value q r) (value q (cell (lowered dim (vector_at rays t)))) ((value_linear q).multiple r (cell (lowered dim (vector_at rays t))) (pos 1) (λ j. e j ∙ one_time (cell (lowered dim (vector_at rays t)) j)))
                (subst (λ (z : ℤ). pos 0 ≤ℤ z) (sym (value_at (lowered dim (vector_at rays t)))) (q_rest t k.0 (λ s. true≢false (sym k.1 ∙ ap keep s ∙ left))))

        spanned_least : (v : List ℤ) → Span kept v → pos 0 ≤ℤ dot v q
        spanned_least v s =
            let m = from_list dim lines rays keep kept.list decodes (KeptAt rays keep) (λ n k. k) (λ n l e. (l, e)) (λ z. z) (cell v) (span_marks kept v s) in
            by_span (marks_spanned (λ u p. record { index = p.index; is = p.is.0; same = p.same }) (cell v) m)
          where
            by_span : SpansBy (relaxed_lines dim lines) (Among (relaxed dim rays) (KeptAt rays keep)) (cell v) → pos 0 ≤ℤ dot v q
            by_span b = subst (λ (z : ℤ). pos 0 ≤ℤ z) (value_at v) (at_least_zero_of_mul b.times (value q (cell v)) b.positive (subst (λ (z : ℤ). pos 0 ≤ℤ z) ((value_linear q).multiple (λ j. b.times *ℤ cell v j) (cell v) b.times (λ j. refl)) (sums_at_least_zero (value q) (value_linear q) on_line on_kept (λ j. b.times *ℤ cell v j) b.sums)))

        one_each : (z x n y : ℤ) → z ≡ pos 1 *ℤ x +ℤ n *ℤ y → z ≡ x +ℤ n *ℤ y
        one_each z x n y e = omega (arith, ints, e)

        ray_least : pos 0 ≤ℤ dot q (lowered dim (vector_at rays i))
        ray_least = rises (dot q (lowered dim point)) (dot q (lowered dim (vector_at rays i))) (λ n. subst (λ (z : ℤ). pos 0 ≤ℤ z) (dot_comm (far n) q ∙ one_each (dot q (far n)) (dot q (lowered dim point)) (pos n) (dot q (lowered dim (vector_at rays i))) (dot-both q (pos 1) (lowered dim point) (pos n) (lowered dim (vector_at rays i)))) (spanned_least (far n) (spans (far n) (far_wide n) (far_coded n))))

      admits : (q : List ℤ) → Upto (dim + 1) others (length others) q → pos 0 ≤ℤ dot q (lowered dim (vector_at rays i))
      admits q u = ray_least q on_lines on_rest
        where
          whole : All (Meets q) others
          whole m d h = u.meets m d (omega arith) h

          on_lines : (m : ℕ) → m < length lines → dot (lowered dim (vector_at lines m)) q ≡ pos 0
          on_lines m h = all_of_map (Meets q) (λ l. (lowered dim l, true)) lines (all_left (Meets q) (map (λ l. (lowered dim l, true)) lines) (map (λ r. (lowered dim r, false)) (remove rays i)) whole) m [] h

          rest_all : All (λ r. pos 0 ≤ℤ dot (lowered dim r) q) (remove rays i)
          rest_all = all_of_map (Meets q) (λ r. (lowered dim r, false)) (remove rays i) (all_right (Meets q) (map (λ l. (lowered dim l, true)) lines) (map (λ r. (lowered dim r, false)) (remove rays i)) whole)

          on_rest : (t : ℕ) → t < length rays → t ≢ i → pos 0 ≤ℤ dot (lowered dim (vector_at rays t)) q
          on_rest t h ne = by_rest (whole_in_rest rays i t hi h)
            where
              by_rest : InRest rays i t ⊎ (t ≡ i) → pos 0 ≤ℤ dot (lowered dim (vector_at rays t)) q
              by_rest (inl r) = subst (λ (v : List ℤ). pos 0 ≤ℤ dot (lowered dim v) q) (sym r.same) (rest_all r.place [] r.below)
              by_rest (inr e) = absurd (ne e)

      pub vector_needed : cell (vector_at rays i) dim ≡ pos 0 → (cell (vector_at rays i) (dim + 1) ≡ pos 0) ⊎ HasStrictRow dim rows (vector_at rays i) → ⊥
      vector_needed z b = level_vector_needed dim rows lines rays wide system enc point point_in point_above i hi z (bound b) (served (admitted_is_spanned (dim + 1) others (lowered dim (vector_at rays i)) all_wide ray_wide admits))
        where
          bound : (cell (vector_at rays i) (dim + 1) ≡ pos 0) ⊎ HasStrictRow dim rows (vector_at rays i) → (cell (vector_at rays i) (dim + 1) ≡ pos 0) ⊎ ((j : ℕ) × (j < length rows) × (cell (slice_index_or rows j ([], false)).0 dim <ℤ pos 0) × (dot (slice_index_or rows j ([], false)).0 (vector_at rays i) ≡ pos 0))
          bound (inl d) = inl d
          bound (inr r) = inr (r.number, r.below, r.strict, r.zero_on)

pub level_vectors_are_needed : LevelVectorsAreNeeded
level_vectors_are_needed dim rows lines rays keep kept point i wide system enc point_in above h z b left decodes spans = vector_needed dim rows lines rays wide system enc point point_in above i h keep left kept decodes spans z b

-- ---- decoded lists
module _ (dim : ℕ) (lines rays : List Row) (keep : List Bool) (order : List ℕ) (gs : Generators) (kept : AreKept keep order (length rays)) (listed : AreGeneratorsOf dim lines rays order gs.list) where
  line_listed : (i : ℕ) → i < length (vectors lines) → IsListedAs dim gs.list (vector_at (vectors lines) i) Line
  line_listed i h =
      let b : i < length lines = omega (arith, h, length-vectors lines) in
      let s = listed.line i b in
      subst (λ (v : List ℤ). IsListedAs dim gs.list v Line) (sym (vector_at-vectors lines i)) (record { number = i; below = omega (arith, b, listed.as_many); stands = record { kind = s.kind; multiple = s.primitive.multiple } })

  ray_listed : (i : ℕ) → i < length (vectors rays) → kept_at keep i ≡ true → IsListedAs dim gs.list (vector_at (vectors rays) i) (kind_of dim (vector_at (vectors rays) i))
  ray_listed i h t = by_name (kept.all i (omega (arith, h, length-vectors rays)) t)
    where
      at_place : (n : IsNamed order i) → IsListedAs dim gs.list (row_at rays (index_at order n.place)) (kind_of dim (row_at rays (index_at order n.place)))
      at_place n = (let s = listed.ray n.place n.below in record { number = length lines + n.place; below = omega (arith, n.below, listed.as_many); stands = record { kind = s.kind; multiple = s.primitive.multiple } })

      by_name : IsNamed order i → IsListedAs dim gs.list (vector_at (vectors rays) i) (kind_of dim (vector_at (vectors rays) i))
      by_name n = subst (λ (v : List ℤ). IsListedAs dim gs.list v (kind_of dim v)) (sym (vector_at-vectors rays i)) (subst (λ (m : ℕ). IsListedAs dim gs.list (row_at rays m) (kind_of dim (row_at rays m))) n.same (at_place n))

  each_stands : (m : ℕ) → m < length gs.list → StandsForLine dim (vectors lines) (generator_at gs.list m) ⊎ StandsForRay dim (vectors rays) (kept_at keep) (generator_at gs.list m)
  each_stands m h = by_place (cases_lt m (length lines))
    where
      as_line : m < length lines → StandsForLine dim (vectors lines) (generator_at gs.list m)
      as_line l =
          let s = listed.line m l in
          record { index = m; below = omega (arith, l, length-vectors lines); stands = record { kind = s.kind; multiple = subst (λ (v : List ℤ). IsMultipleOf (lowered dim v) (generator_at gs.list m).0) (sym (vector_at-vectors lines m)) s.primitive.multiple } }

      as_ray : (k : ℕ) → k < length order → m ≡ length lines + k → StandsForRay dim (vectors rays) (kept_at keep) (generator_at gs.list m)
      as_ray k l e =
          let s = listed.ray k l in
          subst (λ (n : ℕ). StandsForRay dim (vectors rays) (kept_at keep) (generator_at gs.list n)) (sym e) (record {
            index = index_at order k;
            below = omega (arith, (kept.each k l).0, length-vectors rays);
            kept = (kept.each k l).1;
            stands = record {
              kind = s.kind ∙ ap (kind_of dim) (sym (vector_at-vectors rays (index_at order k)));
              multiple = subst (λ (v : List ℤ). IsMultipleOf (lowered dim v) (generator_at gs.list (length lines + k)).0) (sym (vector_at-vectors rays (index_at order k))) s.primitive.multiple;
            };
          })

      by_place : (m < length lines) ⊎ (length lines ≤ m) → StandsForLine dim (vectors lines) (generator_at gs.list m) ⊎ StandsForRay dim (vectors rays) (kept_at keep) (generator_at gs.list m)
      by_place (inl l) = inl (as_line l)
      by_place (inr l) = inr (as_ray (m - length lines) (omega (arith, l, h, listed.as_many)) (omega (arith, l)))

  pub decodes_kept : Decodes dim (vectors lines) (vectors rays) (kept_at keep) gs.list
  decodes_kept = record { line = line_listed; ray = ray_listed; each = each_stands }

pub listed_decodes : ListedDecodes
listed_decodes dim lines rays keep order gs kept listed = decodes_kept dim lines rays keep order gs kept listed

number_kept : (keep : List Bool) (rays : List (List ℤ)) (i : ℕ) → Stay (Numbered rays) (remain_by keep) (suc i) → (i < length rays) × (kept_at keep i ≡ true)
number_kept keep rays i s = s

pub kept_generators_code : KeptGeneratorsCode
kept_generators_code dim rows line_rows ray_rows keep order gs point v wide system enc point_in point_up spare kept listed w = (to, from)
  where
    lines : List (List ℤ)
    lines = vectors line_rows

    decodes : Decodes dim (vectors line_rows) (vectors ray_rows) (kept_at keep) gs.list
    decodes = decodes_kept dim line_rows ray_rows keep order gs kept listed

    k : IsKept (relaxed_lines dim (vectors line_rows)) (relaxed dim (vectors ray_rows)) (Numbered (vectors ray_rows)) (PointAt_of dim (vectors ray_rows)) (Stay (Numbered (vectors ray_rows)) (remain_by keep))
    k = remain_all dim rows (vectors line_rows) (vectors ray_rows) wide system enc point point_in point_up keep spare

    rays_by : (u : V) → Among (relaxed dim (vectors ray_rows)) (Numbered (vectors ray_rows)) u → SpansBy (relaxed_lines dim (vectors line_rows)) (Among (relaxed dim (vectors ray_rows)) (Stay (Numbered (vectors ray_rows)) (remain_by keep))) u
    rays_by u m = spans_same (relaxed dim (vectors ray_rows) m.index) u (k.spanned m.index m.is) m.same

    marks_by : (u : V) → Among (relaxed dim (vectors ray_rows)) (Both (Numbered (vectors ray_rows)) (PointAt_of dim (vectors ray_rows))) u → Marks (relaxed_lines dim (vectors line_rows)) (Among (relaxed dim (vectors ray_rows)) (Stay (Numbered (vectors ray_rows)) (remain_by keep))) (Among (relaxed dim (vectors ray_rows)) (Both (Stay (Numbered (vectors ray_rows)) (remain_by keep)) (PointAt_of dim (vectors ray_rows)))) u
    marks_by u m = marks_same (relaxed dim (vectors ray_rows) m.index) u m.same (k.marked m.index m.is.0 m.is.1)

    fewer : (u : V) → Among (relaxed dim (vectors ray_rows)) (Stay (Numbered (vectors ray_rows)) (remain_by keep)) u → SpansBy (relaxed_lines dim (vectors line_rows)) (Among (relaxed dim (vectors ray_rows)) (Numbered (vectors ray_rows))) u
    fewer u m = one_span u (record { index = m.index; is = m.is.0; same = m.same })

    fewer_points : (u : V) → Among (relaxed dim (vectors ray_rows)) (Both (Stay (Numbered (vectors ray_rows)) (remain_by keep)) (PointAt_of dim (vectors ray_rows))) u → Marks (relaxed_lines dim (vectors line_rows)) (Among (relaxed dim (vectors ray_rows)) (Numbered (vectors ray_rows))) (Among (relaxed dim (vectors ray_rows)) (Both (Numbered (vectors ray_rows)) (PointAt_of dim (vectors ray_rows)))) u
    fewer_points u m = marks_one u (relaxed dim (vectors ray_rows) m.index) (record { index = m.index; is = (m.is.0.0, m.is.1); same = λ j. refl }) m.same

    to : Span gs v → Codes dim (Upto (dim + 2) rows (length rows)) v
    to s =
        coded_of_marks dim rows (vectors line_rows) (vectors ray_rows) wide system enc point point_in point_up v w
        (marks_trans fewer fewer_points (cell v)
        (from_list dim (vectors line_rows) (vectors ray_rows) (kept_at keep) gs.list decodes (Stay (Numbered (vectors ray_rows)) (remain_by keep)) (number_kept keep (vectors ray_rows)) (λ i h e. (h, e)) (λ z. z.0) (cell v) (span_marks gs v s)))

    from : Codes dim (Upto (dim + 2) rows (length rows)) v → Span gs v
    from c =
        marks_span gs v (to_list dim (vectors line_rows) (vectors ray_rows) (kept_at keep) gs.list decodes (Stay (Numbered (vectors ray_rows)) (remain_by keep)) (number_kept keep (vectors ray_rows)) (λ i h e. (h, e)) (λ z. z.0) (cell v)
        (marks_trans rays_by marks_by (cell v)
        (marks_of_coded dim rows (vectors line_rows) (vectors ray_rows) wide system enc point point_in point_up v w c)))
