-- Lines of generators are needed; what leads both ways is spanned; emptiness.
use Rattle.std.proofs.Common.{map, ◌≡◌, ◌≢◌, ◌⊎◌, inl, inr, ℕ, zero, suc, ◌+◌, ◌<◌, ◌≤◌, List, [], ◌∷◌, length, slice_index_or, Bool, true, false, ℤ, pos, negsuc, ◌+ℤ◌, ◌*ℤ◌, neg_ℤ, ◌≤ℤ◌, ◌<ℤ◌, refl, sym, ap, ◌∙◌, subst, arith}
use Rattle.std.proofs.lemmas.Int.{ints}
use Rattle.std.proofs.lemmas.List.{get_or_past}
use Rattle.std.proofs.lemmas.Bool.{cases_lt}
use Rattle.row_core.specs.Vectors.{cell, dot, scale, combined}
use Rattle.row_core.specs.Lists.{Row}
use Rattle.row_core.specs.Content.{IsMultipleOf}
use Rattle.cone_laws.specs.Cones.{Upto, Spans, negated}
use Rattle.cone_laws.specs.Canon.{vector_at, IsSystem, IsPivot}
use Rattle.cone_laws.proofs.Ring.{ring, mul-zero, mul-positive, zero_of_mul, at_least_zero_of_mul}
use Rattle.cone_laws.proofs.ThirdRay.{same_number}
use Rattle.cone_laws.proofs.Columns.{cell-scale, dot-scale, cell-negated, length-scale}
use Rattle.cone_laws.proofs.UptoRows.{Asks}
use Rattle.cone_laws.proofs.Existence.{both, length-both}
use Rattle.cone_laws.proofs.Bipolar.{dot-both}
use Rattle.gens_sys.specs.Generators.{Generator, Generators, generator_at, rows_of}
use Rattle.gens_sys.specs.Spans.{Span}
use Rattle.nnc_enc.specs.Encoding.{raised, lowered, Codes, IsEncoded}
use Rattle.nnc_enc.specs.DecodedVectors.{StandsForRay, all_kept}
use Rattle.nnc_enc.proofs.EncodedRows.{remove_insert, cell_insert}
use Rattle.nnc_enc.proofs.ClosedRows.{value_flat}
use Rattle.nnc_enc.proofs.CodedPoints.{line_divisor, line_height}
use Rattle.nnc_enc.proofs.Relaxed.{cell-remove, skip_before}
use Rattle.nnc_enc.specs.Needs.{StandsForOtherLine, LinesAreNeeded, NoHeightNoPoint, TwoWaysAreSpanned}
use Rattle.nnc_enc.proofs.NeededLemmas.{zero_spanned}

-- ---- a column at which all vectors are 0
abbrev ZeroAt : ℕ → List ℤ → Type 0
ZeroAt j v = cell v j ≡ pos 0

combined_zero : (ks : List ℤ) (gs : List Generator) (j : ℕ) → ((m : ℕ) → m < length gs → cell (generator_at gs m).0 j ≡ pos 0) → combined ks (rows_of gs) j ≡ pos 0
combined_zero [] gs j f = refl
combined_zero (k ∷ ks) [] j f = refl
combined_zero (k ∷ ks) (g ∷ gs) j f = nothing k (cell g.0 j) (combined ks (rows_of gs) j) (f 0 (omega arith)) (combined_zero ks gs j (λ m h. f (suc m) (omega (arith, h))))
  where
    nothing : (k x s : ℤ) → x ≡ pos 0 → s ≡ pos 0 → k *ℤ x +ℤ s ≡ pos 0
    nothing k x s e f = let z = mul-zero k in let y : k *ℤ x ≡ k *ℤ pos 0 = ap (λ (n : ℤ). k *ℤ n) e in omega (arith, ints, z, y, f)

sum_zero : (ks : List ℤ) (gs : List (List ℤ)) (j : ℕ) → ((m : ℕ) → m < length gs → cell (vector_at gs m) j ≡ pos 0) → combined ks gs j ≡ pos 0
sum_zero [] gs j f = refl
sum_zero (k ∷ ks) [] j f = refl
sum_zero (k ∷ ks) (g ∷ gs) j f = nothing k (cell g j) (combined ks gs j) (f 0 (omega arith)) (sum_zero ks gs j (λ m h. f (suc m) (omega (arith, h))))
  where
    nothing : (k x s : ℤ) → x ≡ pos 0 → s ≡ pos 0 → k *ℤ x +ℤ s ≡ pos 0
    nothing k x s e f = let z = mul-zero k in let y : k *ℤ x ≡ k *ℤ pos 0 = ap (λ (n : ℤ). k *ℤ n) e in omega (arith, ints, z, y, f)

positive_times : (n : ℕ) → 0 < n → pos 0 <ℤ pos n
positive_times n h = omega (arith, ints, h)

-- a vector of which one that is 0 there is a multiple
multiple_zero : (old new : List ℤ) (j : ℕ) → IsMultipleOf old new → cell old j ≡ pos 0 → cell new j ≡ pos 0
multiple_zero old new j m z = zero_of_mul (pos m.times) (cell new j) (positive_times m.times m.positive) (sym (cell-scale (pos m.times) new j) ∙ ap (λ (v : List ℤ). cell v j) (sym m.same) ∙ z)

module _ (dim : ℕ) (rows : List Row) (lines rays : List (List ℤ)) (wide : (j : ℕ) → j < length rows → length (slice_index_or rows j ([], false)).0 ≡ dim + 2) (system : IsSystem (Upto (dim + 2) rows (length rows)) lines rays) (enc : IsEncoded dim (Upto (dim + 2) rows (length rows))) (point : List ℤ) (point_in : Upto (dim + 2) rows (length rows) point) (point_above : pos 0 <ℤ cell point dim) where
  pub pivot_variable : (i : ℕ) → i < length lines → system.echelon.pivot i < dim
  pivot_variable i h = by_place (cases_lt (system.echelon.pivot i) dim)
    where
      p : IsPivot (vector_at lines i) (system.echelon.pivot i)
      p = system.echelon.pivots i h

      not_zero : (x : ℤ) → pos 0 <ℤ x → x ≡ pos 0 → ⊥
      not_zero x q e = omega (arith, ints, q, e)

      at_height : system.echelon.pivot i ≡ dim → ⊥
      at_height e = not_zero (cell (vector_at lines i) (system.echelon.pivot i)) p.positive (ap (cell (vector_at lines i)) e ∙ line_height dim rows lines rays wide system enc point point_in point_above i h)

      at_divisor : system.echelon.pivot i ≡ dim + 1 → ⊥
      at_divisor e = not_zero (cell (vector_at lines i) (system.echelon.pivot i)) p.positive (ap (cell (vector_at lines i)) e ∙ line_divisor dim rows lines rays wide system enc point point_in point_above i h)

      past : dim + 2 ≤ system.echelon.pivot i → ⊥
      past l = not_zero (cell (vector_at lines i) (system.echelon.pivot i)) p.positive (get_or_past (vector_at lines i) (system.echelon.pivot i) (pos 0) (omega (arith, l, (system.generates.lines_within i [] h).0.wide)))

      by_number : dim ≤ system.echelon.pivot i → (system.echelon.pivot i ≡ dim) ⊎ (system.echelon.pivot i ≢ dim) → (system.echelon.pivot i ≡ dim + 1) ⊎ (system.echelon.pivot i ≢ dim + 1) → ⊥
      by_number l (inl e) d = at_height e
      by_number l (inr n) (inl e) = at_divisor e
      by_number l (inr n) (inr m) = past (omega (arith, l, n, m))

      by_place : (system.echelon.pivot i < dim) ⊎ (dim ≤ system.echelon.pivot i) → system.echelon.pivot i < dim
      by_place (inl l) = l
      by_place (inr l) = absurd (by_number l (same_number (system.echelon.pivot i) dim) (same_number (system.echelon.pivot i) (dim + 1)))

  module _ (i : ℕ) (hi : i < length lines) where
    at_pivot : (a : List ℤ) → cell (lowered dim a) (system.echelon.pivot i) ≡ cell a (system.echelon.pivot i)
    at_pivot a = cell-remove dim a (system.echelon.pivot i) ∙ ap (cell a) (skip_before dim (system.echelon.pivot i) (pivot_variable i hi))

    module _ (kept : Generators) (each : (m : ℕ) → m < length kept.list → StandsForOtherLine dim lines i (generator_at kept.list m) ⊎ StandsForRay dim rays all_kept (generator_at kept.list m)) where
      entry_zero : (g : Generator) → StandsForOtherLine dim lines i g ⊎ StandsForRay dim rays all_kept g → cell g.0 (system.echelon.pivot i) ≡ pos 0
      entry_zero g (inl l) = multiple_zero (lowered dim (vector_at lines l.index)) g.0 (system.echelon.pivot i) l.stands.multiple (at_pivot (vector_at lines l.index) ∙ system.echelon.lines_zero i l.index hi l.below (λ e. l.other (sym e)))
      entry_zero g (inr r) = multiple_zero (lowered dim (vector_at rays r.index)) g.0 (system.echelon.pivot i) r.stands.multiple (at_pivot (vector_at rays r.index) ∙ system.echelon.rays_zero i r.index hi r.below)

      spanned_zero : (v : List ℤ) → Span kept v → cell v (system.echelon.pivot i) ≡ pos 0
      spanned_zero v s = zero_of_mul s.times (cell v (system.echelon.pivot i)) s.positive (s.sum (system.echelon.pivot i) ∙ combined_zero s.factors kept.list (system.echelon.pivot i) (λ m h. entry_zero (generator_at kept.list m) (each m h)))

      not_both : (u v : List ℤ) → Span kept u → ((j : ℕ) → cell v j ≡ cell u j +ℤ cell (lowered dim (vector_at lines i)) j) → ¬ (Span kept v)
      not_both u v s f t = clash (cell v (system.echelon.pivot i)) (cell u (system.echelon.pivot i)) (cell (lowered dim (vector_at lines i)) (system.echelon.pivot i)) (f (system.echelon.pivot i)) (spanned_zero u s) (spanned_zero v t) (subst (λ (z : ℤ). pos 0 <ℤ z) (sym (at_pivot (vector_at lines i))) (system.echelon.pivots i hi).positive)
        where
          clash : (z x y : ℤ) → z ≡ x +ℤ y → x ≡ pos 0 → z ≡ pos 0 → pos 0 <ℤ y → ⊥
          clash z x y e p q r = omega (arith, ints, e, p, q, r)

  -- ---- what leads both ways
  module _ (l : List ℤ) (lw : length l ≡ dim + 1) (leads : (p : List ℤ) → length p ≡ dim + 1 → Codes dim (Upto (dim + 2) rows (length rows)) p → Codes dim (Upto (dim + 2) rows (length rows)) (both (pos 1) p (pos 1) l) × Codes dim (Upto (dim + 2) rows (length rows)) (both (pos 1) p (negsuc 0) l)) where
    abbrev gen : ℕ → List ℤ
    gen j = (slice_index_or rows j ([], false)).0

    one_step : (z x y s : ℤ) → z ≡ pos 1 *ℤ x +ℤ s *ℤ y → z ≡ x +ℤ s *ℤ y
    one_step z x y s e = omega (arith, ints, e)

    -- n steps from a point
    abbrev far : List ℤ → ℤ → ℕ → List ℤ
    far p s zero = p
    far p s (suc n) = both (pos 1) (far p s n) s l

    far_wide : (p : List ℤ) (s : ℤ) (n : ℕ) → length p ≡ dim + 1 → length (far p s n) ≡ dim + 1
    far_wide p s zero e = e
    far_wide p s (suc n) e = length-both (pos 1) (far p s n) s l (far_wide p s n e ∙ sym lw) ∙ lw

    far_value : (a p : List ℤ) (s : ℤ) (n : ℕ) → dot a (far p s n) ≡ dot a p +ℤ pos n *ℤ (s *ℤ dot a l)
    far_value a p s zero = start (dot a p) (s *ℤ dot a l)
      where
        start : (x y : ℤ) → x ≡ x +ℤ pos 0 *ℤ y
        start x y = omega (arith, ints)
    far_value a p s (suc n) = further (dot a (far p s (suc n))) (dot a (far p s n)) (dot a p) (s *ℤ dot a l) n (one_step (dot a (both (pos 1) (far p s n) s l)) (dot a (far p s n)) (dot a l) s (dot-both a (pos 1) (far p s n) s l)) (far_value a p s n)
      where
        times_more : (n : ℕ) (y : ℤ) → pos (suc n) *ℤ y ≡ pos n *ℤ y +ℤ y
        times_more n y = let e : pos (suc n) ≡ pos n +ℤ pos 1 = omega (arith, ints) in ap (λ (k : ℤ). k *ℤ y) e ∙ spread (pos n) y
          where
            spread : (k y : ℤ) → (k +ℤ pos 1) *ℤ y ≡ k *ℤ y +ℤ y
            spread k y = simp ring (omega (arith, ints))

        further : (z x p y : ℤ) (n : ℕ) → z ≡ x +ℤ y → x ≡ p +ℤ pos n *ℤ y → z ≡ p +ℤ pos (suc n) *ℤ y
        further z x p y n e f = let t = times_more n y in omega (arith, ints, e, f, t)

    module _ (s : ℤ) (step : (p : List ℤ) → length p ≡ dim + 1 → Codes dim (Upto (dim + 2) rows (length rows)) p → Codes dim (Upto (dim + 2) rows (length rows)) (both (pos 1) p s l)) (p : List ℤ) (pw : length p ≡ dim + 1) (coded : Codes dim (Upto (dim + 2) rows (length rows)) p) where
      far_coded : (n : ℕ) → Codes dim (Upto (dim + 2) rows (length rows)) (far p s n)
      far_coded zero = coded
      far_coded (suc n) = step (far p s n) (far_wide p s n pw) (far_coded n)

      asks_of_times : (eq : Bool) (t x z : ℤ) → pos 0 <ℤ t → z ≡ t *ℤ x → Asks eq z → Asks eq x
      asks_of_times true t x z h e a = zero_of_mul t x h (sym e ∙ a)
      asks_of_times false t x z h e a = at_least_zero_of_mul t x h (subst (λ (y : ℤ). pos 0 ≤ℤ y) e a)

      far_asks : (j : ℕ) → j < length rows → (n : ℕ) → Asks (slice_index_or rows j ([], false)).1 (dot (lowered dim (gen j)) (far p s n))
      far_asks j h n =
          let c = far_coded n in
          let w = far_wide p s n pw in
          let q = scale c.times (far p s n) in
          let qw : length (scale c.times (far p s n)) ≡ dim + 1 = length-scale c.times (far p s n) ∙ w in
          let flat = subst (λ (v : List ℤ). Upto (dim + 2) rows (length rows) (raised dim v (pos 0))) (remove_insert dim (scale c.times (far p s n)) c.height (omega (arith, qw))) (enc.flat (raised dim (scale c.times (far p s n)) c.height) c.member) in
          asks_of_times (slice_index_or rows j ([], false)).1 c.times (dot (lowered dim (gen j)) (far p s n)) (dot (gen j) (raised dim (scale c.times (far p s n)) (pos 0))) c.positive
          (value_flat dim rows lines rays wide system j h (scale c.times (far p s n)) qw ∙ dot-scale (lowered dim (gen j)) c.times (far p s n))
          (flat.meets j ([], false) (omega arith) h)

      -- values at all multiples decide the sign
      rises : (eq : Bool) (y x : ℤ) → ((n : ℕ) → Asks eq (y +ℤ pos n *ℤ x)) → Asks eq x
      rises true y x f = difference y x (f 0) (f 1)
        where
          difference : (y x : ℤ) → y +ℤ pos 0 *ℤ x ≡ pos 0 → y +ℤ pos 1 *ℤ x ≡ pos 0 → x ≡ pos 0
          difference y x e g = omega (arith, ints, e, g)
      rises false (pos m) (pos k) f = omega (arith, ints)
      rises false (negsuc m) x f = absurd (below m x (f 0))
        where
          below : (m : ℕ) (x : ℤ) → pos 0 ≤ℤ (negsuc m +ℤ pos 0 *ℤ x) → ⊥
          below m x h = omega (arith, ints, h)
      rises false (pos m) (negsuc k) f = absurd (falls m k (f (suc m)))
        where
          falls : (m k : ℕ) → pos 0 ≤ℤ (pos m +ℤ pos (suc m) *ℤ negsuc k) → ⊥
          falls m k h =
              let g : pos (suc m) *ℤ negsuc k ≡ neg_ℤ (pos (suc m)) +ℤ pos (suc m) *ℤ neg_ℤ (pos k) = spread (pos (suc m)) (negsuc k) (neg_ℤ (pos k)) (omega (arith, ints)) in
              let t : pos 0 ≤ℤ (pos (suc m) *ℤ pos k) = least m k in
              let u : pos (suc m) *ℤ neg_ℤ (pos k) ≡ neg_ℤ (pos (suc m) *ℤ pos k) = simp ring in
              omega (arith, ints, h, g, t, u)
            where
              spread : (t x y : ℤ) → x ≡ neg_ℤ (pos 1) +ℤ y → t *ℤ x ≡ neg_ℤ t +ℤ t *ℤ y
              spread t x y e = ap (λ (z : ℤ). t *ℤ z) e ∙ one_less t y
                where
                  one_less : (t y : ℤ) → t *ℤ (neg_ℤ (pos 1) +ℤ y) ≡ neg_ℤ t +ℤ t *ℤ y
                  one_less t y = simp ring (omega (arith, ints))

              least : (m k : ℕ) → pos 0 ≤ℤ (pos (suc m) *ℤ pos k)
              least m k = omega (arith, ints)

      side : (j : ℕ) → j < length rows → Asks (slice_index_or rows j ([], false)).1 (s *ℤ dot (lowered dim (gen j)) l)
      side j h = rises (slice_index_or rows j ([], false)).1 (dot (lowered dim (gen j)) p) (s *ℤ dot (lowered dim (gen j)) l) (λ n. subst (λ (z : ℤ). Asks (slice_index_or rows j ([], false)).1 z) (far_value (lowered dim (gen j)) p s n) (far_asks j h n))

    two_sides : (eq : Bool) (x : ℤ) → Asks eq (pos 1 *ℤ x) → Asks eq (negsuc 0 *ℤ x) → x ≡ pos 0
    two_sides true x a b = omega (arith, ints, a)
    two_sides false x a b = omega (arith, ints, a, b)

    pub two_ways_spanned : (p : List ℤ) → length p ≡ dim + 1 → Codes dim (Upto (dim + 2) rows (length rows)) p → Spans (map (lowered dim) lines) [] l
    two_ways_spanned p pw coded = zero_spanned dim rows lines rays wide system l lw (λ j h. value_flat dim rows lines rays wide system j h l lw ∙ two_sides (slice_index_or rows j ([], false)).1 (dot (lowered dim (gen j)) l) (side (pos 1) (λ q w c. (leads q w c).0) p pw coded j h) (side (negsuc 0) (λ q w c. (leads q w c).1) p pw coded j h))

pub lines_are_needed : LinesAreNeeded
lines_are_needed dim rows lines rays kept i point u v wide system enc point_in above h each s f = not_both dim rows lines rays wide system enc point point_in above i h kept each u v s f

pub two_ways_are_spanned : TwoWaysAreSpanned
two_ways_are_spanned dim rows lines rays point l p wide system enc point_in above lw leads pw coded = two_ways_spanned dim rows lines rays wide system enc point point_in above l lw leads p pw coded

-- ---- emptiness
pub no_height_no_point : NoHeightNoPoint
no_height_no_point dim rows lines rays p system enc low pw c = clash s.times c.height (s.sum dim) s.positive c.above
  where
    w : List ℤ
    w = raised dim (scale c.times p) c.height

    s : Spans lines rays (raised dim (scale c.times p) c.height)
    s = system.generates.spans (raised dim (scale c.times p) c.height) c.member

    height_is : cell (raised dim (scale c.times p) c.height) dim ≡ c.height
    height_is = cell_insert dim (scale c.times p) c.height (omega (arith, length-scale c.times p, pw))

    line_zero : (m : ℕ) → m < length lines → cell (vector_at lines m) dim ≡ pos 0
    line_zero m h = flat (cell (vector_at lines m) dim) (cell (negated (vector_at lines m)) dim) (cell-negated (vector_at lines m) dim) (enc.height (vector_at lines m) (system.generates.lines_within m [] h).0) (enc.height (negated (vector_at lines m)) (system.generates.lines_within m [] h).1)
      where
        flat : (x y : ℤ) → y ≡ neg_ℤ x → pos 0 ≤ℤ x → pos 0 ≤ℤ y → x ≡ pos 0
        flat x y e p q = omega (arith, ints, e, p, q)

    ray_zero : (m : ℕ) → m < length rays → cell (vector_at rays m) dim ≡ pos 0
    ray_zero m h = between (cell (vector_at rays m) dim) (enc.height (vector_at rays m) (system.generates.rays_within m [] h)) (low m h)
      where
        between : (x : ℤ) → pos 0 ≤ℤ x → x ≤ℤ pos 0 → x ≡ pos 0
        between x p q = omega (arith, ints, p, q)

    clash : (t h : ℤ) → t *ℤ cell (raised dim (scale c.times p) c.height) dim ≡ combined s.line_factors lines dim +ℤ combined s.ray_factors rays dim → pos 0 <ℤ t → pos 0 <ℤ c.height → ⊥
    clash t h e q r =
        let z = mul-positive t c.height q r in
        let f : t *ℤ c.height ≡ combined s.line_factors lines dim +ℤ combined s.ray_factors rays dim = ap (λ (y : ℤ). t *ℤ y) (sym height_is) ∙ e in
        let a = sum_zero s.line_factors lines dim line_zero in
        let b = sum_zero s.ray_factors rays dim ray_zero in
        omega (arith, ints, z, f, a, b)
