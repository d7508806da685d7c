-- Strong generators behind the lines are strictly sorted.
use Rattle.std.proofs.Common.{◌≡◌, ◌≢◌, ◌⊎◌, inl, inr, ℕ, zero, suc, ◌+◌, ◌<◌, List, [], length, slice_index_or, false, ℤ, pos, negsuc, ◌+ℤ◌, ◌*ℤ◌, neg_ℤ, ◌≤ℤ◌, ◌<ℤ◌, refl, sym, ap, ◌∙◌, subst, arith}
use Rattle.std.specs.Ordering.{MatchOrdering, int_cmp}
use Rattle.std.specs.Cmp.Lexicographic.{slice_cmp}
use Rattle.std.specs.declared.cmp.Ordering.{Ordering}
use Rattle.std.specs.declared.cmp.Ordering.TheVariants.{Less, Equal, Greater}
use Rattle.std.proofs.lemmas.Int.{ints}
use Rattle.row_core.specs.Vectors.{cell, dot}
use Rattle.row_core.specs.Content.{IsMultipleOf}
use Rattle.row_core.proofs.OnePrimitive.{IsPrimitiveOf-once}
use Rattle.row_core.specs.Lists.{Row, row_at, vectors}
use Rattle.cone_laws.specs.Cones.{Upto}
use Rattle.row_core.specs.Orders.{IsGreater}
use Rattle.cone_laws.specs.Canon.{vector_at}
use Rattle.cone_laws.proofs.Ring.{ring, mul-zero, mul-positive, zero_of_mul, positive_of_mul, same_or_not}
use Rattle.cone_laws.proofs.Sums.{spans_of_multiple, spans_sums, sums_one_ray}
use Rattle.cone_laws.proofs.Columns.{dot-scale, cell-scale, length-scale}
use Rattle.row_core.proofs.OrderLemmas.{order_lexicographic}
use Rattle.gens_sys.specs.Generators.{Generators, generator_at}
use Rattle.nnc_enc.specs.Encoding.{lowered}
use Rattle.nnc_enc.specs.StrongRows.{IsApart}
use Rattle.nnc_enc.proofs.EncodedRows.{dot_by_height}
use Rattle.nnc_enc.proofs.EncodedDuals.{lowered_width, last_at}
use Rattle.nnc_enc.proofs.ClosedRows.{least_on}
use Rattle.nnc_enc.proofs.LevelVectors.{level_vector_needed}
use Rattle.nnc_enc.proofs.Relaxed.{relaxed}
use Rattle.nnc_enc.specs.Strong.{HasStrictRow}
use Rattle.nnc_enc.specs.Decoding.{index_at, AreKept}
use Rattle.nnc_enc.specs.Sorting.{AreStrongVectors}
use Rattle.nnc_enc.specs.Results.{AreVectorsOf}
use Rattle.nnc_enc.proofs.MarkLemmas.{length-vectors, vector_at-vectors}
use Rattle.nnc_enc.proofs.OrderLemmas.{kept_permutation}

positive_times : (n : ℕ) → 0 < n → pos 0 <ℤ pos n
positive_times n h = omega (arith, ints, h)

-- numbers: x and z are positive multiples of y, beside c times e
level_zero : (x s y c e : ℤ) → x ≡ s *ℤ y +ℤ c *ℤ e → c ≡ pos 0 → pos 0 <ℤ s → x ≡ pos 0 → y ≡ pos 0
level_zero x s y c e h z p q =
    let t : c *ℤ e ≡ pos 0 = ap (λ (n : ℤ). n *ℤ e) z ∙ omega (arith, ints) in
    zero_of_mul s y p (omega (arith, ints, h, t, q))

level_value : (x s y c e : ℤ) → x ≡ s *ℤ y +ℤ c *ℤ e → c ≡ pos 0 → y ≡ pos 0 → x ≡ pos 0
level_value x s y c e h z q =
    let t : c *ℤ e ≡ pos 0 = ap (λ (n : ℤ). n *ℤ e) z ∙ omega (arith, ints) in
    let u : s *ℤ y ≡ pos 0 = ap (λ (n : ℤ). s *ℤ n) q ∙ mul-zero s in
    omega (arith, ints, h, t, u)

flat_zero : (x s y c e : ℤ) → x ≡ s *ℤ y +ℤ c *ℤ e → e ≡ pos 0 → pos 0 <ℤ s → x ≡ pos 0 → y ≡ pos 0
flat_zero x s y c e h z p q =
    let t : c *ℤ e ≡ pos 0 = ap (λ (n : ℤ). c *ℤ n) z ∙ mul-zero c in
    zero_of_mul s y p (omega (arith, ints, h, t, q))

falls_below : (x s y c e : ℤ) → x ≡ s *ℤ y +ℤ c *ℤ e → y ≡ pos 0 → c <ℤ pos 0 → pos 0 <ℤ e → pos 0 ≤ℤ x → ⊥
falls_below x s y c e h z p q l =
    let u : s *ℤ y ≡ pos 0 = ap (λ (n : ℤ). s *ℤ n) z ∙ mul-zero s in
    let t = mul-positive (neg_ℤ c) e (omega (arith, ints, p)) q in
    let w : neg_ℤ c *ℤ e ≡ neg_ℤ (c *ℤ e) = simp ring in
    omega (arith, ints, h, u, t, w, l)

swapped_times : (a b s t y : ℤ) → a ≡ s *ℤ y → b ≡ t *ℤ y → s *ℤ b ≡ t *ℤ a
swapped_times a b s t y e f = ap (λ (n : ℤ). s *ℤ n) f ∙ turned s t y ∙ ap (λ (n : ℤ). t *ℤ n) (sym e)
  where
    turned : (s t y : ℤ) → s *ℤ (t *ℤ y) ≡ t *ℤ (s *ℤ y)
    turned s t y = simp ring

module _ (dim : ℕ) (rows lines rays : List Row) (gs : Generators) (r : AreVectorsOf dim rows lines rays) (s : AreStrongVectors dim rows lines rays gs.list) where
  kept : AreKept s.keep s.order (length rays)
  kept = kept_permutation s.keep (length rays) s.kept s.order s.ordered.permutation s.are_kept

  abbrev ray : ℕ → List ℤ
  ray k = vector_at (vectors rays) (index_at s.order k)

  abbrev stored : ℕ → List ℤ
  stored k = (generator_at gs.list (length lines + k)).0

  in_rays : (k : ℕ) → k < length s.order → index_at s.order k < length (vectors rays)
  in_rays k h = omega (arith, (kept.each k h).0, length-vectors rays)

  member : (k : ℕ) → k < length s.order → Upto (dim + 2) rows (length rows) (vector_at (vectors rays) (index_at s.order k))
  member k h = r.system.generates.rays_within (index_at s.order k) [] (in_rays k h)

  multiple : (k : ℕ) → k < length s.order → IsMultipleOf (lowered dim (vector_at (vectors rays) (index_at s.order k))) (generator_at gs.list (length lines + k)).0
  multiple k h = subst (λ (v : List ℤ). IsMultipleOf (lowered dim v) (generator_at gs.list (length lines + k)).0) (sym (vector_at-vectors rays (index_at s.order k))) (s.listed.ray k h).primitive.multiple

  times_above : (k : ℕ) (h : k < length s.order) → pos 0 <ℤ pos (multiple k h).times
  times_above k h = positive_times (multiple k h).times (multiple k h).positive

  -- the value of a row on a ray, by the stored vector
  on_ray : (j : ℕ) → j < length rows → (k : ℕ) (h : k < length s.order) → dot (row_at rows j) (vector_at (vectors rays) (index_at s.order k)) ≡ pos (multiple k h).times *ℤ dot (lowered dim (row_at rows j)) (generator_at gs.list (length lines + k)).0 +ℤ cell (row_at rows j) dim *ℤ cell (vector_at (vectors rays) (index_at s.order k)) dim
  on_ray j l k h =
      dot_by_height dim (row_at rows j) (vector_at (vectors rays) (index_at s.order k)) (omega (arith, r.wide j l)) (omega (arith, (member k h).wide))
      ∙ ap (λ (z : ℤ). z +ℤ cell (row_at rows j) dim *ℤ cell (vector_at (vectors rays) (index_at s.order k)) dim) (ap (dot (lowered dim (row_at rows j))) (multiple k h).same ∙ dot-scale (lowered dim (row_at rows j)) (pos (multiple k h).times) (generator_at gs.list (length lines + k)).0)

  entry : (k : ℕ) (h : k < length s.order) (j : ℕ) → cell (lowered dim (vector_at (vectors rays) (index_at s.order k))) j ≡ pos (multiple k h).times *ℤ cell (generator_at gs.list (length lines + k)).0 j
  entry k h j = ap (λ (v : List ℤ). cell v j) (multiple k h).same ∙ cell-scale (pos (multiple k h).times) (generator_at gs.list (length lines + k)).0 j

  module _ (k m : ℕ) (hk : k < length s.order) (hm : m < length s.order) (ne : k ≢ m) (same : (generator_at gs.list (length lines + k)).0 ≡ (generator_at gs.list (length lines + m)).0) where
    other_index : index_at s.order m ≢ index_at s.order k
    other_index e = ne (sym (kept.once m k hm hk e))

    value_same : (a : List ℤ) → dot a (generator_at gs.list (length lines + k)).0 ≡ dot a (generator_at gs.list (length lines + m)).0
    value_same a = ap (dot a) same

    both_points : pos 0 <ℤ cell (vector_at (vectors rays) (index_at s.order k)) dim → pos 0 <ℤ cell (vector_at (vectors rays) (index_at s.order m)) dim → ⊥
    both_points p q = a.other (level_value (dot (row_at rows a.number) (vector_at (vectors rays) (index_at s.order m))) (pos (multiple m hm).times) (dot (lowered dim (row_at rows a.number)) (generator_at gs.list (length lines + m)).0) (cell (row_at rows a.number) dim) (cell (vector_at (vectors rays) (index_at s.order m)) dim) (on_ray a.number a.below m hm) a.level
        (sym (value_same (lowered dim (row_at rows a.number))) ∙ level_zero (dot (row_at rows a.number) (vector_at (vectors rays) (index_at s.order k))) (pos (multiple k hk).times) (dot (lowered dim (row_at rows a.number)) (generator_at gs.list (length lines + k)).0) (cell (row_at rows a.number) dim) (cell (vector_at (vectors rays) (index_at s.order k)) dim) (on_ray a.number a.below k hk) a.level (times_above k hk) a.zero_on))
      where
        a : IsApart dim rows (vector_at (vectors rays) (index_at s.order m)) (vector_at (vectors rays) (index_at s.order k))
        a = s.pass.apart (index_at s.order k) (index_at s.order m) (in_rays k hk) (in_rays m hm) (kept.each k hk).1 (kept.each m hm).1 other_index p q

    above_of : (d e : ℤ) → e ≤ℤ d → pos 0 <ℤ e → pos 0 <ℤ d
    above_of d e h p = omega (arith, ints, h, p)

    not_zero : (z : ℤ) → pos 0 <ℤ z → z ≢ pos 0
    not_zero z p e = omega (arith, ints, p, e)

    point_and_place : pos 0 <ℤ cell (vector_at (vectors rays) (index_at s.order k)) dim → cell (vector_at (vectors rays) (index_at s.order m)) dim ≡ pos 0 → ⊥
    point_and_place p z = falls_below (dot (row_at rows b.number) (vector_at (vectors rays) (index_at s.order k))) (pos (multiple k hk).times) (dot (lowered dim (row_at rows b.number)) (generator_at gs.list (length lines + k)).0) (cell (row_at rows b.number) dim) (cell (vector_at (vectors rays) (index_at s.order k)) dim) (on_ray b.number b.below k hk)
        (value_same (lowered dim (row_at rows b.number)) ∙ flat_zero (dot (row_at rows b.number) (vector_at (vectors rays) (index_at s.order m))) (pos (multiple m hm).times) (dot (lowered dim (row_at rows b.number)) (generator_at gs.list (length lines + m)).0) (cell (row_at rows b.number) dim) (cell (vector_at (vectors rays) (index_at s.order m)) dim) (on_ray b.number b.below m hm) z (times_above m hm) b.zero_on)
        b.strict p (least_on dim rows (vectors lines) (vectors rays) r.wide r.system (vector_at (vectors rays) (index_at s.order k)) (member k hk) b.number b.below)
      where
        divisor_above : pos 0 <ℤ cell (generator_at gs.list (length lines + k)).0 dim
        divisor_above = positive_of_mul (pos (multiple k hk).times) (cell (generator_at gs.list (length lines + k)).0 dim) (times_above k hk)
            (subst (λ (y : ℤ). pos 0 <ℤ y) (last_at dim (vector_at (vectors rays) (index_at s.order k)) (member k hk).wide ∙ entry k hk dim)
            (above_of (cell (vector_at (vectors rays) (index_at s.order k)) (dim + 1)) (cell (vector_at (vectors rays) (index_at s.order k)) dim) (r.encoded.bound (vector_at (vectors rays) (index_at s.order k)) (member k hk)) p))

        place : cell (vector_at (vectors rays) (index_at s.order m)) (dim + 1) ≢ pos 0
        place = not_zero (cell (vector_at (vectors rays) (index_at s.order m)) (dim + 1)) (subst (λ (y : ℤ). pos 0 <ℤ y) (sym (last_at dim (vector_at (vectors rays) (index_at s.order m)) (member m hm).wide ∙ entry m hm dim)) (mul-positive (pos (multiple m hm).times) (cell (generator_at gs.list (length lines + m)).0 dim) (times_above m hm) (subst (λ (v : List ℤ). pos 0 <ℤ cell v dim) same divisor_above)))

        b : HasStrictRow dim rows (vector_at (vectors rays) (index_at s.order m))
        b = s.pass.bound (index_at s.order m) (in_rays m hm) (kept.each m hm).1 z place

    both_flat : cell (vector_at (vectors rays) (index_at s.order k)) dim ≡ pos 0 → ⊥
    both_flat z =
        level_vector_needed dim rows (vectors lines) (vectors rays) r.wide r.system r.encoded r.vector r.member r.above (index_at s.order k) (in_rays k hk) z
        (by_divisor (same_or_not (cell (vector_at (vectors rays) (index_at s.order k)) (dim + 1)) (pos 0)))
        (spans_of_multiple (pos (multiple m hm).times) (relaxed dim (vectors rays) (suc (index_at s.order k))) (λ j. pos (multiple m hm).times *ℤ relaxed dim (vectors rays) (suc (index_at s.order k)) j) (times_above m hm)
        (spans_sums (λ j. pos (multiple m hm).times *ℤ relaxed dim (vectors rays) (suc (index_at s.order k)) j) (sums_one_ray (pos (multiple k hk).times) (relaxed dim (vectors rays) (suc (index_at s.order m))) (λ j. pos (multiple m hm).times *ℤ relaxed dim (vectors rays) (suc (index_at s.order k)) j) (weak (pos (multiple k hk).times) (times_above k hk)) (record { index = suc (index_at s.order m); is = (in_rays m hm, λ e. other_index (omega (arith, e))); same = λ j. refl })
        (λ j. sym (swapped_times (cell (lowered dim (vector_at (vectors rays) (index_at s.order k))) j) (cell (lowered dim (vector_at (vectors rays) (index_at s.order m))) j) (pos (multiple k hk).times) (pos (multiple m hm).times) (cell (generator_at gs.list (length lines + m)).0 j) (entry k hk j ∙ ap (λ (v : List ℤ). pos (multiple k hk).times *ℤ cell v j) same) (entry m hm j)))))
        (λ j. refl))
      where
        weak : (t : ℤ) → pos 0 <ℤ t → pos 0 ≤ℤ t
        weak t h = omega (arith, ints, h)

        found : HasStrictRow dim rows (vector_at (vectors rays) (index_at s.order k)) → (cell (vector_at (vectors rays) (index_at s.order k)) (dim + 1) ≡ pos 0) ⊎ ((j : ℕ) × (j < length rows) × (cell (slice_index_or rows j ([], false)).0 dim <ℤ pos 0) × (dot (slice_index_or rows j ([], false)).0 (vector_at (vectors rays) (index_at s.order k)) ≡ pos 0))
        found b = inr (b.number, b.below, b.strict, b.zero_on)

        by_divisor : (cell (vector_at (vectors rays) (index_at s.order k)) (dim + 1) ≡ pos 0) ⊎ (cell (vector_at (vectors rays) (index_at s.order k)) (dim + 1) ≢ pos 0) → (cell (vector_at (vectors rays) (index_at s.order k)) (dim + 1) ≡ pos 0) ⊎ ((j : ℕ) × (j < length rows) × (cell (slice_index_or rows j ([], false)).0 dim <ℤ pos 0) × (dot (slice_index_or rows j ([], false)).0 (vector_at (vectors rays) (index_at s.order k)) ≡ pos 0))
        by_divisor (inl d) = inl d
        by_divisor (inr d) = found (s.pass.bound (index_at s.order k) (in_rays k hk) (kept.each k hk).1 z d)

  height_cases : (k : ℕ) → k < length s.order → (pos 0 <ℤ cell (vector_at (vectors rays) (index_at s.order k)) dim) ⊎ (cell (vector_at (vectors rays) (index_at s.order k)) dim ≡ pos 0)
  height_cases k h = by_sign_of (cell (vector_at (vectors rays) (index_at s.order k)) dim) (r.encoded.height (vector_at (vectors rays) (index_at s.order k)) (member k h))
    where
      by_sign_of : (e : ℤ) → pos 0 ≤ℤ e → (pos 0 <ℤ e) ⊎ (e ≡ pos 0)
      by_sign_of (pos zero) l = inr refl
      by_sign_of (pos (suc n)) l = inl (omega (arith, ints))
      by_sign_of (negsuc n) l = absurd (omega (arith, ints, l))

  pub not_alike : (k m : ℕ) → k < length s.order → m < length s.order → k ≢ m → (generator_at gs.list (length lines + k)).0 ≡ (generator_at gs.list (length lines + m)).0 → ⊥
  not_alike k m hk hm ne same = by_cases (height_cases k hk) (height_cases m hm)
    where
      by_cases : (pos 0 <ℤ cell (vector_at (vectors rays) (index_at s.order k)) dim) ⊎ (cell (vector_at (vectors rays) (index_at s.order k)) dim ≡ pos 0) → (pos 0 <ℤ cell (vector_at (vectors rays) (index_at s.order m)) dim) ⊎ (cell (vector_at (vectors rays) (index_at s.order m)) dim ≡ pos 0) → ⊥
      by_cases (inl p) (inl q) = both_points k m hk hm ne same p q
      by_cases (inl p) (inr z) = point_and_place k m hk hm ne same p z
      by_cases (inr z) (inl q) = point_and_place m k hm hk (λ e. ne (sym e)) (sym same) q z
      by_cases (inr z) (inr w) = both_flat k m hk hm ne same z

by_ranking : (u v : List ℤ) (o : Ordering) → MatchOrdering o (IsGreater v u) (u ≡ v) (IsGreater u v) → ¬ (IsGreater v u) → ¬ (u ≡ v) → IsGreater u v
by_ranking u v Less g n d = absurd (n g)
by_ranking u v Equal e n d = absurd (d e)
by_ranking u v Greater g n d = g

-- each strong generator behind the lines is greater than the next
pub strong_vectors_are_sorted : (dim : ℕ) (rows lines rays : List Row) (gs : Generators) → AreVectorsOf dim rows lines rays → AreStrongVectors dim rows lines rays gs.list → (k : ℕ) → length lines + (k + 1) < length gs.list → IsGreater (generator_at gs.list (length lines + k)).0 (generator_at gs.list (length lines + (k + 1))).0
strong_vectors_are_sorted dim rows lines rays gs r s k h =
    by_ranking (generator_at gs.list (length lines + k)).0 (generator_at gs.list (length lines + (k + 1))).0 (slice_cmp int_cmp (generator_at gs.list (length lines + k)).0 (generator_at gs.list (length lines + (k + 1))).0)
    (order_lexicographic (generator_at gs.list (length lines + k)).0 (generator_at gs.list (length lines + (k + 1))).0 (wide k (omega (arith, below)) ∙ sym (wide (k + 1) below)))
    (λ g. s.ordered.in_order k (omega (arith, below, s.ordered.as_many)) (subst (λ (v : List ℤ). IsGreater v (vector_at s.ordered.cells k)) (stored_is (k + 1) below) (subst (λ (v : List ℤ). IsGreater (generator_at gs.list (length lines + (k + 1))).0 v) (stored_is k (omega (arith, below))) g)))
    (not_alike dim rows lines rays gs r s k (k + 1) (omega (arith, below)) below (λ e. absurd (omega (arith, e))))
  where
    below : k + 1 < length s.order
    below = omega (arith, h, s.listed.as_many)

    stored_is : (n : ℕ) → n < length s.order → (generator_at gs.list (length lines + n)).0 ≡ vector_at s.ordered.cells n
    stored_is n l = IsPrimitiveOf-once (lowered dim (row_at rays (index_at s.order n))) (generator_at gs.list (length lines + n)).0 (vector_at s.ordered.cells n) (s.listed.ray n l).primitive (s.ordered.each n l)

    wide : (n : ℕ) → n < length s.order → length (generator_at gs.list (length lines + n)).0 ≡ dim + 1
    wide n l = sym (ap length (multiple dim rows lines rays gs r s n l).same ∙ length-scale (pos (multiple dim rows lines rays gs r s n l).times) (generator_at gs.list (length lines + n)).0) ∙ lowered_width dim (vector_at (vectors rays) (index_at s.order n)) (member dim rows lines rays gs r s n l).wide
