-- A ray, or a closure point that isn't loose, can't be left out.
use Rattle.std.proofs.Common.{◌≡◌, ◌⊎◌, inl, inr, ℕ, zero, suc, ◌+◌, ◌<◌, List, [], length, slice_index_or, false, ℤ, pos, ◌+ℤ◌, ◌*ℤ◌, neg_ℤ, ◌≤ℤ◌, ◌<ℤ◌, refl, sym, ap, ◌∙◌, arith}
use Rattle.std.proofs.lemmas.Int.{ints}
use Rattle.row_core.specs.Vectors.{cell, dot}
use Rattle.row_core.specs.Lists.{Row}
use Rattle.cone_laws.specs.Cones.{Upto}
use Rattle.cone_laws.specs.Canon.{vector_at, IsSystem}
use Rattle.cone_laws.proofs.Ring.{ring, by_sign, mul-zero, mul-positive}
use Rattle.cone_laws.proofs.Sums.{Among, SpansBy}
use Rattle.cone_laws.proofs.Columns.{dot-multiple}
use Rattle.cone_laws.proofs.Instance.{Beside}
use Rattle.nnc_enc.specs.Encoding.{lowered, IsEncoded}
use Rattle.nnc_enc.proofs.MarkedSums.{Without}
use Rattle.nnc_enc.proofs.ClosedRows.{least_on, ray_in}
use Rattle.nnc_enc.proofs.CodedPoints.{line_height}
use Rattle.nnc_enc.proofs.CoveredPoints.{value_on}
use Rattle.nnc_enc.proofs.Lifted.{IsLift, beside_needed}
use Rattle.nnc_enc.proofs.Relaxed.{Numbered, cell-remove, relaxed, relaxed_lines, same_level, skip, skip_self}
use Rattle.nnc_enc.proofs.Relaxed.{PointAt_of}

module _ (dim : ℕ) (gens : List Row) (lines rays : List (List ℤ)) (wide : (j : ℕ) → j < length gens → length (slice_index_or gens j ([], false)).0 ≡ dim + 2) (system : IsSystem (Upto (dim + 2) gens (length gens)) lines rays) where
  abbrev gen : ℕ → List ℤ
  gen j = (slice_index_or gens j ([], false)).0

  abbrev D : List ℤ → Type 0
  D = Upto (dim + 2) gens (length gens)

  abbrev PointAt : ℕ → Type 0
  PointAt = PointAt_of dim rays

  module _ (enc : IsEncoded dim (Upto (dim + 2) gens (length gens))) (point : List ℤ) (point_in : Upto (dim + 2) gens (length gens) point) (point_above : pos 0 <ℤ cell point dim) where
    -- ---- a direction, or a vector on which a strict row is 0, isn't a sum of the lines and the other vectors
    lift_vector : (i n : ℕ) → Without (Numbered rays) (suc i) n → IsLift dim gens lines rays wide system n
    lift_vector i zero m = elim m.0 [ ]
    lift_vector i (suc n) m = record { vector = vector_at rays n; member = ray_in dim gens lines rays wide system n m.0; same = λ j. refl }

    once : (x : ℤ) → pos 0 <ℤ x → pos 0 <ℤ (pos 1 *ℤ x)
    once x p = omega (arith, ints, p)

    at_once : (x : ℤ) → pos 0 <ℤ (pos 1 *ℤ x) → pos 0 <ℤ x
    at_once x p = omega (arith, ints, p)

    vector_side : (i n : ℕ) (m : Without (Numbered rays) (suc i) n) → (pos 0 <ℤ (pos 1 *ℤ cell (lift_vector i n m).vector dim)) ⊎ ((cell (lift_vector i n m).vector dim ≡ pos 0) × Beside rays i (cell (lift_vector i n m).vector))
    unfolding lift_vector
    vector_side i zero m = elim m.0 [ ]
    vector_side i (suc n) m = by_height (by_sign (cell (vector_at rays n) dim))
      where
        below : (x : ℤ) → pos 0 ≤ℤ x → x <ℤ pos 0 → ⊥
        below x p q = omega (arith, ints, p, q)

        by_height : (pos 0 <ℤ cell (vector_at rays n) dim) ⊎ ((cell (vector_at rays n) dim <ℤ pos 0) ⊎ (cell (vector_at rays n) dim ≡ pos 0)) → (pos 0 <ℤ (pos 1 *ℤ cell (vector_at rays n) dim)) ⊎ ((cell (vector_at rays n) dim ≡ pos 0) × Beside rays i (cell (vector_at rays n)))
        by_height (inl p) = inl (once (cell (vector_at rays n) dim) p)
        by_height (inr (inl p)) = absurd (below (cell (vector_at rays n) dim) (enc.height (vector_at rays n) (ray_in dim gens lines rays wide system n m.0)) p)
        by_height (inr (inr z)) = inr (z, record { index = n; is = (m.0, λ e. m.1 (ap suc e)); same = λ j. refl })

    -- the vector is a direction, or a strict row of the list is 0 on it
    abbrev IsBound : ℕ → Type 0
    IsBound i = (cell (vector_at rays i) (dim + 1) ≡ pos 0) ⊎ ((j : ℕ) × (j < length gens) × (cell (gen j) dim <ℤ pos 0) × (dot (gen j) (vector_at rays i) ≡ pos 0))

    above_zero : (e d : ℤ) → pos 0 <ℤ e → e ≤ℤ d → d ≡ pos 0 → ⊥
    above_zero e d p q z = omega (arith, ints, p, q, z)

    below_slope : (x y c e : ℤ) → x ≡ y +ℤ c *ℤ e → pos 0 ≤ℤ x → y ≡ pos 0 → c <ℤ pos 0 → pos 0 <ℤ e → ⊥
    below_slope x y c e h p z q r =
        let t = mul-positive (neg_ℤ c) e (omega (arith, ints, q)) r in
        let s : neg_ℤ c *ℤ e ≡ neg_ℤ (c *ℤ e) = simp ring in
        omega (arith, ints, h, p, z, t, s)

    times_nothing : (t x : ℤ) → x ≡ pos 0 → t *ℤ x ≡ pos 0
    times_nothing t x e = ap (λ (n : ℤ). t *ℤ n) e ∙ mul-zero t

    pub level_vector_needed : (i : ℕ) → i < length rays → cell (vector_at rays i) dim ≡ pos 0 → IsBound i → ¬ (SpansBy (relaxed_lines dim lines) (Among (relaxed dim rays) (Without (Numbered rays) (suc i))) (relaxed dim rays (suc i)))
    level_vector_needed i h z bound =
        beside_needed dim gens lines rays wide system (pos 1) i (line_height dim gens lines rays wide system enc point point_in point_above) (Without (Numbered rays) (suc i)) (lift_vector i) (vector_side i) h z
        (λ t w u p at_skip. by_bound t w u at_skip (at_once (cell w dim) p) bound)
      where
        lowered_value : (t : ℤ) (w : List ℤ) → ((k : ℕ) → t *ℤ cell (vector_at rays i) (skip dim k) ≡ cell w (skip dim k)) → (j : ℕ) → j < length gens → dot (lowered dim (gen j)) (lowered dim w) ≡ t *ℤ dot (gen j) (vector_at rays i)
        lowered_value t w at_skip j l =
            dot-multiple (lowered dim (gen j)) (lowered dim w) (lowered dim (vector_at rays i)) t (λ n. cell-remove dim w n ∙ sym (at_skip n) ∙ ap (λ (x : ℤ). t *ℤ x) (sym (cell-remove dim (vector_at rays i) n)))
            ∙ ap (λ (n : ℤ). t *ℤ n) (sym (same_level (dot (gen j) (vector_at rays i)) (dot (lowered dim (gen j)) (lowered dim (vector_at rays i))) (cell (gen j) dim) (cell (vector_at rays i) dim) (value_on dim gens lines rays wide system enc point point_in point_above j l (vector_at rays i) (ray_in dim gens lines rays wide system i h)) z))

        by_bound : (t : ℤ) (w : List ℤ) → D w → ((k : ℕ) → t *ℤ cell (vector_at rays i) (skip dim k) ≡ cell w (skip dim k)) → pos 0 <ℤ cell w dim → IsBound i → ⊥
        by_bound t w u at_skip p (inl d) =
            above_zero (cell w dim) (cell w (dim + 1)) p (enc.bound w u)
            (ap (cell w) (omega arith ∙ sym (skip_self dim)) ∙ sym (at_skip dim) ∙ times_nothing t (cell (vector_at rays i) (skip dim dim)) (ap (cell (vector_at rays i)) (skip_self dim ∙ omega arith) ∙ d))
        by_bound t w u at_skip p (inr (j, l, q, e)) =
            below_slope (dot (gen j) w) (dot (lowered dim (gen j)) (lowered dim w)) (cell (gen j) dim) (cell w dim) (value_on dim gens lines rays wide system enc point point_in point_above j l w u) (least_on dim gens lines rays wide system w u j l)
            (lowered_value t w at_skip j l ∙ times_nothing t (dot (gen j) (vector_at rays i)) e) q p
