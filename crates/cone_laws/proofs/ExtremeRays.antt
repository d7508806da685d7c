-- Rays of a system are extreme, and what is 0 where a ray is 0 is a multiple of the ray but for the lines.
use Rattle.std.proofs.Common.{◌≡◌, ◌≢◌, ◌⊎◌, inl, inr, ℕ, zero, suc, ◌<◌, ◌≤◌, List, [], ◌∷◌, length, slice_index_or, true, false, ℤ, pos, ◌+ℤ◌, ◌-ℤ◌, ◌*ℤ◌, neg_ℤ, ◌≤ℤ◌, ◌<ℤ◌, sym, ap, ◌∙◌, subst, arith}
use Rattle.std.proofs.lemmas.Int.{ints}
use Rattle.std.proofs.lemmas.Bool.{cases_eq}
use Rattle.std.proofs.lemmas.List.{get_or_default}
use Rattle.std.proofs.lemmas.List.Elements.{All-nil, All-cons}
use Rattle.row_core.specs.Vectors.{cell, dot, scale, add, combined}
use Rattle.row_core.specs.Lists.{Row, row_at, vector_at}
use Rattle.cone_laws.specs.Cones.{Meets, Upto, Spans, negated}
use Rattle.cone_laws.specs.Canon.{IsSystem}
use Rattle.cone_laws.proofs.Ring.{ring, mul-at_least_zero, by_sign, mul-zero}
use Rattle.cone_laws.proofs.Columns.{cell-scale, cell-negated, cell-add, length-scale, length-add, dot-add, dot-scale, dot-negated}
use Rattle.cone_laws.proofs.UptoRows.{asks_least}
use Rattle.cone_laws.proofs.UniqueRays.{IsLikeRay, like_ray}
use Rattle.cone_laws.proofs.UniqueSystems.{upto_cone}
use Rattle.cone_laws.specs.Members.{ConeOf}
use Rattle.cone_laws.specs.ExtremeRays.{IsZeroWhere, Touches}

plus_none : (x a b : ℤ) → x ≡ a +ℤ b → x ≡ a +ℤ (b +ℤ pos 0)
plus_none x a b e = omega (arith, ints, e)

pub extreme : (width : ℕ) (rows : List Row) (k : ℕ) (lines rays : List (List ℤ)) (i : ℕ) (m t : ℤ) (s z : List ℤ) → IsSystem (Upto width rows k) lines rays → i < length rays → pos 0 <ℤ t → Upto width rows k s → Upto width rows k z → ((j : ℕ) → m *ℤ cell (vector_at rays i) j ≡ t *ℤ cell s j +ℤ cell z j) → Spans lines (vector_at rays i ∷ []) s
extreme width rows k lines rays i m t s z sys b p cs cz e =
    let l : IsLikeRay width (Upto width rows k) (upto_cone width rows k) lines rays sys i s = like_ray width (Upto width rows k) (upto_cone width rows k) lines rays sys i b m t s z p cs cz e in
    record {
      times = l.times;
      positive = l.positive;
      line_factors = l.factors;
      ray_factors = l.part ∷ [];
      at_least_zero = All-cons (λ x. pos 0 ≤ℤ x) l.part [] l.at_least_zero (All-nil (λ x. pos 0 ≤ℤ x));
      sum = λ j. plus_none (l.times *ℤ cell s j) (combined l.factors lines j) (l.part *ℤ cell (vector_at rays i) j) (l.sum j);
    }

-- ---- sums of values
-- the sum of the values of a vector on the first k rows
abbrev total : List Row → List ℤ → ℕ → ℤ
total rows v zero = pos 0
total rows v (suc k) = dot (row_at rows k) v +ℤ total rows v k

least_value : (width : ℕ) (rows : List Row) (v : List ℤ) → ConeOf width rows v → (i : ℕ) → i < length rows → pos 0 ≤ℤ dot (row_at rows i) v
least_value width rows v u i h = asks_least (slice_index_or rows i ([], false)).1 (dot (row_at rows i) v) (u.meets i ([], false) (omega arith) h)

module _ (width : ℕ) (rows : List Row) (v : List ℤ) (u : ConeOf width rows v) where
  total_least : (k : ℕ) → k ≤ length rows → pos 0 ≤ℤ total rows v k
  total_least zero h = omega (arith, ints)
  total_least (suc k) h = omega (arith, ints, least_value width rows v u k (omega (arith, h)), total_least k (omega (arith, h)))

  within_total : (i k : ℕ) → i < k → k ≤ length rows → dot (row_at rows i) v ≤ℤ total rows v k
  within_total i zero h l = absurd (omega (arith, h))
  within_total i (suc k) h l = by_case (cases_eq i k) (λ m. within_total i k m (omega (arith, l)))
    where
      by_case : (i ≡ k) ⊎ (i ≢ k) → (i < k → dot (row_at rows i) v ≤ℤ total rows v k) → dot (row_at rows i) v ≤ℤ (dot (row_at rows k) v +ℤ total rows v k)
      by_case (inl e) far = let q : dot (row_at rows i) v ≡ dot (row_at rows k) v = ap (λ (n : ℕ). dot (row_at rows n) v) e in omega (arith, ints, q, total_least k (omega (arith, l)))
      by_case (inr ne) far = omega (arith, ints, far (omega (arith, h, ne)), least_value width rows v u k (omega (arith, l)))

-- ---- numbers
zero_less : (t x y z : ℤ) → z ≡ t *ℤ x +ℤ neg_ℤ y → x ≡ pos 0 → y ≡ pos 0 → z ≡ pos 0
zero_less t x y z e f g = let a : t *ℤ x ≡ pos 0 = ap (λ (k : ℤ). t *ℤ k) f ∙ mul-zero t in omega (arith, ints, e, a, g)

times_more : (t x : ℤ) → pos 0 ≤ℤ t → pos 0 <ℤ x → t ≤ℤ (t *ℤ x)
times_more t x p q =
    let a : pos 0 ≤ℤ (t *ℤ (x -ℤ pos 1)) = mul-at_least_zero t (x -ℤ pos 1) p (omega (arith, ints, q)) in
    let b : t *ℤ (x -ℤ pos 1) ≡ t *ℤ x -ℤ t = spread t x in
    omega (arith, ints, a, b)
  where
    spread : (t x : ℤ) → t *ℤ (x -ℤ pos 1) ≡ t *ℤ x -ℤ t
    spread t x = simp ring (omega (arith, ints))

least_less : (t x y z : ℤ) → z ≡ t *ℤ x +ℤ neg_ℤ y → pos 0 ≤ℤ t → pos 0 ≤ℤ x → (x ≡ pos 0 → y ≡ pos 0) → y ≤ℤ t → pos 0 ≤ℤ z
least_less t x y z e p q r l = by_case (by_sign x)
  where
    by_case : (pos 0 <ℤ x) ⊎ ((x <ℤ pos 0) ⊎ (x ≡ pos 0)) → pos 0 ≤ℤ z
    by_case (inl a) = omega (arith, ints, e, times_more t x p a, l)
    by_case (inr (inl a)) = absurd (omega (arith, ints, a, q))
    by_case (inr (inr a)) = omega (arith, ints, zero_less t x y z e a (r a))

-- ---- t times the one vector less the other
abbrev less : ℤ → List ℤ → List ℤ → List ℤ
less t f s = add (scale t f) (negated s)

dot-less : (a : List ℤ) (t : ℤ) (f s : List ℤ) → dot a (less t f s) ≡ t *ℤ dot a f +ℤ neg_ℤ (dot a s)
dot-less a t f s = dot-add a (scale t f) (negated s) ∙ ap (λ (z : ℤ). z +ℤ dot a (negated s)) (dot-scale a t f) ∙ ap (λ (z : ℤ). t *ℤ dot a f +ℤ z) (dot-negated a s)

cell-less : (t : ℤ) (f s : List ℤ) (j : ℕ) → cell (less t f s) j ≡ t *ℤ cell f j +ℤ neg_ℤ (cell s j)
cell-less t f s j = cell-add (scale t f) (negated s) j ∙ ap (λ (z : ℤ). z +ℤ cell (negated s) j) (cell-scale t f j) ∙ ap (λ (z : ℤ). t *ℤ cell f j +ℤ z) (cell-negated s j)

meets_less : (row : Row) (t : ℤ) (f s v : List ℤ) → dot row.0 v ≡ t *ℤ dot row.0 f +ℤ neg_ℤ (dot row.0 s) → pos 0 ≤ℤ t → Meets f row → Meets s row → (dot row.0 f ≡ pos 0 → dot row.0 s ≡ pos 0) → dot row.0 s ≤ℤ t → Meets v row
meets_less (a, true) t f s v e p m n r l = zero_less t (dot a f) (dot a s) (dot a v) e m n
meets_less (a, false) t f s v e p m n r l = least_less t (dot a f) (dot a s) (dot a v) e p m r l

module _ (width : ℕ) (rows : List Row) (f s : List ℤ) (uf : ConeOf width rows f) (us : ConeOf width rows s) (zeros : IsZeroWhere rows f s) where
  abbrev t : ℤ
  t = total rows s (length rows)

  less_meets : (i : ℕ) (d : Row) → i < length rows → Meets (less t f s) (slice_index_or rows i d)
  less_meets i d h = meets_less (slice_index_or rows i d) t f s (less t f s) (dot-less (slice_index_or rows i d).0 t f s) (total_least width rows s us (length rows) (omega arith)) (uf.meets i d (omega arith) h) (us.meets i d (omega arith) h)
      (λ z. subst (λ (r : Row). dot r.0 s ≡ pos 0) (sym same) (zeros i h (subst (λ (r : Row). dot r.0 f ≡ pos 0) same z)))
      (subst (λ (r : Row). dot r.0 s ≤ℤ t) (sym same) (within_total width rows s us i (length rows) h (omega arith)))
    where
      same : slice_index_or rows i d ≡ slice_index_or rows i ([], false)
      same = get_or_default rows i d ([], false) h

  less_within : ConeOf width rows (less t f s)
  less_within = record {
    wide = length-add (scale t f) (negated s) (length-scale t f ∙ uf.wide ∙ sym (length-scale (neg_ℤ (pos 1)) s ∙ us.wide)) ∙ length-scale (neg_ℤ (pos 1)) s ∙ us.wide;
    meets = λ i d l h. less_meets i d h;
  }

parts : (t x y z : ℤ) → z ≡ t *ℤ x +ℤ neg_ℤ y → t *ℤ x ≡ pos 1 *ℤ y +ℤ z
parts t x y z e = omega (arith, ints, e)

pub face_of_ray : (width : ℕ) (rows : List Row) (lines rays : List (List ℤ)) (i : ℕ) (s : List ℤ) → IsSystem (ConeOf width rows) lines rays → i < length rays → ConeOf width rows s → IsZeroWhere rows (vector_at rays i) s → Spans lines (vector_at rays i ∷ []) s
face_of_ray width rows lines rays i s sys h us zeros =
    extreme width rows (length rows) lines rays i (total rows s (length rows)) (pos 1) s (less (total rows s (length rows)) (vector_at rays i) s) sys h (omega (arith, ints)) us
    (less_within width rows (vector_at rays i) s (sys.generates.rays_within i [] h) us zeros)
    (λ j. parts (total rows s (length rows)) (cell (vector_at rays i) j) (cell s j) (cell (less (total rows s (length rows)) (vector_at rays i) s) j) (cell-less (total rows s (length rows)) (vector_at rays i) s j))

-- ---- a row on which the one vector is 0 and the other isn't, if any
find_touch : (width : ℕ) (rows : List Row) (f s : List ℤ) → ConeOf width rows s → (k : ℕ) → k ≤ length rows → Touches rows f s ⊎ ((m : ℕ) → m < k → dot (row_at rows m) f ≡ pos 0 → dot (row_at rows m) s ≡ pos 0)
find_touch width rows f s us zero h = inr (λ m l. absurd (omega (arith, l)))
find_touch width rows f s us (suc k) h = more (find_touch width rows f s us k (omega (arith, h))) (by_sign (dot (row_at rows k) f)) (by_sign (dot (row_at rows k) s))
  where
    longer : ((m : ℕ) → m < k → dot (row_at rows m) f ≡ pos 0 → dot (row_at rows m) s ≡ pos 0) → (dot (row_at rows k) f ≡ pos 0 → dot (row_at rows k) s ≡ pos 0) → (m : ℕ) → m < suc k → dot (row_at rows m) f ≡ pos 0 → dot (row_at rows m) s ≡ pos 0
    longer z last m l = by_place (cases_eq m k)
      where
        by_place : (m ≡ k) ⊎ (m ≢ k) → dot (row_at rows m) f ≡ pos 0 → dot (row_at rows m) s ≡ pos 0
        by_place (inl e) = subst (λ (x : ℕ). dot (row_at rows x) f ≡ pos 0 → dot (row_at rows x) s ≡ pos 0) (sym e) last
        by_place (inr ne) = z m (omega (arith, l, ne))

    more : Touches rows f s ⊎ ((m : ℕ) → m < k → dot (row_at rows m) f ≡ pos 0 → dot (row_at rows m) s ≡ pos 0) → (pos 0 <ℤ dot (row_at rows k) f) ⊎ ((dot (row_at rows k) f <ℤ pos 0) ⊎ (dot (row_at rows k) f ≡ pos 0)) → (pos 0 <ℤ dot (row_at rows k) s) ⊎ ((dot (row_at rows k) s <ℤ pos 0) ⊎ (dot (row_at rows k) s ≡ pos 0)) → Touches rows f s ⊎ ((m : ℕ) → m < suc k → dot (row_at rows m) f ≡ pos 0 → dot (row_at rows m) s ≡ pos 0)
    more (inl t) a b = inl t
    more (inr z) (inl a) b = inr (longer z (λ e. absurd (omega (arith, ints, a, e))))
    more (inr z) (inr (inl a)) b = inr (longer z (λ e. absurd (omega (arith, ints, a, e))))
    more (inr z) (inr (inr e)) (inl b) = inl (record { index = k; below = omega (arith, h); zero = e; positive = b })
    more (inr z) (inr (inr e)) (inr (inl b)) = absurd (omega (arith, ints, b, least_value width rows s us k (omega (arith, h))))
    more (inr z) (inr (inr e)) (inr (inr b)) = inr (longer z (λ f. b))

pub ray_touches : (width : ℕ) (rows : List Row) (lines rays : List (List ℤ)) (i : ℕ) (s : List ℤ) → IsSystem (ConeOf width rows) lines rays → i < length rays → ConeOf width rows s → Touches rows (vector_at rays i) s ⊎ Spans lines (vector_at rays i ∷ []) s
ray_touches width rows lines rays i s sys h us = by_case (find_touch width rows (vector_at rays i) s us (length rows) (omega arith))
  where
    by_case : Touches rows (vector_at rays i) s ⊎ IsZeroWhere rows (vector_at rays i) s → Touches rows (vector_at rays i) s ⊎ Spans lines (vector_at rays i ∷ []) s
    by_case (inl t) = inl t
    by_case (inr z) = inr (face_of_ray width rows lines rays i s sys h us z)
