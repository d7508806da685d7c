-- A map that can be undone takes the system of a cone to one of the cone's image, and further lines may be added to it.
use Rattle.std.proofs.Common.{◌≡◌, ◌⊎◌, inl, inr, ℕ, ◌+◌, ◌-◌, ◌<◌, ◌≤◌, List, [], ◌++◌, length, ℤ, pos, neg_ℤ, ◌+ℤ◌, ◌*ℤ◌, ◌≤ℤ◌, ◌<ℤ◌, All, refl, sym, ap, ◌∙◌, subst, arith}
use Rattle.std.proofs.lemmas.Int.{ints}
use Rattle.std.proofs.lemmas.Bool.{cases_lt}
use Rattle.std.proofs.lemmas.List.{append-nil, length-append, get_or_append_left, get_or-append-add, get_or-append_right}
use Rattle.std.proofs.lemmas.List.Elements.{All-nil, All-append, All-from_get_or}
use Rattle.row_core.specs.Vectors.{cell}
use Rattle.row_core.specs.Content.{IsPrimitive, IsPrimitiveOf}
use Rattle.row_core.specs.Lists.{Row}
use Rattle.row_core.proofs.Ring.{ring, mul_assoc, mul-positive}
use Rattle.cone_laws.specs.ConeSets.{IsCone}
use Rattle.cone_laws.specs.Cones.{Generates, HasLineality, negated}
use Rattle.cone_laws.specs.Canon.{vector_at, IsEchelon, IsIrredundant, IsSystem}
use Rattle.cone_laws.specs.Members.{ConeOf}
use Rattle.cone_laws.proofs.Columns.{cell-scale, length-scale, value, value_linear, dot_is}
use Rattle.cone_laws.proofs.Sums.{V, Same, Nothing, Sums, none, line, ray, SpansBy, same_value, sums_one_line, sums_one_ray, spans_sums, spans_more, spans_of_multiple, spans_same, spans_add, sums_spans, lines_spans_scale}
use Rattle.cone_laws.proofs.Bridge.{columns, In, in_at, to_sums, to_lines, from_sums, from_lines}
use Rattle.cone_laws.proofs.Instance.{Beside, needed_by_columns, needed_by_lists}
use Rattle.cone_laws.proofs.UniqueSystems.{upto_cone}
use Rattle.minimise.specs.MinimalForms.{AreIndependent, IsMinimalForm}
use Rattle.minimise.proofs.MinimalForms.{independent_columns, independent_lists, echelon_independent}
use Rattle.mapped_systems.specs.CarriedSystems.{IsLinearOn, Undoes, AreInverse, AreCarried, AdmitSources, SystemIsCarried, MinimalIsCarried}

-- ---- a linear map of sums
module _ (from to : ℕ) (f : List ℤ → List ℤ) (lin : IsLinearOn from to f) where
  pub image : V → V
  image v j = value (lin.rows j) v

  pub image_cell : (v : List ℤ) → length v ≡ from → (j : ℕ) → cell (f v) j ≡ image (cell v) j
  unfolding image
  image_cell v w j = lin.values v w j ∙ dot_is (lin.rows j) v

  pub image_same : (u v : V) → Same u v → Same (image u) (image v)
  unfolding image
  image_same u v e j = same_value (value (lin.rows j)) (value_linear (lin.rows j)) u v e

  pub image_multiple : (u v : V) (k : ℤ) → ((j : ℕ) → u j ≡ k *ℤ v j) → (j : ℕ) → image u j ≡ k *ℤ image v j
  unfolding image
  image_multiple u v k e j = (value_linear (lin.rows j)).multiple u v k e

  -- the image of a vector of the set
  record ImageOf (L : V → Type 0) (u : V) : Type 0 where
    source : V
    is : L source
    same : Same u (image source)

  image_sums : {L R : V → Type 0} (v : V) → Sums L R v → Sums (ImageOf L) (ImageOf R) (image v)
  unfolding image
  image_sums v (none z) = none (λ j. (value_linear (lin.rows j)).zero v z)
  image_sums v (line k l u m s h) = line k (image l) (image u) (record { source = l; is = m; same = λ j. refl }) (image_sums u s) (λ j. (value_linear (lin.rows j)).more v l u k h)
  image_sums v (ray k r u p m s h) = ray k (image r) (image u) p (record { source = r; is = m; same = λ j. refl }) (image_sums u s) (λ j. (value_linear (lin.rows j)).more v r u k h)

  -- where the images of lines and rays are spanned, so is that of all that they span
  pub image_spans : {L R M S : V → Type 0} → ((l : V) → L l → SpansBy M Nothing (image l)) → ((r : V) → R r → SpansBy M S (image r)) → (v : V) → SpansBy L R v → SpansBy M S (image v)
  image_spans g k v s =
      spans_of_multiple s.times (image v) (image (λ j. s.times *ℤ v j)) s.positive
      (sums_spans (λ l m. spans_same (image m.source) l (g m.source m.is) m.same) (λ r m. spans_same (image m.source) r (k m.source m.is) m.same) (image (λ j. s.times *ℤ v j)) (image_sums (λ j. s.times *ℤ v j) s.sums))
      (image_multiple (λ j. s.times *ℤ v j) v s.times (λ j. refl))

-- ---- numbers
above_none : (t : ℕ) → 0 < t → pos 0 <ℤ pos t
above_none t h = omega (arith, ints, h)

none_least : (k : ℤ) → pos 0 <ℤ k → pos 0 ≤ℤ k
none_least k h = omega (arith, ints, h)

and_none : (x s y z : ℤ) → x ≡ s *ℤ y → x ≡ s *ℤ y +ℤ pos 0 *ℤ z
and_none x s y z e = omega (arith, ints, e)

both_negated : (t k x y x' y' z : ℤ) → t *ℤ x ≡ k *ℤ y → x' ≡ neg_ℤ (pos 1) *ℤ x → y' ≡ neg_ℤ (pos 1) *ℤ y → t *ℤ x' ≡ k *ℤ y' +ℤ pos 0 *ℤ z
both_negated t k x y x' y' z e f g =
    let m : x' ≡ neg_ℤ x = omega (arith, ints, f) in
    let n : y' ≡ neg_ℤ y = omega (arith, ints, g) in
    let a = ap (λ (u : ℤ). t *ℤ u) m in
    let b = ap (λ (u : ℤ). k *ℤ u) n in
    let c : t *ℤ neg_ℤ x ≡ neg_ℤ (t *ℤ x) = simp ring in
    let d : k *ℤ neg_ℤ y ≡ neg_ℤ (k *ℤ y) = simp ring in
    omega (arith, ints, e, a, b, c, d)

one_of : (x y z : ℤ) → x ≡ y → pos 1 *ℤ x ≡ pos 1 *ℤ y +ℤ pos 0 *ℤ z
one_of x y z e = omega (arith, ints, e)

is_once : (x y : ℤ) → x ≡ y → y ≡ pos 1 *ℤ x
is_once x y e = omega (arith, ints, e)

regrouped : (s m k x y : ℤ) → m *ℤ x ≡ k *ℤ y → (s *ℤ m) *ℤ x ≡ (k *ℤ s) *ℤ y
regrouped s m k x y e =
    let a = ap (λ (z : ℤ). s *ℤ z) e in
    let b : (s *ℤ m) *ℤ x ≡ s *ℤ (m *ℤ x) = simp ring in
    let c : s *ℤ (k *ℤ y) ≡ (k *ℤ s) *ℤ y = simp ring in
    b ∙ a ∙ c

negated_times : (t x y z : ℤ) → y ≡ t *ℤ x → z ≡ neg_ℤ (pos 1) *ℤ x → t *ℤ z ≡ neg_ℤ (pos 1) *ℤ y
negated_times t x y z e f =
    let m : z ≡ neg_ℤ x = omega (arith, ints, f) in
    let a = ap (λ (u : ℤ). t *ℤ u) m in
    let b : t *ℤ neg_ℤ x ≡ neg_ℤ (t *ℤ x) = simp ring in
    omega (arith, ints, e, a, b)

with_rest : (x r y y' z : ℤ) → x ≡ r *ℤ y +ℤ z → y ≡ y' → x ≡ r *ℤ y' +ℤ pos 1 *ℤ z
with_rest x r y y' z e f = let g = ap (λ (u : ℤ). r *ℤ u) f in omega (arith, ints, e, g)

-- ---- maps
-- two linear maps, of which the second undoes the first
pub record IsUndone (from to : ℕ) (f h : List ℤ → List ℤ) : Type 0 where
  pub first_linear : IsLinearOn from to f
  pub second_linear : IsLinearOn to from h
  pub undoes : Undoes from h f

-- up to positive multiples the vector is what f makes of what h makes of it
pub record IsRestored (f h : List ℤ → List ℤ) (v : List ℤ) : Type 0 where
  pub left : ℤ
  pub left_positive : pos 0 <ℤ left
  pub right : ℤ
  pub same : (j : ℕ) → left *ℤ cell v j ≡ right *ℤ cell (f (h v)) j

-- that, and a sum of the free lines
pub record IsSpread (f h : List ℤ → List ℤ) (free : List (List ℤ)) (v : List ℤ) : Type 0 where
  pub left : ℤ
  pub left_positive : pos 0 <ℤ left
  pub right : ℤ
  pub right_positive : pos 0 <ℤ right
  pub rest : V
  pub spanned : SpansBy (In free) Nothing rest
  pub same : (j : ℕ) → left *ℤ cell v j ≡ right *ℤ cell (f (h v)) j +ℤ rest j

-- D has what f makes of the vectors of C, and the free lines, which h makes 0
pub record IsExtension (from to : ℕ) (f h : List ℤ → List ℤ) (free : List (List ℤ)) (C D : List ℤ → Type 0) : Type 0 where
  pub inside : (v : List ℤ) → D v → (length v ≡ to) × C (h v)
  pub spread : (v : List ℤ) → D v → IsSpread f h free v
  pub outside : (v : List ℤ) → length v ≡ to → IsRestored f h v → C (h v) → D v
  pub free_within : All (λ l. D l × D (negated l)) free
  pub free_gone : (i : ℕ) → i < length free → (j : ℕ) → cell (h (vector_at free i)) j ≡ pos 0
  pub free_primitive : All IsPrimitive free

-- ---- one vector
module _ (from to : ℕ) (f h : List ℤ → List ℤ) (inv : IsUndone from to f h) where
  abbrev F : V → V
  F = image from to f inv.first_linear

  abbrev H : V → V
  H = image to from h inv.second_linear

  module _ (old new : List ℤ) (p : IsPrimitiveOf (f old) new) (wide : length old ≡ from) where
    pub times_positive : pos 0 <ℤ pos p.multiple.times
    times_positive = above_none p.multiple.times p.multiple.positive

    pub carried_cell : (j : ℕ) → cell (f old) j ≡ pos p.multiple.times *ℤ cell new j
    carried_cell j = ap (λ (v : List ℤ). cell v j) p.multiple.same ∙ cell-scale (pos p.multiple.times) new j

    pub new_wide : length new ≡ to
    new_wide = sym (length-scale (pos p.multiple.times) new) ∙ ap length (sym p.multiple.same) ∙ inv.first_linear.wide old wide

    -- the map back of the new one is a multiple of the old one
    pub back_cell : (j : ℕ) → pos p.multiple.times *ℤ H (cell new) j ≡ inv.undoes.times *ℤ cell old j
    back_cell j =
        sym (image_multiple to from h inv.second_linear (cell (f old)) (cell new) (pos p.multiple.times) carried_cell j)
        ∙ sym (image_cell to from h inv.second_linear (f old) (inv.first_linear.wide old wide) j)
        ∙ inv.undoes.same old wide j

    pub source_cell : (j : ℕ) → pos p.multiple.times *ℤ cell (h new) j ≡ inv.undoes.times *ℤ cell old j
    source_cell j = ap (λ (z : ℤ). pos p.multiple.times *ℤ z) (image_cell to from h inv.second_linear new new_wide j) ∙ back_cell j

    pub negated_wide : length (negated new) ≡ to
    negated_wide = length-scale (neg_ℤ (pos 1)) new ∙ new_wide

    pub negated_source : (j : ℕ) → cell (h (negated new)) j ≡ neg_ℤ (pos 1) *ℤ cell (h new) j
    negated_source j =
        image_cell to from h inv.second_linear (negated new) negated_wide j
        ∙ image_multiple to from h inv.second_linear (cell (negated new)) (cell new) (neg_ℤ (pos 1)) (cell-scale (neg_ℤ (pos 1)) new) j
        ∙ ap (λ (z : ℤ). neg_ℤ (pos 1) *ℤ z) (sym (image_cell to from h inv.second_linear new new_wide j))

  -- what has a positive multiple that is a multiple of the map of a vector
  module _ (u v : List ℤ) (m k : ℤ) (wide : length u ≡ from) (new_wide : length v ≡ to) (positive : pos 0 <ℤ m) (e : (j : ℕ) → m *ℤ cell v j ≡ k *ℤ cell (f u) j) where
    whole : V
    whole j = m *ℤ cell v j

    source : V
    source = H whole

    source_times : (j : ℕ) → source j ≡ m *ℤ H (cell v) j
    unfolding whole source
    source_times j = image_multiple to from h inv.second_linear whole (cell v) m (λ i. refl) j

    source_is : (j : ℕ) → source j ≡ (k *ℤ inv.undoes.times) *ℤ cell u j
    unfolding whole source
    source_is j =
        image_multiple to from h inv.second_linear whole (cell (f u)) k e j
        ∙ ap (λ (z : ℤ). k *ℤ z) (sym (image_cell to from h inv.second_linear (f u) (inv.first_linear.wide u wide) j) ∙ inv.undoes.same u wide j)
        ∙ sym (mul_assoc k inv.undoes.times (cell u j))

    again : (j : ℕ) → F source j ≡ m *ℤ cell (f (h v)) j
    again j =
        image_multiple from to f inv.first_linear source (H (cell v)) m source_times j
        ∙ ap (λ (z : ℤ). m *ℤ z) (image_same from to f inv.first_linear (H (cell v)) (cell (h v)) (λ i. sym (image_cell to from h inv.second_linear v new_wide i)) j ∙ sym (image_cell from to f inv.first_linear (h v) (inv.second_linear.wide v new_wide) j))

    as_before : (j : ℕ) → F source j ≡ (k *ℤ inv.undoes.times) *ℤ cell (f u) j
    as_before j =
        image_multiple from to f inv.first_linear source (cell u) (k *ℤ inv.undoes.times) source_is j
        ∙ ap (λ (z : ℤ). (k *ℤ inv.undoes.times) *ℤ z) (sym (image_cell from to f inv.first_linear u wide j))

    pub restored : IsRestored f h v
    restored = record {
      left = inv.undoes.times *ℤ m;
      left_positive = mul-positive inv.undoes.times m inv.undoes.positive positive;
      right = m;
      same = λ j. regrouped inv.undoes.times m k (cell v j) (cell (f u) j) (e j) ∙ sym (as_before j) ∙ again j;
    }

-- ---- the system
module _ (from to : ℕ) (f h : List ℤ → List ℤ) (inv : IsUndone from to f h) (free : List (List ℤ)) (C D : List ℤ → Type 0) (cone : IsCone from C) (ext : IsExtension from to f h free C D) where
  abbrev Forth : V → V
  Forth = image from to f inv.first_linear

  abbrev Back : V → V
  Back = image to from h inv.second_linear

  module _ (old new : List ℤ) (p : IsPrimitiveOf (f old) new) (wide : length old ≡ from) where
    carried_within : C old → D new
    carried_within m =
        ext.outside new (new_wide from to f h inv old new p wide)
        (restored from to f h inv old new (pos p.multiple.times) (pos 1) wide (new_wide from to f h inv old new p wide) (times_positive from to f h inv old new p wide) (λ j. is_once (cell (f old) j) (pos p.multiple.times *ℤ cell new j) (carried_cell from to f h inv old new p wide j)))
        (cone.closed (pos p.multiple.times) inv.undoes.times (pos 0) old old (h new) (times_positive from to f h inv old new p wide) (none_least inv.undoes.times inv.undoes.positive) (omega (arith, ints)) m m (inv.second_linear.wide new (new_wide from to f h inv old new p wide))
        (λ j. and_none (pos p.multiple.times *ℤ cell (h new) j) inv.undoes.times (cell old j) (cell old j) (source_cell from to f h inv old new p wide j)))

    negated_within : C (negated old) → D (negated new)
    negated_within m =
        ext.outside (negated new) (negated_wide from to f h inv old new p wide)
        (restored from to f h inv old (negated new) (pos p.multiple.times) (neg_ℤ (pos 1)) wide (negated_wide from to f h inv old new p wide) (times_positive from to f h inv old new p wide) (λ j. negated_times (pos p.multiple.times) (cell new j) (cell (f old) j) (cell (negated new) j) (carried_cell from to f h inv old new p wide j) (cell-scale (neg_ℤ (pos 1)) new j)))
        (cone.closed (pos p.multiple.times) inv.undoes.times (pos 0) (negated old) (negated old) (h (negated new)) (times_positive from to f h inv old new p wide) (none_least inv.undoes.times inv.undoes.positive) (omega (arith, ints)) m m (inv.second_linear.wide (negated new) (negated_wide from to f h inv old new p wide))
        (λ j. both_negated (pos p.multiple.times) inv.undoes.times (cell (h new) j) (cell old j) (cell (h (negated new)) j) (cell (negated old) j) (cell (negated old) j) (source_cell from to f h inv old new p wide j) (negated_source from to f h inv old new p wide j) (cell-scale (neg_ℤ (pos 1)) old j)))

  module _ (lines rays new_lines new_rays : List (List ℤ)) (cl : AreCarried f lines new_lines) (cr : AreCarried f rays new_rays) (s : IsSystem C lines rays) where
    line_wide : (i : ℕ) → i < length lines → length (vector_at lines i) ≡ from
    line_wide i b = cone.wide (vector_at lines i) (s.generates.lines_within i [] b).0

    ray_wide : (i : ℕ) → i < length rays → length (vector_at rays i) ≡ from
    ray_wide i b = cone.wide (vector_at rays i) (s.generates.rays_within i [] b)

    line_at : (i : ℕ) → i < length lines → IsPrimitiveOf (f (vector_at lines i)) (vector_at new_lines i)
    line_at i b = cl.each i [] [] b

    ray_at : (i : ℕ) → i < length rays → IsPrimitiveOf (f (vector_at rays i)) (vector_at new_rays i)
    ray_at i b = cr.each i [] [] b

    new_line_below : (i : ℕ) → i < length lines → i < length new_lines
    new_line_below i b = omega (arith, b, cl.as_many)

    old_line_below : (i : ℕ) → i < length new_lines → i < length lines
    old_line_below i b = omega (arith, b, cl.as_many)

    new_ray_below : (i : ℕ) → i < length rays → i < length new_rays
    new_ray_below i b = omega (arith, b, cr.as_many)

    old_ray_below : (i : ℕ) → i < length new_rays → i < length rays
    old_ray_below i b = omega (arith, b, cr.as_many)

    -- ---- the lines of both lists
    among_first : (v : V) → In new_lines v → In (new_lines ++ free) v
    among_first v m = record {
      index = m.index;
      is = omega (arith, m.is, length-append new_lines free);
      same = λ j. m.same j ∙ ap (λ (w : List ℤ). cell w j) (sym (get_or_append_left new_lines free [] m.index m.is));
    }

    among_free : (v : V) → In free v → In (new_lines ++ free) v
    among_free v m = record {
      index = length new_lines + m.index;
      is = omega (arith, m.is, length-append new_lines free);
      same = λ j. m.same j ∙ ap (λ (w : List ℤ). cell w j) (sym (get_or-append-add new_lines free m.index []));
    }

    of_either : (v : V) → In (new_lines ++ free) v → In new_lines v ⊎ In free v
    of_either v m = by (cases_lt m.index (length new_lines))
      where
        by : (m.index < length new_lines) ⊎ (length new_lines ≤ m.index) → In new_lines v ⊎ In free v
        by (inl l) = inl (record { index = m.index; is = l; same = λ j. m.same j ∙ ap (λ (w : List ℤ). cell w j) (get_or_append_left new_lines free [] m.index l) })
        by (inr g) = inr (record { index = m.index - length new_lines; is = omega (arith, m.is, g, length-append new_lines free); same = λ j. m.same j ∙ ap (λ (w : List ℤ). cell w j) (get_or-append_right new_lines free (length new_lines) m.index [] refl g) })

    -- ---- forward
    line_column : (i : ℕ) (b : i < length lines) (l : V) → Same l (columns lines i) → (j : ℕ) → Forth l j ≡ pos (line_at i b).multiple.times *ℤ columns new_lines i j
    line_column i b l e j =
        image_same from to f inv.first_linear l (columns lines i) e j
        ∙ sym (image_cell from to f inv.first_linear (vector_at lines i) (line_wide i b) j)
        ∙ carried_cell from to f h inv (vector_at lines i) (vector_at new_lines i) (line_at i b) (line_wide i b) j

    ray_column : (i : ℕ) (b : i < length rays) (r : V) → Same r (columns rays i) → (j : ℕ) → Forth r j ≡ pos (ray_at i b).multiple.times *ℤ columns new_rays i j
    ray_column i b r e j =
        image_same from to f inv.first_linear r (columns rays i) e j
        ∙ sym (image_cell from to f inv.first_linear (vector_at rays i) (ray_wide i b) j)
        ∙ carried_cell from to f h inv (vector_at rays i) (vector_at new_rays i) (ray_at i b) (ray_wide i b) j

    lines_spanned : (l : V) → In lines l → SpansBy (In (new_lines ++ free)) Nothing (Forth l)
    lines_spanned l m =
        spans_sums (Forth l)
        (sums_one_line (pos (line_at m.index m.is).multiple.times) (columns new_lines m.index) (Forth l) (among_first (columns new_lines m.index) (in_at new_lines m.index (new_line_below m.index m.is))) (line_column m.index m.is l m.same))

    rays_spanned : (r : V) → In rays r → SpansBy (In (new_lines ++ free)) (In new_rays) (Forth r)
    rays_spanned r m =
        spans_sums (Forth r)
        (sums_one_ray (pos (ray_at m.index m.is).multiple.times) (columns new_rays m.index) (Forth r) (none_least (pos (ray_at m.index m.is).multiple.times) (times_positive from to f h inv (vector_at rays m.index) (vector_at new_rays m.index) (ray_at m.index m.is) (ray_wide m.index m.is))) (in_at new_rays m.index (new_ray_below m.index m.is)) (ray_column m.index m.is r m.same))

    -- ---- back
    line_back : (i : ℕ) (b : i < length lines) (l : V) → Same l (columns new_lines i) → (j : ℕ) → pos (line_at i b).multiple.times *ℤ Back l j ≡ inv.undoes.times *ℤ columns lines i j
    line_back i b l e j =
        ap (λ (z : ℤ). pos (line_at i b).multiple.times *ℤ z) (image_same to from h inv.second_linear l (columns new_lines i) e j)
        ∙ back_cell from to f h inv (vector_at lines i) (vector_at new_lines i) (line_at i b) (line_wide i b) j

    ray_back : (i : ℕ) (b : i < length rays) (r : V) → Same r (columns new_rays i) → (j : ℕ) → pos (ray_at i b).multiple.times *ℤ Back r j ≡ inv.undoes.times *ℤ columns rays i j
    ray_back i b r e j =
        ap (λ (z : ℤ). pos (ray_at i b).multiple.times *ℤ z) (image_same to from h inv.second_linear r (columns new_rays i) e j)
        ∙ back_cell from to f h inv (vector_at rays i) (vector_at new_rays i) (ray_at i b) (ray_wide i b) j

    -- a vector is spanned where a positive multiple is
    of_times : {L R : V → Type 0} (t : ℤ) (v w : V) → pos 0 <ℤ t → ((j : ℕ) → t *ℤ v j ≡ w j) → SpansBy L R w → SpansBy L R v
    of_times t v w p e g = spans_of_multiple t v w p g (λ j. sym (e j))

    line_back_spanned : (l : V) → In new_lines l → SpansBy (In lines) Nothing (Back l)
    line_back_spanned l m =
        let b : m.index < length lines = old_line_below m.index m.is in
        of_times (pos (line_at m.index b).multiple.times) (Back l) (λ j. inv.undoes.times *ℤ columns lines m.index j) (times_positive from to f h inv (vector_at lines m.index) (vector_at new_lines m.index) (line_at m.index b) (line_wide m.index b)) (line_back m.index b l m.same)
        (spans_sums (λ j. inv.undoes.times *ℤ columns lines m.index j) (sums_one_line inv.undoes.times (columns lines m.index) (λ j. inv.undoes.times *ℤ columns lines m.index j) (in_at lines m.index b) (λ j. refl)))

    free_back : (l : V) → In free l → SpansBy (In lines) Nothing (Back l)
    free_back l m =
        spans_sums (Back l)
        (none (λ j. image_same to from h inv.second_linear l (columns free m.index) m.same j ∙ sym (image_cell to from h inv.second_linear (vector_at free m.index) (ext.inside (vector_at free m.index) (ext.free_within m.index [] m.is).0).0 j) ∙ ext.free_gone m.index m.is j))

    lines_back : (l : V) → In (new_lines ++ free) l → SpansBy (In lines) Nothing (Back l)
    lines_back l m = by (of_either l m)
      where
        by : In new_lines l ⊎ In free l → SpansBy (In lines) Nothing (Back l)
        by (inl n) = line_back_spanned l n
        by (inr n) = free_back l n

    others_back : (i : ℕ) (r : V) → Beside new_rays i r → SpansBy (In lines) (Beside rays i) (Back r)
    others_back i r m =
        let b : m.index < length rays = old_ray_below m.index m.is.0 in
        of_times (pos (ray_at m.index b).multiple.times) (Back r) (λ j. inv.undoes.times *ℤ columns rays m.index j) (times_positive from to f h inv (vector_at rays m.index) (vector_at new_rays m.index) (ray_at m.index b) (ray_wide m.index b)) (ray_back m.index b r m.same)
        (spans_sums (λ j. inv.undoes.times *ℤ columns rays m.index j)
        (sums_one_ray inv.undoes.times (columns rays m.index) (λ j. inv.undoes.times *ℤ columns rays m.index j) (none_least inv.undoes.times inv.undoes.positive) (record { index = m.index; is = (b, m.is.1); same = λ j. refl }) (λ j. refl)))

    -- ---- what makes a system
    with_free : {S : V → Type 0} (v : List ℤ) → D v → SpansBy (In (new_lines ++ free)) S (Forth (cell (h v))) → SpansBy (In (new_lines ++ free)) S (cell v)
    with_free {S} v d g =
        let t : IsSpread f h free v = ext.spread v d in
        spans_of_multiple t.left (cell v) (λ j. t.left *ℤ cell v j) t.left_positive
        (spans_add t.right (pos 1) (Forth (cell (h v))) t.rest (λ j. t.left *ℤ cell v j) (none_least t.right t.right_positive) (omega (arith, ints)) g (spans_more {S = S} among_free (λ r m. elim m [ ]) t.rest t.spanned)
        (λ j. with_rest (t.left *ℤ cell v j) t.right (cell (f (h v)) j) (Forth (cell (h v)) j) (t.rest j) (t.same j) (image_cell from to f inv.first_linear (h v) (inv.second_linear.wide v (ext.inside v d).0) j)))
        (λ j. refl)

    new_generate : Generates D (new_lines ++ free) new_rays
    new_generate = record {
      lines_within = All-append (λ l. D l × D (negated l)) new_lines free
          (All-from_get_or (λ l. D l × D (negated l)) new_lines [] (λ i b.
          let o : i < length lines = old_line_below i b in (
            carried_within (vector_at lines i) (vector_at new_lines i) (line_at i o) (line_wide i o) (s.generates.lines_within i [] o).0,
            negated_within (vector_at lines i) (vector_at new_lines i) (line_at i o) (line_wide i o) (s.generates.lines_within i [] o).1,
          )))
          ext.free_within;
      rays_within = All-from_get_or D new_rays [] (λ i b.
          let o : i < length rays = old_ray_below i b in
          carried_within (vector_at rays i) (vector_at new_rays i) (ray_at i o) (ray_wide i o) (s.generates.rays_within i [] o));
      spans = λ v d. from_sums (new_lines ++ free) new_rays v (with_free v d (image_spans from to f inv.first_linear lines_spanned rays_spanned (cell (h v)) (to_sums lines rays (h v) (s.generates.spans (h v) (ext.inside v d).1))));
    }

    new_lineality : HasLineality D (new_lines ++ free)
    new_lineality v d n =
        from_lines (new_lines ++ free) v
        (with_free v d (image_spans from to f inv.first_linear lines_spanned (λ r m. elim m [ ]) (cell (h v)) (to_lines lines (h v) (s.lineality (h v) (ext.inside v d).1 turned))))
      where
        wide : length v ≡ to
        wide = (ext.inside v d).0

        negated_column : (j : ℕ) → cell (negated (h v)) j ≡ cell (h (negated v)) j
        negated_column j =
            cell-scale (neg_ℤ (pos 1)) (h v) j
            ∙ ap (λ (z : ℤ). neg_ℤ (pos 1) *ℤ z) (image_cell to from h inv.second_linear v wide j)
            ∙ sym (image_multiple to from h inv.second_linear (cell (negated v)) (cell v) (neg_ℤ (pos 1)) (cell-scale (neg_ℤ (pos 1)) v) j)
            ∙ sym (image_cell to from h inv.second_linear (negated v) (ext.inside (negated v) n).0 j)

        turned : C (negated (h v))
        turned =
            cone.closed (pos 1) (pos 1) (pos 0) (h (negated v)) (h (negated v)) (negated (h v)) (omega (arith, ints)) (omega (arith, ints)) (omega (arith, ints)) (ext.inside (negated v) n).1 (ext.inside (negated v) n).1 (length-scale (neg_ℤ (pos 1)) (h v) ∙ inv.second_linear.wide v wide)
            (λ j. one_of (cell (negated (h v)) j) (cell (h (negated v)) j) (cell (h (negated v)) j) (negated_column j))

    new_irredundant : IsIrredundant (new_lines ++ free) new_rays
    new_irredundant = needed_by_lists (new_lines ++ free) new_rays (λ i b g. needed_by_columns lines rays s.irredundant i (old_ray_below i b) (spanned_again i (old_ray_below i b) g))
      where
        spanned_again : (i : ℕ) → i < length rays → SpansBy (In (new_lines ++ free)) (Beside new_rays i) (columns new_rays i) → SpansBy (In lines) (Beside rays i) (columns rays i)
        spanned_again i o g =
            let t : ℤ = pos (ray_at i o).multiple.times in
            let p : pos 0 <ℤ t = times_positive from to f h inv (vector_at rays i) (vector_at new_rays i) (ray_at i o) (ray_wide i o) in
            let back : SpansBy (In lines) (Beside rays i) (Back (columns new_rays i)) = image_spans to from h inv.second_linear lines_back (others_back i) (columns new_rays i) g in
            spans_of_multiple inv.undoes.times (columns rays i) (λ j. t *ℤ Back (columns new_rays i) j) inv.undoes.positive
            (spans_add t (pos 0) (Back (columns new_rays i)) (Back (columns new_rays i)) (λ j. t *ℤ Back (columns new_rays i) j) (none_least t p) (omega (arith, ints)) back back (λ j. and_none (t *ℤ Back (columns new_rays i) j) t (Back (columns new_rays i) j) (Back (columns new_rays i) j) refl))
            (ray_back i o (columns new_rays i) (λ j. refl))

    -- ---- lines of which none is spanned by the others
    line_others_back : (i : ℕ) (l : V) → Beside new_lines i l → SpansBy (Beside lines i) Nothing (Back l)
    line_others_back i l m =
        let b : m.index < length lines = old_line_below m.index m.is.0 in
        of_times (pos (line_at m.index b).multiple.times) (Back l) (λ j. inv.undoes.times *ℤ columns lines m.index j) (times_positive from to f h inv (vector_at lines m.index) (vector_at new_lines m.index) (line_at m.index b) (line_wide m.index b)) (line_back m.index b l m.same)
        (spans_sums (λ j. inv.undoes.times *ℤ columns lines m.index j) (sums_one_line inv.undoes.times (columns lines m.index) (λ j. inv.undoes.times *ℤ columns lines m.index j) (record { index = m.index; is = (b, m.is.1); same = λ j. refl }) (λ j. refl)))

    line_spanned_again : (i : ℕ) → i < length lines → SpansBy (Beside new_lines i) Nothing (columns new_lines i) → SpansBy (Beside lines i) Nothing (columns lines i)
    line_spanned_again i o g =
        let t : ℤ = pos (line_at i o).multiple.times in
        let back : SpansBy (Beside lines i) Nothing (Back (columns new_lines i)) = image_spans to from h inv.second_linear (line_others_back i) (λ r m. elim m [ ]) (columns new_lines i) g in
        spans_of_multiple inv.undoes.times (columns lines i) (λ j. t *ℤ Back (columns new_lines i) j) inv.undoes.positive (lines_spans_scale t (Back (columns new_lines i)) (λ j. t *ℤ Back (columns new_lines i) j) back (λ j. refl))
        (line_back i o (columns new_lines i) (λ j. refl))

    new_independent : AreIndependent new_lines
    new_independent = independent_lists new_lines (λ i b g. let o : i < length lines = old_line_below i b in independent_columns lines (echelon_independent lines rays s.echelon) i o (line_spanned_again i o g))

    -- without free lines it is in minimal form
    pub minimal : free ≡ [] → IsMinimalForm D new_lines new_rays
    minimal without =
        let same : new_lines ++ free ≡ new_lines = ap (λ (ls : List (List ℤ)). new_lines ++ ls) without ∙ append-nil new_lines in
        record {
          generates = subst (λ (ls : List (List ℤ)). Generates D ls new_rays) same new_generate;
          lineality = subst (HasLineality D) same new_lineality;
          independent = new_independent;
          irredundant = subst (λ (ls : List (List ℤ)). IsIrredundant ls new_rays) same new_irredundant;
        }

    pub extended : IsEchelon (new_lines ++ free) new_rays → IsSystem D (new_lines ++ free) new_rays
    extended e = record {
      generates = new_generate;
      lineality = new_lineality;
      echelon = e;
      primitive_lines = All-append IsPrimitive new_lines free (All-from_get_or IsPrimitive new_lines [] (λ i b. (line_at i (old_line_below i b)).primitive)) ext.free_primitive;
      primitive_rays = All-from_get_or IsPrimitive new_rays [] (λ i b. (ray_at i (old_ray_below i b)).primitive);
      irredundant = new_irredundant;
    }

-- ---- without further lines
no_free : (P : List ℤ → Type 0) → All P []
no_free P = All-nil P

pub nothing_spanned : SpansBy (In []) Nothing (λ (j : ℕ). pos 0)
nothing_spanned = spans_sums (λ j. pos 0) (none (λ j. refl))

pub extended_alone : (from to : ℕ) (f h : List ℤ → List ℤ) → IsUndone from to f h → (C D : List ℤ → Type 0) → IsCone from C → IsExtension from to f h [] C D → (lines rays new_lines new_rays : List (List ℤ)) → AreCarried f lines new_lines → AreCarried f rays new_rays → IsSystem C lines rays → IsEchelon new_lines new_rays → IsSystem D new_lines new_rays
extended_alone from to f h inv C D cone ext lines rays new_lines new_rays cl cr s e =
    subst (λ (ls : List (List ℤ)). IsSystem D ls new_rays) (append-nil new_lines)
    (extended from to f h inv [] C D cone ext lines rays new_lines new_rays cl cr s (subst (λ (ls : List (List ℤ)). IsEchelon ls new_rays) (sym (append-nil new_lines)) e))

-- ---- maps of one width
pub undone : (width : ℕ) (f h : List ℤ → List ℤ) → AreInverse width f h → IsUndone width width f h
undone width f h inv = record { first_linear = inv.first_linear; second_linear = inv.second_linear; undoes = inv.second_undoes }

once_and_none : (x y : ℤ) → x ≡ y → y ≡ pos 1 *ℤ x +ℤ pos 0
once_and_none x y e = omega (arith, ints, e)

module _ (width : ℕ) (f h : List ℤ → List ℤ) (rows others : List Row) (inv : AreInverse width f h) (admit : AdmitSources width width h rows others) where
  exact : IsExtension width width f h [] (ConeOf width rows) (ConeOf width others)
  exact = record {
    inside = λ v u. (u.wide, (admit v u.wide).0 u);
    spread = λ v u. record {
      left = inv.first_undoes.times;
      left_positive = inv.first_undoes.positive;
      right = pos 1;
      right_positive = omega (arith, ints);
      rest = λ j. pos 0;
      spanned = nothing_spanned;
      same = λ j. once_and_none (cell (f (h v)) j) (inv.first_undoes.times *ℤ cell v j) (inv.first_undoes.same v u.wide j);
    };
    outside = λ v w r c. (admit v w).1 c;
    free_within = no_free (λ l. ConeOf width others l × ConeOf width others (negated l));
    free_gone = λ i b. absurd (omega (arith, b));
    free_primitive = no_free IsPrimitive;
  }

pub system_carried : SystemIsCarried
system_carried width f h rows others lines rays new_lines new_rays inv admit cl cr echelon s =
    extended_alone width width f h (undone width f h inv) (ConeOf width rows) (ConeOf width others) (upto_cone width rows (length rows)) (exact width f h rows others inv admit) lines rays new_lines new_rays cl cr s echelon

pub minimal_carried : MinimalIsCarried
minimal_carried width f h rows others lines rays new_lines new_rays inv admit cl cr s =
    minimal width width f h (undone width f h inv) [] (ConeOf width rows) (ConeOf width others) (upto_cone width rows (length rows)) (exact width f h rows others inv admit) lines rays new_lines new_rays cl cr s refl
