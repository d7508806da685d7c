-- Images and preimages by equality are those by the map that replaces the variable.
use Rattle.std.proofs.Common.{◌≡◌, ◌≢◌, ◌⊎◌, inl, inr, ℕ, ◌+◌, ◌<◌, ◌≤◌, List, length, slice_set, ℤ, pos, ◌*ℤ◌, ◌<ℤ◌, refl, sym, ap, ◌∙◌, subst, arith, true, false, rules}
use Rattle.std.specs.Prelude.{Result, IfOk, IfErr}
use Rattle.std.proofs.lemmas.Result.{IfOk-weaker, IfErr-weaker}
use Rattle.std.specs.List.{range_with_len}
use Rattle.std.proofs.lemmas.Int.{ints}
use Rattle.std.proofs.lemmas.Bool.{cases_eq, cases_lt}
use Rattle.std.proofs.lemmas.List.{ext_get_or, get_or-set_same, get_or-set_other, length-set}
use Rattle.row_core.specs.Vectors.{cell, dot, scale}
use Rattle.row_core.specs.Points.{IsPoint}
use Rattle.row_core.specs.Refusals.{IsOverflowIn}
use Rattle.row_core.specs.declared.errors.Overflow.{Overflow}
use Rattle.row_core.specs.declared.errors.ConvErr.{ConvErr}
use Rattle.row_core.proofs.RefusalLemmas.{overflow_weaker}
use Rattle.cone_laws.proofs.Ring.{ring, mul_comm, mul_assoc, mul-positive}
use Rattle.cone_laws.proofs.Columns.{cell-scale, length-scale}
use Rattle.cons_sys.specs.Constraints.{In}
use Rattle.cons_sys.proofs.SystemLemmas.{In-same_point}
use Rattle.poly_pair.specs.Polyhedra.{Polyhedron}
use denote.Enum.Bare.{sameb, same_true, same_false}
use Rattle.affine_maps.specs.contracts.relations.ImageRel.{the_type}
use Rattle.affine_maps.specs.declared.relations.ImageRel.{ImageRel}
use Rattle.affine_maps.specs.declared.relations.ImageRel.TheVariants.{Eq, Ge, Le, Gt, Lt}
use Rattle.mapped_systems.specs.Maps.{substituted, with_zeros}
use Rattle.affine_maps.specs.SubstitutedSets.{IsSubstitutedImage, IsSubstitutedPreimage, IsStoredOfSubstituted, IsStoredOfPulledBack}
use Rattle.mapped_systems.specs.Refusals.{SomeLeavesInImage, SomeLeavesInPullback}
use Rattle.affine_maps.specs.SubstitutedSets.{LeavesOnSubstituted, LeavesOnPulledBack}
use Rattle.affine_maps.specs.Relations.{IsRelatedImage, IsRelatedPreimage, IsImageBy, IsPreimageBy, IsStoredOfRelation, LeavesOnRelation, ConvertsRelation, replaced, moved, image_columns}
use Rattle.affine_maps.specs.PairConversions.{ConvertsImage, ConvertsPreimage}
use Rattle.affine_maps.specs.ImageResults.{EqualImageIsSubstituted, EqualPreimageIsSubstituted, IsStoredOfImage, LeavesInImageBy, ConvertsImageBy, IsStoredOfPreimage, LeavesInPreimageBy, ConvertsPreimageBy}
use Rattle.mapped_systems.proofs.PulledSets.{one_times}
use Rattle.affine_maps.proofs.RelatedImages.{crossed}
use Rattle.mapped_systems.specs.Sources.{HasSource}

-- a multiple of the vector is one of the vector whose entry is replaced
replaced_is : (dim var : ℕ) (w x : List ℤ) (l r a e : ℤ) → var < dim → length w ≡ dim + 1 → length x ≡ dim + 1 → ((j : ℕ) → j < dim + 1 → j ≢ var → l *ℤ cell w j ≡ r *ℤ (a *ℤ cell x j)) → l *ℤ cell w var ≡ r *ℤ e → scale l w ≡ scale r (slice_set (scale a x) var e)
replaced_is dim var w x l r a e below w_wide x_wide others own =
    ext_get_or (pos 0) (scale l w) (scale r (slice_set (scale a x) var e))
    (length-scale l w ∙ w_wide ∙ sym (length-scale r (slice_set (scale a x) var e) ∙ length-set (scale a x) var e ∙ length-scale a x ∙ x_wide))
    (λ j h. cell-scale l w j ∙ by_place j (omega (arith, h, length-scale l w, w_wide)) (cases_eq j var) ∙ sym (cell-scale r (slice_set (scale a x) var e) j))
  where
    by_place : (j : ℕ) → j < dim + 1 → (j ≡ var) ⊎ (j ≢ var) → l *ℤ cell w j ≡ r *ℤ cell (slice_set (scale a x) var e) j
    by_place j h (inl same) = subst (λ (n : ℕ). l *ℤ cell w n ≡ r *ℤ cell (slice_set (scale a x) var e) n) (sym same) (own ∙ ap (λ (z : ℤ). r *ℤ z) (sym (get_or-set_same (scale a x) var e (pos 0) (omega (arith, length-scale a x, x_wide, below)))))
    by_place j h (inr ne) = others j h ne ∙ ap (λ (z : ℤ). r *ℤ z) (sym (get_or-set_other (scale a x) var j e (pos 0) ne ∙ cell-scale a x j))

module _ (var : ℕ) (expr : List ℤ) (den : ℤ) (p : Polyhedron) (below : var < p.cons.dim) (positive : pos 0 <ℤ den) (v : List ℤ) (pt : IsPoint p.cons.dim v) where
  abbrev dim : ℕ
  dim = p.cons.dim

  abbrev put : List ℤ → List ℤ
  put x = substituted var expr den x

  own_cell : (x : List ℤ) → length x ≡ dim + 1 → cell (put x) var ≡ dot expr x
  own_cell x w = get_or-set_same (scale den x) var (dot expr x) (pos 0) (omega (arith, length-scale den x, w, below))

  other_cell : (x : List ℤ) (j : ℕ) → j ≢ var → cell (put x) j ≡ den *ℤ cell x j
  other_cell x j ne = get_or-set_other (scale den x) var j (dot expr x) (pos 0) ne ∙ cell-scale den x j

  not_last : dim ≢ var
  not_last e = omega (arith, e, below)

  -- ---- images
  equal_of : HasSource put p.cons v → IsRelatedImage Eq var expr den p.cons v
  equal_of s = record {
    source = s.source;
    within = s.within;
    others = λ j h ne. crossed s.same.left (s.same.right *ℤ den) (cell v j) (cell v dim) (cell s.source j) (cell s.source dim) s.same.left_positive (scaled j ne) (scaled dim not_last);
    stands = crossed s.same.left s.same.right (cell v var) (cell v dim) (dot expr s.source) (den *ℤ cell s.source dim) s.same.left_positive
        (column var ∙ ap (λ (z : ℤ). s.same.right *ℤ z) (own_cell s.source s.within.point.wide))
        (column dim ∙ ap (λ (z : ℤ). s.same.right *ℤ z) (other_cell s.source dim not_last));
  }
    where
      column : (j : ℕ) → s.same.left *ℤ cell v j ≡ s.same.right *ℤ cell (put s.source) j
      column j = sym (cell-scale s.same.left v j) ∙ ap (λ (w : List ℤ). cell w j) s.same.same ∙ cell-scale s.same.right (put s.source) j

      scaled : (j : ℕ) → j ≢ var → s.same.left *ℤ cell v j ≡ (s.same.right *ℤ den) *ℤ cell s.source j
      scaled j ne = column j ∙ ap (λ (z : ℤ). s.same.right *ℤ z) (other_cell s.source j ne) ∙ sym (mul_assoc s.same.right den (cell s.source j))

  of_equal : IsRelatedImage Eq var expr den p.cons v → HasSource put p.cons v
  of_equal r = record {
    source = r.source;
    within = r.within;
    same = record {
      left = den *ℤ cell r.source dim;
      right = cell v dim;
      left_positive = mul-positive den (cell r.source dim) positive r.within.point.positive;
      right_positive = pt.positive;
      same = replaced_is dim var v r.source (den *ℤ cell r.source dim) (cell v dim) den (dot expr r.source) below pt.wide r.within.point.wide
          (λ j h ne. by_place j h ne (cases_lt j dim))
          (mul_comm (den *ℤ cell r.source dim) (cell v var) ∙ r.stands ∙ mul_comm (dot expr r.source) (cell v dim));
    };
  }
    where
      turned : (a b c e f : ℤ) → c *ℤ b ≡ e *ℤ f → (a *ℤ b) *ℤ c ≡ f *ℤ (a *ℤ e)
      turned a b c e f h =
          let g : (a *ℤ b) *ℤ c ≡ a *ℤ (c *ℤ b) = simp ring refl in
          let k : f *ℤ (a *ℤ e) ≡ a *ℤ (e *ℤ f) = simp ring refl in
          g ∙ ap (λ (z : ℤ). a *ℤ z) h ∙ sym k

      by_place : (j : ℕ) → j < dim + 1 → j ≢ var → (j < dim) ⊎ (dim ≤ j) → (den *ℤ cell r.source dim) *ℤ cell v j ≡ cell v dim *ℤ (den *ℤ cell r.source j)
      by_place j h ne (inl k) = turned den (cell r.source dim) (cell v j) (cell r.source j) (cell v dim) (r.others j k ne)
      by_place j h ne (inr k) =
          let e : dim ≡ j = omega (arith, h, k) in
          subst (λ (n : ℕ). (den *ℤ cell r.source dim) *ℤ cell v n ≡ cell v dim *ℤ (den *ℤ cell r.source n)) e (mul_comm (den *ℤ cell r.source dim) (cell v dim))

  -- ---- preimages
  equal_put : In p.cons (put v) → IsRelatedPreimage Eq var expr den p.cons v
  equal_put h = record {
    num = dot expr v;
    below = den *ℤ cell v dim;
    positive = mul-positive den (cell v dim) positive pt.positive;
    stands = refl;
    within = In-same_point p.cons (put v) (replaced dim var (dot expr v) (den *ℤ cell v dim) v) (record {
      left = cell v dim;
      right = pos 1;
      left_positive = pt.positive;
      right_positive = omega (arith, ints);
      same = replaced_is dim var (put v) v (cell v dim) (pos 1) (den *ℤ cell v dim) (dot expr v *ℤ cell v dim) below (length-set (scale den v) var (dot expr v) ∙ length-scale den v ∙ pt.wide) pt.wide
          (λ j k ne. ap (λ (z : ℤ). cell v dim *ℤ z) (other_cell v j ne) ∙ turned (cell v dim) den (cell v j))
          (ap (λ (z : ℤ). cell v dim *ℤ z) (own_cell v pt.wide) ∙ once (cell v dim) (dot expr v));
    }) h;
  }
    where
      turned : (a b c : ℤ) → a *ℤ (b *ℤ c) ≡ pos 1 *ℤ ((b *ℤ a) *ℤ c)
      turned a b c = one_times (a *ℤ (b *ℤ c)) ((b *ℤ a) *ℤ c) (simp ring refl)

      once : (a b : ℤ) → a *ℤ b ≡ pos 1 *ℤ (b *ℤ a)
      once a b = one_times (a *ℤ b) (b *ℤ a) (mul_comm a b)

  put_equal : IsRelatedPreimage Eq var expr den p.cons v → In p.cons (put v)
  put_equal q = In-same_point p.cons (replaced dim var q.num q.below v) (put v) (record {
    left = den *ℤ cell v dim;
    right = q.below *ℤ cell v dim;
    left_positive = mul-positive den (cell v dim) positive pt.positive;
    right_positive = mul-positive q.below (cell v dim) q.positive pt.positive;
    same = replaced_is dim var (replaced dim var q.num q.below v) v (den *ℤ cell v dim) (q.below *ℤ cell v dim) den (dot expr v) below (length-set (scale q.below v) var (q.num *ℤ cell v dim) ∙ length-scale q.below v ∙ pt.wide) pt.wide
        (λ j k ne. ap (λ (z : ℤ). (den *ℤ cell v dim) *ℤ z) (get_or-set_other (scale q.below v) var j (q.num *ℤ cell v dim) (pos 0) ne ∙ cell-scale q.below v j) ∙ turned den (cell v dim) q.below (cell v j))
        (ap (λ (z : ℤ). (den *ℤ cell v dim) *ℤ z) (get_or-set_same (scale q.below v) var (q.num *ℤ cell v dim) (pos 0) (omega (arith, length-scale q.below v, pt.wide, below))) ∙ crossing den (cell v dim) q.num (dot expr v) q.below q.stands);
  }) q.within
    where
      turned : (a b c e : ℤ) → (a *ℤ b) *ℤ (c *ℤ e) ≡ (c *ℤ b) *ℤ (a *ℤ e)
      turned a b c e = simp ring refl

      crossing : (a b c e f : ℤ) → c *ℤ (a *ℤ b) ≡ e *ℤ f → (a *ℤ b) *ℤ (c *ℤ b) ≡ (f *ℤ b) *ℤ e
      crossing a b c e f h =
          let g : (a *ℤ b) *ℤ (c *ℤ b) ≡ (c *ℤ (a *ℤ b)) *ℤ b = simp ring refl in
          let k : (f *ℤ b) *ℤ e ≡ (e *ℤ f) *ℤ b = simp ring refl in
          g ∙ ap (λ (z : ℤ). z *ℤ b) h ∙ sym k

-- ---- sets
pub equal_images : EqualImageIsSubstituted
equal_images var expr den p image below positive = (
  (λ is. record {
    over = is.over;
    points = λ v pt. (
      (λ h. of_equal var expr den p below positive v pt ((is.points v pt).0 h)),
      (λ s. (is.points v pt).1 (equal_of var expr den p below positive v pt s)),
    );
  }),
  (λ is. record {
    over = is.over;
    points = λ v pt. (
      (λ h. equal_of var expr den p below positive v pt ((is.points v pt).0 h)),
      (λ r. (is.points v pt).1 (of_equal var expr den p below positive v pt r)),
    );
  }),
)

pub equal_preimages : EqualPreimageIsSubstituted
equal_preimages var expr den p preimage below positive = (
  (λ is. record {
    over = is.over;
    points = λ v pt. (
      (λ h. put_equal var expr den p below positive v pt ((is.points v pt).0 h)),
      (λ h. (is.points v pt).1 (equal_put var expr den p below positive v pt h)),
    );
  }),
  (λ is. record {
    over = is.over;
    points = λ v pt. (
      (λ h. equal_put var expr den p below positive v pt ((is.points v pt).0 h)),
      (λ q. (is.points v pt).1 (put_equal var expr den p below positive v pt q)),
    );
  }),
)

-- ---- in the calls
-- what the relations but equality store and refuse
image_stored : (rel : ImageRel) (var : ℕ) (expr : List ℤ) (den : ℤ) (p q : Polyhedron) → rel ≢ Eq → IsStoredOfRelation (with_zeros p.cons.dim 1) (image_columns p.cons.dim var) rel expr den p q → IsStoredOfImage rel var expr den p q
image_stored Eq var expr den p q ne s = absurd (ne refl)
image_stored Ge var expr den p q ne s = s
image_stored Le var expr den p q ne s = s
image_stored Gt var expr den p q ne s = s
image_stored Lt var expr den p q ne s = s

image_leaves : (rel : ImageRel) (var : ℕ) (expr : List ℤ) (den : ℤ) (p : Polyhedron) (over : Overflow) → rel ≢ Eq → LeavesOnRelation (with_zeros p.cons.dim 1) (image_columns p.cons.dim var) rel expr den p over → LeavesInImageBy rel var expr den p over
image_leaves Eq var expr den p over ne l = absurd (ne refl)
image_leaves Ge var expr den p over ne l = l
image_leaves Le var expr den p over ne l = l
image_leaves Gt var expr den p over ne l = l
image_leaves Lt var expr den p over ne l = l

preimage_stored : (rel : ImageRel) (var : ℕ) (expr : List ℤ) (den : ℤ) (p q : Polyhedron) → rel ≢ Eq → IsStoredOfRelation (moved p.cons.dim var) (range_with_len 0 p.cons.dim) rel expr den p q → IsStoredOfPreimage rel var expr den p q
preimage_stored Eq var expr den p q ne s = absurd (ne refl)
preimage_stored Ge var expr den p q ne s = s
preimage_stored Le var expr den p q ne s = s
preimage_stored Gt var expr den p q ne s = s
preimage_stored Lt var expr den p q ne s = s

preimage_leaves : (rel : ImageRel) (var : ℕ) (expr : List ℤ) (den : ℤ) (p : Polyhedron) (over : Overflow) → rel ≢ Eq → LeavesOnRelation (moved p.cons.dim var) (range_with_len 0 p.cons.dim) rel expr den p over → LeavesInPreimageBy rel var expr den p over
preimage_leaves Eq var expr den p over ne l = absurd (ne refl)
preimage_leaves Ge var expr den p over ne l = l
preimage_leaves Le var expr den p over ne l = l
preimage_leaves Gt var expr den p over ne l = l
preimage_leaves Lt var expr den p over ne l = l

image_converts : (rel : ImageRel) (var : ℕ) (expr : List ℤ) (den : ℤ) (p : Polyhedron) (old new : ℕ) (r : Result Polyhedron ConvErr) → rel ≢ Eq → ConvertsRelation (with_zeros p.cons.dim 1) (image_columns p.cons.dim var) rel expr den p old new r → ConvertsImageBy rel var expr den p old new r
image_converts Eq var expr den p old new r ne c = absurd (ne refl)
image_converts Ge var expr den p old new r ne c = c
image_converts Le var expr den p old new r ne c = c
image_converts Gt var expr den p old new r ne c = c
image_converts Lt var expr den p old new r ne c = c

preimage_converts : (rel : ImageRel) (var : ℕ) (expr : List ℤ) (den : ℤ) (p : Polyhedron) (old new : ℕ) (r : Result Polyhedron ConvErr) → rel ≢ Eq → ConvertsRelation (moved p.cons.dim var) (range_with_len 0 p.cons.dim) rel expr den p old new r → ConvertsPreimageBy rel var expr den p old new r
preimage_converts Eq var expr den p old new r ne c = absurd (ne refl)
preimage_converts Ge var expr den p old new r ne c = c
preimage_converts Le var expr den p old new r ne c = c
preimage_converts Gt var expr den p old new r ne c = c
preimage_converts Lt var expr den p old new r ne c = c

module _ (rel : ImageRel) (var : ℕ) (expr : List ℤ) (read den : ℤ) (told : read ≡ den) (p : Polyhedron) (r : Result Polyhedron ConvErr) where
  -- equality
  module _ (e : rel ≡ Eq) (below : var < p.cons.dim) (positive : pos 0 <ℤ den) where
    pub equal_image_points : IfOk r (IsSubstitutedImage var expr read p) → IfOk r (IsImageBy rel var expr den p)
    equal_image_points h = IfOk-weaker r (IsSubstitutedImage var expr den p) (IsImageBy rel var expr den p) (λ q is. subst (λ (k : ImageRel). IsImageBy k var expr den p q) (sym e) ((equal_images var expr den p q below positive).1 is)) (subst (λ (z : ℤ). IfOk r (IsSubstitutedImage var expr z p)) told h)

    pub equal_preimage_points : IfOk r (IsSubstitutedPreimage var expr read p) → IfOk r (IsPreimageBy rel var expr den p)
    equal_preimage_points h = IfOk-weaker r (IsSubstitutedPreimage var expr den p) (IsPreimageBy rel var expr den p) (λ q is. subst (λ (k : ImageRel). IsPreimageBy k var expr den p q) (sym e) ((equal_preimages var expr den p q below positive).1 is)) (subst (λ (z : ℤ). IfOk r (IsSubstitutedPreimage var expr z p)) told h)

  module _ (e : rel ≡ Eq) where
    pub equal_image_stored : IfOk r (IsStoredOfSubstituted var expr read p) → IfOk r (IsStoredOfImage rel var expr den p)
    equal_image_stored h = subst (λ (k : ImageRel). IfOk r (IsStoredOfImage k var expr den p)) (sym e) (subst (λ (z : ℤ). IfOk r (IsStoredOfSubstituted var expr z p)) told h)

    pub equal_preimage_stored : IfOk r (IsStoredOfPulledBack var expr read p) → IfOk r (IsStoredOfPreimage rel var expr den p)
    equal_preimage_stored h = subst (λ (k : ImageRel). IfOk r (IsStoredOfPreimage k var expr den p)) (sym e) (subst (λ (z : ℤ). IfOk r (IsStoredOfPulledBack var expr z p)) told h)

    pub equal_image_leaves : IfErr r (IsOverflowIn (λ over. SomeLeavesInImage var expr read p.gens.list over ⊎ LeavesOnSubstituted var expr read p over)) → IfErr r (IsOverflowIn (LeavesInImageBy rel var expr den p))
    equal_image_leaves h = subst (λ (k : ImageRel). IfErr r (IsOverflowIn (LeavesInImageBy k var expr den p))) (sym e) (subst (λ (z : ℤ). IfErr r (IsOverflowIn (LeavesInImageBy Eq var expr z p))) told h)

    pub equal_preimage_leaves : IfErr r (IsOverflowIn (λ over. SomeLeavesInPullback var expr read p.cons.list over ⊎ LeavesOnPulledBack var expr read p over)) → IfErr r (IsOverflowIn (LeavesInPreimageBy rel var expr den p))
    equal_preimage_leaves h = subst (λ (k : ImageRel). IfErr r (IsOverflowIn (LeavesInPreimageBy k var expr den p))) (sym e) (subst (λ (z : ℤ). IfErr r (IsOverflowIn (LeavesInPreimageBy Eq var expr z p))) told h)

    pub equal_image_converts : (old new : ℕ) → ConvertsImage var expr read p old new r → ConvertsImageBy rel var expr den p old new r
    equal_image_converts old new h = subst (λ (k : ImageRel). ConvertsImageBy k var expr den p old new r) (sym e) (subst (λ (z : ℤ). ConvertsImage var expr z p old new r) told h)

    pub equal_preimage_converts : (old new : ℕ) → ConvertsPreimage var expr read p old new r → ConvertsPreimageBy rel var expr den p old new r
    equal_preimage_converts old new h = subst (λ (k : ImageRel). ConvertsPreimageBy k var expr den p old new r) (sym e) (subst (λ (z : ℤ). ConvertsPreimage var expr z p old new r) told h)

  -- another relation
  pub other_image_points : IfOk r (IsImageBy rel var expr read p) → IfOk r (IsImageBy rel var expr den p)
  other_image_points h = subst (λ (z : ℤ). IfOk r (IsImageBy rel var expr z p)) told h

  pub other_preimage_points : IfOk r (IsPreimageBy rel var expr read p) → IfOk r (IsPreimageBy rel var expr den p)
  other_preimage_points h = subst (λ (z : ℤ). IfOk r (IsPreimageBy rel var expr z p)) told h

  module _ (ne : rel ≢ Eq) where
    pub other_image_stored : IfOk r (IsStoredOfRelation (with_zeros p.cons.dim 1) (image_columns p.cons.dim var) rel expr read p) → IfOk r (IsStoredOfImage rel var expr den p)
    other_image_stored h = subst (λ (z : ℤ). IfOk r (IsStoredOfImage rel var expr z p)) told (IfOk-weaker r (IsStoredOfRelation (with_zeros p.cons.dim 1) (image_columns p.cons.dim var) rel expr read p) (IsStoredOfImage rel var expr read p) (λ q s. image_stored rel var expr read p q ne s) h)

    pub other_preimage_stored : IfOk r (IsStoredOfRelation (moved p.cons.dim var) (range_with_len 0 p.cons.dim) rel expr read p) → IfOk r (IsStoredOfPreimage rel var expr den p)
    other_preimage_stored h = subst (λ (z : ℤ). IfOk r (IsStoredOfPreimage rel var expr z p)) told (IfOk-weaker r (IsStoredOfRelation (moved p.cons.dim var) (range_with_len 0 p.cons.dim) rel expr read p) (IsStoredOfPreimage rel var expr read p) (λ q s. preimage_stored rel var expr read p q ne s) h)

    pub other_image_leaves : IfErr r (IsOverflowIn (LeavesOnRelation (with_zeros p.cons.dim 1) (image_columns p.cons.dim var) rel expr read p)) → IfErr r (IsOverflowIn (LeavesInImageBy rel var expr den p))
    other_image_leaves h = subst (λ (z : ℤ). IfErr r (IsOverflowIn (LeavesInImageBy rel var expr z p))) told (IfErr-weaker r (IsOverflowIn (LeavesOnRelation (with_zeros p.cons.dim 1) (image_columns p.cons.dim var) rel expr read p)) (IsOverflowIn (LeavesInImageBy rel var expr read p)) (overflow_weaker (LeavesOnRelation (with_zeros p.cons.dim 1) (image_columns p.cons.dim var) rel expr read p) (LeavesInImageBy rel var expr read p) (λ over l. image_leaves rel var expr read p over ne l)) h)

    pub other_preimage_leaves : IfErr r (IsOverflowIn (LeavesOnRelation (moved p.cons.dim var) (range_with_len 0 p.cons.dim) rel expr read p)) → IfErr r (IsOverflowIn (LeavesInPreimageBy rel var expr den p))
    other_preimage_leaves h = subst (λ (z : ℤ). IfErr r (IsOverflowIn (LeavesInPreimageBy rel var expr z p))) told (IfErr-weaker r (IsOverflowIn (LeavesOnRelation (moved p.cons.dim var) (range_with_len 0 p.cons.dim) rel expr read p)) (IsOverflowIn (LeavesInPreimageBy rel var expr read p)) (overflow_weaker (LeavesOnRelation (moved p.cons.dim var) (range_with_len 0 p.cons.dim) rel expr read p) (LeavesInPreimageBy rel var expr read p) (λ over l. preimage_leaves rel var expr read p over ne l)) h)

    pub other_image_converts : (old new : ℕ) → ConvertsRelation (with_zeros p.cons.dim 1) (image_columns p.cons.dim var) rel expr read p old new r → ConvertsImageBy rel var expr den p old new r
    other_image_converts old new h = subst (λ (z : ℤ). ConvertsImageBy rel var expr z p old new r) told (image_converts rel var expr read p old new r ne h)

    pub other_preimage_converts : (old new : ℕ) → ConvertsRelation (moved p.cons.dim var) (range_with_len 0 p.cons.dim) rel expr read p old new r → ConvertsPreimageBy rel var expr den p old new r
    other_preimage_converts old new h = subst (λ (z : ℤ). ConvertsPreimageBy rel var expr z p old new r) told (preimage_converts rel var expr read p old new r ne h)

-- what the test whether a relation is equality tells
pub told_equal : (rel : ImageRel) → true ≡ sameb the_type rel Eq → rel ≡ Eq
told_equal rel h = same_true the_type (search rules) rel Eq (sym h)

pub told_other : (rel : ImageRel) → false ≡ sameb the_type rel Eq → rel ≢ Eq
told_other rel h = same_false the_type rel Eq (sym h)
