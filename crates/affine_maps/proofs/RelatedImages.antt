-- The image of a set by a relation, by one more variable.
use Rattle.std.proofs.Common.{◌≡◌, ◌≢◌, ◌⊎◌, inl, inr, ℕ, ◌+◌, ◌<◌, ◌≤◌, List, length, ℤ, pos, neg_ℤ, ◌+ℤ◌, ◌*ℤ◌, ◌<ℤ◌, refl, sym, ap, ◌∙◌, subst, arith, All}
use Rattle.std.specs.List.{range_with_len}
use Rattle.std.proofs.lemmas.Int.{ints}
use Rattle.std.proofs.lemmas.Bool.{cases_eq, cases_lt}
use Rattle.std.proofs.lemmas.List.{ext_get_or, get_or-set_same, get_or-set_other, length-set}
use Rattle.std.proofs.lemmas.List.FromFn.{get_or-range_with_len, length-range_with_len}
use Rattle.row_core.specs.Vectors.{cell, dot, scale}
use Rattle.row_core.specs.Points.{IsPoint, IsSamePoint}
use Rattle.cone_laws.proofs.Ring.{ring, mul_comm, mul-neg, mul-add, mul-positive, zero_of_mul}
use Rattle.cone_laws.proofs.Columns.{cell-scale, length-scale, dot-scale}
use Rattle.cons_sys.specs.Constraints.{Constraints, In}
use Rattle.cons_sys.proofs.SystemLemmas.{In-same_point}
use Rattle.affine_maps.specs.declared.relations.ImageRel.{ImageRel}
use Rattle.mapped_systems.specs.Maps.{with_zeros, without, picked}
use Rattle.mapped_systems.specs.Sources.{HasSource}
use Rattle.affine_maps.specs.Relations.{IsRelatedImage, with_entry, IsExtended, image_columns}
use Rattle.affine_maps.specs.RelationLaws.{ImageIsShadow}
use Rattle.mapped_systems.proofs.ColumnLemmas.{length-without, cell-picked, cell-picked_last, length-picked}
use Rattle.mapped_systems.proofs.PulledSets.{padded_meets}
use Rattle.mapped_systems.proofs.PulledSets.{MeetsAt}
use Rattle.affine_maps.proofs.RelatedRows.{cell_before, cell_last, without-with_entry, cell-with_entry, length-with_entry, stands_scaled, extended_holds, extended_stands, holds_extended}

-- ---- numbers
pub cancelled : (l a b : ℤ) → pos 0 <ℤ l → l *ℤ a ≡ l *ℤ b → a ≡ b
cancelled l a b p e =
    let d : l *ℤ (a +ℤ neg_ℤ b) ≡ pos 0 = mul-add l a (neg_ℤ b) ∙ ap (λ (z : ℤ). l *ℤ a +ℤ z) (mul-neg l b) ∙ none (l *ℤ a) (l *ℤ b) e in
    let z = zero_of_mul l (a +ℤ neg_ℤ b) p d in
    omega (arith, ints, z)
  where
    none : (x y : ℤ) → x ≡ y → x +ℤ neg_ℤ y ≡ pos 0
    none x y e = omega (arith, ints, e)

-- two fractions of equal values
pub crossed : (l r a b x y : ℤ) → pos 0 <ℤ l → l *ℤ a ≡ r *ℤ x → l *ℤ b ≡ r *ℤ y → a *ℤ y ≡ x *ℤ b
crossed l r a b x y p e f =
    cancelled l (a *ℤ y) (x *ℤ b) p
    (simp ring refl ∙ ap (λ (z : ℤ). y *ℤ z) e ∙ turned r x y ∙ ap (λ (z : ℤ). x *ℤ z) (sym f) ∙ simp ring refl)
  where
    turned : (r x y : ℤ) → y *ℤ (r *ℤ x) ≡ x *ℤ (r *ℤ y)
    turned r x y = simp ring refl

first_scaled : (r d den w l a : ℤ) → l *ℤ a ≡ r *ℤ w → (r *ℤ d) *ℤ (den *ℤ w) ≡ l *ℤ (a *ℤ (den *ℤ d))
first_scaled r d den w l a e =
    let f : (r *ℤ d) *ℤ (den *ℤ w) ≡ (r *ℤ w) *ℤ (den *ℤ d) = simp ring refl in
    let g : l *ℤ (a *ℤ (den *ℤ d)) ≡ (l *ℤ a) *ℤ (den *ℤ d) = simp ring refl in
    f ∙ ap (λ (z : ℤ). z *ℤ (den *ℤ d)) (sym e) ∙ sym g

second_scaled : (r d x l b : ℤ) → l *ℤ b ≡ r *ℤ d → (r *ℤ d) *ℤ x ≡ l *ℤ (x *ℤ b)
second_scaled r d x l b e =
    let g : l *ℤ (x *ℤ b) ≡ (l *ℤ b) *ℤ x = simp ring refl in
    ap (λ (z : ℤ). z *ℤ x) (sym e) ∙ sym g

one_times : (x y : ℤ) → x ≡ y → x ≡ pos 1 *ℤ y
one_times x y e = omega (arith, ints, e)

module _ (dim var : ℕ) (below : var < dim) where
  abbrev pub columns : List ℕ
  columns = image_columns dim var

  pub columns_length : length columns ≡ dim
  columns_length = length-set (range_with_len 0 dim) var dim ∙ length-range_with_len 0 dim

  pub image_other : (u : List ℤ) (j : ℕ) → j < dim → j ≢ var → cell (picked columns (dim + 1) u) j ≡ cell u j
  image_other u j h ne =
      cell-picked columns (dim + 1) u j (omega (arith, columns_length, h))
      ∙ ap (cell u) (get_or-set_other (range_with_len 0 dim) var j dim 0 ne ∙ get_or-range_with_len 0 dim j 0 h ∙ omega arith)

  pub image_own : (u : List ℤ) → cell (picked columns (dim + 1) u) var ≡ cell u dim
  image_own u =
      cell-picked columns (dim + 1) u var (omega (arith, columns_length, below))
      ∙ ap (cell u) (get_or-set_same (range_with_len 0 dim) var dim 0 (omega (arith, length-range_with_len 0 dim, below)))

  pub image_last : (u : List ℤ) → cell (picked columns (dim + 1) u) dim ≡ cell u (dim + 1)
  image_last u = ap (cell (picked columns (dim + 1) u)) (sym columns_length) ∙ cell-picked_last columns (dim + 1) u

module _ (rel : ImageRel) (var : ℕ) (expr : List ℤ) (den : ℤ) (cs extended : Constraints) (below : var < cs.dim) (expr_wide : length expr ≡ cs.dim + 1) (is : IsExtended (with_zeros cs.dim 1) rel expr den cs extended) (v : List ℤ) (pt : IsPoint cs.dim v) where
  abbrev map_of : List ℤ → List ℤ
  map_of u = picked (image_columns cs.dim var) (cs.dim + 1) u

  pub related_of : HasSource map_of extended v → IsRelatedImage rel var expr den cs v
  related_of s = record {
    source = x;
    within = record {
      point = record { wide = x_wide; positive = subst (λ (z : ℤ). pos 0 <ℤ z) (sym x_last) u_positive };
      holds = extended_holds (with_zeros cs.dim 1) (without cs.dim (cs.dim + 1)) rel expr den cs extended is u meets (omega (arith, expr_wide)) (omega (arith, u_wide)) s.within.holds;
    };
    others = λ j h ne. crossed s.same.left s.same.right (cell v j) (cell v cs.dim) (cell x j) (cell x cs.dim) s.same.left_positive (column j ∙ ap (λ (z : ℤ). s.same.right *ℤ z) (image_other cs.dim var below u j h ne ∙ sym (cell_before cs.dim u j (omega (arith, u_wide)) h))) last_column;
    stands = stands_scaled rel (s.same.right *ℤ cell x cs.dim) s.same.left (dot expr x) (den *ℤ cell u cs.dim) (dot expr x *ℤ cell v cs.dim) (cell v var *ℤ (den *ℤ cell x cs.dim))
        (mul-positive s.same.right (cell x cs.dim) s.same.right_positive (subst (λ (z : ℤ). pos 0 <ℤ z) (sym x_last) u_positive)) s.same.left_positive
        (first_scaled s.same.right (cell x cs.dim) den (cell u cs.dim) s.same.left (cell v var) (column var ∙ ap (λ (z : ℤ). s.same.right *ℤ z) (image_own cs.dim var below u)))
        (second_scaled s.same.right (cell x cs.dim) (dot expr x) s.same.left (cell v cs.dim) last_column)
        (extended_stands (with_zeros cs.dim 1) (without cs.dim (cs.dim + 1)) rel expr den cs extended is u meets (omega (arith, expr_wide)) (omega (arith, u_wide)) s.within.holds);
  }
    where
      u : List ℤ
      u = s.source

      u_wide : length s.source ≡ cs.dim + 1 + 1
      u_wide = s.within.point.wide ∙ ap (λ (n : ℕ). n + 1) is.same_dim

      u_positive : pos 0 <ℤ cell s.source (cs.dim + 1)
      u_positive = subst (λ (n : ℕ). pos 0 <ℤ cell s.source n) is.same_dim s.within.point.positive

      x : List ℤ
      x = without cs.dim (cs.dim + 1) s.source

      x_wide : length (without cs.dim (cs.dim + 1) s.source) ≡ cs.dim + 1
      x_wide = let e = length-without cs.dim 1 s.source (omega (arith, u_wide)) in omega (arith, e, u_wide)

      x_last : cell (without cs.dim (cs.dim + 1) s.source) cs.dim ≡ cell s.source (cs.dim + 1)
      x_last = cell_last cs.dim s.source (omega (arith, u_wide))

      meets : All (MeetsAt (with_zeros cs.dim 1) (without cs.dim (cs.dim + 1)) s.source) cs.list
      meets = padded_meets cs.dim 1 cs.list s.source

      column : (j : ℕ) → s.same.left *ℤ cell v j ≡ s.same.right *ℤ cell (map_of s.source) j
      column j = sym (cell-scale s.same.left v j) ∙ ap (λ (w : List ℤ). cell w j) s.same.same ∙ cell-scale s.same.right (map_of s.source) j

      last_column : s.same.left *ℤ cell v cs.dim ≡ s.same.right *ℤ cell (without cs.dim (cs.dim + 1) s.source) cs.dim
      last_column = column cs.dim ∙ ap (λ (z : ℤ). s.same.right *ℤ z) (image_last cs.dim var below s.source ∙ sym x_last)

  -- ---- a point with the value of the new variable
  module _ (r : IsRelatedImage rel var expr den cs v) where
    abbrev x : List ℤ
    x = r.source

    abbrev d : ℤ
    d = cell v cs.dim

    abbrev w : ℤ
    w = cell v var *ℤ cell x cs.dim

    abbrev raised : List ℤ
    raised = with_entry cs.dim (scale d x) w

    x_wide : length x ≡ cs.dim + 1
    x_wide = r.within.point.wide

    scaled_wide : length (scale d x) ≡ cs.dim + 1
    scaled_wide = length-scale d x ∙ x_wide

    raised_wide : length raised ≡ cs.dim + 1 + 1
    raised_wide = let e = length-with_entry cs.dim (scale d x) w (omega (arith, scaled_wide)) in omega (arith, e, scaled_wide)

    back : without cs.dim (cs.dim + 1) raised ≡ scale d x
    back = without-with_entry cs.dim (scale d x) w (omega (arith, scaled_wide))

    own : cell raised cs.dim ≡ w
    own = cell-with_entry cs.dim (scale d x) w (omega (arith, scaled_wide))

    before : (j : ℕ) → j < cs.dim → cell raised j ≡ d *ℤ cell x j
    before j h = sym (cell_before cs.dim raised j (omega (arith, raised_wide)) h) ∙ ap (λ (u : List ℤ). cell u j) back ∙ cell-scale d x j

    last : cell raised (cs.dim + 1) ≡ d *ℤ cell x cs.dim
    last = sym (cell_last cs.dim raised (omega (arith, raised_wide))) ∙ ap (λ (u : List ℤ). cell u cs.dim) back ∙ cell-scale d x cs.dim

    raised_meets : All (MeetsAt (with_zeros cs.dim 1) (without cs.dim (cs.dim + 1)) raised) cs.list
    raised_meets = padded_meets cs.dim 1 cs.list raised

    same_place : IsSamePoint x (without cs.dim (cs.dim + 1) raised)
    same_place = record { left = d; right = pos 1; left_positive = pt.positive; right_positive = omega (arith, ints); same = sym (one_scaled (scale d x)) ∙ ap (scale (pos 1)) (sym back) }
      where
        one_scaled : (u : List ℤ) → scale (pos 1) u ≡ u
        one_scaled u = ext_get_or (pos 0) (scale (pos 1) u) u (length-scale (pos 1) u) (λ j h. cell-scale (pos 1) u j ∙ sym (one_times (cell u j) (cell u j) refl))

    raised_holds : In extended raised
    raised_holds =
        holds_extended (with_zeros cs.dim 1) (without cs.dim (cs.dim + 1)) rel expr den cs extended is raised raised_meets (omega (arith, expr_wide)) (omega (arith, raised_wide))
        (In-same_point cs x (without cs.dim (cs.dim + 1) raised) same_place r.within.holds)
        (stands_scaled rel (pos 1) (pos 1) (dot expr x *ℤ d) (cell v var *ℤ (den *ℤ cell x cs.dim)) (dot expr (without cs.dim (cs.dim + 1) raised)) (den *ℤ cell raised cs.dim) (omega (arith, ints)) (omega (arith, ints))
        (ap (λ (z : ℤ). pos 1 *ℤ z) (middle (cell v var) den (cell x cs.dim) ∙ ap (λ (z : ℤ). den *ℤ z) (sym own)))
        (ap (λ (z : ℤ). pos 1 *ℤ z) (mul_comm (dot expr x) d ∙ sym (dot-scale expr d x) ∙ ap (dot expr) (sym back)))
        r.stands)
      where
        middle : (a b c : ℤ) → a *ℤ (b *ℤ c) ≡ b *ℤ (a *ℤ c)
        middle a b c = simp ring refl

    same_cells : (j : ℕ) → j < cs.dim + 1 → cell x cs.dim *ℤ cell v j ≡ cell (map_of raised) j
    same_cells j h = by_place (cases_lt j cs.dim) (cases_eq j var)
      where
        by_place : (j < cs.dim) ⊎ (cs.dim ≤ j) → (j ≡ var) ⊎ (j ≢ var) → cell x cs.dim *ℤ cell v j ≡ cell (map_of raised) j
        by_place (inl l) (inl e) = subst (λ (n : ℕ). cell x cs.dim *ℤ cell v n ≡ cell (map_of raised) n) (sym e) (mul_comm (cell x cs.dim) (cell v var) ∙ sym (image_own cs.dim var below raised ∙ own))
        by_place (inl l) (inr ne) = mul_comm (cell x cs.dim) (cell v j) ∙ r.others j l ne ∙ mul_comm (cell x j) d ∙ sym (image_other cs.dim var below raised j l ne ∙ before j l)
        by_place (inr g) k =
            let e : cs.dim ≡ j = omega (arith, g, h) in
            subst (λ (n : ℕ). cell x cs.dim *ℤ cell v n ≡ cell (map_of raised) n) e (mul_comm (cell x cs.dim) d ∙ sym (image_last cs.dim var below raised ∙ last))

    pub source_of_related : HasSource map_of extended v
    source_of_related = record {
      source = raised;
      within = record {
        point = record { wide = raised_wide ∙ ap (λ (n : ℕ). n + 1) (sym is.same_dim); positive = subst (λ (n : ℕ). pos 0 <ℤ cell raised n) (sym is.same_dim) (subst (λ (z : ℤ). pos 0 <ℤ z) (sym last) (mul-positive d (cell x cs.dim) pt.positive r.within.point.positive)) };
        holds = raised_holds;
      };
      same = record {
        left = cell x cs.dim;
        right = pos 1;
        left_positive = r.within.point.positive;
        right_positive = omega (arith, ints);
        same = ext_get_or (pos 0) (scale (cell x cs.dim) v) (scale (pos 1) (map_of raised))
            (length-scale (cell x cs.dim) v ∙ pt.wide ∙ sym (length-scale (pos 1) (map_of raised) ∙ length-picked (image_columns cs.dim var) (cs.dim + 1) raised ∙ ap (λ (n : ℕ). n + 1) (columns_length cs.dim var below)))
            (λ j h. cell-scale (cell x cs.dim) v j ∙ same_cells j (omega (arith, h, length-scale (cell x cs.dim) v, pt.wide)) ∙ one_times (cell (map_of raised) j) (cell (map_of raised) j) refl ∙ sym (cell-scale (pos 1) (map_of raised) j));
      };
    }

pub image_law : ImageIsShadow
image_law rel var expr den cs extended v below wide is pt = (
  (λ s. related_of rel var expr den cs extended below wide is v pt (subst (λ (n : ℕ). HasSource (picked (image_columns cs.dim var) n) extended v) is.same_dim s)),
  (λ r. subst (λ (n : ℕ). HasSource (picked (image_columns cs.dim var) n) extended v) (sym is.same_dim) (source_of_related rel var expr den cs extended below wide is v pt r)),
)
