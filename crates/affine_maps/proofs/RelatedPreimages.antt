-- The preimage of a set by a relation, by one more variable.
use Rattle.std.proofs.Common.{◌≡◌, ◌≢◌, ◌⊎◌, inl, inr, ℕ, ◌+◌, ◌<◌, ◌≤◌, List, length, slice_index_or, slice_set, ℤ, pos, ◌*ℤ◌, ◌<ℤ◌, refl, sym, ap, ◌∙◌, subst, arith, All}
use Rattle.std.specs.List.{range_with_len}
use Rattle.std.proofs.lemmas.Int.{ints}
use Rattle.std.proofs.lemmas.Bool.{cases_eq, cases_lt}
use Rattle.std.proofs.lemmas.List.{ext_get_or, get_or-set_same, get_or-set_other, length-set}
use Rattle.std.proofs.lemmas.List.FromFn.{get_or-range_with_len, length-range_with_len}
use Rattle.row_core.specs.Vectors.{cell, dot, scale}
use Rattle.row_core.specs.Points.{IsPoint, IsSamePoint}
use Rattle.cone_laws.proofs.Ring.{ring, mul_comm, mul-positive}
use Rattle.cone_laws.proofs.Columns.{cell-scale, length-scale, dot-scale}
use Rattle.cons_sys.specs.Constraints.{Constraint, Constraints, In}
use Rattle.cons_sys.proofs.SystemLemmas.{In-same_point}
use Rattle.stored_systems.specs.PointSets.{AreWide}
use Rattle.affine_maps.specs.declared.relations.ImageRel.{ImageRel}
use Rattle.mapped_systems.specs.Maps.{without, picked}
use Rattle.mapped_systems.specs.Sources.{HasSource}
use Rattle.affine_maps.specs.Relations.{IsRelatedPreimage, with_entry, moved, replaced, IsExtended}
use Rattle.affine_maps.specs.RelationLaws.{PreimageIsShadow}
use Rattle.mapped_systems.proofs.ColumnLemmas.{length-without, cell-picked, cell-picked_last, length-picked, dot-replaced}
use Rattle.mapped_systems.proofs.PulledSets.{MeetsAt}
use Rattle.affine_maps.proofs.RelatedRows.{dot-with_entry, cell_before, cell_last, without-with_entry, cell-with_entry, length-with_entry, stands_scaled, extended_holds, extended_stands, holds_extended}

-- ---- numbers
one_times : (x y : ℤ) → x ≡ y → x ≡ pos 1 *ℤ y
one_times x y e = omega (arith, ints, e)

stood_right : (r d x l y : ℤ) → l *ℤ y ≡ r *ℤ x → (r *ℤ d) *ℤ x ≡ l *ℤ (y *ℤ d)
stood_right r d x l y e =
    let f : (r *ℤ d) *ℤ x ≡ (r *ℤ x) *ℤ d = simp ring refl in
    let g : l *ℤ (y *ℤ d) ≡ (l *ℤ y) *ℤ d = simp ring refl in
    f ∙ ap (λ (z : ℤ). z *ℤ d) (sym e) ∙ sym g

stood_left : (r d den w l b : ℤ) → l *ℤ b ≡ r *ℤ d → (r *ℤ d) *ℤ (den *ℤ w) ≡ l *ℤ (w *ℤ (den *ℤ b))
stood_left r d den w l b e =
    let g : l *ℤ (w *ℤ (den *ℤ b)) ≡ (l *ℤ b) *ℤ (den *ℤ w) = simp ring refl in
    ap (λ (z : ℤ). z *ℤ (den *ℤ w)) (sym e) ∙ sym g

placed_other : (r d x l y : ℤ) → l *ℤ y ≡ r *ℤ x → (r *ℤ d) *ℤ x ≡ l *ℤ (d *ℤ y)
placed_other r d x l y e = stood_right r d x l y e ∙ ap (λ (z : ℤ). l *ℤ z) (mul_comm y d)

placed_own : (r d w l b : ℤ) → l *ℤ b ≡ r *ℤ d → (r *ℤ d) *ℤ w ≡ l *ℤ (w *ℤ b)
placed_own r d w l b e =
    let g : l *ℤ (w *ℤ b) ≡ (l *ℤ b) *ℤ w = simp ring refl in
    ap (λ (z : ℤ). z *ℤ w) (sym e) ∙ sym g

-- ---- the row with the variable's entry moved
module _ (dim var : ℕ) (below : var < dim) where
  -- the vector with the value of the new variable in the place of the variable
  abbrev pub placed : List ℤ → List ℤ
  placed u = slice_set (without dim (dim + 1) u) var (cell u dim)

  moved_row : (row u : List ℤ) → length row ≡ dim + 1 → length u ≡ dim + 1 + 1 → dot (moved dim var row) u ≡ dot row (placed u)
  moved_row row u w h =
      let e = length-without dim 1 u (omega (arith, h)) in
      dot-with_entry dim (slice_set row var (pos 0)) (cell row var) u (omega (arith, length-set row var (pos 0), w)) (omega (arith, h))
      ∙ sym (dot-replaced row (without dim (dim + 1) u) var (cell u dim) (omega (arith, w, below)) (omega (arith, e, h, below)))

  pub moved_meets : (list : List Constraint) → All (λ c. length c.0 ≡ dim + 1) list → (u : List ℤ) → length u ≡ dim + 1 + 1 → All (MeetsAt (moved dim var) placed u) list
  moved_meets list wide u h i d l = moved_row (slice_index_or list i d).0 u (wide i d l) h

  pub front_other : (u : List ℤ) (j : ℕ) → j < dim → cell (picked (range_with_len 0 dim) (dim + 1) u) j ≡ cell u j
  front_other u j h =
      cell-picked (range_with_len 0 dim) (dim + 1) u j (omega (arith, length-range_with_len 0 dim, h))
      ∙ ap (cell u) (get_or-range_with_len 0 dim j 0 h ∙ omega arith)

  pub front_last : (u : List ℤ) → cell (picked (range_with_len 0 dim) (dim + 1) u) dim ≡ cell u (dim + 1)
  front_last u = ap (cell (picked (range_with_len 0 dim) (dim + 1) u)) (sym (length-range_with_len 0 dim)) ∙ cell-picked_last (range_with_len 0 dim) (dim + 1) u

  -- the columns kept are those of the vector without the new one
  pub front_is : (u : List ℤ) → length u ≡ dim + 1 + 1 → picked (range_with_len 0 dim) (dim + 1) u ≡ without dim (dim + 1) u
  front_is u h =
      ext_get_or (pos 0) (picked (range_with_len 0 dim) (dim + 1) u) (without dim (dim + 1) u)
      (let e = length-without dim 1 u (omega (arith, h)) in omega (arith, length-picked (range_with_len 0 dim) (dim + 1) u, length-range_with_len 0 dim, e, h))
      (λ j l. by_place j (omega (arith, l, length-picked (range_with_len 0 dim) (dim + 1) u, length-range_with_len 0 dim)) (cases_lt j dim))
    where
      by_place : (j : ℕ) → j < dim + 1 → (j < dim) ⊎ (dim ≤ j) → cell (picked (range_with_len 0 dim) (dim + 1) u) j ≡ cell (without dim (dim + 1) u) j
      by_place j l (inl g) = front_other u j g ∙ sym (cell_before dim u j (omega (arith, h)) g)
      by_place j l (inr g) =
          let e : dim ≡ j = omega (arith, l, g) in
          subst (λ (n : ℕ). cell (picked (range_with_len 0 dim) (dim + 1) u) n ≡ cell (without dim (dim + 1) u) n) e (front_last u ∙ sym (cell_last dim u (omega (arith, h))))

module _ (rel : ImageRel) (var : ℕ) (expr : List ℤ) (den : ℤ) (cs extended : Constraints) (below : var < cs.dim) (expr_wide : length expr ≡ cs.dim + 1) (wide : AreWide cs) (is : IsExtended (moved cs.dim var) rel expr den cs extended) (v : List ℤ) (pt : IsPoint cs.dim v) where
  abbrev map_of : List ℤ → List ℤ
  map_of u = picked (range_with_len 0 cs.dim) (cs.dim + 1) u

  -- ---- from a point of the extended constraints
  module _ (s : HasSource map_of extended v) where
    abbrev u : List ℤ
    u = s.source

    abbrev x : List ℤ
    x = without cs.dim (cs.dim + 1) u

    abbrev l : ℤ
    l = s.same.left

    abbrev r : ℤ
    r = s.same.right

    u_wide : length u ≡ cs.dim + 1 + 1
    u_wide = s.within.point.wide ∙ ap (λ (n : ℕ). n + 1) is.same_dim

    x_last : cell x cs.dim ≡ cell u (cs.dim + 1)
    x_last = cell_last cs.dim u (omega (arith, u_wide))

    x_positive : pos 0 <ℤ cell x cs.dim
    x_positive = subst (λ (z : ℤ). pos 0 <ℤ z) (sym x_last) (subst (λ (n : ℕ). pos 0 <ℤ cell u n) is.same_dim s.within.point.positive)

    x_wide : length x ≡ cs.dim + 1
    x_wide = let e = length-without cs.dim 1 u (omega (arith, u_wide)) in omega (arith, e, u_wide)

    same_scaled : scale l v ≡ scale r x
    same_scaled = s.same.same ∙ ap (scale r) (front_is cs.dim var below u u_wide)

    column : (j : ℕ) → l *ℤ cell v j ≡ r *ℤ cell x j
    column j = sym (cell-scale l v j) ∙ ap (λ (w : List ℤ). cell w j) same_scaled ∙ cell-scale r x j

    same_dot : l *ℤ dot expr v ≡ r *ℤ dot expr x
    same_dot = sym (dot-scale expr l v) ∙ ap (dot expr) same_scaled ∙ dot-scale expr r x

    meets : All (MeetsAt (moved cs.dim var) (placed cs.dim var below) u) cs.list
    meets = moved_meets cs.dim var below cs.list wide u u_wide

    put : List ℤ
    put = replaced cs.dim var (cell u cs.dim) (cell x cs.dim) v

    place_cells : (j : ℕ) → j < cs.dim + 1 → (j ≡ var) ⊎ (j ≢ var) → (r *ℤ cell x cs.dim) *ℤ cell (placed cs.dim var below u) j ≡ l *ℤ cell (replaced cs.dim var (cell u cs.dim) (cell x cs.dim) v) j
    place_cells j h (inl e) =
        subst (λ (n : ℕ). (r *ℤ cell x cs.dim) *ℤ cell (placed cs.dim var below u) n ≡ l *ℤ cell (replaced cs.dim var (cell u cs.dim) (cell x cs.dim) v) n) (sym e)
        (ap (λ (z : ℤ). (r *ℤ cell x cs.dim) *ℤ z) (get_or-set_same x var (cell u cs.dim) (pos 0) (omega (arith, x_wide, below)))
        ∙ placed_own r (cell x cs.dim) (cell u cs.dim) l (cell v cs.dim) (column cs.dim)
        ∙ ap (λ (z : ℤ). l *ℤ z) (sym (get_or-set_same (scale (cell x cs.dim) v) var (cell u cs.dim *ℤ cell v cs.dim) (pos 0) (omega (arith, length-scale (cell x cs.dim) v, pt.wide, below)))))
    place_cells j h (inr ne) =
        ap (λ (z : ℤ). (r *ℤ cell x cs.dim) *ℤ z) (get_or-set_other x var j (cell u cs.dim) (pos 0) ne)
        ∙ placed_other r (cell x cs.dim) (cell x j) l (cell v j) (column j)
        ∙ ap (λ (z : ℤ). l *ℤ z) (sym (get_or-set_other (scale (cell x cs.dim) v) var j (cell u cs.dim *ℤ cell v cs.dim) (pos 0) ne ∙ cell-scale (cell x cs.dim) v j))

    same_place : IsSamePoint (placed cs.dim var below u) (replaced cs.dim var (cell u cs.dim) (cell x cs.dim) v)
    same_place = record {
      left = r *ℤ cell x cs.dim;
      right = l;
      left_positive = mul-positive r (cell x cs.dim) s.same.right_positive x_positive;
      right_positive = s.same.left_positive;
      same = ext_get_or (pos 0) (scale (r *ℤ cell x cs.dim) (placed cs.dim var below u)) (scale l (replaced cs.dim var (cell u cs.dim) (cell x cs.dim) v))
          (length-scale (r *ℤ cell x cs.dim) (placed cs.dim var below u) ∙ length-set x var (cell u cs.dim) ∙ x_wide ∙ sym (length-scale l (replaced cs.dim var (cell u cs.dim) (cell x cs.dim) v) ∙ length-set (scale (cell x cs.dim) v) var (cell u cs.dim *ℤ cell v cs.dim) ∙ length-scale (cell x cs.dim) v ∙ pt.wide))
          (λ j h. cell-scale (r *ℤ cell x cs.dim) (placed cs.dim var below u) j ∙ place_cells j (omega (arith, h, length-scale (r *ℤ cell x cs.dim) (placed cs.dim var below u), length-set x var (cell u cs.dim), x_wide)) (cases_eq j var) ∙ sym (cell-scale l (replaced cs.dim var (cell u cs.dim) (cell x cs.dim) v) j));
    }

    pub related_of : IsRelatedPreimage rel var expr den cs v
    related_of = record {
      num = cell u cs.dim;
      below = cell x cs.dim;
      positive = x_positive;
      stands = stands_scaled rel (r *ℤ cell x cs.dim) l (dot expr x) (den *ℤ cell u cs.dim) (dot expr v *ℤ cell x cs.dim) (cell u cs.dim *ℤ (den *ℤ cell v cs.dim))
          (mul-positive r (cell x cs.dim) s.same.right_positive x_positive) s.same.left_positive
          (stood_left r (cell x cs.dim) den (cell u cs.dim) l (cell v cs.dim) (column cs.dim))
          (stood_right r (cell x cs.dim) (dot expr x) l (dot expr v) same_dot)
          (extended_stands (moved cs.dim var) (placed cs.dim var below) rel expr den cs extended is u meets (omega (arith, expr_wide)) (omega (arith, u_wide)) s.within.holds);
      within = In-same_point cs (placed cs.dim var below u) (replaced cs.dim var (cell u cs.dim) (cell x cs.dim) v) same_place
          (extended_holds (moved cs.dim var) (placed cs.dim var below) rel expr den cs extended is u meets (omega (arith, expr_wide)) (omega (arith, u_wide)) s.within.holds);
    }

  -- ---- to one
  module _ (q : IsRelatedPreimage rel var expr den cs v) where
    abbrev raised : List ℤ
    raised = with_entry cs.dim (scale q.below v) (q.num *ℤ cell v cs.dim)

    scaled_wide : length (scale q.below v) ≡ cs.dim + 1
    scaled_wide = length-scale q.below v ∙ pt.wide

    raised_wide : length raised ≡ cs.dim + 1 + 1
    raised_wide = let e = length-with_entry cs.dim (scale q.below v) (q.num *ℤ cell v cs.dim) (omega (arith, scaled_wide)) in omega (arith, e, scaled_wide)

    back : without cs.dim (cs.dim + 1) raised ≡ scale q.below v
    back = without-with_entry cs.dim (scale q.below v) (q.num *ℤ cell v cs.dim) (omega (arith, scaled_wide))

    own : cell raised cs.dim ≡ q.num *ℤ cell v cs.dim
    own = cell-with_entry cs.dim (scale q.below v) (q.num *ℤ cell v cs.dim) (omega (arith, scaled_wide))

    last : cell raised (cs.dim + 1) ≡ q.below *ℤ cell v cs.dim
    last = sym (cell_last cs.dim raised (omega (arith, raised_wide))) ∙ ap (λ (w : List ℤ). cell w cs.dim) back ∙ cell-scale q.below v cs.dim

    put_back : replaced cs.dim var q.num q.below v ≡ placed cs.dim var below raised
    put_back = ap (λ (w : List ℤ). slice_set w var (q.num *ℤ cell v cs.dim)) (sym back) ∙ ap (slice_set (without cs.dim (cs.dim + 1) raised) var) (sym own)

    raised_holds : In extended raised
    raised_holds =
        holds_extended (moved cs.dim var) (placed cs.dim var below) rel expr den cs extended is raised (moved_meets cs.dim var below cs.list wide raised raised_wide) (omega (arith, expr_wide)) (omega (arith, raised_wide))
        (subst (In cs) put_back q.within)
        (stands_scaled rel (pos 1) (pos 1) (dot expr v *ℤ q.below) (q.num *ℤ (den *ℤ cell v cs.dim)) (dot expr (without cs.dim (cs.dim + 1) raised)) (den *ℤ cell raised cs.dim) (omega (arith, ints)) (omega (arith, ints))
        (ap (λ (z : ℤ). pos 1 *ℤ z) (middle q.num den (cell v cs.dim) ∙ ap (λ (z : ℤ). den *ℤ z) (sym own)))
        (ap (λ (z : ℤ). pos 1 *ℤ z) (mul_comm (dot expr v) q.below ∙ sym (dot-scale expr q.below v) ∙ ap (dot expr) (sym back)))
        q.stands)
      where
        middle : (a b c : ℤ) → a *ℤ (b *ℤ c) ≡ b *ℤ (a *ℤ c)
        middle a b c = simp ring refl

    pub source_of_related : HasSource map_of extended v
    source_of_related = record {
      source = raised;
      within = record {
        point = record { wide = raised_wide ∙ ap (λ (n : ℕ). n + 1) (sym is.same_dim); positive = subst (λ (n : ℕ). pos 0 <ℤ cell raised n) (sym is.same_dim) (subst (λ (z : ℤ). pos 0 <ℤ z) (sym last) (mul-positive q.below (cell v cs.dim) q.positive pt.positive)) };
        holds = raised_holds;
      };
      same = record {
        left = q.below;
        right = pos 1;
        left_positive = q.positive;
        right_positive = omega (arith, ints);
        same = sym (one_scaled (scale q.below v)) ∙ ap (scale (pos 1)) (sym (front_is cs.dim var below raised raised_wide ∙ back));
      };
    }
      where
        one_scaled : (w : List ℤ) → scale (pos 1) w ≡ w
        one_scaled w = ext_get_or (pos 0) (scale (pos 1) w) w (length-scale (pos 1) w) (λ j h. cell-scale (pos 1) w j ∙ sym (one_times (cell w j) (cell w j) refl))

pub preimage_law : PreimageIsShadow
preimage_law rel var expr den cs extended v below expr_wide wide is pt = (
  (λ s. related_of rel var expr den cs extended below expr_wide wide is v pt (subst (λ (n : ℕ). HasSource (picked (range_with_len 0 cs.dim) n) extended v) is.same_dim s)),
  (λ q. subst (λ (n : ℕ). HasSource (picked (range_with_len 0 cs.dim) n) extended v) (sym is.same_dim) (source_of_related rel var expr den cs extended below expr_wide wide is v pt q)),
)
