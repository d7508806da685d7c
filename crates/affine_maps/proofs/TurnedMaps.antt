-- A map whose variable has a part in its expression takes no two points to one.
use Rattle.std.proofs.Common.{◌≡◌, ◌≢◌, ◌⊎◌, inl, inr, ℕ, ◌+◌, ◌<◌, List, length, ℤ, pos, ◌+ℤ◌, ◌*ℤ◌, neg_ℤ, ◌<ℤ◌, sym, ap, ◌∙◌, subst, arith}
use Rattle.std.proofs.lemmas.Int.{ints}
use Rattle.std.proofs.lemmas.Bool.{cases_eq}
use Rattle.std.proofs.lemmas.List.{ext_get_or, get_or-set_same}
use Rattle.row_core.specs.Vectors.{cell, dot, scale, add}
use Rattle.row_core.specs.Points.{IsPoint, IsSamePoint}
use Rattle.cone_laws.proofs.Ring.{ring, by_sign, zero_of_mul, neg-mul, mul-positive, one-mul, mul_comm}
use Rattle.cone_laws.proofs.Columns.{cell-scale, length-scale, dot_comm, dot-add, dot-scale, dot-multiple}
use Rattle.cone_laws.proofs.Factors.{single, cell-both, cell-single_same, cell-single_other}
use Rattle.cons_sys.proofs.SystemLemmas.{In-same_point}
use Rattle.mapped_systems.specs.Maps.{substituted}
use Rattle.affine_maps.specs.Laws.{ImageIsUndone}
use Rattle.mapped_systems.proofs.LinearMaps.{IsLinearMap, substitution_linear, substituted_other, dot-single}
use Rattle.mapped_systems.specs.Sources.{HasSource}
use Rattle.mapped_systems.proofs.SamePoints.{same_itself, same_points}

zero_factor : (a b : ℤ) → a ≢ pos 0 → a *ℤ b ≡ pos 0 → b ≡ pos 0
zero_factor a b ne e = by (by_sign a)
  where
    by : (pos 0 <ℤ a) ⊎ ((a <ℤ pos 0) ⊎ (a ≡ pos 0)) → b ≡ pos 0
    by (inl p) = zero_of_mul a b p e
    by (inr (inl n)) = zero_of_mul (neg_ℤ a) b (omega (arith, ints, n)) (neg-mul a b ∙ ap neg_ℤ e)
    by (inr (inr z)) = absurd (ne z)

one_entry : (x y : ℤ) → y ≡ pos 1 → x ≡ x *ℤ y
one_entry x y e = let f = ap (λ (z : ℤ). x *ℤ z) e in omega (arith, ints, f)

no_entry : (x y k : ℤ) → x ≡ pos 0 → y ≡ pos 0 → x ≡ k *ℤ y
no_entry x y k e f = let h = ap (λ (z : ℤ). k *ℤ z) f in omega (arith, ints, e, h)

one_value : (x y z : ℤ) → y ≡ pos 1 *ℤ z → x *ℤ y ≡ z *ℤ x
one_value x y z e = ap (λ (a : ℤ). x *ℤ a) (e ∙ one-mul z) ∙ mul_comm x z

-- the value of a vector that is 0 at all columns but one
dot-alone : (a w : List ℤ) (var : ℕ) → ((j : ℕ) → j ≢ var → cell w j ≡ pos 0) → dot a w ≡ cell a var *ℤ cell w var
dot-alone a w var h = dot-multiple a w (single var (pos 1)) (cell w var) (λ j. at j (cases_eq j var)) ∙ one_value (cell w var) (dot a (single var (pos 1))) (cell a var) (dot_comm a (single var (pos 1)) ∙ dot-single var (pos 1) a)
  where
    at : (j : ℕ) → (j ≡ var) ⊎ (j ≢ var) → cell w j ≡ cell w var *ℤ cell (single var (pos 1)) j
    at j (inl e) = ap (cell w) e ∙ one_entry (cell w var) (cell (single var (pos 1)) j) (ap (cell (single var (pos 1))) e ∙ cell-single_same var (pos 1))
    at j (inr ne) = no_entry (cell w j) (cell (single var (pos 1)) j) (cell w var) (h j ne) (cell-single_other var j (pos 1) ne)

difference : (x l r a b : ℤ) → x ≡ l *ℤ a +ℤ neg_ℤ r *ℤ b → l *ℤ a ≡ r *ℤ b → x ≡ pos 0
difference x l r a b e f = let g = neg-mul r b in omega (arith, ints, e, f, g)

equal_again : (x l r a b : ℤ) → x ≡ l *ℤ a +ℤ neg_ℤ r *ℤ b → x ≡ pos 0 → l *ℤ a ≡ r *ℤ b
equal_again x l r a b e f = let g = neg-mul r b in omega (arith, ints, e, f, g)

times_zero : (d l r a b c e : ℤ) → c ≡ d *ℤ a → e ≡ d *ℤ b → l *ℤ c ≡ r *ℤ e → d *ℤ (l *ℤ a +ℤ neg_ℤ r *ℤ b) ≡ pos 0
times_zero d l r a b c e f g h =
    let m = ap (λ (z : ℤ). l *ℤ z) f in
    let n = ap (λ (z : ℤ). r *ℤ z) g in
    let k : d *ℤ (l *ℤ a +ℤ neg_ℤ r *ℤ b) ≡ l *ℤ (d *ℤ a) +ℤ neg_ℤ (r *ℤ (d *ℤ b)) = simp ring (omega (arith, ints)) in
    omega (arith, ints, h, m, n, k)

module _ (dim var : ℕ) (expr : List ℤ) (den : ℤ) (below : var < dim) (positive : pos 0 <ℤ den) (part : cell expr var ≢ pos 0) where
  replaced_cell : (v : List ℤ) → length v ≡ dim + 1 → cell (substituted var expr den v) var ≡ dot expr v
  replaced_cell v w = get_or-set_same (scale den v) var (dot expr v) (pos 0) (omega (arith, length-scale den v, w, below))

  module _ (v x : List ℤ) (wide : length v ≡ dim + 1) (wide2 : length x ≡ dim + 1) (s : IsSamePoint (substituted var expr den v) (substituted var expr den x)) where
    gap_cell : (j : ℕ) → cell (add (scale s.left v) (scale (neg_ℤ s.right) x)) j ≡ s.left *ℤ cell v j +ℤ neg_ℤ s.right *ℤ cell x j
    gap_cell j = cell-both s.left (neg_ℤ s.right) v x j

    columns : (j : ℕ) → s.left *ℤ cell (substituted var expr den v) j ≡ s.right *ℤ cell (substituted var expr den x) j
    columns j = sym (cell-scale s.left (substituted var expr den v) j) ∙ ap (λ (u : List ℤ). cell u j) s.same ∙ cell-scale s.right (substituted var expr den x) j

    other : (j : ℕ) → j ≢ var → cell (add (scale s.left v) (scale (neg_ℤ s.right) x)) j ≡ pos 0
    other j ne = zero_of_mul den (cell (add (scale s.left v) (scale (neg_ℤ s.right) x)) j) positive
        (ap (λ (z : ℤ). den *ℤ z) (gap_cell j) ∙ times_zero den s.left s.right (cell v j) (cell x j) (cell (substituted var expr den v) j) (cell (substituted var expr den x) j) (substituted_other var expr den v j ne) (substituted_other var expr den x j ne) (columns j))

    gap_value : dot expr (add (scale s.left v) (scale (neg_ℤ s.right) x)) ≡ pos 0
    gap_value = difference (dot expr (add (scale s.left v) (scale (neg_ℤ s.right) x))) s.left s.right (dot expr v) (dot expr x) sum
        (ap (λ (z : ℤ). s.left *ℤ z) (sym (replaced_cell v wide)) ∙ columns var ∙ ap (λ (z : ℤ). s.right *ℤ z) (replaced_cell x wide2))
      where
        sum : dot expr (add (scale s.left v) (scale (neg_ℤ s.right) x)) ≡ s.left *ℤ dot expr v +ℤ neg_ℤ s.right *ℤ dot expr x
        sum =
            let a = dot-add expr (scale s.left v) (scale (neg_ℤ s.right) x) in
            let b = dot-scale expr s.left v in
            let c = dot-scale expr (neg_ℤ s.right) x in
            omega (arith, ints, a, b, c)

    own : cell (add (scale s.left v) (scale (neg_ℤ s.right) x)) var ≡ pos 0
    own = zero_factor (cell expr var) (cell (add (scale s.left v) (scale (neg_ℤ s.right) x)) var) part (sym (dot-alone expr (add (scale s.left v) (scale (neg_ℤ s.right) x)) var other) ∙ gap_value)

    nothing_between : (j : ℕ) → (j ≡ var) ⊎ (j ≢ var) → cell (add (scale s.left v) (scale (neg_ℤ s.right) x)) j ≡ pos 0
    nothing_between j (inl e) = ap (cell (add (scale s.left v) (scale (neg_ℤ s.right) x))) e ∙ own
    nothing_between j (inr ne) = other j ne

    pub sources_same : IsSamePoint v x
    sources_same = record {
      left = s.left;
      right = s.right;
      left_positive = s.left_positive;
      right_positive = s.right_positive;
      same = ext_get_or (pos 0) (scale s.left v) (scale s.right x) (length-scale s.left v ∙ wide ∙ sym wide2 ∙ sym (length-scale s.right x))
          (λ j _. cell-scale s.left v j ∙ equal_again (cell (add (scale s.left v) (scale (neg_ℤ s.right) x)) j) s.left s.right (cell v j) (cell x j) (gap_cell j) (nothing_between j (cases_eq j var)) ∙ sym (cell-scale s.right x j));
    }

  image_point : (v : List ℤ) → IsPoint dim v → IsPoint dim (substituted var expr den v)
  image_point v pt =
      let lin : IsLinearMap dim dim (substituted var expr den) = substitution_linear dim var expr den below positive in
      record { wide = lin.wide v pt.wide; positive = subst (λ (z : ℤ). pos 0 <ℤ z) (sym (lin.last v pt.wide)) (mul-positive lin.divisor (cell v dim) lin.positive pt.positive) }

pub image_undone : ImageIsUndone
image_undone var expr den p q r below positive part i j v pt = (
  (λ h. (j.points v at_q).1 ((i.points (substituted var expr den v) image).1 (record { source = v; within = record { point = pt; holds = h }; same = same_itself (substituted var expr den v) }))),
  (λ h.
      let o : HasSource (substituted var expr den) p.cons (substituted var expr den v) = (i.points (substituted var expr den v) image).0 ((j.points v at_q).0 h) in
      In-same_point p.cons o.source v (same_points v o.source (sources_same p.cons.dim var expr den below positive part v o.source pt.wide o.within.point.wide o.same)) o.within.holds),
)
  where
    at_q : IsPoint q.cons.dim v
    at_q = subst (λ (n : ℕ). IsPoint n v) (sym i.over.same_dim) pt

    image : IsPoint p.cons.dim (substituted var expr den v)
    image = image_point p.cons.dim var expr den below positive part v pt
