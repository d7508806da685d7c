-- What mapped generators span are the images of what the generators span.
use Rattle.std.proofs.Common.{◌≡◌, ℕ, zero, suc, ◌+◌, ◌<◌, List, [], ◌∷◌, length, map, replicate, ℤ, pos, ◌+ℤ◌, ◌*ℤ◌, ◌<ℤ◌, refl, sym, ap, ◌∙◌, subst, arith, All}
use Rattle.std.proofs.lemmas.Int.{ints}
use Rattle.std.proofs.lemmas.List.{ext_get_or}
use Rattle.std.proofs.lemmas.List.Elements.{All-head, All-tail}
use Rattle.row_core.specs.Vectors.{cell, dot, scale, add, combined}
use Rattle.row_core.specs.Content.{IsPrimitiveOf}
use Rattle.row_core.specs.Points.{IsPoint, IsSamePoint}
use Rattle.cone_laws.proofs.Ring.{ring, mul-positive, mul-zero, positive_of_mul}
use Rattle.cone_laws.proofs.Columns.{cell-scale, length-scale, cell-add, length-add, dot-add, dot-scale}
use Rattle.cone_laws.proofs.Factors.{combined-scale}
use Rattle.gens_sys.specs.Kinds.{IsZeroDirection}
use Rattle.gens_sys.specs.declared.kind.GenKind.{GenKind}
use Rattle.gens_sys.specs.declared.kind.GenKind.TheVariants.{Line, Ray, Point, ClosurePoint}
use Rattle.gens_sys.specs.Generators.{Generator, Generators, rows_of}
use Rattle.gens_sys.specs.Spans.{Span}
use Rattle.gens_sys.proofs.SpanLemmas.{Span-same_point}
use Rattle.mapped_systems.specs.MappedLists.{AreMapped, nothing, left_out, kept}
use Rattle.mapped_systems.proofs.LinearMaps.{IsLinearMap}
use Rattle.mapped_systems.proofs.Weights.{Weights, no_weight, one_weight, PointWeight, first_weight, later_weight, weights_of, weights_length, weights_allowed, point_weight, point_factor, allows_times, allows_nothing, weights_times, point_times}

-- ---- numbers
all_zero : (v : List ℤ) → All (λ z. z ≡ pos 0) v → (j : ℕ) → cell v j ≡ pos 0
all_zero [] h j = refl
all_zero (a ∷ v) h zero = All-head (λ z. z ≡ pos 0) a v h
all_zero (a ∷ v) h (suc j) = all_zero v (All-tail (λ z. z ≡ pos 0) a v h) j

zero_direction : (kind : GenKind) (v : List ℤ) → IsZeroDirection kind v → (j : ℕ) → cell v j ≡ pos 0
zero_direction Line v h = all_zero v h
zero_direction Ray v h = all_zero v h
zero_direction Point v h = absurd h
zero_direction ClosurePoint v h = absurd h

stored_cell : (v stored : List ℤ) (p : IsPrimitiveOf v stored) (j : ℕ) → cell v j ≡ pos p.multiple.times *ℤ cell stored j
stored_cell v stored p j = ap (λ (w : List ℤ). cell w j) p.multiple.same ∙ cell-scale (pos p.multiple.times) stored j

positive_times : (n : ℕ) → 0 < n → pos 0 <ℤ pos n
positive_times n h = omega (arith, ints, h)

no_part : (k x y z : ℤ) → x ≡ pos 0 → y ≡ z → y ≡ k *ℤ x +ℤ z
no_part k x y z e f = let g = ap (λ (a : ℤ). k *ℤ a) e in omega (arith, ints, f, g, mul-zero k)

carried : (t k s x y z : ℤ) → x ≡ t *ℤ s → y ≡ z → (t *ℤ k) *ℤ s +ℤ y ≡ k *ℤ x +ℤ z
carried t k s x y z e f =
    let g = ap (λ (a : ℤ). k *ℤ a) e in
    let h : (t *ℤ k) *ℤ s ≡ k *ℤ (t *ℤ s) = simp ring (omega (arith, ints)) in
    omega (arith, ints, f, g, h)

no_factor : (m x y z : ℤ) → y ≡ m *ℤ z → pos 0 *ℤ x +ℤ y ≡ m *ℤ z
no_factor m x y z e = omega (arith, ints, e)

carried_back : (m t k s x y z u : ℤ) → x ≡ t *ℤ s → y ≡ m *ℤ z → u ≡ t *ℤ y → (m *ℤ k) *ℤ x +ℤ u ≡ (m *ℤ t) *ℤ (k *ℤ s +ℤ z)
carried_back m t k s x y z u e f g =
    let a = ap (λ (b : ℤ). (m *ℤ k) *ℤ b) e in
    let c = ap (λ (b : ℤ). t *ℤ b) f in
    let d : (m *ℤ t) *ℤ (k *ℤ s +ℤ z) ≡ (m *ℤ k) *ℤ (t *ℤ s) +ℤ t *ℤ (m *ℤ z) = simp ring (omega (arith, ints)) in
    omega (arith, ints, g, a, c, d)

-- ---- factors carried over
module _ (f : List ℤ → List ℤ) where
  -- factors of the new generators, with the same sum as the old ones have on the maps of the old generators
  record Goes (old new : List Generator) (ks : List ℤ) : Type 0 where
    factors : List ℤ
    weights : Weights new factors
    point : PointWeight old ks → PointWeight new factors
    sum : (j : ℕ) → combined factors (rows_of new) j ≡ combined ks (map (λ (g : Generator). f g.0) old) j

  left_point : (v : List ℤ) (kind : GenKind) (old new : List Generator) (k : ℤ) (ks factors : List ℤ) → IsZeroDirection kind (f v) → (PointWeight old ks → PointWeight new factors) → PointWeight ((v, kind) ∷ old) (k ∷ ks) → PointWeight new factors
  left_point v kind old new k ks factors z rest (first_weight e p) = absurd (subst (λ (c : GenKind). IsZeroDirection c (f v)) e z)
  left_point v kind old new k ks factors z rest (later_weight w) = rest w

  kept_point : (v stored : List ℤ) (kind : GenKind) (old new : List Generator) (t k : ℤ) (ks factors : List ℤ) → pos 0 <ℤ t → (PointWeight old ks → PointWeight new factors) → PointWeight ((v, kind) ∷ old) (k ∷ ks) → PointWeight ((stored, kind) ∷ new) ((t *ℤ k) ∷ factors)
  kept_point v stored kind old new t k ks factors q rest (first_weight e p) = first_weight e (mul-positive t k q p)
  kept_point v stored kind old new t k ks factors q rest (later_weight w) = later_weight (rest w)

  goes : (old new : List Generator) → AreMapped f old new → (ks : List ℤ) → Weights old ks → Goes old new ks
  goes [] [] nothing [] no_weight = record { factors = []; weights = no_weight; point = λ w. elim w [ ]; sum = λ j. refl }
  goes [] [] nothing (k ∷ ks) w = elim w [ ]
  goes [] (_ ∷ new) a ks w = elim a [ ]
  goes (g ∷ old) new a [] w = elim w [ ]
  goes ((v, kind) ∷ old) new (left_out z a) (k ∷ ks) (one_weight h w) =
      let r : Goes old new ks = goes old new a ks w in
      record {
        factors = r.factors;
        weights = r.weights;
        point = left_point v kind old new k ks r.factors z r.point;
        sum = λ j. no_part k (cell (f v) j) (combined r.factors (rows_of new) j) (combined ks (map (λ (g : Generator). f g.0) old) j) (zero_direction kind (f v) z j) (r.sum j);
      }
  goes ((v, kind) ∷ old) ((stored, kind2) ∷ new) (kept n p a) (k ∷ ks) (one_weight h w) =
      let r : Goes old new ks = goes old new a ks w in
      let t : ℤ = pos p.multiple.times in
      let q : pos 0 <ℤ t = positive_times p.multiple.times p.multiple.positive in
      record {
        factors = (t *ℤ k) ∷ r.factors;
        weights = one_weight (allows_times kind t k q h) r.weights;
        point = kept_point v stored kind old new t k ks r.factors q r.point;
        sum = λ j. carried t k (cell stored j) (cell (f v) j) (combined r.factors (rows_of new) j) (combined ks (map (λ (g : Generator). f g.0) old) j) (stored_cell (f v) stored p j) (r.sum j);
      }

  -- factors of the old generators, whose sum on their maps is a positive multiple of that of the new ones
  record Comes (old new : List Generator) (ks : List ℤ) : Type 0 where
    times : ℤ
    positive : pos 0 <ℤ times
    factors : List ℤ
    weights : Weights old factors
    point : PointWeight new ks → PointWeight old factors
    sum : (j : ℕ) → combined factors (map (λ (g : Generator). f g.0) old) j ≡ times *ℤ combined ks (rows_of new) j

  back_point : (v stored : List ℤ) (kind : GenKind) (old new : List Generator) (m t k : ℤ) (ks factors : List ℤ) → pos 0 <ℤ m → pos 0 <ℤ t → (PointWeight new ks → PointWeight old factors) → PointWeight ((stored, kind) ∷ new) (k ∷ ks) → PointWeight ((v, kind) ∷ old) ((m *ℤ k) ∷ scale t factors)
  back_point v stored kind old new m t k ks factors q s rest (first_weight e p) = first_weight e (mul-positive m k q p)
  back_point v stored kind old new m t k ks factors q s rest (later_weight w) = later_weight (point_times old factors t s (rest w))

  comes : (old new : List Generator) → AreMapped f old new → (ks : List ℤ) → Weights new ks → Comes old new ks
  comes [] [] nothing [] no_weight = record { times = pos 1; positive = omega (arith, ints); factors = []; weights = no_weight; point = λ w. elim w [ ]; sum = λ j. sym (mul-zero (pos 1)) }
  comes [] [] nothing (k ∷ ks) w = elim w [ ]
  comes [] (_ ∷ new) a ks w = elim a [ ]
  comes ((v, kind) ∷ old) new (left_out z a) ks w =
      let r : Comes old new ks = comes old new a ks w in
      record {
        times = r.times;
        positive = r.positive;
        factors = pos 0 ∷ r.factors;
        weights = one_weight (allows_nothing kind) r.weights;
        point = λ q. later_weight (r.point q);
        sum = λ j. no_factor r.times (cell (f v) j) (combined r.factors (map (λ (g : Generator). f g.0) old) j) (combined ks (rows_of new) j) (r.sum j);
      }
  comes ((v, kind) ∷ old) ((stored, kind2) ∷ new) (kept n p a) [] w = elim w [ ]
  comes ((v, kind) ∷ old) ((stored, kind2) ∷ new) (kept n p a) (k ∷ ks) (one_weight h w) =
      let r : Comes old new ks = comes old new a ks w in
      let t : ℤ = pos p.multiple.times in
      let q : pos 0 <ℤ t = positive_times p.multiple.times p.multiple.positive in
      record {
        times = r.times *ℤ t;
        positive = mul-positive r.times t r.positive q;
        factors = (r.times *ℤ k) ∷ scale t r.factors;
        weights = one_weight (allows_times kind r.times k r.positive h) (weights_times old r.factors t q r.weights);
        point = back_point v stored kind old new r.times t k ks r.factors r.positive q r.point;
        sum = λ j. carried_back r.times t k (cell stored j) (cell (f v) j) (combined r.factors (map (λ (g : Generator). f g.0) old) j) (combined ks (rows_of new) j) (combined (scale t r.factors) (map (λ (g : Generator). f g.0) old) j) (stored_cell (f v) stored p j) (r.sum j) (combined-scale t r.factors (map (λ (g : Generator). f g.0) old) j);
      }

-- ---- the sum as a vector
total : ℕ → List ℤ → List (List ℤ) → List ℤ
total width [] rows = replicate width (pos 0)
total width (k ∷ ks) [] = replicate width (pos 0)
total width (k ∷ ks) (row ∷ rows) = add (scale k row) (total width ks rows)

zeros_length : (n : ℕ) → length (replicate n (pos 0)) ≡ n
zeros_length zero = refl
zeros_length (suc n) = ap suc (zeros_length n)

zeros_cell : (n j : ℕ) → cell (replicate n (pos 0)) j ≡ pos 0
zeros_cell zero j = refl
zeros_cell (suc n) zero = refl
zeros_cell (suc n) (suc j) = zeros_cell n j

no_value : (b x : ℤ) → x ≡ pos 0 → b *ℤ pos 0 +ℤ x ≡ pos 0
no_value b x e = omega (arith, ints, e, mul-zero b)

zeros_dot : (n : ℕ) (a : List ℤ) → dot a (replicate n (pos 0)) ≡ pos 0
zeros_dot n [] = refl
zeros_dot zero (b ∷ a) = refl
zeros_dot (suc n) (b ∷ a) = no_value b (dot a (replicate n (pos 0))) (zeros_dot n a)

add_part : (x s y z k w : ℤ) → x ≡ s +ℤ y → s ≡ k *ℤ w → y ≡ z → x ≡ k *ℤ w +ℤ z
add_part x s y z k w e f g = omega (arith, ints, e, f, g)

abbrev Wide : ℕ → Generator → Type 0
Wide dim g = length g.0 ≡ dim + 1

total_length : (dim : ℕ) (list : List Generator) (ks : List ℤ) → All (Wide dim) list → length (total (dim + 1) ks (rows_of list)) ≡ dim + 1
unfolding total
total_length dim list [] h = zeros_length (dim + 1)
total_length dim [] (k ∷ ks) h = zeros_length (dim + 1)
total_length dim (g ∷ list) (k ∷ ks) h =
    let r : length (total (dim + 1) ks (rows_of list)) ≡ dim + 1 = total_length dim list ks (All-tail (Wide dim) g list h) in
    length-add (scale k g.0) (total (dim + 1) ks (rows_of list)) (length-scale k g.0 ∙ All-head (Wide dim) g list h ∙ sym r) ∙ r

total_cell : (width : ℕ) (rows : List (List ℤ)) (ks : List ℤ) (j : ℕ) → cell (total width ks rows) j ≡ combined ks rows j
unfolding total
total_cell width rows [] j = zeros_cell width j
total_cell width [] (k ∷ ks) j = zeros_cell width j
total_cell width (row ∷ rows) (k ∷ ks) j = add_part (cell (add (scale k row) (total width ks rows)) j) (cell (scale k row) j) (cell (total width ks rows) j) (combined ks rows j) k (cell row j) (cell-add (scale k row) (total width ks rows) j) (cell-scale k row j) (total_cell width rows ks j)

module _ (dim to : ℕ) (f : List ℤ → List ℤ) (lin : IsLinearMap dim to f) where
  total_value : (list : List Generator) (ks : List ℤ) → All (Wide dim) list → (j : ℕ) → dot (lin.rows j) (total (dim + 1) ks (rows_of list)) ≡ combined ks (map (λ (g : Generator). f g.0) list) j
  unfolding total
  total_value list [] h j = zeros_dot (dim + 1) (lin.rows j)
  total_value [] (k ∷ ks) h j = zeros_dot (dim + 1) (lin.rows j)
  total_value (g ∷ list) (k ∷ ks) h j =
      add_part (dot (lin.rows j) (add (scale k g.0) (total (dim + 1) ks (rows_of list)))) (dot (lin.rows j) (scale k g.0)) (dot (lin.rows j) (total (dim + 1) ks (rows_of list))) (combined ks (map (λ (x : Generator). f x.0) list) j) k (cell (f g.0) j)
      (dot-add (lin.rows j) (scale k g.0) (total (dim + 1) ks (rows_of list)))
      (dot-scale (lin.rows j) k g.0 ∙ ap (λ (z : ℤ). k *ℤ z) (sym (lin.values g.0 (All-head (Wide dim) g list h) j)))
      (total_value list ks (All-tail (Wide dim) g list h) j)

  total_image : (list : List Generator) (ks : List ℤ) → All (Wide dim) list → (j : ℕ) → cell (f (total (dim + 1) ks (rows_of list))) j ≡ combined ks (map (λ (g : Generator). f g.0) list) j
  total_image list ks h j = lin.values (total (dim + 1) ks (rows_of list)) (total_length dim list ks h) j ∙ total_value list ks h j

  -- the map of a multiple of a vector with the same cells as a sum
  image_sum : (list : List Generator) (ks x : List ℤ) (t : ℤ) → All (Wide dim) list → length x ≡ dim + 1 → ((j : ℕ) → t *ℤ cell x j ≡ combined ks (rows_of list) j) → (j : ℕ) → t *ℤ cell (f x) j ≡ combined ks (map (λ (g : Generator). f g.0) list) j
  image_sum list ks x t h w e j =
      ap (λ (z : ℤ). t *ℤ z) (lin.values x w j)
      ∙ sym (dot-scale (lin.rows j) t x)
      ∙ ap (dot (lin.rows j)) same
      ∙ total_value list ks h j
    where
      same : scale t x ≡ total (dim + 1) ks (rows_of list)
      same = ext_get_or (pos 0) (scale t x) (total (dim + 1) ks (rows_of list)) (length-scale t x ∙ w ∙ sym (total_length dim list ks h)) (λ i _. cell-scale t x i ∙ e i ∙ sym (total_cell (dim + 1) (rows_of list) ks i))

  -- a point that the old generators span, whose map is the same point
  pub record SpannedSource (gs : Generators) (p : List ℤ) : Type 0 where
    pub source : List ℤ
    pub point : IsPoint dim source
    pub spanned : Span gs source
    pub same : IsSamePoint p (f source)

  one_times : (x y : ℤ) → x ≡ y → pos 1 *ℤ x ≡ y
  one_times x y e = omega (arith, ints, e)

  times_again : (m t p s y : ℤ) → t *ℤ p ≡ s → y ≡ m *ℤ s → (m *ℤ t) *ℤ p ≡ pos 1 *ℤ y
  times_again m t p s y e g =
      let a = ap (λ (z : ℤ). m *ℤ z) e in
      let b : (m *ℤ t) *ℤ p ≡ m *ℤ (t *ℤ p) = simp ring (omega (arith, ints)) in
      omega (arith, ints, g, a, b)

  above_zero : (m p y d x : ℤ) → pos 0 <ℤ m → pos 0 <ℤ p → m *ℤ p ≡ pos 1 *ℤ y → y ≡ d *ℤ x → pos 0 <ℤ d → pos 0 <ℤ x
  above_zero m p y d x a b e g h = positive_of_mul d x h (subst (λ (z : ℤ). pos 0 <ℤ z) (e ∙ one_is y ∙ g) (mul-positive m p a b))
    where
      one_is : (z : ℤ) → pos 1 *ℤ z ≡ z
      one_is z = omega (arith, ints)

  module _ (gs new : Generators) (wide : All (Wide dim) gs.list) (mapped : AreMapped f gs.list new.list) where
    pub source_of : (p : List ℤ) → IsPoint to p → Span new p → SpannedSource gs p
    source_of p pt s = record {
      source = x;
      point = record { wide = x_wide; positive = above_zero (r.times *ℤ s.times) (cell p to) (cell (f x) to) lin.divisor (cell x dim) (mul-positive r.times s.times r.positive s.positive) pt.positive (column to) (lin.last x x_wide) lin.positive };
      spanned = record {
        times = pos 1;
        positive = omega (arith, ints);
        factors = r.factors;
        one_each = weights_length gs.list r.factors r.weights;
        allowed = weights_allowed gs.list r.factors r.weights;
        point = point_factor gs.list r.factors (r.point (point_weight new.list s.factors s.point.index s.one_each s.point.within s.point.kind s.point.positive));
        sum = λ j. one_times (cell x j) (combined r.factors (rows_of gs.list) j) (total_cell (dim + 1) (rows_of gs.list) r.factors j);
      };
      same = record {
        left = r.times *ℤ s.times;
        right = pos 1;
        left_positive = mul-positive r.times s.times r.positive s.positive;
        right_positive = omega (arith, ints);
        same = ext_get_or (pos 0) (scale (r.times *ℤ s.times) p) (scale (pos 1) (f x)) lengths (λ j _. cell-scale (r.times *ℤ s.times) p j ∙ column j ∙ sym (cell-scale (pos 1) (f x) j));
      };
    }
      where
        r : Comes f gs.list new.list s.factors
        r = comes f gs.list new.list mapped s.factors (weights_of new.list s.factors s.one_each s.allowed)

        x : List ℤ
        x = total (dim + 1) r.factors (rows_of gs.list)

        x_wide : length x ≡ dim + 1
        x_wide = total_length dim gs.list r.factors wide

        column : (j : ℕ) → (r.times *ℤ s.times) *ℤ cell p j ≡ pos 1 *ℤ cell (f x) j
        column j = times_again r.times s.times (cell p j) (combined s.factors (rows_of new.list) j) (cell (f x) j) (s.sum j) (total_image gs.list r.factors wide j ∙ r.sum j)

        lengths : length (scale (r.times *ℤ s.times) p) ≡ length (scale (pos 1) (f x))
        lengths = length-scale (r.times *ℤ s.times) p ∙ pt.wide ∙ sym (lin.wide x x_wide) ∙ sym (length-scale (pos 1) (f x))

    image_spanned : (x : List ℤ) → length x ≡ dim + 1 → Span gs x → Span new (f x)
    image_spanned x w s =
        let r : Goes f gs.list new.list s.factors = goes f gs.list new.list mapped s.factors (weights_of gs.list s.factors s.one_each s.allowed) in
        record {
          times = s.times;
          positive = s.positive;
          factors = r.factors;
          one_each = weights_length new.list r.factors r.weights;
          allowed = weights_allowed new.list r.factors r.weights;
          point = point_factor new.list r.factors (r.point (point_weight gs.list s.factors s.point.index s.one_each s.point.within s.point.kind s.point.positive));
          sum = λ j. image_sum gs.list s.factors x s.times wide w s.sum j ∙ sym (r.sum j);
        }

    pub of_source : (p : List ℤ) → SpannedSource gs p → Span new p
    of_source p s = Span-same_point new (f s.source) p (record { left = s.same.right; right = s.same.left; left_positive = s.same.right_positive; right_positive = s.same.left_positive; same = sym s.same.same }) (image_spanned s.source s.point.wide s.spanned)
