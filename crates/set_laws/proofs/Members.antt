-- Points that generators span: a Point itself, a Point moved along another generator, and sums of two.
use Rattle.std.proofs.Common.{◌≡◌, ◌≢◌, ◌⊎◌, inl, inr, ℕ, zero, suc, ◌+◌, ◌<◌, List, [], ◌∷◌, length, replicate, ℤ, pos, ◌+ℤ◌, ◌*ℤ◌, ◌≤ℤ◌, ◌<ℤ◌, refl, sym, ap, ◌∙◌, subst, arith}
use Rattle.std.proofs.lemmas.Int.{ints}
use Rattle.std.proofs.lemmas.List.Elements.{All-get_or}
use Rattle.row_core.specs.Vectors.{cell, dot, add, scale, combined}
use Rattle.cone_laws.proofs.Ring.{ring, mul-at_least_zero, mul-positive, mul-zero, same_or_not, by_sign}
use Rattle.cone_laws.proofs.Columns.{dot-add, dot-scale, cell-add, cell-scale, length-add, length-scale}
use Rattle.cone_laws.proofs.Factors.{combined-both, cell-both}
use Rattle.gens_sys.specs.Kinds.{AllowsFactor, HasBadDivisor}
use Rattle.gens_sys.specs.Generators.{Generator, Generators, generator_at, row_at, kind_at, rows_of, IsGenerator, FitDimension}
use Rattle.gens_sys.specs.Spans.{Span}
use Rattle.gens_sys.specs.declared.kind.GenKind.{GenKind}
use Rattle.gens_sys.specs.declared.kind.GenKind.TheVariants.{Line, Ray, Point, ClosurePoint}
use Rattle.set_laws.specs.Asking.{IsMember}

-- ---- factors
allows_both : (kind : GenKind) (m t x y z : ℤ) → pos 0 ≤ℤ m → pos 0 ≤ℤ t → AllowsFactor kind x → AllowsFactor kind y → z ≡ m *ℤ x +ℤ t *ℤ y → AllowsFactor kind z
allows_both Line m t x y z p q a b e = tt
allows_both Ray m t x y z p q a b e = omega (arith, ints, mul-at_least_zero m x p a, mul-at_least_zero t y q b, e)
allows_both Point m t x y z p q a b e = omega (arith, ints, mul-at_least_zero m x p a, mul-at_least_zero t y q b, e)
allows_both ClosurePoint m t x y z p q a b e = omega (arith, ints, mul-at_least_zero m x p a, mul-at_least_zero t y q b, e)

allows_zero : (kind : GenKind) (z : ℤ) → z ≡ pos 0 → AllowsFactor kind z
allows_zero Line z e = tt
allows_zero Ray z e = omega (arith, ints, e)
allows_zero Point z e = omega (arith, ints, e)
allows_zero ClosurePoint z e = omega (arith, ints, e)

-- k at index i of n numbers, and 0 elsewhere
abbrev unit : ℕ → ℕ → ℤ → List ℤ
unit zero i k = []
unit (suc n) zero k = k ∷ replicate n (pos 0)
unit (suc n) (suc i) k = pos 0 ∷ unit n i k

zeros_length : (n : ℕ) → length (replicate n (pos 0)) ≡ n
zeros_length zero = refl
zeros_length (suc n) = ap suc (zeros_length n)

zeros_entry : (n i : ℕ) → cell (replicate n (pos 0)) i ≡ pos 0
zeros_entry zero i = refl
zeros_entry (suc n) zero = refl
zeros_entry (suc n) (suc i) = zeros_entry n i

no_first : (x y : ℤ) → y ≡ pos 0 → pos 0 *ℤ x +ℤ y ≡ pos 0
no_first x y e = omega (arith, ints, e)

zeros_sum : (n : ℕ) (gs : List (List ℤ)) (j : ℕ) → combined (replicate n (pos 0)) gs j ≡ pos 0
zeros_sum zero gs j = refl
zeros_sum (suc n) [] j = refl
zeros_sum (suc n) (g ∷ gs) j = no_first (cell g j) (combined (replicate n (pos 0)) gs j) (zeros_sum n gs j)

unit_length : (n i : ℕ) (k : ℤ) → length (unit n i k) ≡ n
unit_length zero i k = refl
unit_length (suc n) zero k = ap suc (zeros_length n)
unit_length (suc n) (suc i) k = ap suc (unit_length n i k)

unit_same : (n i : ℕ) (k : ℤ) → i < n → cell (unit n i k) i ≡ k
unit_same zero i k h = absurd (omega arith)
unit_same (suc n) zero k h = refl
unit_same (suc n) (suc i) k h = unit_same n i k (omega arith)

unit_allowed : (list : List Generator) (i : ℕ) (k : ℤ) → AllowsFactor (kind_at list i) k → (m : ℕ) → m < length list → AllowsFactor (kind_at list m) (cell (unit (length list) i k) m)
unit_allowed [] i k a m h = absurd (omega arith)
unit_allowed (g ∷ list) zero k a zero h = a
unit_allowed (g ∷ list) zero k a (suc m) h = allows_zero (kind_at list m) (cell (replicate (length list) (pos 0)) m) (zeros_entry (length list) m)
unit_allowed (g ∷ list) (suc i) k a zero h = allows_zero g.1 (pos 0) refl
unit_allowed (g ∷ list) (suc i) k a (suc m) h = unit_allowed list i k a m (omega arith)

first_alone : (x y : ℤ) → y ≡ pos 0 → x ≡ x +ℤ y
first_alone x y e = omega (arith, ints, e)

then_rest : (x y z : ℤ) → z ≡ y → z ≡ pos 0 *ℤ x +ℤ y
then_rest x y z e = omega (arith, ints, e)

unit_sum : (list : List Generator) (i : ℕ) (k : ℤ) → i < length list → (j : ℕ) → k *ℤ cell (row_at list i) j ≡ combined (unit (length list) i k) (rows_of list) j
unit_sum [] i k h j = absurd (omega arith)
unit_sum (g ∷ list) zero k h j = first_alone (k *ℤ cell g.0 j) (combined (replicate (length list) (pos 0)) (rows_of list) j) (zeros_sum (length list) (rows_of list) j)
unit_sum (g ∷ list) (suc i) k h j = then_rest (cell g.0 j) (combined (unit (length list) i k) (rows_of list) j) (k *ℤ cell (row_at list i) j) (unit_sum list i k (omega arith) j)

-- ---- sums with no Point asked for
pub record Part (list : List Generator) (v : List ℤ) : Type 0 where
  pub factors : List ℤ
  pub one_each : length factors ≡ length list
  pub allowed : (i : ℕ) → i < length list → AllowsFactor (kind_at list i) (cell factors i)
  pub sum : (j : ℕ) → cell v j ≡ combined factors (rows_of list) j

one_part : (list : List Generator) (i : ℕ) (k : ℤ) → i < length list → AllowsFactor (kind_at list i) k → Part list (scale k (row_at list i))
one_part list i k h a = record {
  factors = unit (length list) i k;
  one_each = unit_length (length list) i k;
  allowed = unit_allowed list i k a;
  sum = λ j. cell-scale k (row_at list i) j ∙ unit_sum list i k h j;
}

times_one : (x y : ℤ) → pos 1 *ℤ x ≡ y → pos 1 *ℤ x ≡ y
times_one x y e = e

point_allows : (kind : GenKind) → kind ≡ Point → (z : ℤ) → AllowsFactor kind z → pos 0 ≤ℤ z
point_allows kind e z a = subst (λ (k : GenKind). AllowsFactor k z) e a

one_allows : (kind : GenKind) → kind ≡ Point → AllowsFactor kind (pos 1)
one_allows kind e = subst (λ (k : GenKind). AllowsFactor k (pos 1)) (sym e) (omega (arith, ints))

-- a Point of the list
pub span_at : (gs : Generators) (i : ℕ) → i < length gs.list → kind_at gs.list i ≡ Point → Span gs (row_at gs.list i)
span_at gs i h e = record {
  times = pos 1;
  positive = omega (arith, ints);
  factors = unit (length gs.list) i (pos 1);
  one_each = unit_length (length gs.list) i (pos 1);
  allowed = unit_allowed gs.list i (pos 1) (one_allows (kind_at gs.list i) e);
  point = record { index = i; within = h; kind = e; positive = subst (λ (z : ℤ). pos 0 <ℤ z) (sym (unit_same (length gs.list) i (pos 1) h)) (omega (arith, ints)) };
  sum = unit_sum gs.list i (pos 1) h;
}

more_sum : (t m u w z x y s : ℤ) → z ≡ m *ℤ u +ℤ w → t *ℤ u ≡ x → w ≡ y → s ≡ m *ℤ x +ℤ t *ℤ y → t *ℤ z ≡ s
more_sum t m u w z x y s e f g h =
    let a = ap (λ (z : ℤ). t *ℤ z) e in
    let b = ap (λ (z : ℤ). m *ℤ z) f in
    let c = ap (λ (z : ℤ). t *ℤ z) g in
    let d : t *ℤ (m *ℤ u +ℤ w) ≡ m *ℤ (t *ℤ u) +ℤ t *ℤ w = simp ring (omega (arith, ints)) in
    omega (arith, ints, a, b, c, d, h)

positive_both : (m t x y z : ℤ) → pos 0 <ℤ m → pos 0 <ℤ t → pos 0 <ℤ x → pos 0 ≤ℤ y → z ≡ m *ℤ x +ℤ t *ℤ y → pos 0 <ℤ z
positive_both m t x y z p q a b e = omega (arith, ints, mul-positive m x p a, mul-at_least_zero t y (omega (arith, ints, q)) b, e)

positive_least : (x : ℤ) → pos 0 <ℤ x → pos 0 ≤ℤ x
positive_least x p = omega (arith, ints, p)

cell_sum : (m : ℤ) (u w : List ℤ) (j : ℕ) → cell (add (scale m u) w) j ≡ m *ℤ cell u j +ℤ cell w j
cell_sum m u w j =
    let e = cell-add (scale m u) w j in
    let f = cell-scale m u j in
    omega (arith, ints, e, f)

both_length : (m t : ℤ) (xs ys : List ℤ) (n : ℕ) → length xs ≡ n → length ys ≡ n → length (add (scale m xs) (scale t ys)) ≡ n
both_length m t xs ys n e f = length-add (scale m xs) (scale t ys) (length-scale m xs ∙ e ∙ sym (length-scale t ys ∙ f)) ∙ (length-scale t ys ∙ f)

-- a spanned vector, multiplied, and a sum added
pub span_more : (gs : Generators) (u w : List ℤ) (m : ℤ) → pos 0 <ℤ m → Span gs u → Part gs.list w → Span gs (add (scale m u) w)
span_more gs u w m p s r = record {
  times = s.times;
  positive = s.positive;
  factors = add (scale m s.factors) (scale s.times r.factors);
  one_each = both_length m s.times s.factors r.factors (length gs.list) s.one_each r.one_each;
  allowed = λ i h. allows_both (kind_at gs.list i) m s.times (cell s.factors i) (cell r.factors i) (cell (add (scale m s.factors) (scale s.times r.factors)) i) (positive_least m p) (positive_least s.times s.positive) (s.allowed i h) (r.allowed i h) (cell-both m s.times s.factors r.factors i);
  point = record {
    index = s.point.index;
    within = s.point.within;
    kind = s.point.kind;
    positive = positive_both m s.times (cell s.factors s.point.index) (cell r.factors s.point.index) (cell (add (scale m s.factors) (scale s.times r.factors)) s.point.index) p s.positive s.point.positive
        (point_allows (kind_at gs.list s.point.index) s.point.kind (cell r.factors s.point.index) (r.allowed s.point.index s.point.within)) (cell-both m s.times s.factors r.factors s.point.index);
  };
  sum = λ j. more_sum s.times m (cell u j) (cell w j) (cell (add (scale m u) w) j) (combined s.factors (rows_of gs.list) j) (combined r.factors (rows_of gs.list) j) (combined (add (scale m s.factors) (scale s.times r.factors)) (rows_of gs.list) j)
      (cell_sum m u w j) (s.sum j) (r.sum j) (combined-both m s.times s.factors r.factors (rows_of gs.list) j);
}

-- ---- generators by kind
pub fits_at : (gs : Generators) → FitDimension gs → (i : ℕ) → i < length gs.list → IsGenerator gs.dim (generator_at gs.list i)
fits_at gs fits i h = All-get_or (IsGenerator gs.dim) gs.list i ([], Line) h fits.each

pub one_or_above : (x : ℤ) → ¬ (x <ℤ pos 1) → pos 0 <ℤ x
one_or_above x g = by (by_sign x)
  where
    by : (pos 0 <ℤ x) ⊎ ((x <ℤ pos 0) ⊎ (x ≡ pos 0)) → pos 0 <ℤ x
    by (inl p) = p
    by (inr (inl n)) = absurd (g (omega (arith, ints, n)))
    by (inr (inr z)) = absurd (g (omega (arith, ints, z)))

not_below_one : (x : ℤ) → ¬ (x <ℤ pos 1) → pos 0 ≤ℤ x
not_below_one x g = omega (arith, ints, one_or_above x g)

-- a line has the divisor 0, and no divisor is negative
least_divisor : (kind : GenKind) (d : ℤ) → ¬ (HasBadDivisor kind d) → pos 0 ≤ℤ d
least_divisor Line d good = by_zero (same_or_not d (pos 0))
  where
    by_zero : (d ≡ pos 0) ⊎ (d ≢ pos 0) → pos 0 ≤ℤ d
    by_zero (inl e) = omega (arith, ints, e)
    by_zero (inr ne) = absurd (good ne)
least_divisor Ray d good = by_zero (same_or_not d (pos 0))
  where
    by_zero : (d ≡ pos 0) ⊎ (d ≢ pos 0) → pos 0 ≤ℤ d
    by_zero (inl e) = omega (arith, ints, e)
    by_zero (inr ne) = absurd (good ne)
least_divisor Point d good = not_below_one d good
least_divisor ClosurePoint d good = not_below_one d good

above_divisor : (kind : GenKind) (d : ℤ) → kind ≡ Point → ¬ (HasBadDivisor kind d) → pos 0 <ℤ d
above_divisor kind d e good = one_or_above d (λ bad. good (subst (λ (k : GenKind). HasBadDivisor k d) (sym e) bad))

moved_divisor : (kind : GenKind) (k d : ℤ) → AllowsFactor kind k → ¬ (HasBadDivisor kind d) → pos 0 ≤ℤ (k *ℤ d)
moved_divisor Line k d a good = by_zero (same_or_not d (pos 0))
  where
    by_zero : (d ≡ pos 0) ⊎ (d ≢ pos 0) → pos 0 ≤ℤ (k *ℤ d)
    by_zero (inl e) = omega (arith, ints, ap (λ (z : ℤ). k *ℤ z) e ∙ mul-zero k)
    by_zero (inr ne) = absurd (good ne)
moved_divisor Ray k d a good = mul-at_least_zero k d a (least_divisor Ray d good)
moved_divisor Point k d a good = mul-at_least_zero k d a (least_divisor Point d good)
moved_divisor ClosurePoint k d a good = mul-at_least_zero k d a (least_divisor ClosurePoint d good)

-- ---- members
pub member_at : (gs : Generators) → FitDimension gs → (i : ℕ) → i < length gs.list → kind_at gs.list i ≡ Point → IsMember gs (row_at gs.list i)
member_at gs fits i h e = record {
  point = record { wide = (fits_at gs fits i h).wide; positive = above_divisor (kind_at gs.list i) (cell (row_at gs.list i) gs.dim) e (fits_at gs fits i h).divisor };
  spanned = span_at gs i h e;
}

-- the point u moved k times along generator i
abbrev pub moved : Generators → List ℤ → ℕ → ℤ → List ℤ
moved gs u i k = add (scale (pos 1) u) (scale k (row_at gs.list i))

pub moved_value : (gs : Generators) (a u : List ℤ) (i : ℕ) (k : ℤ) → dot a (moved gs u i k) ≡ dot a u +ℤ k *ℤ dot a (row_at gs.list i)
moved_value gs a u i k =
    let e = dot-add a (scale (pos 1) u) (scale k (row_at gs.list i)) in
    let f = dot-scale a (pos 1) u in
    let g = dot-scale a k (row_at gs.list i) in
    omega (arith, ints, e, f, g)

sum_above : (x y z : ℤ) → pos 0 <ℤ x → pos 0 ≤ℤ y → z ≡ pos 1 *ℤ x +ℤ y → pos 0 <ℤ z
sum_above x y z p q e = omega (arith, ints, p, q, e)

pub moved_member : (gs : Generators) → FitDimension gs → (u : List ℤ) (i : ℕ) (k : ℤ) → IsMember gs u → i < length gs.list → AllowsFactor (kind_at gs.list i) k → IsMember gs (moved gs u i k)
moved_member gs fits u i k m h a = record {
  point = record {
    wide = both_length (pos 1) k u (row_at gs.list i) (gs.dim + 1) m.point.wide (fits_at gs fits i h).wide;
    positive = sum_above (cell u gs.dim) (k *ℤ cell (row_at gs.list i) gs.dim) (cell (moved gs u i k) gs.dim) m.point.positive
        (moved_divisor (kind_at gs.list i) k (cell (row_at gs.list i) gs.dim) a (fits_at gs fits i h).divisor) (cell-both (pos 1) k u (row_at gs.list i) gs.dim);
  };
  spanned = span_more gs u (scale k (row_at gs.list i)) (pos 1) (omega (arith, ints)) m.spanned (one_part gs.list i k h a);
}

-- ---- sums of two members
member_part : (gs : Generators) (v : List ℤ) (n : ℤ) → pos 0 ≤ℤ n → (s : Span gs v) → Part gs.list (scale (n *ℤ s.times) v)
member_part gs v n p s = record {
  factors = scale n s.factors;
  one_each = length-scale n s.factors ∙ s.one_each;
  allowed = λ i h. allows_times (kind_at gs.list i) (cell s.factors i) (cell (scale n s.factors) i) (s.allowed i h) (cell-scale n s.factors i);
  sum = λ j. cell-scale (n *ℤ s.times) v j ∙ part_sum (cell v j) (combined s.factors (rows_of gs.list) j) (s.sum j) ∙ sym (combined_scale j);
}
  where
    allows_times : (kind : GenKind) (x z : ℤ) → AllowsFactor kind x → z ≡ n *ℤ x → AllowsFactor kind z
    allows_times Line x z a e = tt
    allows_times Ray x z a e = omega (arith, ints, mul-at_least_zero n x p a, e)
    allows_times Point x z a e = omega (arith, ints, mul-at_least_zero n x p a, e)
    allows_times ClosurePoint x z a e = omega (arith, ints, mul-at_least_zero n x p a, e)

    part_sum : (x y : ℤ) → s.times *ℤ x ≡ y → (n *ℤ s.times) *ℤ x ≡ n *ℤ y
    part_sum x y e =
        let f = ap (λ (z : ℤ). n *ℤ z) e in
        let g : (n *ℤ s.times) *ℤ x ≡ n *ℤ (s.times *ℤ x) = simp ring (omega (arith, ints)) in
        g ∙ f

    combined_scale : (j : ℕ) → combined (scale n s.factors) (rows_of gs.list) j ≡ n *ℤ combined s.factors (rows_of gs.list) j
    combined_scale j = by_factors s.factors (rows_of gs.list)
      where
        one_more : (k c x y : ℤ) → y ≡ n *ℤ x → (n *ℤ k) *ℤ c +ℤ y ≡ n *ℤ (k *ℤ c +ℤ x)
        one_more k c x y e = simp ring (omega (arith, ints, e))

        by_factors : (ks : List ℤ) (rows : List (List ℤ)) → combined (scale n ks) rows j ≡ n *ℤ combined ks rows j
        by_factors [] rows = sym (mul-zero n)
        by_factors (k ∷ ks) [] = sym (mul-zero n)
        by_factors (k ∷ ks) (row ∷ rows) = one_more k (cell row j) (combined ks rows j) (combined (scale n ks) rows j) (by_factors ks rows)

-- t*m times the one point and n*t times the other, for a t above 0
pub record Between (gs : Generators) (u v : List ℤ) (m n : ℤ) : Type 0 where
  pub times : ℤ
  pub positive : pos 0 <ℤ times
  pub point : List ℤ
  pub member : IsMember gs point
  pub values : (a : List ℤ) → dot a point ≡ times *ℤ (m *ℤ dot a u +ℤ n *ℤ dot a v)

pub between : (gs : Generators) (u v : List ℤ) (m n : ℤ) → pos 0 <ℤ m → pos 0 ≤ℤ n → IsMember gs u → IsMember gs v → Between gs u v m n
between gs u v m n p q a b = record {
  times = b.spanned.times;
  positive = b.spanned.positive;
  point = add (scale (b.spanned.times *ℤ m) u) (scale (n *ℤ b.spanned.times) v);
  member = record {
    point = record {
      wide = both_length (b.spanned.times *ℤ m) (n *ℤ b.spanned.times) u v (gs.dim + 1) a.point.wide b.point.wide;
      positive = positive_sum b.spanned.times (cell u gs.dim) (cell v gs.dim) (cell (add (scale (b.spanned.times *ℤ m) u) (scale (n *ℤ b.spanned.times) v)) gs.dim) b.spanned.positive a.point.positive b.point.positive
          (cell-both (b.spanned.times *ℤ m) (n *ℤ b.spanned.times) u v gs.dim);
    };
    spanned = span_more gs u (scale (n *ℤ b.spanned.times) v) (b.spanned.times *ℤ m) (mul-positive b.spanned.times m b.spanned.positive p) a.spanned (member_part gs v n q b.spanned);
  };
  values = λ r. both_values b.spanned.times (dot r u) (dot r v) (dot r (add (scale (b.spanned.times *ℤ m) u) (scale (n *ℤ b.spanned.times) v))) (sum_value r);
}
  where
    positive_sum : (t x y z : ℤ) → pos 0 <ℤ t → pos 0 <ℤ x → pos 0 <ℤ y → z ≡ (t *ℤ m) *ℤ x +ℤ (n *ℤ t) *ℤ y → pos 0 <ℤ z
    positive_sum t x y z h k l e =
        omega (arith, ints, mul-positive (t *ℤ m) x (mul-positive t m h p) k, mul-at_least_zero (n *ℤ t) y (mul-at_least_zero n t q (positive_least t h)) (positive_least y l), e)

    both_values : (t x y z : ℤ) → z ≡ (t *ℤ m) *ℤ x +ℤ (n *ℤ t) *ℤ y → z ≡ t *ℤ (m *ℤ x +ℤ n *ℤ y)
    both_values t x y z e = e ∙ simp ring (omega (arith, ints))

    sum_value : (r : List ℤ) → dot r (add (scale (b.spanned.times *ℤ m) u) (scale (n *ℤ b.spanned.times) v)) ≡ (b.spanned.times *ℤ m) *ℤ dot r u +ℤ (n *ℤ b.spanned.times) *ℤ dot r v
    sum_value r =
        let e = dot-add r (scale (b.spanned.times *ℤ m) u) (scale (n *ℤ b.spanned.times) v) in
        let f = dot-scale r (b.spanned.times *ℤ m) u in
        let g = dot-scale r (n *ℤ b.spanned.times) v in
        omega (arith, ints, e, f, g)
