-- What a set says of the directions in which it goes on, and of its closure.
use Rattle.std.proofs.Common.{◌≡◌, ◌⊎◌, inl, inr, ℕ, ◌+◌, ◌<◌, List, [], length, map, true, false, ℤ, pos, ◌+ℤ◌, ◌-ℤ◌, ◌*ℤ◌, neg_ℤ, ◌≤ℤ◌, ◌<ℤ◌, refl, sym, ap, ◌∙◌, subst, arith, All}
use Rattle.std.proofs.lemmas.Int.{ints}
use Rattle.std.proofs.lemmas.List.Elements.{All-map, All-get_or}
use Rattle.row_core.specs.Vectors.{cell, dot, add, scale}
use Rattle.row_core.specs.Points.{IsPoint}
use Rattle.row_core.specs.Lists.{Row}
use Rattle.row_core.proofs.Ring.{ring, mul-at_least_zero, by_sign, at_least_zero_or_not}
use Rattle.cone_laws.specs.Cones.{Upto, Spans}
use Rattle.cone_laws.specs.Duality.{lines_of, rays_of}
use Rattle.cone_laws.proofs.Sums.{V, Sums, SpansBy, sums_scale, spans_more}
use Rattle.cone_laws.proofs.Columns.{cell-scale, cell-add, length-scale, length-add, dot-add, dot-scale}
use Rattle.cone_laws.proofs.Bipolar.{admitted_is_spanned, spanned_is_admitted}
use Rattle.cone_laws.proofs.Bridge.{to_sums}
use Rattle.gens_sys.specs.Generators.{Generator, Generators, generator_at, row_at, kind_at, IsGenerator}
use Rattle.gens_sys.specs.Spans.{Span}
use Rattle.gens_sys.specs.Kinds.{HasBadDivisor, is_line}
use Rattle.gens_sys.specs.declared.kind.GenKind.{GenKind}
use Rattle.gens_sys.specs.declared.kind.GenKind.TheVariants.{Line, Ray, Point, ClosurePoint}
use Rattle.stored_systems.specs.WorkLists.{generator_row, generator_list}
use Rattle.stored_systems.proofs.ClosedGenerators.{zero_divisor, spans_generated}
use Rattle.nnc_enc.specs.EncodedGenerators.{HasPoint}
use Rattle.nnc_enc.proofs.MarkedSums.{Marks}
use Rattle.nnc_enc.proofs.SpanMarks.{LineOf, OtherOf, PointOf, marks_span}
use Rattle.set_laws.specs.JoinedSets.{AreOfSet, GenerateSame}
use Rattle.set_laws.proofs.ListedVectors.{line_listed, ray_listed}

-- ---- a line in the plane that stays above 0
at_bound : (x y : ℤ) → x <ℤ pos 0 → pos 0 ≤ℤ y → ((y +ℤ pos 1) *ℤ x +ℤ y) <ℤ pos 0
at_bound x y h p =
    let t : pos 0 ≤ℤ ((y +ℤ pos 1) *ℤ (neg_ℤ x -ℤ pos 1)) = mul-at_least_zero (y +ℤ pos 1) (neg_ℤ x -ℤ pos 1) (omega (arith, ints, p)) (omega (arith, ints, h)) in
    let e : (y +ℤ pos 1) *ℤ (neg_ℤ x -ℤ pos 1) ≡ neg_ℤ ((y +ℤ pos 1) *ℤ x) -ℤ (y +ℤ pos 1) = simp ring (omega (arith, ints)) in
    omega (arith, ints, t, e)

-- where all sums of multiples of x and y are at least 0, x is
pub slope_least : (x y : ℤ) → ((k : ℤ) → pos 0 ≤ℤ k → pos 0 ≤ℤ (k *ℤ x +ℤ y)) → pos 0 ≤ℤ x
slope_least x y h = by_sign_of (at_least_zero_or_not x)
  where
    start : pos 0 ≤ℤ y
    start = let t = h (pos 0) (omega (arith, ints)) in omega (arith, ints, t)

    by_sign_of : (pos 0 ≤ℤ x) ⊎ (x <ℤ pos 0) → pos 0 ≤ℤ x
    by_sign_of (inl p) = p
    by_sign_of (inr p) =
        let t = h (y +ℤ pos 1) (omega (arith, ints, start)) in
        let u = at_bound x y p start in
        absurd (omega (arith, ints, t, u))

above_sum : (s k x y : ℤ) → s ≡ k *ℤ x +ℤ y → pos 0 ≤ℤ k → pos 0 ≤ℤ x → pos 0 <ℤ y → pos 0 <ℤ s
above_sum s k x y e p q r = let t = mul-at_least_zero k x p q in omega (arith, ints, e, t, r)

-- ---- the last entry of a generator
at_least_one : (z : ℤ) → ¬ (z <ℤ pos 1) → pos 0 <ℤ z
at_least_one z h = by_case (by_sign z)
  where
    by_case : (pos 0 <ℤ z) ⊎ ((z <ℤ pos 0) ⊎ (z ≡ pos 0)) → pos 0 <ℤ z
    by_case (inl p) = p
    by_case (inr (inl p)) = absurd (h (omega (arith, ints)))
    by_case (inr (inr p)) = absurd (h (omega (arith, ints, p)))

pub point_above : (dim : ℕ) (g : Generator) → g.1 ≡ Point → IsGenerator dim g → pos 0 <ℤ cell g.0 dim
point_above dim g e fits = at_least_one (cell g.0 dim) (subst (λ (k : GenKind). ¬ (HasBadDivisor k (cell g.0 dim))) e fits.divisor)

pub line_level : (dim : ℕ) (g : Generator) → is_line g.1 ≡ true → IsGenerator dim g → cell g.0 dim ≡ pos 0
line_level dim (v, Line) e fits = zero_divisor (cell v dim) fits.divisor
line_level dim (v, Ray) e fits = cc
line_level dim (v, Point) e fits = cc
line_level dim (v, ClosurePoint) e fits = cc

weak : (z : ℤ) → pos 0 <ℤ z → pos 0 ≤ℤ z
weak z h = omega (arith, ints, h)

zero_least : (z : ℤ) → z ≡ pos 0 → pos 0 ≤ℤ z
zero_least z e = omega (arith, ints, e)

pub other_least : (dim : ℕ) (g : Generator) → is_line g.1 ≡ false → IsGenerator dim g → pos 0 ≤ℤ cell g.0 dim
other_least dim (v, Line) e fits = cc
other_least dim (v, Ray) e fits = zero_least (cell v dim) (zero_divisor (cell v dim) fits.divisor)
other_least dim (v, Point) e fits = weak (cell v dim) (at_least_one (cell v dim) fits.divisor)
other_least dim (v, ClosurePoint) e fits = weak (cell v dim) (at_least_one (cell v dim) fits.divisor)

-- ---- what the points of a set show
module _ (gs hs : Generators) (first : AreOfSet gs) (second : AreOfSet hs) (same_dim : gs.dim ≡ hs.dim) (same : GenerateSame gs hs) (point : HasPoint gs.list) where
  abbrev own : List ℤ
  own = row_at gs.list point.number

  own_fits : IsGenerator gs.dim (generator_at gs.list point.number)
  own_fits = All-get_or (IsGenerator gs.dim) gs.list point.number ([], Line) point.below first.fit.each

  own_positive : pos 0 <ℤ cell own gs.dim
  own_positive = point_above gs.dim (generator_at gs.list point.number) point.kind own_fits

  -- so many times the vector behind the point
  abbrev further : ℤ → List ℤ → List ℤ
  further k w = add (scale k w) own

  module _ (w : List ℤ) (wide : length w ≡ gs.dim + 1) (least : pos 0 ≤ℤ cell w gs.dim) (sums : Sums (LineOf gs.list) (OtherOf gs.list) (cell w)) where
    further_cell : (k : ℤ) (j : ℕ) → cell (further k w) j ≡ k *ℤ cell w j +ℤ cell own j
    further_cell k j = cell-add (scale k w) own j ∙ ap (λ (z : ℤ). z +ℤ cell own j) (cell-scale k w j)

    further_point : (k : ℤ) → pos 0 ≤ℤ k → IsPoint gs.dim (further k w)
    further_point k h = record {
      wide = length-add (scale k w) own (length-scale k w ∙ wide ∙ sym own_fits.wide) ∙ own_fits.wide;
      positive = above_sum (cell (further k w) gs.dim) k (cell w gs.dim) (cell own gs.dim) (further_cell k gs.dim) h least own_positive;
    }

    further_generated : (k : ℤ) → pos 0 ≤ℤ k → Span gs (further k w)
    further_generated k h = marks_span gs (further k w) (record {
      times = pos 1;
      positive = omega (arith, ints);
      factor = pos 1;
      above = omega (arith, ints);
      vector = cell own;
      marked = record { index = point.number; is = (point.below, point.kind); same = λ j. refl };
      rest = λ j. k *ℤ cell w j;
      others = sums_scale k (cell w) (λ j. k *ℤ cell w j) h sums (λ j. refl);
      same = λ j. once (cell (further k w) j) (k *ℤ cell w j) (cell own j) (further_cell k j);
    })
      where
        once : (s x y : ℤ) → s ≡ x +ℤ y → pos 1 *ℤ s ≡ pos 1 *ℤ y +ℤ x
        once s x y e = omega (arith, ints, e)

    further_value : (a : List ℤ) (k : ℤ) → dot a (further k w) ≡ k *ℤ dot a w +ℤ dot a own
    further_value a k = dot-add a (scale k w) own ∙ ap (λ (z : ℤ). z +ℤ dot a own) (dot-scale a k w)

    -- a row that the other generators admit is at least 0 on the vector
    admitted : (a : List ℤ) → Upto (hs.dim + 1) (generator_list hs) (length (generator_list hs)) a → pos 0 ≤ℤ dot a w
    admitted a u =
        slope_least (dot a w) (dot a own)
        (λ k h. subst (λ (z : ℤ). pos 0 ≤ℤ z) (further_value a k)
        (spanned_is_admitted (hs.dim + 1) (generator_list hs) (further k w) (spans_generated hs (further k w) ((same (further k w) (further_point k h)).0 (further_generated k h))) a u))

    -- what the lines and other vectors of the one span, those of the other span too
    pub spanned_by_other : SpansBy (LineOf hs.list) (OtherOf hs.list) (cell w)
    spanned_by_other =
        spans_more (line_listed hs.list) (ray_listed hs.list) (cell w)
        (to_sums (lines_of (generator_list hs)) (rays_of (generator_list hs)) w
        (admitted_is_spanned (hs.dim + 1) (generator_list hs) w
        (All-map (λ (x : Row). length x.0 ≡ hs.dim + 1) generator_row hs.list (λ i d h. (second.fit.each i d h).wide))
        (wide ∙ ap (λ (n : ℕ). n + 1) same_dim) admitted))
