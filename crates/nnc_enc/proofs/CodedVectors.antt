-- What the list of a system of generators codes is spanned.
use Rattle.std.proofs.Common.{◌≡◌, ℕ, ◌+◌, ◌<◌, List, [], ◌∷◌, length, filter, not, slice_index_or, Bool, true, false, ℤ, pos, negsuc, ◌+ℤ◌, ◌*ℤ◌, ◌≤ℤ◌, ◌<ℤ◌, All, refl, sym, ap, ◌∙◌, subst, arith}
use Rattle.std.specs.Prelude.{remove}
use mathlib.Core.Bool.{true≢false}
use Rattle.std.proofs.lemmas.Int.{ints}
use Rattle.std.proofs.lemmas.List.{get_or_default}
use Rattle.std.proofs.lemmas.List.Elements.{All-nil, All-cons, All-head, All-tail, All-append, All-map, All-filter, filter_passes}
use Rattle.row_core.specs.Vectors.{cell, scale}
use Rattle.row_core.specs.Lists.{Row}
use Rattle.cone_laws.specs.Duality.{lines_of, rays_of}
use Rattle.cone_laws.specs.Canon.{vector_at}
use Rattle.cone_laws.proofs.Ring.{mul-positive, mul_assoc}
use Rattle.cone_laws.proofs.Sums.{V, IsLinear, SpansBy}
use Rattle.cone_laws.proofs.Bridge.{In, to_sums}
use Rattle.cone_laws.proofs.Bipolar.{admitted_is_spanned}
use Rattle.cone_laws.proofs.Columns.{cell-scale, length-scale}
use Rattle.gens_sys.specs.Generators.{Generator, Generators, IsGenerator, FitDimension, generator_at, row_at, kind_at}
use Rattle.gens_sys.specs.declared.kind.GenKind.{GenKind}
use Rattle.gens_sys.specs.declared.kind.GenKind.TheVariants.{Line, Ray, Point, ClosurePoint}
use Rattle.nnc_enc.specs.Encoding.{raised, Codes}
use Rattle.nnc_enc.specs.StrongRows.{IsAdmittedVector}
use Rattle.nnc_enc.specs.EncodedGenerators.{encoded_generator, encoded_generators, CodedIsSpanned}
use Rattle.nnc_enc.proofs.MarkedSums.{Marks}
use Rattle.gens_sys.specs.Kinds.{is_line}
use Rattle.nnc_enc.proofs.SpanMarks.{LineOf, OtherOf, PointOf, marks_span}
use Rattle.nnc_enc.proofs.EncodedRows.{remove_insert, length_insert, cell_insert}
use Rattle.nnc_enc.proofs.PositiveParts.{Found, found}
use Rattle.nnc_enc.proofs.Relaxed.{skip, cell-remove, sums_columns}

-- a property of the rows of all generators, from one of the generators
from_each : (dim : ℕ) (P : Row → Type 0) (Q : Generator → Type 0) → ((g : Generator) → Q g → All P (encoded_generator dim g)) → (list : List Generator) → All Q list → All P (encoded_generators dim list)
from_each dim P Q f [] h = All-nil P
from_each dim P Q f (g ∷ list) h =
    All-append P (encoded_generator dim g) (encoded_generators dim list) (f g (All-head Q g list h)) (from_each dim P Q f list (All-tail Q g list h))

module _ (gs : Generators) (fit : FitDimension gs) where
  record IsListed (g : Generator) : Type 0 where
    number : ℕ
    below : number < length gs.list
    same : generator_at gs.list number ≡ g

  -- the vector is that of a generator, with a number in column e; a positive one only over a point
  record IsOf (b : Bool) (v : List ℤ) : Type 0 where
    number : ℕ
    below : number < length gs.list
    mark : is_line (kind_at gs.list number) ≡ b
    height : ℤ
    least : pos 0 ≤ℤ height
    flat : b ≡ true → height ≡ pos 0
    up : pos 0 <ℤ height → kind_at gs.list number ≡ Point
    same : v ≡ raised gs.dim (row_at gs.list number) height

  abbrev Stands : Row → Type 0
  Stands r = (r.1 ≡ true → IsOf true r.0) × (r.1 ≡ false → IsOf false r.0)

  abbrev Wide : Row → Type 0
  Wide r = length r.0 ≡ gs.dim + 2

  listed : All IsListed gs.list
  listed i d h = record { number = i; below = h; same = get_or_default gs.list i ([], Line) d h }

  the_generator : (i : ℕ) → i < length gs.list → IsGenerator gs.dim (generator_at gs.list i)
  the_generator i h = fit.each i ([], Line) h

  no_height : pos 0 <ℤ pos 0 → ⊥
  no_height h = omega (arith, ints, h)

  line_of : (v : List ℤ) (k : GenKind) → is_line k ≡ true → IsListed (v, k) → IsOf true (raised gs.dim v (pos 0))
  line_of v k e l = record {
    number = l.number;
    below = l.below;
    mark = ap (λ (g : Generator). is_line g.1) l.same ∙ e;
    height = pos 0;
    least = omega (arith, ints);
    flat = λ b. refl;
    up = λ h. absurd (no_height h);
    same = ap (λ (g : Generator). raised gs.dim g.0 (pos 0)) (sym l.same);
  }

  other_of : (v : List ℤ) (k : GenKind) → is_line k ≡ false → IsListed (v, k) → IsOf false (raised gs.dim v (pos 0))
  other_of v k e l = record {
    number = l.number;
    below = l.below;
    mark = ap (λ (g : Generator). is_line g.1) l.same ∙ e;
    height = pos 0;
    least = omega (arith, ints);
    flat = λ b. refl;
    up = λ h. absurd (no_height h);
    same = ap (λ (g : Generator). raised gs.dim g.0 (pos 0)) (sym l.same);
  }

  point_least : (d : ℤ) → ¬ (d <ℤ pos 1) → pos 0 ≤ℤ d
  point_least (pos n) h = omega (arith, ints)
  point_least (negsuc n) h = absurd (h (omega (arith, ints)))

  top_of : (v : List ℤ) → IsListed (v, Point) → ¬ (cell v gs.dim <ℤ pos 1) → IsOf false (raised gs.dim v (cell v gs.dim))
  top_of v l w = record {
    number = l.number;
    below = l.below;
    mark = ap (λ (g : Generator). is_line g.1) l.same;
    height = cell v gs.dim;
    least = point_least (cell v gs.dim) w;
    flat = λ b. absurd (true≢false (sym b));
    up = λ h. ap (λ (g : Generator). g.1) l.same;
    same = ap (λ (g : Generator). raised gs.dim g.0 (cell v gs.dim)) (sym l.same);
  }

  as_line : (r : List ℤ) → IsOf true r → Stands (r, true)
  as_line r m = (λ e. m, λ e. absurd (true≢false e))

  as_other : (r : List ℤ) → IsOf false r → Stands (r, false)
  as_other r m = (λ e. absurd (true≢false (sym e)), λ e. m)

  stands : (g : Generator) → IsListed g × IsGenerator gs.dim g → All Stands (encoded_generator gs.dim g)
  stands (v, Line) (l, w) = All-cons Stands (raised gs.dim v (pos 0), true) [] (as_line (raised gs.dim v (pos 0)) (line_of v Line refl l)) (All-nil Stands)
  stands (v, Ray) (l, w) = All-cons Stands (raised gs.dim v (pos 0), false) [] (as_other (raised gs.dim v (pos 0)) (other_of v Ray refl l)) (All-nil Stands)
  stands (v, Point) (l, w) =
      All-cons Stands (raised gs.dim v (cell v gs.dim), false) ((raised gs.dim v (pos 0), false) ∷ []) (as_other (raised gs.dim v (cell v gs.dim)) (top_of v l w.divisor))
      (All-cons Stands (raised gs.dim v (pos 0), false) [] (as_other (raised gs.dim v (pos 0)) (other_of v Point refl l)) (All-nil Stands))
  stands (v, ClosurePoint) (l, w) = All-cons Stands (raised gs.dim v (pos 0), false) [] (as_other (raised gs.dim v (pos 0)) (other_of v ClosurePoint refl l)) (All-nil Stands)

  up_wide : (v : List ℤ) (e : ℤ) → length v ≡ gs.dim + 1 → length (raised gs.dim v e) ≡ gs.dim + 2
  up_wide v e w = length_insert gs.dim v e (omega (arith, w)) ∙ omega (arith, w)

  wide : (g : Generator) → IsGenerator gs.dim g → All Wide (encoded_generator gs.dim g)
  wide (v, Line) w = All-cons Wide (raised gs.dim v (pos 0), true) [] (up_wide v (pos 0) w.wide) (All-nil Wide)
  wide (v, Ray) w = All-cons Wide (raised gs.dim v (pos 0), false) [] (up_wide v (pos 0) w.wide) (All-nil Wide)
  wide (v, Point) w = All-cons Wide (raised gs.dim v (cell v gs.dim), false) ((raised gs.dim v (pos 0), false) ∷ []) (up_wide v (cell v gs.dim) w.wide) (All-cons Wide (raised gs.dim v (pos 0), false) [] (up_wide v (pos 0) w.wide) (All-nil Wide))
  wide (v, ClosurePoint) w = All-cons Wide (raised gs.dim v (pos 0), false) [] (up_wide v (pos 0) w.wide) (All-nil Wide)

  abbrev the_list : List Row
  the_list = encoded_generators gs.dim gs.list

  all_stand : All Stands the_list
  all_stand = from_each gs.dim Stands (λ g. IsListed g × IsGenerator gs.dim g) stands gs.list (λ i d h. (listed i d h, fit.each i d h))

  all_wide : All Wide the_list
  all_wide = from_each gs.dim Wide (IsGenerator gs.dim) wide gs.list fit.each

  not_is : (b : Bool) → not b ≡ true → b ≡ false
  not_is true e = absurd (true≢false (sym e))
  not_is false e = refl

  lines_are : All (IsOf true) (lines_of the_list)
  lines_are = All-map (IsOf true) (λ g. g.0) (filter (λ g. g.1) the_list)
      (λ m d h. (All-filter (λ g. g.1) Stands the_list all_stand m d h).0 (filter_passes (λ g. g.1) the_list m d h))

  rays_are : All (IsOf false) (rays_of the_list)
  rays_are = All-map (IsOf false) (λ g. g.0) (filter (λ g. not g.1) the_list)
      (λ m d h. (All-filter (λ g. not g.1) Stands the_list all_stand m d h).1 (not_is (slice_index_or (filter (λ g. not g.1) the_list) m d).1 (filter_passes (λ g. not g.1) the_list m d h)))

  -- a vector of the list at the columns of a generator
  skipped : (b : Bool) (v : List ℤ) (c : IsOf b v) (j : ℕ) → cell v (skip gs.dim j) ≡ cell (row_at gs.list c.number) j
  skipped b v c j =
      sym (cell-remove gs.dim v j) ∙ ap (λ (u : List ℤ). cell (remove u gs.dim) j) c.same
      ∙ ap (λ (u : List ℤ). cell u j) (remove_insert gs.dim (row_at gs.list c.number) c.height (omega (arith, (the_generator c.number c.below).wide)))

  height_is : (b : Bool) (v : List ℤ) (c : IsOf b v) → cell v gs.dim ≡ c.height
  height_is b v c = ap (λ (u : List ℤ). cell u gs.dim) c.same ∙ cell_insert gs.dim (row_at gs.list c.number) c.height (omega (arith, (the_generator c.number c.below).wide))

  line_at : (l : V) → In (lines_of the_list) l → LineOf gs.list (λ j. l (skip gs.dim j))
  line_at l m = record { index = c.number; is = (c.below, c.mark); same = λ j. m.same (skip gs.dim j) ∙ skipped true (vector_at (lines_of the_list) m.index) c j }
    where
      c : IsOf true (vector_at (lines_of the_list) m.index)
      c = lines_are m.index [] m.is

  ray_at : (l : V) → In (rays_of the_list) l → OtherOf gs.list (λ j. l (skip gs.dim j))
  ray_at l m = record { index = c.number; is = (c.below, c.mark); same = λ j. m.same (skip gs.dim j) ∙ skipped false (vector_at (rays_of the_list) m.index) c j }
    where
      c : IsOf false (vector_at (rays_of the_list) m.index)
      c = rays_are m.index [] m.is

  point_at : (l : V) → In (rays_of the_list) l → pos 0 <ℤ l gs.dim → PointOf gs.list (λ j. l (skip gs.dim j))
  point_at l m p = record { index = c.number; is = (c.below, c.up (subst (λ (z : ℤ). pos 0 <ℤ z) (m.same gs.dim ∙ height_is false (vector_at (rays_of the_list) m.index) c) p)); same = λ j. m.same (skip gs.dim j) ∙ skipped false (vector_at (rays_of the_list) m.index) c j }
    where
      c : IsOf false (vector_at (rays_of the_list) m.index)
      c = rays_are m.index [] m.is

  line_level : (l : V) → In (lines_of the_list) l → l gs.dim ≡ pos 0
  line_level l m = m.same gs.dim ∙ height_is true (vector_at (lines_of the_list) m.index) (lines_are m.index [] m.is) ∙ (lines_are m.index [] m.is).flat refl

  ray_level : (l : V) → In (rays_of the_list) l → pos 0 ≤ℤ l gs.dim
  ray_level l m = subst (λ (z : ℤ). pos 0 ≤ℤ z) (sym (m.same gs.dim ∙ height_is false (vector_at (rays_of the_list) m.index) (rays_are m.index [] m.is))) (rays_are m.index [] m.is).least

  column_linear : (n : ℕ) → IsLinear (λ v. v n)
  column_linear n = record { zero = λ v h. h n; more = λ w u v k h. h n; multiple = λ w u k h. h n }

  module _ (p : List ℤ) (pw : length p ≡ gs.dim + 1) (k : Codes gs.dim (IsAdmittedVector (gs.dim + 2) (encoded_generators gs.dim gs.list)) p) where
    abbrev top : List ℤ
    top = raised gs.dim (scale k.times p) k.height

    scaled_wide : length (scale k.times p) ≡ gs.dim + 1
    scaled_wide = length-scale k.times p ∙ pw

    once_times : (t m x y f u r : ℤ) → y ≡ m *ℤ x → t *ℤ y ≡ f *ℤ u +ℤ r → (t *ℤ m) *ℤ x ≡ f *ℤ u +ℤ r
    once_times t m x y f u r e g = mul_assoc t m x ∙ sym (ap (λ (n : ℤ). t *ℤ n) e) ∙ g

    top_column : (j : ℕ) → cell top (skip gs.dim j) ≡ k.times *ℤ cell p j
    top_column j = sym (cell-remove gs.dim top j) ∙ ap (λ (u : List ℤ). cell u j) (remove_insert gs.dim (scale k.times p) k.height (omega (arith, scaled_wide))) ∙ cell-scale k.times p j

    by_found : (t : ℤ) → pos 0 <ℤ t → Found (In (lines_of the_list)) (In (rays_of the_list)) (λ v. v gs.dim) (λ j. t *ℤ cell top j) → Marks (LineOf gs.list) (OtherOf gs.list) (PointOf gs.list) (cell p)
    by_found t pt f = record {
      times = t *ℤ k.times;
      positive = mul-positive t k.times pt k.positive;
      factor = f.factor;
      above = f.above;
      vector = λ j. f.vector (skip gs.dim j);
      marked = point_at f.vector f.within f.positive;
      rest = λ j. f.rest (skip gs.dim j);
      others = sums_columns (skip gs.dim) line_at ray_at f.rest f.others;
      same = λ j. once_times t k.times (cell p j) (cell top (skip gs.dim j)) f.factor (f.vector (skip gs.dim j)) (f.rest (skip gs.dim j)) (top_column j) (f.same (skip gs.dim j));
    }

    by_span : SpansBy (In (lines_of the_list)) (In (rays_of the_list)) (cell top) → Marks (LineOf gs.list) (OtherOf gs.list) (PointOf gs.list) (cell p)
    by_span s =
        by_found s.times s.positive
        (found (λ v. v gs.dim) (column_linear gs.dim) line_level ray_level (λ j. s.times *ℤ cell top j) s.sums
        (mul-positive s.times (cell top gs.dim) s.positive (subst (λ (z : ℤ). pos 0 <ℤ z) (sym (cell_insert gs.dim (scale k.times p) k.height (omega (arith, scaled_wide)))) k.above)))

    coded_marks : Marks (LineOf gs.list) (OtherOf gs.list) (PointOf gs.list) (cell p)
    coded_marks = by_span (to_sums (lines_of the_list) (rays_of the_list) top (admitted_is_spanned (gs.dim + 2) the_list top all_wide k.member.wide k.member.admits))

pub coded_is_spanned : CodedIsSpanned
coded_is_spanned gs p fit w k = marks_span gs p (coded_marks gs fit p w k)
