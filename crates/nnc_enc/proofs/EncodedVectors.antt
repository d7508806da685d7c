-- What the list of a system of generators codes.
use Rattle.std.proofs.Common.{◌≡◌, ◌≢◌, ◌⊎◌, inl, inr, ℕ, suc, ◌+◌, ◌<◌, List, [], ◌∷◌, ◌++◌, length, slice_index_or, Bool, true, false, ℤ, pos, ◌+ℤ◌, ◌*ℤ◌, neg_ℤ, ◌≤ℤ◌, ◌<ℤ◌, All, refl, sym, ap, ◌∙◌, subst, arith}
use mathlib.Core.Bool.{true≢false}
use Rattle.std.proofs.lemmas.Int.{ints}
use Rattle.std.proofs.lemmas.List.Elements.{All-nil, All-cons, All-head, All-tail, All-append}
use Rattle.row_core.specs.Vectors.{cell, dot, scale}
use Rattle.row_core.specs.Lists.{Row}
use Rattle.cone_laws.specs.Cones.{Meets, Upto}
use Rattle.cone_laws.proofs.Ring.{ring, mul-positive, mul-at_least_zero, same_or_not, at_least_zero_or_not}
use Rattle.cone_laws.proofs.Sums.{same_value, sums_at_least_zero}
use Rattle.cone_laws.proofs.Columns.{value, value_linear, dot_is, dot_comm, dot-scale, length-scale}
use Rattle.gens_sys.specs.Generators.{Generator, Generators, IsGenerator, FitDimension, generator_at, row_at}
use Rattle.gens_sys.specs.declared.kind.GenKind.{GenKind}
use Rattle.gens_sys.specs.declared.kind.GenKind.TheVariants.{Line, Ray, Point, ClosurePoint}
use Rattle.nnc_enc.specs.Encoding.{raised, lowered, height_row, bound_row, Codes, IsEncodedDual}
use Rattle.nnc_enc.specs.StrongRows.{IsAdmittedVector}
use Rattle.nnc_enc.specs.EncodedGenerators.{encoded_generator, encoded_generators, HasPoint, GeneratorsEncode, SpannedIsCoded}
use Rattle.nnc_enc.proofs.MarkedSums.{Marks}
use Rattle.gens_sys.specs.Kinds.{is_line}
use Rattle.nnc_enc.proofs.SpanMarks.{LineOf, OtherOf, PointOf, span_marks}
use Rattle.nnc_enc.proofs.EncodedRows.{dot_by_height, remove_insert, length_insert, cell_insert}
use Rattle.nnc_enc.proofs.EncodedDuals.{height_at, bound_at, last_at, value_flat, flat_width, height_width, bound_width}

-- ---- the rows of all generators, by each of them
abbrev MeetsOf : ℕ → List ℤ → Generator → Type 0
MeetsOf dim a g = All (Meets a) (encoded_generator dim g)

all_left : (P : Row → Type 0) (xs ys : List Row) → All P (xs ++ ys) → All P xs
all_left P [] ys a = All-nil P
all_left P (x ∷ xs) ys a = All-cons P x xs (All-head P x (xs ++ ys) a) (all_left P xs ys (All-tail P x (xs ++ ys) a))

all_right : (P : Row → Type 0) (xs ys : List Row) → All P (xs ++ ys) → All P ys
all_right P [] ys a = a
all_right P (x ∷ xs) ys a = all_right P xs ys (All-tail P x (xs ++ ys) a)

each_meets : (dim : ℕ) (a : List ℤ) (list : List Generator) → All (Meets a) (encoded_generators dim list) → All (MeetsOf dim a) list
each_meets dim a [] h = All-nil (MeetsOf dim a)
each_meets dim a (g ∷ list) h =
    All-cons (MeetsOf dim a) g list (all_left (Meets a) (encoded_generator dim g) (encoded_generators dim list) h) (each_meets dim a list (all_right (Meets a) (encoded_generator dim g) (encoded_generators dim list) h))

meets_each : (dim : ℕ) (a : List ℤ) (list : List Generator) → All (MeetsOf dim a) list → All (Meets a) (encoded_generators dim list)
meets_each dim a [] h = All-nil (Meets a)
meets_each dim a (g ∷ list) h =
    All-append (Meets a) (encoded_generator dim g) (encoded_generators dim list) (All-head (MeetsOf dim a) g list h) (meets_each dim a list (All-tail (MeetsOf dim a) g list h))

-- from one property of all generators and another row to a row
all_by : (dim : ℕ) (P Q : Generator → Type 0) → ((g : Generator) → IsGenerator dim g → P g → Q g) → (list : List Generator) → All (IsGenerator dim) list → All P list → All Q list
all_by dim P Q f list w h i d l = f (slice_index_or list i d) (w i d l) (h i d l)

-- ---- the divisor
divisor_zero : (d : ℤ) → ¬ (¬ (d ≡ pos 0)) → d ≡ pos 0
divisor_zero d n = by_same (same_or_not d (pos 0))
  where
    by_same : (d ≡ pos 0) ⊎ (d ≢ pos 0) → d ≡ pos 0
    by_same (inl e) = e
    by_same (inr ne) = absurd (n ne)

divisor_one : (d : ℤ) → ¬ (d <ℤ pos 1) → pos 0 <ℤ d
divisor_one d n = by_order (at_least_zero_or_not (d +ℤ neg_ℤ (pos 1)))
  where
    by_order : (pos 0 ≤ℤ (d +ℤ neg_ℤ (pos 1))) ⊎ ((d +ℤ neg_ℤ (pos 1)) <ℤ pos 0) → pos 0 <ℤ d
    by_order (inl h) = omega (arith, ints, h)
    by_order (inr h) = absurd (n (omega (arith, ints, h)))

-- ---- one generator
module _ (dim : ℕ) (v : List ℤ) (w : length v ≡ dim + 1) where
  up_width : (e : ℤ) → length (raised dim v e) ≡ dim + 2
  up_width e = length_insert dim v e (omega (arith, w)) ∙ omega (arith, w)

  up_height : (e : ℤ) → dot (raised dim v e) (height_row dim).0 ≡ e
  up_height e = height_at dim (raised dim v e) (up_width e) ∙ cell_insert dim v e (omega (arith, w))

  up_bound : (e : ℤ) → dot (raised dim v e) (bound_row dim).0 ≡ cell v dim +ℤ neg_ℤ e
  up_bound e =
      bound_at dim (raised dim v e) (up_width e)
      ∙ ap (λ (z : ℤ). z +ℤ neg_ℤ (cell (raised dim v e) dim)) (last_at dim (raised dim v e) (up_width e) ∙ ap (λ (u : List ℤ). cell u dim) (remove_insert dim v e (omega (arith, w))))
      ∙ ap (λ (z : ℤ). cell v dim +ℤ neg_ℤ z) (cell_insert dim v e (omega (arith, w)))

  -- a row without column e on the vector
  up_flat : (e : ℤ) (a : List ℤ) → length a ≡ dim + 2 → dot (raised dim v e) (raised dim (lowered dim a) (pos 0)) ≡ dot v (lowered dim a)
  up_flat e a x = value_flat dim (raised dim v e) a (up_width e) x ∙ ap (λ (u : List ℤ). dot u (lowered dim a)) (remove_insert dim v e (omega (arith, w)))

  up_value : (e : ℤ) (a : List ℤ) → length a ≡ dim + 2 → dot (raised dim v e) a ≡ dot v (lowered dim a) +ℤ e *ℤ cell a dim
  up_value e a x =
      dot_by_height dim (raised dim v e) a (omega (arith, up_width e)) (omega (arith, x))
      ∙ ap (λ (u : List ℤ). dot u (lowered dim a) +ℤ cell (raised dim v e) dim *ℤ cell a dim) (remove_insert dim v e (omega (arith, w)))
      ∙ ap (λ (z : ℤ). dot v (lowered dim a) +ℤ z *ℤ cell a dim) (cell_insert dim v e (omega (arith, w)))

  no_term : (x y c : ℤ) → x ≡ y +ℤ pos 0 *ℤ c → x ≡ y
  no_term x y c e = omega (arith, ints, e)

  low_value : (a : List ℤ) → length a ≡ dim + 2 → dot (raised dim v (pos 0)) a ≡ dot v (lowered dim a)
  low_value a x = no_term (dot (raised dim v (pos 0)) a) (dot v (lowered dim a)) (cell a dim) (up_value (pos 0) a x)

abbrev AtLeast : ℤ → Type 0
AtLeast x = pos 0 ≤ℤ x

one_row : (a : List ℤ) (r : Row) → Meets a r → All (Meets a) (r ∷ [])
one_row a r m = All-cons (Meets a) r [] m (All-nil (Meets a))

two_rows : (a : List ℤ) (r s : Row) → Meets a r → Meets a s → All (Meets a) (r ∷ s ∷ [])
two_rows a r s m n = All-cons (Meets a) r (s ∷ []) m (one_row a s n)

least_of_zero : (x : ℤ) → x ≡ pos 0 → pos 0 ≤ℤ x
least_of_zero x e = omega (arith, ints, e)

least_of_positive : (x y : ℤ) → x ≡ y → pos 0 <ℤ y → pos 0 ≤ℤ x
least_of_positive x y e h = omega (arith, ints, e, h)

zero_bound : (x d : ℤ) → x ≡ d +ℤ neg_ℤ (pos 0) → d ≡ pos 0 → x ≡ pos 0
zero_bound x d e f = omega (arith, ints, e, f)

least_bound : (x d : ℤ) → x ≡ d +ℤ neg_ℤ (pos 0) → pos 0 <ℤ d → pos 0 ≤ℤ x
least_bound x d e f = omega (arith, ints, e, f)

own_bound : (x d : ℤ) → x ≡ d +ℤ neg_ℤ d → pos 0 ≤ℤ x
own_bound x d e = omega (arith, ints, e)

height_met : (dim : ℕ) (g : Generator) → IsGenerator dim g → MeetsOf dim (height_row dim).0 g
height_met dim (v, Line) w = one_row (height_row dim).0 (raised dim v (pos 0), true) (up_height dim v w.wide (pos 0))
height_met dim (v, Ray) w = one_row (height_row dim).0 (raised dim v (pos 0), false) (least_of_zero (dot (raised dim v (pos 0)) (height_row dim).0) (up_height dim v w.wide (pos 0)))
height_met dim (v, Point) w = two_rows (height_row dim).0 (raised dim v (cell v dim), false) (raised dim v (pos 0), false)
    (least_of_positive (dot (raised dim v (cell v dim)) (height_row dim).0) (cell v dim) (up_height dim v w.wide (cell v dim)) (divisor_one (cell v dim) w.divisor))
    (least_of_zero (dot (raised dim v (pos 0)) (height_row dim).0) (up_height dim v w.wide (pos 0)))
height_met dim (v, ClosurePoint) w = one_row (height_row dim).0 (raised dim v (pos 0), false) (least_of_zero (dot (raised dim v (pos 0)) (height_row dim).0) (up_height dim v w.wide (pos 0)))

bound_met : (dim : ℕ) (g : Generator) → IsGenerator dim g → MeetsOf dim (bound_row dim).0 g
bound_met dim (v, Line) w = one_row (bound_row dim).0 (raised dim v (pos 0), true) (zero_bound (dot (raised dim v (pos 0)) (bound_row dim).0) (cell v dim) (up_bound dim v w.wide (pos 0)) (divisor_zero (cell v dim) w.divisor))
bound_met dim (v, Ray) w = one_row (bound_row dim).0 (raised dim v (pos 0), false) (least_of_zero (dot (raised dim v (pos 0)) (bound_row dim).0) (zero_bound (dot (raised dim v (pos 0)) (bound_row dim).0) (cell v dim) (up_bound dim v w.wide (pos 0)) (divisor_zero (cell v dim) w.divisor)))
bound_met dim (v, Point) w = two_rows (bound_row dim).0 (raised dim v (cell v dim), false) (raised dim v (pos 0), false)
    (own_bound (dot (raised dim v (cell v dim)) (bound_row dim).0) (cell v dim) (up_bound dim v w.wide (cell v dim)))
    (least_bound (dot (raised dim v (pos 0)) (bound_row dim).0) (cell v dim) (up_bound dim v w.wide (pos 0)) (divisor_one (cell v dim) w.divisor))
bound_met dim (v, ClosurePoint) w = one_row (bound_row dim).0 (raised dim v (pos 0), false) (least_bound (dot (raised dim v (pos 0)) (bound_row dim).0) (cell v dim) (up_bound dim v w.wide (pos 0)) (divisor_one (cell v dim) w.divisor))

-- the value without column e of a row that is met
low_least : (dim : ℕ) (a v : List ℤ) → length v ≡ dim + 1 → length a ≡ dim + 2 → pos 0 ≤ℤ dot (raised dim v (pos 0)) a → pos 0 ≤ℤ dot v (lowered dim a)
low_least dim a v w x h = subst (λ (z : ℤ). pos 0 ≤ℤ z) (low_value dim v w a x) h

flat_met : (dim : ℕ) (a : List ℤ) → length a ≡ dim + 2 → (g : Generator) → IsGenerator dim g → MeetsOf dim a g → MeetsOf dim (raised dim (lowered dim a) (pos 0)) g
flat_met dim a x (v, Line) w m = one_row (raised dim (lowered dim a) (pos 0)) (raised dim v (pos 0), true)
    (up_flat dim v w.wide (pos 0) a x ∙ sym (low_value dim v w.wide a x) ∙ All-head (Meets a) (raised dim v (pos 0), true) [] m)
flat_met dim a x (v, Ray) w m = one_row (raised dim (lowered dim a) (pos 0)) (raised dim v (pos 0), false)
    (subst (λ (z : ℤ). pos 0 ≤ℤ z) (low_value dim v w.wide a x ∙ sym (up_flat dim v w.wide (pos 0) a x)) (All-head (Meets a) (raised dim v (pos 0), false) [] m))
flat_met dim a x (v, Point) w m = two_rows (raised dim (lowered dim a) (pos 0)) (raised dim v (cell v dim), false) (raised dim v (pos 0), false)
    (subst (λ (z : ℤ). pos 0 ≤ℤ z) (low_value dim v w.wide a x ∙ sym (up_flat dim v w.wide (cell v dim) a x)) (All-head (Meets a) (raised dim v (pos 0), false) [] (All-tail (Meets a) (raised dim v (cell v dim), false) ((raised dim v (pos 0), false) ∷ []) m)))
    (subst (λ (z : ℤ). pos 0 ≤ℤ z) (low_value dim v w.wide a x ∙ sym (up_flat dim v w.wide (pos 0) a x)) (All-head (Meets a) (raised dim v (pos 0), false) [] (All-tail (Meets a) (raised dim v (cell v dim), false) ((raised dim v (pos 0), false) ∷ []) m)))
flat_met dim a x (v, ClosurePoint) w m = one_row (raised dim (lowered dim a) (pos 0)) (raised dim v (pos 0), false)
    (subst (λ (z : ℤ). pos 0 ≤ℤ z) (low_value dim v w.wide a x ∙ sym (up_flat dim v w.wide (pos 0) a x)) (All-head (Meets a) (raised dim v (pos 0), false) [] m))

-- what a row that is met says of a generator of a kind
point_met : (dim : ℕ) (a : List ℤ) (g : Generator) → g.1 ≡ Point → MeetsOf dim a g → pos 0 ≤ℤ dot (raised dim g.0 (cell g.0 dim)) a
point_met dim a (v, k) e m = All-head (Meets a) (raised dim v (cell v dim), false) ((raised dim v (pos 0), false) ∷ []) (subst (λ (j : GenKind). MeetsOf dim a (v, j)) e m)

line_met : (dim : ℕ) (a : List ℤ) (g : Generator) → length a ≡ dim + 2 → IsGenerator dim g → is_line g.1 ≡ true → MeetsOf dim a g → dot g.0 (lowered dim a) ≡ pos 0
line_met dim a (v, Line) x w e m = sym (low_value dim v w.wide a x) ∙ All-head (Meets a) (raised dim v (pos 0), true) [] m
line_met dim a (v, Ray) x w e m = absurd (true≢false (sym e))
line_met dim a (v, Point) x w e m = absurd (true≢false (sym e))
line_met dim a (v, ClosurePoint) x w e m = absurd (true≢false (sym e))

other_met : (dim : ℕ) (a : List ℤ) (g : Generator) → length a ≡ dim + 2 → IsGenerator dim g → is_line g.1 ≡ false → MeetsOf dim a g → pos 0 ≤ℤ dot g.0 (lowered dim a)
other_met dim a (v, Line) x w e m = absurd (true≢false e)
other_met dim a (v, Ray) x w e m = low_least dim a v w.wide x (All-head (Meets a) (raised dim v (pos 0), false) [] m)
other_met dim a (v, Point) x w e m = low_least dim a v w.wide x (All-head (Meets a) (raised dim v (pos 0), false) [] (All-tail (Meets a) (raised dim v (cell v dim), false) ((raised dim v (pos 0), false) ∷ []) m))
other_met dim a (v, ClosurePoint) x w e m = low_least dim a v w.wide x (All-head (Meets a) (raised dim v (pos 0), false) [] m)

abbrev is_ray : GenKind → Bool
is_ray Line = false
is_ray Ray = true
is_ray Point = false
is_ray ClosurePoint = false

-- ---- all generators
module _ (gs : Generators) (fit : FitDimension gs) where
  abbrev D : List ℤ → Type 0
  D = Upto (gs.dim + 2) (encoded_generators gs.dim gs.list) (length (encoded_generators gs.dim gs.list))

  met : (a : List ℤ) → D a → All (MeetsOf gs.dim a) gs.list
  met a u = each_meets gs.dim a gs.list (λ k d h. u.meets k d (omega arith) h)

  in_dual : (a : List ℤ) → length a ≡ gs.dim + 2 → All (MeetsOf gs.dim a) gs.list → D a
  in_dual a w m = record { wide = w; meets = λ k d low high. meets_each gs.dim a gs.list m k d high }

  the_generator : (i : ℕ) → i < length gs.list → IsGenerator gs.dim (generator_at gs.list i)
  the_generator i h = fit.each i ([], Line) h

  point_divisor : (g : Generator) → IsGenerator gs.dim g → g.1 ≡ Point → pos 0 <ℤ cell g.0 gs.dim
  point_divisor (v, Line) w e = absurd (true≢false (ap is_line e))
  point_divisor (v, Ray) w e = absurd (true≢false (ap is_ray e))
  point_divisor (v, Point) w e = divisor_one (cell v gs.dim) w.divisor
  point_divisor (v, ClosurePoint) w e = divisor_one (cell v gs.dim) w.divisor

  encoded_dual : HasPoint gs.list → IsEncodedDual gs.dim D
  encoded_dual h = record {
    flat = λ a u. in_dual (raised gs.dim (lowered gs.dim a) (pos 0)) (flat_width gs.dim a u.wide) (all_by gs.dim (MeetsOf gs.dim a) (MeetsOf gs.dim (raised gs.dim (lowered gs.dim a) (pos 0))) (flat_met gs.dim a u.wide) gs.list fit.each (met a u));
    height = in_dual (height_row gs.dim).0 (height_width gs.dim) (λ i d l. height_met gs.dim (slice_index_or gs.list i d) (fit.each i d l));
    bound = in_dual (bound_row gs.dim).0 (bound_width gs.dim) (λ i d l. bound_met gs.dim (slice_index_or gs.list i d) (fit.each i d l));
    vector = raised gs.dim (row_at gs.list h.number) (cell (row_at gs.list h.number) gs.dim);
    wide = up_width gs.dim (row_at gs.list h.number) w.wide (cell (row_at gs.list h.number) gs.dim);
    above = subst (λ (z : ℤ). pos 0 <ℤ z) (sym (cell_insert gs.dim (row_at gs.list h.number) (cell (row_at gs.list h.number) gs.dim) (omega (arith, w.wide)))) (point_divisor (generator_at gs.list h.number) w h.kind);
    least = λ a u. subst (λ (z : ℤ). pos 0 ≤ℤ z) (dot_comm (raised gs.dim (row_at gs.list h.number) (cell (row_at gs.list h.number) gs.dim)) a) (point_met gs.dim a (generator_at gs.list h.number) h.kind (met a u h.number ([], Line) h.below));
  }
    where
      w : IsGenerator gs.dim (generator_at gs.list h.number)
      w = the_generator h.number h.below

  -- ---- what is spanned is coded
  module _ (p : List ℤ) (pw : length p ≡ gs.dim + 1) (s : Marks (LineOf gs.list) (OtherOf gs.list) (PointOf gs.list) (cell p)) where
    abbrev top : List ℤ
    top = row_at gs.list s.marked.index

    top_is : IsGenerator gs.dim (generator_at gs.list s.marked.index)
    top_is = the_generator s.marked.index s.marked.is.0

    top_divisor : pos 0 <ℤ cell top gs.dim
    top_divisor = point_divisor (generator_at gs.list s.marked.index) top_is s.marked.is.1

    scaled_wide : length (scale s.times p) ≡ gs.dim + 1
    scaled_wide = length-scale s.times p ∙ pw

    sum_value : (x f u r c h : ℤ) → x ≡ (f *ℤ u +ℤ r) +ℤ c *ℤ (f *ℤ h) → x ≡ f *ℤ (u +ℤ h *ℤ c) +ℤ r
    sum_value x f u r c h e = e ∙ simp ring (omega (arith, ints))

    sum_least : (x f u r : ℤ) → x ≡ f *ℤ u +ℤ r → pos 0 <ℤ f → pos 0 ≤ℤ u → pos 0 ≤ℤ r → pos 0 ≤ℤ x
    sum_least x f u r e p q z = let t = mul-at_least_zero f u (omega (arith, ints, p)) q in omega (arith, ints, e, t, z)

    row_value : (a v : List ℤ) → value (lowered gs.dim a) (cell v) ≡ dot v (lowered gs.dim a)
    row_value a v = sym (dot_is (lowered gs.dim a) v) ∙ dot_comm (lowered gs.dim a) v

    rest_least : (a : List ℤ) → D a → pos 0 ≤ℤ value (lowered gs.dim a) s.rest
    rest_least a u =
        sums_at_least_zero (value (lowered gs.dim a)) (value_linear (lowered gs.dim a))
        (λ l m. same_value (value (lowered gs.dim a)) (value_linear (lowered gs.dim a)) l (cell (row_at gs.list m.index)) m.same ∙ row_value a (row_at gs.list m.index) ∙ line_met gs.dim a (generator_at gs.list m.index) u.wide (the_generator m.index m.is.0) m.is.1 (met a u m.index ([], Line) m.is.0))
        (λ l m. subst (λ (z : ℤ). pos 0 ≤ℤ z) (sym (same_value (value (lowered gs.dim a)) (value_linear (lowered gs.dim a)) l (cell (row_at gs.list m.index)) m.same ∙ row_value a (row_at gs.list m.index))) (other_met gs.dim a (generator_at gs.list m.index) u.wide (the_generator m.index m.is.0) m.is.1 (met a u m.index ([], Line) m.is.0)))
        s.rest s.others

    value_of_sum : (a : List ℤ) → s.times *ℤ dot (lowered gs.dim a) p ≡ s.factor *ℤ dot top (lowered gs.dim a) +ℤ value (lowered gs.dim a) s.rest
    value_of_sum a =
        ap (λ (z : ℤ). s.times *ℤ z) (dot_is (lowered gs.dim a) p)
        ∙ sym ((value_linear (lowered gs.dim a)).multiple (λ j. s.times *ℤ cell p j) (cell p) s.times (λ j. refl))
        ∙ (value_linear (lowered gs.dim a)).more (λ j. s.times *ℤ cell p j) s.vector s.rest s.factor s.same
        ∙ ap (λ (z : ℤ). s.factor *ℤ z +ℤ value (lowered gs.dim a) s.rest) (same_value (value (lowered gs.dim a)) (value_linear (lowered gs.dim a)) s.vector (cell top) s.marked.same ∙ row_value a top)

    admitted : (a : List ℤ) → D a → pos 0 ≤ℤ dot a (raised gs.dim (scale s.times p) (s.factor *ℤ cell top gs.dim))
    admitted a u =
        sum_least (dot a (raised gs.dim (scale s.times p) (s.factor *ℤ cell top gs.dim))) s.factor (dot top (lowered gs.dim a) +ℤ cell top gs.dim *ℤ cell a gs.dim) (value (lowered gs.dim a) s.rest)
        (sum_value (dot a (raised gs.dim (scale s.times p) (s.factor *ℤ cell top gs.dim))) s.factor (dot top (lowered gs.dim a)) (value (lowered gs.dim a) s.rest) (cell a gs.dim) (cell top gs.dim)
        (dot_by_height gs.dim a (raised gs.dim (scale s.times p) (s.factor *ℤ cell top gs.dim)) (omega (arith, u.wide)) (omega (arith, length_insert gs.dim (scale s.times p) (s.factor *ℤ cell top gs.dim) (omega (arith, scaled_wide)), scaled_wide))
        ∙ ap (λ (q : List ℤ). dot (lowered gs.dim a) q +ℤ cell a gs.dim *ℤ cell (raised gs.dim (scale s.times p) (s.factor *ℤ cell top gs.dim)) gs.dim) (remove_insert gs.dim (scale s.times p) (s.factor *ℤ cell top gs.dim) (omega (arith, scaled_wide)))
        ∙ ap (λ (z : ℤ). dot (lowered gs.dim a) (scale s.times p) +ℤ cell a gs.dim *ℤ z) (cell_insert gs.dim (scale s.times p) (s.factor *ℤ cell top gs.dim) (omega (arith, scaled_wide)))
        ∙ ap (λ (z : ℤ). z +ℤ cell a gs.dim *ℤ (s.factor *ℤ cell top gs.dim)) (dot-scale (lowered gs.dim a) s.times p ∙ value_of_sum a)))
        s.above
        (subst (λ (z : ℤ). pos 0 ≤ℤ z) (up_value gs.dim top top_is.wide (cell top gs.dim) a u.wide) (point_met gs.dim a (generator_at gs.list s.marked.index) s.marked.is.1 (met a u s.marked.index ([], Line) s.marked.is.0)))
        (rest_least a u)

    spanned_codes : Codes gs.dim (IsAdmittedVector (gs.dim + 2) (encoded_generators gs.dim gs.list)) p
    spanned_codes = record {
      times = s.times;
      positive = s.positive;
      height = s.factor *ℤ cell top gs.dim;
      above = mul-positive s.factor (cell top gs.dim) s.above top_divisor;
      member = record { wide = length_insert gs.dim (scale s.times p) (s.factor *ℤ cell top gs.dim) (omega (arith, scaled_wide)) ∙ ap suc scaled_wide ∙ omega arith; admits = admitted };
    }

pub generators_encode : GeneratorsEncode
generators_encode gs fit h = encoded_dual gs fit h

pub spanned_is_coded : SpannedIsCoded
spanned_is_coded gs p fit w s = spanned_codes gs fit p w (span_marks gs p s)
