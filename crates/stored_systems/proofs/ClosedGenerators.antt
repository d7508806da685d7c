-- What closed generators generate, and what their lines and rays span.
use Rattle.std.proofs.Common.{◌≡◌, ◌≢◌, ◌⊎◌, inl, inr, ℕ, zero, suc, ◌<◌, List, [], ◌∷◌, length, map, ℤ, pos, ◌+ℤ◌, ◌*ℤ◌, ◌≤ℤ◌, ◌<ℤ◌, refl, sym, ap, ◌∙◌, subst, arith, All}
use Rattle.std.proofs.lemmas.Int.{ints}
use Rattle.std.proofs.lemmas.List.{get_or-map, length-map}
use Rattle.std.proofs.lemmas.List.Elements.{All-nil, All-cons, All-head, All-tail, All-get_or}
use Rattle.row_core.specs.Vectors.{cell, combined}
use Rattle.cone_laws.specs.Cones.{Spans}
use Rattle.cone_laws.specs.Canon.{vector_at}
use Rattle.cone_laws.specs.Duality.{lines_of, rays_of}
use Rattle.cone_laws.proofs.Ring.{by_sign, same_or_not, mul-positive}
use Rattle.cone_laws.proofs.EchelonForm.{zero_left, zero_right}
use Rattle.gens_sys.specs.Kinds.{HasBadDivisor, AllowsFactor}
use Rattle.gens_sys.specs.declared.kind.GenKind.{GenKind}
use Rattle.gens_sys.specs.declared.kind.GenKind.TheVariants.{Line, Ray, Point, ClosurePoint}
use Rattle.gens_sys.specs.Generators.{Generator, Generators, generator_at, kind_at, rows_of}
use Rattle.gens_sys.specs.Spans.{Span}
use Rattle.stored_systems.specs.WorkLists.{generator_row, generator_list}
use Rattle.stored_systems.specs.PointSets.{IsClosedGenKind, IsClosedGen, AreClosedGens}

abbrev AtLeastZero : ℤ → Type 0
AtLeastZero k = pos 0 ≤ℤ k

-- ---- from one list of factors to two
abbrev line_part : List Generator → List ℤ → List ℤ
line_part [] ks = []
line_part (g ∷ gs) [] = []
line_part ((v, Line) ∷ gs) (k ∷ ks) = k ∷ line_part gs ks
line_part ((v, Ray) ∷ gs) (k ∷ ks) = line_part gs ks
line_part ((v, Point) ∷ gs) (k ∷ ks) = line_part gs ks
line_part ((v, ClosurePoint) ∷ gs) (k ∷ ks) = line_part gs ks

abbrev ray_part : List Generator → List ℤ → List ℤ
ray_part [] ks = []
ray_part (g ∷ gs) [] = []
ray_part ((v, Line) ∷ gs) (k ∷ ks) = ray_part gs ks
ray_part ((v, Ray) ∷ gs) (k ∷ ks) = k ∷ ray_part gs ks
ray_part ((v, Point) ∷ gs) (k ∷ ks) = k ∷ ray_part gs ks
ray_part ((v, ClosurePoint) ∷ gs) (k ∷ ks) = k ∷ ray_part gs ks

line_sum : (x s a b : ℤ) → s ≡ a +ℤ b → x +ℤ s ≡ (x +ℤ a) +ℤ b
line_sum x s a b e = omega (arith, ints, e)

ray_sum : (x s a b : ℤ) → s ≡ a +ℤ b → x +ℤ s ≡ a +ℤ (x +ℤ b)
ray_sum x s a b e = omega (arith, ints, e)

nothing : pos 0 ≡ pos 0 +ℤ pos 0
nothing = omega (arith, ints)

parts_sum : (gs : List Generator) (ks : List ℤ) (j : ℕ) → combined ks (rows_of gs) j ≡ combined (line_part gs ks) (lines_of (map generator_row gs)) j +ℤ combined (ray_part gs ks) (rays_of (map generator_row gs)) j
parts_sum [] [] j = nothing
parts_sum [] (k ∷ ks) j = nothing
parts_sum (g ∷ gs) [] j = nothing
parts_sum ((v, Line) ∷ gs) (k ∷ ks) j = line_sum (k *ℤ cell v j) (combined ks (rows_of gs) j) (combined (line_part gs ks) (lines_of (map generator_row gs)) j) (combined (ray_part gs ks) (rays_of (map generator_row gs)) j) (parts_sum gs ks j)
parts_sum ((v, Ray) ∷ gs) (k ∷ ks) j = ray_sum (k *ℤ cell v j) (combined ks (rows_of gs) j) (combined (line_part gs ks) (lines_of (map generator_row gs)) j) (combined (ray_part gs ks) (rays_of (map generator_row gs)) j) (parts_sum gs ks j)
parts_sum ((v, Point) ∷ gs) (k ∷ ks) j = ray_sum (k *ℤ cell v j) (combined ks (rows_of gs) j) (combined (line_part gs ks) (lines_of (map generator_row gs)) j) (combined (ray_part gs ks) (rays_of (map generator_row gs)) j) (parts_sum gs ks j)
parts_sum ((v, ClosurePoint) ∷ gs) (k ∷ ks) j = ray_sum (k *ℤ cell v j) (combined ks (rows_of gs) j) (combined (line_part gs ks) (lines_of (map generator_row gs)) j) (combined (ray_part gs ks) (rays_of (map generator_row gs)) j) (parts_sum gs ks j)

abbrev AreAllowed : List Generator → List ℤ → Type 0
AreAllowed gs ks = (i : ℕ) → i < length gs → AllowsFactor (kind_at gs i) (cell ks i)

rest_allowed : (g : Generator) (gs : List Generator) (k : ℤ) (ks : List ℤ) → AreAllowed (g ∷ gs) (k ∷ ks) → AreAllowed gs ks
rest_allowed g gs k ks h i l = h (suc i) (omega arith)

ray_part_least : (gs : List Generator) (ks : List ℤ) → AreAllowed gs ks → All AtLeastZero (ray_part gs ks)
ray_part_least [] ks h = All-nil AtLeastZero
ray_part_least (g ∷ gs) [] h = All-nil AtLeastZero
ray_part_least ((v, Line) ∷ gs) (k ∷ ks) h = ray_part_least gs ks (rest_allowed (v, Line) gs k ks h)
ray_part_least ((v, Ray) ∷ gs) (k ∷ ks) h = All-cons AtLeastZero k (ray_part gs ks) (h 0 (omega arith)) (ray_part_least gs ks (rest_allowed (v, Ray) gs k ks h))
ray_part_least ((v, Point) ∷ gs) (k ∷ ks) h = All-cons AtLeastZero k (ray_part gs ks) (h 0 (omega arith)) (ray_part_least gs ks (rest_allowed (v, Point) gs k ks h))
ray_part_least ((v, ClosurePoint) ∷ gs) (k ∷ ks) h = All-cons AtLeastZero k (ray_part gs ks) (h 0 (omega arith)) (ray_part_least gs ks (rest_allowed (v, ClosurePoint) gs k ks h))

-- what the generators generate, their lines and rays span
pub spans_generated : (gs : Generators) (v : List ℤ) → Span gs v → Spans (lines_of (generator_list gs)) (rays_of (generator_list gs)) v
spans_generated gs v s = record {
  times = s.times;
  positive = s.positive;
  line_factors = line_part gs.list s.factors;
  ray_factors = ray_part gs.list s.factors;
  at_least_zero = ray_part_least gs.list s.factors s.allowed;
  sum = λ j. s.sum j ∙ parts_sum gs.list s.factors j;
}

-- ---- from two lists of factors to one
abbrev merged : List Generator → List ℤ → List ℤ → List ℤ
merged [] ls rs = []
merged ((v, Line) ∷ gs) [] rs = pos 0 ∷ merged gs [] rs
merged ((v, Line) ∷ gs) (l ∷ ls) rs = l ∷ merged gs ls rs
merged ((v, Ray) ∷ gs) ls [] = pos 0 ∷ merged gs ls []
merged ((v, Ray) ∷ gs) ls (r ∷ rs) = r ∷ merged gs ls rs
merged ((v, Point) ∷ gs) ls [] = pos 0 ∷ merged gs ls []
merged ((v, Point) ∷ gs) ls (r ∷ rs) = r ∷ merged gs ls rs
merged ((v, ClosurePoint) ∷ gs) ls [] = pos 0 ∷ merged gs ls []
merged ((v, ClosurePoint) ∷ gs) ls (r ∷ rs) = r ∷ merged gs ls rs

length-merged : (gs : List Generator) (ls rs : List ℤ) → length (merged gs ls rs) ≡ length gs
length-merged [] ls rs = refl
length-merged ((v, Line) ∷ gs) [] rs = ap suc (length-merged gs [] rs)
length-merged ((v, Line) ∷ gs) (l ∷ ls) rs = ap suc (length-merged gs ls rs)
length-merged ((v, Ray) ∷ gs) ls [] = ap suc (length-merged gs ls [])
length-merged ((v, Ray) ∷ gs) ls (r ∷ rs) = ap suc (length-merged gs ls rs)
length-merged ((v, Point) ∷ gs) ls [] = ap suc (length-merged gs ls [])
length-merged ((v, Point) ∷ gs) ls (r ∷ rs) = ap suc (length-merged gs ls rs)
length-merged ((v, ClosurePoint) ∷ gs) ls [] = ap suc (length-merged gs ls [])
length-merged ((v, ClosurePoint) ∷ gs) ls (r ∷ rs) = ap suc (length-merged gs ls rs)

no_line : (x s a b : ℤ) → s ≡ pos 0 +ℤ b → pos 0 *ℤ x +ℤ s ≡ pos 0 +ℤ b
no_line x s a b e = omega (arith, ints, e)

no_ray : (x s a b : ℤ) → b ≡ pos 0 → s ≡ a +ℤ b → pos 0 *ℤ x +ℤ s ≡ a +ℤ pos 0
no_ray x s a b z e = omega (arith, ints, e, z)

merged_sum : (gs : List Generator) (ls rs : List ℤ) (j : ℕ) → combined (merged gs ls rs) (rows_of gs) j ≡ combined ls (lines_of (map generator_row gs)) j +ℤ combined rs (rays_of (map generator_row gs)) j
merged_sum [] [] [] j = nothing
merged_sum [] [] (r ∷ rs) j = nothing
merged_sum [] (l ∷ ls) [] j = nothing
merged_sum [] (l ∷ ls) (r ∷ rs) j = nothing
merged_sum ((v, Line) ∷ gs) [] rs j = no_line (cell v j) (combined (merged gs [] rs) (rows_of gs) j) (pos 0) (combined rs (rays_of (map generator_row gs)) j) (merged_sum gs [] rs j)
merged_sum ((v, Line) ∷ gs) (l ∷ ls) rs j = line_sum (l *ℤ cell v j) (combined (merged gs ls rs) (rows_of gs) j) (combined ls (lines_of (map generator_row gs)) j) (combined rs (rays_of (map generator_row gs)) j) (merged_sum gs ls rs j)
merged_sum ((v, Ray) ∷ gs) ls [] j = no_ray (cell v j) (combined (merged gs ls []) (rows_of gs) j) (combined ls (lines_of (map generator_row gs)) j) (combined [] (rays_of (map generator_row gs)) j) refl (merged_sum gs ls [] j)
merged_sum ((v, Ray) ∷ gs) ls (r ∷ rs) j = ray_sum (r *ℤ cell v j) (combined (merged gs ls rs) (rows_of gs) j) (combined ls (lines_of (map generator_row gs)) j) (combined rs (rays_of (map generator_row gs)) j) (merged_sum gs ls rs j)
merged_sum ((v, Point) ∷ gs) ls [] j = no_ray (cell v j) (combined (merged gs ls []) (rows_of gs) j) (combined ls (lines_of (map generator_row gs)) j) (combined [] (rays_of (map generator_row gs)) j) refl (merged_sum gs ls [] j)
merged_sum ((v, Point) ∷ gs) ls (r ∷ rs) j = ray_sum (r *ℤ cell v j) (combined (merged gs ls rs) (rows_of gs) j) (combined ls (lines_of (map generator_row gs)) j) (combined rs (rays_of (map generator_row gs)) j) (merged_sum gs ls rs j)
merged_sum ((v, ClosurePoint) ∷ gs) ls [] j = no_ray (cell v j) (combined (merged gs ls []) (rows_of gs) j) (combined ls (lines_of (map generator_row gs)) j) (combined [] (rays_of (map generator_row gs)) j) refl (merged_sum gs ls [] j)
merged_sum ((v, ClosurePoint) ∷ gs) ls (r ∷ rs) j = ray_sum (r *ℤ cell v j) (combined (merged gs ls rs) (rows_of gs) j) (combined ls (lines_of (map generator_row gs)) j) (combined rs (rays_of (map generator_row gs)) j) (merged_sum gs ls rs j)

abbrev pub AllowsAt : List Generator → List ℤ → ℕ → Type 0
AllowsAt gs ks i = AllowsFactor (kind_at gs i) (cell ks i)

-- the first and the rest
by_first : (g : Generator) (gs : List Generator) (k : ℤ) (ks : List ℤ) → AllowsFactor g.1 k → AreAllowed gs ks → AreAllowed (g ∷ gs) (k ∷ ks)
by_first g gs k ks p h zero l = p
by_first g gs k ks p h (suc i) l = h i (omega arith)

zero_least : pos 0 ≤ℤ pos 0
zero_least = omega (arith, ints)

abbrev Here : List Generator → List ℤ → List ℤ → Type 0
Here gs ls rs = AreAllowed gs (merged gs ls rs)

merged_allowed : (gs : List Generator) (ls rs : List ℤ) → All AtLeastZero rs → AreAllowed gs (merged gs ls rs)
merged_allowed [] ls rs h = λ i l. absurd (omega arith)
merged_allowed ((v, Line) ∷ gs) [] rs h = by_first (v, Line) gs (pos 0) (merged gs [] rs) tt (merged_allowed gs [] rs h)
merged_allowed ((v, Line) ∷ gs) (l ∷ ls) rs h = by_first (v, Line) gs l (merged gs ls rs) tt (merged_allowed gs ls rs h)
merged_allowed ((v, Ray) ∷ gs) ls [] h = by_first (v, Ray) gs (pos 0) (merged gs ls []) zero_least (merged_allowed gs ls [] h)
merged_allowed ((v, Ray) ∷ gs) ls (r ∷ rs) h = by_first (v, Ray) gs r (merged gs ls rs) (All-head AtLeastZero r rs h) (merged_allowed gs ls rs (All-tail AtLeastZero r rs h))
merged_allowed ((v, Point) ∷ gs) ls [] h = by_first (v, Point) gs (pos 0) (merged gs ls []) zero_least (merged_allowed gs ls [] h)
merged_allowed ((v, Point) ∷ gs) ls (r ∷ rs) h = by_first (v, Point) gs r (merged gs ls rs) (All-head AtLeastZero r rs h) (merged_allowed gs ls rs (All-tail AtLeastZero r rs h))
merged_allowed ((v, ClosurePoint) ∷ gs) ls [] h = by_first (v, ClosurePoint) gs (pos 0) (merged gs ls []) zero_least (merged_allowed gs ls [] h)
merged_allowed ((v, ClosurePoint) ∷ gs) ls (r ∷ rs) h = by_first (v, ClosurePoint) gs r (merged gs ls rs) (All-head AtLeastZero r rs h) (merged_allowed gs ls rs (All-tail AtLeastZero r rs h))

-- ---- a positive sum has a positive term
pub record HasPositive (ks : List ℤ) (gs : List (List ℤ)) (j : ℕ) : Type 0 where
  pub index : ℕ
  pub below : index < length gs
  pub above : pos 0 <ℤ (cell ks index *ℤ cell (vector_at gs index) j)

later_positive : (k : ℤ) (g : List ℤ) (ks : List ℤ) (gs : List (List ℤ)) (j : ℕ) → HasPositive ks gs j → HasPositive (k ∷ ks) (g ∷ gs) j
later_positive k g ks gs j p = record { index = suc p.index; below = omega (arith, p.below); above = p.above }

rest_above : (x y : ℤ) → pos 0 <ℤ (x +ℤ y) → (x <ℤ pos 0) ⊎ (x ≡ pos 0) → pos 0 <ℤ y
rest_above x y p (inl q) = omega (arith, ints)
rest_above x y p (inr q) = omega (arith, ints)

first_or_rest : (k : ℤ) (g : List ℤ) (ks : List ℤ) (gs : List (List ℤ)) (j : ℕ) → pos 0 <ℤ (k *ℤ cell g j +ℤ combined ks gs j) → (pos 0 <ℤ combined ks gs j → HasPositive ks gs j) → (pos 0 <ℤ (k *ℤ cell g j)) ⊎ (((k *ℤ cell g j) <ℤ pos 0) ⊎ (k *ℤ cell g j ≡ pos 0)) → HasPositive (k ∷ ks) (g ∷ gs) j
first_or_rest k g ks gs j h rest (inl p) = record { index = 0; below = omega arith; above = p }
first_or_rest k g ks gs j h rest (inr p) = later_positive k g ks gs j (rest (rest_above (k *ℤ cell g j) (combined ks gs j) h p))

pub positive_term : (ks : List ℤ) (gs : List (List ℤ)) (j : ℕ) → pos 0 <ℤ combined ks gs j → HasPositive ks gs j
positive_term [] gs j h = absurd (omega (arith, ints, h))
positive_term (k ∷ ks) [] j h = absurd (omega (arith, ints, h))
positive_term (k ∷ ks) (g ∷ gs) j h = first_or_rest k g ks gs j h (positive_term ks gs j) (by_sign (k *ℤ cell g j))

-- ---- the factor of a point
positive_factor : (f d : ℤ) → pos 0 ≤ℤ f → pos 0 <ℤ (f *ℤ d) → pos 0 <ℤ f
positive_factor f d p h = by_case (by_sign f)
  where
    by_case : (pos 0 <ℤ f) ⊎ ((f <ℤ pos 0) ⊎ (f ≡ pos 0)) → pos 0 <ℤ f
    by_case (inl q) = q
    by_case (inr (inl q)) = absurd (omega (arith, ints))
    by_case (inr (inr q)) = absurd (omega (arith, ints, zero_left f d q, h))

pub zero_divisor : (d : ℤ) → ¬ (¬ (d ≡ pos 0)) → d ≡ pos 0
zero_divisor d h = by_case (same_or_not d (pos 0))
  where
    by_case : (d ≡ pos 0) ⊎ (d ≢ pos 0) → d ≡ pos 0
    by_case (inl e) = e
    by_case (inr n) = absurd (h n)

no_direction : (f d : ℤ) → ¬ (¬ (d ≡ pos 0)) → pos 0 <ℤ (f *ℤ d) → ⊥
no_direction f d n h = omega (arith, ints, zero_right f d (zero_divisor d n), h)

-- a generator with a positive share of the last entry is a point, and its factor positive
is_point : (k : GenKind) (f d : ℤ) → IsClosedGenKind k → ¬ (HasBadDivisor k d) → AllowsFactor k f → pos 0 <ℤ (f *ℤ d) → (k ≡ Point) × (pos 0 <ℤ f)
is_point Line f d c b a h = absurd (no_direction f d b h)
is_point Ray f d c b a h = absurd (no_direction f d b h)
is_point Point f d c b a h = (refl, positive_factor f d a h)
is_point ClosurePoint f d c b a h = absurd c

pub above_times : (t v s : ℤ) → pos 0 <ℤ t → pos 0 <ℤ v → t *ℤ v ≡ s → pos 0 <ℤ s
above_times t v s p q e = let h = mul-positive t v p q in omega (arith, ints, h, e)

-- a point that the lines and rays of closed generators span is generated
pub generated_spans : (gs : Generators) (v : List ℤ) → AreClosedGens gs → pos 0 <ℤ cell v gs.dim → Spans (lines_of (generator_list gs)) (rays_of (generator_list gs)) v → Span gs v
generated_spans gs v closed p s = record {
  times = s.times;
  positive = s.positive;
  factors = factors;
  one_each = length-merged gs.list s.line_factors s.ray_factors;
  allowed = allowed;
  point = record {
    index = term.index;
    within = within;
    kind = here.0;
    positive = here.1;
  };
  sum = sum;
}
  where
    factors : List ℤ
    factors = merged gs.list s.line_factors s.ray_factors

    allowed : AreAllowed gs.list (merged gs.list s.line_factors s.ray_factors)
    allowed = merged_allowed gs.list s.line_factors s.ray_factors s.at_least_zero

    sum : (j : ℕ) → s.times *ℤ cell v j ≡ combined (merged gs.list s.line_factors s.ray_factors) (rows_of gs.list) j
    sum j = s.sum j ∙ sym (merged_sum gs.list s.line_factors s.ray_factors j)

    term : HasPositive (merged gs.list s.line_factors s.ray_factors) (rows_of gs.list) gs.dim
    term = positive_term factors (rows_of gs.list) gs.dim (above_times s.times (cell v gs.dim) (combined factors (rows_of gs.list) gs.dim) s.positive p (sum gs.dim))

    within : term.index < length gs.list
    within = omega (arith, term.below, length-map gs.list (λ (g : Generator). g.0))

    row_is : vector_at (rows_of gs.list) term.index ≡ (generator_at gs.list term.index).0
    row_is = get_or-map (λ (g : Generator). g.0) gs.list term.index ([], Line) [] within

    good : IsClosedGen gs.dim (generator_at gs.list term.index)
    good = All-get_or (IsClosedGen gs.dim) gs.list term.index ([], Line) within closed

    here : (kind_at gs.list term.index ≡ Point) × (pos 0 <ℤ cell (merged gs.list s.line_factors s.ray_factors) term.index)
    here = is_point (kind_at gs.list term.index) (cell factors term.index) (cell (generator_at gs.list term.index).0 gs.dim) good.kind good.divisor (allowed term.index within) (subst (λ (w : List ℤ). pos 0 <ℤ (cell factors term.index *ℤ cell w gs.dim)) row_is term.above)
