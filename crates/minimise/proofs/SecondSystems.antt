-- The basis of the rows that are 0 on all rays, and one reduced row for each greatest set of zeros of the others, are the system of the valid rows.
use Rattle.std.proofs.Common.{◌≡◌, ◌≢◌, ◌⊎◌, inl, inr, ℕ, zero, suc, ◌+◌, ◌<◌, ◌≤◌, Bool, true, false, not, List, [], ◌∷◌, length, slice_index_or, ℤ, pos, ◌+ℤ◌, ◌*ℤ◌, neg_ℤ, ◌≤ℤ◌, ◌<ℤ◌, refl, sym, ap, ◌∙◌, subst, arith}
use Rattle.std.specs.Prelude.{All, filter, remove}
use Rattle.std.proofs.lemmas.Int.{ints}
use Rattle.std.proofs.lemmas.Bool.{cases_lt}
use Rattle.std.proofs.lemmas.List.{get_or_default, get_or-map, length-map}
use Rattle.std.proofs.lemmas.List.Edits.{length-remove, get_or-remove_below, get_or-remove_above}
use Rattle.std.proofs.lemmas.List.Elements.{All-filter, All-from_get_or, filter_passes}
use Rattle.row_core.specs.Vectors.{cell, dot, scale, add, combined}
use Rattle.row_core.specs.Content.{IsPrimitive}
use Rattle.row_core.specs.Lists.{Row, row_at, system_rows, vector_at, Pointwise}
use Rattle.cone_laws.specs.Members.{ConeOf}
use Rattle.cone_laws.proofs.MemberLemmas.{zero_of_signs}
use Rattle.cone_laws.proofs.SystemLists.{met_line, met_ray, cone_of_system}
use Rattle.cone_laws.proofs.ValidRows.{valid_of_row}
use Rattle.cone_laws.specs.Cones.{Spans, Generates, HasLineality, negated}
use Rattle.cone_laws.specs.Canon.{IsEchelon, IsIrredundant, IsSystem}
use Rattle.cone_laws.specs.Duality.{lines_of, rays_of}
use Rattle.row_core.proofs.Ring.{mul_comm, mul-zero, neg-mul, mul-at_least_zero, mul-positive, at_least_zero_of_mul, zero_of_mul}
use Rattle.cone_laws.proofs.Sums.{V, Nothing, Among, Sums, none, line, ray, SpansBy, IsLinear, same_value, sums_zero, sums_one_ray, spans_more, spans_same, spans_sums, spans_add, spans_of_multiple, spans_spans}
use Rattle.cone_laws.proofs.Columns.{value, value_linear, dot_is, dot_comm, dot-add, dot-scale, dot-negated, length-scale, length-add}
use Rattle.cone_laws.proofs.Bridge.{Below, columns, In, in_at, to_sums, to_lines, from_sums, from_lines}
use Rattle.cone_laws.proofs.Factors.{cell-both}
use Rattle.cone_laws.proofs.Face.{OnFace, face, same_beside, zero_or_positive}
use Rattle.cone_laws.proofs.Supports.{support, support-lt, IsGreatest, HasGreatest, greatest_ratio}
use Rattle.cone_laws.proofs.UptoRows.{Asks, asks_least}
use Rattle.cone_laws.proofs.Bipolar.{admitted_is_spanned}
use Rattle.minimise.specs.Bases.{IsBasis, IsReduced}
use Rattle.minimise.specs.FlatRows.{IsZeroOnAll}
use Rattle.minimise.specs.Facets.{AreFacets}
use Rattle.minimise.specs.SecondSystems.{SimplifiedIsSystem}
use Rattle.minimise.proofs.FlatRows.{row_on_line}

-- ---- numbers
zero_least : (x : ℤ) → x ≡ pos 0 → pos 0 ≤ℤ x
zero_least x e = omega (arith, ints, e)

zero_turned : (x y : ℤ) → x ≡ pos 0 → y ≡ neg_ℤ x → y ≡ pos 0
zero_turned x y e f = omega (arith, ints, e, f)

above_same : (x y : ℤ) → x ≡ y → pos 0 <ℤ x → pos 0 <ℤ y
above_same x y e p = omega (arith, ints, e, p)

not_both : (x : ℤ) → pos 0 <ℤ x → x ≡ pos 0 → ⊥
not_both x p e = omega (arith, ints, p, e)

at_most_zero : (d c t x : ℤ) → pos 0 ≤ℤ d → pos 0 <ℤ c → t ≡ pos 0 → (d *ℤ c) ≤ℤ (t *ℤ x) → d ≡ pos 0
at_most_zero d c t x p q e h =
    let f : t *ℤ x ≡ pos 0 = mul_comm t x ∙ ap (λ (z : ℤ). x *ℤ z) e ∙ mul-zero x in
    let g : pos 0 ≤ℤ (d *ℤ c) = mul-at_least_zero d c p (omega (arith, ints, q)) in
    zero_of_mul c d q (mul_comm c d ∙ all_zero (d *ℤ c) (t *ℤ x) f g h)
  where
    all_zero : (x y : ℤ) → y ≡ pos 0 → pos 0 ≤ℤ x → x ≤ℤ y → x ≡ pos 0
    all_zero x y e p h = omega (arith, ints, e, p, h)

turned_product : (c d : ℤ) → neg_ℤ c *ℤ d ≡ neg_ℤ (d *ℤ c)
turned_product c d = neg-mul c d ∙ ap neg_ℤ (mul_comm c d)

rest_least : (t x c d : ℤ) → (d *ℤ c) ≤ℤ (t *ℤ x) → pos 0 ≤ℤ (t *ℤ x +ℤ neg_ℤ c *ℤ d)
rest_least t x c d h = let e = turned_product c d in omega (arith, ints, h, e)

rest_none : (t c : ℤ) → t *ℤ c +ℤ neg_ℤ c *ℤ t ≡ pos 0
rest_none t c = let e = turned_product c t in omega (arith, ints, e)

rest_zero : (s x t y : ℤ) → x ≡ pos 0 → y ≡ pos 0 → s *ℤ x +ℤ t *ℤ y ≡ pos 0
rest_zero s x t y e f =
    let g = ap (λ (z : ℤ). s *ℤ z) e ∙ mul-zero s in
    let h = ap (λ (z : ℤ). t *ℤ z) f ∙ mul-zero t in
    omega (arith, ints, g, h)

rest_back : (t x c y b : ℤ) → b ≡ t *ℤ x +ℤ neg_ℤ c *ℤ y → t *ℤ x ≡ pos 1 *ℤ b +ℤ c *ℤ y
rest_back t x c y b e = let f = neg-mul c y in omega (arith, ints, e, f)

pub times_zero : (t x f y : ℤ) → pos 0 <ℤ t → t *ℤ x ≡ f *ℤ y → y ≡ pos 0 → x ≡ pos 0
times_zero t x f y p e z = zero_of_mul t x p (e ∙ ap (λ (u : ℤ). f *ℤ u) z ∙ mul-zero f)

times_least : (t x f y : ℤ) → pos 0 <ℤ t → pos 0 <ℤ f → t *ℤ x ≡ f *ℤ y → pos 0 ≤ℤ y → pos 0 ≤ℤ x
times_least t x f y p q e h = at_least_zero_of_mul t x p (subst (λ (u : ℤ). pos 0 ≤ℤ u) (sym e) (mul-at_least_zero f y (omega (arith, ints, q)) h))

-- ---- sums
-- a vector of the set on which the map is above 0
record Above (R : V → Type 0) (a : V → ℤ) : Type 0 where
  vector : V
  is : R vector
  above : pos 0 <ℤ a vector

above_now : (R : V → Type 0) (a : V → ℤ) (r : V) → R r → (a r ≡ pos 0) ⊎ (pos 0 <ℤ a r) → (a r ≡ pos 0 → Above R a) → Above R a
above_now R a r m (inl z) later = later z
above_now R a r m (inr p) later = record { vector = r; is = m; above = p }

-- in a sum on which the map is above 0 there is such a ray
find_above : (L R : V → Type 0) (a : V → ℤ) → IsLinear a → ((l : V) → L l → a l ≡ pos 0) → ((r : V) → R r → pos 0 ≤ℤ a r) → (v : V) → Sums L R v → pos 0 <ℤ a v → Above R a
find_above L R a lin f g v (none h) p = absurd (not_both (a v) p (lin.zero v h))
find_above L R a lin f g v (line k l u m s h) p =
    find_above L R a lin f g u s (above_same (a v) (a u) (same_beside (a v) k (a l) (a u) (lin.more v l u k h) (f l m)) p)
find_above L R a lin f g v (ray k r u q m s h) p =
    let later = find_above L R a lin f g u s in
    above_now R a r m (zero_or_positive (a r) (g r m)) (λ z. later (above_same (a v) (a u) (same_beside (a v) k (a r) (a u) (lin.more v r u k h) z) p))

combined_zero : (w ks : List ℤ) (gs : List (List ℤ)) → ((i : ℕ) → i < length gs → dot w (vector_at gs i) ≡ pos 0) → value w (combined ks gs) ≡ pos 0
combined_zero w [] gs h = (value_linear w).zero (combined [] gs) (λ j. refl)
combined_zero w (k ∷ ks) [] h = (value_linear w).zero (combined (k ∷ ks) []) (λ j. refl)
combined_zero w (k ∷ ks) (g ∷ gs) h =
    same_beside (value w (combined (k ∷ ks) (g ∷ gs))) k (value w (cell g)) (value w (combined ks gs)) ((value_linear w).more (combined (k ∷ ks) (g ∷ gs)) (cell g) (combined ks gs) k (λ j. refl)) (sym (dot_is w g) ∙ h 0 (omega arith))
    ∙ combined_zero w ks gs (λ i l. h (suc i) (omega (arith, l)))

value_times : (w u : List ℤ) (t : ℤ) → value w (λ j. t *ℤ cell u j) ≡ t *ℤ dot w u
value_times w u t = (value_linear w).multiple (λ j. t *ℤ cell u j) (cell u) t (λ j. refl) ∙ ap (λ (z : ℤ). t *ℤ z) (sym (dot_is w u))

-- a positive multiple of one row and multiples of vectors on which w is 0
pub reduced_value : (w : List ℤ) (gs : List (List ℤ)) (a r : List ℤ) → ((i : ℕ) → i < length gs → dot w (vector_at gs i) ≡ pos 0) → (e : IsReduced gs a r) → e.times *ℤ dot w r ≡ e.factor *ℤ dot w a
reduced_value w gs a r h e =
    sym (value_times w r e.times) ∙ (value_linear w).more (λ j. e.times *ℤ cell r j) (cell a) (combined e.factors gs) e.factor e.same
    ∙ ap (λ (z : ℤ). e.factor *ℤ value w (cell a) +ℤ z) (combined_zero w e.factors gs h) ∙ no_more (e.factor *ℤ value w (cell a)) ∙ ap (λ (z : ℤ). e.factor *ℤ z) (sym (dot_is w a))
  where
    no_more : (x : ℤ) → x +ℤ pos 0 ≡ x
    no_more x = omega (arith, ints)

dot_both : (w : List ℤ) (s : ℤ) (u : List ℤ) (t : ℤ) (v : List ℤ) → dot w (add (scale s u) (scale t v)) ≡ s *ℤ dot w u +ℤ t *ℤ dot w v
dot_both w s u t v = dot-add w (scale s u) (scale t v) ∙ ap (λ (z : ℤ). z +ℤ dot w (scale t v)) (dot-scale w s u) ∙ ap (λ (z : ℤ). s *ℤ dot w u +ℤ z) (dot-scale w t v)

-- what is spanned by vectors on which w is 0
pub spanned_zero : (w : List ℤ) (gs : List (List ℤ)) (v : List ℤ) → ((i : ℕ) → i < length gs → dot w (vector_at gs i) ≡ pos 0) → Spans gs [] v → dot w v ≡ pos 0
spanned_zero w gs v h t =
    let s = to_lines gs v t in
    let z : value w (λ j. s.times *ℤ cell v j) ≡ pos 0 = sums_zero (value w) (value_linear w) (λ l m. same_value (value w) (value_linear w) l (columns gs m.index) m.same ∙ sym (dot_is w (vector_at gs m.index)) ∙ h m.index m.is) (λ r m. elim m [ ]) (λ j. s.times *ℤ cell v j) s.sums in
    zero_of_mul s.times (dot w v) s.positive (sym (value_times w v s.times) ∙ z)

-- an element of a list without one is another of the list
record Other (xs : List (List ℤ)) (i m : ℕ) : Type 0 where
  index : ℕ
  below : index < length xs
  other : i ≢ index
  same : vector_at (remove xs i) m ≡ vector_at xs index

other_at : (xs : List (List ℤ)) (i m : ℕ) → i < length xs → m < length (remove xs i) → Other xs i m
other_at xs i m within h = by_place (cases_lt m i)
  where
    by_place : (m < i) ⊎ (i ≤ m) → Other xs i m
    by_place (inl l) = record { index = m; below = omega (arith, l, within); other = λ e. omega (arith, l, e); same = get_or-remove_below xs i [] m l within }
    by_place (inr l) = record { index = m + 1; below = omega (arith, h, length-remove xs i within); other = λ e. omega (arith, l, e); same = get_or-remove_above xs i [] m l within ∙ ap (λ (n : ℕ). slice_index_or xs n []) (omega arith) }

-- ---- rows of a list
-- a row of the list
record RowOf (rows : List Row) (g : Row) : Type 0 where
  index : ℕ
  below : index < length rows
  same : slice_index_or rows index ([], false) ≡ g

all_rows : (rows : List Row) → All (RowOf rows) rows
all_rows rows i d h = record { index = i; below = h; same = get_or_default rows i ([], false) d h }

member_from : (width : ℕ) (lines rays : List (List ℤ)) (a : List ℤ) → length a ≡ width → ((j : ℕ) → j < length lines → dot (vector_at lines j) a ≡ pos 0) → ((j : ℕ) → j < length rays → pos 0 ≤ℤ dot (vector_at rays j) a) → ConeOf width (system_rows lines rays) a
member_from width lines rays a w f g = cone_of_system width lines rays a w (All-from_get_or (λ l. dot l a ≡ pos 0) lines [] f) (All-from_get_or (λ r. pos 0 ≤ℤ dot r a) rays [] g)

-- ---- the law
module _ (width : ℕ) (rows : List Row) (lines rays flat new_lines new_rays : List (List ℤ)) (kept : List ℕ) (wide : All (λ (row : Row). length row.0 ≡ width) rows) (sys : IsSystem (ConeOf width rows) lines rays)
    (flat_in : (i : ℕ) → i < length rows → IsZeroOnAll rays (row_at rows i) → (k : ℕ) × (k < length flat) × (vector_at flat k ≡ row_at rows i))
    (flat_of : (k : ℕ) → k < length flat → (i : ℕ) × (i < length rows) × (row_at rows i ≡ vector_at flat k) × IsZeroOnAll rays (row_at rows i))
    (lines_wide : All (λ (l : List ℤ). length l ≡ width) new_lines) (basis : IsBasis flat new_lines) (facets : AreFacets rows rays kept) (reduced : Pointwise (λ i r. IsReduced new_lines (row_at rows i) r) kept new_rays) where
  abbrev on : ℕ → List ℤ → ℤ
  on j a = dot (vector_at rays j) a

  abbrev Member : List ℤ → Type 0
  Member a = ConeOf width (system_rows lines rays) a

  abbrev row_columns : ℕ → V
  row_columns i = cell (row_at rows i)

  abbrev IsFlatRow : ℕ → Type 0
  IsFlatRow i = (i < length rows) × ((j : ℕ) → j < length rays → on j (row_at rows i) ≡ pos 0)

  abbrev FlatRow : V → Type 0
  FlatRow = Among row_columns IsFlatRow

  abbrev AnyRow : V → Type 0
  AnyRow = Among row_columns (Below (length rows))

  abbrev at_ray : ℕ → V → ℤ
  at_ray j = value (vector_at rays j)

  met : (a : List ℤ) → Member a → (j : ℕ) → j < length rays → pos 0 ≤ℤ on j a
  met a m = met_ray width lines rays a m

  row_meets : (i : ℕ) → i < length rows → (j : ℕ) → j < length rays → Asks (slice_index_or rows i ([], false)).1 (dot (row_at rows i) (vector_at rays j))
  row_meets i h j b = (sys.generates.rays_within j [] b).meets i ([], false) (omega arith) h

  row_on_ray : (i : ℕ) → i < length rows → (j : ℕ) → j < length rays → pos 0 ≤ℤ on j (row_at rows i)
  row_on_ray i h j b = subst (λ (z : ℤ). pos 0 ≤ℤ z) (dot_comm (row_at rows i) (vector_at rays j)) (asks_least (slice_index_or rows i ([], false)).1 (dot (row_at rows i) (vector_at rays j)) (row_meets i h j b))

  line_on_row : (i : ℕ) → i < length rows → (j : ℕ) → j < length lines → dot (vector_at lines j) (row_at rows i) ≡ pos 0
  line_on_row i h j b = dot_comm (vector_at lines j) (row_at rows i) ∙ row_on_line width rows lines rays sys i h j [] b

  zero_at : (a : List ℤ) → IsZeroOnAll rays a → (j : ℕ) → j < length rays → on j a ≡ pos 0
  zero_at a z j b = dot_comm (vector_at rays j) a ∙ z j [] b

  zero_all : (a : List ℤ) → ((j : ℕ) → j < length rays → on j a ≡ pos 0) → IsZeroOnAll rays a
  zero_all a f = All-from_get_or (λ x. dot a x ≡ pos 0) rays [] (λ j b. dot_comm a (vector_at rays j) ∙ f j b)

  -- ---- valid rows as sums of rows
  line_is_flat : (v : V) → In (lines_of rows) v → FlatRow v
  line_is_flat v m =
      let passed : List Row = filter (λ g. g.1) rows in
      let below : m.index < length passed = omega (arith, m.is, length-map passed (λ (g : Row). g.0)) in
      let same : vector_at (lines_of rows) m.index ≡ (slice_index_or passed m.index ([], false)).0 = get_or-map (λ (g : Row). g.0) passed m.index ([], false) [] below in
      let o : RowOf rows (slice_index_or passed m.index ([], false)) = All-filter (λ g. g.1) (RowOf rows) rows (all_rows rows) m.index ([], false) below in
      let marked : (slice_index_or passed m.index ([], false)).1 ≡ true = filter_passes (λ g. g.1) rows m.index ([], false) below in
      record {
        index = o.index;
        is = (o.below, λ j b. dot_comm (vector_at rays j) (row_at rows o.index) ∙ subst (λ (e : Bool). Asks e (dot (row_at rows o.index) (vector_at rays j))) (ap (λ (g : Row). g.1) o.same ∙ marked) (row_meets o.index o.below j b));
        same = λ j. m.same j ∙ ap (λ (u : List ℤ). cell u j) (same ∙ sym (ap (λ (g : Row). g.0) o.same));
      }

  ray_is_row : (v : V) → In (rays_of rows) v → AnyRow v
  ray_is_row v m =
      let passed : List Row = filter (λ g. not g.1) rows in
      let below : m.index < length passed = omega (arith, m.is, length-map passed (λ (g : Row). g.0)) in
      let same : vector_at (rays_of rows) m.index ≡ (slice_index_or passed m.index ([], false)).0 = get_or-map (λ (g : Row). g.0) passed m.index ([], false) [] below in
      let o : RowOf rows (slice_index_or passed m.index ([], false)) = All-filter (λ g. not g.1) (RowOf rows) rows (all_rows rows) m.index ([], false) below in
      record { index = o.index; is = o.below; same = λ j. m.same j ∙ ap (λ (u : List ℤ). cell u j) (same ∙ sym (ap (λ (g : Row). g.0) o.same)) }

  spanned_by_rows : (a : List ℤ) → Member a → SpansBy FlatRow AnyRow (cell a)
  spanned_by_rows a m =
      spans_more line_is_flat ray_is_row (cell a) (to_sums (lines_of rows) (rays_of rows) a
      (admitted_is_spanned width rows a wide m.wide (λ v c. subst (λ (z : ℤ). pos 0 ≤ℤ z) (dot_comm a v) (valid_of_row width (ConeOf width rows) lines rays sys.generates a m v c))))

  among_value : (K : ℕ → Type 0) (j : ℕ) (r : V) → (m : Among row_columns K r) → at_ray j r ≡ on j (row_at rows m.index)
  among_value K j r m = same_value (at_ray j) (value_linear (vector_at rays j)) r (row_columns m.index) m.same ∙ sym (dot_is (vector_at rays j) (row_at rows m.index))

  flat_value : (j : ℕ) → j < length rays → (l : V) → FlatRow l → at_ray j l ≡ pos 0
  flat_value j b l m = among_value IsFlatRow j l m ∙ m.is.1 j b

  any_value : (j : ℕ) → j < length rays → (r : V) → AnyRow r → pos 0 ≤ℤ at_ray j r
  any_value j b r m = subst (λ (z : ℤ). pos 0 ≤ℤ z) (sym (among_value (Below (length rows)) j r m)) (row_on_ray m.index m.is j b)

  -- with rows alone that are 0 on rays on which it is
  faced : (a : List ℤ) → Member a → (On : ℕ → Type 0) → ((j : ℕ) → On j → j < length rays) → ((j : ℕ) → On j → on j a ≡ pos 0) → SpansBy FlatRow (OnFace AnyRow at_ray On) (cell a)
  faced a m On b z =
      let s = spanned_by_rows a m in
      record {
        times = s.times;
        positive = s.positive;
        sums = face FlatRow AnyRow at_ray On (λ j. value_linear (vector_at rays j)) (λ j o. flat_value j (b j o)) (λ j o. any_value j (b j o)) (λ j. s.times *ℤ cell a j) s.sums
            (λ i o. value_times (vector_at rays i) a s.times ∙ ap (λ (x : ℤ). s.times *ℤ x) (z i o) ∙ mul-zero s.times);
      }

  -- ---- lineality
  flat_spanned : (l : V) → FlatRow l → SpansBy (In new_lines) Nothing l
  flat_spanned l m =
      let f = flat_in m.index m.is.0 (zero_all (row_at rows m.index) m.is.1) in
      spans_same (row_columns m.index) l (to_lines new_lines (row_at rows m.index) (subst (λ (u : List ℤ). Spans new_lines [] u) f.2 (basis.spans f.0 [] f.1))) m.same

  face_is_flat : (r : V) → OnFace AnyRow at_ray (Below (length rays)) r → FlatRow r
  face_is_flat r o = record { index = o.0.index; is = (o.0.is, λ j b. sym (among_value (Below (length rows)) j r o.0) ∙ o.1 j b); same = o.0.same }

  zero_spanned : (a : List ℤ) → Member a → ((j : ℕ) → j < length rays → on j a ≡ pos 0) → SpansBy (In new_lines) Nothing (cell a)
  zero_spanned a m z = spans_spans flat_spanned (λ r o. flat_spanned r (face_is_flat r o)) (cell a) (faced a m (Below (length rays)) (λ j b. b) z)

  pub lineality : HasLineality (ConeOf width (system_rows lines rays)) new_lines
  lineality v c n = from_lines new_lines v (zero_spanned v c (λ j b. zero_of_signs (on j v) (on j (negated v)) (met v c j b) (met (negated v) n j b) (dot-negated (vector_at rays j) v)))

  -- ---- the new lines and rays on the old ones
  line_on_new : (i : ℕ) → i < length new_lines → (j : ℕ) → j < length lines → dot (vector_at lines j) (vector_at new_lines i) ≡ pos 0
  line_on_new i h j b =
      spanned_zero (vector_at lines j) flat (vector_at new_lines i)
      (λ k l. let f = flat_of k l in subst (λ (u : List ℤ). dot (vector_at lines j) u ≡ pos 0) f.2 (line_on_row f.0 f.1 j b))
      (basis.spanned i [] h)

  ray_on_new : (j : ℕ) → j < length rays → (i : ℕ) → i < length new_lines → on j (vector_at new_lines i) ≡ pos 0
  ray_on_new j b i h =
      spanned_zero (vector_at rays j) flat (vector_at new_lines i)
      (λ k l. let f = flat_of k l in subst (λ (u : List ℤ). on j u ≡ pos 0) f.2 (zero_at (row_at rows f.0) f.3 j b))
      (basis.spanned i [] h)

  new_line : (i : ℕ) → i < length new_lines → Member (vector_at new_lines i) × Member (negated (vector_at new_lines i))
  new_line i h = (
    member_from width lines rays (vector_at new_lines i) (lines_wide i [] h) (line_on_new i h) (λ j b. zero_least (on j (vector_at new_lines i)) (ray_on_new j b i h)),
    member_from width lines rays (negated (vector_at new_lines i)) (length-scale (neg_ℤ (pos 1)) (vector_at new_lines i) ∙ lines_wide i [] h)
        (λ j b. zero_turned (dot (vector_at lines j) (vector_at new_lines i)) (dot (vector_at lines j) (negated (vector_at new_lines i))) (line_on_new i h j b) (dot-negated (vector_at lines j) (vector_at new_lines i)))
        (λ j b. zero_least (on j (negated (vector_at new_lines i))) (zero_turned (on j (vector_at new_lines i)) (on j (negated (vector_at new_lines i))) (ray_on_new j b i h) (dot-negated (vector_at rays j) (vector_at new_lines i)))),
  )

  abbrev kept_row : ℕ → List ℤ
  kept_row k = row_at rows (slice_index_or kept k 0)

  made : (k : ℕ) → k < length kept → IsReduced new_lines (kept_row k) (vector_at new_rays k)
  made k h = reduced.each k 0 [] h

  kept_below : (k : ℕ) → k < length kept → slice_index_or kept k 0 < length rows
  kept_below k h = facets.within k 0 h

  made_value : (k : ℕ) → (h : k < length kept) → (j : ℕ) → j < length rays → (made k h).times *ℤ on j (vector_at new_rays k) ≡ (made k h).factor *ℤ on j (kept_row k)
  made_value k h j b = reduced_value (vector_at rays j) new_lines (kept_row k) (vector_at new_rays k) (ray_on_new j b) (made k h)

  pub made_zero : (k : ℕ) → k < length kept → (j : ℕ) → j < length rays → on j (kept_row k) ≡ pos 0 → on j (vector_at new_rays k) ≡ pos 0
  made_zero k h j b z = times_zero (made k h).times (on j (vector_at new_rays k)) (made k h).factor (on j (kept_row k)) (made k h).positive (made_value k h j b) z

  pub row_zero : (k : ℕ) → k < length kept → (j : ℕ) → j < length rays → on j (vector_at new_rays k) ≡ pos 0 → on j (kept_row k) ≡ pos 0
  row_zero k h j b z = times_zero (made k h).factor (on j (kept_row k)) (made k h).times (on j (vector_at new_rays k)) (made k h).factor_positive (sym (made_value k h j b)) z

  made_least : (k : ℕ) → k < length kept → (j : ℕ) → j < length rays → pos 0 ≤ℤ on j (vector_at new_rays k)
  made_least k h j b = times_least (made k h).times (on j (vector_at new_rays k)) (made k h).factor (on j (kept_row k)) (made k h).positive (made k h).factor_positive (made_value k h j b) (row_on_ray (slice_index_or kept k 0) (kept_below k h) j b)

  made_line : (k : ℕ) → k < length kept → (j : ℕ) → j < length lines → dot (vector_at lines j) (vector_at new_rays k) ≡ pos 0
  made_line k h j b =
      times_zero (made k h).times (dot (vector_at lines j) (vector_at new_rays k)) (made k h).factor (dot (vector_at lines j) (kept_row k)) (made k h).positive
      (reduced_value (vector_at lines j) new_lines (kept_row k) (vector_at new_rays k) (λ i l. line_on_new i l j b) (made k h))
      (line_on_row (slice_index_or kept k 0) (kept_below k h) j b)

  -- a new ray isn't 0 on all rays
  made_uneven : (k : ℕ) → k < length kept → ¬ ((j : ℕ) → j < length rays → on j (vector_at new_rays k) ≡ pos 0)
  made_uneven k h z = facets.uneven k 0 h (zero_all (kept_row k) (λ j b. row_zero k h j b (z j b)))

  new_ray : (k : ℕ) → k < length kept → Member (vector_at new_rays k)
  new_ray k h = member_from width lines rays (vector_at new_rays k) ((made k h).wide ∙ wide (slice_index_or kept k 0) ([], false) (kept_below k h)) (made_line k h) (made_least k h)

  -- ---- irredundancy
  abbrev ZeroOn : List ℤ → ℕ → Type 0
  ZeroOn a j = (j < length rays) × (on j a ≡ pos 0)

  listed_value : (gs : List (List ℤ)) (j : ℕ) (r : V) → (m : In gs r) → at_ray j r ≡ on j (vector_at gs m.index)
  listed_value gs j r m = same_value (at_ray j) (value_linear (vector_at rays j)) r (columns gs m.index) m.same ∙ sym (dot_is (vector_at rays j) (vector_at gs m.index))

  pub irredundant : IsIrredundant new_lines new_rays
  irredundant i h s = by_value (greatest_ratio (λ j. on j (vector_at new_rays i)) (λ j. on j (vector_at new_rays i)) (length rays) (made_least i below) (λ j b e. e))
    where
      below : i < length kept
      below = omega (arith, h, reduced.as_many)

      others : List (List ℤ)
      others = remove new_rays i

      t : SpansBy (In new_lines) (In (remove new_rays i)) (cell (vector_at new_rays i))
      t = to_sums new_lines (remove new_rays i) (vector_at new_rays i) s

      below_kept : (m : ℕ) → m < length new_rays → m < length kept
      below_kept m l = omega (arith, l, reduced.as_many)

      line_flat : (j : ℕ) → j < length rays → (l : V) → In new_lines l → at_ray j l ≡ pos 0
      line_flat j b l m = listed_value new_lines j l m ∙ ray_on_new j b m.index m.is

      other_of : (m : ℕ) → m < length (remove new_rays i) → Other new_rays i m
      other_of m l = other_at new_rays i m h l

      other_value : (j : ℕ) (r : V) → (m : In (remove new_rays i) r) → at_ray j r ≡ on j (vector_at new_rays (other_of m.index m.is).index)
      other_value j r m = listed_value (remove new_rays i) j r m ∙ ap (λ (u : List ℤ). on j u) (other_of m.index m.is).same

      side : (j : ℕ) → j < length rays → (r : V) → In (remove new_rays i) r → pos 0 ≤ℤ at_ray j r
      side j b r m = subst (λ (z : ℤ). pos 0 ≤ℤ z) (sym (other_value j r m)) (made_least (other_of m.index m.is).index (below_kept (other_of m.index m.is).index (other_of m.index m.is).below) j b)

      on_face : Sums (In new_lines) (OnFace (In (remove new_rays i)) at_ray (ZeroOn (vector_at new_rays i))) (λ j. t.times *ℤ cell (vector_at new_rays i) j)
      on_face = face (In new_lines) (In (remove new_rays i)) at_ray (ZeroOn (vector_at new_rays i)) (λ j. value_linear (vector_at rays j)) (λ j o. line_flat j o.0) (λ j o. side j o.0) (λ j. t.times *ℤ cell (vector_at new_rays i) j) t.sums
          (λ j o. value_times (vector_at rays j) (vector_at new_rays i) t.times ∙ ap (λ (x : ℤ). t.times *ℤ x) o.1 ∙ mul-zero t.times)

      covered : (r : V) → OnFace (In (remove new_rays i)) at_ray (ZeroOn (vector_at new_rays i)) r → ⊥
      covered r o =
          let n = other_of o.0.index o.0.is in
          facets.apart i n.index below (below_kept n.index n.below) n.other
          (All-from_get_or (λ y. dot (kept_row i) y ≡ pos 0 → dot (kept_row n.index) y ≡ pos 0) rays []
          (λ j b z. dot_comm (kept_row n.index) (vector_at rays j) ∙ row_zero n.index (below_kept n.index n.below) j b
          (sym (other_value j r o.0) ∙ o.1 j (b, made_zero i below j b (dot_comm (vector_at rays j) (kept_row i) ∙ z)))))

      by_value : HasGreatest (length rays) (λ j. on j (vector_at new_rays i)) (λ j. on j (vector_at new_rays i)) → ⊥
      by_value (inl z) = made_uneven i below z
      by_value (inr g) =
          let f = find_above (In new_lines) (OnFace (In (remove new_rays i)) at_ray (ZeroOn (vector_at new_rays i))) (at_ray g.at) (value_linear (vector_at rays g.at)) (line_flat g.at g.below) (λ r o. side g.at g.below r o.0) (λ j. t.times *ℤ cell (vector_at new_rays i) j) on_face
          (subst (λ (z : ℤ). pos 0 <ℤ z) (sym (value_times (vector_at rays g.at) (vector_at new_rays i) t.times)) (mul-positive t.times (on g.at (vector_at new_rays i)) t.positive g.above)) in
          covered f.vector f.is

  -- ---- spanning
  -- a new ray that is 0 wherever the row is
  record Covering (a : List ℤ) : Type 0 where
    place : ℕ
    below : place < length kept
    covers : (j : ℕ) → j < length rays → on j a ≡ pos 0 → on j (vector_at new_rays place) ≡ pos 0

  covering : (a : List ℤ) → Member a → (q : ℕ) → q < length rays → pos 0 <ℤ on q a → Covering a
  covering a m q b p = by_row (find_above FlatRow (OnFace AnyRow at_ray (ZeroOn a)) (at_ray q) (value_linear (vector_at rays q)) (flat_value q b) (λ r o. any_value q b r o.0) (λ j. s.times *ℤ cell a j) s.sums
      (subst (λ (z : ℤ). pos 0 <ℤ z) (sym (value_times (vector_at rays q) a s.times)) (mul-positive s.times (on q a) s.positive p)))
    where
      s : SpansBy FlatRow (OnFace AnyRow at_ray (ZeroOn a)) (cell a)
      s = faced a m (ZeroOn a) (λ j o. o.0) (λ j o. o.1)

      by_row : Above (OnFace AnyRow at_ray (ZeroOn a)) (at_ray q) → Covering a
      by_row f =
          let i : ℕ = f.is.0.index in
          let e = facets.each i f.is.0.is (λ z. not_both (at_ray q f.vector) f.above (among_value (Below (length rows)) q f.vector f.is.0 ∙ zero_at (row_at rows i) z q b)) in
          record {
            place = e.0;
            below = e.1;
            covers = λ j bj z. made_zero e.0 e.1 j bj (dot_comm (vector_at rays j) (kept_row e.0) ∙ e.2 j [] bj (dot_comm (row_at rows i) (vector_at rays j) ∙ sym (among_value (Below (length rows)) j f.vector f.is.0) ∙ f.is.1 j (bj, z)));
          }

  flat_case : (a : List ℤ) → Member a → ((j : ℕ) → j < length rays → on j a ≡ pos 0) → SpansBy (In new_lines) (In new_rays) (cell a)
  flat_case a m z = spans_more (λ l n. n) (λ r n. elim n [ ]) (cell a) (zero_spanned a m z)

  step : (a : List ℤ) → Member a → ((b : List ℤ) → Member b → support (length rays) (λ j. on j b) < support (length rays) (λ j. on j a) → SpansBy (In new_lines) (In new_rays) (cell b)) → SpansBy (In new_lines) (In new_rays) (cell a)
  step a m smaller = by_value (greatest_ratio (λ j. on j a) (λ j. on j a) (length rays) (met a m) (λ j b e. e))
    where
      less_cover : (k : ℕ) → k < length kept → (g : IsGreatest (length rays) (λ j. on j a) (λ j. on j (vector_at new_rays k))) → ((j : ℕ) → j < length rays → on j a ≡ pos 0 → on j (vector_at new_rays k) ≡ pos 0) → pos 0 <ℤ on g.at (vector_at new_rays k) → SpansBy (In new_lines) (In new_rays) (cell a)
      less_cover k h g covers p =
          let x : List ℤ = vector_at new_rays k in
          let d : ℤ = on g.at (vector_at new_rays k) in
          let c : ℤ = on g.at a in
          let b : List ℤ = add (scale d a) (scale (neg_ℤ c) x) in
          let on_b : (w : List ℤ) → dot w b ≡ d *ℤ dot w a +ℤ neg_ℤ c *ℤ dot w x = λ w. dot_both w d a (neg_ℤ c) x in
          let n : Member x = new_ray k h in
          let mb : Member b = member_from width lines rays b
          (length-add (scale d a) (scale (neg_ℤ c) x) (length-scale d a ∙ m.wide ∙ sym (length-scale (neg_ℤ c) x ∙ n.wide)) ∙ length-scale (neg_ℤ c) x ∙ n.wide)
          (λ j l. on_b (vector_at lines j) ∙ rest_zero d (dot (vector_at lines j) a) (neg_ℤ c) (dot (vector_at lines j) x) (met_line width lines rays a m j l) (made_line k h j l))
          (λ j l. subst (λ (z : ℤ). pos 0 ≤ℤ z) (sym (on_b (vector_at rays j))) (rest_least d (on j a) c (on j x) (g.most j l))) in
          let less = support-lt (length rays) (λ j. on j a) (λ j. on j b) (λ j l z. on_b (vector_at rays j) ∙ rest_zero d (on j a) (neg_ℤ c) (on j x) z (covers j l z)) g.at g.below (λ z. not_both c g.above z) (on_b (vector_at rays g.at) ∙ rest_none d c) in
          spans_of_multiple d (cell a) (λ j. d *ℤ cell a j) p
          (spans_add (pos 1) c (cell b) (cell x) (λ j. d *ℤ cell a j) (omega (arith, ints)) (positive_least c g.above) (smaller b mb less)
          (spans_sums (cell x) (sums_one_ray (pos 1) (columns new_rays k) (cell x) (omega (arith, ints)) (in_at new_rays k (omega (arith, h, reduced.as_many))) (λ j. once (cell x j))))
          (λ j. rest_back d (cell a j) c (cell x j) (cell b j) (cell-both d (neg_ℤ c) a x j)))
          (λ j. refl)
        where
          positive_least : (z : ℤ) → pos 0 <ℤ z → pos 0 ≤ℤ z
          positive_least z p = omega (arith, ints, p)

          once : (z : ℤ) → z ≡ pos 1 *ℤ z
          once z = omega (arith, ints)

      by_part : (k : ℕ) → k < length kept → (g : IsGreatest (length rays) (λ j. on j a) (λ j. on j (vector_at new_rays k))) → ((j : ℕ) → j < length rays → on j a ≡ pos 0 → on j (vector_at new_rays k) ≡ pos 0) → (on g.at (vector_at new_rays k) ≡ pos 0) ⊎ (pos 0 <ℤ on g.at (vector_at new_rays k)) → SpansBy (In new_lines) (In new_rays) (cell a)
      by_part k h g covers (inl z) = absurd (made_uneven k h (λ j l. at_most_zero (on j (vector_at new_rays k)) (on g.at a) (on g.at (vector_at new_rays k)) (on j a) (made_least k h j l) g.above z (g.most j l)))
      by_part k h g covers (inr p) = less_cover k h g covers p

      by_ratio : (v : Covering a) → HasGreatest (length rays) (λ j. on j a) (λ j. on j (vector_at new_rays v.place)) → SpansBy (In new_lines) (In new_rays) (cell a)
      by_ratio v (inl z) = flat_case a m z
      by_ratio v (inr g) = by_part v.place v.below g v.covers (zero_or_positive (on g.at (vector_at new_rays v.place)) (made_least v.place v.below g.at g.below))

      by_cover : Covering a → SpansBy (In new_lines) (In new_rays) (cell a)
      by_cover v = by_ratio v (greatest_ratio (λ j. on j a) (λ j. on j (vector_at new_rays v.place)) (length rays) (met a m) v.covers)

      by_value : HasGreatest (length rays) (λ j. on j a) (λ j. on j a) → SpansBy (In new_lines) (In new_rays) (cell a)
      by_value (inl z) = flat_case a m z
      by_value (inr g) = by_cover (covering a m g.at g.below g.above)

  spanning : (n : ℕ) (a : List ℤ) → Member a → support (length rays) (λ j. on j a) < n → SpansBy (In new_lines) (In new_rays) (cell a)
  spanning zero a m h = absurd (omega (arith, h))
  spanning (suc n) a m h = step a m (λ b mb less. spanning n b mb (omega (arith, h, less)))

  -- ---- the system
  generates : Generates (ConeOf width (system_rows lines rays)) new_lines new_rays
  generates = record {
    lines_within = All-from_get_or (λ l. Member l × Member (negated l)) new_lines [] new_line;
    rays_within = All-from_get_or Member new_rays [] (λ k h. new_ray k (omega (arith, h, reduced.as_many)));
    spans = λ v c. from_sums new_lines new_rays v (spanning (suc (support (length rays) (λ j. on j v))) v c (omega arith));
  }

  echelon : IsEchelon new_lines new_rays
  echelon = record {
    pivot = basis.echelon.pivot;
    pivots = basis.echelon.pivots;
    ordered = basis.echelon.ordered;
    lines_zero = basis.echelon.lines_zero;
    rays_zero = λ i k hi hk. (made k (omega (arith, hk, reduced.as_many))).zeros i (basis.echelon.pivot i) hi (basis.echelon.pivots i hi);
  }

  pub system : IsSystem (ConeOf width (system_rows lines rays)) new_lines new_rays
  system = record {
    generates = generates;
    lineality = lineality;
    echelon = echelon;
    primitive_lines = basis.primitive;
    primitive_rays = All-from_get_or IsPrimitive new_rays [] (λ k h. (made k (omega (arith, h, reduced.as_many))).primitive);
    irredundant = irredundant;
  }

pub simplified_is_system : SimplifiedIsSystem
simplified_is_system width rows lines rays flat new_lines new_rays kept wide sys flat_in flat_of lines_wide basis facets reduced = system width rows lines rays flat new_lines new_rays kept wide sys flat_in flat_of lines_wide basis facets reduced
