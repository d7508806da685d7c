-- Two systems in minimal form that are brought to reduced echelon form: they are those of one set still, and so is their table.
use Rattle.std.proofs.Common.{◌≡◌, ◌⊎◌, inl, inr, ℕ, ◌+◌, ◌<◌, Bool, true, false, not, List, [], ◌∷◌, ◌++◌, length, map, ℤ, pos, ◌+ℤ◌, ◌*ℤ◌, ◌≤ℤ◌, ◌<ℤ◌, refl, sym, ap, ◌∙◌, subst, arith}
use Rattle.std.specs.Prelude.{All, Contains, slice_index_or}
use Rattle.std.proofs.lemmas.Int.{ints}
use Rattle.std.proofs.lemmas.List.{get_or-map, length-map, get_or_default}
use Rattle.std.proofs.lemmas.List.Elements.{All-filter, All-contains, All-from_get_or, Contains-get_or, Contains-append_cases, All-append}
use Rattle.row_core.specs.Vectors.{cell, dot}
use Rattle.row_core.specs.Lists.{Row, row_at, system_rows, vector_at, Pointwise}
use Rattle.row_core.proofs.PointwiseLemmas.{pointwise_cons, pointwise_append}
use Rattle.row_core.proofs.Ring.{mul-positive, positive_of_mul}
use Rattle.cone_laws.specs.Canon.{IsSystem}
use Rattle.cone_laws.specs.Members.{ConeOf}
use Rattle.row_core.proofs.DotLemmas.{dot_comm}
use Rattle.cone_laws.proofs.MemberLemmas.{same_cone}
use Rattle.cone_laws.proofs.SystemLists.{zero_on_lines}
use Rattle.cone_laws.proofs.UniqueLines.{pivot_same}
use Rattle.cone_laws.proofs.ValidRows.{valid_is_dual, second_of_second}
use Rattle.minimise.specs.Bases.{IsBasis, IsReduced}
use Rattle.minimise.specs.MinimalForms.{IsMinimalForm}
use Rattle.minimise.proofs.MinimalForms.{formed_is_system}
use Rattle.minimise.proofs.SecondSystems.{reduced_value, spanned_zero, times_zero}
use Rattle.sat_matrix.specs.Tables.{Table}
use Rattle.sat_matrix.specs.ZeroTables.{TellsZeros, IsZeroTable}
use Rattle.stored_systems.specs.StoredForms.{is_divisor_row}
use Rattle.stored_systems.specs.WorkLists.{divisor_row, HasPoint}
use Rattle.stored_systems.specs.Zeros.{kept_inequalities}
use Rattle.stored_systems.proofs.DivisorRow.{dot_divisor, length-divisor, divisor_is, is_divisor, divisor_primitive}
use Rattle.stored_systems.proofs.Pivots.{divisor_zero}
use Rattle.affine_maps.proofs.FilteredLists.{IsRefilled, refilled}

-- a vector with its mark
abbrev marked : Bool → List ℤ → Row
marked eq v = (v, eq)

-- ---- tables of the same zeros
pub zeros_same : (old new : List Row) (vs ws : List (List ℤ)) (table : Table) → length new ≡ length old → length ws ≡ length vs → ((i j : ℕ) → i < length vs → j < length old → (dot (row_at old j) (vector_at vs i) ≡ pos 0 → dot (row_at new j) (vector_at ws i) ≡ pos 0) × (dot (row_at new j) (vector_at ws i) ≡ pos 0 → dot (row_at old j) (vector_at vs i) ≡ pos 0)) → IsZeroTable old (length old) vs table → IsZeroTable new (length new) ws table
zeros_same old new vs ws table m n same t = record {
  columns = t.columns ∙ sym m;
  each = record {
    as_many = t.each.as_many ∙ sym n;
    each = λ i d e b. told i d e (omega (arith, b, n)) b;
  };
}
  where
    told : (i : ℕ) (d : List ℤ) (e : List Bool) → i < length vs → i < length ws → TellsZeros new (length new) (slice_index_or ws i d) (slice_index_or table.rows i e)
    told i d e b c =
        let o : TellsZeros old (length old) (slice_index_or vs i []) (slice_index_or table.rows i e) = t.each.each i [] e b in
        subst (λ (w : List ℤ). TellsZeros new (length new) w (slice_index_or table.rows i e)) (default ws i d c)
        (record {
          wide = o.wide ∙ sym m;
          zeros = λ j l. let k : j < length old = omega (arith, l, m) in (
            (λ bit. (same i j b k).0 ((o.zeros j k).0 bit)),
            (λ z. (o.zeros j k).1 ((same i j b k).1 z)),
          );
        })
      where
        default : (xs : List (List ℤ)) (i : ℕ) (d : List ℤ) → i < length xs → vector_at xs i ≡ slice_index_or xs i d
        default xs i d h = get_or_default xs i [] d h

-- ---- a vector and its form
-- both are 0 on other lines, and the new one is the old one reduced, or both are lines
pub record IsFormPair (own new_own other new_other : List (List ℤ)) (x y : List ℤ) : Type 0 where
  pub old_zero : All (λ l. dot x l ≡ pos 0) other
  pub mixed_zero : All (λ l. dot x l ≡ pos 0) new_other
  pub new_zero : All (λ l. dot y l ≡ pos 0) new_other
  pub is : (Contains own x × Contains new_own y) ⊎ IsReduced new_own x y

module _ (lines new_lines equalities new_equalities : List (List ℤ)) where
  zero_at : (x : List ℤ) (ls : List (List ℤ)) (l : List ℤ) → All (λ l. dot x l ≡ pos 0) ls → Contains ls l → dot x l ≡ pos 0
  zero_at x ls l h m = All-contains (λ l. dot x l ≡ pos 0) ls l h m

  turned_at : (x : List ℤ) (ls : List (List ℤ)) (l : List ℤ) → All (λ l. dot x l ≡ pos 0) ls → Contains ls l → dot l x ≡ pos 0
  turned_at x ls l h m = dot_comm l x ∙ zero_at x ls l h m

  -- a row is 0 on a vector exactly where its form is 0 on the vector's
  pub same_zero : (v w g h : List ℤ) → IsFormPair equalities new_equalities lines new_lines v w → IsFormPair lines new_lines equalities new_equalities g h → (dot g v ≡ pos 0 → dot h w ≡ pos 0) × (dot h w ≡ pos 0 → dot g v ≡ pos 0)
  same_zero v w g h r s = by_row r.is s.is
    where
      by_row : (Contains equalities v × Contains new_equalities w) ⊎ IsReduced new_equalities v w → (Contains lines g × Contains new_lines h) ⊎ IsReduced new_lines g h → (dot g v ≡ pos 0 → dot h w ≡ pos 0) × (dot h w ≡ pos 0 → dot g v ≡ pos 0)
      by_row (inl m) t = ((λ z. zero_at h new_equalities w s.new_zero m.1), (λ z. zero_at g equalities v s.old_zero m.0))
      by_row (inr e) (inl m) = ((λ z. turned_at w new_lines h r.new_zero m.1), (λ z. turned_at v lines g r.old_zero m.0))
      by_row (inr e) (inr f) =
          let a : f.times *ℤ dot w h ≡ f.factor *ℤ dot w g = reduced_value w new_lines g h (λ i b. r.new_zero i [] b) f in
          let b : e.times *ℤ dot g w ≡ e.factor *ℤ dot g v = reduced_value g new_equalities v w (λ i b. s.mixed_zero i [] b) e in (
            (λ z. dot_comm h w ∙ times_zero f.times (dot w h) f.factor (dot w g) f.positive a (dot_comm w g ∙ times_zero e.times (dot g w) e.factor (dot g v) e.positive b z)),
            (λ z. times_zero e.factor (dot g v) e.times (dot g w) e.factor_positive (sym b) (dot_comm g w ∙ times_zero f.factor (dot w g) f.times (dot w h) f.factor_positive (sym a) (dot_comm w h ∙ z))),
          )

-- ---- both systems
module _ (dim : ℕ) (list : List Row) (lines rays equalities inequalities new_lines new_rays new_equalities bound_rays : List (List ℤ)) (vec : IsMinimalForm (ConeOf (dim + 1) list) lines rays) (rows : IsMinimalForm (ConeOf (dim + 1) (system_rows lines rays)) equalities inequalities) (line_basis : IsBasis lines new_lines) (ray_reduced : Pointwise (IsReduced new_lines) rays new_rays) (eq_basis : IsBasis equalities new_equalities) (bound_reduced : Pointwise (IsReduced new_equalities) (kept_inequalities dim inequalities) bound_rays)
    (line_wide : All (λ (l : List ℤ). length l ≡ dim + 1) new_lines) (eq_wide : All (λ (l : List ℤ). length l ≡ dim + 1) new_equalities) (divisor : (v : List ℤ) → ConeOf (dim + 1) list v → pos 0 ≤ℤ cell v dim) (point : List ℤ) (point_in : Contains (lines ++ rays) point) (point_positive : pos 0 <ℤ cell point dim) (touching : All (λ c. (p : List ℤ) × Contains (lines ++ rays) p × (pos 0 <ℤ cell p dim) × (dot p c ≡ pos 0)) (kept_inequalities dim inequalities)) where
  -- ---- vectors
  pub spans_list : IsSystem (ConeOf (dim + 1) list) new_lines new_rays
  spans_list = formed_is_system (dim + 1) list lines rays new_lines new_rays vec line_wide line_basis ray_reduced

  -- old vectors are admitted by the old rows
  admitted : (v : List ℤ) → ConeOf (dim + 1) list v → ConeOf (dim + 1) (system_rows equalities inequalities) v
  admitted v u = (second_of_second (dim + 1) list lines rays equalities inequalities v vec.generates rows.generates).1 u

  line_at : (i : ℕ) → i < length lines → ConeOf (dim + 1) (system_rows equalities inequalities) (vector_at lines i)
  line_at i b = admitted (vector_at lines i) (vec.generates.lines_within i [] b).0

  ray_at : (i : ℕ) → i < length rays → ConeOf (dim + 1) (system_rows equalities inequalities) (vector_at rays i)
  ray_at i b = admitted (vector_at rays i) (vec.generates.rays_within i [] b)

  old_at : (g : List ℤ) → ConeOf (dim + 1) (system_rows equalities inequalities) g → All (λ l. dot g l ≡ pos 0) equalities
  old_at g u = zero_on_lines (dim + 1) equalities inequalities g u

  mixed_at : (g : List ℤ) → ConeOf (dim + 1) (system_rows equalities inequalities) g → All (λ l. dot g l ≡ pos 0) new_equalities
  mixed_at g u = All-from_get_or (λ l. dot g l ≡ pos 0) new_equalities [] (λ i b. spanned_zero g equalities (vector_at new_equalities i) (λ k l. old_at g u k [] l) (eq_basis.spanned i [] b))

  members : All (ConeOf (dim + 1) (system_rows equalities inequalities)) (lines ++ rays)
  members =
      All-append (ConeOf (dim + 1) (system_rows equalities inequalities)) lines rays
      (All-from_get_or (ConeOf (dim + 1) (system_rows equalities inequalities)) lines [] line_at)
      (All-from_get_or (ConeOf (dim + 1) (system_rows equalities inequalities)) rays [] ray_at)

  member : (p : List ℤ) → Contains (lines ++ rays) p → ConeOf (dim + 1) (system_rows equalities inequalities) p
  member p m = All-contains (ConeOf (dim + 1) (system_rows equalities inequalities)) (lines ++ rays) p members m

  -- ---- the row of the divisor
  once : (x : ℤ) → pos 1 *ℤ x ≡ pos 1 *ℤ x +ℤ pos 0
  once x = omega (arith, ints)

  divisor_reduced : IsReduced new_equalities (divisor_row dim) (divisor_row dim)
  divisor_reduced = record {
    times = pos 1;
    positive = omega (arith, ints);
    factor = pos 1;
    factor_positive = omega (arith, ints);
    factors = [];
    same = λ j. once (cell (divisor_row dim) j);
    zeros = λ i p b at. subst (λ (n : ℕ). cell (divisor_row dim) n ≡ pos 0) (pivot_same (vector_at new_equalities i) (eq_basis.echelon.pivot i) p (eq_basis.echelon.pivots i b) at)
        (divisor_zero dim new_equalities [] eq_basis.echelon (λ x b. eq_wide x [] b) point (λ x b. mixed_at point (member point point_in) x [] b) point_positive i b);
    wide = refl;
    primitive = divisor_primitive dim;
  }

  abbrev IsKept : List ℤ → Type 0
  IsKept r = not (is_divisor_row dim r) ≡ true

  -- a reduced inequality is another row, as it is 0 at a point
  other_row : (i : ℕ) → i < length bound_rays → not (is_divisor_row dim (vector_at bound_rays i)) ≡ true
  other_row i b = by_test (is_divisor_row dim (vector_at bound_rays i)) refl
    where
      o : i < length (kept_inequalities dim inequalities)
      o = omega (arith, b, bound_reduced.as_many)

      r : IsReduced new_equalities (vector_at (kept_inequalities dim inequalities) i) (vector_at bound_rays i)
      r = bound_reduced.each i [] [] o

      t : (p : List ℤ) × Contains (lines ++ rays) p × (pos 0 <ℤ cell p dim) × (dot p (vector_at (kept_inequalities dim inequalities) i) ≡ pos 0)
      t = touching i [] o

      zero : dot t.0 (vector_at bound_rays i) ≡ pos 0
      zero =
          times_zero r.times (dot t.0 (vector_at bound_rays i)) r.factor (dot t.0 (vector_at (kept_inequalities dim inequalities) i)) r.positive
          (reduced_value t.0 new_equalities (vector_at (kept_inequalities dim inequalities) i) (vector_at bound_rays i) (λ k l. mixed_at t.0 (member t.0 t.1) k [] l) r) t.3

      not_both : (x : ℤ) → pos 0 <ℤ x → x ≡ pos 0 → ⊥
      not_both x p z = omega (arith, ints, p, z)

      by_test : (b : Bool) → is_divisor_row dim (vector_at bound_rays i) ≡ b → not (is_divisor_row dim (vector_at bound_rays i)) ≡ true
      by_test true h = absurd (not_both (cell t.0 dim) t.2 (sym (dot_divisor dim t.0) ∙ dot_comm (divisor_row dim) t.0 ∙ sym (ap (λ (v : List ℤ). dot t.0 v) (divisor_is dim (vector_at bound_rays i) h)) ∙ zero))
      by_test false h = ap not h

  not_is : (b : Bool) → not b ≡ false → b ≡ true
  not_is true h = refl
  not_is false h = sym h

  pub refill : IsRefilled (λ r. not (is_divisor_row dim r)) (IsReduced new_equalities) inequalities bound_rays
  refill =
      refilled (λ r. not (is_divisor_row dim r)) (IsReduced new_equalities) (divisor_row dim) (ap not (is_divisor dim))
      (λ x h. subst (λ (v : List ℤ). IsReduced new_equalities v (divisor_row dim)) (sym (divisor_is dim x (not_is (is_divisor_row dim x) h))) divisor_reduced)
      inequalities bound_rays (All-from_get_or IsKept bound_rays [] other_row) bound_reduced

  -- ---- rows
  bounds_old : IsSystem (ConeOf (dim + 1) (system_rows lines rays)) new_equalities refill.all
  bounds_old = formed_is_system (dim + 1) (system_rows lines rays) equalities inequalities new_equalities refill.all rows eq_wide eq_basis refill.related

  valid_new : (a : List ℤ) → ConeOf (dim + 1) (system_rows lines rays) a → ConeOf (dim + 1) (system_rows new_lines new_rays) a
  valid_new a u = (valid_is_dual (dim + 1) list (length list) new_lines new_rays a spans_list.generates u.wide).0 ((valid_is_dual (dim + 1) list (length list) lines rays a vec.generates u.wide).1 u)

  valid_old : (a : List ℤ) → ConeOf (dim + 1) (system_rows new_lines new_rays) a → ConeOf (dim + 1) (system_rows lines rays) a
  valid_old a u = (valid_is_dual (dim + 1) list (length list) lines rays a vec.generates u.wide).0 ((valid_is_dual (dim + 1) list (length list) new_lines new_rays a spans_list.generates u.wide).1 u)

  pub bounds : IsSystem (ConeOf (dim + 1) (system_rows new_lines new_rays)) new_equalities refill.all
  bounds =
      (same_cone (dim + 1) (system_rows lines rays) (length (system_rows lines rays)) (system_rows new_lines new_rays) (length (system_rows new_lines new_rays)) new_equalities refill.all
      (record { first = valid_new; second = valid_old })).0 bounds_old

  pub spans : IsSystem (ConeOf (dim + 1) (system_rows new_equalities refill.all)) new_lines new_rays
  spans =
      (same_cone (dim + 1) list (length list) (system_rows new_equalities refill.all) (length (system_rows new_equalities refill.all)) new_lines new_rays
      (record {
        first = λ v u. (second_of_second (dim + 1) list new_lines new_rays new_equalities refill.all v spans_list.generates bounds.generates).1 u;
        second = λ v u. (second_of_second (dim + 1) list new_lines new_rays new_equalities refill.all v spans_list.generates bounds.generates).0 u;
      })).0 spans_list

  divisor_old : ConeOf (dim + 1) (system_rows lines rays) (divisor_row dim)
  divisor_old =
      (valid_is_dual (dim + 1) list (length list) lines rays (divisor_row dim) vec.generates (length-divisor dim)).0
      (λ v u. subst (λ (z : ℤ). pos 0 ≤ℤ z) (sym (dot_divisor dim v)) (divisor v u))

  pub divisor_in : ConeOf (dim + 1) (system_rows new_lines new_rays) (divisor_row dim)
  divisor_in = valid_new (divisor_row dim) divisor_old

  -- ---- a point among the rays
  positive_times : (t x f y : ℤ) → pos 0 <ℤ t → pos 0 <ℤ f → t *ℤ x ≡ f *ℤ y → pos 0 <ℤ y → pos 0 <ℤ x
  positive_times t x f y p q h r = positive_of_mul t x p (subst (λ (z : ℤ). pos 0 <ℤ z) (sym h) (mul-positive f y q r))

  pub new_point : HasPoint dim new_rays
  new_point = by_place (Contains-append_cases lines rays point point_in)
    where
      by_place : Contains lines point ⊎ Contains rays point → HasPoint dim new_rays
      by_place (inl m) = absurd (none (cell point dim) point_positive (sym (dot_divisor dim point) ∙ All-contains (λ l. dot (divisor_row dim) l ≡ pos 0) lines point (zero_on_lines (dim + 1) lines rays (divisor_row dim) divisor_old) m))
        where
          none : (x : ℤ) → pos 0 <ℤ x → x ≡ pos 0 → ⊥
          none x p z = omega (arith, ints, p, z)
      by_place (inr (k, b, same)) =
          let r : IsReduced new_lines (vector_at rays k) (vector_at new_rays k) = ray_reduced.each k [] [] b in
          let is : vector_at rays k ≡ point = get_or_default rays k [] point b ∙ same in
          record {
            index = k;
            below = omega (arith, b, ray_reduced.as_many);
            positive = subst (λ (z : ℤ). pos 0 <ℤ z) (dot_divisor dim (vector_at new_rays k))
                (positive_times r.times (dot (divisor_row dim) (vector_at new_rays k)) r.factor (dot (divisor_row dim) (vector_at rays k)) r.positive r.factor_positive
                (reduced_value (divisor_row dim) new_lines (vector_at rays k) (vector_at new_rays k) (λ i l. zero_on_lines (dim + 1) new_lines new_rays (divisor_row dim) divisor_in i [] l) r)
                (subst (λ (z : ℤ). pos 0 <ℤ z) (sym (ap (λ (v : List ℤ). dot (divisor_row dim) v) is ∙ dot_divisor dim point)) point_positive));
          }

  -- ---- the table
  module _ (line_many : length new_lines ≡ length lines) (eq_many : length new_equalities ≡ length equalities) where
    new_member : (h : List ℤ) → ConeOf (dim + 1) (system_rows new_equalities refill.all) h → All (λ l. dot h l ≡ pos 0) new_equalities
    new_member h u = zero_on_lines (dim + 1) new_equalities refill.all h u

    line_pair : (i : ℕ) → i < length lines → IsFormPair lines new_lines equalities new_equalities (vector_at lines i) (vector_at new_lines i)
    line_pair i b =
        let n : i < length new_lines = omega (arith, b, line_many) in
        record {
          old_zero = old_at (vector_at lines i) (line_at i b);
          mixed_zero = mixed_at (vector_at lines i) (line_at i b);
          new_zero = new_member (vector_at new_lines i) (spans.generates.lines_within i [] n).0;
          is = inl (Contains-get_or lines i [] b, Contains-get_or new_lines i [] n);
        }

    ray_pair : (i : ℕ) → i < length rays → IsFormPair lines new_lines equalities new_equalities (vector_at rays i) (vector_at new_rays i)
    ray_pair i b =
        let n : i < length new_rays = omega (arith, b, ray_reduced.as_many) in
        record {
          old_zero = old_at (vector_at rays i) (ray_at i b);
          mixed_zero = mixed_at (vector_at rays i) (ray_at i b);
          new_zero = new_member (vector_at new_rays i) (spans.generates.rays_within i [] n);
          is = inr (ray_reduced.each i [] [] b);
        }

    -- the rows that are marked so
    marked_pairs : (eq : Bool) (xs ys : List (List ℤ)) → length ys ≡ length xs → ((i : ℕ) → i < length xs → IsFormPair lines new_lines equalities new_equalities (vector_at xs i) (vector_at ys i)) → Pointwise (λ (x y : Row). IsFormPair lines new_lines equalities new_equalities x.0 y.0) (map (λ v. (v, eq)) xs) (map (λ v. (v, eq)) ys)
    marked_pairs eq xs ys many pair = record {
      as_many = length-map ys (marked eq) ∙ many ∙ sym (length-map xs (marked eq));
      each = λ i d f b.
          let o : i < length xs = omega (arith, b, length-map xs (marked eq)) in
          let n : i < length ys = omega (arith, o, many) in
          subst (λ (x : Row). IsFormPair lines new_lines equalities new_equalities x.0 (slice_index_or (map (marked eq) ys) i f).0) (sym (get_or-map (marked eq) xs i [] d o))
          (subst (λ (y : Row). IsFormPair lines new_lines equalities new_equalities (vector_at xs i) y.0) (sym (get_or-map (marked eq) ys i [] f n)) (pair i o));
    }

    gen_pairs : Pointwise (λ (x y : Row). IsFormPair lines new_lines equalities new_equalities x.0 y.0) (system_rows lines rays) (system_rows new_lines new_rays)
    gen_pairs =
        pointwise_append (λ (x y : Row). IsFormPair lines new_lines equalities new_equalities x.0 y.0) (map (λ l. (l, true)) lines) (map (λ r. (r, false)) rays) (map (λ l. (l, true)) new_lines) (map (λ r. (r, false)) new_rays)
        (marked_pairs true lines new_lines line_many line_pair) (marked_pairs false rays new_rays ray_reduced.as_many ray_pair)

    -- a valid row, and its form
    valid_pair : (v w : List ℤ) → ConeOf (dim + 1) (system_rows lines rays) v → ConeOf (dim + 1) (system_rows new_lines new_rays) w → (Contains equalities v × Contains new_equalities w) ⊎ IsReduced new_equalities v w → IsFormPair equalities new_equalities lines new_lines v w
    valid_pair v w u m is = record {
      old_zero = zero_on_lines (dim + 1) lines rays v u;
      mixed_zero = zero_on_lines (dim + 1) new_lines new_rays v (valid_new v u);
      new_zero = zero_on_lines (dim + 1) new_lines new_rays w m;
      is = is;
    }

    equality_pairs : Pointwise (IsFormPair equalities new_equalities lines new_lines) equalities new_equalities
    equality_pairs = record {
      as_many = eq_many;
      each = λ i d f b.
          let n : i < length new_equalities = omega (arith, b, eq_many) in
          valid_pair (slice_index_or equalities i d) (slice_index_or new_equalities i f) (rows.generates.lines_within i d b).0 (bounds.generates.lines_within i f n).0 (inl (Contains-get_or equalities i d b, Contains-get_or new_equalities i f n));
    }

    kept_old : All (ConeOf (dim + 1) (system_rows lines rays)) (kept_inequalities dim inequalities)
    kept_old = All-filter (λ r. not (is_divisor_row dim r)) (ConeOf (dim + 1) (system_rows lines rays)) inequalities rows.generates.rays_within

    kept_new : All (ConeOf (dim + 1) (system_rows new_lines new_rays)) bound_rays
    kept_new = subst (All (ConeOf (dim + 1) (system_rows new_lines new_rays))) refill.kept (All-filter (λ r. not (is_divisor_row dim r)) (ConeOf (dim + 1) (system_rows new_lines new_rays)) refill.all bounds.generates.rays_within)

    inequality_pairs : Pointwise (IsFormPair equalities new_equalities lines new_lines) (kept_inequalities dim inequalities) bound_rays
    inequality_pairs = record {
      as_many = bound_reduced.as_many;
      each = λ i d f b. valid_pair (slice_index_or (kept_inequalities dim inequalities) i d) (slice_index_or bound_rays i f) (kept_old i d b) (kept_new i f (omega (arith, b, bound_reduced.as_many))) (inr (bound_reduced.each i d f b));
    }

    row_pairs : Pointwise (IsFormPair equalities new_equalities lines new_lines) (divisor_row dim ∷ equalities ++ kept_inequalities dim inequalities) (divisor_row dim ∷ new_equalities ++ bound_rays)
    row_pairs =
        pointwise_cons (IsFormPair equalities new_equalities lines new_lines) (divisor_row dim) (equalities ++ kept_inequalities dim inequalities) (divisor_row dim) (new_equalities ++ bound_rays)
        (valid_pair (divisor_row dim) (divisor_row dim) divisor_old divisor_in (inr divisor_reduced))
        (pointwise_append (IsFormPair equalities new_equalities lines new_lines) equalities (kept_inequalities dim inequalities) new_equalities bound_rays equality_pairs inequality_pairs)

    pub formed_zeros : (table : Table) → IsZeroTable (system_rows lines rays) (length (system_rows lines rays)) (divisor_row dim ∷ equalities ++ kept_inequalities dim inequalities) table → IsZeroTable (system_rows new_lines new_rays) (length (system_rows new_lines new_rays)) (divisor_row dim ∷ new_equalities ++ bound_rays) table
    formed_zeros table t =
        zeros_same (system_rows lines rays) (system_rows new_lines new_rays) (divisor_row dim ∷ equalities ++ kept_inequalities dim inequalities) (divisor_row dim ∷ new_equalities ++ bound_rays) table gen_pairs.as_many row_pairs.as_many
        (λ i j b c. same_zero lines new_lines equalities new_equalities (vector_at (divisor_row dim ∷ equalities ++ kept_inequalities dim inequalities) i) (vector_at (divisor_row dim ∷ new_equalities ++ bound_rays) i) (row_at (system_rows lines rays) j) (row_at (system_rows new_lines new_rays) j)
        (row_pairs.each i [] [] b) (gen_pairs.each j ([], false) ([], false) c)) t
