-- Where a point is 0, the points that cover it are 0.
use Rattle.std.proofs.Common.{◌≡◌, ℕ, suc, ◌+◌, ◌<◌, List, [], length, slice_index_or, filter, not, Bool, true, false, ℤ, pos, ◌+ℤ◌, ◌*ℤ◌, ◌≤ℤ◌, ◌<ℤ◌, All, refl, sym, ap, ◌∙◌, subst, arith}
use mathlib.Core.Bool.{true≢false}
use Rattle.std.proofs.lemmas.Int.{ints}
use Rattle.std.proofs.lemmas.List.{get_or_default}
use Rattle.row_core.specs.Vectors.{cell, dot}
use Rattle.row_core.specs.Lists.{Row}
use Rattle.cone_laws.specs.Cones.{Upto, Spans}
use Rattle.cone_laws.specs.Canon.{IsSystem}
use Rattle.cone_laws.proofs.Ring.{mul_comm, mul-zero, at_least_zero_of_mul, zero_of_mul}
use Rattle.cone_laws.proofs.Sums.{V, Same, SpansBy, IsLinear, same_value, sums_zero}
use Rattle.cone_laws.proofs.Columns.{value, value_linear, dot_is, dot_comm}
use Rattle.cone_laws.proofs.Bridge.{In, to_sums}
use Rattle.cone_laws.proofs.UptoRows.{Asks}
use Rattle.cone_laws.proofs.Bipolar.{admitted_is_spanned}
use Rattle.nnc_enc.specs.Encoding.{raised, lowered, IsEncoded}
use Rattle.cone_laws.specs.Duality.{lines_of, rays_of}
use Rattle.std.proofs.lemmas.List.Elements.{All-map, All-filter, filter_passes, All-from_get_or}
use Rattle.nnc_enc.proofs.PositiveParts.{zero_part}
use Rattle.nnc_enc.specs.StrongRows.{Covers}
use Rattle.nnc_enc.proofs.EncodedRows.{dot_by_height, remove_insert, length_insert, cell_insert}
use Rattle.nnc_enc.proofs.ClosedRows.{IsClosed, least_on, lowered_wide, value_flat}
use Rattle.nnc_enc.proofs.Relaxed.{no_height, same_level_right}
use Rattle.nnc_enc.proofs.Relaxed.{PointAt_of}

module _ (dim : ℕ) (gens : List Row) (lines rays : List (List ℤ)) (wide : (j : ℕ) → j < length gens → length (slice_index_or gens j ([], false)).0 ≡ dim + 2) (system : IsSystem (Upto (dim + 2) gens (length gens)) lines rays) where
  abbrev gen : ℕ → List ℤ
  gen j = (slice_index_or gens j ([], false)).0

  abbrev D : List ℤ → Type 0
  D = Upto (dim + 2) gens (length gens)

  abbrev PointAt : ℕ → Type 0
  PointAt = PointAt_of dim rays

  module _ (enc : IsEncoded dim (Upto (dim + 2) gens (length gens))) (point : List ℤ) (point_in : Upto (dim + 2) gens (length gens) point) (point_above : pos 0 <ℤ cell point dim) where
    pub vector_closed : (a : List ℤ) → D a → IsClosed dim gens lines rays wide system (cell (lowered dim a))
    vector_closed a u = record { row = lowered dim a; row_wide = lowered_wide dim gens lines rays wide system a u.wide; member = enc.flat a u; same = λ j. refl }

    -- the value of a row of the list on a vector, by the value without column e
    pub value_on : (j : ℕ) → j < length gens → (v : List ℤ) → D v → dot (gen j) v ≡ dot (lowered dim (gen j)) (lowered dim v) +ℤ cell (gen j) dim *ℤ cell v dim
    value_on j h v u = dot_by_height dim (gen j) v (omega (arith, wide j h)) (omega (arith, u.wide))

    flat_value : (j : ℕ) → j < length gens → (v : List ℤ) → D v → dot (gen j) (raised dim (lowered dim v) (pos 0)) ≡ dot (lowered dim (gen j)) (lowered dim v)
    flat_value j h v u = value_flat dim gens lines rays wide system j h (lowered dim v) (lowered_wide dim gens lines rays wide system v u.wide)

    least_height : (x y c e : ℤ) → x ≡ y +ℤ c *ℤ e → pos 0 ≤ℤ x → y ≡ pos 0 → pos 0 <ℤ e → pos 0 ≤ℤ c
    least_height x y c e h p z q = at_least_zero_of_mul e c q (omega (arith, ints, h, p, z, mul_comm e c))

    -- a row that is 0 on a point without column e is at least 0 in that column
    point_level : (v : List ℤ) → D v → pos 0 <ℤ cell v dim → (j : ℕ) → j < length gens → dot (lowered dim (gen j)) (lowered dim v) ≡ pos 0 → pos 0 ≤ℤ cell (gen j) dim
    point_level v u p j h z = least_height (dot (gen j) v) (dot (lowered dim (gen j)) (lowered dim v)) (cell (gen j) dim) (cell v dim) (value_on j h v u) (least_on dim gens lines rays wide system v u j h) z p

    zero_height : (x y c e : ℤ) → x ≡ y +ℤ c *ℤ e → x ≡ pos 0 → y ≡ pos 0 → pos 0 <ℤ e → c ≡ pos 0
    zero_height x y c e h p z q = zero_of_mul e c q (omega (arith, ints, h, p, z, mul_comm e c))

    pub eq_zero : (j : ℕ) → j < length gens → (slice_index_or gens j ([], false)).1 ≡ true → (v : List ℤ) → D v → dot (gen j) v ≡ pos 0
    eq_zero j h e v u = subst (λ (b : Bool). Asks b (dot (gen j) v)) e (u.meets j ([], false) (omega arith) h)

    -- an equality of the list is 0 in column e
    pub eq_height : (j : ℕ) → j < length gens → (slice_index_or gens j ([], false)).1 ≡ true → cell (gen j) dim ≡ pos 0
    eq_height j h e =
        zero_height (dot (gen j) point) (dot (lowered dim (gen j)) (lowered dim point)) (cell (gen j) dim) (cell point dim) (value_on j h point point_in) (eq_zero j h e point point_in)
        (sym (flat_value j h point point_in) ∙ eq_zero j h e (raised dim (lowered dim point) (pos 0)) (enc.flat point point_in)) point_above

    -- ---- the rows of the list, as what spans
    pub record IsRowOf (b : Bool) (v : List ℤ) : Type 0 where
      pub number : ℕ
      pub below : number < length gens
      pub same : v ≡ (slice_index_or gens number ([], false)).0
      pub mark : (slice_index_or gens number ([], false)).1 ≡ b

    pub record IsListed (g : Row) : Type 0 where
      pub number : ℕ
      pub below : number < length gens
      pub same : slice_index_or gens number ([], false) ≡ g

    listed : All IsListed gens
    listed j d h = record { number = j; below = h; same = get_or_default gens j ([], false) d h }

    row_of : (g : Row) (b : Bool) → IsListed g → g.1 ≡ b → IsRowOf b g.0
    row_of g b c e = record { number = c.number; below = c.below; same = sym (ap (λ (r : Row). r.0) c.same); mark = ap (λ (r : Row). r.1) c.same ∙ e }

    not_is : (b : Bool) → not b ≡ true → b ≡ false
    not_is true e = absurd (true≢false (sym e))
    not_is false e = refl

    lines_listed : All (IsRowOf true) (lines_of gens)
    lines_listed = All-map (IsRowOf true) (λ g. g.0) (filter (λ g. g.1) gens)
        (λ i d h. row_of (slice_index_or (filter (λ g. g.1) gens) i d) true (All-filter (λ g. g.1) IsListed gens listed i d h) (filter_passes (λ g. g.1) gens i d h))

    rays_listed : All (IsRowOf false) (rays_of gens)
    rays_listed = All-map (IsRowOf false) (λ g. g.0) (filter (λ g. not g.1) gens)
        (λ i d h. row_of (slice_index_or (filter (λ g. not g.1) gens) i d) false (All-filter (λ g. not g.1) IsListed gens listed i d h) (not_is (slice_index_or (filter (λ g. not g.1) gens) i d).1 (filter_passes (λ g. not g.1) gens i d h)))

    -- a row of the list without column e, and 0 there, is spanned by the list
    flat_row : ℕ → List ℤ
    flat_row j = raised dim (lowered dim (gen j)) (pos 0)

    flat_row_wide : (j : ℕ) → j < length gens → length (raised dim (lowered dim (gen j)) (pos 0)) ≡ dim + 2
    flat_row_wide j h = length_insert dim (lowered dim (gen j)) (pos 0) (omega (arith, lowered_wide dim gens lines rays wide system (gen j) (wide j h))) ∙ ap suc (lowered_wide dim gens lines rays wide system (gen j) (wide j h)) ∙ omega arith

    flat_row_value : (j : ℕ) → j < length gens → (v : List ℤ) → D v → dot v (raised dim (lowered dim (gen j)) (pos 0)) ≡ dot (lowered dim (gen j)) (lowered dim v)
    flat_row_value j h v u =
        dot_by_height dim v (raised dim (lowered dim (gen j)) (pos 0)) (omega (arith, u.wide)) (omega (arith, flat_row_wide j h))
        ∙ ap (λ (q : List ℤ). dot (lowered dim v) q +ℤ cell v dim *ℤ cell (raised dim (lowered dim (gen j)) (pos 0)) dim) (remove_insert dim (lowered dim (gen j)) (pos 0) (omega (arith, lowered_wide dim gens lines rays wide system (gen j) (wide j h))))
        ∙ ap (λ (y : ℤ). dot (lowered dim v) (lowered dim (gen j)) +ℤ cell v dim *ℤ y) (cell_insert dim (lowered dim (gen j)) (pos 0) (omega (arith, lowered_wide dim gens lines rays wide system (gen j) (wide j h))))
        ∙ no_height (dot (lowered dim v) (lowered dim (gen j))) (cell v dim) (dot (lowered dim v) (lowered dim (gen j)) +ℤ cell v dim *ℤ pos 0) refl
        ∙ dot_comm (lowered dim v) (lowered dim (gen j))

    flat_row_spanned : (j : ℕ) → j < length gens → Spans (lines_of gens) (rays_of gens) (raised dim (lowered dim (gen j)) (pos 0))
    flat_row_spanned j h =
        admitted_is_spanned (dim + 2) gens (raised dim (lowered dim (gen j)) (pos 0))
        (All-from_get_or (λ g. length g.0 ≡ dim + 2) gens ([], false) wide) (flat_row_wide j h)
        (λ v u. subst (λ (z : ℤ). pos 0 ≤ℤ z) (sym (flat_row_value j h v u ∙ sym (flat_value j h v u))) (least_on dim gens lines rays wide system (raised dim (lowered dim v) (pos 0)) (enc.flat v u) j h))

    pub column_linear : (n : ℕ) → IsLinear (λ v. v n)
    column_linear n = record { zero = λ v h. h n; more = λ w u v k h. h n; multiple = λ w u k h. h n }

    -- ---- where a point is 0, the points that it is covered by are 0
    module _ (p q : List ℤ) (pd : D p) (qd : D q) (above : pos 0 <ℤ cell p dim) (covers : Covers dim gens q p) where
      row_same : (b : Bool) (vs : List (List ℤ)) → All (IsRowOf b) vs → (r : V) → In vs r → (n : ℕ) × (n < length gens) × ((slice_index_or gens n ([], false)).1 ≡ b) × Same r (cell (slice_index_or gens n ([], false)).0)
      row_same b vs a r m = by_row (a m.index [] m.is)
        where
          by_row : IsRowOf b (slice_index_or vs m.index []) → (n : ℕ) × (n < length gens) × ((slice_index_or gens n ([], false)).1 ≡ b) × Same r (cell (slice_index_or gens n ([], false)).0)
          by_row c = (c.number, c.below, c.mark, λ j. m.same j ∙ ap (λ (u : List ℤ). cell u j) c.same)

      -- the value of a vector on a row of the list
      on_row : (v : List ℤ) (r : V) (n : ℕ) → Same r (cell (gen n)) → value v r ≡ dot (gen n) v
      on_row v r n e = same_value (value v) (value_linear v) r (cell (gen n)) e ∙ sym (dot_is v (gen n)) ∙ dot_comm v (gen n)

      line_value : (v : List ℤ) → D v → (r : V) → In (lines_of gens) r → value v r ≡ pos 0
      line_value v u r m = let c = row_same true (lines_of gens) lines_listed r m in on_row v r c.0 c.3 ∙ eq_zero c.0 c.1 c.2 v u

      ray_least : (v : List ℤ) → D v → (r : V) → In (rays_of gens) r → pos 0 ≤ℤ value v r
      ray_least v u r m = let c = row_same false (rays_of gens) rays_listed r m in subst (λ (z : ℤ). pos 0 ≤ℤ z) (sym (on_row v r c.0 c.3)) (least_on dim gens lines rays wide system v u c.0 c.1)

      line_column : (r : V) → In (lines_of gens) r → r dim ≡ pos 0
      line_column r m = let c = row_same true (lines_of gens) lines_listed r m in c.3 dim ∙ eq_height c.0 c.1 c.2

      flat_in : (v : List ℤ) → D v → D (raised dim (lowered dim v) (pos 0))
      flat_in v u = enc.flat v u

      -- a row that is 0 on p without column e
      zero_row : (r : V) → In (rays_of gens) r × (value (raised dim (lowered dim p) (pos 0)) r ≡ pos 0) → (n : ℕ) × (n < length gens) × Same r (cell (gen n)) × (dot (lowered dim (gen n)) (lowered dim p) ≡ pos 0)
      zero_row r (m, z) =
          let c = row_same false (rays_of gens) rays_listed r m in
          (c.0, c.1, c.3, sym (flat_value c.0 c.1 p pd) ∙ sym (on_row (raised dim (lowered dim p) (pos 0)) r c.0 c.3) ∙ z)

      column_least : (r : V) → In (rays_of gens) r × (value (raised dim (lowered dim p) (pos 0)) r ≡ pos 0) → pos 0 ≤ℤ r dim
      column_least r m = let c = zero_row r m in subst (λ (z : ℤ). pos 0 ≤ℤ z) (sym (c.2 dim)) (point_level p pd above c.0 c.1 c.3)

      zero_on_q : (r : V) → (In (rays_of gens) r × (value (raised dim (lowered dim p) (pos 0)) r ≡ pos 0)) × (r dim ≡ pos 0) → value (raised dim (lowered dim q) (pos 0)) r ≡ pos 0
      zero_on_q r (m, e) =
          let c = zero_row r m in
          let level : cell (gen c.0) dim ≡ pos 0 = sym (c.2 dim) ∙ e in
          let on_p : dot (gen c.0) p ≡ pos 0 = same_level_right (dot (gen c.0) p) (dot (lowered dim (gen c.0)) (lowered dim p)) (cell (gen c.0) dim) (cell p dim) (value_on c.0 c.1 p pd) level ∙ c.3 in
          let on_q : dot (gen c.0) q ≡ pos 0 = covers c.0 c.1 level on_p in
          on_row (raised dim (lowered dim q) (pos 0)) r c.0 c.2 ∙ flat_value c.0 c.1 q qd
          ∙ sym (same_level_right (dot (gen c.0) q) (dot (lowered dim (gen c.0)) (lowered dim q)) (cell (gen c.0) dim) (cell q dim) (value_on c.0 c.1 q qd) level) ∙ on_q

      times_zero : (t x : ℤ) → x ≡ pos 0 → t *ℤ x ≡ pos 0
      times_zero t x e = ap (λ (z : ℤ). t *ℤ z) e ∙ mul-zero t

      pub zero_on_covered : (j : ℕ) → j < length gens → dot (lowered dim (gen j)) (lowered dim p) ≡ pos 0 → dot (lowered dim (gen j)) (lowered dim q) ≡ pos 0
      zero_on_covered j h z = by_span (to_sums (lines_of gens) (rays_of gens) (raised dim (lowered dim (gen j)) (pos 0)) (flat_row_spanned j h))
        where
          flat_dot : (v : List ℤ) → D v → value (raised dim (lowered dim v) (pos 0)) (cell (raised dim (lowered dim (gen j)) (pos 0))) ≡ dot (lowered dim (gen j)) (lowered dim v)
          flat_dot v u =
              sym (dot_is (raised dim (lowered dim v) (pos 0)) (raised dim (lowered dim (gen j)) (pos 0)))
              ∙ flat_row_value j h (raised dim (lowered dim v) (pos 0)) (flat_in v u)
              ∙ ap (dot (lowered dim (gen j))) (remove_insert dim (lowered dim v) (pos 0) (omega (arith, lowered_wide dim gens lines rays wide system v u.wide)))

          by_span : SpansBy (In (lines_of gens)) (In (rays_of gens)) (cell (raised dim (lowered dim (gen j)) (pos 0))) → dot (lowered dim (gen j)) (lowered dim q) ≡ pos 0
          by_span s =
              sym (flat_dot q qd) ∙ zero_of_mul s.times (value (raised dim (lowered dim q) (pos 0)) (cell (raised dim (lowered dim (gen j)) (pos 0)))) s.positive
              (sym ((value_linear (raised dim (lowered dim q) (pos 0))).multiple (λ n. s.times *ℤ cell (raised dim (lowered dim (gen j)) (pos 0)) n) (cell (raised dim (lowered dim (gen j)) (pos 0))) s.times (λ n. refl))
              ∙ sums_zero (value (raised dim (lowered dim q) (pos 0))) (value_linear (raised dim (lowered dim q) (pos 0))) (line_value (raised dim (lowered dim q) (pos 0)) (flat_in q qd)) zero_on_q
              (λ n. s.times *ℤ cell (raised dim (lowered dim (gen j)) (pos 0)) n)
              (zero_part (λ v. v dim) (column_linear dim) line_column column_least (λ n. s.times *ℤ cell (raised dim (lowered dim (gen j)) (pos 0)) n)
              (zero_part (value (raised dim (lowered dim p) (pos 0))) (value_linear (raised dim (lowered dim p) (pos 0))) (line_value (raised dim (lowered dim p) (pos 0)) (flat_in p pd)) (ray_least (raised dim (lowered dim p) (pos 0)) (flat_in p pd))
              (λ n. s.times *ℤ cell (raised dim (lowered dim (gen j)) (pos 0)) n) s.sums
              ((value_linear (raised dim (lowered dim p) (pos 0))).multiple (λ n. s.times *ℤ cell (raised dim (lowered dim (gen j)) (pos 0)) n) (cell (raised dim (lowered dim (gen j)) (pos 0))) s.times (λ n. refl)
              ∙ times_zero s.times (value (raised dim (lowered dim p) (pos 0)) (cell (raised dim (lowered dim (gen j)) (pos 0)))) (flat_dot p pd ∙ z)))
              (times_zero s.times (cell (raised dim (lowered dim (gen j)) (pos 0)) dim) (cell_insert dim (lowered dim (gen j)) (pos 0) (omega (arith, lowered_wide dim gens lines rays wide system (gen j) (wide j h)))))))
