-- The generators of a set and the axis of a variable under a map that gives the variable up: a minimal form for what it makes of them, with the table of its zeros.
use Rattle.std.proofs.Common.{◌≡◌, ◌≢◌, ◌⊎◌, inl, inr, ℕ, zero, suc, ◌+◌, ◌<◌, ◌≤◌, List, [], ◌∷◌, ◌++◌, length, map, replicate, slice_index_or, slice_set, true, false, ℤ, pos, neg_ℤ, ◌+ℤ◌, ◌*ℤ◌, ◌≤ℤ◌, ◌<ℤ◌, All, refl, sym, ap, ◌∙◌, subst, arith}
use Rattle.std.proofs.lemmas.Int.{ints}
use Rattle.std.proofs.lemmas.Bool.{cases_eq}
use Rattle.std.proofs.lemmas.List.{length-append, map-append, get_or-append-add, get_or-set_same, get_or-set_other}
use Rattle.std.proofs.lemmas.List.Elements.{All-nil, All-cons, All-append, All-head, All-tail}
use Rattle.row_core.specs.Vectors.{cell, dot, scale}
use Rattle.row_core.specs.Content.{IsPrimitive, IsPrimitiveOf}
use Rattle.row_core.specs.Lists.{Row, Rows, row_at, vectors, vector_at, Pointwise}
use Rattle.row_core.specs.MarkedLists.{AreLists}
use Rattle.row_core.proofs.CellLemmas.{cell-add}
use Rattle.row_core.proofs.DotLemmas.{dot_comm}
use Rattle.row_core.proofs.PointwiseLemmas.{pointwise_nil, pointwise_cons, pointwise_append}
use Rattle.row_core.proofs.Ring.{ring, mul-zero, mul-at_least_zero, zero_of_mul, at_least_zero_of_mul}
use Rattle.cone_laws.specs.Cones.{Meets}
use Rattle.cone_laws.specs.Members.{ConeOf}
use Rattle.cone_laws.proofs.Columns.{cell-scale, length-scale, dot-multiple}
use Rattle.cone_laws.proofs.UniqueSystems.{upto_cone}
use Rattle.cone_laws.proofs.UptoRows.{upto_zero}
use Rattle.minimise.specs.MinimalForms.{IsMinimalForm}
use Rattle.minimise.proofs.SecondSystems.{times_zero}
use Rattle.sat_matrix.specs.Tables.{Table}
use Rattle.sat_matrix.specs.ZeroTables.{IsZeroTable}
use Rattle.chernikova.specs.declared.cone.Cone.{Cone}
use Rattle.chernikova.specs.Conversion.{IsConverted}
use Rattle.gens_sys.specs.Generators.{Generator, Generators}
use Rattle.stored_systems.specs.Axes.{axis}
use Rattle.stored_systems.specs.WorkLists.{generator_row, generator_list}
use Rattle.mapped_systems.specs.Maps.{substituted, pulled_back}
use Rattle.mapped_systems.specs.MappedLists.{AreMapped, nothing, left_out, kept}
use Rattle.mapped_systems.proofs.CarriedLists.{IsTurned}
use Rattle.mapped_systems.proofs.ColumnLemmas.{dot-pulled_back, length-pulled_back}
use Rattle.mapped_systems.proofs.PulledSets.{stored_value, positive_times}
use Rattle.poly_pair.specs.Polyhedra.{Polyhedron}
use Rattle.affine_maps.specs.Collapsing.{IsPlane, GainsPlane, IsFormOf, freed_list, collapsed_list}
use Rattle.affine_maps.proofs.FormedPairs.{zeros_same}
use Rattle.affine_maps.proofs.FreedSystems.{freed_form}

-- ---- the plane
pub plane_of : (var : ℕ) (expr : List ℤ) (den : ℤ) (row : List ℤ) → var < length expr → row ≡ slice_set (scale (neg_ℤ (pos 1)) expr) var den → length row ≡ length expr → IsPlane var expr den row
plane_of var expr den row below e wide = record {
  wide = wide;
  own = ap (λ (v : List ℤ). cell v var) e ∙ get_or-set_same (scale (neg_ℤ (pos 1)) expr) var den (pos 0) (omega (arith, below, length-scale (neg_ℤ (pos 1)) expr));
  others = λ j ne. ap (λ (v : List ℤ). cell v j) e ∙ get_or-set_other (scale (neg_ℤ (pos 1)) expr) var j den (pos 0) ne ∙ cell-scale (neg_ℤ (pos 1)) expr j ∙ omega (arith, ints);
}

-- ---- numbers
at_variable : (d x p s e q : ℤ) → p ≡ d *ℤ s +ℤ x *ℤ e → s ≡ pos 0 → e ≡ pos 0 → q ≡ d → d *ℤ x ≡ p +ℤ x *ℤ q
at_variable d x p s e q h f g k =
    let a = ap (λ (z : ℤ). d *ℤ z) f in
    let b = ap (λ (z : ℤ). x *ℤ z) g in
    let c = ap (λ (z : ℤ). x *ℤ z) k in
    let r : x *ℤ d ≡ d *ℤ x = simp ring in
    omega (arith, ints, h, a, b, c, r)

at_other : (d x y p s e q : ℤ) → p ≡ d *ℤ s +ℤ y *ℤ e → s ≡ x → q ≡ neg_ℤ e → d *ℤ x ≡ p +ℤ y *ℤ q
at_other d x y p s e q h f g =
    let a = ap (λ (z : ℤ). d *ℤ z) f in
    let c = ap (λ (z : ℤ). y *ℤ z) g in
    let r : y *ℤ neg_ℤ e ≡ neg_ℤ (y *ℤ e) = simp ring in
    omega (arith, ints, h, a, c, r)

level_cell : (d x y z w : ℤ) → d *ℤ x ≡ y +ℤ z *ℤ w → z ≡ pos 0 → y ≡ d *ℤ x
level_cell d x y z w e f = let a = ap (λ (u : ℤ). u *ℤ w) f in omega (arith, ints, e, a)

own_level : (d y z w : ℤ) → d *ℤ z ≡ y +ℤ z *ℤ w → w ≡ d → y ≡ pos 0
own_level d y z w e f =
    let a = ap (λ (u : ℤ). z *ℤ u) f in
    let r : z *ℤ d ≡ d *ℤ z = simp ring in
    omega (arith, ints, e, a, r)

none_and : (a b c : ℤ) → b ≡ c → (pos 0 *ℤ a) +ℤ b ≡ c
none_and a b c e = omega (arith, ints, e)

one_and : (a b : ℤ) → b ≡ pos 0 → (pos 1 *ℤ a) +ℤ b ≡ a
one_and a b e = omega (arith, ints, e)

no_value : (x y : ℤ) → x ≡ pos 0 → y ≡ pos 0 → pos 1 *ℤ x ≡ y
no_value x y e f = omega (arith, ints, e, f)

pub dot_zeros : (n : ℕ) (v : List ℤ) → dot (replicate n (pos 0)) v ≡ pos 0
dot_zeros zero v = refl
dot_zeros (suc n) [] = refl
dot_zeros (suc n) (a ∷ v) = none_and a (dot (replicate n (pos 0)) v) (pos 0) (dot_zeros n v)

dot_axis : (n i : ℕ) (v : List ℤ) → i < n → dot (axis n i) v ≡ cell v i
dot_axis zero i v h = absurd (omega (arith, h))
dot_axis (suc n) zero [] h = refl
dot_axis (suc n) zero (a ∷ v) h = one_and a (dot (replicate (suc n) (pos 0)) v) (dot_zeros (suc n) v)
dot_axis (suc n) (suc i) [] h = refl
dot_axis (suc n) (suc i) (a ∷ v) h = none_and a (dot (axis n i) v) (cell v i) (dot_axis n i v (omega (arith, h)))

zero_cells : (a v : List ℤ) → ((j : ℕ) → cell v j ≡ pos 0) → dot a v ≡ pos 0
zero_cells a v z = dot-multiple a v v (pos 0) (λ j. z j ∙ omega (arith, ints)) ∙ omega (arith, ints)

-- ---- rows whose values are those of others at sources
module _ (width : ℕ) (h : List ℤ → List ℤ) where
  abbrev TurnsRow : Row → Row → Type 0
  TurnsRow x y = IsTurned width h x.0 y.0 × (y.1 ≡ x.1)

  meets_source : (v : List ℤ) → length v ≡ width → (x y : Row) → IsTurned width h x.0 y.0 → y.1 ≡ x.1 → Meets v y → Meets (h v) x
  meets_source v w (a, true) (b, true) t e m = sym (t.value v w) ∙ ap (λ (z : ℤ). t.times *ℤ z) m ∙ mul-zero t.times
  meets_source v w (a, false) (b, false) t e m = subst (λ (z : ℤ). pos 0 ≤ℤ z) (t.value v w) (mul-at_least_zero t.times (dot b v) (let p = t.positive in omega (arith, ints, p)) m)
  meets_source v w (a, true) (b, false) t e m = absurd cc
  meets_source v w (a, false) (b, true) t e m = absurd cc

  meets_image : (v : List ℤ) → length v ≡ width → (x y : Row) → IsTurned width h x.0 y.0 → y.1 ≡ x.1 → Meets (h v) x → Meets v y
  meets_image v w (a, true) (b, true) t e m = zero_of_mul t.times (dot b v) t.positive (t.value v w ∙ m)
  meets_image v w (a, false) (b, false) t e m = at_least_zero_of_mul t.times (dot b v) t.positive (subst (λ (z : ℤ). pos 0 ≤ℤ z) (sym (t.value v w)) m)
  meets_image v w (a, true) (b, false) t e m = absurd cc
  meets_image v w (a, false) (b, true) t e m = absurd cc

  module _ (old new : List Row) (rows : Pointwise (λ (x y : Row). IsTurned width h x.0 y.0 × (y.1 ≡ x.1)) old new) where
    source_within : (v : List ℤ) → length (h v) ≡ width → ConeOf width new v → ConeOf width old (h v)
    source_within v w u = record { wide = w; meets = λ m d low high. let p = rows.each m d d high in meets_source v u.wide (slice_index_or old m d) (slice_index_or new m d) p.0 p.1 (u.meets m d low (omega (arith, high, rows.as_many))) }

    image_within : (v : List ℤ) → length v ≡ width → ConeOf width old (h v) → ConeOf width new v
    image_within v w u = record { wide = w; meets = λ m d low high. let p = rows.each m d d (omega (arith, high, rows.as_many)) in meets_image v w (slice_index_or old m d) (slice_index_or new m d) p.0 p.1 (u.meets m d low (omega (arith, high, rows.as_many))) }

    -- the zeros of vectors of which the map gives multiples
    module _ (den : ℤ) (positive : pos 0 <ℤ den) (vs : List (List ℤ)) (wide : (i : ℕ) → i < length vs → length (vector_at vs i) ≡ width) (cells : (i : ℕ) → i < length vs → (j : ℕ) → cell (h (vector_at vs i)) j ≡ den *ℤ cell (vector_at vs i) j) where
      value : (i j : ℕ) (b : i < length vs) (c : j < length old) → (rows.each j ([], false) ([], false) c).0.times *ℤ dot (row_at new j) (vector_at vs i) ≡ den *ℤ dot (row_at old j) (vector_at vs i)
      value i j b c = (rows.each j ([], false) ([], false) c).0.value (vector_at vs i) (wide i b) ∙ dot-multiple (row_at old j) (h (vector_at vs i)) (vector_at vs i) den (cells i b)

      pub same_zeros : (table : Table) → IsZeroTable old (length old) vs table → IsZeroTable new (length new) vs table
      same_zeros table = zeros_same old new vs vs table rows.as_many refl (λ i j b c.
          let t = (rows.each j ([], false) ([], false) c).0 in (
            (λ z. times_zero t.times (dot (row_at new j) (vector_at vs i)) den (dot (row_at old j) (vector_at vs i)) t.positive (value i j b c) z),
            (λ z. times_zero den (dot (row_at old j) (vector_at vs i)) t.times (dot (row_at new j) (vector_at vs i)) positive (sym (value i j b c)) z),
          ))

-- ---- the lists
module _ (var : ℕ) (expr : List ℤ) (den : ℤ) (width : ℕ) (below : var < width) where
  abbrev H : List ℤ → List ℤ
  H = pulled_back var expr den

  abbrev F : List ℤ → List ℤ
  F = substituted var expr den

  turned_row : (v s : List ℤ) → length v ≡ width → IsPrimitiveOf (substituted var expr den v) s → IsTurned width (pulled_back var expr den) v s
  turned_row v s w p = record {
    times = pos p.multiple.times;
    positive = positive_times p.multiple.times p.multiple.positive;
    value = λ u wu.
        sym (stored_value (F v) s u p) ∙ dot_comm (F v) u
        ∙ sym (dot-pulled_back var expr den u v (omega (arith, below, wu)) (omega (arith, below, w)) (length-scale den v))
        ∙ dot_comm (H u) v;
  }

  fewer : (old new : List Generator) → AreMapped (substituted var expr den) old new → length new ≤ length old
  fewer [] [] nothing = omega arith
  fewer [] (_ ∷ new) a = elim a [ ]
  fewer (g ∷ old) new (left_out z a) = omega (arith, fewer old new a)
  fewer ((v, kind) ∷ old) ((s, kind2) ∷ new) (kept n p a) = omega (arith, fewer old new a)

  abbrev Wide : Generator → Type 0
  Wide g = length g.0 ≡ width

  mapped_rows : (old new : List Generator) → AreMapped (substituted var expr den) old new → length new ≡ length old → All (λ (g : Generator). length g.0 ≡ width) old → Pointwise (λ (x y : Row). IsTurned width (pulled_back var expr den) x.0 y.0 × (y.1 ≡ x.1)) (map generator_row old) (map generator_row new)
  mapped_rows [] [] nothing e a = pointwise_nil (TurnsRow width H)
  mapped_rows [] (_ ∷ new) m e a = elim m [ ]
  mapped_rows (g ∷ old) new (left_out z m) e a = absurd (omega (arith, e, fewer old new m))
  mapped_rows ((v, kind) ∷ old) ((s, kind2) ∷ new) (kept n p m) e a =
      pointwise_cons (TurnsRow width H) (generator_row (v, kind)) (map generator_row old) (generator_row (s, kind)) (map generator_row new)
      (turned_row v s (All-head Wide (v, kind) old a) p, refl) (mapped_rows old new m (omega (arith, e)) (All-tail Wide (v, kind) old a))

module _ (var : ℕ) (expr : List ℤ) (den : ℤ) (plane : List ℤ) (is : IsPlane var expr den plane) (part : cell expr var ≡ pos 0) where
  pulled_cell : (v : List ℤ) (j : ℕ) → cell (pulled_back var expr den v) j ≡ den *ℤ cell (slice_set v var (pos 0)) j +ℤ cell v var *ℤ cell expr j
  pulled_cell v j =
      cell-add (scale den (slice_set v var (pos 0))) (scale (cell v var) expr) j
      ∙ ap (λ (z : ℤ). z +ℤ cell (scale (cell v var) expr) j) (cell-scale den (slice_set v var (pos 0)) j)
      ∙ ap (λ (z : ℤ). den *ℤ cell (slice_set v var (pos 0)) j +ℤ z) (cell-scale (cell v var) expr j)

  pub source_cell : (v : List ℤ) → var < length v → (j : ℕ) → den *ℤ cell v j ≡ cell (pulled_back var expr den v) j +ℤ cell v var *ℤ cell plane j
  source_cell v b j = by_place (cases_eq j var)
    where
      by_place : (j ≡ var) ⊎ (j ≢ var) → den *ℤ cell v j ≡ cell (pulled_back var expr den v) j +ℤ cell v var *ℤ cell plane j
      by_place (inl e) =
          subst (λ (n : ℕ). den *ℤ cell v n ≡ cell (pulled_back var expr den v) n +ℤ cell v var *ℤ cell plane n) (sym e)
          (at_variable den (cell v var) (cell (pulled_back var expr den v) var) (cell (slice_set v var (pos 0)) var) (cell expr var) (cell plane var) (pulled_cell v var) (get_or-set_same v var (pos 0) (pos 0) b) part is.own)
      by_place (inr ne) = at_other den (cell v j) (cell v var) (cell (pulled_back var expr den v) j) (cell (slice_set v var (pos 0)) j) (cell expr j) (cell plane j) (pulled_cell v j) (get_or-set_other v var j (pos 0) (pos 0) ne) (is.others j ne)

-- ---- the form
module _ (p : Polyhedron) (var : ℕ) (below : var < p.cons.dim) (expr : List ℤ) (wide : length expr ≡ p.cons.dim + 1) (den : ℤ) (positive : pos 0 <ℤ den) (part : cell expr var ≡ pos 0) (gs : Generators) (same_dim : gs.dim ≡ p.cons.dim) (gens_wide : All (λ (g : Generator). length g.0 ≡ p.cons.dim + 1) p.gens.list)
    (mapped : AreMapped (substituted var expr den) p.gens.list gs.list) (as_many : length gs.list ≡ length p.gens.list) (freed form : Cone) (converted : IsConverted (p.cons.dim + 1) (freed_list var p) freed) (gains : GainsPlane var expr den freed form) where
  abbrev Width : ℕ
  Width = p.cons.dim + 1

  abbrev Source : List ℤ → List ℤ
  Source = pulled_back var expr den

  inside : var < p.cons.dim + 1
  inside = omega (arith, below)

  source_wide : (v : List ℤ) → length v ≡ p.cons.dim + 1 → length (pulled_back var expr den v) ≡ p.cons.dim + 1
  source_wide v w = length-pulled_back var expr den v (wide ∙ sym w) ∙ w

  source_cells : (v : List ℤ) → length v ≡ p.cons.dim + 1 → (j : ℕ) → den *ℤ cell v j ≡ cell (pulled_back var expr den v) j +ℤ cell v var *ℤ cell gains.plane j
  source_cells v w j = source_cell var expr den gains.plane gains.is_plane part v (omega (arith, inside, w)) j

  axis_turned : IsTurned (p.cons.dim + 1) (pulled_back var expr den) (axis p.cons.dim var) (replicate (gs.dim + 1) (pos 0))
  axis_turned = record {
    times = pos 1;
    positive = omega (arith, ints);
    value = λ v w. no_value (dot (replicate (gs.dim + 1) (pos 0)) v) (dot (axis p.cons.dim var) (Source v)) (dot_zeros (gs.dim + 1) v) (dot_axis p.cons.dim var (Source v) below ∙ own_level den (cell (Source v) var) (cell v var) (cell gains.plane var) (source_cells v w var) gains.is_plane.own);
  }

  rows : Pointwise (λ (x y : Row). IsTurned (p.cons.dim + 1) (pulled_back var expr den) x.0 y.0 × (y.1 ≡ x.1)) (freed_list var p) (collapsed_list gs)
  rows =
      pointwise_append (TurnsRow Width Source) (generator_list p.gens) ((axis p.cons.dim var, true) ∷ []) (generator_list gs) ((replicate (gs.dim + 1) (pos 0), true) ∷ [])
      (mapped_rows var expr den (p.cons.dim + 1) inside p.gens.list gs.list mapped as_many gens_wide)
      (pointwise_cons (TurnsRow Width Source) (axis p.cons.dim var, true) [] (replicate (gs.dim + 1) (pos 0), true) [] (axis_turned, refl) (pointwise_nil (TurnsRow Width Source)))

  -- a vector of the freed cone is 0 at the variable
  level : (c : List ℤ) → ConeOf (p.cons.dim + 1) (freed_list var p) c → cell c var ≡ pos 0
  level c u =
      let n : length (generator_list p.gens) + 0 < length (freed_list var p) = omega (arith, length-append (generator_list p.gens) ((axis p.cons.dim var, true) ∷ [])) in
      sym (dot_axis p.cons.dim var c below)
      ∙ subst (Meets c) (get_or-append-add (generator_list p.gens) ((axis p.cons.dim var, true) ∷ []) 0 ([], false)) (u.meets (length (generator_list p.gens) + 0) ([], false) (omega arith) n)

  origin : (v : List ℤ) → length v ≡ p.cons.dim + 1 → ((j : ℕ) → cell v j ≡ pos 0) → ConeOf (p.cons.dim + 1) (freed_list var p) v
  origin v w z = upto_zero Width (freed_list var p) (length (freed_list var p)) v w (λ m d b. zero_cells (slice_index_or (freed_list var p) m d).0 v z)

  minimal : IsMinimalForm (ConeOf (p.cons.dim + 1) (collapsed_list gs)) (vectors freed.lines.rows ++ gains.plane ∷ []) (vectors freed.rays.rows)
  minimal =
      freed_form Width var den positive gains.plane gains.is_plane.own (gains.is_plane.wide ∙ wide) Source source_wide source_cells (ConeOf Width (freed_list var p)) (ConeOf Width (collapsed_list gs)) (upto_cone Width (freed_list var p) (length (freed_list var p))) origin level
      (λ v u. (u.wide, source_within Width Source (freed_list var p) (collapsed_list gs) rows v (source_wide v u.wide) u)) (λ v w u. image_within Width Source (freed_list var p) (collapsed_list gs) rows v w u) (vectors freed.lines.rows) (vectors freed.rays.rows) converted.canon.system

  ray_within : (i : ℕ) → i < length (vectors freed.rays.rows) → ConeOf (p.cons.dim + 1) (freed_list var p) (vector_at (vectors freed.rays.rows) i)
  ray_within i b = converted.canon.system.generates.rays_within i [] b

  zeros : IsZeroTable (collapsed_list gs) (length (collapsed_list gs)) (vectors freed.rays.rows) freed.sat
  zeros =
      same_zeros Width Source (freed_list var p) (collapsed_list gs) rows den positive (vectors freed.rays.rows) (λ i b. (ray_within i b).wide)
      (λ i b j. level_cell den (cell (vector_at (vectors freed.rays.rows) i) j) (cell (Source (vector_at (vectors freed.rays.rows) i)) j) (cell (vector_at (vectors freed.rays.rows) i) var) (cell gains.plane j) (source_cells (vector_at (vectors freed.rays.rows) i) (ray_within i b).wide j) (level (vector_at (vectors freed.rays.rows) i) (ray_within i b)))
      freed.sat converted.sat

  lines_are : vectors form.lines.rows ≡ vectors freed.lines.rows ++ gains.plane ∷ []
  lines_are = ap (λ (list : List Row). vectors list) gains.lines ∙ map-append (λ (r : Row). r.0) freed.lines.rows ((gains.plane, true) ∷ [])

  abbrev MarkedLine : Row → Type 0
  MarkedLine r = r.1 ≡ true

  lists : AreLists (p.cons.dim + 1) form.lines form.rays
  lists = record {
    lines_wide = gains.width ∙ converted.lists.lines_wide;
    rays_wide = ap (λ (r : Rows). r.width) gains.rays ∙ converted.lists.rays_wide;
    lines_marked = subst (All (λ (r : Row). r.1 ≡ true)) (sym gains.lines) (All-append MarkedLine freed.lines.rows ((gains.plane, true) ∷ []) converted.lists.lines_marked (All-cons MarkedLine (gains.plane, true) [] refl (All-nil MarkedLine)));
    rays_marked = subst (λ (r : Rows). All (λ (x : Row). x.1 ≡ false) r.rows) (sym gains.rays) converted.lists.rays_marked;
  }

  pub collapsed_form : IsFormOf (record { width = p.cons.dim + 1; rows = collapsed_list gs }) form
  collapsed_form = record {
    minimal =
        subst (λ (r : Rows). IsMinimalForm (ConeOf (p.cons.dim + 1) (collapsed_list gs)) (vectors form.lines.rows) (vectors r.rows)) (sym gains.rays)
        (subst (λ (ls : List (List ℤ)). IsMinimalForm (ConeOf (p.cons.dim + 1) (collapsed_list gs)) ls (vectors freed.rays.rows)) (sym lines_are) minimal);
    lists = lists;
    primitive = subst (λ (r : Rows). All IsPrimitive (vectors r.rows)) (sym gains.rays) converted.canon.system.primitive_rays;
    zeros =
        subst (λ (t : Table). IsZeroTable (collapsed_list gs) (length (collapsed_list gs)) (vectors form.rays.rows) t) (sym gains.sat)
        (subst (λ (r : Rows). IsZeroTable (collapsed_list gs) (length (collapsed_list gs)) (vectors r.rows) freed.sat) (sym gains.rays) zeros);
  }

  -- in a list of that width and these rows
  pub form_of : (list : Rows) → list.width ≡ p.cons.dim + 1 → list.rows ≡ collapsed_list gs → IsFormOf list form
  form_of list w r =
      subst (λ (l : Rows). IsFormOf l form)
      (sym (ap (λ (n : ℕ). record { width = n; rows = list.rows }) w ∙ ap (λ (rs : List Row). record { width = p.cons.dim + 1; rows = rs }) r)) collapsed_form
