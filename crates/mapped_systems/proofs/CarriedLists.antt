-- The two lists of a polyhedron under a map that can be undone, and the table of their zeros.
use Rattle.std.proofs.Common.{◌≡◌, ℕ, zero, suc, ◌+◌, ◌<◌, List, [], ◌∷◌, length, map, slice_index_or, Bool, true, false, ℤ, pos, ◌*ℤ◌, ◌≤ℤ◌, ◌<ℤ◌, All, refl, sym, ap, ◌∙◌, subst, arith}
use Rattle.std.proofs.lemmas.Int.{ints}
use Rattle.std.proofs.lemmas.List.Elements.{All-head, All-tail, All-from_get_or}
use Rattle.row_core.specs.Vectors.{cell, dot, scale}
use Rattle.row_core.specs.Content.{IsPrimitiveOf}
use Rattle.row_core.specs.Lists.{Row, row_at, vectors, Pointwise}
use Rattle.row_core.proofs.PointwiseLemmas.{pointwise_nil, pointwise_cons}
use Rattle.row_core.proofs.Ring.{mul-zero, mul-at_least_zero, at_least_zero_of_mul, zero_of_mul}
use Rattle.cone_laws.specs.Cones.{Meets}
use Rattle.cone_laws.specs.Duality.{lines_of, rays_of}
use Rattle.cone_laws.proofs.Columns.{cell-scale, dot_comm, dot-scale, dot-multiple}
use Rattle.cons_sys.specs.Constraints.{Constraint}
use Rattle.gens_sys.specs.Kinds.{IsZeroDirection}
use Rattle.gens_sys.specs.declared.kind.GenKind.{GenKind}
use Rattle.gens_sys.specs.declared.kind.GenKind.TheVariants.{Line, Ray, Point, ClosurePoint}
use Rattle.gens_sys.specs.Generators.{Generator}
use Rattle.stored_systems.specs.WorkLists.{divisor_row, constraint_row, generator_row}
use Rattle.stored_systems.proofs.DivisorRow.{dot_divisor}
use Rattle.sat_matrix.specs.Tables.{Table}
use Rattle.sat_matrix.specs.ZeroTables.{TellsZeros, IsZeroTable}
use Rattle.mapped_systems.specs.MappedLists.{AreMapped, nothing, left_out, kept, ArePulled, none_pulled, one_pulled}
use Rattle.mapped_systems.specs.CarriedSystems.{IsLinearOn, AreCarried, AdmitSources}
use Rattle.mapped_systems.proofs.CarriedSystems.{IsUndone, times_positive, new_wide, source_cell}
use Rattle.mapped_systems.proofs.PulledSets.{stored_value, positive_times}

-- ---- generators
abbrev CarriesRow : (List ℤ → List ℤ) → Row → Row → Type 0
CarriesRow f x y = IsPrimitiveOf (f x.0) y.0

abbrev Carries : (List ℤ → List ℤ) → List ℤ → List ℤ → Type 0
Carries f v w = IsPrimitiveOf (f v) w

-- the rows of the list, its lines and its rays
pub record AreAllCarried (f : List ℤ → List ℤ) (old new : List Generator) : Type 0 where
  pub rows : Pointwise (λ (x y : Row). IsPrimitiveOf (f x.0) y.0) (map generator_row old) (map generator_row new)
  pub lines : AreCarried f (lines_of (map generator_row old)) (lines_of (map generator_row new))
  pub rays : AreCarried f (rays_of (map generator_row old)) (rays_of (map generator_row new))

more_carried : (f : List ℤ → List ℤ) (v w : List ℤ) (kind : GenKind) (old new : List Generator) → IsPrimitiveOf (f v) w → AreAllCarried f old new → AreAllCarried f ((v, kind) ∷ old) ((w, kind) ∷ new)
more_carried f v w Line old new p a = record {
  rows = pointwise_cons (CarriesRow f) (v, true) (map generator_row old) (w, true) (map generator_row new) p a.rows;
  lines = pointwise_cons (Carries f) v (lines_of (map generator_row old)) w (lines_of (map generator_row new)) p a.lines;
  rays = a.rays;
}
more_carried f v w Ray old new p a = record {
  rows = pointwise_cons (CarriesRow f) (v, false) (map generator_row old) (w, false) (map generator_row new) p a.rows;
  lines = a.lines;
  rays = pointwise_cons (Carries f) v (rays_of (map generator_row old)) w (rays_of (map generator_row new)) p a.rays;
}
more_carried f v w Point old new p a = record {
  rows = pointwise_cons (CarriesRow f) (v, false) (map generator_row old) (w, false) (map generator_row new) p a.rows;
  lines = a.lines;
  rays = pointwise_cons (Carries f) v (rays_of (map generator_row old)) w (rays_of (map generator_row new)) p a.rays;
}
more_carried f v w ClosurePoint old new p a = record {
  rows = pointwise_cons (CarriesRow f) (v, false) (map generator_row old) (w, false) (map generator_row new) p a.rows;
  lines = a.lines;
  rays = pointwise_cons (Carries f) v (rays_of (map generator_row old)) w (rays_of (map generator_row new)) p a.rays;
}

abbrev StaysDirection : (List ℤ → List ℤ) → Generator → Type 0
StaysDirection f g = ¬ (IsZeroDirection g.1 (f g.0))

pub all_carried : (f : List ℤ → List ℤ) (old new : List Generator) → AreMapped f old new → All (λ (g : Generator). ¬ (IsZeroDirection g.1 (f g.0))) old → AreAllCarried f old new
all_carried f [] [] nothing n = record { rows = pointwise_nil (CarriesRow f); lines = pointwise_nil (Carries f); rays = pointwise_nil (Carries f) }
all_carried f [] (_ ∷ new) a n = elim a [ ]
all_carried f (g ∷ old) new (left_out z a) n = absurd (All-head (StaysDirection f) g old n z)
all_carried f ((v, kind) ∷ old) ((w, kind2) ∷ new) (kept m p a) n = more_carried f v w kind old new p (all_carried f old new a (All-tail (StaysDirection f) (v, kind) old n))

-- ---- no direction becomes 0
all_zero : (v : List ℤ) → All (λ z. z ≡ pos 0) v → (j : ℕ) → cell v j ≡ pos 0
all_zero [] h j = refl
all_zero (a ∷ v) h zero = All-head (λ z. z ≡ pos 0) a v h
all_zero (a ∷ v) h (suc j) = all_zero v (All-tail (λ z. z ≡ pos 0) a v h) j

module _ (from to : ℕ) (f h : List ℤ → List ℤ) (inv : IsUndone from to f h) where
  source_zero : (v : List ℤ) → length v ≡ from → All (λ z. z ≡ pos 0) (f v) → All (λ z. z ≡ pos 0) v
  source_zero v w z = All-from_get_or (λ (x : ℤ). x ≡ pos 0) v (pos 0) (λ j b. zero_of_mul inv.undoes.times (cell v j) inv.undoes.positive (sym (inv.undoes.same v w j) ∙ none j))
    where
      none : (j : ℕ) → cell (h (f v)) j ≡ pos 0
      none j = inv.second_linear.values (f v) (inv.first_linear.wide v w) j ∙ dot-zeros (inv.second_linear.rows j) (f v) (all_zero (f v) z)
        where
          dot-zeros : (a u : List ℤ) → ((i : ℕ) → cell u i ≡ pos 0) → dot a u ≡ pos 0
          dot-zeros a u e = dot-multiple a u u (pos 0) (λ i. e i ∙ omega (arith, ints)) ∙ omega (arith, ints)

  pub stays_direction : (kind : GenKind) (v : List ℤ) → length v ≡ from → ¬ (IsZeroDirection kind v) → ¬ (IsZeroDirection kind (f v))
  stays_direction Line v w n z = n (source_zero v w z)
  stays_direction Ray v w n z = n (source_zero v w z)
  stays_direction Point v w n z = z
  stays_direction ClosurePoint v w n z = z

-- ---- constraints
-- a positive multiple of the new row's value at a vector is the old row's at the map of the vector
pub record IsTurned (width : ℕ) (h : List ℤ → List ℤ) (old new : List ℤ) : Type 0 where
  pub times : ℤ
  pub positive : pos 0 <ℤ times
  pub value : (v : List ℤ) → length v ≡ width → times *ℤ dot new v ≡ dot old (h v)

abbrev TurnsRow : ℕ → (List ℤ → List ℤ) → Row → Row → Type 0
TurnsRow width h x y = IsTurned width h x.0 y.0 × (y.1 ≡ x.1)

pub record AreAllTurned (width : ℕ) (h : List ℤ → List ℤ) (old new : List Row) : Type 0 where
  pub rows : Pointwise (λ (x y : Row). IsTurned width h x.0 y.0 × (y.1 ≡ x.1)) old new
  pub vectors : Pointwise (IsTurned width h) (vectors old) (vectors new)

more_turned : (width : ℕ) (h : List ℤ → List ℤ) (x y : Row) (old new : List Row) → IsTurned width h x.0 y.0 → y.1 ≡ x.1 → AreAllTurned width h old new → AreAllTurned width h (x ∷ old) (y ∷ new)
more_turned width h x y old new t e a = record {
  rows = pointwise_cons (TurnsRow width h) x old y new (t, e) a.rows;
  vectors = pointwise_cons (IsTurned width h) x.0 (vectors old) y.0 (vectors new) t a.vectors;
}

module _ (width : ℕ) (g h : List ℤ → List ℤ) where
  abbrev Turns : Constraint → Type 0
  Turns c = (v : List ℤ) → length v ≡ width → dot (g c.0) v ≡ dot c.0 (h v)

  pub all_turned : (old new : List Constraint) → ArePulled g old new → All (λ (c : Constraint). (v : List ℤ) → length v ≡ width → dot (g c.0) v ≡ dot c.0 (h v)) old → AreAllTurned width h (map constraint_row old) (map constraint_row new)
  all_turned [] [] none_pulled t = record { rows = pointwise_nil (TurnsRow width h); vectors = pointwise_nil (IsTurned width h) }
  all_turned [] (_ ∷ new) p t = elim p [ ]
  all_turned (_ ∷ old) [] p t = elim p [ ]
  all_turned ((row, kind) ∷ old) ((stored, kind2) ∷ new) (one_pulled p rest) t =
      more_turned width h (constraint_row (row, kind)) (constraint_row (stored, kind)) (map constraint_row old) (map constraint_row new)
      (record {
        times = pos p.multiple.times;
        positive = positive_times p.multiple.times p.multiple.positive;
        value = λ v w. sym (stored_value (g row) stored v p) ∙ All-head Turns (row, kind) old t v w;
      })
      refl (all_turned old new rest (All-tail Turns (row, kind) old t))

-- the row of the divisor stays
pub with_divisor : (dim to : ℕ) (h : List ℤ → List ℤ) (d : ℤ) (old new : List Row) → pos 0 <ℤ d → ((v : List ℤ) → length v ≡ to + 1 → cell (h v) dim ≡ d *ℤ cell v to) → AreAllTurned (to + 1) h old new → AreAllTurned (to + 1) h ((divisor_row dim, false) ∷ old) ((divisor_row to, false) ∷ new)
with_divisor dim to h d old new p last a =
    more_turned (to + 1) h (divisor_row dim, false) (divisor_row to, false) old new
    (record { times = d; positive = p; value = λ v w. ap (λ (z : ℤ). d *ℤ z) (dot_divisor to v) ∙ sym (last v w) ∙ sym (dot_divisor dim (h v)) }) refl a

-- ---- what the rows admit
module _ (width : ℕ) (h : List ℤ → List ℤ) (v : List ℤ) (wide : length v ≡ width) where
  zero_forth : (t x y : ℤ) → t *ℤ x ≡ y → x ≡ pos 0 → y ≡ pos 0
  zero_forth t x y e f = sym e ∙ ap (λ (z : ℤ). t *ℤ z) f ∙ mul-zero t

  least_forth : (t x y : ℤ) → pos 0 <ℤ t → t *ℤ x ≡ y → pos 0 ≤ℤ x → pos 0 ≤ℤ y
  least_forth t x y p e f = subst (λ (z : ℤ). pos 0 ≤ℤ z) e (mul-at_least_zero t x (omega (arith, ints, p)) f)

  meets_source : (x y : Row) → IsTurned width h x.0 y.0 → y.1 ≡ x.1 → Meets v y → Meets (h v) x
  meets_source (a, true) (b, true) t e m = zero_forth t.times (dot b v) (dot a (h v)) (t.value v wide) m
  meets_source (a, false) (b, false) t e m = least_forth t.times (dot b v) (dot a (h v)) t.positive (t.value v wide) m
  meets_source (a, true) (b, false) t e m = absurd cc
  meets_source (a, false) (b, true) t e m = absurd cc

  meets_image : (x y : Row) → IsTurned width h x.0 y.0 → y.1 ≡ x.1 → Meets (h v) x → Meets v y
  meets_image (a, true) (b, true) t e m = zero_of_mul t.times (dot b v) t.positive (t.value v wide ∙ m)
  meets_image (a, false) (b, false) t e m = at_least_zero_of_mul t.times (dot b v) t.positive (subst (λ (z : ℤ). pos 0 ≤ℤ z) (sym (t.value v wide)) m)
  meets_image (a, true) (b, false) t e m = absurd cc
  meets_image (a, false) (b, true) t e m = absurd cc

pub admit_sources : (from to : ℕ) (h : List ℤ → List ℤ) (old new : List Row) → IsLinearOn to from h → AreAllTurned to h old new → AdmitSources from to h old new
admit_sources from to h old new lin a v w = (
  (λ u. record { wide = lin.wide v w; meets = λ m d low high. let p = a.rows.each m d d high in meets_source to h v w (slice_index_or old m d) (slice_index_or new m d) p.0 p.1 (u.meets m d low (omega (arith, high, a.rows.as_many))) }),
  (λ u. record { wide = w; meets = λ m d low high. let p = a.rows.each m d d (omega (arith, high, a.rows.as_many)) in meets_image to h v w (slice_index_or old m d) (slice_index_or new m d) p.0 p.1 (u.meets m d low (omega (arith, high, a.rows.as_many))) }),
)

-- ---- the table of zeros
module _ (from to : ℕ) (f h : List ℤ → List ℤ) (inv : IsUndone from to f h) (x y : List ℤ) (p : IsPrimitiveOf (f x) y) (wide : length x ≡ from) (v w : List ℤ) (t : IsTurned to h v w) where
  both_values : pos p.multiple.times *ℤ dot v (h y) ≡ inv.undoes.times *ℤ dot v x
  both_values =
      sym (dot-scale v (pos p.multiple.times) (h y))
      ∙ dot-multiple v (scale (pos p.multiple.times) (h y)) x inv.undoes.times (λ j. cell-scale (pos p.multiple.times) (h y) j ∙ source_cell from to f h inv x y p wide j)

  turned_value : t.times *ℤ dot y w ≡ dot v (h y)
  turned_value = ap (λ (z : ℤ). t.times *ℤ z) (dot_comm y w) ∙ t.value y (new_wide from to f h inv x y p wide)

  pub zero_again : dot x v ≡ pos 0 → dot y w ≡ pos 0
  zero_again e =
      zero_of_mul t.times (dot y w) t.positive
      (turned_value ∙ zero_of_mul (pos p.multiple.times) (dot v (h y)) (times_positive from to f h inv x y p wide) (both_values ∙ ap (λ (z : ℤ). inv.undoes.times *ℤ z) (dot_comm v x ∙ e) ∙ mul-zero inv.undoes.times))

  zero_before : dot y w ≡ pos 0 → dot x v ≡ pos 0
  zero_before e =
      dot_comm x v
      ∙ zero_of_mul inv.undoes.times (dot v x) inv.undoes.positive
      (sym both_values ∙ ap (λ (z : ℤ). pos p.multiple.times *ℤ z) (sym turned_value ∙ ap (λ (z : ℤ). t.times *ℤ z) e ∙ mul-zero t.times) ∙ mul-zero (pos p.multiple.times))

pub zeros_turned : (from to : ℕ) (f h : List ℤ → List ℤ) → IsUndone from to f h → (old new : List Row) (vs ws : List (List ℤ)) (table : Table) → Pointwise (λ (x y : Row). IsPrimitiveOf (f x.0) y.0) old new → ((j : ℕ) → j < length old → length (row_at old j) ≡ from) → Pointwise (IsTurned to h) vs ws → IsZeroTable old (length old) vs table → IsZeroTable new (length new) ws table
zeros_turned from to f h inv old new vs ws table rows wide turned z = record {
  columns = z.columns ∙ sym rows.as_many;
  each = record {
    as_many = z.each.as_many ∙ sym turned.as_many;
    each = λ i d e b. tells i d e (omega (arith, b, turned.as_many));
  };
}
  where
    tells : (i : ℕ) (d : List ℤ) (e : List Bool) → i < length vs → TellsZeros new (length new) (slice_index_or ws i d) (slice_index_or table.rows i e)
    tells i d e b =
        let o : TellsZeros old (length old) (slice_index_or vs i d) (slice_index_or table.rows i e) = z.each.each i d e b in
        let t : IsTurned to h (slice_index_or vs i d) (slice_index_or ws i d) = turned.each i d d b in
        record {
          wide = o.wide ∙ sym rows.as_many;
          zeros = λ j c.
              let k : j < length old = omega (arith, c, rows.as_many) in (
                (λ bit. zero_again from to f h inv (row_at old j) (row_at new j) (rows.each j ([], false) ([], false) k) (wide j k) (slice_index_or vs i d) (slice_index_or ws i d) t ((o.zeros j k).0 bit)),
                (λ n. (o.zeros j k).1 (zero_before from to f h inv (row_at old j) (row_at new j) (rows.each j ([], false) ([], false) k) (wide j k) (slice_index_or vs i d) (slice_index_or ws i d) t n)),
              );
        }
