-- The vectors of a list of generators, in its generator list and in a longer list.
use Rattle.std.proofs.Common.{◌≡◌, ◌⊎◌, inl, inr, ℕ, zero, suc, ◌+◌, ◌-◌, ◌<◌, ◌≤◌, List, [], ◌∷◌, ◌++◌, length, map, slice_index_or, true, false, ℤ, refl, sym, ap, ◌∙◌, subst, arith}
use Rattle.std.proofs.lemmas.Bool.{cases_lt}
use Rattle.std.proofs.lemmas.List.{get_or_append_left, get_or-append-add, length-append}
use Rattle.row_core.specs.Vectors.{cell}
use Rattle.cone_laws.specs.Duality.{lines_of, rays_of}
use Rattle.cone_laws.proofs.Sums.{V, Among}
use Rattle.cone_laws.proofs.Bridge.{In}
use Rattle.gens_sys.specs.Kinds.{is_line}
use Rattle.gens_sys.specs.Generators.{Generator, generator_at, row_at, kind_at}
use Rattle.gens_sys.specs.declared.kind.GenKind.TheVariants.{Line, Ray, Point, ClosurePoint}
use Rattle.stored_systems.specs.WorkLists.{generator_row}
use Rattle.nnc_enc.proofs.SpanMarks.{LineOf, OtherOf, PointOf}

-- ---- the generator list
line_behind : (g : Generator) (list : List Generator) (v : V) → LineOf list v → LineOf (g ∷ list) v
line_behind g list v m = record { index = suc m.index; is = (omega (arith, m.is.0), m.is.1); same = m.same }

other_behind : (g : Generator) (list : List Generator) (v : V) → OtherOf list v → OtherOf (g ∷ list) v
other_behind g list v m = record { index = suc m.index; is = (omega (arith, m.is.0), m.is.1); same = m.same }

-- the first vector of a list, or one behind it
line_first : (x : List ℤ) (list : List Generator) (v : V) → ((u : V) → In (lines_of (map generator_row list)) u → LineOf list u) → In (x ∷ lines_of (map generator_row list)) v → LineOf ((x, Line) ∷ list) v
line_first x list v later m = at_index m.index m.is m.same
  where
    at_index : (i : ℕ) → i < length (x ∷ lines_of (map generator_row list)) → ((j : ℕ) → v j ≡ cell (slice_index_or (x ∷ lines_of (map generator_row list)) i []) j) → LineOf ((x, Line) ∷ list) v
    at_index zero h e = record { index = 0; is = (omega arith, refl); same = e }
    at_index (suc i) h e = line_behind (x, Line) list v (later v (record { index = i; is = omega (arith, h); same = e }))

other_first : (g : Generator) (list : List Generator) (v : V) → is_line g.1 ≡ false → ((u : V) → In (rays_of (map generator_row list)) u → OtherOf list u) → In (g.0 ∷ rays_of (map generator_row list)) v → OtherOf (g ∷ list) v
other_first g list v k later m = at_index m.index m.is m.same
  where
    at_index : (i : ℕ) → i < length (g.0 ∷ rays_of (map generator_row list)) → ((j : ℕ) → v j ≡ cell (slice_index_or (g.0 ∷ rays_of (map generator_row list)) i []) j) → OtherOf (g ∷ list) v
    at_index zero h e = record { index = 0; is = (omega arith, k); same = e }
    at_index (suc i) h e = other_behind g list v (later v (record { index = i; is = omega (arith, h); same = e }))

-- the lines of the generator list are those of the generators
pub line_listed : (list : List Generator) (v : V) → In (lines_of (map generator_row list)) v → LineOf list v
line_listed [] v m = absurd (omega (arith, m.is))
line_listed ((x, Line) ∷ list) v m = line_first x list v (line_listed list) m
line_listed ((x, Ray) ∷ list) v m = line_behind (x, Ray) list v (line_listed list v m)
line_listed ((x, Point) ∷ list) v m = line_behind (x, Point) list v (line_listed list v m)
line_listed ((x, ClosurePoint) ∷ list) v m = line_behind (x, ClosurePoint) list v (line_listed list v m)

-- its rays are the other generators
pub ray_listed : (list : List Generator) (v : V) → In (rays_of (map generator_row list)) v → OtherOf list v
ray_listed [] v m = absurd (omega (arith, m.is))
ray_listed ((x, Line) ∷ list) v m = other_behind (x, Line) list v (ray_listed list v m)
ray_listed ((x, Ray) ∷ list) v m = other_first (x, Ray) list v refl (ray_listed list) m
ray_listed ((x, Point) ∷ list) v m = other_first (x, Point) list v refl (ray_listed list) m
ray_listed ((x, ClosurePoint) ∷ list) v m = other_first (x, ClosurePoint) list v refl (ray_listed list) m

-- ---- lists behind each other
-- the vectors of generators with this property
abbrev pub VectorOf : (Generator → Type 0) → List Generator → V → Type 0
VectorOf P list = Among (λ i. cell (row_at list i)) (λ i. (i < length list) × P (generator_at list i))

pub in_front : (P : Generator → Type 0) (a b : List Generator) (v : V) → VectorOf P a v → VectorOf P (a ++ b) v
in_front P a b v m =
    let e : generator_at (a ++ b) m.index ≡ generator_at a m.index = get_or_append_left a b ([], Line) m.index m.is.0 in
    record {
      index = m.index;
      is = (omega (arith, m.is.0, length-append a b), subst P (sym e) m.is.1);
      same = λ j. m.same j ∙ ap (λ (g : Generator). cell g.0 j) (sym e);
    }

pub behind : (P : Generator → Type 0) (a b : List Generator) (v : V) → VectorOf P b v → VectorOf P (a ++ b) v
behind P a b v m =
    let e : generator_at (a ++ b) (length a + m.index) ≡ generator_at b m.index = get_or-append-add a b m.index ([], Line) in
    record {
      index = length a + m.index;
      is = (omega (arith, m.is.0, length-append a b), subst P (sym e) m.is.1);
      same = λ j. m.same j ∙ ap (λ (g : Generator). cell g.0 j) (sym e);
    }

-- a vector of the joined list is one of the first or of the second
pub of_joined : (P : Generator → Type 0) (a b : List Generator) (v : V) → VectorOf P (a ++ b) v → VectorOf P a v ⊎ VectorOf P b v
of_joined P a b v m = by_index (cases_lt m.index (length a))
  where
    by_index : (m.index < length a) ⊎ (length a ≤ m.index) → VectorOf P a v ⊎ VectorOf P b v
    by_index (inl h) =
        let e : generator_at (a ++ b) m.index ≡ generator_at a m.index = get_or_append_left a b ([], Line) m.index h in
        inl (record { index = m.index; is = (h, subst P e m.is.1); same = λ j. m.same j ∙ ap (λ (g : Generator). cell g.0 j) e })
    by_index (inr h) =
        let n : ℕ = m.index - length a in
        let s : m.index ≡ length a + n = omega (arith, h) in
        let e : generator_at (a ++ b) m.index ≡ generator_at b n = ap (generator_at (a ++ b)) s ∙ get_or-append-add a b n ([], Line) in
        inr (record { index = n; is = (omega (arith, h, m.is.0, length-append a b), subst P e m.is.1); same = λ j. m.same j ∙ ap (λ (g : Generator). cell g.0 j) e })
