-- The rows of a system of valid rows at the vector that is above 0 in column e.
use Rattle.std.proofs.Common.{◌≡◌, ℕ, zero, suc, ◌+◌, ◌<◌, List, [], length, slice_index_or, replicate, false, ℤ, pos, negsuc, ◌+ℤ◌, ◌*ℤ◌, neg_ℤ, ◌≤ℤ◌, ◌<ℤ◌, refl, sym, ap, ◌∙◌, subst, arith}
use Rattle.std.proofs.lemmas.Int.{ints}
use Rattle.std.proofs.lemmas.List.{get_or_default}
use Rattle.row_core.specs.Vectors.{cell, dot}
use Rattle.row_core.specs.Lists.{Row}
use Rattle.cone_laws.specs.Cones.{Meets, Upto, negated}
use Rattle.cone_laws.specs.Canon.{vector_at, IsSystem}
use Rattle.cone_laws.proofs.Ring.{ring, mul_comm, mul-zero, mul-positive}
use Rattle.cone_laws.proofs.Sums.{V, same_value}
use Rattle.cone_laws.proofs.Columns.{value, value_linear, dot_is, dot_comm, dot-negated}
use Rattle.cone_laws.proofs.UptoRows.{asks_sum}
use Rattle.nnc_enc.specs.Encoding.{raised, lowered, height_row, bound_row, IsEncodedDual}
use Rattle.nnc_enc.proofs.EncodedRows.{dot_by_height, remove_insert, length_insert, cell_insert, dot_zeros, dot_last, length_last, length_replicate}
use Rattle.nnc_enc.proofs.ClosedRows.{IsClosed, least_on, lowered_wide, ray_in, value_raised}
use Rattle.nnc_enc.proofs.Relaxed.{Given, Numbered, both_least, cell-remove, last_row, no_slack, relaxed, relaxed_lines, remove_scale, same_level, skip_self}

module _ (dim : ℕ) (gens : List Row) (lines rays : List (List ℤ)) (wide : (j : ℕ) → j < length gens → length (slice_index_or gens j ([], false)).0 ≡ dim + 2) (system : IsSystem (Upto (dim + 2) gens (length gens)) lines rays) where
  abbrev gen : ℕ → List ℤ
  gen j = (slice_index_or gens j ([], false)).0

  abbrev D : List ℤ → Type 0
  D = Upto (dim + 2) gens (length gens)

  module _ (enc : IsEncodedDual dim (Upto (dim + 2) gens (length gens))) where
    -- ---- the rows are closed
    pub number_given : (i : ℕ) → Numbered rays i → Given rays i
    number_given zero n = tt
    number_given (suc i) n = n

    pub ray_closed : (i : ℕ) → i < length rays → IsClosed dim gens lines rays wide system (relaxed dim rays (suc i))
    ray_closed i h =
        let u = system.generates.rays_within i [] h in
        record { row = lowered dim (vector_at rays i); row_wide = lowered_wide dim gens lines rays wide system (vector_at rays i) u.wide; member = enc.flat (vector_at rays i) u; same = λ j. refl }

    pub last_wide : length (last_row dim) ≡ dim + 1
    last_wide = length_last dim ∙ omega arith

    pub zeros_wide : length (replicate (dim + 1) (pos 0)) ≡ dim + 1
    zeros_wide = length_replicate (dim + 1)

    last_values : (x y z g s t : ℤ) → x ≡ s +ℤ g *ℤ pos 1 → s ≡ pos 0 → y ≡ t +ℤ g *ℤ negsuc 0 → z ≡ t +ℤ g *ℤ pos 0 → pos 1 *ℤ z ≡ pos 1 *ℤ x +ℤ pos 1 *ℤ y
    last_values x y z g s t e p f h =
        let i : g *ℤ negsuc 0 ≡ neg_ℤ g = omega (arith, ints) in
        let k : g *ℤ pos 1 ≡ g = omega (arith, ints) in
        let n = mul-zero g in
        omega (arith, ints, e, p, f, h, i, k, n)

    last_meets : (j : ℕ) (d0 : Row) → j < length gens → Meets (raised dim (last_row dim) (pos 0)) (slice_index_or gens j d0)
    last_meets j d0 l =
        subst (λ (g : Row). Meets (raised dim (last_row dim) (pos 0)) g) (get_or_default gens j ([], false) d0 l)
        (asks_sum (slice_index_or gens j ([], false)).1 (pos 1) (dot (gen j) (raised dim (last_row dim) (pos 0))) (pos 1) (dot (gen j) (height_row dim).0) (pos 1) (dot (gen j) (bound_row dim).0) (omega (arith, ints))
        (last_values (dot (gen j) (height_row dim).0) (dot (gen j) (bound_row dim).0) (dot (gen j) (raised dim (last_row dim) (pos 0))) (cell (gen j) dim) (dot (lowered dim (gen j)) (replicate (dim + 1) (pos 0))) (dot (lowered dim (gen j)) (last_row dim))
        (value_raised dim gens lines rays wide system j l (replicate (dim + 1) (pos 0)) (pos 1) zeros_wide)
        (dot_comm (lowered dim (gen j)) (replicate (dim + 1) (pos 0)) ∙ dot_zeros (dim + 1) (lowered dim (gen j)))
        (value_raised dim gens lines rays wide system j l (last_row dim) (negsuc 0) last_wide)
        (value_raised dim gens lines rays wide system j l (last_row dim) (pos 0) last_wide))
        (omega (arith, ints)) (omega (arith, ints))
        (enc.height.meets j ([], false) (omega arith) l) (enc.bound.meets j ([], false) (omega arith) l))

    pub last_closed : IsClosed dim gens lines rays wide system (relaxed dim rays zero)
    last_closed = record {
      row = last_row dim;
      row_wide = last_wide;
      member = record { wide = length_insert dim (last_row dim) (pos 0) (omega (arith, last_wide)) ∙ ap suc last_wide ∙ omega arith; meets = λ j d low high. last_meets j d high };
      same = λ j. refl;
    }

    -- ---- the point of the set
    abbrev inner : V → ℤ
    inner = value (lowered dim enc.vector)

    vector_value : (p : List ℤ) (z : ℤ) → length p ≡ dim + 1 → dot (raised dim p z) enc.vector ≡ dot (lowered dim enc.vector) p +ℤ z *ℤ cell enc.vector dim
    vector_value p z w =
        dot_by_height dim (raised dim p z) enc.vector (omega (arith, length_insert dim p z (omega (arith, w)), w)) (omega (arith, enc.wide))
        ∙ ap (λ (q : List ℤ). dot q (lowered dim enc.vector) +ℤ cell (raised dim p z) dim *ℤ cell enc.vector dim) (remove_insert dim p z (omega (arith, w)))
        ∙ ap (λ (y : ℤ). dot p (lowered dim enc.vector) +ℤ y *ℤ cell enc.vector dim) (cell_insert dim p z (omega (arith, w)))
        ∙ ap (λ (y : ℤ). y +ℤ z *ℤ cell enc.vector dim) (dot_comm p (lowered dim enc.vector))

    no_term : (x y : ℤ) → x ≡ y +ℤ pos 0 *ℤ cell enc.vector dim → x ≡ y
    no_term x y e = omega (arith, ints, e)

    pub inner_least : (u : V) → IsClosed dim gens lines rays wide system u → pos 0 ≤ℤ value (lowered dim enc.vector) u
    inner_least u c =
        subst (λ (z : ℤ). pos 0 ≤ℤ z)
        (no_term (dot (raised dim c.row (pos 0)) enc.vector) (dot (lowered dim enc.vector) c.row) (vector_value c.row (pos 0) c.row_wide)
        ∙ dot_is (lowered dim enc.vector) c.row ∙ sym (same_value (value (lowered dim enc.vector)) (value_linear (lowered dim enc.vector)) u (cell c.row) c.same))
        (enc.least (raised dim c.row (pos 0)) c.member)

    slack_positive : (x y c e : ℤ) → x ≡ y +ℤ c *ℤ e → pos 0 ≤ℤ x → c <ℤ pos 0 → pos 0 <ℤ e → pos 0 <ℤ y
    slack_positive x y c e h p q r =
        let t : pos 0 <ℤ (neg_ℤ c *ℤ e) = mul-positive (neg_ℤ c) e (omega (arith, ints, q)) r in
        let i : neg_ℤ c *ℤ e ≡ neg_ℤ (c *ℤ e) = simp ring in
        omega (arith, ints, h, p, t, i)

    pub inner_strict : (i : ℕ) → i < length rays → cell (vector_at rays i) dim <ℤ pos 0 → pos 0 <ℤ value (lowered dim enc.vector) (relaxed dim rays (suc i))
    inner_strict i h s =
        let a = vector_at rays i in
        let w = (ray_in dim gens lines rays wide system i h).wide in
        let e : dot a enc.vector ≡ dot (lowered dim a) (lowered dim enc.vector) +ℤ cell a dim *ℤ cell enc.vector dim = dot_by_height dim a enc.vector (omega (arith, w)) (omega (arith, enc.wide)) in
        subst (λ (z : ℤ). pos 0 <ℤ z) (dot_comm (lowered dim a) (lowered dim enc.vector) ∙ dot_is (lowered dim enc.vector) (lowered dim a))
        (slack_positive (dot a enc.vector) (dot (lowered dim a) (lowered dim enc.vector)) (cell a dim) (cell enc.vector dim) e (enc.least a (ray_in dim gens lines rays wide system i h)) s enc.above)

    pub last_value : (g : List ℤ) → dot g (last_row dim) ≡ cell g dim
    last_value g = dot_comm g (last_row dim) ∙ dot_last dim g

    bound_positive : (x y e : ℤ) → x ≡ y +ℤ negsuc 0 *ℤ e → pos 0 ≤ℤ x → pos 0 <ℤ e → pos 0 <ℤ y
    bound_positive x y e h p q = omega (arith, ints, h, p, q)

    pub inner_last : pos 0 <ℤ value (lowered dim enc.vector) (relaxed dim rays zero)
    inner_last =
        subst (λ (z : ℤ). pos 0 <ℤ z) (dot_is (lowered dim enc.vector) (last_row dim))
        (bound_positive (dot (bound_row dim).0 enc.vector) (dot (lowered dim enc.vector) (last_row dim)) (cell enc.vector dim) (vector_value (last_row dim) (negsuc 0) last_wide) (enc.least (bound_row dim).0 enc.bound) enc.above)

    pub inner_on : (i : ℕ) → Given rays i → pos 0 ≤ℤ value (lowered dim enc.vector) (relaxed dim rays i)
    inner_on zero g = inner_least (relaxed dim rays zero) last_closed
    inner_on (suc i) g = inner_least (relaxed dim rays (suc i)) (ray_closed i g)

    pub closed_of : (a : List ℤ) → D a → IsClosed dim gens lines rays wide system (cell (lowered dim a))
    closed_of a u = record { row = lowered dim a; row_wide = lowered_wide dim gens lines rays wide system a u.wide; member = enc.flat a u; same = λ j. refl }

    pub inner_line : (i : ℕ) → i < length lines → value (lowered dim enc.vector) (cell (lowered dim (vector_at lines i))) ≡ pos 0
    inner_line i h =
        let m = system.generates.lines_within i [] h in
        let a = vector_at lines i in
        let e : dot (lowered dim enc.vector) (lowered dim (negated a)) ≡ neg_ℤ (dot (lowered dim enc.vector) (lowered dim a)) = ap (dot (lowered dim enc.vector)) (remove_scale dim (neg_ℤ (pos 1)) a) ∙ dot-negated (lowered dim enc.vector) (lowered dim a) in
        both_least (value (lowered dim enc.vector) (cell (lowered dim a))) (value (lowered dim enc.vector) (cell (lowered dim (negated a))))
        (inner_least (cell (lowered dim a)) (closed_of a m.0)) (inner_least (cell (lowered dim (negated a))) (closed_of (negated a) m.1))
        (sym (dot_is (lowered dim enc.vector) (lowered dim (negated a))) ∙ e ∙ ap neg_ℤ (dot_is (lowered dim enc.vector) (lowered dim a)))

    pub inner_flat : (l : V) → relaxed_lines dim lines l → value (lowered dim enc.vector) l ≡ pos 0
    inner_flat l m = same_value (value (lowered dim enc.vector)) (value_linear (lowered dim enc.vector)) l (cell (lowered dim (vector_at lines m.index))) m.same ∙ inner_line m.index m.is

    -- ---- where a strict row is 0
    height_at : (j : ℕ) → j < length gens → pos 0 ≤ℤ cell (gen j) dim
    height_at j h =
        subst (λ (z : ℤ). pos 0 ≤ℤ z)
        (value_raised dim gens lines rays wide system j h (replicate (dim + 1) (pos 0)) (pos 1) zeros_wide ∙ height_is (dot (lowered dim (gen j)) (replicate (dim + 1) (pos 0))) (cell (gen j) dim) (dot_comm (lowered dim (gen j)) (replicate (dim + 1) (pos 0)) ∙ dot_zeros (dim + 1) (lowered dim (gen j))))
        (least_on dim gens lines rays wide system (height_row dim).0 enc.height j h)
      where
        height_is : (s g : ℤ) → s ≡ pos 0 → s +ℤ g *ℤ pos 1 ≡ g
        height_is s g e = omega (arith, ints, e)

    ray_value : (i j : ℕ) → i < length rays → j < length gens → dot (gen j) (vector_at rays i) ≡ value (lowered dim (gen j)) (relaxed dim rays (suc i)) +ℤ cell (vector_at rays i) dim *ℤ cell (gen j) dim
    ray_value i j h l =
        dot_by_height dim (gen j) (vector_at rays i) (omega (arith, wide j l)) (omega (arith, (ray_in dim gens lines rays wide system i h).wide))
        ∙ ap (λ (z : ℤ). z +ℤ cell (gen j) dim *ℤ cell (vector_at rays i) dim) (dot_is (lowered dim (gen j)) (lowered dim (vector_at rays i)))
        ∙ ap (λ (z : ℤ). value (lowered dim (gen j)) (relaxed dim rays (suc i)) +ℤ z) (mul_comm (cell (gen j) dim) (cell (vector_at rays i) dim))

    pub level_of : (i j : ℕ) → i < length rays → j < length gens → cell (vector_at rays i) dim <ℤ pos 0 → value (lowered dim (gen j)) (relaxed dim rays (suc i)) ≡ pos 0 → cell (gen j) dim ≡ pos 0
    level_of i j h l s z =
        no_slack (dot (gen j) (vector_at rays i)) (value (lowered dim (gen j)) (relaxed dim rays (suc i))) (cell (vector_at rays i) dim) (cell (gen j) dim) (ray_value i j h l) (least_on dim gens lines rays wide system (vector_at rays i) (ray_in dim gens lines rays wide system i h) j l) s (height_at j l) z

    pub at_level : (i j : ℕ) → i < length rays → j < length gens → cell (gen j) dim ≡ pos 0 → dot (gen j) (vector_at rays i) ≡ value (lowered dim (gen j)) (relaxed dim rays (suc i))
    at_level i j h l e = same_level (dot (gen j) (vector_at rays i)) (value (lowered dim (gen j)) (relaxed dim rays (suc i))) (cell (vector_at rays i) dim) (cell (gen j) dim) (ray_value i j h l) e

    pub last_test : (j : ℕ) → value (lowered dim (gen j)) (relaxed dim rays zero) ≡ cell (gen j) (dim + 1)
    last_test j = sym (dot_is (lowered dim (gen j)) (last_row dim)) ∙ last_value (lowered dim (gen j)) ∙ cell-remove dim (gen j) dim ∙ ap (cell (gen j)) (skip_self dim ∙ omega arith)
