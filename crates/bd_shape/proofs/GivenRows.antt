-- The bound that a row of a difference gives.
use Rattle.std.specs.Prelude.{◌≡◌, ◌≢◌, ℕ, ◌+◌, ◌<◌, List, length, ℤ, pos, ◌+ℤ◌, ◌-ℤ◌, ◌*ℤ◌, neg_ℤ, ◌≤ℤ◌}
use Rattle.std.proofs.Common.{arith, sym, ◌∙◌, ap, subst}
use Rattle.std.proofs.lemmas.Int.{ints}
use Rattle.row_core.proofs.Ring.{ring, neg-mul, mul-at_least_zero, at_least_zero_of_mul}
use Rattle.row_core.specs.Vectors.{cell, dot}
use Rattle.difference_bounds.specs.Values.{IsWithin}
use Rattle.difference_bounds.proofs.FractionLemmas.{lowest_times}
use Rattle.bd_shape.specs.Shapes.{place_value, values_at}
use Rattle.bd_shape.specs.Differences.{with_place}
use Rattle.bd_shape.specs.Rows.{constant_row}
use Rattle.bd_shape.specs.Forms.{scaled_row, RowBounds}
use Rattle.bd_shape.proofs.DifferenceRows.{length_with}
use Rattle.bd_shape.proofs.RowLists.{dot_place, dot_constant, place_other, constant_zero, length_constant}

joined : (s t b c d x y : ℤ) → t ≡ s +ℤ neg_ℤ c *ℤ y → s ≡ b *ℤ d +ℤ c *ℤ x → t ≡ b *ℤ d +ℤ (c *ℤ x -ℤ c *ℤ y)
joined s t b c d x y e f = let h = neg-mul c y in omega (arith, ints, e, f, h)

step : (s r b d c x : ℤ) → s ≡ r +ℤ c *ℤ x → r ≡ b *ℤ d → s ≡ b *ℤ d +ℤ c *ℤ x
step s r b d c x e f = omega (arith, ints, e, f)

pub scaled_value : (dim i j : ℕ) (c b : ℤ) (p : List ℤ) → i < dim + 1 → j < dim + 1 → i ≢ j → length p ≡ dim + 1 → dot (scaled_row dim i j c b) p ≡ b *ℤ cell p dim +ℤ (c *ℤ place_value p i -ℤ c *ℤ place_value p j)
scaled_value dim i j c b p li lj n h =
    let u = constant_row dim b in
    let v = with_place u i c in
    let w = length_constant dim b in
    let z = length_with u i c in
    joined (dot v p) (dot (scaled_row dim i j c b) p) b c (cell p dim) (place_value p i) (place_value p j)
    (dot_place v j (neg_ℤ c) p (omega (arith, w, z)) (omega (arith, h, w, z)) (λ k e. place_other u i k c (λ g. n (g ∙ sym e)) ∙ constant_zero dim k b (omega arith)))
    (step (dot v p) (dot u p) b (cell p dim) c (place_value p i)
    (dot_place u i c p (omega (arith, w)) (omega (arith, h, w)) (λ k e. constant_zero dim k b (omega arith)))
    (dot_constant dim b p h))

times_gap : (t n e d x y : ℤ) → (t *ℤ n) *ℤ d +ℤ ((t *ℤ e) *ℤ x -ℤ (t *ℤ e) *ℤ y) ≡ t *ℤ (n *ℤ d -ℤ e *ℤ (y -ℤ x))
times_gap t n e d x y = simp ring (omega (arith, ints))

pub row_bounds : RowBounds
row_bounds dim i j c b f p li lj n w l = (to, from)
  where
    gap : dot (scaled_row dim i j c b) p ≡ (lowest_times (record { num = b; den = c }) f l).times *ℤ (f.num *ℤ cell p dim -ℤ f.den *ℤ (place_value p j -ℤ place_value p i))
    gap =
        let t = lowest_times (record { num = b; den = c }) f l in
        scaled_value dim i j c b p li lj n w
        ∙ ap (λ (z : ℤ). z *ℤ cell p dim +ℤ (c *ℤ place_value p i -ℤ c *ℤ place_value p j)) t.num
        ∙ ap (λ (z : ℤ). (t.times *ℤ f.num) *ℤ cell p dim +ℤ (z *ℤ place_value p i -ℤ z *ℤ place_value p j)) t.den
        ∙ times_gap t.times f.num f.den (cell p dim) (place_value p i) (place_value p j)

    to : pos 0 ≤ℤ dot (scaled_row dim i j c b) p → IsWithin (values_at dim p) j i f
    to h =
        let t = lowest_times (record { num = b; den = c }) f l in
        let r : pos 0 ≤ℤ (f.num *ℤ cell p dim -ℤ f.den *ℤ (place_value p j -ℤ place_value p i)) = at_least_zero_of_mul t.times (f.num *ℤ cell p dim -ℤ f.den *ℤ (place_value p j -ℤ place_value p i)) t.positive (subst (λ (z : ℤ). pos 0 ≤ℤ z) gap h) in
        omega (arith, ints, r)

    from : IsWithin (values_at dim p) j i f → pos 0 ≤ℤ dot (scaled_row dim i j c b) p
    from h =
        let t = lowest_times (record { num = b; den = c }) f l in
        let q = t.positive in
        let r : pos 0 ≤ℤ (t.times *ℤ (f.num *ℤ cell p dim -ℤ f.den *ℤ (place_value p j -ℤ place_value p i))) = mul-at_least_zero t.times (f.num *ℤ cell p dim -ℤ f.den *ℤ (place_value p j -ℤ place_value p i)) (omega (arith, ints, q)) (omega (arith, ints, h)) in
        subst (λ (z : ℤ). pos 0 ≤ℤ z) (sym gap) r
