-- Points with the differences of given values.
use Rattle.std.specs.Prelude.{◌≡◌, ℕ, zero, suc, ◌+◌, ◌<◌, List, [], ◌∷◌, length, ℤ, pos, ◌-ℤ◌, ◌*ℤ◌, ◌≤ℤ◌, ◌<ℤ◌}
use Rattle.std.proofs.Common.{arith, sym, ◌∙◌, ap, refl, subst}
use Rattle.std.proofs.lemmas.Int.{ints}
use Rattle.row_core.specs.Vectors.{cell}
use Rattle.row_core.specs.Points.{IsPoint}
use Rattle.difference_bounds.specs.declared.fraction.Fraction.{Fraction}
use Rattle.difference_bounds.specs.Walks.{Bounds}
use Rattle.difference_bounds.specs.Values.{Values, IsWithin, Meets}
use Rattle.bd_shape.specs.Shapes.{place_value, values_at}

-- the values of n places from place k + 1 on, each less that of place 0, and then the divisor
abbrev entries : Values → ℕ → ℕ → List ℤ
entries v k zero = v.divisor ∷ []
entries v k (suc n) = (v.at (suc k) -ℤ v.at 0) ∷ entries v (suc k) n

abbrev pub point_of : ℕ → Values → List ℤ
point_of dim v = entries v 0 dim

wide : (v : Values) (k n : ℕ) → length (entries v k n) ≡ n + 1
wide v k zero = refl
wide v k (suc n) = let e = wide v (suc k) n in omega (arith, e)

last : (v : Values) (k n : ℕ) → cell (entries v k n) n ≡ v.divisor
last v k zero = refl
last v k (suc n) = last v (suc k) n

entry : (v : Values) (k n j : ℕ) → j < n → cell (entries v k n) j ≡ v.at (suc (k + j)) -ℤ v.at 0
entry v k zero j h = absurd (omega arith)
entry v k (suc n) zero h = ap (λ (x : ℕ). v.at (suc x) -ℤ v.at 0) (omega arith)
entry v k (suc n) (suc j) h = entry v (suc k) n j (omega arith) ∙ ap (λ (x : ℕ). v.at (suc x) -ℤ v.at 0) (omega arith)

pub point_is : (dim : ℕ) (v : Values) → pos 0 <ℤ v.divisor → IsPoint dim (point_of dim v)
point_is dim v p = record { wide = wide v 0 dim; positive = subst (λ (z : ℤ). pos 0 <ℤ z) (sym (last v 0 dim)) p }

pub divisor_is : (dim : ℕ) (v : Values) → cell (point_of dim v) dim ≡ v.divisor
divisor_is dim v = last v 0 dim

place_is : (dim : ℕ) (v : Values) (i : ℕ) → i < dim + 1 → place_value (point_of dim v) i ≡ v.at i -ℤ v.at 0
place_is dim v zero h = omega (arith, ints)
place_is dim v (suc i) h = entry v 0 dim i (omega arith) ∙ ap (λ (x : ℕ). v.at (suc x) -ℤ v.at 0) (omega arith)

pub difference_is : (dim : ℕ) (v : Values) (i j : ℕ) → i < dim + 1 → j < dim + 1 → place_value (point_of dim v) i -ℤ place_value (point_of dim v) j ≡ v.at i -ℤ v.at j
difference_is dim v i j li lj = let e = place_is dim v i li in let f = place_is dim v j lj in omega (arith, ints, e, f)

within_same : (v u : Values) (i j : ℕ) (f : Fraction) → u.at i -ℤ u.at j ≡ v.at i -ℤ v.at j → u.divisor ≡ v.divisor → IsWithin v i j f → IsWithin u i j f
within_same v u i j f e g h = subst (λ (z : ℤ). (f.den *ℤ z) ≤ℤ (f.num *ℤ u.divisor)) (sym e) (subst (λ (z : ℤ). (f.den *ℤ (v.at i -ℤ v.at j)) ≤ℤ (f.num *ℤ z)) (sym g) h)

pub point_meets : (b : Bounds) (dim : ℕ) (v : Values) → Meets b (dim + 1) v → Meets b (dim + 1) (values_at dim (point_of dim v))
point_meets b dim v h = record {
  positive = (point_is dim v h.positive).positive;
  each = λ i j li lj f e. within_same v (values_at dim (point_of dim v)) i j f (difference_is dim v i j li lj) (last v 0 dim) (h.each i j li lj f e);
}

pub point_within : (dim : ℕ) (v : Values) (i j : ℕ) (f : Fraction) → i < dim + 1 → j < dim + 1 → IsWithin (values_at dim (point_of dim v)) i j f → IsWithin v i j f
point_within dim v i j f li lj h = within_same (values_at dim (point_of dim v)) v i j f (sym (difference_is dim v i j li lj)) (sym (last v 0 dim)) h
