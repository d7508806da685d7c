-- Orders of fractions with positive divisors, by products, both ways up.
use Rattle.std.proofs.Common.{◌≡◌, ◌⊎◌, inl, inr, ℤ, pos, ◌+ℤ◌, ◌-ℤ◌, ◌*ℤ◌, ◌≤ℤ◌, ◌<ℤ◌, sym, subst, arith}
use Rattle.std.specs.Prelude.{Bool, true, false}
use Rattle.std.proofs.lemmas.Int.{ints}
use Rattle.cone_laws.proofs.Ring.{ring, by_sign, mul-at_least_zero, mul-positive, at_least_zero_of_mul, positive_of_mul}
use Rattle.optimum.specs.Search.{IsShort, IsAtMost}

across : (a da b db c dc : ℤ) → db *ℤ (c *ℤ da -ℤ a *ℤ dc) ≡ da *ℤ (c *ℤ db -ℤ b *ℤ dc) +ℤ dc *ℤ (b *ℤ da -ℤ a *ℤ db)
across a da b db c dc = simp ring (omega (arith, ints))

least_gap : (x y : ℤ) → x ≤ℤ y → pos 0 ≤ℤ (y -ℤ x)
least_gap x y h = omega (arith, ints, h)

above_gap : (x y : ℤ) → x <ℤ y → pos 0 <ℤ (y -ℤ x)
above_gap x y h = omega (arith, ints, h)

gap_least : (x y : ℤ) → pos 0 ≤ℤ (y -ℤ x) → x ≤ℤ y
gap_least x y h = omega (arith, ints, h)

gap_above : (x y : ℤ) → pos 0 <ℤ (y -ℤ x) → x <ℤ y
gap_above x y h = omega (arith, ints, h)

weak : (x : ℤ) → pos 0 <ℤ x → pos 0 ≤ℤ x
weak x h = omega (arith, ints, h)

le_le : (a da b db c dc : ℤ) → pos 0 <ℤ da → pos 0 <ℤ db → pos 0 <ℤ dc → (a *ℤ db) ≤ℤ (b *ℤ da) → (b *ℤ dc) ≤ℤ (c *ℤ db) → (a *ℤ dc) ≤ℤ (c *ℤ da)
le_le a da b db c dc p q r h k =
    let x = mul-at_least_zero da (c *ℤ db -ℤ b *ℤ dc) (weak da p) (least_gap (b *ℤ dc) (c *ℤ db) k) in
    let y = mul-at_least_zero dc (b *ℤ da -ℤ a *ℤ db) (weak dc r) (least_gap (a *ℤ db) (b *ℤ da) h) in
    let z : pos 0 ≤ℤ (db *ℤ (c *ℤ da -ℤ a *ℤ dc)) = omega (arith, ints, across a da b db c dc, x, y) in
    gap_least (a *ℤ dc) (c *ℤ da) (at_least_zero_of_mul db (c *ℤ da -ℤ a *ℤ dc) q z)

le_lt : (a da b db c dc : ℤ) → pos 0 <ℤ da → pos 0 <ℤ db → pos 0 <ℤ dc → (a *ℤ db) ≤ℤ (b *ℤ da) → (b *ℤ dc) <ℤ (c *ℤ db) → (a *ℤ dc) <ℤ (c *ℤ da)
le_lt a da b db c dc p q r h k =
    let x = mul-positive da (c *ℤ db -ℤ b *ℤ dc) p (above_gap (b *ℤ dc) (c *ℤ db) k) in
    let y = mul-at_least_zero dc (b *ℤ da -ℤ a *ℤ db) (weak dc r) (least_gap (a *ℤ db) (b *ℤ da) h) in
    let z : pos 0 <ℤ (db *ℤ (c *ℤ da -ℤ a *ℤ dc)) = omega (arith, ints, across a da b db c dc, x, y) in
    gap_above (a *ℤ dc) (c *ℤ da) (positive_of_mul db (c *ℤ da -ℤ a *ℤ dc) q z)

lt_le : (a da b db c dc : ℤ) → pos 0 <ℤ da → pos 0 <ℤ db → pos 0 <ℤ dc → (a *ℤ db) <ℤ (b *ℤ da) → (b *ℤ dc) ≤ℤ (c *ℤ db) → (a *ℤ dc) <ℤ (c *ℤ da)
lt_le a da b db c dc p q r h k =
    let x = mul-at_least_zero da (c *ℤ db -ℤ b *ℤ dc) (weak da p) (least_gap (b *ℤ dc) (c *ℤ db) k) in
    let y = mul-positive dc (b *ℤ da -ℤ a *ℤ db) r (above_gap (a *ℤ db) (b *ℤ da) h) in
    let z : pos 0 <ℤ (db *ℤ (c *ℤ da -ℤ a *ℤ dc)) = omega (arith, ints, across a da b db c dc, x, y) in
    gap_above (a *ℤ dc) (c *ℤ da) (positive_of_mul db (c *ℤ da -ℤ a *ℤ dc) q z)

pub most_most : (up : Bool) (a da b db c dc : ℤ) → pos 0 <ℤ da → pos 0 <ℤ db → pos 0 <ℤ dc → IsAtMost up (a *ℤ db) (b *ℤ da) → IsAtMost up (b *ℤ dc) (c *ℤ db) → IsAtMost up (a *ℤ dc) (c *ℤ da)
most_most true a da b db c dc p q r h k = le_le a da b db c dc p q r h k
most_most false a da b db c dc p q r h k = le_le c dc b db a da r q p k h

pub most_short : (up : Bool) (a da b db c dc : ℤ) → pos 0 <ℤ da → pos 0 <ℤ db → pos 0 <ℤ dc → IsAtMost up (a *ℤ db) (b *ℤ da) → IsShort up (b *ℤ dc) (c *ℤ db) → IsShort up (a *ℤ dc) (c *ℤ da)
most_short true a da b db c dc p q r h k = le_lt a da b db c dc p q r h k
most_short false a da b db c dc p q r h k = lt_le c dc b db a da r q p k h

pub short_most : (up : Bool) (a da b db c dc : ℤ) → pos 0 <ℤ da → pos 0 <ℤ db → pos 0 <ℤ dc → IsShort up (a *ℤ db) (b *ℤ da) → IsAtMost up (b *ℤ dc) (c *ℤ db) → IsShort up (a *ℤ dc) (c *ℤ da)
short_most true a da b db c dc p q r h k = lt_le a da b db c dc p q r h k
short_most false a da b db c dc p q r h k = le_lt c dc b db a da r q p k h

pub most_self : (up : Bool) (x : ℤ) → IsAtMost up x x
most_self true x = omega (arith, ints)
most_self false x = omega (arith, ints)

pub most_same : (up : Bool) (x y : ℤ) → x ≡ y → IsAtMost up x y
most_same up x y e = subst (λ (z : ℤ). IsAtMost up x z) e (most_self up x)

pub short_weak : (up : Bool) (x y : ℤ) → IsShort up x y → IsAtMost up x y
short_weak true x y h = omega (arith, ints, h)
short_weak false x y h = omega (arith, ints, h)

pub short_not_most : (up : Bool) (x y : ℤ) → IsShort up x y → IsAtMost up y x → ⊥
short_not_most true x y h k = omega (arith, ints, h, k)
short_not_most false x y h k = omega (arith, ints, h, k)

data Order (x y : ℤ) : Type 0 where
  less : x <ℤ y → Order x y
  more : y <ℤ x → Order x y
  equal : x ≡ y → Order x y

order : (x y : ℤ) → Order x y
order x y = by (by_sign (y -ℤ x))
  where
    by : (pos 0 <ℤ (y -ℤ x)) ⊎ (((y -ℤ x) <ℤ pos 0) ⊎ (y -ℤ x ≡ pos 0)) → Order x y
    by (inl p) = less (omega (arith, ints, p))
    by (inr (inl n)) = more (omega (arith, ints, n))
    by (inr (inr z)) = equal (omega (arith, ints, z))

pub short_or_most : (up : Bool) (x y : ℤ) → IsShort up x y ⊎ IsAtMost up y x
short_or_most true x y = by (order x y)
  where
    by : Order x y → (x <ℤ y) ⊎ (y ≤ℤ x)
    by (less p) = inl p
    by (more p) = inr (omega (arith, ints, p))
    by (equal p) = inr (omega (arith, ints, p))
short_or_most false x y = by (order x y)
  where
    by : Order x y → (y <ℤ x) ⊎ (x ≤ℤ y)
    by (less p) = inr (omega (arith, ints, p))
    by (more p) = inl p
    by (equal p) = inr (omega (arith, ints, p))

pub most_if_not : (up : Bool) (x y : ℤ) → ¬ (IsShort up x y) → IsAtMost up y x
most_if_not up x y n = by (short_or_most up x y)
  where
    by : IsShort up x y ⊎ IsAtMost up y x → IsAtMost up y x
    by (inl p) = absurd (n p)
    by (inr p) = p

pub short_if_not : (up : Bool) (x y : ℤ) → ¬ (IsAtMost up y x) → IsShort up x y
short_if_not up x y n = by (short_or_most up x y)
  where
    by : IsShort up x y ⊎ IsAtMost up y x → IsShort up x y
    by (inl p) = p
    by (inr p) = absurd (n p)

-- at most and not the same
pub short_if_other : (up : Bool) (x y : ℤ) → IsAtMost up x y → ¬ (y ≡ x) → IsShort up x y
short_if_other true x y h n = by (order x y)
  where
    by : Order x y → x <ℤ y
    by (less p) = p
    by (more p) = omega (arith, ints, p, h)
    by (equal p) = absurd (n (sym p))
short_if_other false x y h n = by (order x y)
  where
    by : Order x y → y <ℤ x
    by (less p) = omega (arith, ints, p, h)
    by (more p) = p
    by (equal p) = absurd (n (sym p))
