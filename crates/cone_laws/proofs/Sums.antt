-- Sums of multiplied lines and of rays with factors of at least 0, over vectors as functions of the column.
use Rattle.std.proofs.Common.{◌≡◌, ℕ, ℤ, pos, ◌+ℤ◌, ◌*ℤ◌, ◌≤ℤ◌, ◌<ℤ◌, refl, sym, ap, ◌∙◌, arith}
use Rattle.std.proofs.lemmas.Int.{ints}
use Rattle.row_core.proofs.Ring.{ring, mul_assoc, mul-at_least_zero, mul-positive}

-- a vector, by its entries
abbrev pub V : Type 0
V = ℕ → ℤ

-- w is k times u plus v
abbrev pub IsMore : V → ℤ → V → V → Type 0
IsMore w k u v = (j : ℕ) → w j ≡ k *ℤ u j +ℤ v j

-- the two vectors have the same entries
abbrev pub Same : V → V → Type 0
Same u v = (j : ℕ) → u j ≡ v j

-- no vector
pub data Nothing : V → Type 0 where

-- v is a vector of the numbered ones whose number is in K
pub record Among (r : ℕ → V) (K : ℕ → Type 0) (v : V) : Type 0 where
  pub index : ℕ
  pub is : K index
  pub same : Same v (r index)

-- v is a sum of multiplied lines and of rays with factors of at least 0
pub data Sums (L R : V → Type 0) : V → Type 0 where
  none : {v : V} → ((j : ℕ) → v j ≡ pos 0) → Sums L R v
  line : {v : V} (k : ℤ) (l u : V) → L l → Sums L R u → IsMore v k l u → Sums L R v
  ray : {v : V} (k : ℤ) (r u : V) → pos 0 ≤ℤ k → R r → Sums L R u → IsMore v k r u → Sums L R v

-- a positive multiple of v is such a sum
pub record SpansBy (L R : V → Type 0) (v : V) : Type 0 where
  pub times : ℤ
  pub positive : pos 0 <ℤ times
  pub sums : Sums L R (λ j. times *ℤ v j)

-- the map keeps sums and multiples
pub record IsLinear (a : V → ℤ) : Type 0 where
  pub zero : (v : V) → ((j : ℕ) → v j ≡ pos 0) → a v ≡ pos 0
  pub more : (w u v : V) (k : ℤ) → IsMore w k u v → a w ≡ k *ℤ a u +ℤ a v
  pub multiple : (w u : V) (k : ℤ) → ((j : ℕ) → w j ≡ k *ℤ u j) → a w ≡ k *ℤ a u

pub same_value : (a : V → ℤ) → IsLinear a → (u v : V) → Same u v → a u ≡ a v
same_value a lin u v e =
    let f : a u ≡ pos 1 *ℤ a v = lin.multiple u v (pos 1) (λ j. omega (arith, ints, e j)) in
    omega (arith, ints)

-- ---- closure
pub sums_same : {L R : V → Type 0} (v w : V) → Sums L R v → Same w v → Sums L R w
sums_same v w (none z) e = none (λ j. e j ∙ z j)
sums_same v w (line k l u m s h) e = line k l u m s (λ j. e j ∙ h j)
sums_same v w (ray k r u p m s h) e = ray k r u p m s (λ j. e j ∙ h j)

zero_add : (x v w : ℤ) → v ≡ pos 0 → x ≡ v +ℤ w → x ≡ w
zero_add x v w e h = omega (arith, ints)

more_add : (x v w k l u : ℤ) → v ≡ k *ℤ l +ℤ u → x ≡ v +ℤ w → x ≡ k *ℤ l +ℤ (u +ℤ w)
more_add x v w k l u e h = omega (arith, ints)

pub sums_add : {L R : V → Type 0} (v w x : V) → Sums L R v → Sums L R w → ((j : ℕ) → x j ≡ v j +ℤ w j) → Sums L R x
sums_add v w x (none z) t e = sums_same w x t (λ j. zero_add (x j) (v j) (w j) (z j) (e j))
sums_add v w x (line k l u m s h) t e =
    line k l (λ j. u j +ℤ w j) m (sums_add u w (λ j. u j +ℤ w j) s t (λ j. refl)) (λ j. more_add (x j) (v j) (w j) k (l j) (u j) (h j) (e j))
sums_add v w x (ray k r u p m s h) t e =
    ray k r (λ j. u j +ℤ w j) p m (sums_add u w (λ j. u j +ℤ w j) s t (λ j. refl)) (λ j. more_add (x j) (v j) (w j) k (r j) (u j) (h j) (e j))

pub zero_scale : (c x v : ℤ) → v ≡ pos 0 → x ≡ c *ℤ v → x ≡ pos 0
zero_scale c x v e h = h ∙ ap (λ (z : ℤ). c *ℤ z) e ∙ omega (arith, ints)

pub more_scale : (c x v k l u : ℤ) → v ≡ k *ℤ l +ℤ u → x ≡ c *ℤ v → x ≡ (c *ℤ k) *ℤ l +ℤ c *ℤ u
more_scale c x v k l u e h = h ∙ ap (λ (z : ℤ). c *ℤ z) e ∙ simp ring (omega (arith, ints))

pub sums_scale : {L R : V → Type 0} (c : ℤ) (v x : V) → pos 0 ≤ℤ c → Sums L R v → ((j : ℕ) → x j ≡ c *ℤ v j) → Sums L R x
sums_scale c v x p (none z) e = none (λ j. zero_scale c (x j) (v j) (z j) (e j))
sums_scale c v x p (line k l u m s h) e =
    line (c *ℤ k) l (λ j. c *ℤ u j) m (sums_scale c u (λ j. c *ℤ u j) p s (λ j. refl)) (λ j. more_scale c (x j) (v j) k (l j) (u j) (h j) (e j))
sums_scale c v x p (ray k r u q m s h) e =
    ray (c *ℤ k) r (λ j. c *ℤ u j) (mul-at_least_zero c k p q) m (sums_scale c u (λ j. c *ℤ u j) p s (λ j. refl)) (λ j. more_scale c (x j) (v j) k (r j) (u j) (h j) (e j))

-- what lines alone span may have any factor
pub lines_scale : {L R : V → Type 0} (c : ℤ) (v x : V) → Sums L Nothing v → ((j : ℕ) → x j ≡ c *ℤ v j) → Sums L R x
lines_scale c v x (none z) e = none (λ j. zero_scale c (x j) (v j) (z j) (e j))
lines_scale c v x (line k l u m s h) e =
    line (c *ℤ k) l (λ j. c *ℤ u j) m (lines_scale c u (λ j. c *ℤ u j) s (λ j. refl)) (λ j. more_scale c (x j) (v j) k (l j) (u j) (h j) (e j))
lines_scale c v x (ray k r u q m s h) e = elim m [ ]

pub one_more : (v x : ℤ) → v ≡ x → v ≡ pos 1 *ℤ x +ℤ pos 0
one_more v x e = omega (arith, ints)

pub sums_one_line : {L R : V → Type 0} (k : ℤ) (l v : V) → L l → ((j : ℕ) → v j ≡ k *ℤ l j) → Sums L R v
sums_one_line k l v m e = line k l (λ j. pos 0) m (none (λ j. refl)) (λ j. omega (arith, ints, e j))

pub sums_one_ray : {L R : V → Type 0} (k : ℤ) (r v : V) → pos 0 ≤ℤ k → R r → ((j : ℕ) → v j ≡ k *ℤ r j) → Sums L R v
sums_one_ray k r v p m e = ray k r (λ j. pos 0) p m (none (λ j. refl)) (λ j. omega (arith, ints, e j))

-- ---- what is closed under the three constructors holds all sums

-- more lines and rays span more
pub sums_more : {L R M S : V → Type 0} → ((l : V) → L l → M l) → ((r : V) → R r → S r) → (v : V) → Sums L R v → Sums M S v
sums_more f g v (none h) = none h
sums_more f g v (line k l u m s h) = line k l u (f l m) (sums_more f g u s) h
sums_more f g v (ray k r u p m s h) = ray k r u p (g r m) (sums_more f g u s) h

-- ---- spanning
pub spans_more : {L R M S : V → Type 0} → ((l : V) → L l → M l) → ((r : V) → R r → S r) → (v : V) → SpansBy L R v → SpansBy M S v
spans_more f g v s = record { times = s.times; positive = s.positive; sums = sums_more f g (λ j. s.times *ℤ v j) s.sums }

pub spans_sums : {L R : V → Type 0} (v : V) → Sums L R v → SpansBy L R v
spans_sums v s = record { times = pos 1; positive = omega (arith, ints); sums = sums_same v (λ j. pos 1 *ℤ v j) s (λ j. omega (arith, ints)) }

-- a vector is spanned where a positive multiple is
pub spans_of_multiple : {L R : V → Type 0} (c : ℤ) (v w : V) → pos 0 <ℤ c → SpansBy L R w → ((j : ℕ) → w j ≡ c *ℤ v j) → SpansBy L R v
spans_of_multiple c v w p s e = record {
  times = s.times *ℤ c;
  positive = mul-positive s.times c s.positive p;
  sums = sums_same (λ j. s.times *ℤ w j) (λ j. (s.times *ℤ c) *ℤ v j) s.sums (λ j. times_is s.times c (v j) (w j) (e j));
}
  where
    times_is : (t c v w : ℤ) → w ≡ c *ℤ v → (t *ℤ c) *ℤ v ≡ t *ℤ w
    times_is t c v w e = mul_assoc t c v ∙ sym (ap (λ (z : ℤ). t *ℤ z) e)

pub spans_same : {L R : V → Type 0} (v w : V) → SpansBy L R v → Same w v → SpansBy L R w
spans_same v w s e = spans_of_multiple (pos 1) w v (omega (arith, ints)) s (λ j. omega (arith, ints, e j))

-- the multiple of a sum of two, where one multiple of each is a sum
sum_times : (m n c d x v w : ℤ) → x ≡ c *ℤ v +ℤ d *ℤ w → (m *ℤ n) *ℤ x ≡ (n *ℤ c) *ℤ (m *ℤ v) +ℤ (m *ℤ d) *ℤ (n *ℤ w)
sum_times m n c d x v w e = ap (λ (z : ℤ). (m *ℤ n) *ℤ z) e ∙ simp ring (omega (arith, ints))

pub spans_add : {L R : V → Type 0} (c d : ℤ) (v w x : V) → pos 0 ≤ℤ c → pos 0 ≤ℤ d → SpansBy L R v → SpansBy L R w → ((j : ℕ) → x j ≡ c *ℤ v j +ℤ d *ℤ w j) → SpansBy L R x
spans_add c d v w x p q s t e = record {
  times = s.times *ℤ t.times;
  positive = mul-positive s.times t.times s.positive t.positive;
  sums = sums_add (λ j. (t.times *ℤ c) *ℤ (s.times *ℤ v j)) (λ j. (s.times *ℤ d) *ℤ (t.times *ℤ w j)) (λ j. (s.times *ℤ t.times) *ℤ x j)
      (sums_scale (t.times *ℤ c) (λ j. s.times *ℤ v j) (λ j. (t.times *ℤ c) *ℤ (s.times *ℤ v j)) (mul-at_least_zero t.times c (at_least t.times t.positive) p) s.sums (λ j. refl))
      (sums_scale (s.times *ℤ d) (λ j. t.times *ℤ w j) (λ j. (s.times *ℤ d) *ℤ (t.times *ℤ w j)) (mul-at_least_zero s.times d (at_least s.times s.positive) q) t.sums (λ j. refl))
      (λ j. sum_times s.times t.times c d (x j) (v j) (w j) (e j));
}
  where
    at_least : (m : ℤ) → pos 0 <ℤ m → pos 0 ≤ℤ m
    at_least m h = omega (arith, ints)

-- lines alone span also with a negative factor
pub lines_spans_scale : {L : V → Type 0} (c : ℤ) (v x : V) → SpansBy L Nothing v → ((j : ℕ) → x j ≡ c *ℤ v j) → SpansBy L Nothing x
lines_spans_scale c v x s e = record {
  times = s.times;
  positive = s.positive;
  sums = lines_scale c (λ j. s.times *ℤ v j) (λ j. s.times *ℤ x j) s.sums (λ j. swap_times s.times c (x j) (v j) (e j));
}
  where
    swap_times : (t c x v : ℤ) → x ≡ c *ℤ v → t *ℤ x ≡ c *ℤ (t *ℤ v)
    swap_times t c x v e = ap (λ (z : ℤ). t *ℤ z) e ∙ simp ring

-- lines alone span what lines and rays span
pub spans_from_lines : {L R : V → Type 0} (v : V) → SpansBy L Nothing v → SpansBy L R v
spans_from_lines v s = spans_more (λ l m. m) (λ r m. elim m [ ]) v s

-- transitivity: a positive multiple of each line, and of its negative, and of each ray is a sum of other lines and rays
pub sums_spans : {L R M S : V → Type 0} → ((l : V) → L l → SpansBy M Nothing l) → ((r : V) → R r → SpansBy M S r) → (v : V) → Sums L R v → SpansBy M S v
sums_spans f g v (none h) = spans_sums v (none h)
sums_spans {M = M} {S = S} f g v (line k l u m s h) =
    spans_add (pos 1) (pos 1) (λ j. k *ℤ l j) u v (omega (arith, ints)) (omega (arith, ints)) (spans_from_lines (λ j. k *ℤ l j) (lines_spans_scale k l (λ j. k *ℤ l j) (f l m) (λ j. refl))) (sums_spans f g u s) (λ j. omega (arith, ints, h j))
sums_spans f g v (ray k r u p m s h) =
    spans_add k (pos 1) r u v p (omega (arith, ints)) (g r m) (sums_spans f g u s) (λ j. omega (arith, ints, h j))

pub spans_spans : {L R M S : V → Type 0} → ((l : V) → L l → SpansBy M Nothing l) → ((r : V) → R r → SpansBy M S r) → (v : V) → SpansBy L R v → SpansBy M S v
spans_spans f g v s = spans_of_multiple s.times v (λ j. s.times *ℤ v j) s.positive (sums_spans f g (λ j. s.times *ℤ v j) s.sums) (λ j. refl)

-- ---- linear maps on sums
pub at_least_zero_add : (x k l u : ℤ) → x ≡ k *ℤ l +ℤ u → pos 0 ≤ℤ k → pos 0 ≤ℤ l → pos 0 ≤ℤ u → pos 0 ≤ℤ x
at_least_zero_add x k l u e p q r = let t : pos 0 ≤ℤ (k *ℤ l) = mul-at_least_zero k l p q in omega (arith, ints)

zero_more : (x k l u : ℤ) → x ≡ k *ℤ l +ℤ u → l ≡ pos 0 → x ≡ u
zero_more x k l u e z = let t = ap (λ (y : ℤ). k *ℤ y) z in omega (arith, ints, t)

-- a map that is 0 on the lines and at least 0 on the rays is at least 0 on their sums
pub sums_at_least_zero : {L R : V → Type 0} (a : V → ℤ) → IsLinear a → ((l : V) → L l → a l ≡ pos 0) → ((r : V) → R r → pos 0 ≤ℤ a r) → (v : V) → Sums L R v → pos 0 ≤ℤ a v
sums_at_least_zero a lin f g v (none h) = let e : a v ≡ pos 0 = lin.zero v h in omega (arith, ints)
sums_at_least_zero a lin f g v (line k l u m s h) =
    let i : pos 0 ≤ℤ a u = sums_at_least_zero a lin f g u s in
    let e : a v ≡ a u = zero_more (a v) k (a l) (a u) (lin.more v l u k h) (f l m) in
    omega (arith, ints)
sums_at_least_zero a lin f g v (ray k r u p m s h) =
    at_least_zero_add (a v) k (a r) (a u) (lin.more v r u k h) p (g r m) (sums_at_least_zero a lin f g u s)

-- a map that is 0 on the lines and rays is 0 on their sums
pub sums_zero : {L R : V → Type 0} (a : V → ℤ) → IsLinear a → ((l : V) → L l → a l ≡ pos 0) → ((r : V) → R r → a r ≡ pos 0) → (v : V) → Sums L R v → a v ≡ pos 0
sums_zero a lin f g v (none h) = lin.zero v h
sums_zero a lin f g v (line k l u m s h) =
    zero_more (a v) k (a l) (a u) (lin.more v l u k h) (f l m) ∙ sums_zero a lin f g u s
sums_zero a lin f g v (ray k r u p m s h) =
    zero_more (a v) k (a r) (a u) (lin.more v r u k h) (g r m) ∙ sums_zero a lin f g u s
