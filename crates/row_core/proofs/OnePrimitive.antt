-- The primitive vector of which a vector is a positive multiple is one: its factor is the greatest
-- common divisor.
use Rattle.std.specs.Prelude.{◌≡◌, ℕ, ◌+◌, ◌-◌, ◌*◌, ◌<◌, ◌≤◌, zero, suc, List, [], ◌∷◌, length, ℤ, pos, negsuc, ◌*ℤ◌, All, unsigned_abs}
use Prim.Native.Nat.{◌∣◌}
use Rattle.std.specs.Int.{IsGcd}
use Rattle.std.proofs.Common.{arith, sym, ◌∙◌, ap, refl, subst, inl, inr, mul-pos}
use Rattle.std.proofs.Math.Nat.{dvd-zero, le_of_mul-le-mul_left}
use Rattle.std.proofs.lemmas.Bool.{cases_lt}
use Rattle.std.proofs.lemmas.Int.{ints, unsigned_abs-mul}
use Rattle.std.proofs.lemmas.List.{ext_get_or}
use Rattle.std.proofs.lemmas.List.Elements.{All-nil, All-cons, All-head, All-tail, All-weaker, All-get_or}
use Rattle.std.proofs.lemmas.Nat.Gcd.{IsGcd-from_zero, IsGcd-from_sub, IsGcd-swap, dvd_trans, dvd_antisymm}
use Rattle.row_core.specs.Vectors.{cell, scale}
use Rattle.row_core.specs.Content.{DividesAll, IsPrimitive, IsMultipleOf, IsPrimitiveOf}
use Rattle.row_core.proofs.CellLemmas.{cell-scale, length-scale}
use Rattle.row_core.proofs.ContentLemmas.{Divides, IsMultipleOf-refl}

-- a greatest common divisor, which is multiplied as both numbers are
pub record ScaledGcd (a b : ℕ) : Type 0 where
  pub divisor : ℕ
  pub is : IsGcd a b divisor
  pub scaled : (m : ℕ) → IsGcd (m * a) (m * b) (m * divisor)

zero_times : (m b : ℕ) → b ≡ 0 → m * b ≡ 0
zero_times m b e = omega (arith, ap (λ (n : ℕ). m * n) e)

difference_times : (m a b : ℕ) → b ≤ a → m * a - m * b ≡ m * (a - b)
difference_times m a b h = go (a - b) (omega arith)
  where
    go : (c : ℕ) → a ≡ b + c → m * a - m * b ≡ m * c
    go c e = omega (arith, ap (λ n. m * n) e)

le_times : (m a b : ℕ) → b ≤ a → m * b ≤ m * a
le_times m a b h = go (a - b) (omega arith)
  where
    go : (c : ℕ) → a ≡ b + c → m * b ≤ m * a
    go c e = omega (arith, ap (λ n. m * n) e)

scaled_zero : (a b : ℕ) → b ≡ 0 → ScaledGcd a b
scaled_zero a b e = record {
  divisor = a;
  is = IsGcd-from_zero a b e;
  scaled =
      λ m. IsGcd-from_zero (m * a) (m * b) (zero_times m b e);
}

scaled_swap : (a b : ℕ) → ScaledGcd a b → ScaledGcd b a
scaled_swap a b g = record {
  divisor = g.divisor;
  is = IsGcd-swap a b g.divisor g.is;
  scaled =
      λ m. IsGcd-swap (m * a) (m * b) (m * g.divisor) (g.scaled m);
}

scaled_sub : (a b : ℕ) → b ≤ a → ScaledGcd (a - b) b → ScaledGcd a b
scaled_sub a b h g = record {
  divisor = g.divisor;
  is = IsGcd-from_sub a b g.divisor h g.is;
  scaled = λ m. IsGcd-from_sub (m * a) (m * b) (m * g.divisor) (le_times m a b h)
      (subst (λ n. IsGcd n (m * b) (m * g.divisor)) (sym (difference_times m a b h)) (g.scaled m));
}

-- two numbers whose sum is at most n have one
pub scaled_gcd_by : (n a b : ℕ) → a + b ≤ n → ScaledGcd a b
scaled_gcd_by zero a b h = scaled_zero a b (omega arith)
scaled_gcd_by (suc n) a b h =
    elim (cases_lt 0 b) [
      | inr none ↦ scaled_zero a b (omega arith)
      | inl some ↦ elim (cases_lt 0 a) [
        | inr none ↦ scaled_swap b a (scaled_zero b a (omega arith))
        | inl more ↦ elim (cases_lt a b) [
          | inl less ↦ scaled_swap b a (scaled_sub b a (omega arith)
              (scaled_gcd_by n (b - a) a (omega arith)))
          | inr not_less ↦ scaled_sub a b not_less (scaled_gcd_by n (a - b) b (omega arith))
        ]
      ]
    ]

-- the number is the greatest common divisor of the entries
pub record IsContent (g : ℕ) (v : List ℤ) : Type 0 where
  pub divides : DividesAll g v
  pub greatest : (d : ℕ) → DividesAll d v → d ∣ g

IsContent-nil : (g : ℕ) → g ≡ 0 → IsContent g []
IsContent-nil g e = record {
  divides = All-nil (Divides g);
  greatest =
      λ d all. subst (λ n. d ∣ n) (sym e) (dvd-zero d);
}

IsContent-cons : (z : ℤ) (v : List ℤ) (g h : ℕ) → IsGcd (unsigned_abs z) g h → IsContent g v →
    IsContent h (z ∷ v)
IsContent-cons z v g h is content = record {
  divides = All-cons (Divides h) z v is.0
      (All-weaker (Divides g) (Divides h) (λ y p. dvd_trans h is.1 p) v content.divides);
  greatest = λ d all. is.2 d (All-head (Divides d) z v all)
      (content.greatest d (All-tail (Divides d) z v all));
}

-- a greatest common divisor of the entries, which is multiplied as the vector is
record ScaledContent (v : List ℤ) : Type 0 where
  divisor : ℕ
  is : IsContent divisor v
  scaled : (m : ℕ) → IsContent (m * divisor) (scale (pos m) v)

scaled_content : (v : List ℤ) → ScaledContent v
scaled_content [] = record {
  divisor = 0;
  is = IsContent-nil 0 refl;
  scaled =
      λ m. IsContent-nil (m * 0) (zero_times m 0 refl);
}
scaled_content (z ∷ v) =
    let rest = scaled_content v in
    let g = scaled_gcd_by (unsigned_abs z + rest.divisor) (unsigned_abs z) rest.divisor
    (omega arith) in
    record {
      divisor = g.divisor;
      is = IsContent-cons z v rest.divisor g.divisor g.is rest.is;
      scaled = λ m. IsContent-cons (pos m *ℤ z) (scale (pos m) v) (m * rest.divisor) (m * g.divisor)
          (subst (λ n. IsGcd n (m * rest.divisor) (m * g.divisor))
          (sym (unsigned_abs-mul (pos m) z)) (g.scaled m)) (rest.scaled m);
    }

-- where nothing but 1 divides each entry, the greatest common divisor of a multiple is its factor
IsContent-multiple : (v : List ℤ) (m : ℕ) → ((d : ℕ) → DividesAll d v → d ≡ 1) →
    IsContent m (scale (pos m) v)
IsContent-multiple v m one =
    let content = scaled_content v in
    subst (λ n. IsContent n (scale (pos m) v))
    (ap (λ n. m * n) (one content.divisor content.is.divides) ∙ times_one m) (content.scaled m)
  where
    times_one : (m : ℕ) → m * 1 ≡ m
    times_one m = omega arith

abs_cancel : (m a b : ℕ) → 0 < m → m * a ≡ m * b → a ≡ b
abs_cancel m a b h e =
    let p : a ≤ b = le_of_mul-le-mul_left {k = m} (omega (arith, e)) h in
    let q : b ≤ a = le_of_mul-le-mul_left {k = m} (omega (arith, e)) h in
    omega arith

cancel : (m : ℕ) (a b : ℤ) → 0 < m → pos m *ℤ a ≡ pos m *ℤ b → a ≡ b
cancel m a b h e = cancel_by m a b h e
    (abs_cancel m (unsigned_abs a) (unsigned_abs b) h
    (sym (unsigned_abs-mul (pos m) a) ∙ (ap unsigned_abs e ∙ unsigned_abs-mul (pos m) b)))
  where
    cancel_by : (m : ℕ) (a b : ℤ) → 0 < m → pos m *ℤ a ≡ pos m *ℤ b →
        unsigned_abs a ≡ unsigned_abs b → a ≡ b
    cancel_by m (pos a) (pos b) h e same = ap pos same
    cancel_by m (negsuc a) (negsuc b) h e same = ap negsuc (omega (arith, same))
    cancel_by m (pos a) (negsuc b) h e same = let q : 0 < suc b = omega arith in
        absurd (omega (arith, ints, mul-pos h q, e))
    cancel_by m (negsuc a) (pos b) h e same = let q : 0 < suc a = omega arith in
        absurd (omega (arith, ints, mul-pos h q, e))

cell_of : (old new : List ℤ) (m : IsMultipleOf old new) (j : ℕ) →
    cell old j ≡ pos m.times *ℤ cell new j
cell_of old new m j = ap (λ (v : List ℤ). cell v j) m.same ∙ cell-scale (pos m.times) new j

length_of : (old new : List ℤ) → IsMultipleOf old new → length old ≡ length new
length_of old new m = ap length m.same ∙ length-scale (pos m.times) new

-- equal factors give equal vectors
same_factor : (old a b : List ℤ) (p : IsMultipleOf old a) (q : IsMultipleOf old b) →
    p.times ≡ q.times → a ≡ b
same_factor old a b p q e =
    ext_get_or (pos 0) a b (sym (length_of old a p) ∙ length_of old b q)
    (λ j h. cancel p.times (cell a j) (cell b j) p.positive
    (sym (cell_of old a p j) ∙ (cell_of old b q j ∙ ap (λ (n : ℕ). pos n *ℤ cell b j) (sym e))))

zero_cancel : (m n : ℕ) (a b : ℤ) → 0 < n → pos m *ℤ a ≡ pos n *ℤ b → a ≡ pos 0 → a ≡ b
zero_cancel m n a b h e z = z ∙
    sym (cancel n b (pos 0) h (sym e ∙ (ap (λ (x : ℤ). pos m *ℤ x) z ∙ both_zero m n)))
  where
    both_zero : (m n : ℕ) → pos m *ℤ pos 0 ≡ pos n *ℤ pos 0
    both_zero m n = omega (arith, ints)

-- a vector of zeros is a multiple of zeros alone
same_zeros : (old a b : List ℤ) (p : IsMultipleOf old a) (q : IsMultipleOf old b) →
    All (λ z. z ≡ pos 0) a → a ≡ b
same_zeros old a b p q zeros =
    ext_get_or (pos 0) a b (sym (length_of old a p) ∙ length_of old b q)
    (λ j h. zero_cancel p.times q.times (cell a j) (cell b j) q.positive
    (sym (cell_of old a p j) ∙ cell_of old b q j)
    (All-get_or (λ z. z ≡ pos 0) a j (pos 0) h zeros))

same_by_primitive : (old a b : List ℤ) (p : IsMultipleOf old a) (q : IsMultipleOf old b) →
    IsPrimitive a → IsPrimitive b → a ≡ b
same_by_primitive old a b p q (inl zeros) primitive = same_zeros old a b p q zeros
same_by_primitive old a b p q (inr one) (inl zeros) = sym (same_zeros old b a q p zeros)
same_by_primitive old a b p q (inr one) (inr also_one) =
    let left : IsContent p.times old =
    subst (IsContent p.times) (sym p.same) (IsContent-multiple a p.times one) in
    let right : IsContent q.times old =
    subst (IsContent q.times) (sym q.same) (IsContent-multiple b q.times also_one) in
    same_factor old a b p q (dvd_antisymm (right.greatest p.times left.divides)
    (left.greatest q.times right.divides))

pub IsPrimitiveOf-once : (old a b : List ℤ) → IsPrimitiveOf old a → IsPrimitiveOf old b → a ≡ b
IsPrimitiveOf-once old a b p q =
    same_by_primitive old a b p.multiple q.multiple p.primitive q.primitive

-- a primitive vector is its own
pub IsPrimitiveOf-self : (v : List ℤ) → IsPrimitive v → IsPrimitiveOf v v
IsPrimitiveOf-self v primitive = record { multiple = IsMultipleOf-refl v; primitive = primitive }

-- and so is stored as it is
pub stored_as_is : (row stored : List ℤ) → IsPrimitive row → IsPrimitiveOf row stored → stored ≡ row
stored_as_is row stored p s = IsPrimitiveOf-once row stored row s (IsPrimitiveOf-self row p)
