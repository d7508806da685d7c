-- Positive multiples keep the sign.
use Rattle.std.proofs.Common.{◌≡◌, ◌⊎◌, inl, inr, ℤ, pos, ◌*ℤ◌, ◌≤ℤ◌, ◌<ℤ◌, ap, arith}
use Rattle.std.proofs.lemmas.Int.{ints}
use Rattle.row_core.proofs.Ring.{mul-zero, mul-positive, mul-negative, by_sign}
use Rattle.cons_sys.specs.Kinds.{Allows}
use Rattle.cons_sys.specs.declared.kind.ConKind.{ConKind}
use Rattle.cons_sys.specs.declared.kind.ConKind.TheVariants.{Eq, Ge, Gt}

-- equal positive multiples have one sign
pub record SameSign (a b : ℤ) : Type 0 where
  pub zero_if : a ≡ pos 0 → b ≡ pos 0
  pub at_least_zero : pos 0 ≤ℤ a → pos 0 ≤ℤ b
  pub positive : pos 0 <ℤ a → pos 0 <ℤ b

same_sign_by : (k m a b : ℤ) → pos 0 <ℤ k → pos 0 <ℤ m → k *ℤ a ≡ m *ℤ b → (pos 0 <ℤ a) ⊎ ((a <ℤ pos 0) ⊎ (a ≡ pos 0)) → (pos 0 <ℤ b) ⊎ ((b <ℤ pos 0) ⊎ (b ≡ pos 0)) → SameSign a b
same_sign_by k m a b p q e (inl x) (inl y) = record { zero_if = λ h. absurd (omega (arith, ints, h)); at_least_zero = λ h. omega (arith, ints); positive = λ h. y }
same_sign_by k m a b p q e (inl x) (inr (inl y)) = absurd (omega (arith, ints, mul-positive k a p x, mul-negative m b q y, e))
same_sign_by k m a b p q e (inl x) (inr (inr y)) = absurd (omega (arith, ints, mul-positive k a p x, mul-zero m, ap (λ (z : ℤ). m *ℤ z) y, e))
same_sign_by k m a b p q e (inr (inl x)) (inl y) = absurd (omega (arith, ints, mul-negative k a p x, mul-positive m b q y, e))
same_sign_by k m a b p q e (inr (inl x)) (inr y) = record { zero_if = λ h. absurd (omega (arith, ints, h)); at_least_zero = λ h. absurd (omega (arith, ints, h)); positive = λ h. absurd (omega (arith, ints, h)) }
same_sign_by k m a b p q e (inr (inr x)) (inl y) = absurd (omega (arith, ints, mul-positive m b q y, mul-zero k, ap (λ (z : ℤ). k *ℤ z) x, e))
same_sign_by k m a b p q e (inr (inr x)) (inr (inl y)) = absurd (omega (arith, ints, mul-negative m b q y, mul-zero k, ap (λ (z : ℤ). k *ℤ z) x, e))
same_sign_by k m a b p q e (inr (inr x)) (inr (inr y)) = record { zero_if = λ h. y; at_least_zero = λ h. omega (arith, ints, y); positive = λ h. absurd (omega (arith, ints, h, x)) }

pub same_sign : (k m a b : ℤ) → pos 0 <ℤ k → pos 0 <ℤ m → k *ℤ a ≡ m *ℤ b → SameSign a b
same_sign k m a b p q e = same_sign_by k m a b p q e (by_sign a) (by_sign b)

-- a kind allows both or neither of two numbers of one sign
pub Allows-same_sign : (kind : ConKind) (a b : ℤ) → SameSign a b → Allows kind a → Allows kind b
Allows-same_sign Eq a b same h = same.zero_if h
Allows-same_sign Ge a b same h = same.at_least_zero h
Allows-same_sign Gt a b same h = same.positive h
