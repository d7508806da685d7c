-- Vectors with the sign with which an entry is positive.
use Rattle.std.proofs.Common.{◌≡◌, zero, suc, List, [], ◌∷◌, ℤ, pos, negsuc, neg_ℤ, ◌*ℤ◌, ◌<ℤ◌, refl, ap, ◌∙◌, arith}
use Rattle.std.proofs.lemmas.Int.{ints}
use Rattle.row_core.specs.Vectors.{scale}
use Rattle.row_core.specs.Signs.{sign}
use Rattle.row_core.proofs.Magnitudes.{sign_above}

pub scale_above : (u : ℤ) (v : List ℤ) → pos 0 <ℤ u → v ≡ scale (sign u) v
scale_above u [] h = refl
scale_above u (x ∷ v) h = ap (λ (y : ℤ). y ∷ v) (sign_above u x h) ∙ ap (λ (w : List ℤ). (sign u *ℤ x) ∷ w) (scale_above u v h)

sign_is : (u : ℤ) → u <ℤ pos 0 → neg_ℤ (pos 1) ≡ sign u
sign_is (pos zero) h = absurd (omega (arith, ints, h))
sign_is (pos (suc n)) h = absurd (omega (arith, ints, h))
sign_is (negsuc n) h = refl

pub scale_below : (u : ℤ) (v : List ℤ) → u <ℤ pos 0 → scale (neg_ℤ (pos 1)) v ≡ scale (sign u) v
scale_below u v h = ap (λ (k : ℤ). scale k v) (sign_is u h)
