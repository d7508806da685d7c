-- The marked elements of lists that are related element by element.
use Rattle.std.proofs.Common.{Bool, true, false, List, [], ◌∷◌, refl, arith}
use Rattle.flat_rows.specs.Flat.{marked}
use Rattle.row_core.specs.Lists.{Pointwise}
use Rattle.row_core.proofs.PointwiseLemmas.{pointwise_tail, pointwise_cons}

pub pointwise_marked : {A B : Type 0} (R : A → B → Type 0) (marks : List Bool) (xs : List A) (ys : List B) → Pointwise R xs ys → Pointwise R (marked marks xs) (marked marks ys)
pointwise_marked R [] xs ys h = record { as_many = refl; each = λ i d e below. absurd (omega (arith, below)) }
pointwise_marked R (m ∷ marks) [] [] h = h
pointwise_marked R (m ∷ marks) [] (y ∷ ys) h = absurd (omega (arith, h.as_many))
pointwise_marked R (m ∷ marks) (x ∷ xs) [] h = absurd (omega (arith, h.as_many))
pointwise_marked R (true ∷ marks) (x ∷ xs) (y ∷ ys) h = pointwise_cons R x (marked marks xs) y (marked marks ys) (h.each 0 x y (omega arith)) (pointwise_marked R marks xs ys (pointwise_tail R x xs y ys h))
pointwise_marked R (false ∷ marks) (x ∷ xs) (y ∷ ys) h = pointwise_marked R marks xs ys (pointwise_tail R x xs y ys h)
