-- Lists that are related element by element.
use Rattle.std.proofs.Common.{◌≡◌, ℕ, suc, zero, ◌+◌, ◌<◌, List, [], ◌∷◌, ◌++◌, length, take, get_or, refl, sym, ap, subst, arith}
use Rattle.std.proofs.lemmas.List.{take_more}
use Rattle.row_core.specs.Lists.{Pointwise}

-- ---- lists that are related element by element
pub pointwise_nil : {A B : Type 0} (R : A → B → Type 0) → Pointwise R [] []
pointwise_nil R = record { as_many = refl; each = λ i d e b. absurd (omega (arith, b)) }

pub pointwise_tail : {A B : Type 0} (R : A → B → Type 0) (x : A) (xs : List A) (y : B)
    (ys : List B) → Pointwise R (x ∷ xs) (y ∷ ys) → Pointwise R xs ys
pointwise_tail R x xs y ys h = record {
  as_many = omega (arith, h.as_many);
  each =
      λ i d e below. h.each (suc i) d e (omega (arith, below));
}

cons_each : {A B : Type 0} (R : A → B → Type 0) (x : A) (xs : List A) (y : B) (ys : List B) →
    R x y → ((i : ℕ) (d : A) (e : B) → i < length xs → R (get_or xs i d) (get_or ys i e)) →
    (i : ℕ) (d : A) (e : B) → i < length (x ∷ xs) → R (get_or (x ∷ xs) i d) (get_or (y ∷ ys) i e)
cons_each R x xs y ys head rest zero d e below = head
cons_each R x xs y ys head rest (suc i) d e below = rest i d e (omega (arith, below))

pub pointwise_cons : {A B : Type 0} (R : A → B → Type 0) (x : A) (xs : List A) (y : B)
    (ys : List B) → R x y → Pointwise R xs ys → Pointwise R (x ∷ xs) (y ∷ ys)
pointwise_cons R x xs y ys head rest =
    record { as_many = ap suc rest.as_many; each = cons_each R x xs y ys head rest.each }

pub pointwise_one : {A B : Type 0} (R : A → B → Type 0) (x : A) (y : B) → R x y →
    Pointwise R (x ∷ []) (y ∷ [])
pointwise_one R x y h = pointwise_cons R x [] y [] h (pointwise_nil R)

pub pointwise_append : {A B : Type 0} (R : A → B → Type 0) (xs zs : List A) (ys ws : List B) →
    Pointwise R xs ys → Pointwise R zs ws → Pointwise R (xs ++ zs) (ys ++ ws)
pointwise_append R [] zs [] ws h g = g
pointwise_append R [] zs (y ∷ ys) ws h g = absurd (omega (arith, h.as_many))
pointwise_append R (x ∷ xs) zs [] ws h g = absurd (omega (arith, h.as_many))
pointwise_append R (x ∷ xs) zs (y ∷ ys) ws h g = pointwise_cons R x (xs ++ zs) y (ys ++ ws)
    (h.each 0 x y (omega arith)) (pointwise_append R xs zs ys ws (pointwise_tail R x xs y ys h) g)

pub pointwise_push : {A B : Type 0} (R : A → B → Type 0) (xs : List A) (ys : List B) (x : A)
    (y : B) → Pointwise R xs ys → R x y → Pointwise R (xs ++ x ∷ []) (ys ++ y ∷ [])
pointwise_push R xs ys x y p r =
    pointwise_append R xs (x ∷ []) ys (y ∷ []) p (pointwise_one R x y r)

-- one element more of the first list
pub pointwise_more : {A B : Type 0} (R : A → B → Type 0) (xs : List A) (ys new : List B) (i : ℕ)
    (d : A) (y : B) → i < length xs → Pointwise R (take i xs) ys → R (get_or xs i d) y →
    new ≡ ys ++ y ∷ [] → Pointwise R (take (i + 1) xs) new
pointwise_more {A} {B} R xs ys new i d y h p r is =
    subst (λ (zs : List A). Pointwise R zs new) (sym (take_more xs i d h))
    (subst (λ (bs : List B). Pointwise R (take i xs ++ get_or xs i d ∷ []) bs) (sym is)
    (pointwise_push R (take i xs) ys (get_or xs i d) y p r))
