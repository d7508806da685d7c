-- Lists that are related element by element.
use Rattle.std.proofs.Common.{◌≡◌, ◌⊎◌, inl, inr, ℕ, ◌+◌, ◌<◌, ◌≤◌, List, [], ◌∷◌, ◌++◌, length, take, slice_index_or, sym, ap, ◌∙◌, subst, arith, length-append}
use Rattle.std.proofs.lemmas.Bool.{cases_lt}
use Rattle.std.proofs.lemmas.List.{get_or_append_left, get_or_push, take_more}
use Rattle.row_core.specs.Lists.{Pointwise}

-- of no elements
pub pointwise_none : {A B : Type 0} (R : A → B → Type 0) (ys : List B) → ys ≡ [] → Pointwise R [] ys
pointwise_none R ys is = record { as_many = ap (λ l. length l) is; each = λ i d e h. absurd (omega (arith, h)) }

pub pointwise_push : {A B : Type 0} (R : A → B → Type 0) (xs : List A) (ys : List B) (x : A) (y : B) → Pointwise R xs ys → R x y → Pointwise R (xs ++ x ∷ []) (ys ++ y ∷ [])
pointwise_push {A} {B} R xs ys x y p r = record {
  as_many = length-append ys (y ∷ []) ∙ ap (λ (n : ℕ). n + 1) p.as_many ∙ sym (length-append xs (x ∷ []));
  each = λ i d e h. by_place i d e h (cases_lt i (length xs));
}
  where
    by_place : (i : ℕ) (d : A) (e : B) → i < length (xs ++ x ∷ []) → (i < length xs) ⊎ (length xs ≤ i) → R (slice_index_or (xs ++ x ∷ []) i d) (slice_index_or (ys ++ y ∷ []) i e)
    by_place i d e h (inl l) =
        subst (λ (a : A). R a (slice_index_or (ys ++ y ∷ []) i e)) (sym (get_or_append_left xs (x ∷ []) d i l))
        (subst (λ (b : B). R (slice_index_or xs i d) b) (sym (get_or_append_left ys (y ∷ []) e i (omega (arith, l, p.as_many)))) (p.each i d e l))
    by_place i d e h (inr l) =
        let at : length xs ≡ i = omega (arith, h, l, length-append xs (x ∷ [])) in
        subst (λ (a : A). R a (slice_index_or (ys ++ y ∷ []) i e)) (sym (get_or_push xs x d i at))
        (subst (λ (b : B). R x b) (sym (get_or_push ys y e i (p.as_many ∙ at))) r)

-- one element more of the first list
pub pointwise_more : {A B : Type 0} (R : A → B → Type 0) (xs : List A) (ys new : List B) (i : ℕ) (d : A) (y : B) → i < length xs → Pointwise R (take i xs) ys → R (slice_index_or xs i d) y → new ≡ ys ++ y ∷ [] → Pointwise R (take (i + 1) xs) new
pointwise_more {A} {B} R xs ys new i d y h p r is =
    subst (λ (zs : List A). Pointwise R zs new) (sym (take_more xs i d h))
    (subst (λ (bs : List B). Pointwise R (take i xs ++ slice_index_or xs i d ∷ []) bs) (sym is) (pointwise_push R (take i xs) ys (slice_index_or xs i d) y p r))
