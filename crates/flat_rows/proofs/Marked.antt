-- The marked elements of a list.
use Rattle.std.proofs.Common.{◌≡◌, ℕ, suc, zero, Bool, true, false, List, [], ◌∷◌, ◌++◌, length, map, replicate, refl, ap, arith}
use Rattle.std.specs.Prelude.{All}
use Rattle.std.proofs.lemmas.List.Elements.{All-nil, All-cons, All-head, All-tail}
use Rattle.flat_rows.specs.Flat.{marked}

pub marked_all : {X : Type 0} (n : ℕ) (xs : List X) → n ≡ length xs → marked (replicate n true) xs ≡ xs
marked_all zero [] e = refl
marked_all zero (x ∷ xs) e = absurd (omega (arith, e))
marked_all (suc n) [] e = absurd (omega (arith, e))
marked_all (suc n) (x ∷ xs) e = ap (λ ys. x ∷ ys) (marked_all n xs (omega (arith, e)))

pub marked-map : {X Y : Type 0} (f : X → Y) (keep : List Bool) (xs : List X) → map f (marked keep xs) ≡ marked keep (map f xs)
marked-map f [] xs = refl
marked-map f (k ∷ keep) [] = refl
marked-map f (true ∷ keep) (x ∷ xs) = ap (λ (ys : List _). f x ∷ ys) (marked-map f keep xs)
marked-map f (false ∷ keep) (x ∷ xs) = marked-map f keep xs

pub all_marked : {X : Type 0} (P : X → Type 0) (keep : List Bool) (xs : List X) → All P xs → All P (marked keep xs)
all_marked P [] xs h = All-nil P
all_marked P (k ∷ keep) [] h = All-nil P
all_marked P (true ∷ keep) (x ∷ xs) h = All-cons P x (marked keep xs) (All-head P x xs h) (all_marked P keep xs (All-tail P x xs h))
all_marked P (false ∷ keep) (x ∷ xs) h = all_marked P keep xs (All-tail P x xs h)

pub marked-append : {X : Type 0} (marks more : List Bool) (xs ys : List X) → length marks ≡ length xs → marked (marks ++ more) (xs ++ ys) ≡ marked marks xs ++ marked more ys
marked-append [] more [] ys e = refl
marked-append [] more (x ∷ xs) ys e = absurd (omega (arith, e))
marked-append (m ∷ marks) more [] ys e = absurd (omega (arith, e))
marked-append (true ∷ marks) more (x ∷ xs) ys e = ap (λ zs. x ∷ zs) (marked-append marks more xs ys (omega (arith, e)))
marked-append (false ∷ marks) more (x ∷ xs) ys e = marked-append marks more xs ys (omega (arith, e))
