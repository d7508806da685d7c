-- Facts of all elements of a list of two parts, and of a mapped list.
use Rattle.std.proofs.Common.{List, [], ◌∷◌, ◌++◌, map, All}
use Rattle.std.proofs.lemmas.List.Elements.{All-nil, All-cons, All-head, All-tail}

module _ {X Y : Type 0} (f : Y → X) (P : X → Type 0) where
  abbrev Of : Y → Type 0
  Of y = P (f y)

  pub All-map_first : (ys : List Y) (xs : List X) → All P (map f ys ++ xs) → All (λ y. P (f y)) ys
  All-map_first [] xs h = All-nil Of
  All-map_first (y ∷ ys) xs h = All-cons Of y ys (All-head P (f y) (map f ys ++ xs) h) (All-map_first ys xs (All-tail P (f y) (map f ys ++ xs) h))

  pub All-map_rest : (ys : List Y) (xs : List X) → All P (map f ys ++ xs) → All P xs
  All-map_rest [] xs h = h
  All-map_rest (y ∷ ys) xs h = All-map_rest ys xs (All-tail P (f y) (map f ys ++ xs) h)

  pub All-unmap : (ys : List Y) → All P (map f ys) → All (λ y. P (f y)) ys
  All-unmap [] h = All-nil Of
  All-unmap (y ∷ ys) h = All-cons Of y ys (All-head P (f y) (map f ys) h) (All-unmap ys (All-tail P (f y) (map f ys) h))

module _ {X : Type 0} (P : X → Type 0) where
  pub All-left : (xs ys : List X) → All P (xs ++ ys) → All P xs
  All-left [] ys h = All-nil P
  All-left (x ∷ xs) ys h = All-cons P x xs (All-head P x (xs ++ ys) h) (All-left xs ys (All-tail P x (xs ++ ys) h))

  pub All-right : (xs ys : List X) → All P (xs ++ ys) → All P ys
  All-right [] ys h = h
  All-right (x ∷ xs) ys h = All-right xs ys (All-tail P x (xs ++ ys) h)
