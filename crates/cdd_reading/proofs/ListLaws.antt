-- Lists.
use Rattle.std.proofs.Common.{◌≡◌, List, [], ◌∷◌, ◌++◌, ap, sym, ◌∙◌, append_assoc}
use Rattle.std.specs.Prelude.{All}
use Rattle.std.specs.List.{AllZip}
use Rattle.std.proofs.lemmas.List.Elements.{All-head, All-tail}

-- what holds of each element holds of the one in the middle
pub All-inside : {A : Type 0} (P : A → Type 0) (a : List A) (x : A) (r : List A) → All P (a ++ x ∷ r) → P x
All-inside P [] x r h = All-head P x r h
All-inside P (y ∷ a) x r h = All-inside P a x r (All-tail P y (a ++ x ∷ r) h)

-- one more pair
pub zip_push : {A B : Type 0} (R : A → B → Type 0) (xs : List A) (ys : List B) (x : A) (y : B) → AllZip R xs ys → R x y → AllZip R (xs ++ x ∷ []) (ys ++ y ∷ [])
zip_push R [] [] x y h r = (r, tt)
zip_push R [] (b ∷ ys) x y h r = absurd h
zip_push R (a ∷ xs) [] x y h r = absurd h
zip_push R (a ∷ xs) (b ∷ ys) x y (here, h) r = (here, zip_push R xs ys x y h r)

-- one more element of a front
pub one_further : {A : Type 0} (before : List A) (x : A) (rest behind whole : List A) → whole ≡ before ++ rest → rest ≡ x ∷ behind → whole ≡ (before ++ x ∷ []) ++ behind
one_further before x rest behind whole e f = e ∙ ap (λ t. before ++ t) f ∙ sym (append_assoc before (x ∷ []) behind)
