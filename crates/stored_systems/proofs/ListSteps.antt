-- Lists that are built element by element.
use Rattle.std.proofs.Common.{◌≡◌, ℕ, ◌+◌, ◌<◌, List, [], ◌∷◌, ◌++◌, length, map, take, get_or, sym, ap, ◌∙◌}
use Rattle.std.proofs.lemmas.List.{append_assoc, map-append, map_more}

-- one element more behind what is there
pub joined_more : {X Y : Type 0} (f : X → Y) (list : List X) (i : ℕ) (d : X) (old cur new : List Y) (y : Y) → i < length list → cur ≡ old ++ map f (take i list) → new ≡ cur ++ y ∷ [] → y ≡ f (get_or list i d) → new ≡ old ++ map f (take (i + 1) list)
joined_more f list i d old cur new y h e g s =
    g ∙ ap (λ (ys : List _). ys ++ y ∷ []) e ∙ append_assoc old (map f (take i list)) (y ∷ [])
    ∙ ap (λ (ys : List _). old ++ ys) (ap (λ (z : _). map f (take i list) ++ z ∷ []) s ∙ sym (map_more f list i d h))

-- and where each element is mapped twice
pub twice_more : {X Y Z : Type 0} (m : Y → Z) (f : X → Y) (list : List X) (i : ℕ) (d : X) (old cur new : List Z) (z : Z) → i < length list → cur ≡ old ++ map m (map f (take i list)) → new ≡ cur ++ z ∷ [] → z ≡ m (f (get_or list i d)) → new ≡ old ++ map m (map f (take (i + 1) list))
twice_more m f list i d old cur new z h e g s =
    g ∙ ap (λ (zs : List _). zs ++ z ∷ []) e ∙ append_assoc old (map m (map f (take i list))) (z ∷ [])
    ∙ ap (λ (zs : List _). old ++ zs) (ap (λ (x : _). map m (map f (take i list)) ++ x ∷ []) s ∙ sym (ap (map m) (map_more f list i d h) ∙ map-append m (map f (take i list)) (f (get_or list i d) ∷ [])))
