-- The names of a table as text.
use Rattle.std.proofs.Common.{◌≡◌, ℕ, List, [], ◌∷◌, ◌++◌, refl, sym, ◌∙◌, map, ap, codes, append_assoc, append-nil}
use Rattle.std.specs.Map.{keys_of}
use Rattle.name_table.specs.Keys.{Key, named}
use Rattle.name_table.specs.Listing.{spaced}

-- the names, without where they lie in memory
abbrev pub names_in : List Key → List (List ℕ)
names_in keys = map (λ k. k.items) keys

pub keys_named : {E : Type 0} (es : List (Key × E)) → names_in (keys_of es) ≡ keys_of (named es)
keys_named [] = refl
keys_named (e ∷ es) = ap (λ ns. e.0.items ∷ ns) (keys_named es)

-- one more name was written
pub one_more_name : (text next all : List ℕ) (left less : List Key) (key : Key) → left ≡ key ∷ less → next ≡ (text ++ codes " ") ++ key.items → text ++ spaced (names_in left) ≡ all → next ++ spaced (names_in less) ≡ all
one_more_name text next all left less key e f h =
    ap (λ w. w ++ spaced (names_in less)) f
    ∙ (append_assoc (text ++ codes " ") key.items (spaced (names_in less))
    ∙ (append_assoc text (codes " ") (key.items ++ spaced (names_in less))
    ∙ (sym (ap (λ keys. text ++ spaced (names_in keys)) e) ∙ h)))

-- all names were written
pub all_names : (text all : List ℕ) (left : List Key) → left ≡ [] → text ++ spaced (names_in left) ≡ all → text ≡ all
all_names text all left e h = sym (append-nil text) ∙ (sym (ap (λ keys. text ++ spaced (names_in keys)) e) ∙ h)
