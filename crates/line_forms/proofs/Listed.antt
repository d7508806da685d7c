-- The rows of the table of command words: what holds of each, and where no row has a line.
use Rattle.std.proofs.Common.{◌≡◌, ℕ, ◌<◌, List, [], ◌∷◌, Bool, true, zero, suc, length, get_or, map, arith, refl, ap, subst, sym, ◌∙◌, inl, inr}
use Rattle.std.specs.Prelude.{Contains, ◌⊎◌, slice_index_or}
use Rattle.std.specs.List.{list_all}
use Rattle.std.proofs.lemmas.Bool.{and_parts}
use Rattle.std.proofs.lemmas.List.{get_or-map, length-map}
use Rattle.grammar.specs.Form.{Form, Matches, Begins, AnyMatches, AnyBegins}
use Rattle.line_forms.specs.CommandWords.{CommandWord, lines_with}

head_or_tail : (x : CommandWord) (xs : List CommandWord) (r : CommandWord) → Contains (x ∷ xs) r → (x ≡ r) ⊎ Contains xs r
head_or_tail x xs r (zero, h, e) = inl e
head_or_tail x xs r (suc k, h, e) = inr (k, omega arith, e)

nowhere : (r : CommandWord) → Contains [] r → ⊥
nowhere r (k, h, e) = omega arith

later : (x : CommandWord) (xs : List CommandWord) (r : CommandWord) → Contains xs r → Contains (x ∷ xs) r
later x xs r (k, h, e) = (suc k, omega arith, e)

-- what stands at a place, or what is given for none
pub placed : (xs : List CommandWord) (i : ℕ) (none r : CommandWord) → slice_index_or xs i none ≡ r → (r ≡ none) ⊎ Contains xs r
placed [] i none r e = inl (sym e)
placed (x ∷ xs) zero none r e = inr (0, omega arith, e)
placed (x ∷ xs) (suc i) none r e = elim (placed xs i none r e) [ inl h ↦ inl h | inr c ↦ inr (later x xs r c) ]

-- a row passes a test that all rows pass
pub passes : (p : CommandWord → Bool) (xs : List CommandWord) (r : CommandWord) → list_all p xs ≡ true → Contains xs r → p r ≡ true
passes p [] r e c = absurd (nowhere r c)
passes p (x ∷ xs) r e c =
    let both = and_parts (p x) (list_all p xs) e in
    elim (head_or_tail x xs r c) [ inl is ↦ ap p (sym is) ∙ both.0 | inr d ↦ passes p xs r both.1 d ]

heads_tails : (x y : CommandWord) (xs ys : List CommandWord) → y ∷ ys ≡ x ∷ xs → (y ≡ x) × (ys ≡ xs)
heads_tails x y xs ys e = (cc, cc)

-- what gives the rows as they are gives each row as it is
pub kept : (f : CommandWord → CommandWord) (xs : List CommandWord) (r : CommandWord) → map f xs ≡ xs → Contains xs r → f r ≡ r
kept f [] r e c = absurd (nowhere r c)
kept f (x ∷ xs) r e c =
    let both = heads_tails x (f x) xs (map f xs) e in
    elim (head_or_tail x xs r c) [ inl is ↦ ap f (sym is) ∙ (both.0 ∙ is) | inr d ↦ kept f xs r both.1 d ]

pub any_matches : (rs : List CommandWord) (r : CommandWord) (w : List ℕ) → Contains rs r → Matches (lines_with r) w → AnyMatches (map lines_with rs) w
any_matches [] r w c m = absurd (nowhere r c)
any_matches (x ∷ rs) r w c m = elim (head_or_tail x rs r c) [ inl e ↦ inl (subst (λ (y : CommandWord). Matches (lines_with y) w) (sym e) m) | inr d ↦ inr (any_matches rs r w d m) ]

pub any_begins : (rs : List CommandWord) (r : CommandWord) (p : List ℕ) → Contains rs r → Begins (lines_with r) p → AnyBegins (map lines_with rs) p
any_begins [] r p c b = absurd (nowhere r c)
any_begins (x ∷ rs) r p c b = elim (head_or_tail x rs r c) [ inl e ↦ inl (subst (λ (y : CommandWord). Begins (lines_with y) p) (sym e) b) | inr d ↦ inr (any_begins rs r p d b) ]

pub none_matches : (rs : List CommandWord) (w : List ℕ) → ((r : CommandWord) → Contains rs r → Matches (lines_with r) w → ⊥) → AnyMatches (map lines_with rs) w → ⊥
none_matches [] w none m = m
none_matches (x ∷ rs) w none (inl m) = none x (0, omega arith, refl) m
none_matches (x ∷ rs) w none (inr m) = none_matches rs w (λ r c. none r (later x rs r c)) m

pub none_begins : (rs : List CommandWord) (p : List ℕ) → ((r : CommandWord) → Contains rs r → Begins (lines_with r) p → ⊥) → AnyBegins (map lines_with rs) p → ⊥
none_begins [] p none b = b
none_begins (x ∷ rs) p none (inl b) = none x (0, omega arith, refl) b
none_begins (x ∷ rs) p none (inr b) = none_begins rs p (λ r c. none r (later x rs r c)) b

-- what gives the rows by f stands in their places
pub listed_at : {X : Type 0} (f : X → CommandWord) (xs : List X) (rows : List CommandWord) (i : ℕ) (none : X) → map f xs ≡ rows → i < length xs → Contains rows (f (get_or xs i none))
listed_at f xs rows i none e h =
    subst (λ (ys : List CommandWord). Contains ys (f (get_or xs i none))) e
    (i, subst (λ (n : ℕ). i < n) (sym (length-map xs f)) h, get_or-map f xs i none (f (get_or xs i none)) h)

map_twice : {X : Type 0} (f : X → CommandWord) (xs : List X) → map (λ (x : X). lines_with (f x)) xs ≡ map lines_with (map f xs)
map_twice f [] = refl
map_twice f (x ∷ xs) = ap (λ (fs : List Form). lines_with (f x) ∷ fs) (map_twice f xs)

pub lines_of_rows : {X : Type 0} (f : X → CommandWord) (xs : List X) (rows : List CommandWord) → map f xs ≡ rows → map (λ (x : X). lines_with (f x)) xs ≡ map lines_with rows
lines_of_rows f xs rows e = map_twice f xs ∙ ap (map lines_with) e
