-- The variables that aren't named.
use Rattle.std.proofs.Common.{◌≡◌, ℕ, zero, suc, ◌+◌, ◌<◌, ◌≤◌, List, [], ◌∷◌, ◌++◌, length, filter, not, cond, Bool, true, false, nat_eq, refl, ap, ◌∙◌, arith, All}
use Rattle.std.specs.List.{list_any, range_with_len}
use Rattle.std.proofs.lemmas.List.Elements.{All-filter, All-from_get_or, filter-append}
use Rattle.std.proofs.lemmas.List.FromFn.{get_or-range_with_len, length-range_with_len}
use Rattle.mapped_systems.specs.Maps.{kept_variables}

pub range_below : (n : ℕ) → All (λ (i : ℕ). i < n) (range_with_len 0 n)
range_below n = All-from_get_or (λ (i : ℕ). i < n) (range_with_len 0 n) 0 (λ i h. let e = get_or-range_with_len 0 n i 0 (omega (arith, h, length-range_with_len 0 n)) in omega (arith, e, h, length-range_with_len 0 n))

pub kept_below : (dim : ℕ) (named : List ℕ) → All (λ (i : ℕ). i < dim) (kept_variables dim named)
kept_below dim named = All-filter (λ (i : ℕ). not (list_any (λ n. nat_eq n i) named)) (λ (i : ℕ). i < dim) (range_with_len 0 dim) (range_below dim)

fewer_by : (b : Bool) (x : ℕ) (xs ys : List ℕ) → length ys ≤ length xs → length (cond b (x ∷ ys) ys) ≤ length (x ∷ xs)
fewer_by true x xs ys h = omega (arith, h)
fewer_by false x xs ys h = omega (arith, h)

fewer : (p : ℕ → Bool) (xs : List ℕ) → length (filter p xs) ≤ length xs
fewer p [] = omega arith
fewer p (x ∷ xs) = fewer_by (p x) x xs (filter p xs) (fewer p xs)

pub kept_fewer : (dim : ℕ) (named : List ℕ) → length (kept_variables dim named) ≤ dim
kept_fewer dim named = let e = fewer (λ (i : ℕ). not (list_any (λ n. nat_eq n i) named)) (range_with_len 0 dim) in omega (arith, e, length-range_with_len 0 dim)

pub range_more : (a n m : ℕ) → m ≡ a + n → range_with_len a (suc n) ≡ range_with_len a n ++ m ∷ []
range_more a zero m e = ap (λ (x : ℕ). x ∷ []) (omega (arith, e))
range_more a (suc n) m e = ap (λ (xs : List ℕ). a ∷ xs) (range_more (a + 1) n m (omega (arith, e)))

pub by_suc : (n : ℕ) → n + 1 ≡ suc n
by_suc n = omega arith

one_more : (p : ℕ → Bool) (n : ℕ) → filter p (range_with_len 0 (n + 1)) ≡ filter p (range_with_len 0 n) ++ filter p (n ∷ [])
one_more p n = ap (λ (k : ℕ). filter p (range_with_len 0 k)) (by_suc n) ∙ ap (filter p) (range_more 0 n n (omega arith)) ∙ filter-append p (range_with_len 0 n) (n ∷ [])

-- the next variable is named, or kept
pub named_more : (n : ℕ) (named : List ℕ) → list_any (λ m. nat_eq m n) named ≡ true → kept_variables (n + 1) named ≡ kept_variables n named
named_more n named e = one_more (λ (i : ℕ). not (list_any (λ m. nat_eq m i) named)) n ∙ ap (λ (d : Bool). kept_variables n named ++ cond (not d) (n ∷ []) []) e ∙ nothing_more (kept_variables n named)
  where
    nothing_more : (xs : List ℕ) → xs ++ [] ≡ xs
    nothing_more [] = refl
    nothing_more (x ∷ xs) = ap (λ (ys : List ℕ). x ∷ ys) (nothing_more xs)

pub kept_more : (n : ℕ) (named : List ℕ) → list_any (λ m. nat_eq m n) named ≡ false → kept_variables (n + 1) named ≡ kept_variables n named ++ n ∷ []
kept_more n named e = one_more (λ (i : ℕ). not (list_any (λ m. nat_eq m i) named)) n ∙ ap (λ (d : Bool). kept_variables n named ++ cond (not d) (n ∷ []) []) e
