-- The first columns and the last ones, where the others are named.
use Rattle.std.proofs.Common.{◌≡◌, ◌≢◌, ◌⊎◌, inl, inr, ℕ, zero, suc, ◌+◌, ◌<◌, ◌≤◌, List, [], ◌∷◌, ◌++◌, length, map, filter, not, cond, take, drop, Bool, true, false, nat_eq, ℤ, pos, refl, sym, ap, ◌∙◌, arith, drop-cons, ◌||◌}
use Rattle.std.specs.List.{list_any, range_with_len}
use Rattle.std.proofs.lemmas.Bool.{cases_eq, ne_eqb, eq-eqb}
use Rattle.std.proofs.lemmas.List.{ext_get_or, drop_all, length-take-le, length-drop, get_or-take, get_or-drop}
use Rattle.std.proofs.lemmas.List.Elements.{filter-append}
use Rattle.std.proofs.lemmas.List.FromFn.{length-map-range_with_len, get_or-map-range_with_len, map-range_with_len_more}
use Rattle.row_core.specs.Vectors.{cell}
use Rattle.mapped_systems.specs.Maps.{without, remaining, kept_variables}

-- ---- numbers in a row
range_joined : (a n m k : ℕ) → m ≡ a + n → range_with_len a (n + k) ≡ range_with_len a n ++ range_with_len m k
range_joined a zero m k e = ap (λ (n : ℕ). range_with_len a n) (no_more k) ∙ ap (λ (b : ℕ). range_with_len b k) (omega (arith, e))
  where
    no_more : (j : ℕ) → 0 + j ≡ j
    no_more j = omega arith
range_joined a (suc n) m k e = ap (λ (j : ℕ). range_with_len a j) (one_more n k) ∙ ap (λ (xs : List ℕ). a ∷ xs) (range_joined (a + 1) n m k (omega (arith, e)))
  where
    one_more : (n k : ℕ) → suc n + k ≡ suc (n + k)
    one_more n k = omega arith

named_none : (i a k : ℕ) → (i < a) ⊎ (a + k ≤ i) → list_any (λ m. nat_eq m i) (range_with_len a k) ≡ false
named_none i a zero h = refl
named_none i a (suc k) h = both (nat_eq a i) (list_any (λ m. nat_eq m i) (range_with_len (a + 1) k)) (ne_eqb a i (apart h)) (named_none i (a + 1) k (later h))
  where
    both : (b c : Bool) → b ≡ false → c ≡ false → (b || c) ≡ false
    both b c e f = ap (λ (x : Bool). x || c) e ∙ f

    apart : (i < a) ⊎ (a + suc k ≤ i) → a ≢ i
    apart (inl l) e = omega (arith, l, e)
    apart (inr g) e = omega (arith, g, e)

    later : (i < a) ⊎ (a + suc k ≤ i) → (i < a + 1) ⊎ ((a + 1) + k ≤ i)
    later (inl l) = inl (omega (arith, l))
    later (inr g) = inr (omega (arith, g))

named_one : (i a k : ℕ) → a ≤ i → i < a + k → list_any (λ m. nat_eq m i) (range_with_len a k) ≡ true
named_one i a zero h g = absurd (omega (arith, h, g))
named_one i a (suc k) h g = by (cases_eq a i) (λ ne. named_one i (a + 1) k (omega (arith, h, ne)) (omega (arith, g)))
  where
    by : (a ≡ i) ⊎ (a ≢ i) → (a ≢ i → list_any (λ m. nat_eq m i) (range_with_len (a + 1) k) ≡ true) → (nat_eq a i || list_any (λ m. nat_eq m i) (range_with_len (a + 1) k)) ≡ true
    by (inl e) rest = ap (λ (x : Bool). x || list_any (λ m. nat_eq m i) (range_with_len (a + 1) k)) (eq-eqb a i e)
    by (inr ne) rest = ap (λ (x : Bool). x || list_any (λ m. nat_eq m i) (range_with_len (a + 1) k)) (ne_eqb a i ne) ∙ rest ne

filter_all : (p : ℕ → Bool) (a n : ℕ) → ((i : ℕ) → a ≤ i → i < a + n → p i ≡ true) → filter p (range_with_len a n) ≡ range_with_len a n
filter_all p a zero h = refl
filter_all p a (suc n) h = ap (λ (b : Bool). cond b (a ∷ filter p (range_with_len (a + 1) n)) (filter p (range_with_len (a + 1) n))) (h a (omega arith) (omega arith)) ∙ ap (λ (xs : List ℕ). a ∷ xs) (filter_all p (a + 1) n (λ i l g. h i (omega (arith, l)) (omega (arith, g))))

filter_none : (p : ℕ → Bool) (a n : ℕ) → ((i : ℕ) → a ≤ i → i < a + n → p i ≡ false) → filter p (range_with_len a n) ≡ []
filter_none p a zero h = refl
filter_none p a (suc n) h = ap (λ (b : Bool). cond b (a ∷ filter p (range_with_len (a + 1) n)) (filter p (range_with_len (a + 1) n))) (h a (omega arith) (omega arith)) ∙ filter_none p (a + 1) n (λ i l g. h i (omega (arith, l)) (omega (arith, g)))

append_nothing : (xs : List ℕ) → xs ++ [] ≡ xs
append_nothing [] = refl
append_nothing (x ∷ xs) = ap (λ (ys : List ℕ). x ∷ ys) (append_nothing xs)

zero_plus : (n : ℕ) → n ≡ 0 + n
zero_plus n = omega arith

-- the first n of n + k variables, where the others are named
pub kept_first : (n k : ℕ) → kept_variables (n + k) (range_with_len n k) ≡ range_with_len 0 n
kept_first n k =
    ap (filter (λ (i : ℕ). not (list_any (λ m. nat_eq m i) (range_with_len n k)))) (range_joined 0 n n k (zero_plus n))
    ∙ filter-append (λ (i : ℕ). not (list_any (λ m. nat_eq m i) (range_with_len n k))) (range_with_len 0 n) (range_with_len n k)
    ∙ ap (λ (xs : List ℕ). xs ++ filter (λ (i : ℕ). not (list_any (λ m. nat_eq m i) (range_with_len n k))) (range_with_len n k)) (filter_all (λ (i : ℕ). not (list_any (λ m. nat_eq m i) (range_with_len n k))) 0 n (λ i l g. ap not (named_none i n k (inl (omega (arith, g))))))
    ∙ ap (λ (xs : List ℕ). range_with_len 0 n ++ xs) (filter_none (λ (i : ℕ). not (list_any (λ m. nat_eq m i) (range_with_len n k))) n k (λ i l g. ap not (named_one i n k l g)))
    ∙ append_nothing (range_with_len 0 n)

-- the last k of n + k variables, where the others are named
pub kept_last : (n k : ℕ) → kept_variables (n + k) (range_with_len 0 n) ≡ range_with_len n k
kept_last n k =
    ap (filter (λ (i : ℕ). not (list_any (λ m. nat_eq m i) (range_with_len 0 n)))) (range_joined 0 n n k (zero_plus n))
    ∙ filter-append (λ (i : ℕ). not (list_any (λ m. nat_eq m i) (range_with_len 0 n))) (range_with_len 0 n) (range_with_len n k)
    ∙ ap (λ (xs : List ℕ). xs ++ filter (λ (i : ℕ). not (list_any (λ m. nat_eq m i) (range_with_len 0 n))) (range_with_len n k)) (filter_none (λ (i : ℕ). not (list_any (λ m. nat_eq m i) (range_with_len 0 n))) 0 n (λ i l g. ap not (named_one i 0 n l g)))
    ∙ filter_all (λ (i : ℕ). not (list_any (λ m. nat_eq m i) (range_with_len 0 n))) n k (λ i l g. ap not (named_none i 0 n (inr (omega (arith, l)))))

-- ---- cells
row_cells : (n k : ℕ) (v : List ℤ) → map (cell v) (range_with_len n k) ++ cell v (n + k) ∷ [] ≡ map (cell v) (range_with_len n (k + 1))
row_cells n k v = sym (map-range_with_len_more (cell v) n k (n + k) refl)

from_column : (n k : ℕ) (v : List ℤ) → length v ≡ n + k → map (cell v) (range_with_len n k) ≡ drop n v
from_column n k v w = ext_get_or (pos 0) (map (cell v) (range_with_len n k)) (drop n v) (length-map-range_with_len (cell v) n k ∙ omega (arith, length-drop n v, w)) (λ j h. get_or-map-range_with_len (cell v) n k j (n + j) (pos 0) (omega (arith, h, length-map-range_with_len (cell v) n k)) refl ∙ sym (get_or-drop n v j (pos 0)))

to_column : (n : ℕ) (v : List ℤ) → n ≤ length v → map (cell v) (range_with_len 0 n) ≡ take n v
to_column n v l = ext_get_or (pos 0) (map (cell v) (range_with_len 0 n)) (take n v) (length-map-range_with_len (cell v) 0 n ∙ sym (length-take-le n v l)) (λ j h. get_or-map-range_with_len (cell v) 0 n j j (pos 0) (omega (arith, h, length-map-range_with_len (cell v) 0 n)) (sym (zero_plus j)) ∙ sym (get_or-take n v j (pos 0) (omega (arith, h, length-map-range_with_len (cell v) 0 n))))

pub last_alone : (m : ℕ) (v : List ℤ) → length v ≡ m + 1 → drop m v ≡ cell v m ∷ []
last_alone m v w = drop-cons v m (pos 0) (omega (arith, w)) ∙ ap (λ (xs : List ℤ). cell v m ∷ xs) (drop_all (suc m) v (omega (arith, w)))

pub remaining_front : (n k : ℕ) (v : List ℤ) → length v ≡ (n + k) + 1 → remaining (n + k) (range_with_len n k) v ≡ without n (n + k) v
remaining_front n k v w =
    ap (λ (js : List ℕ). map (cell v) js ++ cell v (n + k) ∷ []) (kept_first n k)
    ∙ ap (λ (xs : List ℤ). xs ++ cell v (n + k) ∷ []) (to_column n v (omega (arith, w)))
    ∙ ap (λ (xs : List ℤ). take n v ++ xs) (sym (last_alone (n + k) v w))

pub remaining_back : (n k : ℕ) (v : List ℤ) → length v ≡ (n + k) + 1 → remaining (n + k) (range_with_len 0 n) v ≡ drop n v
remaining_back n k v w =
    ap (λ (js : List ℕ). map (cell v) js ++ cell v (n + k) ∷ []) (kept_last n k)
    ∙ row_cells n k v
    ∙ from_column n (k + 1) v (omega (arith, w))
