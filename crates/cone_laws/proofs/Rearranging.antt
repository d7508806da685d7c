-- Systems whose rays stand in another order, and lists with the same members and no member twice.
use Rattle.std.specs.Prelude.{◌≡◌, ◌≢◌, ℕ, ◌+◌, ◌-◌, ◌<◌, ◌≤◌, List, [], ◌∷◌, length, slice_index_or, remove, ℤ, pos, ◌+ℤ◌, ◌≤ℤ◌, ◌⊎◌, All, Contains, IsPermutation, refl}
use Prim.Native.Nat.{suc, zero}
use Rattle.std.specs.List.{swap}
use Rattle.std.proofs.Math.IntN.{◌*ℤ◌}
use Rattle.std.proofs.Common.{sym, ◌∙◌, ap, subst, inl, inr, arith}
use Rattle.std.proofs.lemmas.Int.{ints}
use Rattle.std.proofs.lemmas.Bool.{cases_lt, cases_eq}
use Rattle.std.proofs.lemmas.List.{get_or_default}
use Rattle.std.proofs.lemmas.List.Edits.{length-remove, length-swap, Swapped, swapped_from_swap}
use Rattle.std.proofs.lemmas.List.Elements.{Contains-get_or, All-from_get_or}
use Rattle.std.proofs.lemmas.List.Sorted.{IsPermutation-refl, IsPermutation-sym, IsPermutation-cons, IsPermutation-trans, IsPermutation-remove, IsPermutation-keeps, All-permutation, Contains-permutation}
use Rattle.row_core.specs.Vectors.{cell, add, combined}
use Rattle.row_core.specs.Content.{IsPrimitive}
use Rattle.cone_laws.specs.Cones.{Spans}
use Rattle.row_core.specs.Orders.{IsGreater, AreSorted, AreInOrder}
use Rattle.cone_laws.specs.Canon.{IsEchelon, IsIrredundant, IsSystem, Canon}
use Rattle.row_core.specs.Lists.{vector_at}
use Rattle.cone_laws.specs.ConeSets.{IsCone}
use Rattle.row_core.proofs.OrderLemmas.{compare_vectors}
use Rattle.cone_laws.proofs.Columns.{cell-add}
use Rattle.cone_laws.proofs.SortedLists.{IsWithin, Contains-cases, Contains-first, Contains-later, Contains-nil}
use Rattle.cone_laws.proofs.EchelonForm.{old_place, old_place_is, old_place-other, old_place-same, old_place-below, remove-place}
use Rattle.cone_laws.proofs.Factors.{combined-add, combined-single, single, cell-single_same, cell-single_other, AtLeastZero, at_least_zero_from_all, all_from_at_least_zero}

-- ---- the members of a list less one element
-- the place in the shorter list of the element at place m, other than q
pub place_after : (q m n : ℕ) → m < n → q < n → m ≢ q → (k : ℕ) × (k + 1 < n) × (old_place q k ≡ m)
place_after q m n h g ne = by_order (cases_lt m q)
  where
    by_order : (m < q) ⊎ (q ≤ m) → (k : ℕ) × (k + 1 < n) × (old_place q k ≡ m)
    by_order (inl l) = (m, omega (arith, l, g), omega (arith, old_place_is q m, l))
    by_order (inr l) = (m - 1, omega (arith, l, ne, h), omega (arith, old_place_is q (m - 1), l, ne))

pub Contains-remove_other : {X : Type 0} (xs : List X) (q m : ℕ) (d : X) → m < length xs → q < length xs → m ≢ q → Contains (remove xs q) (slice_index_or xs m d)
Contains-remove_other {X} xs q m d h g ne = by_place (place_after q m (length xs) h g ne)
  where
    by_place : (k : ℕ) × (k + 1 < length xs) × (old_place q k ≡ m) → Contains (remove xs q) (slice_index_or xs m d)
    by_place (k, l, e) =
        subst (λ (x : X). Contains (remove xs q) x) (remove-place xs q k d g ∙ ap (λ (n : ℕ). slice_index_or xs n d) e)
        (Contains-get_or (remove xs q) k d (omega (arith, l, length-remove xs q g)))

-- a member of the shorter list stands in the longer at another place than q
pub Contains-remove_place : {X : Type 0} (xs : List X) (q : ℕ) (x d : X) → q < length xs → Contains (remove xs q) x → (m : ℕ) × (m < length xs) × (m ≢ q) × (slice_index_or xs m d ≡ x)
Contains-remove_place xs q x d h (k, l, e) =
    (old_place q k, old_place-below q k (length xs) (omega (arith, l, length-remove xs q h)), old_place-other q k, sym (remove-place xs q k d h) ∙ get_or_default (remove xs q) k d x l ∙ e)

-- ---- lists with no member twice
abbrev pub IsApart : List (List ℤ) → Type 0
IsApart vs = (i k : ℕ) → i < length vs → k < length vs → i ≢ k → vector_at vs i ≢ vector_at vs k

IsApart-tail : (v : List ℤ) (vs : List (List ℤ)) → IsApart (v ∷ vs) → IsApart vs
IsApart-tail v vs a i k h g ne = a (suc i) (suc k) (omega (arith, h)) (omega (arith, g)) (λ e. ne (omega (arith, e)))

IsApart-remove : (vs : List (List ℤ)) (q : ℕ) → q < length vs → IsApart vs → IsApart (remove vs q)
IsApart-remove vs q l a i k h g ne e =
    a (old_place q i) (old_place q k) (old_place-below q i (length vs) (omega (arith, h, length-remove vs q l))) (old_place-below q k (length vs) (omega (arith, g, length-remove vs q l)))
    (λ f. ne (old_place-same q i k f)) (sym (remove-place vs q i [] l) ∙ e ∙ remove-place vs q k [] l)

IsApart-head : (v u : List ℤ) (vs : List (List ℤ)) → IsApart (v ∷ vs) → Contains vs u → v ≢ u
IsApart-head v u vs a (k, l, e) f = a zero (suc k) (omega arith) (omega (arith, l)) (λ d. omega (arith, d)) (f ∙ sym e ∙ sym (get_or_default vs k [] u l))

rest_within : (v : List ℤ) (vs ws : List (List ℤ)) (q : ℕ) → q < length ws → vector_at ws q ≡ v → IsApart (v ∷ vs) → IsWithin (v ∷ vs) ws → IsWithin vs (remove ws q)
rest_within v vs ws q l e a h u c = by_place (h u (Contains-later v u vs c))
  where
    by_place : Contains ws u → Contains (remove ws q) u
    by_place (m, g, f) =
        let at : vector_at ws m ≡ u = get_or_default ws m [] u g ∙ f in
        subst (λ (w : List ℤ). Contains (remove ws q) w) at (Contains-remove_other ws q m [] g l (λ d. IsApart-head v u vs a c (sym e ∙ ap (λ (n : ℕ). vector_at ws n) (sym d) ∙ at)))

within_rest : (v : List ℤ) (vs ws : List (List ℤ)) (q : ℕ) → q < length ws → vector_at ws q ≡ v → IsApart ws → IsWithin ws (v ∷ vs) → IsWithin (remove ws q) vs
within_rest v vs ws q l e a h u c = by_place (Contains-remove_place ws q u [] l c)
  where
    by_place : (m : ℕ) × (m < length ws) × (m ≢ q) × (vector_at ws m ≡ u) → Contains vs u
    by_place (m, g, ne, f) = by_member (Contains-cases v u vs (h u (subst (λ (w : List ℤ). Contains ws w) f (Contains-get_or ws m [] g))))
      where
        by_member : (v ≡ u) ⊎ Contains vs u → Contains vs u
        by_member (inl d) = absurd (a m q g l ne (f ∙ sym d ∙ sym e))
        by_member (inr d) = d

-- two lists with the same members, and none of them twice, are each other in another order
pub permutation_from_apart : (vs ws : List (List ℤ)) → IsApart vs → IsApart ws → IsWithin vs ws → IsWithin ws vs → IsPermutation vs ws
permutation_from_apart [] [] a b h g = IsPermutation-refl []
permutation_from_apart [] (w ∷ ws) a b h g = absurd (Contains-nil w (g w (Contains-first w ws)))
permutation_from_apart (v ∷ vs) ws a b h g = by_place (h v (Contains-first v vs)) (λ q l e. permutation_from_apart vs (remove ws q) (IsApart-tail v vs a) (IsApart-remove ws q l b) (rest_within v vs ws q l e a h) (within_rest v vs ws q l e b g))
  where
    by_place : Contains ws v → ((q : ℕ) → q < length ws → vector_at ws q ≡ v → IsPermutation vs (remove ws q)) → IsPermutation (v ∷ vs) ws
    by_place (q, l, e) rest =
        IsPermutation-trans (v ∷ vs) (v ∷ remove ws q) ws (IsPermutation-cons v vs (remove ws q) (rest q l (get_or_default ws q [] v l ∙ e)))
        (IsPermutation-sym ws (v ∷ remove ws q) (IsPermutation-remove ws q v l (sym e)))

-- ---- spanning by more rays
-- the same sum by factors on another list of rays
pub record IsResummed (fs : List ℤ) (rays others : List (List ℤ)) : Type 0 where
  pub factors : List ℤ
  pub at_least_zero : AtLeastZero factors
  pub same : (j : ℕ) → combined factors others j ≡ combined fs rays j

single_at_least_zero : (i : ℕ) (k : ℤ) → pos 0 ≤ℤ k → AtLeastZero (single i k)
single_at_least_zero i k h m = by_place (cases_eq m i)
  where
    by_place : (m ≡ i) ⊎ (m ≢ i) → pos 0 ≤ℤ cell (single i k) m
    by_place (inl e) = subst (λ (n : ℕ). pos 0 ≤ℤ cell (single i k) n) (sym e) (subst (λ (z : ℤ). pos 0 ≤ℤ z) (sym (cell-single_same i k)) h)
    by_place (inr ne) = subst (λ (z : ℤ). pos 0 ≤ℤ z) (sym (cell-single_other i m k ne)) (omega (arith, ints))

sum_at_least_zero : (fs gs : List ℤ) → AtLeastZero fs → AtLeastZero gs → AtLeastZero (add fs gs)
sum_at_least_zero fs gs h g i = omega (arith, ints, cell-add fs gs i, h i, g i)

pub resummed : (fs : List ℤ) (rays others : List (List ℤ)) → AtLeastZero fs → IsWithin rays others → IsResummed fs rays others
resummed [] rays others q h = record { factors = []; at_least_zero = λ i. omega (arith, ints); same = λ j. refl }
resummed (k ∷ fs) [] others q h = record { factors = []; at_least_zero = λ i. omega (arith, ints); same = λ j. refl }
resummed (k ∷ fs) (r ∷ rays) others q h = by_place (h r (Contains-first r rays)) (resummed fs rays others (λ i. q (suc i)) (λ u c. h u (Contains-later r u rays c)))
  where
    by_place : Contains others r → IsResummed fs rays others → IsResummed (k ∷ fs) (r ∷ rays) others
    by_place (m, l, e) rest = record {
      factors = add (single m k) rest.factors;
      at_least_zero = sum_at_least_zero (single m k) rest.factors (single_at_least_zero m k (q zero)) rest.at_least_zero;
      same = λ j. combined-add (single m k) rest.factors others j ∙ ap (λ (z : ℤ). z +ℤ combined rest.factors others j) (combined-single others m j k ∙ ap (λ (u : List ℤ). k *ℤ cell u j) (get_or_default others m [] r l ∙ e)) ∙ ap (λ (z : ℤ). k *ℤ cell r j +ℤ z) (rest.same j);
    }

-- what some rays span, rays among which they are span too
pub spans_within : (lines rays others : List (List ℤ)) (v : List ℤ) → IsWithin rays others → Spans lines rays v → Spans lines others v
spans_within lines rays others v h s = record {
  times = s.times;
  positive = s.positive;
  line_factors = s.line_factors;
  ray_factors = r.factors;
  at_least_zero = all_from_at_least_zero r.factors r.at_least_zero;
  sum = λ j. s.sum j ∙ ap (λ (z : ℤ). combined s.line_factors lines j +ℤ z) (sym (r.same j));
}
  where
    r : IsResummed s.ray_factors rays others
    r = resummed s.ray_factors rays others (at_least_zero_from_all s.ray_factors s.at_least_zero) h

-- a member is spanned
pub spans_member : (lines rays : List (List ℤ)) (v : List ℤ) → Contains rays v → Spans lines rays v
spans_member lines rays v (m, l, e) = record {
  times = pos 1;
  positive = omega (arith, ints);
  line_factors = [];
  ray_factors = single m (pos 1);
  at_least_zero = all_from_at_least_zero (single m (pos 1)) (single_at_least_zero m (pos 1) (omega (arith, ints)));
  sum = λ j. one_sum (cell v j) (combined (single m (pos 1)) rays j) (combined-single rays m j (pos 1) ∙ ap (λ (u : List ℤ). pos 1 *ℤ cell u j) (get_or_default rays m [] v l ∙ e));
}
  where
    one_sum : (x z : ℤ) → z ≡ pos 1 *ℤ x → pos 1 *ℤ x ≡ pos 0 +ℤ z
    one_sum x z f = omega (arith, ints, f)

-- ---- irredundant rays
pub irredundant_apart : (lines rays : List (List ℤ)) → IsIrredundant lines rays → IsApart rays
irredundant_apart lines rays s i k h g ne e =
    s i h (subst (λ (v : List ℤ). Spans lines (remove rays i) v) (sym e) (spans_member lines (remove rays i) (vector_at rays k) (Contains-remove_other rays i k [] g h (λ f. ne (sym f)))))

-- at the first of two places, at the second, or at another, and the place with these two swapped
abbrev IsSwappedPlace : ℕ → ℕ → ℕ → ℕ → Type 0
IsSwappedPlace a b m s = ((m ≡ a) × (s ≡ b)) ⊎ (((m ≢ a) × (m ≡ b) × (s ≡ a)) ⊎ ((m ≢ a) × (m ≢ b) × (s ≡ m)))

swapped_place : (a b m : ℕ) → (s : ℕ) × IsSwappedPlace a b m s
swapped_place a b m = by_place (cases_eq m a) (cases_eq m b)
  where
    by_place : (m ≡ a) ⊎ (m ≢ a) → (m ≡ b) ⊎ (m ≢ b) → (s : ℕ) × IsSwappedPlace a b m s
    by_place (inl e) d = (b, inl (e, refl))
    by_place (inr ne) (inl e) = (a, inr (inl (ne, e, refl)))
    by_place (inr ne) (inr nd) = (m, inr (inr (ne, nd, refl)))

swapped_apart : (a b m k s t : ℕ) → IsSwappedPlace a b m s → IsSwappedPlace a b k t → m ≢ k → s ≢ t
swapped_apart a b m k s t p q ne e = omega (arith, p, q, ne, e)

swapped_below : (a b m s n : ℕ) → IsSwappedPlace a b m s → a < n → b < n → m < n → s < n
swapped_below a b m s n p h g l = omega (arith, p, h, g, l)

swapped_is : (rays : List (List ℤ)) (a b m s : ℕ) → a < length rays → b < length rays → IsSwappedPlace a b m s → vector_at (swap rays a b) m ≡ vector_at rays s
swapped_is rays a b m s p q w = by_place w
  where
    w3 : Swapped (λ i. vector_at rays i) (λ i. vector_at (swap rays a b) i) a b
    w3 = swapped_from_swap rays (swap rays a b) a b [] p q refl

    by_place : IsSwappedPlace a b m s → vector_at (swap rays a b) m ≡ vector_at rays s
    by_place (inl (e, f)) = ap (λ (n : ℕ). vector_at (swap rays a b) n) e ∙ w3.0 ∙ ap (λ (n : ℕ). vector_at rays n) (sym f)
    by_place (inr (inl (ne, e, f))) = ap (λ (n : ℕ). vector_at (swap rays a b) n) e ∙ w3.1 ∙ ap (λ (n : ℕ). vector_at rays n) (sym f)
    by_place (inr (inr (ne, nd, f))) = w3.2 m ne nd ∙ ap (λ (n : ℕ). vector_at rays n) (sym f)

irredundant_swap : (lines rays : List (List ℤ)) (a b : ℕ) → a < length rays → b < length rays → IsIrredundant lines rays → IsIrredundant lines (swap rays a b)
irredundant_swap lines rays a b p q irredundant i h spanned =
    irredundant s sb (subst (λ (v : List ℤ). Spans lines (remove rays s) v) (swapped_is rays a b i s p q (swapped_place a b i).1) (spans_within lines (remove (swap rays a b) i) (remove rays s) (vector_at (swap rays a b) i) within spanned))
  where
    at : i < length rays
    at = omega (arith, h, length-swap rays a b)

    s : ℕ
    s = (swapped_place a b i).0

    sb : (swapped_place a b i).0 < length rays
    sb = swapped_below a b i s (length rays) (swapped_place a b i).1 p q at

    within : IsWithin (remove (swap rays a b) i) (remove rays (swapped_place a b i).0)
    within u c = by_place (Contains-remove_place (swap rays a b) i u [] h c)
      where
        by_place : (m : ℕ) × (m < length (swap rays a b)) × (m ≢ i) × (vector_at (swap rays a b) m ≡ u) → Contains (remove rays (swapped_place a b i).0) u
        by_place (m, l, ne, e) =
            subst (λ (w : List ℤ). Contains (remove rays s) w) (sym (swapped_is rays a b m (swapped_place a b m).0 p q (swapped_place a b m).1) ∙ e)
            (Contains-remove_other rays s (swapped_place a b m).0 [] (swapped_below a b m (swapped_place a b m).0 (length rays) (swapped_place a b m).1 p q (omega (arith, l, length-swap rays a b))) sb
            (swapped_apart a b m i (swapped_place a b m).0 s (swapped_place a b m).1 (swapped_place a b i).1 ne))

pub irredundant_rearranged : (lines rays others : List (List ℤ)) → IsPermutation rays others → IsIrredundant lines rays → IsIrredundant lines others
irredundant_rearranged lines rays others p s =
    let P : List (List ℤ) → Type 0 = λ vs. IsIrredundant lines vs in
    IsPermutation-keeps rays P s (λ vs i j h g q. irredundant_swap lines vs i j h g q) others p

pub echelon_rearranged : (lines rays others : List (List ℤ)) → IsPermutation rays others → IsEchelon lines rays → IsEchelon lines others
echelon_rearranged lines rays others p e = record {
  pivot = e.pivot;
  pivots = e.pivots;
  ordered = e.ordered;
  lines_zero = e.lines_zero;
  rays_zero = λ i k h g. (let P : List ℤ → Type 0 = λ v. cell v (e.pivot i) ≡ pos 0 in All-permutation P rays others p (All-from_get_or P rays [] (λ m l. e.rays_zero i m h l)) k [] g);
}

-- a system is one in each order of its rays
pub system_rearranged : (C : List ℤ → Type 0) (lines rays others : List (List ℤ)) → IsSystem C lines rays → IsPermutation rays others → IsSystem C lines others
system_rearranged C lines rays others s p = record {
  generates = record {
    lines_within = s.generates.lines_within;
    rays_within = All-permutation C rays others p s.generates.rays_within;
    spans = λ v c. spans_within lines rays others v (λ u m. Contains-permutation rays others u p m) (s.generates.spans v c);
  };
  lineality = s.lineality;
  echelon = echelon_rearranged lines rays others p s.echelon;
  primitive_lines = s.primitive_lines;
  primitive_rays = All-permutation IsPrimitive rays others p s.primitive_rays;
  irredundant = irredundant_rearranged lines rays others p s.irredundant;
}

-- ---- sorting
-- a list of vectors of one width, none twice and none less than the next, is sorted
pub sorted_from_weak : (width : ℕ) (vs : List (List ℤ)) → All (λ v. length v ≡ width) vs → IsApart vs → AreInOrder vs → AreSorted vs
sorted_from_weak width vs wide apart weak i h = by_order (compare_vectors (vector_at vs i) (vector_at vs (i + 1)) (wide i [] (omega (arith, h)) ∙ sym (wide (i + 1) [] h)))
  where
    by_order : (vector_at vs i ≡ vector_at vs (i + 1)) ⊎ (IsGreater (vector_at vs i) (vector_at vs (i + 1)) ⊎ IsGreater (vector_at vs (i + 1)) (vector_at vs i)) → IsGreater (vector_at vs i) (vector_at vs (i + 1))
    by_order (inl e) = absurd (apart i (i + 1) (omega (arith, h)) h (λ f. omega (arith, f)) e)
    by_order (inr (inl g)) = g
    by_order (inr (inr g)) = absurd (weak i h g)

-- a system with its rays sorted is the canonical system
pub canon_from_sorted : (width : ℕ) (C : List ℤ → Type 0) (lines rays sorted : List (List ℤ)) → IsCone width C → IsSystem C lines rays → IsPermutation rays sorted → AreInOrder sorted → Canon C lines sorted
canon_from_sorted width C lines rays sorted cone s p weak = record {
  system = t;
  sorted = sorted_from_weak width sorted (λ i d h. cone.wide (slice_index_or sorted i d) (t.generates.rays_within i d h)) (irredundant_apart lines sorted t.irredundant) weak;
}
  where
    t : IsSystem C lines sorted
    t = system_rearranged C lines rays sorted s p
