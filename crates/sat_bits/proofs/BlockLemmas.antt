-- Blocks of eight words, and what a reduction of their lanes says.
use Rattle.std.proofs.Common.{◌≡◌, ℕ, zero, suc, ◌+◌, ◌*◌, ◌-◌, ◌/◌, ◌^◌, ◌<◌, ◌≤◌, bit_and, bit_or, List, [], ◌∷◌, length, map, take, drop, slice_index_or, refl, sym, ap, subst, ◌∙◌, arith}
use Rattle.std.specs.Simd.{first_chunks}
use Rattle.std.specs.Simd.Lanes.{fold_l, zip2}
use Rattle.std.proofs.lemmas.Nat.{le_or_l, le_or_r}
use Rattle.std.proofs.lemmas.List.{get_or-take, get_or-drop, drop-drop, get_or-map, length-map}
use Rattle.std.proofs.lemmas.Simd.{length-zip2, get_or-zip2}
use Rattle.sat_bits.specs.Places.{IsNoneMissing, AreNoneMissing}

-- block i begins at word 8 i
pub block_is : (i n : ℕ) (xs : List ℕ) (d : List ℕ) → i < n → slice_index_or (first_chunks 8 n xs) i d ≡ take 8 (drop (i * 8) xs)
block_is zero zero xs d h = elim h [ ]
block_is (suc i) zero xs d h = elim h [ ]
block_is zero (suc n) xs d h = refl
block_is (suc i) (suc n) xs d h = block_is i n (drop 8 xs) d (omega arith) ∙ ap (take 8) (drop-drop (i * 8) 8 xs ∙ ap (λ k. drop k xs) (omega arith))

pub in_block : (i k : ℕ) (xs ys : List ℕ) → k < 8 → ys ≡ take 8 (drop (i * 8) xs) → slice_index_or ys k 0 ≡ slice_index_or xs (i * 8 + k) 0
in_block i k xs ys h e = ap (λ zs. slice_index_or zs k 0) e ∙ get_or-take 8 (drop (i * 8) xs) k 0 h ∙ get_or-drop (i * 8) xs k 0

-- the lanes joined are 0 exactly where each is
pub start_le_joined : (a : ℕ) (xs : List ℕ) → a ≤ fold_l bit_or a xs
start_le_joined a [] = omega arith
start_le_joined a (x ∷ xs) = omega (arith, le_or_l a x, start_le_joined (bit_or a x) xs)

pub lane_le_joined : (a : ℕ) (xs : List ℕ) (k : ℕ) → k < length xs → slice_index_or xs k 0 ≤ fold_l bit_or a xs
lane_le_joined a [] k h = elim h [ ]
lane_le_joined a (x ∷ xs) zero h = omega (arith, le_or_r a x, start_le_joined (bit_or a x) xs)
lane_le_joined a (x ∷ xs) (suc k) h = lane_le_joined (bit_or a x) xs k (omega arith)

pub joined_zero : (xs : List ℕ) → ((k : ℕ) → k < length xs → slice_index_or xs k 0 ≡ 0) → fold_l bit_or 0 xs ≡ 0
joined_zero [] f = refl
joined_zero (x ∷ xs) f = ap (λ z. fold_l bit_or (bit_or 0 z) xs) (f 0 (omega arith)) ∙ joined_zero xs (λ k h. f (suc k) (omega arith))

-- the lanes of the first two without those of the third
abbrev pub missing : List ℕ → List ℕ → List ℕ → List ℕ
missing a b c = zip2 bit_and (zip2 bit_and a b) (map (λ x. 2 ^ 64 - 1 - x) c)

pub length-missing : (a b c : List ℕ) (n : ℕ) → length a ≡ n → length b ≡ n → length c ≡ n → length (missing a b c) ≡ n
length-missing a b c n la lb lc =
    let l : length (zip2 bit_and a b) ≡ n = length-zip2 bit_and a b (la ∙ sym lb) ∙ la in
    let m : length (map (λ x. 2 ^ 64 - 1 - x) c) ≡ n = length-map c (λ x. 2 ^ 64 - 1 - x) ∙ lc in
    length-zip2 bit_and (zip2 bit_and a b) (map (λ x. 2 ^ 64 - 1 - x) c) (l ∙ sym m) ∙ l

pub missing_lane : (a b c : List ℕ) (n k : ℕ) → length a ≡ n → length b ≡ n → length c ≡ n → k < n → slice_index_or (missing a b c) k 0 ≡ bit_and (bit_and (slice_index_or a k 0) (slice_index_or b k 0)) (2 ^ 64 - 1 - slice_index_or c k 0)
missing_lane a b c n k la lb lc h =
    let l : length (zip2 bit_and a b) ≡ n = length-zip2 bit_and a b (la ∙ sym lb) ∙ la in
    let m : length (map (λ x. 2 ^ 64 - 1 - x) c) ≡ n = length-map c (λ x. 2 ^ 64 - 1 - x) ∙ lc in
    get_or-zip2 bit_and (zip2 bit_and a b) (map (λ x. 2 ^ 64 - 1 - x) c) k 0 0 0 (omega (arith, l, h)) (omega (arith, m, h))
    ∙ ap (λ (x : ℕ). bit_and x (slice_index_or (map (λ x. 2 ^ 64 - 1 - x) c) k 0)) (get_or-zip2 bit_and a b k 0 0 0 (omega (arith, la, h)) (omega (arith, lb, h)))
    ∙ ap (λ (y : ℕ). bit_and (bit_and (slice_index_or a k 0) (slice_index_or b k 0)) y) (get_or-map (λ x. 2 ^ 64 - 1 - x) c k 0 0 (omega (arith, lc, h)))

-- the lanes joined are 0 exactly where nothing is missing
pub none_missing : (a b c : List ℕ) → length a ≡ 8 → length b ≡ 8 → length c ≡ 8 → fold_l bit_or 0 (missing a b c) ≡ 0 → AreNoneMissing a b c 8
none_missing a b c la lb lc none k h =
    let l : slice_index_or (missing a b c) k 0 ≤ fold_l bit_or 0 (missing a b c) = lane_le_joined 0 (missing a b c) k (omega (arith, length-missing a b c 8 la lb lc, h)) in
    sym (missing_lane a b c 8 k la lb lc h) ∙ omega (arith, l, none)

pub joined_none : (a b c : List ℕ) → length a ≡ 8 → length b ≡ 8 → length c ≡ 8 → AreNoneMissing a b c 8 → fold_l bit_or 0 (missing a b c) ≡ 0
joined_none a b c la lb lc f = joined_zero (missing a b c) (λ k h.
    let h8 : k < 8 = omega (arith, length-missing a b c 8 la lb lc, h) in
    missing_lane a b c 8 k la lb lc h8 ∙ f k h8)

-- a block of the lists from word 8 i on
pub none_missing_from : (a b c x y z : List ℕ) (i : ℕ) → x ≡ take 8 (drop (i * 8) a) → y ≡ take 8 (drop (i * 8) b) → z ≡ take 8 (drop (i * 8) c) → AreNoneMissing x y z 8 → (k : ℕ) → k < 8 → IsNoneMissing (slice_index_or a (i * 8 + k) 0) (slice_index_or b (i * 8 + k) 0) (slice_index_or c (i * 8 + k) 0)
none_missing_from a b c x y z i ex ey ez f k h =
    subst (λ (u : ℕ). IsNoneMissing u (slice_index_or b (i * 8 + k) 0) (slice_index_or c (i * 8 + k) 0)) (in_block i k a x h ex)
    (subst (λ (v : ℕ). IsNoneMissing (slice_index_or x k 0) v (slice_index_or c (i * 8 + k) 0)) (in_block i k b y h ey)
    (subst (λ (w : ℕ). IsNoneMissing (slice_index_or x k 0) (slice_index_or y k 0) w) (in_block i k c z h ez) (f k h)))

pub none_missing_in : (a b c x y z : List ℕ) (i : ℕ) → x ≡ take 8 (drop (i * 8) a) → y ≡ take 8 (drop (i * 8) b) → z ≡ take 8 (drop (i * 8) c) → ((k : ℕ) → IsNoneMissing (slice_index_or a k 0) (slice_index_or b k 0) (slice_index_or c k 0)) → AreNoneMissing x y z 8
none_missing_in a b c x y z i ex ey ez f k h =
    subst (λ (u : ℕ). IsNoneMissing u (slice_index_or y k 0) (slice_index_or z k 0)) (sym (in_block i k a x h ex))
    (subst (λ (v : ℕ). IsNoneMissing (slice_index_or a (i * 8 + k) 0) v (slice_index_or z k 0)) (sym (in_block i k b y h ey))
    (subst (λ (w : ℕ). IsNoneMissing (slice_index_or a (i * 8 + k) 0) (slice_index_or b (i * 8 + k) 0) w) (sym (in_block i k c z h ez)) (f (i * 8 + k))))

-- block i of a list that is cut into blocks
pub block_at : (xs : List ℕ) (blocks : List (List ℕ)) (i : ℕ) (d : List ℕ) → blocks ≡ first_chunks 8 (length xs / 8) xs → i < length xs / 8 → slice_index_or blocks i d ≡ take 8 (drop (i * 8) xs)
block_at xs blocks i d e h = ap (λ (bs : List (List ℕ)). slice_index_or bs i d) e ∙ block_is i (length xs / 8) xs d h

-- word i of what is left behind the blocks
pub rest_at : (xs rest : List ℕ) (i : ℕ) → rest ≡ drop (length xs / 8 * 8) xs → slice_index_or rest i 0 ≡ slice_index_or xs (length xs / 8 * 8 + i) 0
rest_at xs rest i e = ap (λ (ys : List ℕ). slice_index_or ys i 0) e ∙ get_or-drop (length xs / 8 * 8) xs i 0
