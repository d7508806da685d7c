-- Sizes of products and sums of numbers of bounded size.
use Rattle.std.specs.Prelude.{◌≡◌, ℕ, zero, suc, ◌+◌, ◌*◌, ◌^◌, ◌<◌, ◌≤◌, List, [], ◌∷◌, length, take, drop, ℤ, pos, ◌+ℤ◌, unsigned_abs, bit_or}
use Rattle.std.proofs.Common.{arith, refl, sym, subst, add-one, ap, ◌∙◌}
use Rattle.std.proofs.Math.IntN.{◌*ℤ◌}
use Rattle.std.proofs.Math.Nat.{mul-le-mul, mul-le-mul_right, suc-mul, one-le-pow, lt_of_not-le}
use Rattle.std.proofs.Math.Pow.{pow_mono}
use Rattle.std.proofs.lemmas.Grind.{pow_more}
use Rattle.std.proofs.lemmas.Nat.{pow-add}
use Rattle.std.specs.Int.{w64, w128}
use Rattle.std.proofs.lemmas.Int.{unsigned_abs-mul, fits_signed_from_abs, to_z-of_z}
use Rattle.std.proofs.lemmas.Nat.{le_or_l, le_or_r}
use mir.Val.{SFits, to_z, of_z}
use Rattle.std.proofs.lemmas.List.Elements.{All-nil, All-cons, All-append, All-head, All-tail, All-get_or, All-take, All-drop}
use Rattle.row_core.specs.Vectors.{cell, dot}
use Rattle.row_core.specs.Range.{InRange, ColumnStays, CombineStays, DotStays, AllStay}
use Rattle.row_core.specs.MarkedCells.{marked_rows, cells_of}
use Rattle.row_core.specs.Sizes.{IsWithin, HaveBits, AreBelow, AllHaveBits, AllAreBelow, DotIsOfWords, ColumnIsOfWords, CombineIsOfWords}
use Rattle.row_core.proofs.ColumnLemmas.{total_more}
use Rattle.row_core.proofs.Magnitudes.{unsigned_abs-add}

-- more bits
pub HaveBits-more : (a b : ℕ) (v : List ℤ) → a ≤ b → HaveBits a v → HaveBits b v
HaveBits-more a b v h all =
    let more : 2 ^ a ≤ 2 ^ b = pow_mono h in
    λ i d below. record { size = omega (arith, more, (all i d below).size) }

-- a number below 2^n has at most n bits
pub least_bits : (bits size n : ℕ) → 2 ^ bits ≤ 2 * size + 1 → size < 2 ^ n → bits ≤ n
least_bits bits size n most below =
    let less : bits < n + 1 = lt_of_not-le (λ h.
    let more : 2 ^ (n + 1) ≤ 2 ^ bits = pow_mono h in
    omega (arith, more, most, below, pow_more 2 n)) in
    omega (arith, less)

-- of rows, that of all their cells
pub AllHaveBits-marked_rows : {M : Type 0} (bits width : ℕ) (cells : List ℤ) (marks : List M) →
    HaveBits bits cells → AllHaveBits bits (marked_rows width cells marks)
AllHaveBits-marked_rows {M} bits width cells [] all =
    All-nil (λ (r : List ℤ × M). HaveBits bits r.0)
AllHaveBits-marked_rows {M} bits width cells (mark ∷ marks) all =
    All-cons (λ (r : List ℤ × M). HaveBits bits r.0) (take width cells, mark)
    (marked_rows width (drop width cells) marks) (All-take (IsWithin (2 ^ bits)) width cells all)
    (AllHaveBits-marked_rows bits width (drop width cells) marks
    (All-drop (IsWithin (2 ^ bits)) width cells all))

-- of the cells of rows, that of all rows
pub AreBelow-cells_of : {M : Type 0} (n : ℕ) (rows : List (List ℤ × M)) → AllAreBelow n rows →
    AreBelow n (cells_of rows)
AreBelow-cells_of n [] all = All-nil (λ (z : ℤ). unsigned_abs z < n)
AreBelow-cells_of {M} n (row ∷ rows) all =
    All-append (λ (z : ℤ). unsigned_abs z < n) row.0 (cells_of rows)
    (All-head (λ (r : List ℤ × M). AreBelow n r.0) row rows all)
    (AreBelow-cells_of n rows (All-tail (λ (r : List ℤ × M). AreBelow n r.0) row rows all))

-- the product of numbers of bounded size
pub unsigned_abs-mul_within : (a b : ℕ) (x y : ℤ) → IsWithin a x → IsWithin b y →
    unsigned_abs (x *ℤ y) ≤ a * b
unsigned_abs-mul_within a b x y h k =
    subst (λ (n : ℕ). n ≤ a * b) (sym (unsigned_abs-mul x y)) (mul-le-mul h.size k.size)

-- products of powers of 2
pub product_of_powers : (a b k : ℕ) → a + b ≤ k → 2 ^ a * 2 ^ b ≤ 2 ^ k
product_of_powers a b k h = subst (λ (n : ℕ). n ≤ 2 ^ k) (pow-add 2 a b) (pow_mono h)

-- of fewer than 2^c columns, with numbers of a and b bits
pub few_columns : (n a b c k : ℕ) → n < 2 ^ c → a + b + c ≤ k → n * (2 ^ a * 2 ^ b) < 2 ^ k
few_columns n a b c k few h =
    let more : suc n * 2 ^ (a + b) ≤ 2 ^ c * 2 ^ (a + b) = mul-le-mul_right (2 ^ (a + b)) few in
    let most : 2 ^ c * 2 ^ (a + b) ≤ 2 ^ k = product_of_powers c (a + b) k (omega (arith, h)) in
    let some : 1 ≤ 2 ^ (a + b) = one-le-pow (a + b) 2 (omega arith) in
    let next = subst (λ (m : ℕ). m ≤ 2 ^ c * 2 ^ (a + b)) (suc-mul n (2 ^ (a + b))) more in
    subst (λ (m : ℕ). n * m < 2 ^ k) (pow-add 2 a b) (omega (arith, next, most, some))

-- so many times p and once more, below what more times p stay below
times_more : (j n p bound : ℕ) → j < n → n * p < bound → j * p + p < bound
times_more j n p bound h most =
    let more : suc j * p ≤ n * p = mul-le-mul_right p (omega (arith, h)) in
    omega (arith, subst (λ (m : ℕ). m ≤ n * p) (suc-mul j p) more, most)

-- ---- the dot of rows whose numbers are of bounded size
module _ (a b : ℕ) (u v : List ℤ) (e : length u ≡ length v) (left : HaveBits a u)
    (right : HaveBits b v) where
  entry_of : (j : ℕ) → j < length u → IsWithin (2 ^ a) (cell u j)
  entry_of j h = All-get_or (IsWithin (2 ^ a)) u j (pos 0) h left

  other_of : (j : ℕ) → j < length u → IsWithin (2 ^ b) (cell v j)
  other_of j h = All-get_or (IsWithin (2 ^ b)) v j (pos 0) (omega (arith, h, e)) right

  product_size : (j : ℕ) → j < length u →
      unsigned_abs (cell u j *ℤ cell v j) ≤ 2 ^ a * 2 ^ b
  product_size j h =
      unsigned_abs-mul_within (2 ^ a) (2 ^ b) (cell u j) (cell v j) (entry_of j h) (other_of j h)

  -- of the first columns
  sum_size : (j : ℕ) → j ≤ length u →
      unsigned_abs (dot (take j u) (take j v)) ≤ j * (2 ^ a * 2 ^ b)
  sum_size zero h = omega arith
  sum_size (suc j) h =
      let p : ℕ = 2 ^ a * 2 ^ b in
      let within : j < length u = omega (arith, h) in
      subst (λ (n : ℕ). unsigned_abs (dot (take n u) (take n v)) ≤ suc j * p) (add-one j)
      (subst (λ (z : ℤ). unsigned_abs z ≤ suc j * p)
      (total_more u v j (dot (take j u) (take j v)) within e refl)
      (subst (λ (n : ℕ). unsigned_abs (dot (take j u) (take j v) +ℤ cell u j *ℤ cell v j) ≤ n)
      (sym (suc-mul j p))
      (unsigned_abs-add (dot (take j u) (take j v)) (cell u j *ℤ cell v j) (j * p) p
      (sum_size j (omega (arith, h))) (product_size j within))))

  -- at each column
  module _ (bound : ℕ) (few : length u * (2 ^ a * 2 ^ b) < bound) (j : ℕ) (h : j < length u) where
    pub product_below : unsigned_abs (cell u j *ℤ cell v j) < bound
    product_below = omega (
      arith,
      product_size j h,
      times_more j (length u) (2 ^ a * 2 ^ b) bound h few,
    )

    pub sum_below : unsigned_abs (dot (take (j + 1) u) (take (j + 1) v)) < bound
    sum_below =
        let size = sum_size (j + 1) (omega (arith, h)) in
        let next = subst (λ (n : ℕ). n ≤ length u * (2 ^ a * 2 ^ b)) refl
        (mul-le-mul_right (2 ^ a * 2 ^ b) (let k : j + 1 ≤ length u = omega (arith, h) in k)) in
        omega (arith, size, next, few)

    one_of : 2 ^ a * 2 ^ b ≤ j * (2 ^ a * 2 ^ b) + 2 ^ a * 2 ^ b
    one_of = omega arith

    pub left_below : unsigned_abs (cell u j) < bound
    left_below =
        let some : 1 ≤ 2 ^ b = one-le-pow b 2 (omega arith) in
        let least : 2 ^ a * 1 ≤ 2 ^ a * 2 ^ b = mul-le-mul (let r : 2 ^ a ≤ 2 ^ a = omega arith in r) some in
        omega (
          arith,
          (entry_of j h).size,
          least,
          one_of,
          times_more j (length u) (2 ^ a * 2 ^ b) bound h few,
        )

    pub right_below : unsigned_abs (cell v j) < bound
    right_below =
        let some : 1 ≤ 2 ^ a = one-le-pow a 2 (omega arith) in
        let least : 1 * 2 ^ b ≤ 2 ^ a * 2 ^ b = mul-le-mul some (let r : 2 ^ b ≤ 2 ^ b = omega arith in r) in
        omega (
          arith,
          (other_of j h).size,
          least,
          one_of,
          times_more j (length u) (2 ^ a * 2 ^ b) bound h few,
        )

  -- where no number leaves the range
  pub AllStay-dot_of_bits : length u * (2 ^ a * 2 ^ b) < 2 ^ 127 → AllStay (DotStays u v) (length u)
  AllStay-dot_of_bits few j h = record {
    product = record { size = product_below (2 ^ 127) few j h };
    sum = record { size = sum_below (2 ^ 127) few j h };
  }

  -- where all numbers are words
  pub AllStay-dot_of_words : length u * (2 ^ a * 2 ^ b) < 2 ^ 63 →
      AllStay (DotIsOfWords u v) (length u)
  AllStay-dot_of_words few j h = record {
    left = record { size = left_below (2 ^ 63) few j h };
    right = record { size = right_below (2 ^ 63) few j h };
    product = record { size = product_below (2 ^ 63) few j h };
    sum = record { size = sum_below (2 ^ 63) few j h };
  }

  -- as of fewer than 2^32 columns of numbers of few bits
  pub AllStay-short_dot : length u < 2 ^ 32 → a + b ≤ 95 → AllStay (DotStays u v) (length u)
  AllStay-short_dot few short =
      AllStay-dot_of_bits (few_columns (length u) a b 32 127 few (omega (arith, short)))

-- a dot of words stays
pub AllStay-words : (u v : List ℤ) → AllStay (DotIsOfWords u v) (length u) →
    AllStay (DotStays u v) (length u)
AllStay-words u v words j h = record {
  product = record { size = omega (arith, (words j h).product.size) };
  sum = record { size = omega (arith, (words j h).sum.size) };
}

-- ---- a combination by factors of f bits of rows whose numbers have r bits
module _ (f r : ℕ) (s x t y : ℤ) (hs : IsWithin (2 ^ f) s) (ht : IsWithin (2 ^ f) t)
    (hx : IsWithin (2 ^ r) x) (hy : IsWithin (2 ^ r) y) where
  left_size : unsigned_abs (s *ℤ x) ≤ 2 ^ f * 2 ^ r
  left_size = unsigned_abs-mul_within (2 ^ f) (2 ^ r) s x hs hx

  right_size : unsigned_abs (t *ℤ y) ≤ 2 ^ f * 2 ^ r
  right_size = unsigned_abs-mul_within (2 ^ f) (2 ^ r) t y ht hy

  both_size : unsigned_abs (s *ℤ x +ℤ t *ℤ y) ≤ 2 ^ f * 2 ^ r + 2 ^ f * 2 ^ r
  both_size = unsigned_abs-add (s *ℤ x) (t *ℤ y) (2 ^ f * 2 ^ r) (2 ^ f * 2 ^ r) left_size right_size

  pub ColumnStays-within : f + r ≤ 125 → ColumnStays s x t y
  ColumnStays-within h =
      let most = product_of_powers f r 125 h in
      record {
        left = record { size = omega (arith, left_size, most) };
        right = record { size = omega (arith, right_size, most) };
        sum = record { size = omega (arith, both_size, most) };
      }

  pub ColumnIsOfWords-within : f + r ≤ 61 → ColumnIsOfWords s x t y
  ColumnIsOfWords-within h =
      let most = product_of_powers f r 61 h in
      let factor_most : 2 ^ f ≤ 2 ^ 61 = pow_mono {j = 61} (omega (arith, h)) in
      let entry_most : 2 ^ r ≤ 2 ^ 61 = pow_mono {j = 61} (omega (arith, h)) in
      record {
        factors = (
          record { size = omega (arith, hs.size, factor_most) },
          record { size = omega (arith, ht.size, factor_most) },
        );
        entries = (
          record { size = omega (arith, hx.size, entry_most) },
          record { size = omega (arith, hy.size, entry_most) },
        );
        left = record { size = omega (arith, left_size, most) };
        right = record { size = omega (arith, right_size, most) };
        sum = record { size = omega (arith, both_size, most) };
      }

-- at all columns
module _ (f r : ℕ) (u : List ℤ) (s : ℤ) (v : List ℤ) (t : ℤ) (e : length u ≡ length v)
    (hs : IsWithin (2 ^ f) s) (ht : IsWithin (2 ^ f) t) (hu : HaveBits r u) (hv : HaveBits r v) where
  pub AllStay-combined_within : f + r ≤ 125 → AllStay (CombineStays u s v t) (length u)
  AllStay-combined_within few j h = ColumnStays-within f r s (cell u j) t (cell v j) hs ht
      (All-get_or (IsWithin (2 ^ r)) u j (pos 0) h hu)
      (All-get_or (IsWithin (2 ^ r)) v j (pos 0) (omega (arith, h, e)) hv) few

  pub AllStay-combined_of_words : f + r ≤ 61 → AllStay (CombineIsOfWords u s v t) (length u)
  AllStay-combined_of_words few j h = ColumnIsOfWords-within f r s (cell u j) t (cell v j) hs ht
      (All-get_or (IsWithin (2 ^ r)) u j (pos 0) h hu)
      (All-get_or (IsWithin (2 ^ r)) v j (pos 0) (omega (arith, h, e)) hv) few

-- a combination of words stays
pub AllStay-combined_words : (u : List ℤ) (s : ℤ) (v : List ℤ) (t : ℤ) →
    AllStay (CombineIsOfWords u s v t) (length u) → AllStay (CombineStays u s v t) (length u)
AllStay-combined_words u s v t words j h = record {
  left = record { size = omega (arith, (words j h).left.size) };
  right = record { size = omega (arith, (words j h).right.size) };
  sum = record { size = omega (arith, (words j h).sum.size) };
}

-- ---- numbers of which the or of the sizes has so few bits
pub size_left : (x : ℤ) (a b f : ℕ) → a ≡ unsigned_abs x → bit_or a b < 2 ^ f → f ≤ 63 →
    unsigned_abs x < 2 ^ 63
size_left x a b f e below few =
    let most : 2 ^ f ≤ 2 ^ 63 = pow_mono {j = 63} few in
    omega (arith, e, below, le_or_l a b, most)

pub size_right : (y : ℤ) (a b f : ℕ) → b ≡ unsigned_abs y → bit_or a b < 2 ^ f → f ≤ 63 →
    unsigned_abs y < 2 ^ 63
size_right y a b f e below few =
    let most : 2 ^ f ≤ 2 ^ 63 = pow_mono {j = 63} few in
    omega (arith, e, below, le_or_r a b, most)

-- the product of words
pub InRange-word_product : (x y : ℤ) → unsigned_abs x < 2 ^ 63 → unsigned_abs y < 2 ^ 63 →
    InRange (x *ℤ y)
InRange-word_product x y h k =
    let most = unsigned_abs-mul_within (2 ^ 63) (2 ^ 63) x y (record { size = omega (arith, h) })
    (record { size = omega (arith, k) }) in
    record { size = omega (arith, most) }

-- a number of so few bits is a word
pub word_of_bits : (z : ℤ) → IsWithin (2 ^ 62) z → SFits w64 z
word_of_bits z h = fits_signed_from_abs w64 z (omega (arith, h.size))

-- an entry that is a word is the same after it was cut to one
pub to_z-of_cut :
    (x : ℤ) → SFits w128 x → SFits w64 x → to_z w64 (of_z w64 (to_z w128 (of_z w128 x))) ≡ x
to_z-of_cut x wide word =
    ap (λ z. to_z w64 (of_z w64 z)) (to_z-of_z w128 x wide) ∙ to_z-of_z w64 x word
