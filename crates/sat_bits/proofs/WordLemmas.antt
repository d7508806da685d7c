-- The bits of one word.
use Rattle.std.proofs.Common.{◌≡◌, ℕ, ◌+◌, ◌-◌, ◌^◌, ◌<◌, ◌≤◌, ◌&&◌, ◌||◌, min, max, bit_and, bit_or, IsTrue, nat_eq, sym, ap, ◌∙◌, arith}
use Rattle.std.specs.Int.{bit_at}
use Rattle.std.proofs.lemmas.Nat.{and_le_l, and_comm, and-not}
use Rattle.std.proofs.lemmas.Nat.Bits.{bit_at_and, bit_at_or, bit_at-lt, same_from_bits_below}
use Rattle.sat_bits.specs.Places.{bit_in, IsCovered, IsNoneMissing}

-- no bit of both is missing in the third
pub covered_from_none : (a b c : ℕ) → a < 2 ^ 64 → c < 2 ^ 64 → IsNoneMissing a b c → IsCovered a b c
covered_from_none a b c ha hc none =
    let l : bit_and a b ≤ a = and_le_l a b in
    let e : bit_and (2 ^ 64 - 1 - c) (bit_and a b) + bit_and c (bit_and a b) ≡ bit_and a b = and-not 64 c (bit_and a b) hc (omega arith) in
    and_comm (bit_and a b) c ∙ omega (arith, e, none, and_comm (bit_and a b) (2 ^ 64 - 1 - c))

pub none_from_covered : (a b c : ℕ) → a < 2 ^ 64 → c < 2 ^ 64 → IsCovered a b c → IsNoneMissing a b c
none_from_covered a b c ha hc covered =
    let l : bit_and a b ≤ a = and_le_l a b in
    let e : bit_and (2 ^ 64 - 1 - c) (bit_and a b) + bit_and c (bit_and a b) ≡ bit_and a b = and-not 64 c (bit_and a b) hc (omega arith) in
    omega (arith, e, covered, and_comm (bit_and a b) (2 ^ 64 - 1 - c), and_comm (bit_and a b) c)

-- a bit of the conjunction
bit_from : (m n k : ℕ) → m < 2 → n < 2 → k ≡ min m n → nat_eq k 1 ≡ (nat_eq m 1 && nat_eq n 1)
bit_from m n k hm hn e = grind (arith, hm, hn, e)

pub bit_and_is : (a b j : ℕ) → bit_in (bit_and a b) j ≡ (bit_in a j && bit_in b j)
bit_and_is a b j = bit_from (bit_at a j) (bit_at b j) (bit_at (bit_and a b) j) (bit_at-lt a j) (bit_at-lt b j) (bit_at_and a b j)

-- a bit of the disjunction
bit_of_either : (m n k : ℕ) → m < 2 → n < 2 → k ≡ max m n → nat_eq k 1 ≡ (nat_eq m 1 || nat_eq n 1)
bit_of_either m n k hm hn e = grind (arith, hm, hn, e)

pub bit_or_is : (a b j : ℕ) → bit_in (bit_or a b) j ≡ (bit_in a j || bit_in b j)
bit_or_is a b j = bit_of_either (bit_at a j) (bit_at b j) (bit_at (bit_or a b) j) (bit_at-lt a j) (bit_at-lt b j) (bit_at_or a b j)

third_bit : (m n k : ℕ) → m ≡ 1 → n ≡ 1 → k < 2 → min (min m n) k ≡ min m n → k ≡ 1
third_bit m n k hm hn hk e = omega (arith, hm, hn, hk, e)

-- where the words are covered, their bits are
pub covered_bits : (a b c j : ℕ) → IsCovered a b c → IsTrue (bit_in a j) → IsTrue (bit_in b j) → IsTrue (bit_in c j)
covered_bits a b c j covered ha hb =
    let e : min (min (bit_at a j) (bit_at b j)) (bit_at c j) ≡ min (bit_at a j) (bit_at b j)
    = ap (λ n. min n (bit_at c j)) (sym (bit_at_and a b j)) ∙ sym (bit_at_and (bit_and a b) c j) ∙ ap (λ w. bit_at w j) covered ∙ bit_at_and a b j in
    let t : bit_at c j ≡ 1 = third_bit (bit_at a j) (bit_at b j) (bit_at c j) (grind (arith, ha)) (grind (arith, hb)) (bit_at-lt c j) e in
    grind (arith, t)

pub from_true : (n : ℕ) → IsTrue (nat_eq n 1) → n ≡ 1
from_true n h = grind (arith, h)

pub to_true : (n : ℕ) → n ≡ 1 → IsTrue (nat_eq n 1)
to_true n h = grind (arith, h)

least : (m n k : ℕ) → m < 2 → n < 2 → k < 2 → (m ≡ 1 → n ≡ 1 → k ≡ 1) → min (min m n) k ≡ min m n
least m n k hm hn hk f = grind (arith, hm, hn, hk, f)

-- and where their bits are, the words are
pub covered_from_bits : (a b c : ℕ) → a < 2 ^ 64 → ((j : ℕ) → j < 64 → IsTrue (bit_in a j) → IsTrue (bit_in b j) → IsTrue (bit_in c j)) → IsCovered a b c
covered_from_bits a b c fits f =
    let l : bit_and a b ≤ a = and_le_l a b in
    let m : bit_and (bit_and a b) c ≤ bit_and a b = and_le_l (bit_and a b) c in
    same_from_bits_below 64 (bit_and (bit_and a b) c) (bit_and a b) (omega (arith, l, m, fits)) (omega (arith, l, fits)) (λ j h.
    bit_at_and (bit_and a b) c j ∙ ap (λ n. min n (bit_at c j)) (bit_at_and a b j)
    ∙ least (bit_at a j) (bit_at b j) (bit_at c j) (bit_at-lt a j) (bit_at-lt b j) (bit_at-lt c j) (λ p q. from_true (bit_at c j) (f j h (to_true (bit_at a j) p) (to_true (bit_at b j) q)))
    ∙ sym (bit_at_and a b j))
