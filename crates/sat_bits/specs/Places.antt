use Rattle.std.specs.Prelude.{◌≡◌, ◌≢◌, ℕ, ◌/◌, ◌%◌, ◌^◌, ◌-◌, ◌<◌, ◌==◌, Bool, List, IsTrue}
use Rattle.std.specs.Prelude.{length, slice_index_or, bit_and}
use Rattle.std.specs.Int.{bit_at}

-- bit j of a word
abbrev pub bit_in : ℕ → ℕ → Bool
bit_in word j = bit_at word j == 1

-- the truth value at place i: bit i mod 64 of word i / 64, and false past the words
abbrev pub place : List ℕ → ℕ → Bool
place words i = bit_in (slice_index_or words (i / 64) 0) (i % 64)

-- the third row is true wherever the first and the second both are
abbrev pub IsSubsetOfAnd : List ℕ → List ℕ → List ℕ → Type 0
IsSubsetOfAnd a b c = (i : ℕ) → IsTrue (place a i) → IsTrue (place b i) → IsTrue (place c i)

-- of two words, the third has each bit that both have
abbrev pub IsCovered : ℕ → ℕ → ℕ → Type 0
IsCovered a b c = bit_and (bit_and a b) c ≡ bit_and a b

-- no bit that the first two words have is missing in the third
abbrev pub IsNoneMissing : ℕ → ℕ → ℕ → Type 0
IsNoneMissing a b c = bit_and (bit_and a b) (2 ^ 64 - 1 - c) ≡ 0

-- the same of the first n words of three lists
abbrev pub AreNoneMissing : List ℕ → List ℕ → List ℕ → ℕ → Type 0
AreNoneMissing a b c n = (k : ℕ) → k < n →
    IsNoneMissing (slice_index_or a k 0) (slice_index_or b k 0) (slice_index_or c k 0)

-- the words of the first n words of three lists are covered
abbrev pub AreCovered : List ℕ → List ℕ → List ℕ → ℕ → Type 0
AreCovered a b c n = (k : ℕ) → k < n →
    IsCovered (slice_index_or a k 0) (slice_index_or b k 0) (slice_index_or c k 0)

-- word k is at another place than i and j, and has each bit that both of these have
pub record IsThirdWord (words : List ℕ) (i j k : ℕ) : Type 0 where
  pub inside : k < length words
  pub not_first : k ≢ i
  pub not_second : k ≢ j
  pub covers :
      IsNoneMissing (slice_index_or words i 0) (slice_index_or words j 0) (slice_index_or words k 0)

-- some word at another place than i and j has each bit that both of these have
abbrev pub HasThirdWord : List ℕ → ℕ → ℕ → Type 0
HasThirdWord words i j = (k : ℕ) × IsThirdWord words i j k
