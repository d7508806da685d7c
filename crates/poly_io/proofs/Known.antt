-- Laws of bytes that are known or not.
use Rattle.std.proofs.Common.{◌≡◌, ℕ, ◌+◌, ◌-◌, List, [], ◌++◌, length, take, drop, length-drop, length-append, ◌≤◌, refl, ap, append_assoc, ◌∙◌, sym}
use Rattle.std.proofs.lemmas.List.{append-nil, take-append-drop, drop-drop, length-take-le}
use Rattle.std.proofs.Math.Seq.{take-add, take-length}
use Rattle.std.specs.Prelude.{Option, Some, None}
use Rattle.std.specs.Io.KnownBytes.{prepend_known, append_known}

pub prepend_known-nil : (known : Option (List ℕ)) → prepend_known [] known ≡ known
prepend_known-nil None = refl
prepend_known-nil (Some bytes) = refl

pub prepend_known-append : (a b : List ℕ) (known : Option (List ℕ)) → prepend_known (a ++ b) known ≡ prepend_known a (prepend_known b known)
prepend_known-append a b None = refl
prepend_known-append a b (Some bytes) = ap Some (append_assoc a b bytes)

-- bytes taken in two steps
pub prepend_known-then : (a b : List ℕ) (old mid new : Option (List ℕ)) → old ≡ prepend_known a mid → mid ≡ prepend_known b new → old ≡ prepend_known (a ++ b) new
prepend_known-then a b old mid new h k = h ∙ ap (prepend_known a) k ∙ sym (prepend_known-append a b new)

pub append_known-nil : (known : Option (List ℕ)) → append_known known [] ≡ known
append_known-nil None = refl
append_known-nil (Some bytes) = ap Some (append-nil bytes)

pub append_known-append : (known : Option (List ℕ)) (a b : List ℕ) → append_known known (a ++ b) ≡ append_known (append_known known a) b
append_known-append None a b = refl
append_known-append (Some bytes) a b = ap Some (sym (append_assoc bytes a b))

-- the first n bytes, and then the first m of the rest
pub append_known-take_more : (bytes : List ℕ) (n m : ℕ) (old mid new : Option (List ℕ)) → mid ≡ append_known old (take n bytes) → new ≡ append_known mid (take m (drop n bytes)) → new ≡ append_known old (take (n + m) bytes)
append_known-take_more bytes n m old mid new h k = k ∙ ap (λ known. append_known known (take m (drop n bytes))) h ∙ sym (append_known-append old (take n bytes) (take m (drop n bytes))) ∙ ap (append_known old) (sym (take-add n m bytes))

pub ruleset write_steps = (append_known-nil, append_known-take_more)

-- what is left after the first count bytes of the rest were copied to a buffer
pub drop-copied : (bytes buf : List ℕ) (at count : ℕ) → take count buf ≡ take count (drop at bytes) → drop at bytes ≡ take count buf ++ drop (at + count) bytes
drop-copied bytes buf at count h = sym (take-append-drop count (drop at bytes)) ∙ ap (λ rest. take count (drop at bytes) ++ rest) (drop-drop count at bytes) ∙ ap (λ front. front ++ drop (at + count) bytes) (sym h)

-- the slice from a place on
pub take-rest : (bytes : List ℕ) (at : ℕ) → take (length bytes - at) (drop at bytes) ≡ drop at bytes
take-rest bytes at = ap (λ n. take n (drop at bytes)) (sym (length-drop at bytes)) ∙ take-length (drop at bytes)

-- some bytes and the first n of a buffer
pub length-with_front : (bytes buf : List ℕ) (n : ℕ) → n ≤ length buf → length (bytes ++ take n buf) ≡ length bytes + n
length-with_front bytes buf n h = length-append bytes (take n buf) ∙ ap (λ m. length bytes + m) (length-take-le n buf h)
