-- Numbers with a cap.
use Rattle.std.proofs.Common.{◌≡◌, ℕ, ◌+◌, ◌-◌, ◌*◌, ◌≤◌, List, [], ◌∷◌, sym, ◌∙◌, ap, arith, min, drop, length, get_or, ◌<◌}
use Rattle.std.proofs.lemmas.List.{drop_more, drop_all}
use Rattle.plain_text.specs.Digits.{number_after, next_number}

one-cap : (c m d : ℕ) → min (10 * min m c + d) c ≡ min (10 * m + d) c
one-cap c m d = grind arith

-- a cap before the last digits doesn't show behind a cap at the end
pub cap_after : (c m : ℕ) (w : List ℕ) → min (number_after (min m c) w) c ≡ min (number_after m w) c
cap_after c m [] = grind arith
cap_after c m (b ∷ w) =
    sym (cap_after c (10 * min m c + (b - 48)) w)
    ∙ ap (λ n. min (number_after n w) c) (one-cap c m (b - 48))
    ∙ cap_after c (10 * m + (b - 48)) w

pub cap_next : (c m b : ℕ) (w : List ℕ) → min (number_after (next_number c m (b - 48)) w) c ≡ min (number_after m (b ∷ w)) c
cap_next c m b w = cap_after c (10 * m + (b - 48)) w

pub below_cap : (n c s : ℕ) → min n c ≡ s → n ≤ c → n ≡ s
below_cap n c s e h = grind arith

-- one more byte
pub one_byte : (c : ℕ) (w : List ℕ) (i n d m s : ℕ) → i < length w → d ≡ get_or w i 0 - 48 → m ≡ next_number c n d → min (number_after n (drop i w)) c ≡ s → min (number_after m (drop (i + 1) w)) c ≡ s
one_byte c w i n d m s h e f g =
    ap (λ x. min (number_after x (drop (i + 1) w)) c) (f ∙ ap (λ x. next_number c n x) e)
    ∙ cap_next c n (get_or w i 0) (drop (i + 1) w)
    ∙ ap (λ x. min (number_after n x) c) (sym (drop_more w i 0 h))
    ∙ g

pub next_most : (c n d m : ℕ) → m ≡ next_number c n d → m ≤ c
next_most c n d m e = grind arith

pub at_last : (c : ℕ) (w : List ℕ) (i n s : ℕ) → length w ≤ i → min (number_after n (drop i w)) c ≡ s → n ≤ c → n ≡ s
at_last c w i n s h e k = below_cap n c s (ap (λ x. min (number_after n x) c) (sym (drop_all i w h)) ∙ e) k
