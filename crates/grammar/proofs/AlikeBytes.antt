-- Bytes that no letter and no range of a form tells apart: the same may come behind both.
use Rattle.std.proofs.Common.{◌≡◌, ℕ, zero, suc, Bool, true, false, not, ◌&&◌, List, [], ◌∷◌, ◌++◌, refl, ap}
use Rattle.std.specs.Prelude.{cond, ◌==◌, nat_le, ⊤}
use Rattle.std.proofs.lemmas.Bool.{and_parts}
use Rattle.grammar.specs.Form.{Form, word, byte, seq, alt, many, upto}
use Rattle.grammar.specs.Derivative.{nullable, after, after_row, after_rows, states}

abbrev pub same_bool : Bool → Bool → Bool
same_bool true y = y
same_bool false y = not y

abbrev pub alike_codes : ℕ → ℕ → List ℕ → Bool
alike_codes b c [] = true
alike_codes b c (x ∷ xs) = same_bool (b == x) (c == x) && alike_codes b c xs

abbrev pub alike : ℕ → ℕ → Form → Bool
alike b c (word cs) = alike_codes b c cs
alike b c (byte low high) = same_bool (nat_le low b && nat_le b high) (nat_le low c && nat_le c high)
alike b c (seq f g) = alike b c f && alike b c g
alike b c (alt f g) = alike b c f && alike b c g
alike b c (many f) = alike b c f
alike b c (upto k f) = alike b c f

abbrev pub AlikeInRow : ℕ → ℕ → List Form → Type 0
AlikeInRow b c [] = ⊤
AlikeInRow b c (f ∷ row) = (alike b c f ≡ true) × AlikeInRow b c row

abbrev pub AlikeInRows : ℕ → ℕ → List (List Form) → Type 0
AlikeInRows b c [] = ⊤
AlikeInRows b c (row ∷ rows) = AlikeInRow b c row × AlikeInRows b c rows

pub bools_equal : (x y : Bool) → same_bool x y ≡ true → x ≡ y
bools_equal true true e = refl
bools_equal true false e = cc
bools_equal false true e = cc
bools_equal false false e = refl

same_after : (b c : ℕ) (f : Form) (row : List Form) → alike b c f ≡ true → after b f row ≡ after c f row
same_after b c (word []) row h = refl
same_after b c (word (x ∷ xs)) row h = ap (λ (t : Bool). cond t ((word xs ∷ row) ∷ []) []) (bools_equal (b == x) (c == x) (and_parts (same_bool (b == x) (c == x)) (alike_codes b c xs) h).0)
same_after b c (byte low high) row h = ap (λ (t : Bool). cond t (row ∷ []) []) (bools_equal (nat_le low b && nat_le b high) (nat_le low c && nat_le c high) h)
same_after b c (seq f g) row h =
    let p = and_parts (alike b c f) (alike b c g) h in
    let x : after b f (g ∷ row) ≡ after c f (g ∷ row) = same_after b c f (g ∷ row) p.0 in
    let y : after b g row ≡ after c g row = same_after b c g row p.1 in
    cc
same_after b c (alt f g) row h =
    let p = and_parts (alike b c f) (alike b c g) h in
    let x : after b f row ≡ after c f row = same_after b c f row p.0 in
    let y : after b g row ≡ after c g row = same_after b c g row p.1 in
    cc
same_after b c (many f) row h = same_after b c f (many f ∷ row) h
same_after b c (upto zero f) row h = refl
same_after b c (upto (suc n) f) row h = same_after b c f (upto n f ∷ row) h

same_after_row : (b c : ℕ) (row : List Form) → AlikeInRow b c row → after_row b row ≡ after_row c row
same_after_row b c [] h = refl
same_after_row b c (f ∷ row) h =
    let x : after b f row ≡ after c f row = same_after b c f row h.0 in
    let y : after_row b row ≡ after_row c row = same_after_row b c row h.1 in
    cc

pub same_after_rows : (b c : ℕ) (rows : List (List Form)) → AlikeInRows b c rows → after_rows b rows ≡ after_rows c rows
same_after_rows b c [] h = refl
same_after_rows b c (row ∷ rows) h =
    let x : after_row b row ≡ after_row c row = same_after_row b c row h.0 in
    let y : after_rows b rows ≡ after_rows c rows = same_after_rows b c rows h.1 in
    cc

-- what comes behind any byte tells them apart no more than what came before
alike_cond : (b c : ℕ) (t : Bool) (rows : List (List Form)) → AlikeInRows b c rows → AlikeInRows b c (cond t rows [])
alike_cond b c true rows h = h
alike_cond b c false rows h = tt

alike_append : (b c : ℕ) (some rows : List (List Form)) → AlikeInRows b c some → AlikeInRows b c rows → AlikeInRows b c (some ++ rows)
alike_append b c [] rows h k = k
alike_append b c (row ∷ some) rows h k = (h.0, alike_append b c some rows h.1 k)

alike_after : (b c x : ℕ) (f : Form) (row : List Form) → alike b c f ≡ true → AlikeInRow b c row → AlikeInRows b c (after x f row)
alike_after b c x (word []) row h k = tt
alike_after b c x (word (y ∷ ys)) row h k = alike_cond b c (x == y) ((word ys ∷ row) ∷ []) (((and_parts (same_bool (b == y) (c == y)) (alike_codes b c ys) h).1, k), tt)
alike_after b c x (byte low high) row h k = alike_cond b c (nat_le low x && nat_le x high) (row ∷ []) (k, tt)
alike_after b c x (seq f g) row h k =
    let p = and_parts (alike b c f) (alike b c g) h in
    alike_append b c (after x f (g ∷ row)) (cond (nullable f) (after x g row) []) (alike_after b c x f (g ∷ row) p.0 (p.1, k)) (alike_cond b c (nullable f) (after x g row) (alike_after b c x g row p.1 k))
alike_after b c x (alt f g) row h k =
    let p = and_parts (alike b c f) (alike b c g) h in
    alike_append b c (after x f row) (after x g row) (alike_after b c x f row p.0 k) (alike_after b c x g row p.1 k)
alike_after b c x (many f) row h k = alike_after b c x f (many f ∷ row) h (h, k)
alike_after b c x (upto zero f) row h k = tt
alike_after b c x (upto (suc n) f) row h k = alike_after b c x f (upto n f ∷ row) h (h, k)

alike_after_row : (b c x : ℕ) (row : List Form) → AlikeInRow b c row → AlikeInRows b c (after_row x row)
alike_after_row b c x [] h = tt
alike_after_row b c x (f ∷ row) h = alike_append b c (after x f row) (cond (nullable f) (after_row x row) []) (alike_after b c x f row h.0 h.1) (alike_cond b c (nullable f) (after_row x row) (alike_after_row b c x row h.1))

alike_after_rows : (b c x : ℕ) (rows : List (List Form)) → AlikeInRows b c rows → AlikeInRows b c (after_rows x rows)
alike_after_rows b c x [] h = tt
alike_after_rows b c x (row ∷ rows) h = alike_append b c (after_row x row) (after_rows x rows) (alike_after_row b c x row h.0) (alike_after_rows b c x rows h.1)

pub alike_states : (b c : ℕ) (rows : List (List Form)) (w : List ℕ) → AlikeInRows b c rows → AlikeInRows b c (states rows w)
alike_states b c rows [] h = h
alike_states b c rows (x ∷ w) h = alike_states b c (after_rows x rows) w (alike_after_rows b c x rows h)
