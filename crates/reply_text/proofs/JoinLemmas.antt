use Rattle.std.specs.Prelude.{◌≡◌, ℕ, ◌+◌, ◌<◌, ◌≤◌, zero, suc, List, [], ◌∷◌, ◌++◌, length, take, ℤ, pos, map, get_or}
use Rattle.std.proofs.Common.{arith, ap, sym, ◌∙◌, refl}
use Rattle.std.specs.Fmt.{signed_decimal}
use Rattle.std.specs.List.{join_with_byte}
use Rattle.std.proofs.lemmas.List.{append_assoc, append-nil, map-append, length-map, length-take-le, take_more}
use Rattle.reply_text.specs.Overflows.{row_text}

-- one piece more
pub join-push : (c : ℕ) (pieces : List (List ℕ)) (piece : List ℕ) → 0 < length pieces → join_with_byte c (pieces ++ piece ∷ []) ≡ join_with_byte c pieces ++ (c ∷ piece)
join-push c [] piece h = absurd (omega arith)
join-push c (x ∷ []) piece h = refl
join-push c (x ∷ y ∷ pieces) piece h = ap (λ (rest : List ℕ). x ++ (c ∷ rest)) (join-push c (y ∷ pieces) piece (omega arith)) ∙ sym (append_assoc x (c ∷ join_with_byte c (y ∷ pieces)) (c ∷ piece))

map-take : (row : List ℤ) (j : ℕ) → j < length row → map signed_decimal (take (j + 1) row) ≡ map signed_decimal (take j row) ++ signed_decimal (get_or row j (pos 0)) ∷ []
map-take row j h = ap (map signed_decimal) (take_more row j (pos 0) h) ∙ map-append signed_decimal (take j row) (get_or row j (pos 0) ∷ [])

-- one entry more, behind others
pub row_text-more : (row : List ℤ) (j : ℕ) → 0 < j → j < length row → row_text (take (j + 1) row) ≡ row_text (take j row) ++ (32 ∷ signed_decimal (get_or row j (pos 0)))
row_text-more row j positive h =
    ap (join_with_byte 32) (map-take row j h) ∙
    join-push 32 (map signed_decimal (take j row)) (signed_decimal (get_or row j (pos 0))) (omega (arith, length-map (take j row) signed_decimal, length-take-le j row (omega arith)))

-- the first entry
pub row_text-first : (row : List ℤ) → 0 < length row → row_text (take 1 row) ≡ signed_decimal (get_or row 0 (pos 0))
row_text-first [] h = absurd (omega arith)
row_text-first (z ∷ row) h = refl

pub append_regrouped : (start front entry : List ℕ) → ((start ++ front) ++ (32 ∷ [])) ++ entry ≡ start ++ (front ++ (32 ∷ entry))
append_regrouped start front entry = simp append_assoc

-- what a space and one entry more leave
pub entry_appended : (row : List ℤ) (j : ℕ) (start text spaced new : List ℕ) → 0 < j → j < length row → text ≡ start ++ row_text (take j row) → spaced ≡ text ++ (32 ∷ []) → new ≡ spaced ++ signed_decimal (get_or row j (pos 0)) → new ≡ start ++ row_text (take (j + 1) row)
entry_appended row j start text spaced new positive h e f g =
    g ∙ (ap (λ (t : List ℕ). t ++ signed_decimal (get_or row j (pos 0))) (f ∙ ap (λ (t : List ℕ). t ++ (32 ∷ [])) e) ∙
    (append_regrouped start (row_text (take j row)) (signed_decimal (get_or row j (pos 0))) ∙ ap (λ (t : List ℕ). start ++ t) (sym (row_text-more row j positive h))))

-- what the first entry leaves
pub first_appended : (row : List ℤ) (j : ℕ) (start text new : List ℕ) → j ≤ 0 → j < length row → text ≡ start ++ row_text (take j row) → new ≡ text ++ signed_decimal (get_or row j (pos 0)) → new ≡ start ++ row_text (take (j + 1) row)
first_appended row (suc j) start text new none h e g = absurd (omega arith)
first_appended row zero start text new none h e g =
    g ∙ (ap (λ (t : List ℕ). t ++ signed_decimal (get_or row 0 (pos 0))) (e ∙ append-nil start) ∙ ap (λ (t : List ℕ). start ++ t) (sym (row_text-first row h)))
