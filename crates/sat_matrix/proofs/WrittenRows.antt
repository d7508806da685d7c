-- The last row, which is written over.
use Rattle.std.proofs.Common.{◌≡◌, ℕ, Bool, false, List, [], ◌∷◌, ◌++◌, length, replicate, set, ap, ◌∙◌}
use Rattle.std.proofs.lemmas.List.{length-replicate}
use Rattle.sat_matrix.specs.Tables.{bits_of}
use Rattle.flat_rows.proofs.LastRows.{set_last, last_row}

pub last_written : (old rows new : List (List Bool)) (x y z : List Bool) (n : ℕ) → rows ≡ old ++ x ∷ [] → n ≡ length old → new ≡ set rows n y → y ≡ z → new ≡ old ++ z ∷ []
last_written old rows new x y z n is at wrote same =
    wrote ∙ ap (λ (rs : List (List Bool)). set rs n y) is ∙ ap (λ (k : ℕ). set (old ++ x ∷ []) k y) at ∙ set_last old x y ∙ ap (λ (r : List Bool). old ++ r ∷ []) same

-- a row of false that was appended is as wide
pub last_wide : (old rows : List (List Bool)) (columns n : ℕ) → rows ≡ old ++ replicate columns false ∷ [] → n ≡ length old → length (bits_of rows n) ≡ columns
last_wide old rows columns n is at = ap length (last_row old rows (replicate columns false) n is at) ∙ length-replicate columns false
