-- Comparing words with one word.
use Rattle.std.proofs.Common.{◌≡◌, ℕ, List, [], ◌∷◌, length, ap, sym, ◌∙◌, arith, Bool}
use Rattle.std.specs.Prelude.{slice_index_or}
use Rattle.std.specs.Bool.{Decides}

head_is : (w v : List ℕ) (ws vs : List (List ℕ)) → (w ∷ ws) ≡ (v ∷ vs) → w ≡ v
head_is w v ws vs e = cc

-- of one word, a test of that word tests the words
pub only_word : (only : List ℕ) (words : List (List ℕ)) (word : List ℕ) (r : Bool) → length words ≡ 1 → word ≡ slice_index_or words 0 [] → Decides r (word ≡ only) → Decides r (words ≡ only ∷ [])
only_word only [] word r h e d = absurd (omega arith)
only_word only (w ∷ []) word r h e d =
    (λ t. ap (λ (x : List ℕ). x ∷ []) (sym e ∙ d.0 t), λ q. d.1 (e ∙ head_is w only [] [] q))
only_word only (w ∷ v ∷ ws) word r h e d = absurd (omega arith)
