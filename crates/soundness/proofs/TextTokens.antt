-- What forms with blanks between are as tokens.
use Rattle.std.proofs.Common.{◌≡◌, ℕ, ◌≤◌, ◌<◌, List, [], ◌∷◌, ◌++◌, zero, suc, length, refl, ap, sym, ◌∙◌, subst, arith, inl, inr, append_assoc, append-nil}
use Rattle.std.specs.Prelude.{All}
use Rattle.std.proofs.lemmas.List.{length-append}
use Rattle.std.proofs.lemmas.List.Elements.{All-nil, All-cons, All-append}
use Rattle.grammar.specs.Form.{Matches, Times}
use Rattle.grammar.specs.Grammar.{symbol, blank, blanks, gap}
use Rattle.soundness.specs.TextsNumbers.{IsBlank, AreBlanks, Tokens, AreTokens}

pub no_blanks : AreBlanks []
no_blanks = All-nil IsBlank

pub byte_is : (b c : ℕ) → c ≤ b → b ≤ c → b ≡ c
byte_is b c h k = omega arith

-- the text of one byte
pub symbol_is : (c : ℕ) (w : List ℕ) → Matches (symbol c) w → w ≡ c ∷ []
symbol_is c w (b, low, high, e) = e ∙ ap (λ (x : ℕ). x ∷ []) (byte_is b c low high)

blank_is : (w : List ℕ) → Matches blank w → AreBlanks w
blank_is w (inl m) = subst AreBlanks (sym (symbol_is 32 w m)) (All-cons IsBlank 32 [] (inl refl) no_blanks)
blank_is w (inr m) = subst AreBlanks (sym (symbol_is 9 w m)) (All-cons IsBlank 9 [] (inr refl) no_blanks)

-- pieces that all have a property of their bytes
pub all_times : (P : ℕ → Type 0) (Q : List ℕ → Type 0) → ((u : List ℕ) → Q u → All P u) → (n : ℕ) (w : List ℕ) → Times Q n w → All P w
all_times P Q each zero w e = subst (All P) (sym e) (All-nil P)
all_times P Q each (suc n) w (u, v, e, h, more) = subst (All P) (sym e) (All-append P u v (each u h) (all_times P Q each n v more))

pub blanks_are : (w : List ℕ) → Matches blanks w → AreBlanks w
blanks_are w (n, times) = all_times IsBlank (Matches blank) blank_is n w times

pub blank_length : (w : List ℕ) → Matches blank w → 0 < length w
blank_length w (inl m) = subst (λ (x : List ℕ). 0 < length x) (sym (symbol_is 32 w m)) (omega arith)
blank_length w (inr m) = subst (λ (x : List ℕ). 0 < length x) (sym (symbol_is 9 w m)) (omega arith)

-- one or more blanks
pub gap_is : (w : List ℕ) → Matches gap w → AreBlanks w × (0 < length w)
gap_is w (u, v, e, one, more) = (
  subst AreBlanks (sym e) (All-append IsBlank u v (blank_is u one) (blanks_are v more)),
  subst (λ (x : List ℕ). 0 < length x) (sym e) (omega (arith, length-append u v, blank_length u one)),
)

-- one token
pub token : (w : List ℕ) → AreTokens (w ∷ []) w
token w = ([], [], sym (append-nil w), no_blanks, no_blanks)

pub token_is : (w t : List ℕ) → w ≡ t → AreTokens (t ∷ []) w
token_is w t e = subst (AreTokens (t ∷ [])) (sym e) (token t)

-- blanks before tokens
pub blanks_before : (ts : Tokens) (b w : List ℕ) → AreBlanks b → AreTokens ts w → AreTokens ts (b ++ w)
blanks_before [] b w h k = All-append IsBlank b w h k
blanks_before (t ∷ ts) b w h (c, rest, e, k, more) =
    (b ++ c, rest, ap (λ (x : List ℕ). b ++ x) e ∙ (sym (append_assoc b (c ++ t) rest) ∙ ap (λ (x : List ℕ). x ++ rest) (sym (append_assoc b c t))), All-append IsBlank b c h k, more)

-- tokens behind tokens
pub tokens_append : (ts us : Tokens) (w v : List ℕ) → AreTokens ts w → AreTokens us v → AreTokens (ts ++ us) (w ++ v)
tokens_append [] us w v h k = blanks_before us w v h k
tokens_append (t ∷ ts) us w v (b, rest, e, h, more) k =
    (b, rest ++ v, ap (λ (x : List ℕ). x ++ v) e ∙ append_assoc (b ++ t) rest v, h, tokens_append ts us rest v more k)

pub tokens_of : (ts us : Tokens) (w u v : List ℕ) → w ≡ u ++ v → AreTokens ts u → AreTokens us v → AreTokens (ts ++ us) w
tokens_of ts us w u v e h k = subst (AreTokens (ts ++ us)) (sym e) (tokens_append ts us u v h k)

-- blanks, and tokens behind them
pub behind_blanks : (ts : Tokens) (w b v : List ℕ) → w ≡ b ++ v → Matches blanks b → AreTokens ts v → AreTokens ts w
behind_blanks ts w b v e m h = subst (AreTokens ts) (sym e) (blanks_before ts b v (blanks_are b m) h)

-- a token, and tokens behind it
pub token_before : (t : List ℕ) (ts : Tokens) (w u v : List ℕ) → w ≡ u ++ v → u ≡ t → AreTokens ts v → AreTokens (t ∷ ts) w
token_before t ts w u v e is h = tokens_of (t ∷ []) ts w u v e (token_is u t is) h

-- tokens, and a token behind them
pub token_behind : (ts : Tokens) (t w u v : List ℕ) → w ≡ u ++ v → AreTokens ts u → v ≡ t → AreTokens (ts ++ t ∷ []) w
token_behind ts t w u v e h is = tokens_of ts (t ∷ []) w u v e h (token_is v t is)

-- what a text says with blanks around it
pub alone_tokens : (ts : Tokens) (w b r x d : List ℕ) → w ≡ b ++ r → Matches blanks b → r ≡ x ++ d → Matches blanks d → AreTokens ts x → AreTokens ts w
alone_tokens ts w b r x d e before f behind h =
    behind_blanks ts w b r e before (subst (λ (us : Tokens). AreTokens us r) (append-nil ts) (tokens_of ts [] r x d f h (blanks_are d behind)))
