-- Words of texts that are put together.
use Rattle.std.proofs.Common.{◌≡◌, ℕ, ◌+◌, List, [], ◌∷◌, ◌++◌, Bool, true, false, not, ◌||◌, length, take, drop, refl, ap, sym, ◌∙◌, cond, arith, eqb, subst}
use Rattle.std.specs.List.{prefix_len, take_while}
use Rattle.std.proofs.Math.Seq.{take-append_seam, drop-append_seam}
use Rattle.line_forms.specs.Words.{is_blank, is_sign, is_in_word, past_blanks, word_of, behind_word}

-- each byte of the text passes the test
abbrev pub Each : (ℕ → Bool) → List ℕ → Type 0
Each p [] = Unit {0}
Each p (b ∷ w) = (p b ≡ true) × Each p w

-- the text is empty, or its first byte fails the test
abbrev pub Stops : (ℕ → Bool) → List ℕ → Type 0
Stops p [] = Unit {0}
Stops p (b ∷ w) = p b ≡ false

-- a text that isn't empty and has no blank, no colon and no relation
pub record IsWord (w : List ℕ) : Type 0 where
  pub first : ℕ
  pub others : List ℕ
  pub is : w ≡ first ∷ others
  pub each : Each is_in_word w

cond_true : (b : Bool) (m n k : ℕ) → b ≡ true → m ≡ k → cond b (1 + m) n ≡ 1 + k
cond_true b m n k e h = rw (e, h)

cond_false : (b : Bool) (m n : ℕ) → b ≡ false → cond b m n ≡ n
cond_false b m n e = rw e

pub prefix_len-append : (p : ℕ → Bool) (u v : List ℕ) → Each p u → Stops p v → prefix_len p (u ++ v) ≡ length u
prefix_len-append p [] [] h s = refl
prefix_len-append p [] (b ∷ v) h s = cond_false (p b) (1 + prefix_len p v) 0 s
prefix_len-append p (a ∷ u) v h s = cond_true (p a) (prefix_len p (u ++ v)) 0 (length u) h.0 (prefix_len-append p u v h.1 s) ∙ omega arith

pub take_while-append : (p : ℕ → Bool) (u v : List ℕ) → Each p u → Stops p v → take_while p (u ++ v) ≡ u
take_while-append p u v h s = ap (λ n. take n (u ++ v)) (prefix_len-append p u v h s) ∙ take-append_seam u v

pub drop-take_while-append : (p : ℕ → Bool) (u v : List ℕ) → Each p u → Stops p v → drop (length (take_while p (u ++ v))) (u ++ v) ≡ v
drop-take_while-append p u v h s = ap (λ t. drop (length t) (u ++ v)) (take_while-append p u v h s) ∙ drop-append_seam u v

no_blank : (p q r s : Bool) → not (((p || q) || r) || s) ≡ true → (p || q) ≡ false
no_blank true q r s h = cc
no_blank false true r s h = cc
no_blank false false r s h = refl

starts_word : (b : ℕ) → is_in_word b ≡ true → is_blank b ≡ false
starts_word b h = no_blank (eqb b 32) (eqb b 9) (eqb b 35) (is_sign b) h

word_stops_blanks : (c r : List ℕ) → IsWord c → Stops is_blank (c ++ r)
word_stops_blanks c r w =
    let e : Each is_in_word (w.first ∷ w.others) = subst (Each is_in_word) w.is w.each in
    subst (λ (u : List ℕ). Stops is_blank (u ++ r)) (sym w.is) (starts_word w.first e.0)

pub past_blanks-append : (b c r : List ℕ) → Each is_blank b → IsWord c → past_blanks (b ++ (c ++ r)) ≡ c ++ r
past_blanks-append b c r h w = drop-take_while-append is_blank b (c ++ r) h (word_stops_blanks c r w)

-- blanks, a word and what ends it
pub word_of-append : (b c r : List ℕ) → Each is_blank b → IsWord c → Stops is_in_word r → word_of (b ++ (c ++ r)) ≡ c
word_of-append b c r h w s = ap (take_while is_in_word) (past_blanks-append b c r h w) ∙ take_while-append is_in_word c r w.each s

pub behind_word-append : (b c r : List ℕ) → Each is_blank b → IsWord c → Stops is_in_word r → behind_word (b ++ (c ++ r)) ≡ r
behind_word-append b c r h w s =
    ap (λ t. drop (length (take_while is_in_word t)) t) (past_blanks-append b c r h w) ∙ drop-take_while-append is_in_word c r w.each s
