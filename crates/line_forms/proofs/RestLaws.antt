-- The fields of what stands behind a command word are its words.
use Rattle.std.proofs.Common.{◌≡◌, ℕ, ◌+◌, ◌-◌, ◌≤◌, ◌⊎◌, if◌then◌else◌, List, [], ◌∷◌, ◌++◌, Bool, true, false, ◌&&◌, zero, suc, Option, Some, None, refl, ap, sym, ◌∙◌, arith, append_assoc, append-nil, subst, inl, inr, length, take, drop, reverse}
use Rattle.std.specs.List.{take_while}
use Rattle.std.proofs.lemmas.Bool.{and_parts}
use Rattle.std.proofs.lemmas.List.{reverse-append, length-reverse, length-append}
use Rattle.std.proofs.Math.Seq.{take-append_seam, drop-append_seam}
use Rattle.grammar.specs.Form.{Form, word, Times, Matches}
use Rattle.grammar.specs.Grammar.{◌·◌, ◌∣◌, symbol, blank, blanks, gap, perhaps, alone, rel, comment}
use Rattle.grammar.specs.Avoids.{avoids}
use Rattle.line_forms.specs.Words.{is_blank, is_in_word, is_before_sign, is_before_comment, begins_with, past_blanks, before_blanks, without_blanks, word_of, behind_word, nth_word, before_comment, from_sign, sign_len, sign_in, behind_sign, sign_of, part_of}
use Rattle.line_forms.specs.Layouts.{Layout, words_form, tail_of, rest_form, layout_form}
use Rattle.line_forms.specs.Fields.{Fields, at, words_by, sign_by, part_by, rest_fields_by, fields_by, fields_in}
use Rattle.line_forms.proofs.WordLemmas.{Each, Stops, take_while-append, drop-take_while-append, word_of-append, behind_word-append}
use Rattle.line_forms.proofs.EdgeLemmas.{eqb-false_of, never_empty, begins_other, ends_other, not_empty, each_by, avoids_signs, before_sign_by, BeginsOther, begins_sound, ends_sound, no_blank_first, word_good, good_word, Each-append, Each-reverse}

abbrev pub all_good : List Form → Bool
all_good [] = true
all_good (f ∷ fs) = word_good f && all_good fs

-- no text of the form is empty, or begins or ends with a blank, or begins with =
abbrev pub part_good : Option Form → Bool
part_good None = true
part_good (Some f) = never_empty f && (begins_other f 32 && (begins_other f 9 && (ends_other f 32 && (ends_other f 9 && begins_other (alone f) 61))))

-- the words of the lines of the layout are words, no colon or relation stands before the part and no # before a comment,
-- and the part has no blanks around it
abbrev pub is_good : Layout → Bool
is_good layout =
    word_good (word layout.command)
    && (all_good layout.words && (avoids_signs (words_form layout.words) && (avoids (words_form layout.words) 35 && (avoids (tail_of layout.relates layout.part) 35 && part_good layout.part))))

pub Each-times : (p : ℕ → Bool) (P : List ℕ → Type 0) → ((u : List ℕ) → P u → Each p u) → (n : ℕ) (w : List ℕ) → Times P n w → Each p w
Each-times p P each zero w e = subst (Each p) (sym e) tt
Each-times p P each (suc n) w (u, v, e, h, more) = subst (Each p) (sym e) (Each-append p u v (each u h) (Each-times p P each n v more))

is_byte : (b c : ℕ) → c ≤ b → b ≤ c → b ≡ c
is_byte b c h k = omega arith

Each-blank : (u : List ℕ) → Matches blank u → Each is_blank u
Each-blank u (inl (b, low, high, e)) = subst (Each is_blank) (sym e) (ap is_blank (is_byte b 32 low high), tt)
Each-blank u (inr (b, low, high, e)) = subst (Each is_blank) (sym e) (ap is_blank (is_byte b 9 low high), tt)

pub Each-blanks : (u : List ℕ) → Matches blanks u → Each is_blank u
Each-blanks u (n, times) = Each-times is_blank (Matches blank) Each-blank n u times

Stops-blank : (u t : List ℕ) → Matches blank u → Stops is_in_word (u ++ t)
Stops-blank u t (inl (b, low, high, e)) = subst (λ (w : List ℕ). Stops is_in_word (w ++ t)) (sym e) (ap is_in_word (is_byte b 32 low high))
Stops-blank u t (inr (b, low, high, e)) = subst (λ (w : List ℕ). Stops is_in_word (w ++ t)) (sym e) (ap is_in_word (is_byte b 9 low high))

Stops-gap : (u t : List ℕ) → Matches gap u → Stops is_in_word (u ++ t)
Stops-gap u t (a, b, e, one, more) =
    subst (λ (w : List ℕ). Stops is_in_word (w ++ t)) (sym e) (subst (Stops is_in_word) (sym (append_assoc a b t)) (Stops-blank a (b ++ t) one))

Stops-blanks : (u t : List ℕ) → Matches blanks u → Stops is_in_word t → Stops is_in_word (u ++ t)
Stops-blanks u t (zero, e) s = subst (λ (w : List ℕ). Stops is_in_word (w ++ t)) (sym e) s
Stops-blanks u t (suc n, (a, b, e, one, more)) s =
    subst (λ (w : List ℕ). Stops is_in_word (w ++ t)) (sym e) (subst (Stops is_in_word) (sym (append_assoc a b t)) (Stops-blank a (b ++ t) one))

Each-gap : (u : List ℕ) → Matches gap u → Each is_blank u
Each-gap u (a, b, e, one, more) = subst (Each is_blank) (sym e) (Each-append is_blank a b (Each-blank a one) (Each-blanks b more))

-- behind the last word: no word, and what stands there ends a word
pub record Ends (t : List ℕ) : Type 0 where
  pub stops : Stops is_in_word t
  pub none : (i : ℕ) → nth_word i t ≡ []

no_word : (b rest : List ℕ) → Each is_blank b → Stops is_blank rest → Stops is_in_word rest → word_of (b ++ rest) ≡ []
no_word b rest h s t = ap (take_while is_in_word) (drop-take_while-append is_blank b rest h s) ∙ take_while-append is_in_word [] rest tt t

no_behind : (b rest : List ℕ) → Each is_blank b → Stops is_blank rest → Stops is_in_word rest → behind_word (b ++ rest) ≡ rest
no_behind b rest h s t = ap (λ u. drop (length u) (past_blanks (b ++ rest))) (no_word b rest h s t) ∙ drop-take_while-append is_blank b rest h s

no_words : (i : ℕ) (b rest : List ℕ) → Each is_blank b → Stops is_blank rest → Stops is_in_word rest → nth_word i (b ++ rest) ≡ []
no_words zero b rest h s t = no_word b rest h s t
no_words (suc i) b rest h s t = ap (nth_word i) (no_behind b rest h s t) ∙ no_words i [] rest tt s t

ends_at : (w b rest : List ℕ) → w ≡ b ++ rest → Matches blanks b → Stops is_blank rest → Stops is_in_word rest → Ends w
ends_at w b rest e m s t = record {
  stops = subst (Stops is_in_word) (sym e) (Stops-blanks b rest m t);
  none = λ i. ap (nth_word i) e ∙ no_words i b rest (Each-blanks b m) s t;
}

-- a text that is empty or begins with #
begins_comment : (p : ℕ → Bool) (c : List ℕ) → p 35 ≡ false → Matches (perhaps comment) c → Stops p c
begins_comment p c h (inl e) = subst (Stops p) (sym e) tt
begins_comment p c h (inr (u, v, e, (b, low, high, eb), any)) = subst (Stops p) (sym (e ∙ ap (λ x. x ++ v) eb)) (ap p (is_byte b 35 low high) ∙ h)

-- a colon or a relation: it ends a word, and its length is told by its bytes and that no = stands behind it
pub record IsSign (s : List ℕ) : Type 0 where
  pub no_blank : (t : List ℕ) → Stops is_blank (s ++ t)
  pub no_word : (t : List ℕ) → Stops is_in_word (s ++ t)
  pub found : (t : List ℕ) → Stops is_before_sign (s ++ t)
  pub long : (t : List ℕ) → begins_with 61 t ≡ false → sign_len (s ++ t) ≡ length s

if_not_next : (b : Bool) → b ≡ false → ◌≡◌ {A = ℕ} (if b then 2 else 1) 1
if_not_next b e = rw e

one_sign : (b : ℕ) → (b ≡ 58) ⊎ (b ≡ 61) → IsSign (b ∷ [])
one_sign b (inl e) = subst (λ (x : ℕ). IsSign (x ∷ [])) (sym e) (record { no_blank = λ t. refl; no_word = λ t. refl; found = λ t. refl; long = λ t h. refl })
one_sign b (inr e) = subst (λ (x : ℕ). IsSign (x ∷ [])) (sym e) (record { no_blank = λ t. refl; no_word = λ t. refl; found = λ t. refl; long = λ t h. refl })

strict_sign : (b : ℕ) → (b ≡ 60) ⊎ (b ≡ 62) → IsSign (b ∷ [])
strict_sign b (inl e) = subst (λ (x : ℕ). IsSign (x ∷ [])) (sym e) (record { no_blank = λ t. refl; no_word = λ t. refl; found = λ t. refl; long = λ t h. if_not_next (begins_with 61 t) h })
strict_sign b (inr e) = subst (λ (x : ℕ). IsSign (x ∷ [])) (sym e) (record { no_blank = λ t. refl; no_word = λ t. refl; found = λ t. refl; long = λ t h. if_not_next (begins_with 61 t) h })

at_least_sign : IsSign (62 ∷ 61 ∷ [])
at_least_sign = record { no_blank = λ t. refl; no_word = λ t. refl; found = λ t. refl; long = λ t h. refl }

at_most_sign : IsSign (60 ∷ 61 ∷ [])
at_most_sign = record { no_blank = λ t. refl; no_word = λ t. refl; found = λ t. refl; long = λ t h. refl }

-- the sign of the cases is one
colon_sign : (s : List ℕ) → Matches (symbol 58) s → IsSign s
colon_sign s (b, low, high, e) = subst IsSign (sym e) (one_sign b (inl (is_byte b 58 low high)))

related_sign : (s : List ℕ) → Matches (symbol 58 ∣ rel) s → IsSign s
related_sign s (inl m) = colon_sign s m
related_sign s (inr (inl (b, low, high, e))) = subst IsSign (sym e) (one_sign b (inr (is_byte b 61 low high)))
related_sign s (inr (inr (inl e))) = subst IsSign (sym e) at_least_sign
related_sign s (inr (inr (inr (inl e)))) = subst IsSign (sym e) at_most_sign
related_sign s (inr (inr (inr (inr (inl (b, low, high, e)))))) = subst IsSign (sym e) (strict_sign b (inr (is_byte b 62 low high)))
related_sign s (inr (inr (inr (inr (inr (b, low, high, e)))))) = subst IsSign (sym e) (strict_sign b (inl (is_byte b 60 low high)))

append_at : (t b x c s part : List ℕ) → t ≡ b ++ x → x ≡ s ++ part → t ++ c ≡ b ++ (s ++ (part ++ c))
append_at t b x c s part e d = rw (e, d) (simp append_assoc)

sign_ends : (t b x c s part : List ℕ) → t ≡ b ++ x → Matches blanks b → x ≡ s ++ part → IsSign s → Ends (t ++ c)
sign_ends t b x c s part e before d is = ends_at (t ++ c) b (s ++ (part ++ c)) (append_at t b x c s part e d) before (is.no_blank (part ++ c)) (is.no_word (part ++ c))

tail_ends : (relates : Bool) (o : Option Form) (t c : List ℕ) → Matches (tail_of relates o) t → Matches (perhaps comment) c → Ends (t ++ c)
tail_ends true None t c m n = ends_at (t ++ c) t c refl m (begins_comment is_blank c refl n) (begins_comment is_in_word c refl n)
tail_ends false None t c m n = ends_at (t ++ c) t c refl m (begins_comment is_blank c refl n) (begins_comment is_in_word c refl n)
tail_ends true (Some f) t c (b, x, e, before, (s, part, d, is_sign, is)) n = sign_ends t b x c s part e before d (related_sign s is_sign)
tail_ends false (Some f) t c (b, x, e, before, (s, part, d, is_sign, is)) n = sign_ends t b x c s part e before d (colon_sign s is_sign)

words_stop : (fs : List Form) (w t : List ℕ) → Matches (words_form fs) w → Stops is_in_word t → Stops is_in_word (w ++ t)
words_stop [] w t m s = subst (λ (x : List ℕ). Stops is_in_word (x ++ t)) (sym m) s
words_stop (f ∷ fs) w t (g, r, e, between, others) s =
    subst (λ (x : List ℕ). Stops is_in_word (x ++ t)) (sym e) (subst (Stops is_in_word) (sym (append_assoc g r t)) (Stops-gap g (r ++ t) between))

regroup : (w g r u v t : List ℕ) → w ≡ g ++ r → r ≡ u ++ v → w ++ t ≡ g ++ (u ++ (v ++ t))
regroup w g r u v t e d = rw (e, d) (simp append_assoc)

-- the words of the text are those of the cases
words_law : (fs : List Form) → all_good fs ≡ true → (w t : List ℕ) (m : Matches (words_form fs) w) → Ends t → (i : ℕ) → nth_word i (w ++ t) ≡ at (words_by fs w m) i
words_law [] good w t m ends i = subst (λ (x : List ℕ). nth_word i (x ++ t) ≡ []) (sym m) (ends.none i)
words_law (f ∷ fs) good w t (g, r, e, between, (u, v, d, is, others)) ends zero =
    let p = and_parts (word_good f) (all_good fs) good in
    ap word_of (regroup w g r u v t e d) ∙ word_of-append g u (v ++ t) (Each-gap g between) (good_word f u p.0 is) (words_stop fs v t others ends.stops)
words_law (f ∷ fs) good w t (g, r, e, between, (u, v, d, is, others)) ends (suc i) =
    let p = and_parts (word_good f) (all_good fs) good in
    ap (λ x. nth_word i (behind_word x)) (regroup w g r u v t e d)
    ∙ (ap (nth_word i) (behind_word-append g u (v ++ t) (Each-gap g between) (good_word f u p.0 is) (words_stop fs v t others ends.stops))
    ∙ words_law fs p.1 v t others ends i)

-- the first colon or relation of a text, and what stands behind it
pub record IsCutAt (text s part : List ℕ) : Type 0 where
  pub sign : sign_in text ≡ s
  pub behind : behind_sign text ≡ part

no_sign : (text : List ℕ) → Each is_before_sign text → IsCutAt text [] []
no_sign text h =
    let e : from_sign text ≡ [] = ap from_sign (sym (append-nil text)) ∙ drop-take_while-append is_before_sign text [] h tt in
    record { sign = ap (λ u. take (sign_len u) u) e; behind = ap (λ u. drop (sign_len u) u) e }

at_sign : (front s part : List ℕ) → Each is_before_sign front → IsSign s → begins_with 61 part ≡ false → IsCutAt (front ++ (s ++ part)) s part
at_sign front s part h is other =
    let e : from_sign (front ++ (s ++ part)) ≡ s ++ part = drop-take_while-append is_before_sign front (s ++ part) h (is.found part) in
    record {
      sign = ap (λ u. take (sign_len u) u) e ∙ (ap (λ n. take n (s ++ part)) (is.long part other) ∙ take-append_seam s part);
      behind = ap (λ u. drop (sign_len u) u) e ∙ (ap (λ n. drop n (s ++ part)) (is.long part other) ∙ drop-append_seam s part);
    }

not_first : (w : List ℕ) → BeginsOther 61 w → begins_with 61 w ≡ false
not_first [] h = refl
not_first (b ∷ w) h = eqb-false_of b 61 (λ e. h w (ap (λ (c : ℕ). c ∷ w) e))

less : (n k m : ℕ) → n ≡ k + m → n - m ≡ k
less n k m e = omega arith

before_blanks-append : (u d : List ℕ) → Each is_blank d → Stops is_blank (reverse u) → before_blanks (u ++ d) ≡ u
before_blanks-append u d h s =
    let e : take_while is_blank (reverse (u ++ d)) ≡ reverse d = ap (take_while is_blank) (reverse-append u d) ∙ take_while-append is_blank (reverse d) (reverse u) (Each-reverse is_blank d h) s in
    let n : length (take_while is_blank (reverse (u ++ d))) ≡ length d = ap length e ∙ length-reverse d in
    let m : length (u ++ d) - length (take_while is_blank (reverse (u ++ d))) ≡ length u = ap (λ k. length (u ++ d) - k) n ∙ less (length (u ++ d)) (length u) (length d) (length-append u d) in
    ap (λ k. take k (u ++ d)) m ∙ take-append_seam u d

no_blank_before : (f : Form) (u d : List ℕ) → never_empty f ≡ true → Matches f u → Stops is_blank u → Stops is_blank (u ++ d)
no_blank_before f [] d e m s = absurd (not_empty f e m)
no_blank_before f (b ∷ u) d e m s = s

-- a text of the form with blanks around it
around : (f : Form) → part_good (Some f) ≡ true → (c u d : List ℕ) → Matches blanks c → Matches f u → Matches blanks d → without_blanks (c ++ (u ++ d)) ≡ u
around f good c u d before is behind =
    let p = and_parts (never_empty f) (begins_other f 32 && (begins_other f 9 && (ends_other f 32 && (ends_other f 9 && begins_other (alone f) 61)))) good in
    let q = and_parts (begins_other f 32) (begins_other f 9 && (ends_other f 32 && (ends_other f 9 && begins_other (alone f) 61))) p.1 in
    let r = and_parts (begins_other f 9) (ends_other f 32 && (ends_other f 9 && begins_other (alone f) 61)) q.1 in
    let s = and_parts (ends_other f 32) (ends_other f 9 && begins_other (alone f) 61) r.1 in
    let t = and_parts (ends_other f 9) (begins_other (alone f) 61) s.1 in
    let first : Stops is_blank u = no_blank_first u (begins_sound f 32 u q.0 is) (begins_sound f 9 u r.0 is) in
    let last : Stops is_blank (reverse u) = no_blank_first (reverse u) (ends_sound f 32 u s.0 is) (ends_sound f 9 u t.0 is) in
    ap before_blanks (drop-take_while-append is_blank c (u ++ d) (Each-blanks c before) (no_blank_before f u d p.0 is first))
    ∙ before_blanks-append u d (Each-blanks d behind) last

-- no text of the part begins with =
no_equals : (f : Form) → part_good (Some f) ≡ true → (w : List ℕ) → Matches (alone f) w → begins_with 61 w ≡ false
no_equals f good w m =
    let p = and_parts (never_empty f) (begins_other f 32 && (begins_other f 9 && (ends_other f 32 && (ends_other f 9 && begins_other (alone f) 61)))) good in
    let q = and_parts (begins_other f 32) (begins_other f 9 && (ends_other f 32 && (ends_other f 9 && begins_other (alone f) 61))) p.1 in
    let r = and_parts (begins_other f 9) (ends_other f 32 && (ends_other f 9 && begins_other (alone f) 61)) q.1 in
    let s = and_parts (ends_other f 32) (ends_other f 9 && begins_other (alone f) 61) r.1 in
    let t = and_parts (ends_other f 9) (begins_other (alone f) 61) s.1 in
    not_first w (begins_sound (alone f) 61 w t.1 m)

part_at : (ws t b x s part : List ℕ) → t ≡ b ++ x → x ≡ s ++ part → ws ++ t ≡ (ws ++ b) ++ (s ++ part)
part_at ws t b x s part e d = rw (e, d) (simp append_assoc)

-- the sign and the part of a text
pub record IsTail (text s u : List ℕ) : Type 0 where
  pub sign : sign_in text ≡ s
  pub part : without_blanks (behind_sign text) ≡ u

tail_at : (f : Form) → part_good (Some f) ≡ true → (ws t b x s part c y u d : List ℕ) → Each is_before_sign ws → t ≡ b ++ x → Matches blanks b → x ≡ s ++ part → IsSign s → Matches (alone f) part →
    part ≡ c ++ y → y ≡ u ++ d → Matches blanks c → Matches f u → Matches blanks d → IsTail (ws ++ t) s u
tail_at f good ws t b x s part c y u d h e before e2 is whole e3 e4 blanks1 m blanks2 =
    let front : Each is_before_sign (ws ++ b) = Each-append is_before_sign ws b h (before_sign_by blanks b refl before) in
    let cut : IsCutAt (ws ++ t) s part = subst (λ (z : List ℕ). IsCutAt z s part) (sym (part_at ws t b x s part e e2)) (at_sign (ws ++ b) s part front is (no_equals f good part whole)) in
    record { sign = cut.sign; part = ap without_blanks cut.behind ∙ (ap without_blanks (e3 ∙ ap (λ z. c ++ z) e4) ∙ around f good c u d blanks1 m blanks2) }

bare : (ws t : List ℕ) → Each is_before_sign ws → Matches blanks t → IsTail (ws ++ t) [] []
bare ws t h m =
    let cut : IsCutAt (ws ++ t) [] [] = no_sign (ws ++ t) (Each-append is_before_sign ws t h (before_sign_by blanks t refl m)) in
    record { sign = cut.sign; part = ap without_blanks cut.behind }

-- the sign and the part of a text in which no colon or relation stands before it
tail_law : (relates : Bool) (o : Option Form) → part_good o ≡ true → (ws t : List ℕ) → Each is_before_sign ws → (m : Matches (tail_of relates o) t) → IsTail (ws ++ t) (sign_by relates o t m) (part_by relates o t m)
tail_law true None good ws t h m = bare ws t h m
tail_law false None good ws t h m = bare ws t h m
tail_law true (Some f) good ws t h (b, x, e, before, (s, part, e2, is_sign, (c, y, e3, blanks1, (u, d, e4, is, blanks2)))) =
    tail_at f good ws t b x s part c y u d h e before e2 (related_sign s is_sign) (c, y, e3, blanks1, (u, d, e4, is, blanks2)) e3 e4 blanks1 is blanks2
tail_law false (Some f) good ws t h (b, x, e, before, (s, part, e2, is_sign, (c, y, e3, blanks1, (u, d, e4, is, blanks2)))) =
    tail_at f good ws t b x s part c y u d h e before e2 (colon_sign s is_sign) (c, y, e3, blanks1, (u, d, e4, is, blanks2)) e3 e4 blanks1 is blanks2

abbrev six : List ℕ → List ℕ → List ℕ → List ℕ → List ℕ → List ℕ → Fields
six a b c d s p = record { first = a; second = b; third = c; fourth = d; sign = s; part = p }

same_fields : (a b c d s p a2 b2 c2 d2 s2 p2 : List ℕ) → a ≡ a2 → b ≡ b2 → c ≡ c2 → d ≡ d2 → s ≡ s2 → p ≡ p2 → six a b c d s p ≡ six a2 b2 c2 d2 s2 p2
same_fields a b c d s p a2 b2 c2 d2 s2 p2 e f g h i j = rw (e, f, g, h, i, j)

rest_is : (w ws x t c : List ℕ) → w ≡ ws ++ x → x ≡ t ++ c → w ≡ (ws ++ t) ++ c
rest_is w ws x t c e d = rw (e, d) (simp append_assoc)

-- the tests of a layout, one by one
pub record IsGood (layout : Layout) : Type 0 where
  pub command : word_good (word layout.command) ≡ true
  pub words : all_good layout.words ≡ true
  pub no_sign : avoids_signs (words_form layout.words) ≡ true
  pub no_comment : avoids (words_form layout.words) 35 ≡ true
  pub no_comment_behind : avoids (tail_of layout.relates layout.part) 35 ≡ true
  pub part : part_good layout.part ≡ true

pub good : (layout : Layout) → is_good layout ≡ true → IsGood layout
good layout e =
    let p = and_parts (word_good (word layout.command)) (all_good layout.words && (avoids_signs (words_form layout.words) && (avoids (words_form layout.words) 35 && (avoids (tail_of layout.relates layout.part) 35 && part_good layout.part)))) e in
    let q = and_parts (all_good layout.words) (avoids_signs (words_form layout.words) && (avoids (words_form layout.words) 35 && (avoids (tail_of layout.relates layout.part) 35 && part_good layout.part))) p.1 in
    let r = and_parts (avoids_signs (words_form layout.words)) (avoids (words_form layout.words) 35 && (avoids (tail_of layout.relates layout.part) 35 && part_good layout.part)) q.1 in
    let s = and_parts (avoids (words_form layout.words) 35) (avoids (tail_of layout.relates layout.part) 35 && part_good layout.part) r.1 in
    let t = and_parts (avoids (tail_of layout.relates layout.part) 35) (part_good layout.part) s.1 in
    record { command = p.0; words = q.0; no_sign = r.0; no_comment = s.0; no_comment_behind = t.0; part = t.1 }

-- the fields of what stands behind a command word are its words
pub rest_law : (layout : Layout) → IsGood layout → (w : List ℕ) (m : Matches (rest_form layout) w) → rest_fields_by layout w m ≡ fields_in w
rest_law layout is w (ws, x, e, words, (t, c, e2, tail, commented)) =
    let nth : (i : ℕ) → at (words_by layout.words ws words) i ≡ nth_word i w =
    λ i. sym (ap (nth_word i) (e ∙ ap (λ z. ws ++ z) e2) ∙ words_law layout.words is.words ws (t ++ c) words (tail_ends layout.relates layout.part t c tail commented) i) in
    let each : Each is_before_comment (ws ++ t) =
    Each-append is_before_comment ws t (each_by (words_form layout.words) ws 35 is.no_comment words) (each_by (tail_of layout.relates layout.part) t 35 is.no_comment_behind tail) in
    let cut : before_comment w ≡ ws ++ t = ap before_comment (rest_is w ws x t c e e2) ∙ take_while-append is_before_comment (ws ++ t) c each (begins_comment is_before_comment c refl commented) in
    let law : IsTail (ws ++ t) (sign_by layout.relates layout.part t tail) (part_by layout.relates layout.part t tail) =
    tail_law layout.relates layout.part is.part ws t (before_sign_by (words_form layout.words) ws is.no_sign words) tail in
    let sign : sign_by layout.relates layout.part t tail ≡ sign_of w = sym (ap sign_in cut ∙ law.sign) in
    let part : part_by layout.relates layout.part t tail ≡ part_of w = sym (ap (λ z. without_blanks (behind_sign z)) cut ∙ law.part) in
    same_fields (at (words_by layout.words ws words) 0) (at (words_by layout.words ws words) 1) (at (words_by layout.words ws words) 2) (at (words_by layout.words ws words) 3) (sign_by layout.relates layout.part t tail) (part_by layout.relates layout.part t tail)
    (nth_word 0 w) (nth_word 1 w) (nth_word 2 w) (nth_word 3 w) (sign_of w) (part_of w)
    (nth 0) (nth 1) (nth 2) (nth 3) sign part

-- what stands behind a command word ends the word
pub rest_stops : (layout : Layout) (w : List ℕ) → Matches (rest_form layout) w → Stops is_in_word w
rest_stops layout w (ws, x, e, words, (t, c, e2, tail, commented)) =
    let ends : Ends (t ++ c) = tail_ends layout.relates layout.part t c tail commented in
    subst (Stops is_in_word) (sym (e ∙ ap (λ z. ws ++ z) e2)) (words_stop layout.words ws (t ++ c) words ends.stops)

-- a line of the layout: its first word, and what stands behind it
pub record IsSplit (layout : Layout) (w rest : List ℕ) : Type 0 where
  pub first : word_of w ≡ layout.command
  pub behind : behind_word w ≡ rest

pub split_law : (layout : Layout) → IsGood layout → (w b x command rest : List ℕ) → w ≡ b ++ x → x ≡ command ++ rest → Matches blanks b → Matches (word layout.command) command → Matches (rest_form layout) rest → IsSplit layout w rest
split_law layout is w b x command rest e e2 before named behind =
    let whole : w ≡ b ++ (command ++ rest) = e ∙ ap (λ z. b ++ z) e2 in
    record {
      first = ap word_of whole ∙ (word_of-append b command rest (Each-blanks b before) (good_word (word layout.command) command is.command named) (rest_stops layout rest behind) ∙ named);
      behind = ap behind_word whole ∙ behind_word-append b command rest (Each-blanks b before) (good_word (word layout.command) command is.command named) (rest_stops layout rest behind);
    }

-- the fields of a line are its words
pub fields_law : (layout : Layout) → IsGood layout → (w : List ℕ) (m : Matches (layout_form layout) w) → fields_by layout w m ≡ fields_in (behind_word w)
fields_law layout is w (b, x, e, before, (command, rest, e2, named, behind)) =
    rest_law layout is rest behind ∙ ap fields_in (sym (split_law layout is w b x command rest e e2 before named behind).behind)

-- the first word of a line is its command word
pub first_law : (layout : Layout) → IsGood layout → (w : List ℕ) → Matches (layout_form layout) w → word_of w ≡ layout.command
first_law layout is w (b, x, e, before, (command, rest, e2, named, behind)) = (split_law layout is w b x command rest e e2 before named behind).first

-- a blank line or a comment has no word
pub nothing_law : (w : List ℕ) → Matches (blanks · perhaps comment) w → word_of w ≡ []
nothing_law w (b, c, e, before, commented) =
    ap word_of e ∙ no_word b c (Each-blanks b before) (begins_comment is_blank c refl commented) (begins_comment is_in_word c refl commented)
