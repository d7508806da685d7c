-- How the texts of a form begin and end.
use Rattle.std.proofs.Common.{◌≡◌, ◌≢◌, ℕ, List, [], ◌∷◌, ◌++◌, Bool, true, false, not, ◌&&◌, ◌||◌, zero, suc, refl, ap, sym, ◌∙◌, arith, eqb, subst, inl, inr, reverse}
use Rattle.std.specs.Prelude.{Contains}
use Rattle.std.proofs.lemmas.Bool.{and_parts, eq-eqb}
use Rattle.std.proofs.lemmas.List.{reverse-append, reverse-reverse}
use Rattle.std.proofs.lemmas.Bool.Decides.{eqb_tells}
use Rattle.grammar.specs.Form.{Form, word, byte, seq, alt, many, upto, Times, Matches}
use Rattle.grammar.specs.Avoids.{avoids}
use Rattle.grammar.proofs.AvoidedByte.{avoids_sound, or_cases}
use Rattle.line_forms.specs.Words.{is_blank, is_sign, is_in_word, is_before_sign}
use Rattle.line_forms.proofs.WordLemmas.{Each, Stops, IsWord}

-- no text of the form is empty
abbrev pub never_empty : Form → Bool
never_empty (word []) = false
never_empty (word (c ∷ cs)) = true
never_empty (byte low high) = true
never_empty (seq f g) = never_empty f || never_empty g
never_empty (alt f g) = never_empty f && never_empty g
never_empty (many f) = false
never_empty (upto k f) = false

-- no text of the form begins with the byte
abbrev pub begins_other : Form → ℕ → Bool
begins_other (word cs) b = avoids (word cs) b
begins_other (byte low high) b = avoids (byte low high) b
begins_other (seq f g) b = begins_other f b && (never_empty f || begins_other g b)
begins_other (alt f g) b = begins_other f b && begins_other g b
begins_other (many f) b = begins_other f b
begins_other (upto k f) b = begins_other f b

-- no text of the form ends with the byte
abbrev pub ends_other : Form → ℕ → Bool
ends_other (word cs) b = avoids (word cs) b
ends_other (byte low high) b = avoids (byte low high) b
ends_other (seq f g) b = ends_other g b && (never_empty g || ends_other f b)
ends_other (alt f g) b = ends_other f b && ends_other g b
ends_other (many f) b = ends_other f b
ends_other (upto k f) b = ends_other f b

pub eqb-false_of : (a b : ℕ) → a ≢ b → eqb a b ≡ false
eqb-false_of a b h = elim (eqb_tells a b) [ inl e ↦ absurd (h e.1) | inr e ↦ e.0 ]

before_sign : (b : ℕ) → b ≢ 58 → b ≢ 60 → b ≢ 61 → b ≢ 62 → is_before_sign b ≡ true
before_sign b h k l m = rw (eqb-false_of b 58 h, eqb-false_of b 60 k, eqb-false_of b 61 l, eqb-false_of b 62 m)

none_of_four : (x y z s : Bool) → x ≡ false → y ≡ false → z ≡ false → not s ≡ true → not (((x || y) || z) || s) ≡ true
none_of_four x y z s h k l m = rw (h, k, l) m

in_word : (b : ℕ) → b ≢ 32 → b ≢ 9 → b ≢ 35 → is_before_sign b ≡ true → is_in_word b ≡ true
in_word b h k l m = none_of_four (eqb b 32) (eqb b 9) (eqb b 35) (is_sign b) (eqb-false_of b 32 h) (eqb-false_of b 9 k) (eqb-false_of b 35 l) m

not_blank : (b : ℕ) → b ≢ 32 → b ≢ 9 → is_blank b ≡ false
not_blank b h k = rw (eqb-false_of b 32 h, eqb-false_of b 9 k)

there : (b : ℕ) (w : List ℕ) (c : ℕ) → Contains w c → Contains (b ∷ w) c
there b w c (i, h, e) = (suc i, omega arith, e)

here : (b : ℕ) (w : List ℕ) (c : ℕ) → b ≡ c → Contains (b ∷ w) c
here b w c e = (zero, omega arith, e)

each_before_sign : (w : List ℕ) → (Contains w 58 → ⊥) → (Contains w 60 → ⊥) → (Contains w 61 → ⊥) → (Contains w 62 → ⊥) → Each is_before_sign w
each_before_sign [] h k l m = tt
each_before_sign (b ∷ w) h k l m = (
  before_sign b (λ e. h (here b w 58 e)) (λ e. k (here b w 60 e)) (λ e. l (here b w 61 e)) (λ e. m (here b w 62 e)),
  each_before_sign w (λ c. h (there b w 58 c)) (λ c. k (there b w 60 c)) (λ c. l (there b w 61 c)) (λ c. m (there b w 62 c)),
)

each_in_word : (w : List ℕ) → (Contains w 32 → ⊥) → (Contains w 9 → ⊥) → (Contains w 35 → ⊥) → Each is_before_sign w → Each is_in_word w
each_in_word [] h k l m = tt
each_in_word (b ∷ w) h k l m = (
  in_word b (λ e. h (here b w 32 e)) (λ e. k (here b w 9 e)) (λ e. l (here b w 35 e)) m.0,
  each_in_word w (λ c. h (there b w 32 c)) (λ c. k (there b w 9 c)) (λ c. l (there b w 35 c)) m.1,
)

each_other : (w : List ℕ) (x : ℕ) → (Contains w x → ⊥) → Each (λ b. not (eqb b x)) w
each_other [] x h = tt
each_other (b ∷ w) x h = (ap not (eqb-false_of b x (λ e. h (here b w x e))), each_other w x (λ c. h (there b w x c)))

-- each byte of a text of the form is another one
pub each_by : (f : Form) (w : List ℕ) (x : ℕ) → avoids f x ≡ true → Matches f w → Each (λ b. not (eqb b x)) w
each_by f w x e m = each_other w x (avoids_sound f x w e m)

-- no text of the form has a colon or a byte of a relation
abbrev pub avoids_signs : Form → Bool
avoids_signs f = avoids f 58 && (avoids f 60 && (avoids f 61 && avoids f 62))

-- each byte of a text of such a form stands before a colon or relation
pub before_sign_by : (f : Form) (w : List ℕ) → avoids_signs f ≡ true → Matches f w → Each is_before_sign w
before_sign_by f w e m =
    let p = and_parts (avoids f 58) (avoids f 60 && (avoids f 61 && avoids f 62)) e in
    let q = and_parts (avoids f 60) (avoids f 61 && avoids f 62) p.1 in
    let r = and_parts (avoids f 61) (avoids f 62) q.1 in
    each_before_sign w (avoids_sound f 58 w p.0 m) (avoids_sound f 60 w q.0 m) (avoids_sound f 61 w r.0 m) (avoids_sound f 62 w r.1 m)

pub not_empty : (f : Form) → never_empty f ≡ true → Matches f [] → ⊥
not_empty (word []) e m = cc
not_empty (word (c ∷ cs)) e m = cc
not_empty (byte low high) e (b, l, h, d) = cc
not_empty (seq f g) e ([], [], d, m, n) = elim (or_cases (never_empty f) (never_empty g) e) [ inl x ↦ not_empty f x m | inr y ↦ not_empty g y n ]
not_empty (seq f g) e ([], (a ∷ v), d, m, n) = cc
not_empty (seq f g) e ((a ∷ u), v, d, m, n) = cc
not_empty (alt f g) e (inl m) = not_empty f ((and_parts (never_empty f) (never_empty g) e).0) m
not_empty (alt f g) e (inr m) = not_empty g ((and_parts (never_empty f) (never_empty g) e).1) m
not_empty (many f) e m = cc
not_empty (upto k f) e m = cc

-- the text doesn't begin with the byte
abbrev pub BeginsOther : ℕ → List ℕ → Type 0
BeginsOther b w = (z : List ℕ) → w ≡ b ∷ z → ⊥

leaf_begins : (f : Form) (b : ℕ) (w : List ℕ) → avoids f b ≡ true → Matches f w → BeginsOther b w
leaf_begins f b w e m z is = avoids_sound f b w e m (subst (λ (x : List ℕ). Contains x b) (sym is) (here b z b refl))

seq_begins : (b : ℕ) (w u v : List ℕ) → w ≡ u ++ v → BeginsOther b u → ((u ≡ []) → BeginsOther b v) → BeginsOther b w
seq_begins b w [] v e h k z is = k refl z (sym e ∙ is)
seq_begins b w (a ∷ u) v e h k z is = let d : a ∷ (u ++ v) ≡ b ∷ z = sym e ∙ is in (let f : a ≡ b = cc in h u (ap (λ c. c ∷ u) f))

times_begin : (P : List ℕ → Type 0) (b : ℕ) → ((u : List ℕ) → P u → BeginsOther b u) → (n : ℕ) (w : List ℕ) → Times P n w → BeginsOther b w
times_begin P b each zero w t z is = let e : [] ≡ b ∷ z = sym t ∙ is in cc
times_begin P b each (suc n) w (u, v, e, p, t) z is = seq_begins b w u v e (each u p) (λ _. times_begin P b each n v t) z is

pub begins_sound : (f : Form) (b : ℕ) (w : List ℕ) → begins_other f b ≡ true → Matches f w → BeginsOther b w
begins_sound (word cs) b w e m = leaf_begins (word cs) b w e m
begins_sound (byte low high) b w e m = leaf_begins (byte low high) b w e m
begins_sound (seq f g) b w e (u, v, d, m, n) =
    let p = and_parts (begins_other f b) (never_empty f || begins_other g b) e in
    seq_begins b w u v d (begins_sound f b u p.0 m)
    (λ (h : u ≡ []). elim (or_cases (never_empty f) (begins_other g b) p.1) [ inl x ↦ absurd (not_empty f x (subst (λ (y : List ℕ). Matches f y) h m)) | inr y ↦ begins_sound g b v y n ])
begins_sound (alt f g) b w e (inl m) = begins_sound f b w ((and_parts (begins_other f b) (begins_other g b) e).0) m
begins_sound (alt f g) b w e (inr m) = begins_sound g b w ((and_parts (begins_other f b) (begins_other g b) e).1) m
begins_sound (many f) b w e (n, t) = times_begin (Matches f) b (λ (u : List ℕ) (m : Matches f u). begins_sound f b u e m) n w t
begins_sound (upto k f) b w e (n, l, t) = times_begin (Matches f) b (λ (u : List ℕ) (m : Matches f u). begins_sound f b u e m) n w t

pub Each-append : (p : ℕ → Bool) (u v : List ℕ) → Each p u → Each p v → Each p (u ++ v)
Each-append p [] v h k = k
Each-append p (b ∷ u) v h k = (h.0, Each-append p u v h.1 k)

pub Each-reverse : (p : ℕ → Bool) (w : List ℕ) → Each p w → Each p (reverse w)
Each-reverse p [] h = tt
Each-reverse p (b ∷ w) h = subst (Each p) (sym (reverse-append (b ∷ []) w)) (Each-append p (reverse w) (b ∷ []) (Each-reverse p w h.1) (h.0, tt))

begins_in : (b : ℕ) (w : List ℕ) → Each (λ c. not (eqb c b)) w → BeginsOther b w
begins_in b [] h z is = cc
begins_in b (c ∷ w) h z is = let e : c ≡ b = cc in (let t : eqb c b ≡ true = eq-eqb c b e in (let p : not true ≡ true = ap not (sym t) ∙ h.0 in cc))

-- the text doesn't end with the byte
abbrev pub EndsOther : ℕ → List ℕ → Type 0
EndsOther b w = BeginsOther b (reverse w)

leaf_ends : (f : Form) (b : ℕ) (w : List ℕ) → avoids f b ≡ true → Matches f w → EndsOther b w
leaf_ends f b w e m = begins_in b (reverse w) (Each-reverse (λ c. not (eqb c b)) w (each_by f w b e m))

seq_ends : (b : ℕ) (w u v : List ℕ) → w ≡ u ++ v → EndsOther b v → ((v ≡ []) → EndsOther b u) → EndsOther b w
seq_ends b w u v e h k =
    seq_begins b (reverse w) (reverse v) (reverse u) (ap reverse e ∙ reverse-append u v) h (λ (n : reverse v ≡ []). k (sym (reverse-reverse v) ∙ ap reverse n))

times_end : (P : List ℕ → Type 0) (b : ℕ) → ((u : List ℕ) → P u → EndsOther b u) → (n : ℕ) (w : List ℕ) → Times P n w → EndsOther b w
times_end P b each zero w t z is = let e : [] ≡ b ∷ z = sym (ap reverse t) ∙ is in cc
times_end P b each (suc n) w (u, v, e, p, t) z is = seq_ends b w u v e (times_end P b each n v t) (λ _. each u p) z is

pub ends_sound : (f : Form) (b : ℕ) (w : List ℕ) → ends_other f b ≡ true → Matches f w → EndsOther b w
ends_sound (word cs) b w e m = leaf_ends (word cs) b w e m
ends_sound (byte low high) b w e m = leaf_ends (byte low high) b w e m
ends_sound (seq f g) b w e (u, v, d, m, n) =
    let p = and_parts (ends_other g b) (never_empty g || ends_other f b) e in
    seq_ends b w u v d (ends_sound g b v p.0 n)
    (λ (h : v ≡ []). elim (or_cases (never_empty g) (ends_other f b) p.1) [ inl x ↦ absurd (not_empty g x (subst (λ (y : List ℕ). Matches g y) h n)) | inr y ↦ ends_sound f b u y m ])
ends_sound (alt f g) b w e (inl m) = ends_sound f b w ((and_parts (ends_other f b) (ends_other g b) e).0) m
ends_sound (alt f g) b w e (inr m) = ends_sound g b w ((and_parts (ends_other f b) (ends_other g b) e).1) m
ends_sound (many f) b w e (n, t) = times_end (Matches f) b (λ (u : List ℕ) (m : Matches f u). ends_sound f b u e m) n w t
ends_sound (upto k f) b w e (n, l, t) = times_end (Matches f) b (λ (u : List ℕ) (m : Matches f u). ends_sound f b u e m) n w t

pub no_blank_first : (w : List ℕ) → BeginsOther 32 w → BeginsOther 9 w → Stops is_blank w
no_blank_first [] h k = tt
no_blank_first (b ∷ w) h k = not_blank b (λ e. h w (ap (λ (c : ℕ). c ∷ w) e)) (λ e. k w (ap (λ (c : ℕ). c ∷ w) e))

-- each text of the form is a word
abbrev pub word_good : Form → Bool
word_good f = never_empty f && (avoids f 32 && (avoids f 9 && (avoids f 35 && avoids_signs f)))

word_from : (w : List ℕ) → (w ≡ [] → ⊥) → Each is_in_word w → IsWord w
word_from [] h e = absurd (h refl)
word_from (b ∷ w) h e = record { first = b; others = w; is = refl; each = e }

pub good_word : (f : Form) (w : List ℕ) → word_good f ≡ true → Matches f w → IsWord w
good_word f w e m =
    let p = and_parts (never_empty f) (avoids f 32 && (avoids f 9 && (avoids f 35 && avoids_signs f))) e in
    let q = and_parts (avoids f 32) (avoids f 9 && (avoids f 35 && avoids_signs f)) p.1 in
    let r = and_parts (avoids f 9) (avoids f 35 && avoids_signs f) q.1 in
    let s = and_parts (avoids f 35) (avoids_signs f) r.1 in
    word_from w (λ h. not_empty f p.0 (subst (λ (x : List ℕ). Matches f x) h m))
    (each_in_word w (avoids_sound f 32 w q.0 m) (avoids_sound f 9 w r.0 m) (avoids_sound f 35 w s.0 m) (before_sign_by f w s.1 m))
