-- A byte that a form avoids is in no text of the form.
use Rattle.std.proofs.Common.{◌≡◌, ℕ, zero, suc, ◌<◌, ◌≤◌, ◌⊎◌, Bool, true, false, not, ◌||◌, eqb, ltb, List, [], ◌∷◌, ◌++◌, refl, ap, sym, subst, ◌∙◌, inl, inr, arith}
use Rattle.std.specs.Prelude.{Contains}
use Rattle.std.proofs.lemmas.Bool.{eq-eqb, ltb-true, and_parts}
use Rattle.std.proofs.lemmas.List.Elements.{Contains-append_cases}
use Rattle.grammar.specs.Form.{Form, word, byte, seq, alt, many, upto, Times, Matches}
use Rattle.grammar.specs.Avoids.{lacks, avoids}

empty_lacks : (w : List ℕ) (b : ℕ) → w ≡ [] → Contains w b → ⊥
empty_lacks [] b e (k, h, i) = omega arith
empty_lacks (c ∷ w) b e h = cc

contains_cases : (c : ℕ) (cs : List ℕ) (b : ℕ) → Contains (c ∷ cs) b → (c ≡ b) ⊎ Contains cs b
contains_cases c cs b (zero, h, e) = inl e
contains_cases c cs b (suc k, h, e) = inr (k, omega arith, e)

other : (c b : ℕ) → not (eqb c b) ≡ true → c ≡ b → ⊥
other c b h e = let t : eqb c b ≡ true = eq-eqb c b e in (let p : not true ≡ true = ap not (sym t) ∙ h in cc)

lacks_sound : (cs : List ℕ) (b : ℕ) → lacks cs b ≡ true → Contains cs b → ⊥
lacks_sound [] b e h = empty_lacks [] b refl h
lacks_sound (c ∷ cs) b e h =
    let p = and_parts (not (eqb c b)) (lacks cs b) e in
    elim (contains_cases c cs b h) [ inl x ↦ other c b p.0 x | inr y ↦ lacks_sound cs b p.1 y ]

pub or_cases : (x y : Bool) → (x || y) ≡ true → (x ≡ true) ⊎ (y ≡ true)
or_cases true y e = inl refl
or_cases false y e = inr e

outside : (low high b c : ℕ) → (ltb b low || ltb high b) ≡ true → low ≤ c → c ≤ high → c ≡ b → ⊥
outside low high b c e l h is =
    elim (or_cases (ltb b low) (ltb high b) e) [
      | inl x ↦ (let p : b < low = ltb-true b low x in omega arith)
      | inr y ↦ (let p : high < b = ltb-true high b y in omega arith)
    ]

one_lacks : (w : List ℕ) (c b : ℕ) → w ≡ c ∷ [] → (c ≡ b → ⊥) → Contains w b → ⊥
one_lacks w c b e n h =
    elim (contains_cases c [] b (subst (λ (x : List ℕ). Contains x b) e h)) [ inl x ↦ n x | inr y ↦ empty_lacks [] b refl y ]

parts_lack : (w u v : List ℕ) (b : ℕ) → w ≡ u ++ v → (Contains u b → ⊥) → (Contains v b → ⊥) → Contains w b → ⊥
parts_lack w u v b e m n h =
    elim (Contains-append_cases u v b (subst (λ (x : List ℕ). Contains x b) e h)) [ inl x ↦ m x | inr y ↦ n y ]

times_lack : (P : List ℕ → Type 0) (b : ℕ) → ((u : List ℕ) → P u → Contains u b → ⊥) → (n : ℕ) (w : List ℕ) → Times P n w → Contains w b → ⊥
times_lack P b each zero w t = empty_lacks w b t
times_lack P b each (suc n) w (u, v, e, p, t) = parts_lack w u v b e (each u p) (times_lack P b each n v t)

pub avoids_sound : (f : Form) (b : ℕ) (w : List ℕ) → avoids f b ≡ true → Matches f w → Contains w b → ⊥
avoids_sound (word cs) b w e m = λ (h : Contains w b). lacks_sound cs b e (subst (λ (x : List ℕ). Contains x b) m h)
avoids_sound (byte low high) b w e (c, l, h, m) = one_lacks w c b m (outside low high b c e l h)
avoids_sound (seq f g) b w e (u, v, d, m, n) =
    let p = and_parts (avoids f b) (avoids g b) e in
    parts_lack w u v b d (avoids_sound f b u p.0 m) (avoids_sound g b v p.1 n)
avoids_sound (alt f g) b w e (inl m) = avoids_sound f b w ((and_parts (avoids f b) (avoids g b) e).0) m
avoids_sound (alt f g) b w e (inr m) = avoids_sound g b w ((and_parts (avoids f b) (avoids g b) e).1) m
avoids_sound (many f) b w e (n, t) = times_lack (Matches f) b (λ (u : List ℕ) (m : Matches f u). avoids_sound f b u e m) n w t
avoids_sound (upto k f) b w e (n, l, t) = times_lack (Matches f) b (λ (u : List ℕ) (m : Matches f u). avoids_sound f b u e m) n w t
