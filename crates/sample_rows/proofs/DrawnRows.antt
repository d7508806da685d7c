-- The entries of a drawn row.
use Rattle.std.proofs.Common.{◌≡◌, ℕ, List, [], ◌∷◌, ◌++◌, ℤ, sym, ap, ◌∙◌, subst, All, to_z, of_z}
use mir.Syntax.{w128}
use Rattle.std.proofs.lemmas.Int.{to_z-of_z, fits_signed_from_abs}
use Rattle.std.proofs.lemmas.List.Elements.{All-nil, All-cons}
use Rattle.row_core.specs.Range.{InRange}
use Rattle.sample_rows.specs.Draws.{next, drawn, coefficient, constant, row_from}

-- a number of the range that was pushed
pub pushed_is : (old new : List ℤ) (z : ℤ) → InRange z → new ≡ old ++ to_z w128 (of_z w128 z) ∷ [] → new ≡ old ++ z ∷ []
pushed_is old new z r e = e ∙ ap (λ x. old ++ x ∷ []) (to_z-of_z w128 z (fits_signed_from_abs w128 z r.size))

-- four numbers that were pushed one after another
pub four_pushed : (v0 v1 v2 v3 v4 : List ℤ) (a b c k : ℤ) → v0 ≡ [] → v1 ≡ v0 ++ a ∷ [] → v2 ≡ v1 ++ b ∷ [] → v3 ≡ v2 ++ c ∷ [] → v4 ≡ v3 ++ k ∷ [] → v4 ≡ a ∷ b ∷ c ∷ k ∷ []
four_pushed v0 v1 v2 v3 v4 a b c k e0 e1 e2 e3 e4 =
    e4 ∙ ap (λ v. v ++ k ∷ []) (e3 ∙ ap (λ v. v ++ c ∷ []) (e2 ∙ ap (λ v. v ++ b ∷ []) (e1 ∙ ap (λ v. v ++ a ∷ []) e0)))

pub four_in_range : (v : List ℤ) (a b c k : ℤ) → v ≡ a ∷ b ∷ c ∷ k ∷ [] → InRange a → InRange b → InRange c → InRange k → All InRange v
four_in_range v a b c k e p q r s = subst (All InRange) (sym e) (All-cons InRange a (b ∷ c ∷ k ∷ []) p (All-cons InRange b (c ∷ k ∷ []) q (All-cons InRange c (k ∷ []) r (All-cons InRange k [] s (All-nil InRange)))))

-- each is what its draw gives
pub four_drawn : (x n1 n2 n3 d1 d2 d3 d4 : ℕ) (a b c k : ℤ) → n1 ≡ next x → n2 ≡ next n1 → n3 ≡ next n2 → d1 ≡ drawn (next x) → d2 ≡ drawn (next n1) → d3 ≡ drawn (next n2) → d4 ≡ drawn (next n3) → a ≡ coefficient d1 → b ≡ coefficient d2 → c ≡ coefficient d3 → k ≡ constant d4 → a ∷ b ∷ c ∷ k ∷ [] ≡ row_from x
four_drawn x n1 n2 n3 d1 d2 d3 d4 a b c k e1 e2 e3 f1 f2 f3 f4 g1 g2 g3 g4 =
    let m2 : n2 ≡ next (next x) = e2 ∙ ap next e1 in
    let m3 : n3 ≡ next (next (next x)) = e3 ∙ ap next m2 in
    let a1 : a ≡ coefficient (drawn (next x)) = g1 ∙ ap coefficient f1 in
    let b1 : b ≡ coefficient (drawn (next (next x))) = g2 ∙ ap coefficient (f2 ∙ ap (λ n. drawn (next n)) e1) in
    let c1 : c ≡ coefficient (drawn (next (next (next x)))) = g3 ∙ ap coefficient (f3 ∙ ap (λ n. drawn (next n)) m2) in
    let k1 : k ≡ constant (drawn (next (next (next (next x))))) = g4 ∙ ap constant (f4 ∙ ap (λ n. drawn (next n)) m3) in
    ap (λ z. z ∷ b ∷ c ∷ k ∷ []) a1 ∙ ap (λ z. coefficient (drawn (next x)) ∷ z ∷ c ∷ k ∷ []) b1
    ∙ ap (λ z. coefficient (drawn (next x)) ∷ coefficient (drawn (next (next x))) ∷ z ∷ k ∷ []) c1
    ∙ ap (λ z. coefficient (drawn (next x)) ∷ coefficient (drawn (next (next x))) ∷ coefficient (drawn (next (next (next x)))) ∷ z ∷ []) k1
