-- The column of several forms is the largest of their columns.
use Rattle.std.proofs.Common.{◌≡◌, ℕ, ◌+◌, ◌<◌, ◌≤◌, ◌⊎◌, List, [], ◌∷◌, ◌++◌, length, take, map, get_or, max, ap, sym, subst, ◌∙◌, inl, inr, arith}
use Rattle.std.proofs.lemmas.Bool.{cases_lt}
use Rattle.std.proofs.lemmas.List.{map_more}
use Rattle.grammar.specs.Form.{Form, Matches, Begins, IsColumn, AnyMatches, AnyBegins, IsColumnOfAny}
use Rattle.grammar.proofs.Columns.{begins_shorter}

matches_push : (fs : List Form) (f : Form) (w : List ℕ) → AnyMatches (fs ++ f ∷ []) w → AnyMatches fs w ⊎ Matches f w
matches_push [] f w (inl m) = inr m
matches_push [] f w (inr m) = absurd m
matches_push (g ∷ fs) f w (inl m) = inl (inl m)
matches_push (g ∷ fs) f w (inr m) = elim (matches_push fs f w m) [ inl x ↦ inl (inr x) | inr y ↦ inr y ]

begins_push : (fs : List Form) (f : Form) (p : List ℕ) → AnyBegins (fs ++ f ∷ []) p → AnyBegins fs p ⊎ Begins f p
begins_push [] f p (inl b) = inr b
begins_push [] f p (inr b) = absurd b
begins_push (g ∷ fs) f p (inl b) = inl (inl b)
begins_push (g ∷ fs) f p (inr b) = elim (begins_push fs f p b) [ inl x ↦ inl (inr x) | inr y ↦ inr y ]

push_first : (fs : List Form) (f : Form) (p : List ℕ) → AnyBegins fs p → AnyBegins (fs ++ f ∷ []) p
push_first [] f p b = absurd b
push_first (g ∷ fs) f p (inl b) = inl b
push_first (g ∷ fs) f p (inr b) = inr (push_first fs f p b)

push_last : (fs : List Form) (f : Form) (p : List ℕ) → Begins f p → AnyBegins (fs ++ f ∷ []) p
push_last [] f p b = inl b
push_last (g ∷ fs) f p b = inr (push_last fs f p b)

any_shorter : (fs : List Form) (w : List ℕ) (i j : ℕ) → j ≤ i → AnyBegins fs (take i w) → AnyBegins fs (take j w)
any_shorter [] w i j h b = b
any_shorter (f ∷ fs) w i j h (inl b) = inl (begins_shorter f w i j h b)
any_shorter (f ∷ fs) w i j h (inr b) = inr (any_shorter fs w i j h b)

first_larger : (fs : List Form) (f : Form) (w : List ℕ) (c d : ℕ) → d ≤ c → IsColumnOfAny fs w c → IsColumn f w d →
    (c ≤ length w) × (AnyBegins (fs ++ f ∷ []) (take c w) → ⊥) ⊎ c ≡ length w + 1
first_larger fs f w c d h any one =
    elim any.here [
      | inl x ↦ elim one.here [
        | inl y ↦ inl (
          x.0,
          λ (b : AnyBegins (fs ++ f ∷ []) (take c w)).
              (elim (begins_push fs f (take c w) b) [ inl p ↦ x.1 p | inr q ↦ y.1 (begins_shorter f w c d h q) ]),
        )
        | inr y ↦ absurd (omega arith)
      ]
      | inr x ↦ inr x
    ]

last_larger : (fs : List Form) (f : Form) (w : List ℕ) (c d : ℕ) → c ≤ d → IsColumnOfAny fs w c → IsColumn f w d →
    (d ≤ length w) × (AnyBegins (fs ++ f ∷ []) (take d w) → ⊥) ⊎ d ≡ length w + 1
last_larger fs f w c d h any one =
    elim one.here [
      | inl y ↦ elim any.here [
        | inl x ↦ inl (
          y.0,
          λ (b : AnyBegins (fs ++ f ∷ []) (take d w)).
              (elim (begins_push fs f (take d w) b) [ inl p ↦ x.1 (any_shorter fs w d c h p) | inr q ↦ y.1 q ]),
        )
        | inr x ↦ absurd (omega arith)
      ]
      | inr y ↦ inr y
    ]

none_matches : (fs : List Form) (f : Form) (w : List ℕ) (c d : ℕ) → IsColumnOfAny fs w c → IsColumn f w d → AnyMatches (fs ++ f ∷ []) w → ⊥
none_matches fs f w c d any one m = elim (matches_push fs f w m) [ inl x ↦ any.not x | inr y ↦ one.not y ]

larger_at : (fs : List Form) (f : Form) (w : List ℕ) (c d e : ℕ) → IsColumnOfAny fs w c → IsColumn f w d → e ≤ max c d →
    ((e ≤ length w) × (AnyBegins (fs ++ f ∷ []) (take e w) → ⊥) ⊎ e ≡ length w + 1) → max c d ≡ e → IsColumnOfAny (fs ++ f ∷ []) w e
larger_at fs f w c d e any one l here is = record {
  not = none_matches fs f w c d any one;
  before = λ (i : ℕ) (h : i < e). (elim (cases_lt i c) [ inl x ↦ push_first fs f (take i w) (any.before i x) | inr y ↦ push_last fs f (take i w) (one.before i (omega arith)) ]);
  here = here;
}

-- one more form
pub larger : (fs : List Form) (f : Form) (w : List ℕ) (c d : ℕ) → IsColumnOfAny fs w c → IsColumn f w d → IsColumnOfAny (fs ++ f ∷ []) w (max c d)
larger fs f w c d any one =
    elim (cases_lt c d) [
      | inl x ↦ (let e : d ≡ max c d = omega arith in
          subst (λ (n : ℕ). IsColumnOfAny (fs ++ f ∷ []) w n) e (larger_at fs f w c d d any one (omega arith) (last_larger fs f w c d (omega arith) any one) (sym e)))
      | inr y ↦ (let e : c ≡ max c d = omega arith in
          subst (λ (n : ℕ). IsColumnOfAny (fs ++ f ∷ []) w n) e (larger_at fs f w c d c any one (omega arith) (first_larger fs f w c d (omega arith) any one) (sym e)))
    ]

-- one more form of a list
pub larger_more : {X : Type 0} (f : X → Form) (xs : List X) (i : ℕ) (x z : X) (w : List ℕ) (c d e : ℕ) → i < length xs → get_or xs i z ≡ x →
    IsColumnOfAny (map f (take i xs)) w c → IsColumn (f x) w d → e ≡ max c d → IsColumnOfAny (map f (take (i + 1) xs)) w e
larger_more {X} f xs i x z w c d e h is any one largest =
    let list : map f (take (i + 1) xs) ≡ map f (take i xs) ++ f x ∷ [] =
    map_more f xs i z h ∙ ap (λ (y : X). map f (take i xs) ++ f y ∷ []) is in
    subst (λ (n : ℕ). IsColumnOfAny (map f (take (i + 1) xs)) w n) (sym largest)
    (subst (λ (fs : List Form). IsColumnOfAny fs w (max c d)) (sym list) (larger (map f (take i xs)) (f x) w c d any one))
