-- Tokens are one body, or have one first token that is wrong.
use Rattle.std.proofs.Common.{◌≡◌, ℕ, List, [], ◌∷◌, ◌++◌, refl, sym, ◌∙◌, ap, subst, inl, inr, append_assoc, get_or, drop}
use Rattle.std.proofs.lemmas.List.{append-nil, map-append}
use Rattle.cdd_reading.specs.Tokens.{texts, Token}
use Rattle.plain_text.specs.Digits.{number}
use Rattle.cdd_reading.specs.Bodies.{type_word, Sizes, IsBody, CanBody, HasNoBody}
use Rattle.cdd_reading.specs.declared.format.NumberType.{NumberType}
use Rattle.cdd_reading.specs.declared.format.NumberType.TheVariants.{Integer, Rational, Real}
use Rattle.cdd_reading.proofs.OneHeads.{Cuts, two_cuts}

pub one_type : (t u : NumberType) → type_word t ≡ type_word u → t ≡ u
one_type Integer Integer e = refl
one_type Integer Rational e = cc
one_type Integer Real e = cc
one_type Rational Integer e = cc
one_type Rational Rational e = refl
one_type Rational Real e = cc
one_type Real Integer e = cc
one_type Real Rational e = cc
one_type Real Real e = refl

pub body_once : (ts : List (List ℕ)) (s z : Sizes) (k l : List (List ℕ)) → IsBody ts s k → IsBody ts z l → (s ≡ z) × (k ≡ l)
body_once ts s z k l a b =
    let e : (a.m ∷ a.d ∷ a.t ∷ k) ≡ (b.m ∷ b.d ∷ b.t ∷ l) = sym a.tokens ∙ b.tokens in
    let r : s.rows ≡ z.rows = a.sizes.rows ∙ ap (λ w. number w) (ap (λ (x : List (List ℕ)). get_or x 0 []) e) ∙ sym b.sizes.rows in
    let c : s.columns ≡ z.columns = a.sizes.columns ∙ ap (λ w. number w) (ap (λ (x : List (List ℕ)). get_or x 1 []) e) ∙ sym b.sizes.columns in
    let t : s.number_type ≡ z.number_type = one_type s.number_type z.number_type (sym a.sizes.number_type ∙ ap (λ (x : List (List ℕ)). get_or x 2 []) e ∙ b.sizes.number_type) in (
      ap (λ (n : ℕ). record { rows = n; columns = s.columns; number_type = s.number_type }) r
          ∙ ap (λ (n : ℕ). record { rows = z.rows; columns = n; number_type = s.number_type }) c
          ∙ ap (λ (n : NumberType). record { rows = z.rows; columns = z.columns; number_type = n }) t,
      ap (λ (x : List (List ℕ)). drop 3 x) e,
    )

-- tokens before tokens that can begin a body can begin one
pub front_can : (a r : List Token) → CanBody (texts (a ++ r)) → CanBody (texts a)
front_can a r (more, s, numbers, b) =
    let e : texts (a ++ r) ++ more ≡ texts a ++ (texts r ++ more) = ap (λ (t : List (List ℕ)). t ++ more) (map-append (λ (t : Token). t.1) a r) ∙ append_assoc (texts a) (texts r) more in
    (texts r ++ more, s, numbers, subst (λ (t : List (List ℕ)). IsBody t s numbers) e b)

wrong_whole : (ts a b : List Token) (x : Token) → ts ≡ a ++ x ∷ b → CanBody (texts ts) → ¬ (CanBody (texts (a ++ x ∷ []))) → ⊥
wrong_whole ts a b x e can wrong = wrong (front_can (a ++ x ∷ []) b (subst (λ (l : List Token). CanBody (texts l)) (e ∙ sym (append_assoc a (x ∷ []) b)) can))

whole_can : (ts : List (List ℕ)) (s : Sizes) (k : List (List ℕ)) → IsBody ts s k → CanBody ts
whole_can ts s k b = ([], s, k, subst (λ (t : List (List ℕ)). IsBody t s k) (sym (append-nil ts)) b)

pub body_excludes : (ts : List Token) (s : Sizes) (k : List (List ℕ)) (end at : ℕ) → IsBody (texts ts) s k → HasNoBody ts end at → ⊥
body_excludes ts s k end at b (inl (before, w)) = wrong_whole ts before w.first.behind w.token w.first.cut (whole_can (texts ts) s k b) w.first.wrong
body_excludes ts s k end at b (inr (can, none, e)) = none s k b

token_cases : (a b c d : List Token) (x y : Token) → CanBody (texts a) → ¬ (CanBody (texts (a ++ x ∷ []))) → CanBody (texts c) → ¬ (CanBody (texts (c ++ y ∷ []))) → Cuts a x b c y d → x.0 ≡ y.0
token_cases a b c d x y p q r s (inl (e, i, j)) = ap (λ (t : Token). t.0) i
token_cases a b c d x y p q r s (inr (inl (t, e))) = absurd (q (front_can (a ++ x ∷ []) t (subst (λ (l : List Token). CanBody (texts l)) e r)))
token_cases a b c d x y p q r s (inr (inr (t, e))) = absurd (s (front_can (c ++ y ∷ []) t (subst (λ (l : List Token). CanBody (texts l)) e p)))

pub token_once : (ts : List Token) (end m n : ℕ) → HasNoBody ts end m → HasNoBody ts end n → m ≡ n
token_once ts end m n (inl (a, v)) (inl (c, w)) = v.line ∙ token_cases a v.first.behind c w.first.behind v.token w.token v.first.right v.first.wrong w.first.right w.first.wrong (two_cuts a v.first.behind c w.first.behind v.token w.token (sym v.first.cut ∙ w.first.cut)) ∙ sym w.line
token_once ts end m n (inl (a, v)) (inr (can, none, e)) = absurd (wrong_whole ts a v.first.behind v.token v.first.cut can v.first.wrong)
token_once ts end m n (inr (can, none, e)) (inl (c, w)) = absurd (wrong_whole ts c w.first.behind w.token w.first.cut can w.first.wrong)
token_once ts end m n (inr (can, none, e)) (inr (can2, none2, f)) = e ∙ sym f
