-- The value at a vector of what rows span.
use Rattle.std.proofs.Common.{◌≡◌, ℕ, zero, suc, ◌<◌, List, [], ◌∷◌, length, ℤ, pos, ◌+ℤ◌, ◌*ℤ◌, ◌≤ℤ◌, refl, sym, ap, ◌∙◌, arith}
use Rattle.std.proofs.lemmas.Int.{ints}
use Rattle.row_core.specs.Vectors.{cell, dot, combined}
use Rattle.cone_laws.specs.Cones.{Spans}
use Rattle.cone_laws.specs.Canon.{vector_at}
use Rattle.cone_laws.proofs.Columns.{value, value_linear, value_both, dot_is, dot_comm}
use Rattle.cone_laws.proofs.EchelonForm.{zero_left, zero_right}
use Rattle.widening.proofs.ZeroPoints.{first_zero, second_zero, both_zero, sum_least}

-- the sum of the values of the rows at the vector, each with its factor
abbrev pub weighed : List ℤ → List ℤ → List (List ℤ) → ℤ
weighed v [] rows = pos 0
weighed v (f ∷ fs) [] = pos 0
weighed v (f ∷ fs) (r ∷ rows) = f *ℤ dot r v +ℤ weighed v fs rows

same_terms : (f a b s t : ℤ) → a ≡ b → s ≡ t → f *ℤ a +ℤ s ≡ f *ℤ b +ℤ t
same_terms f a b s t e g = ap (λ (z : ℤ). f *ℤ z +ℤ s) e ∙ ap (λ (z : ℤ). f *ℤ b +ℤ z) g

one_each : (x a b : ℤ) → x ≡ a +ℤ b → x ≡ pos 1 *ℤ a +ℤ pos 1 *ℤ b
one_each x a b e = omega (arith, ints, e)

both_parts : (x a b c d : ℤ) → x ≡ pos 1 *ℤ a +ℤ pos 1 *ℤ b → a ≡ c → b ≡ d → x ≡ c +ℤ d
both_parts x a b c d e f g = omega (arith, ints, e, f, g)

alone : (x : ℤ) → x +ℤ pos 0 ≡ x
alone x = omega (arith, ints)

value_weighed : (v fs : List ℤ) (rows : List (List ℤ)) → value v (λ j. combined fs rows j) ≡ weighed v fs rows
value_weighed v [] rows = (value_linear v).zero (λ j. combined [] rows j) (λ j. refl)
value_weighed v (f ∷ fs) [] = (value_linear v).zero (λ j. combined (f ∷ fs) [] j) (λ j. refl)
value_weighed v (f ∷ fs) (r ∷ rows) =
    (value_linear v).more (λ j. combined (f ∷ fs) (r ∷ rows) j) (cell r) (λ j. combined fs rows j) f (λ j. refl)
    ∙ same_terms f (value v (cell r)) (dot r v) (value v (λ j. combined fs rows j)) (weighed v fs rows) (sym (dot_is v r) ∙ dot_comm v r) (value_weighed v fs rows)

pub spanned_value : (v k : List ℤ) (lines rows : List (List ℤ)) (s : Spans lines rows k) → s.times *ℤ dot k v ≡ weighed v s.line_factors lines +ℤ weighed v s.ray_factors rows
spanned_value v k lines rows s =
    ap (λ (z : ℤ). s.times *ℤ z) (dot_comm k v ∙ dot_is v k) ∙ sym ((value_linear v).multiple (λ j. s.times *ℤ cell k j) (cell k) s.times (λ j. refl))
    ∙ both_parts (value v (λ j. s.times *ℤ cell k j)) (value v (λ j. combined s.line_factors lines j)) (value v (λ j. combined s.ray_factors rows j)) (weighed v s.line_factors lines) (weighed v s.ray_factors rows)
    (value_both (value v) (value_linear v) (λ j. s.times *ℤ cell k j) (λ j. combined s.line_factors lines j) (λ j. combined s.ray_factors rows j) (pos 1) (pos 1)
    (λ j. one_each (s.times *ℤ cell k j) (combined s.line_factors lines j) (combined s.ray_factors rows j) (s.sum j)))
    (value_weighed v s.line_factors lines) (value_weighed v s.ray_factors rows)

module _ (v : List ℤ) where
  -- a sum is at least 0 where each term is
  pub weighed_least : (fs : List ℤ) (rows : List (List ℤ)) → ((m : ℕ) → m < length rows → pos 0 ≤ℤ (cell fs m *ℤ dot (vector_at rows m) v)) → pos 0 ≤ℤ weighed v fs rows
  weighed_least [] rows h = omega (arith, ints)
  weighed_least (f ∷ fs) [] h = omega (arith, ints)
  weighed_least (f ∷ fs) (r ∷ rows) h = sum_least (f *ℤ dot r v) (weighed v fs rows) (h 0 (omega arith)) (weighed_least fs rows (λ m l. h (suc m) (omega (arith, l))))

  -- and where it is 0 each term is
  pub terms_zero : (fs : List ℤ) (rows : List (List ℤ)) → ((m : ℕ) → m < length rows → pos 0 ≤ℤ (cell fs m *ℤ dot (vector_at rows m) v)) → weighed v fs rows ≡ pos 0 → (m : ℕ) → m < length rows → cell fs m *ℤ dot (vector_at rows m) v ≡ pos 0
  terms_zero [] rows h z m l = zero_left (pos 0) (dot (vector_at rows m) v) refl
  terms_zero (f ∷ fs) [] h z m l = absurd (omega (arith, l))
  terms_zero (f ∷ fs) (r ∷ rows) h z zero l =
      first_zero (f *ℤ dot r v) (weighed v fs rows) (f *ℤ dot r v +ℤ weighed v fs rows) refl z (h 0 (omega arith)) (weighed_least fs rows (λ n b. h (suc n) (omega (arith, b))))
  terms_zero (f ∷ fs) (r ∷ rows) h z (suc m) l =
      terms_zero fs rows (λ n b. h (suc n) (omega (arith, b)))
      (second_zero (f *ℤ dot r v) (weighed v fs rows) (f *ℤ dot r v +ℤ weighed v fs rows) refl z (h 0 (omega arith)) (weighed_least fs rows (λ n b. h (suc n) (omega (arith, b)))))
      m (omega (arith, l))

  -- of rows that are 0 there
  pub weighed_zero : (fs : List ℤ) (rows : List (List ℤ)) → ((m : ℕ) → m < length rows → dot (vector_at rows m) v ≡ pos 0) → weighed v fs rows ≡ pos 0
  weighed_zero [] rows h = refl
  weighed_zero (f ∷ fs) [] h = refl
  weighed_zero (f ∷ fs) (r ∷ rows) h = both_zero (f *ℤ dot r v) (weighed v fs rows) (f *ℤ dot r v +ℤ weighed v fs rows) refl (zero_right f (dot r v) (h 0 (omega arith))) (weighed_zero fs rows (λ m l. h (suc m) (omega (arith, l))))

  -- of one row
  pub weighed_one : (fs k : List ℤ) → weighed v fs (k ∷ []) ≡ cell fs 0 *ℤ dot k v
  weighed_one [] k = sym (zero_left (pos 0) (dot k v) refl)
  weighed_one (f ∷ []) k = alone (f *ℤ dot k v)
  weighed_one (f ∷ g ∷ fs) k = alone (f *ℤ dot k v)
