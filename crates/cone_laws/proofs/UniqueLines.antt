-- The lines of a reduced echelon form are determined by what they span: each is the only primitive vector of the span with its pivot, positive there and 0 at the other pivots.
use Rattle.std.specs.Prelude.{◌≡◌, ◌≢◌, ℕ, ◌<◌, ◌≤◌, List, [], length, ℤ, pos, ◌<ℤ◌, ◌⊎◌, All, Contains}
use Prim.Native.Nat.{suc, zero}
use Rattle.std.proofs.Math.IntN.{◌*ℤ◌}
use Rattle.std.proofs.Common.{sym, ◌∙◌, ap, subst, inl, inr, arith}
use Rattle.std.proofs.lemmas.Int.{ints}
use Rattle.std.proofs.lemmas.Bool.{cases_lt, cases_order, cases_eq}
use Rattle.std.proofs.lemmas.List.{get_or_default}
use Rattle.std.proofs.lemmas.List.Elements.{Contains-get_or}
use Rattle.row_core.specs.Vectors.{cell, combined}
use Rattle.row_core.specs.Content.{IsPrimitive}
use Rattle.cone_laws.specs.Cones.{Spans}
use Rattle.cone_laws.specs.Canon.{IsPivot, IsEchelon}
use Rattle.row_core.specs.Lists.{vector_at}
use Rattle.row_core.proofs.Ring.{mul-positive, zero_of_mul, same_or_not, mul_comm}
use Rattle.cone_laws.proofs.Primitive.{primitive_same_at}
use Rattle.cone_laws.proofs.SortedLists.{IsDescending, IsWithin, descending_same}
use Rattle.cone_laws.proofs.EchelonForm.{zero_left, zero_right}
use Rattle.cone_laws.proofs.Factors.{combined-nil, combined-none, combined-one}

-- a vector has one pivot
pub pivot_same : (v : List ℤ) (i k : ℕ) → IsPivot v i → IsPivot v k → i ≡ k
pivot_same v i k p q = by_order (cases_order i k)
  where
    by_order : (i ≡ k) ⊎ ((i < k) ⊎ (k < i)) → i ≡ k
    by_order (inl e) = e
    by_order (inr (inl h)) = absurd (omega (arith, ints, q.before i h, p.positive))
    by_order (inr (inr h)) = absurd (omega (arith, ints, p.before k h, q.positive))

factor_zero : (t v k l : ℤ) → t *ℤ v ≡ k *ℤ l → v ≡ pos 0 → pos 0 <ℤ l → k ≡ pos 0
factor_zero t v k l e f p = zero_of_mul l k p (mul_comm l k ∙ sym e ∙ zero_right t v f)

-- of the first n factors all are 0, or there is a first that isn't
pub record IsFirstFactor (ks : List ℤ) (n : ℕ) : Type 0 where
  pub index : ℕ
  pub below : index < n
  pub other : cell ks index ≢ pos 0
  pub before : (m : ℕ) → m < index → cell ks m ≡ pos 0

pub first_factor : (ks : List ℤ) (n : ℕ) → ((m : ℕ) → m < n → cell ks m ≡ pos 0) ⊎ IsFirstFactor ks n
first_factor ks zero = inl (λ m h. absurd (omega arith))
first_factor ks (suc n) = more (first_factor ks n) (same_or_not (cell ks n) (pos 0))
  where
    more : ((m : ℕ) → m < n → cell ks m ≡ pos 0) ⊎ IsFirstFactor ks n → (cell ks n ≡ pos 0) ⊎ (cell ks n ≢ pos 0) → ((m : ℕ) → m < suc n → cell ks m ≡ pos 0) ⊎ IsFirstFactor ks (suc n)
    more (inr f) d = inr (record { index = f.index; below = omega (arith, f.below); other = f.other; before = f.before })
    more (inl z) (inr ne) = inr (record { index = n; below = omega arith; other = ne; before = z })
    more (inl z) (inl e) = inl (λ m h. by_place m h (cases_eq m n))
      where
        by_place : (m : ℕ) → m < suc n → (m ≡ n) ⊎ (m ≢ n) → cell ks m ≡ pos 0
        by_place m h (inl f) = subst (λ (x : ℕ). cell ks x ≡ pos 0) (sym f) e
        by_place m h (inr ne) = z m (omega (arith, h, ne))

-- ---- sums of the lines of an echelon form
module _ (lines rays : List (List ℤ)) (e : IsEchelon lines rays) where
  -- at the pivot of a line a sum of lines has that line's multiple alone
  pub at_pivot : (ks : List ℤ) (i : ℕ) → i < length lines → combined ks lines (e.pivot i) ≡ cell ks i *ℤ cell (vector_at lines i) (e.pivot i)
  at_pivot ks i h = combined-one ks lines i (e.pivot i) (λ m l ne. zero_right (cell ks m) (cell (vector_at lines m) (e.pivot i)) (e.lines_zero i m h l (λ f. ne (sym f))))

  -- before the pivot of its first line a sum of lines is 0
  pub before_pivot : (ks : List ℤ) (i j : ℕ) → i < length lines → ((m : ℕ) → m < i → cell ks m ≡ pos 0) → j < e.pivot i → combined ks lines j ≡ pos 0
  before_pivot ks i j h z l = combined-none ks lines j by_place
    where
      later : (m : ℕ) → m < length lines → i ≤ m → (i ≡ m) ⊎ (i ≢ m) → cell (vector_at lines m) j ≡ pos 0
      later m g k (inl f) = subst (λ (x : ℕ). cell (vector_at lines x) j ≡ pos 0) f ((e.pivots i h).before j l)
      later m g k (inr ne) = (e.pivots m g).before j (omega (arith, e.ordered i m (omega (arith, k, ne)) g, l))

      by_place : (m : ℕ) → m < length lines → cell ks m *ℤ cell (vector_at lines m) j ≡ pos 0
      by_place m g = by_order (cases_lt m i)
        where
          by_order : (m < i) ⊎ (i ≤ m) → cell ks m *ℤ cell (vector_at lines m) j ≡ pos 0
          by_order (inl k) = zero_left (cell ks m) (cell (vector_at lines m) j) (z m k)
          by_order (inr k) = zero_right (cell ks m) (cell (vector_at lines m) j) (later m g k (cases_eq i m))

  -- the pivot of a vector that the lines span is the pivot of one of them
  pub record IsAtPivot (p : ℕ) : Type 0 where
    pub index : ℕ
    pub below : index < length lines
    pub same : e.pivot index ≡ p

  pub spanned_pivot : (v : List ℤ) (p : ℕ) (t : ℤ) (ks : List ℤ) → pos 0 <ℤ t → ((j : ℕ) → t *ℤ cell v j ≡ combined ks lines j) → IsPivot v p → IsAtPivot p
  spanned_pivot v p t ks q s w = by_first (first_factor ks (length lines))
    where
      above : pos 0 <ℤ (t *ℤ cell v p)
      above = mul-positive t (cell v p) q w.positive

      by_first : ((m : ℕ) → m < length lines → cell ks m ≡ pos 0) ⊎ IsFirstFactor ks (length lines) → IsAtPivot p
      by_first (inl z) =
          let f : combined ks lines p ≡ pos 0 = combined-none ks lines p (λ m h. zero_left (cell ks m) (cell (vector_at lines m) p) (z m h)) in
          absurd (omega (arith, ints, above, s p, f))
      by_first (inr f) = record { index = f.index; below = f.below; same = by_order (cases_order (e.pivot f.index) p) }
        where
          by_order : (e.pivot f.index ≡ p) ⊎ ((e.pivot f.index < p) ⊎ (p < e.pivot f.index)) → e.pivot f.index ≡ p
          by_order (inl g) = g
          by_order (inr (inl h)) =
              absurd (f.other (factor_zero t (cell v (e.pivot f.index)) (cell ks f.index) (cell (vector_at lines f.index) (e.pivot f.index)) (s (e.pivot f.index) ∙ at_pivot ks f.index f.below) (w.before (e.pivot f.index) h) (e.pivots f.index f.below).positive))
          by_order (inr (inr h)) =
              let g : combined ks lines p ≡ pos 0 = before_pivot ks f.index p f.below f.before h in
              absurd (omega (arith, ints, above, s p, g))

  pub pivot_injective : (i k : ℕ) → i < length lines → k < length lines → e.pivot i ≡ e.pivot k → i ≡ k
  pivot_injective i k h g f = by_order (cases_order i k)
    where
      by_order : (i ≡ k) ⊎ ((i < k) ⊎ (k < i)) → i ≡ k
      by_order (inl d) = d
      by_order (inr (inl l)) = absurd (omega (arith, e.ordered i k l g, f))
      by_order (inr (inr l)) = absurd (omega (arith, e.ordered k i l h, f))

  -- the lines descend
  pub lines_descend : IsDescending lines
  lines_descend i k h l = record {
    column = e.pivot i;
    before = λ j m. (e.pivots i (omega (arith, h, l))).before j m ∙ sym ((e.pivots k l).before j (omega (arith, e.ordered i k h l, m)));
    greater = omega (arith, ints, (e.pivots i (omega (arith, h, l))).positive, e.lines_zero i k (omega (arith, h, l)) l (λ f. omega (arith, f, h)));
  }

-- each vector of the list is spanned by the lines
abbrev pub AreSpanned : List (List ℤ) → List (List ℤ) → Type 0
AreSpanned lines vs = (i : ℕ) → i < length vs → Spans lines [] (vector_at vs i)

lines_alone : (lines : List (List ℤ)) (v : List ℤ) (s : Spans lines [] v) (j : ℕ) → s.times *ℤ cell v j ≡ combined s.line_factors lines j
lines_alone lines v s j = omega (arith, ints, s.sum j, combined-nil s.ray_factors j)

-- ---- two echelon forms that span each other's lines
module _ (lines rays other others : List (List ℤ)) (width : ℕ) (e : IsEchelon lines rays) (f : IsEchelon other others) (spanned : AreSpanned other lines) (spans : AreSpanned lines other) (wide : (i : ℕ) → i < length lines → length (vector_at lines i) ≡ width) (wide_other : (i : ℕ) → i < length other → length (vector_at other i) ≡ width) (primitive : All IsPrimitive lines) (primitive_other : All IsPrimitive other) where
  -- each line of the first has its pivot in the second
  match : (i : ℕ) → i < length lines → IsAtPivot other others f (e.pivot i)
  match i h = spanned_pivot other others f (vector_at lines i) (e.pivot i) s.times s.line_factors s.positive (lines_alone other (vector_at lines i) s) (e.pivots i h)
    where
      s : Spans other [] (vector_at lines i)
      s = spanned i h

  match_back : (m : ℕ) → m < length other → IsAtPivot lines rays e (f.pivot m)
  match_back m h = spanned_pivot lines rays e (vector_at other m) (f.pivot m) s.times s.line_factors s.positive (lines_alone lines (vector_at other m) s) (f.pivots m h)
    where
      s : Spans lines [] (vector_at other m)
      s = spans m h

  -- of the second's lines only that with its pivot occurs in line i
  others_vanish : (i : ℕ) (h : i < length lines) (x : ℕ) → x < length other → x ≢ (match i h).index → cell (spanned i h).line_factors x ≡ pos 0
  others_vanish i h x l ne =
      factor_zero s.times (cell v p) (cell s.line_factors x) (cell (vector_at other x) p) (lines_alone other v s p ∙ at_pivot other others f s.line_factors x l) zero_there (f.pivots x l).positive
    where
      v : List ℤ
      v = vector_at lines i

      p : ℕ
      p = f.pivot x

      s : Spans other [] (vector_at lines i)
      s = spanned i h

      b : IsAtPivot lines rays e (f.pivot x)
      b = match_back x l

      differs : b.index ≢ i
      differs g = ne (pivot_injective other others f x (match i h).index l (match i h).below (sym b.same ∙ ap e.pivot g ∙ sym (match i h).same))

      zero_there : cell v p ≡ pos 0
      zero_there = subst (λ (c : ℕ). cell v c ≡ pos 0) b.same (e.lines_zero b.index i b.below h differs)

  line_within : (i : ℕ) → i < length lines → Contains other (vector_at lines i)
  line_within i h = subst (λ (u : List ℤ). Contains other u) (sym equal) (Contains-get_or other m [] mb)
    where
      v : List ℤ
      v = vector_at lines i

      m : ℕ
      m = (match i h).index

      mb : (match i h).index < length other
      mb = (match i h).below

      w : List ℤ
      w = vector_at other (match i h).index

      s : Spans other [] (vector_at lines i)
      s = spanned i h

      p : ℕ
      p = e.pivot i

      multiple : (j : ℕ) → s.times *ℤ cell v j ≡ cell s.line_factors m *ℤ cell w j
      multiple j = lines_alone other v s j ∙ combined-one s.line_factors other m j (λ x l ne. zero_left (cell s.line_factors x) (cell (vector_at other x) j) (others_vanish i h x l ne))

      above : pos 0 <ℤ cell v p
      above = (e.pivots i h).positive

      above_other : pos 0 <ℤ cell w p
      above_other = subst (λ (c : ℕ). pos 0 <ℤ cell w c) (match i h).same (f.pivots m mb).positive

      equal : v ≡ w
      equal = primitive_same_at s.times (cell s.line_factors m) v w p s.positive (wide i h ∙ sym (wide_other m mb)) multiple (primitive i [] h) (primitive_other m [] mb) above above_other

  pub lines_within : IsWithin lines other
  lines_within x (k, l, g) = subst (λ (u : List ℤ). Contains other u) (get_or_default lines k [] x l ∙ g) (line_within k l)

-- two primitive reduced echelon forms of one width that span each other's lines have the same lines
pub lines_same : (lines rays other others : List (List ℤ)) (width : ℕ) → IsEchelon lines rays → IsEchelon other others → AreSpanned other lines → AreSpanned lines other → ((i : ℕ) → i < length lines → length (vector_at lines i) ≡ width) → ((i : ℕ) → i < length other → length (vector_at other i) ≡ width) → All IsPrimitive lines → All IsPrimitive other → lines ≡ other
lines_same lines rays other others width e f s t w x p q =
    descending_same lines other (lines_descend lines rays e) (lines_descend other others f)
    (lines_within lines rays other others width e f s t w x p q)
    (lines_within other others lines rays width f e t s x w q p)
