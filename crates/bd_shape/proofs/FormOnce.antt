-- A row has one form.
use Rattle.std.specs.Prelude.{◌≡◌, ◌≢◌, ◌⊎◌, ℕ, zero, suc, ◌+◌, ◌<◌, List, length, ℤ, pos, neg_ℤ, ◌<ℤ◌}
use Rattle.std.proofs.Common.{arith, sym, ◌∙◌, ap, refl, inl, inr}
use Rattle.std.proofs.lemmas.Int.{ints}
use Rattle.row_core.specs.Vectors.{cell}
use Rattle.bd_shape.specs.Differences.{with_place}
use Rattle.bd_shape.specs.Rows.{constant_row}
use Rattle.bd_shape.specs.Forms.{IsDifference, HasThree, HasUnequal, IsOther, IsForm, scaled_row}
use Rattle.bd_shape.specs.declared.forms.Form.{Form}
use Rattle.bd_shape.specs.declared.forms.Form.TheVariants.{Constant, Difference, Other}
use Rattle.bd_shape.proofs.DifferenceRows.{length_with}
use Rattle.bd_shape.proofs.RowLists.{place_other, constant_zero, length_constant}
use Rattle.bd_shape.proofs.FormLemmas.{HasEntries, same_or, place_at}

pub entries_of : (dim : ℕ) (row : List ℤ) (i j : ℕ) (c : ℤ) → IsDifference dim row i j c → HasEntries dim row i j c
entries_of dim row i j c d = record {
  at_first = λ q l e. ap (λ (v : List ℤ). cell v q) d.same ∙ first q l e;
  at_second = λ q l e. ap (λ (v : List ℤ). cell v q) d.same ∙ second q l e;
  elsewhere = λ q l m k. ap (λ (v : List ℤ). cell v q) d.same ∙ other q l m k;
}
  where
    b : ℤ
    b = cell row dim

    u : List ℤ
    u = with_place (constant_row dim b) i c

    wide : length u ≡ dim + 1
    wide = length_with (constant_row dim b) i c ∙ length_constant dim b

    first : (q : ℕ) → q < dim → i ≡ suc q → cell (scaled_row dim i j c b) q ≡ c
    first q l e = place_other u j q (neg_ℤ c) (λ f. d.apart (e ∙ sym f)) ∙ place_at (constant_row dim b) i q c (let w = length_constant dim b in omega (arith, w)) e

    second : (q : ℕ) → q < dim → j ≡ suc q → cell (scaled_row dim i j c b) q ≡ neg_ℤ c
    second q l e = place_at u j q (neg_ℤ c) (let w = wide in omega (arith, w)) e

    other : (q : ℕ) → q < dim → i ≢ suc q → j ≢ suc q → cell (scaled_row dim i j c b) q ≡ pos 0
    other q l m k = place_other u j q (neg_ℤ c) k ∙ place_other (constant_row dim b) i q c m ∙ constant_zero dim q b l

-- ---- the signs of the entries tell the places
module _ (dim : ℕ) (row : List ℤ) (i j : ℕ) (c : ℤ) (p : pos 0 <ℤ c) (h : HasEntries dim row i j c) where
  positive_place : (q : ℕ) → q < dim → pos 0 <ℤ cell row q → i ≡ suc q
  positive_place q l s = by (same_or i (suc q)) (same_or j (suc q))
    where
      by : (i ≡ suc q) ⊎ (i ≢ suc q) → (j ≡ suc q) ⊎ (j ≢ suc q) → i ≡ suc q
      by (inl e) f = e
      by (inr m) (inl e) = absurd (let g = h.at_second q l e in omega (arith, ints, g, s, p))
      by (inr m) (inr k) = absurd (let g = h.elsewhere q l m k in omega (arith, ints, g, s))

  negative_place : (q : ℕ) → q < dim → cell row q <ℤ pos 0 → j ≡ suc q
  negative_place q l s = by (same_or i (suc q)) (same_or j (suc q))
    where
      by : (i ≡ suc q) ⊎ (i ≢ suc q) → (j ≡ suc q) ⊎ (j ≢ suc q) → j ≡ suc q
      by m (inl e) = e
      by (inl e) (inr m) = absurd (let g = h.at_first q l e in omega (arith, ints, g, s, p))
      by (inr m) (inr k) = absurd (let g = h.elsewhere q l m k in omega (arith, ints, g, s))

  nonzero_place : (q : ℕ) → q < dim → cell row q ≢ pos 0 → (i ≡ suc q) ⊎ (j ≡ suc q)
  nonzero_place q l n = by (same_or i (suc q)) (same_or j (suc q))
    where
      by : (i ≡ suc q) ⊎ (i ≢ suc q) → (j ≡ suc q) ⊎ (j ≢ suc q) → (i ≡ suc q) ⊎ (j ≡ suc q)
      by (inl e) f = inl e
      by (inr m) (inl e) = inr e
      by (inr m) (inr k) = absurd (n (h.elsewhere q l m k))

  first_positive : i < dim + 1 → (q : ℕ) → i ≡ suc q → pos 0 <ℤ cell row q
  first_positive l q e = let g = h.at_first q (omega arith) e in omega (arith, ints, g, p)

  second_negative : j < dim + 1 → (q : ℕ) → j ≡ suc q → cell row q <ℤ pos 0
  second_negative l q e = let g = h.at_second q (omega arith) e in omega (arith, ints, g, p)

  not_three : HasThree dim row → ⊥
  not_three t = by (nonzero_place t.first (let a = t.before in let b = t.between in let d = t.within in omega arith) t.first_one) (nonzero_place t.second (let b = t.between in let d = t.within in omega arith) t.second_one) (nonzero_place t.third t.within t.third_one) t.before t.between
    where
      by : (i ≡ suc t.first) ⊎ (j ≡ suc t.first) → (i ≡ suc t.second) ⊎ (j ≡ suc t.second) → (i ≡ suc t.third) ⊎ (j ≡ suc t.third) → t.first < t.second → t.second < t.third → ⊥
      by (inl a) (inl b) d x y = omega arith
      by (inl a) (inr b) (inl d) x y = omega arith
      by (inl a) (inr b) (inr d) x y = omega arith
      by (inr a) (inl b) (inl d) x y = omega arith
      by (inr a) (inl b) (inr d) x y = omega arith
      by (inr a) (inr b) d x y = omega arith

  not_unequal : HasUnequal dim row → ⊥
  not_unequal t = by (nonzero_place t.first (let a = t.before in let d = t.within in omega arith) t.first_one) (nonzero_place t.second t.within t.second_one) t.before t.within
    where
      by : (i ≡ suc t.first) ⊎ (j ≡ suc t.first) → (i ≡ suc t.second) ⊎ (j ≡ suc t.second) → t.first < t.second → t.second < dim → ⊥
      by (inl a) (inl b) x y = omega arith
      by (inl a) (inr b) x y = t.unequal (let g = h.at_first t.first (omega arith) a in let k = h.at_second t.second y b in omega (arith, ints, g, k))
      by (inr a) (inl b) x y = t.unequal (let g = h.at_second t.first (omega arith) a in let k = h.at_first t.second y b in omega (arith, ints, g, k))
      by (inr a) (inr b) x y = omega arith

  pub not_other : IsOther dim row → ⊥
  not_other (inl t) = not_three t
  not_other (inr t) = not_unequal t

  -- some entry isn't 0
  pub not_zero : i < dim + 1 → j < dim + 1 → i ≢ j → ((q : ℕ) → q < dim → cell row q ≡ pos 0) → ⊥
  not_zero li lj n z = by i refl j refl
    where
      by : (a : ℕ) → i ≡ a → (b : ℕ) → j ≡ b → ⊥
      by zero e zero f = n (e ∙ sym f)
      by (suc q) e b f = let g = first_positive li q e in let k = z q (omega arith) in omega (arith, ints, g, k)
      by zero e (suc q) f = let g = second_negative lj q f in let k = z q (omega arith) in omega (arith, ints, g, k)

-- ---- one difference
places_once : (a b : ℕ) → ((k : ℕ) → a ≡ suc k → b ≡ suc k) → ((k : ℕ) → b ≡ suc k → a ≡ suc k) → a ≡ b
places_once zero zero f g = refl
places_once zero (suc b) f g = g b refl
places_once (suc a) b f g = sym (f a refl)

same_negative : (c d x : ℤ) → x ≡ neg_ℤ c → x ≡ neg_ℤ d → c ≡ d
same_negative c d x e f = omega (arith, ints, e, f)

module _ (dim : ℕ) (row : List ℤ) (i j k l : ℕ) (c d : ℤ) (x : IsDifference dim row i j c) (y : IsDifference dim row k l d) where
  hx : HasEntries dim row i j c
  hx = entries_of dim row i j c x

  hy : HasEntries dim row k l d
  hy = entries_of dim row k l d y

  first_to : (q : ℕ) → i ≡ suc q → k ≡ suc q
  first_to q e = let b = x.first in positive_place dim row k l d y.positive hy q (omega arith) (first_positive dim row i j c x.positive hx x.first q e)

  first_from : (q : ℕ) → k ≡ suc q → i ≡ suc q
  first_from q e = let b = y.first in positive_place dim row i j c x.positive hx q (omega arith) (first_positive dim row k l d y.positive hy y.first q e)

  second_to : (q : ℕ) → j ≡ suc q → l ≡ suc q
  second_to q e = let b = x.second in negative_place dim row k l d y.positive hy q (omega arith) (second_negative dim row i j c x.positive hx x.second q e)

  second_from : (q : ℕ) → l ≡ suc q → j ≡ suc q
  second_from q e = let b = y.second in negative_place dim row i j c x.positive hx q (omega arith) (second_negative dim row k l d y.positive hy y.second q e)

  pub first_once : i ≡ k
  first_once = places_once i k first_to first_from

  pub second_once : j ≡ l
  second_once = places_once j l second_to second_from

  pub factor_once : c ≡ d
  factor_once = by i refl j refl
    where
      by : (a : ℕ) → i ≡ a → (b : ℕ) → j ≡ b → c ≡ d
      by zero e zero f = absurd (x.apart (e ∙ sym f))
      by (suc q) e b f = let s = x.first in let less : q < dim = omega arith in sym (hx.at_first q less e) ∙ hy.at_first q less (first_to q e)
      by zero e (suc q) f = let s = x.second in let less : q < dim = omega arith in same_negative c d (cell row q) (hx.at_second q less f) (hy.at_second q less (second_to q f))

-- ---- the other forms
constant_entries : (dim : ℕ) (row : List ℤ) → row ≡ constant_row dim (cell row dim) → (q : ℕ) → q < dim → cell row q ≡ pos 0
constant_entries dim row e q l = ap (λ (v : List ℤ). cell v q) e ∙ constant_zero dim q (cell row dim) l

constant_not_other : (dim : ℕ) (row : List ℤ) → row ≡ constant_row dim (cell row dim) → IsOther dim row → ⊥
constant_not_other dim row e (inl t) = t.third_one (constant_entries dim row e t.third t.within)
constant_not_other dim row e (inr t) = t.second_one (constant_entries dim row e t.second t.within)

pub constant_no_difference : (dim : ℕ) (row : List ℤ) (i j : ℕ) (c : ℤ) → row ≡ constant_row dim (cell row dim) → IsDifference dim row i j c → ⊥
constant_no_difference dim row i j c e d = not_zero dim row i j c d.positive (entries_of dim row i j c d) d.first d.second d.apart (constant_entries dim row e)

pub form_not_other : (dim : ℕ) (row : List ℤ) (r : Form) → IsForm dim row r → (r ≡ Other → ⊥) → IsOther dim row → ⊥
form_not_other dim row Constant f n = constant_not_other dim row f
form_not_other dim row (Difference i j c) f n = not_other dim row i j c f.positive (entries_of dim row i j c f)
form_not_other dim row Other f n = absurd (n refl)
