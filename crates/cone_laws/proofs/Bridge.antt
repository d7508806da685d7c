-- What lists of lines and rays span, and sums over the vectors of the lists: `to_sums` and `from_sums` change between the two.
use Rattle.std.proofs.Common.{◌≡◌, ℕ, zero, suc, ◌<◌, List, [], ◌∷◌, length, ℤ, pos, ◌+ℤ◌, ◌*ℤ◌, ◌≤ℤ◌, ◌<ℤ◌, All, refl, ap, arith}
use Rattle.std.proofs.lemmas.Int.{ints}
use Rattle.std.proofs.lemmas.List.Elements.{All-nil, All-cons, All-head, All-tail}
use Rattle.row_core.specs.Vectors.{cell, combined}
use Rattle.cone_laws.specs.Cones.{Spans}
use Rattle.row_core.specs.Lists.{vector_at}
use Rattle.row_core.proofs.Ring.{mul-zero, add-mul}
use Rattle.cone_laws.proofs.Sums.{V, IsMore, Nothing, Among, Sums, none, line, ray, SpansBy, sums_add, sums_more, spans_more}

-- the numbers below n
abbrev pub Below : ℕ → ℕ → Type 0
Below n i = i < n

-- the vectors of the list, by column and by number
abbrev pub columns : List (List ℤ) → ℕ → V
columns vectors i = cell (vector_at vectors i)

-- v is a vector of the list
abbrev pub In : List (List ℤ) → V → Type 0
In vectors = Among (columns vectors) (Below (length vectors))

pub in_at : (vectors : List (List ℤ)) (i : ℕ) → i < length vectors → In vectors (columns vectors i)
in_at vectors i h = record { index = i; is = h; same = λ j. refl }

-- nothing is in the list with no vector
pub in_none : (v : V) → In [] v → Nothing v
in_none v m = absurd (omega (arith, m.is))

-- ---- from lists to sums
lines_sum : (P : V → Type 0) (ks : List ℤ) (gs : List (List ℤ)) → ((i : ℕ) → i < length gs → P (columns gs i)) → Sums P Nothing (combined ks gs)
lines_sum P [] gs h = none (λ j. refl)
lines_sum P (k ∷ ks) [] h = none (λ j. refl)
lines_sum P (k ∷ ks) (g ∷ gs) h =
    line k (cell g) (combined ks gs) (h 0 (omega arith)) (lines_sum P ks gs (λ i l. h (suc i) (omega arith))) (λ j. refl)

abbrev AtLeastZero : ℤ → Type 0
AtLeastZero k = pos 0 ≤ℤ k

rays_sum : (P : V → Type 0) (ks : List ℤ) (gs : List (List ℤ)) → All AtLeastZero ks → ((i : ℕ) → i < length gs → P (columns gs i)) → Sums Nothing P (combined ks gs)
rays_sum P [] gs a h = none (λ j. refl)
rays_sum P (k ∷ ks) [] a h = none (λ j. refl)
rays_sum P (k ∷ ks) (g ∷ gs) a h =
    ray k (cell g) (combined ks gs) (All-head AtLeastZero k ks a) (h 0 (omega arith)) (rays_sum P ks gs (All-tail AtLeastZero k ks a) (λ i l. h (suc i) (omega arith))) (λ j. refl)

pub to_sums : (lines rays : List (List ℤ)) (v : List ℤ) → Spans lines rays v → SpansBy (In lines) (In rays) (cell v)
to_sums lines rays v s = record {
  times = s.times;
  positive = s.positive;
  sums = sums_add (combined s.line_factors lines) (combined s.ray_factors rays) (λ j. s.times *ℤ cell v j)
      (sums_more (λ l m. m) (λ r m. elim m [ ]) (combined s.line_factors lines) (lines_sum (In lines) s.line_factors lines (in_at lines)))
      (sums_more (λ l m. elim m [ ]) (λ r m. m) (combined s.ray_factors rays) (rays_sum (In rays) s.ray_factors rays s.at_least_zero (in_at rays)))
      s.sum;
}

-- lines alone
pub to_lines : (lines : List (List ℤ)) (v : List ℤ) → Spans lines [] v → SpansBy (In lines) Nothing (cell v)
to_lines lines v s = spans_more (λ l m. m) in_none (cell v) (to_sums lines [] v s)

-- ---- from sums to lists
-- the factors with k more at index i
abbrev put : ℕ → ℤ → List ℤ → List ℤ
put zero k [] = k ∷ []
put zero k (x ∷ ks) = (k +ℤ x) ∷ ks
put (suc i) k [] = pos 0 ∷ put i k []
put (suc i) k (x ∷ ks) = x ∷ put i k ks

times_nothing : (k : ℤ) → pos 0 ≡ k *ℤ pos 0 +ℤ pos 0
times_nothing k = omega (arith, ints, mul-zero k)

first_put : (k x g s : ℤ) → (k +ℤ x) *ℤ g +ℤ s ≡ k *ℤ g +ℤ (x *ℤ g +ℤ s)
first_put k x g s = simp (add-mul) (omega (arith, ints))

later_put : (x g k h s t : ℤ) → s ≡ k *ℤ h +ℤ t → x *ℤ g +ℤ s ≡ k *ℤ h +ℤ (x *ℤ g +ℤ t)
later_put x g k h s t e = omega (arith, ints)

zero_put : (g k h s : ℤ) → s ≡ k *ℤ h +ℤ pos 0 → pos 0 *ℤ g +ℤ s ≡ k *ℤ h +ℤ pos 0
zero_put g k h s e = omega (arith, ints)

combined-put : (i : ℕ) (k : ℤ) (ks : List ℤ) (gs : List (List ℤ)) (j : ℕ) → combined (put i k ks) gs j ≡ k *ℤ cell (vector_at gs i) j +ℤ combined ks gs j
combined-put zero k [] [] j = times_nothing k
combined-put zero k [] (g ∷ gs) j = refl
combined-put zero k (x ∷ ks) [] j = times_nothing k
combined-put zero k (x ∷ ks) (g ∷ gs) j = first_put k x (cell g j) (combined ks gs j)
combined-put (suc i) k [] [] j = times_nothing k
combined-put (suc i) k [] (g ∷ gs) j = zero_put (cell g j) k (cell (vector_at gs i) j) (combined (put i k []) gs j) (combined-put i k [] gs j)
combined-put (suc i) k (x ∷ ks) [] j = times_nothing k
combined-put (suc i) k (x ∷ ks) (g ∷ gs) j = later_put x (cell g j) k (cell (vector_at gs i) j) (combined (put i k ks) gs j) (combined ks gs j) (combined-put i k ks gs j)

added : (k x : ℤ) → pos 0 ≤ℤ k → pos 0 ≤ℤ x → pos 0 ≤ℤ (k +ℤ x)
added k x p q = omega (arith, ints)

put_at_least_zero : (i : ℕ) (k : ℤ) (ks : List ℤ) → pos 0 ≤ℤ k → All AtLeastZero ks → All AtLeastZero (put i k ks)
put_at_least_zero zero k [] p a = All-cons AtLeastZero k [] p a
put_at_least_zero zero k (x ∷ ks) p a = All-cons AtLeastZero (k +ℤ x) ks (added k x p (All-head AtLeastZero x ks a)) (All-tail AtLeastZero x ks a)
put_at_least_zero (suc i) k [] p a = All-cons AtLeastZero (pos 0) (put i k []) (omega (arith, ints)) (put_at_least_zero i k [] p a)
put_at_least_zero (suc i) k (x ∷ ks) p a = All-cons AtLeastZero x (put i k ks) (All-head AtLeastZero x ks a) (put_at_least_zero i k ks p (All-tail AtLeastZero x ks a))

-- v is combined of factors of the lines and rays
record Factors (lines rays : List (List ℤ)) (v : V) : Type 0 where
  line_factors : List ℤ
  ray_factors : List ℤ
  at_least_zero : All AtLeastZero ray_factors
  sum : (j : ℕ) → v j ≡ combined line_factors lines j +ℤ combined ray_factors rays j

none_sum : (v : ℤ) → v ≡ pos 0 → v ≡ pos 0 +ℤ pos 0
none_sum v e = omega (arith, ints)

line_sum : (v k l g u s t p : ℤ) → v ≡ k *ℤ l +ℤ u → l ≡ g → u ≡ s +ℤ t → p ≡ k *ℤ g +ℤ s → v ≡ p +ℤ t
line_sum v k l g u s t p e f h i = let m = ap (λ (z : ℤ). k *ℤ z) f in omega (arith, ints, m)

ray_sum : (v k l g u s t p : ℤ) → v ≡ k *ℤ l +ℤ u → l ≡ g → u ≡ s +ℤ t → p ≡ k *ℤ g +ℤ t → v ≡ s +ℤ p
ray_sum v k l g u s t p e f h i = let m = ap (λ (z : ℤ). k *ℤ z) f in omega (arith, ints, m)

with_line : (lines rays : List (List ℤ)) (v : V) (k : ℤ) (l u : V) → In lines l → Factors lines rays u → IsMore v k l u → Factors lines rays v
with_line lines rays v k l u m f h = record {
  line_factors = put m.index k f.line_factors;
  ray_factors = f.ray_factors;
  at_least_zero = f.at_least_zero;
  sum = λ j. line_sum (v j) k (l j) (cell (vector_at lines m.index) j) (u j) (combined f.line_factors lines j) (combined f.ray_factors rays j) (combined (put m.index k f.line_factors) lines j) (h j) (m.same j) (f.sum j) (combined-put m.index k f.line_factors lines j);
}

with_ray : (lines rays : List (List ℤ)) (v : V) (k : ℤ) (r u : V) → pos 0 ≤ℤ k → In rays r → Factors lines rays u → IsMore v k r u → Factors lines rays v
with_ray lines rays v k r u p m f h = record {
  line_factors = f.line_factors;
  ray_factors = put m.index k f.ray_factors;
  at_least_zero = put_at_least_zero m.index k f.ray_factors p f.at_least_zero;
  sum = λ j. ray_sum (v j) k (r j) (cell (vector_at rays m.index) j) (u j) (combined f.line_factors lines j) (combined f.ray_factors rays j) (combined (put m.index k f.ray_factors) rays j) (h j) (m.same j) (f.sum j) (combined-put m.index k f.ray_factors rays j);
}

factors : (lines rays : List (List ℤ)) (v : V) → Sums (In lines) (In rays) v → Factors lines rays v
factors lines rays v (none h) = record { line_factors = []; ray_factors = []; at_least_zero = All-nil AtLeastZero; sum = λ j. none_sum (v j) (h j) }
factors lines rays v (line k l u m s h) = with_line lines rays v k l u m (factors lines rays u s) h
factors lines rays v (ray k r u p m s h) = with_ray lines rays v k r u p m (factors lines rays u s) h

spans_by_factors : (lines rays : List (List ℤ)) (v : List ℤ) (t : ℤ) → pos 0 <ℤ t → Factors lines rays (λ j. t *ℤ cell v j) → Spans lines rays v
spans_by_factors lines rays v t p f = record {
  times = t;
  positive = p;
  line_factors = f.line_factors;
  ray_factors = f.ray_factors;
  at_least_zero = f.at_least_zero;
  sum = f.sum;
}

pub from_sums : (lines rays : List (List ℤ)) (v : List ℤ) → SpansBy (In lines) (In rays) (cell v) → Spans lines rays v
from_sums lines rays v s = spans_by_factors lines rays v s.times s.positive (factors lines rays (λ j. s.times *ℤ cell v j) s.sums)

pub from_lines : (lines : List (List ℤ)) (v : List ℤ) → SpansBy (In lines) Nothing (cell v) → Spans lines [] v
from_lines lines v s = from_sums lines [] v (spans_more (λ l m. m) (λ r m. elim m [ ]) (cell v) s)
