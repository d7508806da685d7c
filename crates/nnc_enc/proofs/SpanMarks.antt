-- What generators span: a sum in which a point has a positive factor.
use Rattle.std.proofs.Common.{◌≡◌, ◌≢◌, ◌⊎◌, inl, inr, ℕ, zero, suc, ◌<◌, List, [], ◌∷◌, length, replicate, slice_index_or, Bool, true, false, ℤ, pos, ◌+ℤ◌, ◌*ℤ◌, ◌≤ℤ◌, ◌<ℤ◌, refl, sym, ap, ◌∙◌, subst, arith}
use mathlib.Core.Bool.{true≢false}
use Rattle.std.proofs.lemmas.Int.{ints}
use Rattle.row_core.specs.Vectors.{cell, add, combined}
use Rattle.gens_sys.specs.Kinds.{AllowsFactor, is_line}
use Rattle.gens_sys.specs.Generators.{Generator, Generators, row_at, kind_at, rows_of}
use Rattle.gens_sys.specs.Spans.{Span}
use Rattle.gens_sys.specs.declared.kind.GenKind.{GenKind}
use Rattle.gens_sys.specs.declared.kind.GenKind.TheVariants.{Line, Ray, Point, ClosurePoint}
use Rattle.cone_laws.proofs.Sums.{V, IsMore, Same, Among, Sums, none, line, ray}
use Rattle.cone_laws.proofs.Columns.{cell-add}
use Rattle.cone_laws.proofs.Factors.{single, cell-single_same, cell-single_other, combined-single, combined-add}
use Rattle.nnc_enc.proofs.MarkedSums.{Marks, same_number}

-- the vectors of the lines of the list, of the others, and of the points
abbrev pub LineOf : List Generator → V → Type 0
LineOf list = Among (λ i. cell (row_at list i)) (λ i. (i < length list) × (is_line (kind_at list i) ≡ true))

abbrev pub OtherOf : List Generator → V → Type 0
OtherOf list = Among (λ i. cell (row_at list i)) (λ i. (i < length list) × (is_line (kind_at list i) ≡ false))

abbrev pub PointOf : List Generator → V → Type 0
PointOf list = Among (λ i. cell (row_at list i)) (λ i. (i < length list) × (kind_at list i ≡ Point))

factor_least : (k : GenKind) (z : ℤ) → is_line k ≡ false → AllowsFactor k z → pos 0 ≤ℤ z
factor_least Line z e a = absurd (true≢false e)
factor_least Ray z e a = a
factor_least Point z e a = a
factor_least ClosurePoint z e a = a

factor_allowed : (k : GenKind) (z : ℤ) → pos 0 ≤ℤ z → AllowsFactor k z
factor_allowed Line z p = tt
factor_allowed Ray z p = p
factor_allowed Point z p = p
factor_allowed ClosurePoint z p = p

line_allowed : (k : GenKind) (z : ℤ) → is_line k ≡ true → AllowsFactor k z
line_allowed Line z e = tt
line_allowed Ray z e = absurd (true≢false (sym e))
line_allowed Point z e = absurd (true≢false (sym e))
line_allowed ClosurePoint z e = absurd (true≢false (sym e))

allows_add : (k : GenKind) (x y z : ℤ) → AllowsFactor k x → AllowsFactor k y → z ≡ x +ℤ y → AllowsFactor k z
allows_add Line x y z a b e = tt
allows_add Ray x y z a b e = omega (arith, ints, a, b, e)
allows_add Point x y z a b e = omega (arith, ints, a, b, e)
allows_add ClosurePoint x y z a b e = omega (arith, ints, a, b, e)

bool_is : (b : Bool) → (b ≡ true) ⊎ (b ≡ false)
bool_is true = inl refl
bool_is false = inr refl

-- ---- from factors to a sum
sum_of : (PL PR : V → Type 0) (ks : List ℤ) (gs : List Generator) → ((i : ℕ) → i < length gs → is_line (kind_at gs i) ≡ true → PL (cell (row_at gs i))) → ((i : ℕ) → i < length gs → is_line (kind_at gs i) ≡ false → PR (cell (row_at gs i))) → ((i : ℕ) → i < length gs → AllowsFactor (kind_at gs i) (cell ks i)) → Sums PL PR (combined ks (rows_of gs))
sum_of PL PR [] gs f g a = none (λ j. refl)
sum_of PL PR (k ∷ ks) [] f g a = none (λ j. refl)
sum_of PL PR (k ∷ ks) (x ∷ gs) f g a = by_kind (bool_is (is_line x.1)) (sum_of PL PR ks gs (λ i h. f (suc i) (omega arith)) (λ i h. g (suc i) (omega arith)) (λ i h. a (suc i) (omega arith)))
  where
    by_kind : (is_line x.1 ≡ true) ⊎ (is_line x.1 ≡ false) → Sums PL PR (combined ks (rows_of gs)) → Sums PL PR (combined (k ∷ ks) (rows_of (x ∷ gs)))
    by_kind (inl e) s = line k (cell x.0) (combined ks (rows_of gs)) (f 0 (omega arith) e) s (λ j. refl)
    by_kind (inr e) s = ray k (cell x.0) (combined ks (rows_of gs)) (factor_least x.1 k e (a 0 (omega arith))) (g 0 (omega arith) e) s (λ j. refl)

record Parts (PL PR PM : V → Type 0) (v : V) : Type 0 where
  factor : ℤ
  above : pos 0 <ℤ factor
  vector : V
  marked : PM vector
  rest : V
  others : Sums PL PR rest
  same : IsMore v factor vector rest

parts_of : (PL PR PM : V → Type 0) (ks : List ℤ) (gs : List Generator) → ((i : ℕ) → i < length gs → is_line (kind_at gs i) ≡ true → PL (cell (row_at gs i))) → ((i : ℕ) → i < length gs → is_line (kind_at gs i) ≡ false → PR (cell (row_at gs i))) → ((i : ℕ) → i < length gs → AllowsFactor (kind_at gs i) (cell ks i)) → (i : ℕ) → i < length gs → PM (cell (row_at gs i)) → pos 0 <ℤ cell ks i → Parts PL PR PM (combined ks (rows_of gs))
parts_of PL PR PM [] gs f g a i h m p = absurd (omega (arith, ints, p))
parts_of PL PR PM (k ∷ ks) [] f g a i h m p = absurd (omega arith)
parts_of PL PR PM (k ∷ ks) (x ∷ gs) f g a zero h m p = record {
  factor = k;
  above = p;
  vector = cell x.0;
  marked = m;
  rest = combined ks (rows_of gs);
  others = sum_of PL PR ks gs (λ i h. f (suc i) (omega arith)) (λ i h. g (suc i) (omega arith)) (λ i h. a (suc i) (omega arith));
  same = λ j. refl;
}
parts_of PL PR PM (k ∷ ks) (x ∷ gs) f g a (suc i) h m p = by_kind (bool_is (is_line x.1)) (parts_of PL PR PM ks gs (λ i h. f (suc i) (omega arith)) (λ i h. g (suc i) (omega arith)) (λ i h. a (suc i) (omega arith)) i (omega arith) m p)
  where
    swap_more : (k x f v r c : ℤ) → c ≡ f *ℤ v +ℤ r → k *ℤ x +ℤ c ≡ f *ℤ v +ℤ (k *ℤ x +ℤ r)
    swap_more k x f v r c e = omega (arith, ints, e)

    by_kind : (is_line x.1 ≡ true) ⊎ (is_line x.1 ≡ false) → Parts PL PR PM (combined ks (rows_of gs)) → Parts PL PR PM (combined (k ∷ ks) (rows_of (x ∷ gs)))
    by_kind (inl e) s = record {
      factor = s.factor;
      above = s.above;
      vector = s.vector;
      marked = s.marked;
      rest = λ j. k *ℤ cell x.0 j +ℤ s.rest j;
      others = line k (cell x.0) s.rest (f 0 (omega arith) e) s.others (λ j. refl);
      same = λ j. swap_more k (cell x.0 j) s.factor (s.vector j) (s.rest j) (combined ks (rows_of gs) j) (s.same j);
    }
    by_kind (inr e) s = record {
      factor = s.factor;
      above = s.above;
      vector = s.vector;
      marked = s.marked;
      rest = λ j. k *ℤ cell x.0 j +ℤ s.rest j;
      others = ray k (cell x.0) s.rest (factor_least x.1 k e (a 0 (omega arith))) (g 0 (omega arith) e) s.others (λ j. refl);
      same = λ j. swap_more k (cell x.0 j) s.factor (s.vector j) (s.rest j) (combined ks (rows_of gs) j) (s.same j);
    }

pub span_marks : (gs : Generators) (v : List ℤ) → Span gs v → Marks (LineOf gs.list) (OtherOf gs.list) (PointOf gs.list) (cell v)
span_marks gs v s =
    finish (parts_of (LineOf gs.list) (OtherOf gs.list) (PointOf gs.list) s.factors gs.list (λ i h e. record { index = i; is = (h, e); same = λ j. refl }) (λ i h e. record { index = i; is = (h, e); same = λ j. refl }) s.allowed s.point.index s.point.within (record { index = s.point.index; is = (s.point.within, s.point.kind); same = λ j. refl }) s.point.positive)
  where
    finish : Parts (LineOf gs.list) (OtherOf gs.list) (PointOf gs.list) (combined s.factors (rows_of gs.list)) → Marks (LineOf gs.list) (OtherOf gs.list) (PointOf gs.list) (cell v)
    finish p = record {
      times = s.times;
      positive = s.positive;
      factor = p.factor;
      above = p.above;
      vector = p.vector;
      marked = p.marked;
      rest = p.rest;
      others = p.others;
      same = λ j. s.sum j ∙ p.same j;
    }

-- ---- from a sum to factors
length_add_single : (ks : List ℤ) (i : ℕ) (k : ℤ) → i < length ks → length (add ks (single i k)) ≡ length ks
length_add_single [] i k h = absurd (omega arith)
length_add_single (x ∷ ks) zero k h = ap suc (length_add_none ks)
  where
    length_add_none : (ks : List ℤ) → length (add ks []) ≡ length ks
    length_add_none [] = refl
    length_add_none (x ∷ ks) = refl
length_add_single (x ∷ ks) (suc i) k h = ap suc (length_add_single ks i k (omega arith))

record Fits (list : List Generator) (v : V) : Type 0 where
  factors : List ℤ
  one_each : length factors ≡ length list
  allowed : (i : ℕ) → i < length list → AllowsFactor (kind_at list i) (cell factors i)
  sum : (j : ℕ) → v j ≡ combined factors (rows_of list) j

vector_of : (list : List Generator) (i : ℕ) → i < length list → slice_index_or (rows_of list) i [] ≡ row_at list i
vector_of [] i h = absurd (omega arith)
vector_of (x ∷ list) zero h = refl
vector_of (x ∷ list) (suc i) h = vector_of list i (omega arith)

combined_zeros : (n : ℕ) (gs : List (List ℤ)) (j : ℕ) → combined (replicate n (pos 0)) gs j ≡ pos 0
combined_zeros zero gs j = refl
combined_zeros (suc n) [] j = refl
combined_zeros (suc n) (g ∷ gs) j = no_first (cell g j) (combined (replicate n (pos 0)) gs j) (combined_zeros n gs j)
  where
    no_first : (x y : ℤ) → y ≡ pos 0 → pos 0 *ℤ x +ℤ y ≡ pos 0
    no_first x y e = omega (arith, ints, e)

zeros_length : (n : ℕ) → length (replicate n (pos 0)) ≡ n
zeros_length zero = refl
zeros_length (suc n) = ap suc (zeros_length n)

zeros_entry : (n i : ℕ) → cell (replicate n (pos 0)) i ≡ pos 0
zeros_entry zero i = refl
zeros_entry (suc n) zero = refl
zeros_entry (suc n) (suc i) = zeros_entry n i

zero_allowed : (k : GenKind) (z : ℤ) → z ≡ pos 0 → AllowsFactor k z
zero_allowed k z e = factor_allowed k z (omega (arith, ints, e))

-- one multiple more
one_allowed : (list : List Generator) (k : ℤ) (i : ℕ) (u : V) → AllowsFactor (kind_at list i) k → (f : Fits list u) → (n : ℕ) → n < length list → AllowsFactor (kind_at list n) (cell (add f.factors (single i k)) n)
one_allowed list k i u a f n b = allows_add (kind_at list n) (cell f.factors n) (cell (single i k) n) (cell (add f.factors (single i k)) n) (f.allowed n b) (by_index (same_number n i)) (cell-add f.factors (single i k) n)
  where
    by_index : (n ≡ i) ⊎ (n ≢ i) → AllowsFactor (kind_at list n) (cell (single i k) n)
    by_index (inl q) = subst (λ (p : ℕ). AllowsFactor (kind_at list p) (cell (single i k) p)) (sym q) (subst (λ (z : ℤ). AllowsFactor (kind_at list i) z) (sym (cell-single_same i k)) a)
    by_index (inr ne) = zero_allowed (kind_at list n) (cell (single i k) n) (cell-single_other i n k ne)

summed : (x k l u y s t w : ℤ) → x ≡ k *ℤ l +ℤ u → l ≡ y → u ≡ s → t ≡ k *ℤ y → w ≡ s +ℤ t → x ≡ w
summed x k l u y s t w e f g h i = let n = ap (λ (z : ℤ). k *ℤ z) f in omega (arith, ints, e, n, g, h, i)

one_sum : (list : List Generator) (v : V) (k : ℤ) (i : ℕ) (l u : V) → i < length list → Same l (cell (row_at list i)) → (f : Fits list u) → IsMore v k l u → (j : ℕ) → v j ≡ combined (add f.factors (single i k)) (rows_of list) j
one_sum list v k i l u h e f m j =
    summed (v j) k (l j) (u j) (cell (row_at list i) j) (combined f.factors (rows_of list) j) (combined (single i k) (rows_of list) j) (combined (add f.factors (single i k)) (rows_of list) j) (m j) (e j) (f.sum j)
    (combined-single (rows_of list) i j k ∙ ap (λ (w : List ℤ). k *ℤ cell w j) (vector_of list i h)) (combined-add f.factors (single i k) (rows_of list) j)

with_one : (list : List Generator) (v : V) (k : ℤ) (i : ℕ) (l u : V) → i < length list → AllowsFactor (kind_at list i) k → Same l (cell (row_at list i)) → Fits list u → IsMore v k l u → Fits list v
with_one list v k i l u h a e f m = record {
  factors = add f.factors (single i k);
  one_each = length_add_single f.factors i k (omega (arith, f.one_each)) ∙ f.one_each;
  allowed = one_allowed list k i u a f;
  sum = one_sum list v k i l u h e f m;
}

fits_of : (list : List Generator) (v : V) → Sums (LineOf list) (OtherOf list) v → Fits list v
fits_of list v (none h) = record {
  factors = replicate (length list) (pos 0);
  one_each = zeros_length (length list);
  allowed = λ i b. zero_allowed (kind_at list i) (cell (replicate (length list) (pos 0)) i) (zeros_entry (length list) i);
  sum = λ j. h j ∙ sym (combined_zeros (length list) (rows_of list) j);
}
fits_of list v (line k l u m s h) = with_one list v k m.index l u m.is.0 (line_allowed (kind_at list m.index) k m.is.1) m.same (fits_of list u s) h
fits_of list v (ray k r u p m s h) = with_one list v k m.index r u m.is.0 (factor_allowed (kind_at list m.index) k p) m.same (fits_of list u s) h

pub marks_span : (gs : Generators) (v : List ℤ) → Marks (LineOf gs.list) (OtherOf gs.list) (PointOf gs.list) (cell v) → Span gs v
marks_span gs v s = finish (fits_of gs.list s.rest s.others)
  where
    least : (x : ℤ) → pos 0 <ℤ x → pos 0 ≤ℤ x
    least x h = omega (arith, ints, h)

    own : (x y z : ℤ) → z ≡ x +ℤ y → pos 0 ≤ℤ x → pos 0 <ℤ y → pos 0 <ℤ z
    own x y z e p q = omega (arith, ints, e, p, q)

    finish : Fits gs.list s.rest → Span gs v
    finish f = record {
      times = s.times;
      positive = s.positive;
      factors = add f.factors (single s.marked.index s.factor);
      one_each = length_add_single f.factors s.marked.index s.factor (omega (arith, f.one_each, s.marked.is.0)) ∙ f.one_each;
      allowed = one_allowed gs.list s.factor s.marked.index s.rest (factor_allowed (kind_at gs.list s.marked.index) s.factor (least s.factor s.above)) f;
      point = record {
        index = s.marked.index;
        within = s.marked.is.0;
        kind = s.marked.is.1;
        positive = own (cell f.factors s.marked.index) (cell (single s.marked.index s.factor) s.marked.index) (cell (add f.factors (single s.marked.index s.factor)) s.marked.index) (cell-add f.factors (single s.marked.index s.factor) s.marked.index)
            (factor_least (kind_at gs.list s.marked.index) (cell f.factors s.marked.index) (ap is_line s.marked.is.1) (f.allowed s.marked.index s.marked.is.0))
            (subst (λ (z : ℤ). pos 0 <ℤ z) (sym (cell-single_same s.marked.index s.factor)) s.above);
      };
      sum = one_sum gs.list (λ j. s.times *ℤ cell v j) s.factor s.marked.index s.vector s.rest s.marked.is.0 s.marked.same f s.same;
    }
