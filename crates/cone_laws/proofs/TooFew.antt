-- Two rays on both of which too few rows are 0 have a third ray between them: linear equations in more unknowns than there are of them have a solution that isn't 0.
use Rattle.std.proofs.Common.{◌≡◌, ◌≢◌, ◌⊎◌, inl, inr, ℕ, zero, suc, ◌+◌, ◌<◌, ◌≤◌, List, [], ◌∷◌, ◌++◌, length, slice_index_or, Bool, true, false, All, ℤ, pos, ◌+ℤ◌, ◌*ℤ◌, neg_ℤ, ◌≤ℤ◌, ◌<ℤ◌, refl, sym, ap, ◌∙◌, subst, arith}
use Rattle.std.proofs.lemmas.Int.{ints}
use Rattle.std.proofs.lemmas.List.{length-append}
use Rattle.std.proofs.lemmas.List.Elements.{All-nil, All-cons, All-head, All-tail, All-contains, Contains-get_or, Contains-append_left, Contains-append_right}
use Rattle.row_core.specs.Vectors.{cell, dot, add}
use Rattle.row_core.specs.Lists.{Row, row_at, vector_at}
use Rattle.cone_laws.specs.Cones.{Upto, Spans}
use Rattle.cone_laws.specs.Steps.{NoThird}
use Rattle.cone_laws.specs.AdjacencyLaws.{IsMinimal, HoldsCommonRows, TooFewLaw}
use Rattle.row_core.proofs.Ring.{mul-zero, neg-mul, by_sign, same_or_not, zero_of_mul}
use Rattle.cone_laws.proofs.Sums.{V, same_value, SpansBy, sums_zero}
use Rattle.cone_laws.proofs.Columns.{value, value_linear, dot_is, dot_comm, dot-add, length-add}
use Rattle.cone_laws.proofs.Bridge.{In, columns, to_sums}
use Rattle.cone_laws.proofs.EchelonForm.{old_place, old_place-other, old_place-below, old_place-same}
use Rattle.cone_laws.proofs.Existence.{both, cell-both, length-both}
use Rattle.cone_laws.proofs.StepExistence.{units, are_units}
use Rattle.cone_laws.proofs.Bipolar.{dot-both, dot_zero}
use Rattle.cone_laws.proofs.UptoRows.{Asks, asks_least}
use Rattle.cone_laws.proofs.Supports.{IsGreatest, HasGreatest, greatest_ratio}
use Rattle.cone_laws.proofs.Systems.{ray_not_flat}
use Rattle.cone_laws.proofs.Sides.{zero_sum}
use Rattle.cone_laws.proofs.Adjacent.{taken_zero, left_least}
use Rattle.cone_laws.proofs.Instance.{InCone, map_at, system, column_value, row_is}
use Rattle.cone_laws.proofs.FaceLists.{face_law}

-- ---- linear equations
-- the vector is 0 on the row
abbrev IsZeroAt : List ℤ → List ℤ → Type 0
IsZeroAt v a = dot a v ≡ pos 0

product_not_zero : (a x : ℤ) → a ≢ pos 0 → x ≢ pos 0 → a *ℤ x ≢ pos 0
product_not_zero a x p q e = by_case (by_sign a)
  where
    turned : (y : ℤ) → y ≡ pos 0 → neg_ℤ y ≡ pos 0
    turned y h = omega (arith, ints)

    by_case : (pos 0 <ℤ a) ⊎ ((a <ℤ pos 0) ⊎ (a ≡ pos 0)) → ⊥
    by_case (inl h) = q (zero_of_mul a x h e)
    by_case (inr (inl h)) = q (zero_of_mul (neg_ℤ a) x (omega (arith, ints, h)) (neg-mul a x ∙ turned (a *ℤ x) e))
    by_case (inr (inr h)) = p h

sum_not_zero : (a x b y : ℤ) → a ≢ pos 0 → x ≢ pos 0 → y ≡ pos 0 → a *ℤ x +ℤ b *ℤ y ≢ pos 0
sum_not_zero a x b y p q z e = product_not_zero a x p q (first_alone (a *ℤ x) (b *ℤ y) (ap (λ (w : ℤ). b *ℤ w) z ∙ mul-zero b) e)
  where
    first_alone : (u w : ℤ) → w ≡ pos 0 → u +ℤ w ≡ pos 0 → u ≡ pos 0
    first_alone u w f g = omega (arith, ints)

-- vectors of one width that are 0 on the rows, with a column each at which the vector isn't 0 and all others are
record Family (width : ℕ) (done : List (List ℤ)) (count : ℕ) (g : ℕ → List ℤ) (column : ℕ → ℕ) : Type 0 where
  wide : (i : ℕ) → i < count → length (g i) ≡ width
  zeros : (i : ℕ) → i < count → All (IsZeroAt (g i)) done
  own : (i : ℕ) → i < count → cell (g i) (column i) ≢ pos 0
  others : (i j : ℕ) → i < count → j < count → i ≢ j → cell (g i) (column j) ≡ pos 0

-- a vector, not 0, that is 0 on the rows
record Solution (width : ℕ) (done maps : List (List ℤ)) : Type 0 where
  vector : List ℤ
  wide : length vector ≡ width
  column : ℕ
  not_zero : cell vector column ≢ pos 0
  before : All (IsZeroAt vector) done
  solves : All (IsZeroAt vector) maps

record Crossing (a : List ℤ) (g : ℕ → List ℤ) (count : ℕ) : Type 0 where
  index : ℕ
  below : index < count
  crosses : dot a (g index) ≢ pos 0

search : (a : List ℤ) (g : ℕ → List ℤ) (count : ℕ) → ((i : ℕ) → i < count → dot a (g i) ≡ pos 0) ⊎ Crossing a g count
search a g zero = inl (λ i b. absurd (omega arith))
search a g (suc c) = by_rest (search a g c) (same_or_not (dot a (g c)) (pos 0))
  where
    more : ((i : ℕ) → i < c → dot a (g i) ≡ pos 0) → dot a (g c) ≡ pos 0 → (i : ℕ) → (i < c) ⊎ (i ≡ c) → dot a (g i) ≡ pos 0
    more h e i (inl b) = h i b
    more h e i (inr f) = ap (λ (j : ℕ). dot a (g j)) f ∙ e

    by_rest : ((i : ℕ) → i < c → dot a (g i) ≡ pos 0) ⊎ Crossing a g c → (dot a (g c) ≡ pos 0) ⊎ (dot a (g c) ≢ pos 0) → ((i : ℕ) → i < suc c → dot a (g i) ≡ pos 0) ⊎ Crossing a g (suc c)
    by_rest (inr f) e = inr (record { index = f.index; below = omega (arith, f.below); crosses = f.crosses })
    by_rest (inl h) (inl e) = inl (λ i b. more h e i (grind arith))
    by_rest (inl h) (inr e) = inr (record { index = c; below = omega arith; crosses = e })

-- the others, brought onto the row by one that isn't 0 on it
module _ (width : ℕ) (done : List (List ℤ)) (c : ℕ) (g : ℕ → List ℤ) (column : ℕ → ℕ) (fam : Family width done (suc c) g column) (a : List ℤ) (f : Crossing a g (suc c)) where
  abbrev brought : ℕ → List ℤ
  brought m = both (dot a (g f.index)) (g (old_place f.index m)) (neg_ℤ (dot a (g (old_place f.index m)))) (g f.index)

  abbrev brought_column : ℕ → ℕ
  brought_column m = column (old_place f.index m)

  within : (m : ℕ) → m < c → old_place f.index m < suc c
  within m b = old_place-below f.index m (suc c) (omega arith)

  other_first : (m : ℕ) → f.index ≢ old_place f.index m
  other_first m e = old_place-other f.index m (sym e)

  brought_family : Family width (a ∷ done) c brought brought_column
  brought_family = record {
    wide = λ m b. length-both (dot a (g f.index)) (g (old_place f.index m)) (neg_ℤ (dot a (g (old_place f.index m)))) (g f.index) (fam.wide (old_place f.index m) (within m b) ∙ sym (fam.wide f.index f.below)) ∙ fam.wide f.index f.below;
    zeros = λ m b. All-cons (IsZeroAt (brought m)) a done
        (dot-both a (dot a (g f.index)) (g (old_place f.index m)) (neg_ℤ (dot a (g (old_place f.index m)))) (g f.index) ∙ taken_zero (dot a (g (old_place f.index m))) (dot a (g f.index)))
        (λ k d h. dot-both (slice_index_or done k d) (dot a (g f.index)) (g (old_place f.index m)) (neg_ℤ (dot a (g (old_place f.index m)))) (g f.index) ∙ zero_sum (dot a (g f.index)) (neg_ℤ (dot a (g (old_place f.index m)))) (dot (slice_index_or done k d) (g (old_place f.index m))) (dot (slice_index_or done k d) (g f.index)) (fam.zeros (old_place f.index m) (within m b) k d h) (fam.zeros f.index f.below k d h));
    own = λ m b e. sum_not_zero (dot a (g f.index)) (cell (g (old_place f.index m)) (brought_column m)) (neg_ℤ (dot a (g (old_place f.index m)))) (cell (g f.index) (brought_column m)) f.crosses (fam.own (old_place f.index m) (within m b)) (fam.others f.index (old_place f.index m) f.below (within m b) (other_first m)) (sym (cell-both (dot a (g f.index)) (g (old_place f.index m)) (neg_ℤ (dot a (g (old_place f.index m)))) (g f.index) (brought_column m)) ∙ e);
    others = λ m j b h ne. cell-both (dot a (g f.index)) (g (old_place f.index m)) (neg_ℤ (dot a (g (old_place f.index m)))) (g f.index) (brought_column j) ∙ zero_sum (dot a (g f.index)) (neg_ℤ (dot a (g (old_place f.index m)))) (cell (g (old_place f.index m)) (brought_column j)) (cell (g f.index) (brought_column j)) (fam.others (old_place f.index m) (old_place f.index j) (within m b) (within j h) (λ e. ne (old_place-same f.index m j e))) (fam.others f.index (old_place f.index j) f.below (within j h) (other_first j));
  }

one_less : (width : ℕ) (a : List ℤ) (done maps : List (List ℤ)) → Solution width (a ∷ done) maps → Solution width done (a ∷ maps)
one_less width a done maps s = record {
  vector = s.vector;
  wide = s.wide;
  column = s.column;
  not_zero = s.not_zero;
  before = All-tail (IsZeroAt s.vector) a done s.before;
  solves = All-cons (IsZeroAt s.vector) a maps (All-head (IsZeroAt s.vector) a done s.before) s.solves;
}

kept_family : (width : ℕ) (a : List ℤ) (done : List (List ℤ)) (count : ℕ) (g : ℕ → List ℤ) (column : ℕ → ℕ) → Family width done count g column → ((i : ℕ) → i < count → dot a (g i) ≡ pos 0) → Family width (a ∷ done) count g column
kept_family width a done count g column fam none = record {
  wide = fam.wide;
  zeros = λ i b. All-cons (IsZeroAt (g i)) a done (none i b) (fam.zeros i b);
  own = fam.own;
  others = fam.others;
}

solve_next : (width : ℕ) (a : List ℤ) (maps done : List (List ℤ)) (c : ℕ) (g : ℕ → List ℤ) (column : ℕ → ℕ) → ((count : ℕ) (h : ℕ → List ℤ) (places : ℕ → ℕ) → length maps < count → Family width (a ∷ done) count h places → Solution width (a ∷ done) maps) → length maps < c → Family width done (suc c) g column → ((i : ℕ) → i < suc c → dot a (g i) ≡ pos 0) ⊎ Crossing a g (suc c) → Solution width done (a ∷ maps)
solve_next width a maps done c g column rest h fam (inl none) = one_less width a done maps (rest (suc c) g column (omega (arith, h)) (kept_family width a done (suc c) g column fam none))
solve_next width a maps done c g column rest h fam (inr f) = one_less width a done maps (rest c (brought width done c g column fam a f) (brought_column width done c g column fam a f) h (brought_family width done c g column fam a f))

solve : (width : ℕ) (maps done : List (List ℤ)) (count : ℕ) (g : ℕ → List ℤ) (column : ℕ → ℕ) → length maps < count → Family width done count g column → Solution width done maps
solve width [] done count g column h fam = record { vector = g 0; wide = fam.wide 0 (omega arith); column = column 0; not_zero = fam.own 0 (omega arith); before = fam.zeros 0 (omega arith); solves = All-nil (IsZeroAt (g 0)) }
solve width (a ∷ maps) done zero g column h fam = absurd (omega arith)
solve width (a ∷ maps) done (suc c) g column h fam = solve_next width a maps done c g column (solve width maps (a ∷ done)) (omega (arith, h)) fam (search a g (suc c))

units_family : (width : ℕ) → Family width [] width (vector_at (units width)) (λ i. i)
units_family width = record {
  wide = λ i b. (are_units width).wide i b;
  zeros = λ i b. All-nil (IsZeroAt (vector_at (units width) i));
  own = λ i b e. one_not_zero (cell (vector_at (units width) i) i) ((are_units width).one i b) e;
  others = λ i j b h ne. (are_units width).zeros i j b ne;
}
  where
    one_not_zero : (x : ℤ) → x ≡ pos 1 → x ≡ pos 0 → ⊥
    one_not_zero x e f = omega (arith, ints)

-- ---- sums of two numbers that are at least 0
least_sum : (x y : ℤ) → pos 0 ≤ℤ x → pos 0 ≤ℤ y → pos 0 ≤ℤ (x +ℤ y)
least_sum x y p q = omega (arith, ints)

first_is_zero : (x y : ℤ) → pos 0 ≤ℤ x → pos 0 ≤ℤ y → x +ℤ y ≡ pos 0 → x ≡ pos 0
first_is_zero x y p q e = omega (arith, ints)

second_is_zero : (x y : ℤ) → pos 0 ≤ℤ x → pos 0 ≤ℤ y → x +ℤ y ≡ pos 0 → y ≡ pos 0
second_is_zero x y p q e = omega (arith, ints)

-- ---- the two rays
asks_combined : (eq : Bool) (a b z x y r : ℤ) → Asks eq a → Asks eq b → (a ≡ pos 0 → b ≡ pos 0 → z ≡ pos 0) → r ≡ x *ℤ (a +ℤ b) +ℤ y *ℤ z → pos 0 ≤ℤ r → Asks eq r
asks_combined true a b z x y r p q h e least = e ∙ zero_sum x y (a +ℤ b) z (omega (arith, ints, p, q)) (h p q)
asks_combined false a b z x y r p q h e least = least

module _ (width : ℕ) (rows : List Row) (k : ℕ) (lines rays : List (List ℤ)) (p n : ℕ) (common : List (List ℤ)) (fits : k ≤ length rows) (minimal : IsMinimal (Upto width rows k) lines rays) (bp : p < length rays) (bn : n < length rays) (holds : HoldsCommonRows rows k (vector_at rays p) (vector_at rays n) common) (few : length common + length lines + 2 < width) (alone : NoThird rows k rays p n) where
  abbrev first : List ℤ
  first = vector_at rays p

  abbrev second : List ℤ
  second = vector_at rays n

  abbrev two : List (List ℤ)
  two = vector_at rays p ∷ vector_at rays n ∷ []

  solution : Solution width [] (common ++ (lines ++ two))
  solution = solve width (common ++ (lines ++ two)) [] width (vector_at (units width)) (λ i. i) (omega (arith, length-append common (lines ++ two), length-append lines two, few)) (units_family width)

  abbrev v : List ℤ
  v = solution.vector

  common_zero : (m : ℕ) → m < k → dot (row_at rows m) first ≡ pos 0 → dot (row_at rows m) second ≡ pos 0 → dot (row_at rows m) v ≡ pos 0
  common_zero m b e f = All-contains (IsZeroAt v) (common ++ (lines ++ two)) (row_at rows m) solution.solves (Contains-append_left common (lines ++ two) (row_at rows m) (holds m b e f))

  line_zero : (i : ℕ) → i < length lines → dot (vector_at lines i) v ≡ pos 0
  line_zero i b = All-contains (IsZeroAt v) (common ++ (lines ++ two)) (vector_at lines i) solution.solves (Contains-append_right common (lines ++ two) (vector_at lines i) (Contains-append_left lines two (vector_at lines i) (Contains-get_or lines i [] b)))

  two_zero : (i : ℕ) → i < 2 → dot (vector_at two i) v ≡ pos 0
  two_zero i b = All-contains (IsZeroAt v) (common ++ (lines ++ two)) (vector_at two i) solution.solves (Contains-append_right common (lines ++ two) (vector_at two i) (Contains-append_right lines two (vector_at two i) (Contains-get_or two i [] b)))

  -- v as a map is 0 on vectors on which it is 0 by their numbers
  in_zero : (gs : List (List ℤ)) → ((i : ℕ) → i < length gs → dot (vector_at gs i) v ≡ pos 0) → (w : V) → In gs w → value v w ≡ pos 0
  in_zero gs h w m = same_value (value v) (value_linear v) w (columns gs m.index) m.same ∙ sym (dot_is v (vector_at gs m.index)) ∙ dot_comm v (vector_at gs m.index) ∙ h m.index m.is

  spanned_zero : (u : List ℤ) → Spans lines two u → dot v u ≡ pos 0
  spanned_zero u spans = dot_is v u ∙ zero_of_mul s.times (value v (cell u)) s.positive (sym ((value_linear v).multiple (λ j. s.times *ℤ cell u j) (cell u) s.times (λ j. refl)) ∙ sums_zero (value v) (value_linear v) (in_zero lines line_zero) (in_zero two two_zero) (λ j. s.times *ℤ cell u j) s.sums)
    where
      s : SpansBy (In lines) (In two) (cell u)
      s = to_sums lines two u spans

  -- the values of the rows on the sum of the two
  abbrev sums : ℕ → ℤ
  sums i = dot (row_at rows i) first +ℤ dot (row_at rows i) second

  least_at : (q : ℕ) → q < length rays → (i : ℕ) → i < k → pos 0 ≤ℤ dot (row_at rows i) (vector_at rays q)
  least_at q b i h = asks_least (slice_index_or rows i ([], false)).1 (dot (row_at rows i) (vector_at rays q)) ((minimal.generates.rays_within q [] b).meets i ([], false) (omega arith) h)

  turned_zero : (x : ℤ) → x ≡ pos 0 → neg_ℤ x ≡ pos 0
  turned_zero x e = omega (arith, ints)

  by_greatest : IsGreatest k sums (λ i. neg_ℤ (dot (row_at rows i) v)) → ⊥
  by_greatest g = solution.not_zero (dot_zero v (at_most_zero (dot v v) (zero_of_mul y (dot v v) g.above (last_zero (dot v first) (dot v second) (dot v v) (dot v u) u_is (spanned_zero u spans) (dot_comm v first ∙ two_zero 0 (omega arith)) (dot_comm v second ∙ two_zero 1 (omega arith))))) solution.column)
    where
      x : ℤ
      x = neg_ℤ (dot (row_at rows g.at) v)

      y : ℤ
      y = sums g.at

      u : List ℤ
      u = both x (add first second) y v

      u_value : (a : List ℤ) → dot a u ≡ x *ℤ (dot a first +ℤ dot a second) +ℤ y *ℤ dot a v
      u_value a = dot-both a x (add first second) y v ∙ ap (λ (z : ℤ). x *ℤ z +ℤ y *ℤ dot a v) (dot-add a first second)

      wide : length u ≡ width
      wide = length-both x (add first second) y v (length-add first second ((minimal.generates.rays_within p [] bp).wide ∙ sym (minimal.generates.rays_within n [] bn).wide) ∙ (minimal.generates.rays_within n [] bn).wide ∙ sym solution.wide) ∙ solution.wide

      least : (i : ℕ) → i < k → pos 0 ≤ℤ dot (row_at rows i) u
      least i b = rw (u_value (row_at rows i)) (left_least (sums i) y (dot (row_at rows i) v) (dot (row_at rows g.at) v) (g.most i b))

      upto : Upto width rows k u
      upto = record {
        wide = wide;
        meets = λ i d low b. asks_combined (slice_index_or rows i d).1 (dot (slice_index_or rows i d).0 first) (dot (slice_index_or rows i d).0 second) (dot (slice_index_or rows i d).0 v) x y (dot (slice_index_or rows i d).0 u) ((minimal.generates.rays_within p [] bp).meets i d low b) ((minimal.generates.rays_within n [] bn).meets i d low b)
            (λ e f. ap (λ (a : List ℤ). dot a v) (row_is rows k i d fits b) ∙ common_zero i b (ap (λ (a : List ℤ). dot a first) (sym (row_is rows k i d fits b)) ∙ e) (ap (λ (a : List ℤ). dot a second) (sym (row_is rows k i d fits b)) ∙ f))
            (u_value (slice_index_or rows i d).0)
            (subst (λ (a : List ℤ). pos 0 ≤ℤ dot a u) (sym (row_is rows k i d fits b)) (least i b));
      }

      on_face : (m : ℕ) → m < k → dot (row_at rows m) first ≡ pos 0 → dot (row_at rows m) second ≡ pos 0 → dot (row_at rows m) u ≡ pos 0
      on_face m b e f = u_value (row_at rows m) ∙ zero_sum x y (dot (row_at rows m) first +ℤ dot (row_at rows m) second) (dot (row_at rows m) v) (omega (arith, ints, e, f)) (common_zero m b e f)

      spans : Spans lines two u
      spans = (face_law width rows k lines rays p n minimal.generates minimal.irredundant bp bn).1 alone u upto on_face

      at_most_zero : (z : ℤ) → z ≡ pos 0 → z ≤ℤ pos 0
      at_most_zero z e = omega (arith, ints)

      u_is : dot v u ≡ x *ℤ (dot v first +ℤ dot v second) +ℤ y *ℤ dot v v
      u_is = u_value v

      last_zero : (a b s r : ℤ) → r ≡ x *ℤ (a +ℤ b) +ℤ y *ℤ s → r ≡ pos 0 → a ≡ pos 0 → b ≡ pos 0 → y *ℤ s ≡ pos 0
      last_zero a b s r e z f h = rest_zero (x *ℤ (a +ℤ b)) (y *ℤ s) (ap (λ (w : ℤ). x *ℤ w) (sum_zero a b f h) ∙ mul-zero x) (sym e ∙ z)
        where
          sum_zero : (a b : ℤ) → a ≡ pos 0 → b ≡ pos 0 → a +ℤ b ≡ pos 0
          sum_zero a b f h = omega (arith, ints)

          rest_zero : (c d : ℤ) → c ≡ pos 0 → c +ℤ d ≡ pos 0 → d ≡ pos 0
          rest_zero c d f h = omega (arith, ints)

  by_ratio : HasGreatest k sums (λ i. neg_ℤ (dot (row_at rows i) v)) → ⊥
  by_ratio (inl flat) = ray_not_flat (In lines) (columns rays) (length rays) (map_at width rows k fits) k (InCone width rows k) (system width rows k fits lines rays minimal.generates minimal.lineality minimal.irredundant) p bp (λ i b. column_value rows i first ∙ first_is_zero (dot (row_at rows i) first) (dot (row_at rows i) second) (least_at p bp i b) (least_at n bn i b) (flat i b))
  by_ratio (inr g) = by_greatest g

  refuted : ⊥
  refuted = by_ratio (greatest_ratio sums (λ i. neg_ℤ (dot (row_at rows i) v)) k (λ i b. least_sum (dot (row_at rows i) first) (dot (row_at rows i) second) (least_at p bp i b) (least_at n bn i b)) (λ i b e. turned_zero (dot (row_at rows i) v) (common_zero i b (first_is_zero (dot (row_at rows i) first) (dot (row_at rows i) second) (least_at p bp i b) (least_at n bn i b) e) (second_is_zero (dot (row_at rows i) first) (dot (row_at rows i) second) (least_at p bp i b) (least_at n bn i b) e))))

pub too_few_law : TooFewLaw
too_few_law = refuted
