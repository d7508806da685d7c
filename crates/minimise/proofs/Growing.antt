-- A basis takes in one more vector.
use Rattle.std.proofs.Common.{◌≡◌, ◌≢◌, ◌⊎◌, inl, inr, ℕ, zero, suc, ◌+◌, ◌-◌, ◌<◌, ◌≤◌, List, [], ◌∷◌, ◌++◌, length, slice_index_or, ℤ, pos, negsuc, neg_ℤ, ◌+ℤ◌, ◌-ℤ◌, ◌*ℤ◌, ◌<ℤ◌, refl, sym, ap, ◌∙◌, subst, arith, length-append}
use Rattle.std.specs.Prelude.{All, remove}
use Rattle.std.proofs.lemmas.Int.{ints}
use Rattle.std.proofs.lemmas.Bool.{cases_lt}
use Rattle.std.proofs.lemmas.List.{get_or_append_left, get_or-append_right}
use Rattle.std.proofs.lemmas.List.Edits.{length-remove, get_or-remove_below, get_or-remove_above}
use Rattle.std.proofs.lemmas.List.Elements.{All-from_get_or, All-push}
use Rattle.row_core.specs.Vectors.{cell, combined}
use Rattle.row_core.specs.Content.{IsPrimitive}
use Rattle.row_core.proofs.Ring.{ring, mul-zero, neg-mul, one-mul}
use Rattle.row_core.proofs.CellLemmas.{cell-scale}
use Rattle.cone_laws.specs.Cones.{Spans}
use Rattle.cone_laws.specs.Canon.{IsPivot, IsEchelon}
use Rattle.row_core.specs.Lists.{vector_at}
use Rattle.row_core.specs.Signs.{sign}
use Rattle.row_core.proofs.Magnitudes.{sign_times, magnitude_above}
use Rattle.cone_laws.proofs.PrimitiveSteps.{sign_primitive}
use Rattle.cone_laws.proofs.Sums.{V, Nothing, none, SpansBy, sums_one_line, spans_sums, spans_same, spans_more, spans_spans, lines_spans_scale}
use Rattle.cone_laws.proofs.Bridge.{columns, In, in_at, to_lines, from_lines}
use Rattle.minimise.specs.Bases.{IsBasis, IsReduced, IsLeading, IsNewLine, IsCleared, IsClearedAt, HasTaken, HasGrown, IsGrown, turned_up}
use Rattle.minimise.proofs.TakenLines.{echelon_takes_line}
use Rattle.minimise.proofs.SpannedLines.{spanned_two, spanned_combined}

-- ---- numbers
one_positive : pos 0 <ℤ pos 1
one_positive = omega (arith, ints)

-- the old line from the cleared one
old_back : (t r n w c l : ℤ) → t *ℤ r ≡ n *ℤ w -ℤ c *ℤ l → n *ℤ w ≡ t *ℤ r +ℤ c *ℤ l
old_back t r n w c l e = omega (arith, ints, e)

-- the row from the reduced one
row_back : (t r f a c : ℤ) → t *ℤ r ≡ f *ℤ a +ℤ c → f *ℤ a ≡ t *ℤ r +ℤ neg_ℤ (pos 1) *ℤ c
row_back t r f a c e = let g : neg_ℤ (pos 1) *ℤ c ≡ neg_ℤ c = minus_one c in omega (arith, ints, e, g)
  where
    minus_one : (c : ℤ) → neg_ℤ (pos 1) *ℤ c ≡ neg_ℤ c
    minus_one c = neg-mul (pos 1) c ∙ ap neg_ℤ (one-mul c)

reduced_two : (t r f a c : ℤ) → t *ℤ r ≡ f *ℤ a +ℤ c → t *ℤ r ≡ f *ℤ a +ℤ pos 1 *ℤ c
reduced_two t r f a c e = omega (arith, ints, e)

cleared_two : (t r n w c l : ℤ) → t *ℤ r ≡ n *ℤ w -ℤ c *ℤ l → t *ℤ r ≡ n *ℤ w +ℤ neg_ℤ c *ℤ l
cleared_two t r n w c l e = let g : neg_ℤ c *ℤ l ≡ neg_ℤ (c *ℤ l) = turned c l in omega (arith, ints, e, g)
  where
    turned : (c l : ℤ) → neg_ℤ c *ℤ l ≡ neg_ℤ (c *ℤ l)
    turned c l = simp ring (omega (arith, ints))

-- a vector that isn't 0, with its sign
sign_square : (x y : ℤ) → x ≢ pos 0 → sign x *ℤ (sign x *ℤ y) ≡ y
sign_square (pos zero) y ne = absurd (ne refl)
sign_square (pos (suc n)) y ne = omega (arith, ints)
sign_square (negsuc n) y ne = omega (arith, ints)

magnitude_positive : (x : ℤ) → x ≢ pos 0 → pos 0 <ℤ (sign x *ℤ x)
magnitude_positive x ne = subst (λ (z : ℤ). pos 0 <ℤ z) (sym (sign_times x)) (let h = magnitude_above x ne in omega (arith, ints, h))

-- ---- the new line
module _ (lines : List (List ℤ)) (a reduced : List ℤ) (c : ℕ) (is : IsReduced lines a reduced) (lead : IsLeading reduced c) where
  pub new_line : IsNewLine lines (turned_up reduced c) c
  new_line = record {
    at = record {
      positive = subst (λ (z : ℤ). pos 0 <ℤ z) (sym (cell-scale (sign (cell reduced c)) reduced c)) (magnitude_positive (cell reduced c) lead.nonzero);
      before = λ i h. cell-scale (sign (cell reduced c)) reduced i ∙ ap (λ (z : ℤ). sign (cell reduced c) *ℤ z) (lead.before i h) ∙ mul-zero (sign (cell reduced c));
    };
    zeros = λ i p h at. cell-scale (sign (cell reduced c)) reduced p ∙ ap (λ (z : ℤ). sign (cell reduced c) *ℤ z) (is.zeros i p h at) ∙ mul-zero (sign (cell reduced c));
    primitive = sign_primitive (cell reduced c) reduced lead.nonzero is.primitive;
  }

-- ---- a basis with a line that was taken in
module _ (flat lines : List (List ℤ)) (a reduced : List ℤ) (basis : IsBasis flat lines) (is : IsReduced lines a reduced) where
  in_more : (v : V) → In flat v → In (flat ++ a ∷ []) v
  in_more v m = record {
    index = m.index;
    is = omega (arith, m.is, length-append flat (a ∷ []));
    same = λ j. m.same j ∙ ap (λ (u : List ℤ). cell u j) (sym (get_or_append_left flat (a ∷ []) [] m.index m.is));
  }

  row_in : In (flat ++ a ∷ []) (cell a)
  row_in = record {
    index = length flat;
    is = omega (arith, length-append flat (a ∷ []));
    same = λ j. ap (λ (u : List ℤ). cell u j) (sym (get_or-append_right flat (a ∷ []) (length flat) (length flat) [] refl (omega arith) ∙ ap (λ (n : ℕ). slice_index_or (a ∷ []) n []) (zero_rest (length flat))));
  }
    where
      zero_rest : (n : ℕ) → n - n ≡ 0
      zero_rest n = omega arith

  -- what one vector of the set spans
  one_of : (S : V → Type 0) (v : V) → S v → SpansBy S Nothing v
  one_of S v m = spans_sums v (sums_one_line (pos 1) v v m (λ j. once (v j)))
    where
      once : (x : ℤ) → x ≡ pos 1 *ℤ x
      once x = omega (arith, ints)

  -- the old lines are spanned by the vectors
  line_by_more : (i : ℕ) → i < length lines → SpansBy (In (flat ++ a ∷ [])) Nothing (cell (vector_at lines i))
  line_by_more i h = spans_more in_more (λ r n. n) (cell (vector_at lines i)) (to_lines flat (vector_at lines i) (basis.spanned i [] h))

  reduced_by_more : SpansBy (In (flat ++ a ∷ [])) Nothing (cell reduced)
  reduced_by_more =
      spanned_two (In (flat ++ a ∷ [])) is.times is.factor (pos 1) (cell a) (combined is.factors lines) (cell reduced) is.positive
      (one_of (In (flat ++ a ∷ [])) (cell a) row_in) (spanned_combined (In (flat ++ a ∷ [])) is.factors lines line_by_more)
      (λ j. reduced_two is.times (cell reduced j) is.factor (cell a j) (combined is.factors lines j) (is.same j))

  -- the row is spanned where the lines and the reduced row are
  row_by : (S : V → Type 0) → ((i : ℕ) → i < length lines → SpansBy S Nothing (cell (vector_at lines i))) → SpansBy S Nothing (cell reduced) → SpansBy S Nothing (cell a)
  row_by S f r = spanned_two S is.factor is.times (neg_ℤ (pos 1)) (cell reduced) (combined is.factors lines) (cell a) is.factor_positive r (spanned_combined S is.factors lines f) (λ j. row_back is.times (cell reduced j) is.factor (cell a j) (combined is.factors lines j) (is.same j))

  -- the flat vectors are spanned where the lines are
  flat_by : (S : V → Type 0) → ((i : ℕ) → i < length lines → SpansBy S Nothing (cell (vector_at lines i))) → (k : ℕ) → k < length flat → SpansBy S Nothing (cell (vector_at flat k))
  flat_by S f k h = spans_spans (λ l m. spans_same (columns lines m.index) l (f m.index m.is) m.same) (λ r n. elim n [ ]) (cell (vector_at flat k)) (to_lines lines (vector_at flat k) (basis.spans k [] h))

  all_by : (new : List (List ℤ)) → ((i : ℕ) → i < length lines → SpansBy (In new) Nothing (cell (vector_at lines i))) → SpansBy (In new) Nothing (cell reduced) → All (Spans new []) (flat ++ a ∷ [])
  all_by new f r =
      All-push (Spans new []) flat a (All-from_get_or (Spans new []) flat [] (λ k h. from_lines new (vector_at flat k) (flat_by (In new) f k h)))
      (from_lines new a (row_by (In new) f r))

  -- a row that is 0 once it is reduced
  pub basis_kept : ((j : ℕ) → cell reduced j ≡ pos 0) → IsBasis (flat ++ a ∷ []) lines
  basis_kept z = record {
    spans = all_by lines (λ i h. one_of (In lines) (cell (vector_at lines i)) (in_at lines i h)) (spans_sums (cell reduced) (none z));
    spanned = All-from_get_or (Spans (flat ++ a ∷ []) []) lines [] (λ i h. from_lines (flat ++ a ∷ []) (vector_at lines i) (line_by_more i h));
    echelon = basis.echelon;
    primitive = basis.primitive;
  }

  module _ (c : ℕ) (lead : IsLeading reduced c) (new : List (List ℤ)) (t : HasTaken c lines (turned_up reduced c) new) where
    fresh : IsNewLine lines (turned_up reduced c) c
    fresh = new_line lines a reduced c is lead

    sizes : length new ≡ length lines + 1
    sizes = omega (arith, t.cleared.as_many, length-remove new t.k t.within)

    -- a line of the new basis is the new line, or comes from an old one
    record FromOld (m : ℕ) : Type 0 where
      place : ℕ
      below : place < length lines
      made : IsCleared c (turned_up reduced c) (vector_at lines place) (vector_at new m)

    from_old : (m : ℕ) → m < length new → (m ≡ t.k) ⊎ FromOld m
    from_old m h = by_first (cases_lt m t.k)
      where
        by_second : t.k ≤ m → (t.k < m) ⊎ (m ≤ t.k) → (m ≡ t.k) ⊎ FromOld m
        by_second b (inr l) = inl (omega (arith, b, l))
        by_second b (inl l) = inr (record {
          place = m - 1;
          below = omega (arith, sizes, h, l);
          made = subst (λ (r : List ℤ). IsCleared c (turned_up reduced c) (vector_at lines (m - 1)) r) (get_or-remove_above new t.k [] (m - 1) (omega (arith, l)) t.within ∙ ap (λ (n : ℕ). slice_index_or new n []) (omega (arith, l))) (t.cleared.each (m - 1) [] [] (omega (arith, sizes, h, l)));
        })

        by_first : (m < t.k) ⊎ (t.k ≤ m) → (m ≡ t.k) ⊎ FromOld m
        by_first (inr l) = by_second l (cases_lt t.k m)
        by_first (inl l) = inr (record {
          place = m;
          below = omega (arith, sizes, t.within, l);
          made = subst (λ (r : List ℤ). IsCleared c (turned_up reduced c) (vector_at lines m) r) (get_or-remove_below new t.k [] m l t.within) (t.cleared.each m [] [] (omega (arith, sizes, t.within, l)));
        })

    -- the place of an old line in the new basis
    record ToNew (i : ℕ) : Type 0 where
      place : ℕ
      below : place < length new
      made : IsCleared c (turned_up reduced c) (vector_at lines i) (vector_at new place)

    to_new : (i : ℕ) → i < length lines → ToNew i
    to_new i h = by_first (cases_lt i t.k)
      where
        by_first : (i < t.k) ⊎ (t.k ≤ i) → ToNew i
        by_first (inl l) = record {
          place = i;
          below = omega (arith, sizes, h);
          made = subst (λ (r : List ℤ). IsCleared c (turned_up reduced c) (vector_at lines i) r) (get_or-remove_below new t.k [] i l t.within) (t.cleared.each i [] [] h);
        }
        by_first (inr l) = record {
          place = i + 1;
          below = omega (arith, sizes, h);
          made = subst (λ (r : List ℤ). IsCleared c (turned_up reduced c) (vector_at lines i) r) (get_or-remove_above new t.k [] i l t.within) (t.cleared.each i [] [] h);
        }

    -- ---- spanned by the new lines
    new_by_new : SpansBy (In new) Nothing (cell (turned_up reduced c))
    new_by_new = subst (λ (v : List ℤ). SpansBy (In new) Nothing (cell v)) t.line_is (one_of (In new) (cell (vector_at new t.k)) (in_at new t.k t.within))

    old_by_new : (i : ℕ) → i < length lines → SpansBy (In new) Nothing (cell (vector_at lines i))
    old_by_new i h =
        let o = to_new i h in
        spanned_two (In new) (cell (turned_up reduced c) c) o.made.cleared.times (cell (vector_at lines i) c) (cell (vector_at new o.place)) (cell (turned_up reduced c)) (cell (vector_at lines i)) fresh.at.positive
        (one_of (In new) (cell (vector_at new o.place)) (in_at new o.place o.below)) new_by_new
        (λ j. old_back o.made.cleared.times (cell (vector_at new o.place) j) (cell (turned_up reduced c) c) (cell (vector_at lines i) j) (cell (vector_at lines i) c) (cell (turned_up reduced c) j) (o.made.cleared.same j))

    -- a vector and the same with its sign
    turned_by : (S : V → Type 0) (v w : List ℤ) → ((j : ℕ) → cell w j ≡ sign (cell reduced c) *ℤ cell v j) → SpansBy S Nothing (cell v) → SpansBy S Nothing (cell w)
    turned_by S v w e s = lines_spans_scale (sign (cell reduced c)) (cell v) (cell w) s e

    reduced_by_new : SpansBy (In new) Nothing (cell reduced)
    reduced_by_new = turned_by (In new) (turned_up reduced c) reduced (λ j. sym (ap (λ (z : ℤ). sign (cell reduced c) *ℤ z) (cell-scale (sign (cell reduced c)) reduced j) ∙ sign_square (cell reduced c) (cell reduced j) lead.nonzero)) new_by_new

    -- ---- the new lines are spanned
    new_by_more : SpansBy (In (flat ++ a ∷ [])) Nothing (cell (turned_up reduced c))
    new_by_more = turned_by (In (flat ++ a ∷ [])) reduced (turned_up reduced c) (λ j. cell-scale (sign (cell reduced c)) reduced j) reduced_by_more

    spanned_by_more : (m : ℕ) → (m ≡ t.k) ⊎ FromOld m → SpansBy (In (flat ++ a ∷ [])) Nothing (cell (vector_at new m))
    spanned_by_more m (inl e) = subst (λ (v : List ℤ). SpansBy (In (flat ++ a ∷ [])) Nothing (cell v)) (sym (ap (λ (n : ℕ). vector_at new n) e ∙ t.line_is)) new_by_more
    spanned_by_more m (inr o) =
        spanned_two (In (flat ++ a ∷ [])) o.made.cleared.times (cell (turned_up reduced c) c) (neg_ℤ (cell (vector_at lines o.place) c)) (cell (vector_at lines o.place)) (cell (turned_up reduced c)) (cell (vector_at new m)) o.made.cleared.positive
        (line_by_more o.place o.below) new_by_more
        (λ j. cleared_two o.made.cleared.times (cell (vector_at new m) j) (cell (turned_up reduced c) c) (cell (vector_at lines o.place) j) (cell (vector_at lines o.place) c) (cell (turned_up reduced c) j) (o.made.cleared.same j))

    primitive_by : (m : ℕ) → (m ≡ t.k) ⊎ FromOld m → IsPrimitive (vector_at new m)
    primitive_by m (inl e) = subst IsPrimitive (sym (ap (λ (n : ℕ). vector_at new n) e ∙ t.line_is)) fresh.primitive
    primitive_by m (inr o) = o.made.primitive

    echelon : IsEchelon new []
    echelon =
        echelon_takes_line lines new t.k c basis.echelon t.within
        (subst (λ (v : List ℤ). IsPivot v c) (sym t.line_is) fresh.at)
        (λ i h. subst (λ (v : List ℤ). cell v (basis.echelon.pivot i) ≡ pos 0) (sym t.line_is) (fresh.zeros i (basis.echelon.pivot i) h (basis.echelon.pivots i h)))
        (λ i h l. t.place.before i (basis.echelon.pivot i) l (basis.echelon.pivots i h))
        (λ i h l. t.place.behind i (basis.echelon.pivot i) l h (basis.echelon.pivots i h))
        (record { as_many = t.cleared.as_many; each = λ i d e h. subst (λ (v : List ℤ). IsClearedAt c v (slice_index_or lines i d) (slice_index_or (remove new t.k) i e)) (sym t.line_is) (t.cleared.each i d e h).cleared })

    pub basis_taken : IsBasis (flat ++ a ∷ []) new
    basis_taken = record {
      spans = all_by new old_by_new reduced_by_new;
      spanned = All-from_get_or (Spans (flat ++ a ∷ []) []) new [] (λ m h. from_lines (flat ++ a ∷ []) (vector_at new m) (spanned_by_more m (from_old m h)));
      echelon = echelon;
      primitive = All-from_get_or IsPrimitive new [] (λ m h. primitive_by m (from_old m h));
    }

-- ---- a basis that has grown
pub basis_grown : (flat lines : List (List ℤ)) (a : List ℤ) (new : List (List ℤ)) → IsBasis flat lines → IsGrown lines a new → IsBasis (flat ++ a ∷ []) new
basis_grown flat lines a new basis g = by_outcome g.outcome
  where
    by_outcome : (((j : ℕ) → cell g.reduced j ≡ pos 0) × (new ≡ lines)) ⊎ HasGrown lines g.reduced new → IsBasis (flat ++ a ∷ []) new
    by_outcome (inl (z, e)) = subst (λ (ls : List (List ℤ)). IsBasis (flat ++ a ∷ []) ls) (sym e) (basis_kept flat lines a g.reduced basis g.is_reduced z)
    by_outcome (inr h) = basis_taken flat lines a g.reduced basis g.is_reduced h.column h.leading new h.taken

-- ---- no vector
pub basis_none : IsBasis [] []
basis_none = record {
  spans = λ i d h. absurd (omega (arith, h));
  spanned = λ i d h. absurd (omega (arith, h));
  echelon = record {
    pivot = λ i. i;
    pivots = λ i h. absurd (omega (arith, h));
    ordered = λ i k l h. absurd (omega (arith, h));
    lines_zero = λ i k h. absurd (omega (arith, h));
    rays_zero = λ i k h. absurd (omega (arith, h));
  };
  primitive = λ i d h. absurd (omega (arith, h));
}
