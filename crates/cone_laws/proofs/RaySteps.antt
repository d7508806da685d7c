-- A step that combines adjacent rays, over lists: what stands where in the new list, and what the new rays span.
use Rattle.std.proofs.Common.{◌≡◌, ◌≢◌, ◌⊎◌, inl, inr, ℕ, ◌+◌, ◌-◌, ◌<◌, ◌≤◌, List, [], ◌++◌, length, slice_index_or, Bool, true, false, ℤ, pos, ◌+ℤ◌, ◌-ℤ◌, ◌*ℤ◌, neg_ℤ, ◌≤ℤ◌, ◌<ℤ◌, All, length-append, refl, sym, ap, ◌∙◌, subst, arith}
use Rattle.std.specs.List.{filter}
use Rattle.std.proofs.lemmas.Int.{ints}
use Rattle.std.proofs.lemmas.Bool.{cases_lt}
use Rattle.std.proofs.lemmas.Bool.Decides.{Decides-int_eq}
use Rattle.std.proofs.lemmas.List.{get_or_append_left, get_or-append-add, get_or_default}
use Rattle.std.proofs.lemmas.List.Elements.{filter_passes, All-from_get_or}
use Rattle.row_core.specs.Vectors.{cell, dot}
use Rattle.row_core.specs.Lists.{Row, vector_at}
use Rattle.cone_laws.specs.Cones.{Upto, Generates, HasLineality, negated}
use Rattle.cone_laws.specs.Canon.{IsIrredundant}
use Rattle.cone_laws.specs.Steps.{IsRowAt, NoThird, IsOpposite, IsCrossing, IsPair, IsRayStep}
use Rattle.row_core.specs.Signs.{stays}
use Rattle.row_core.specs.Pairs.{pair_at}
use Rattle.cone_laws.specs.AdjacencyLaws.{IsMinimal}
use Rattle.row_core.proofs.Ring.{ring, neg-mul, zero-mul, zero_of_mul}
use Rattle.cone_laws.proofs.Sums.{V, Same, Nothing, SpansBy, same_value, sums_one_line, sums_one_ray, spans_sums, spans_same, spans_of_multiple, spans_add, spans_spans}
use Rattle.cone_laws.proofs.Columns.{value, value_linear, dot_is, dot-negated}
use Rattle.cone_laws.proofs.Bridge.{columns, In, to_sums, from_sums}
use Rattle.cone_laws.proofs.UptoRows.{Asks, zero_asks, asks_least, IsSumOf, dot_sum, upto_sum, upto_less, upto_row, upto_more}
use Rattle.cone_laws.proofs.Sides.{pairing, IsCrossed, crossing_within, pairing_is_zero}
use Rattle.cone_laws.proofs.Crossings.{PairOf, Half, half_spans}
use Rattle.cone_laws.proofs.Face.{zero_or_positive}
use Rattle.cone_laws.proofs.Systems.{System}
use Rattle.cone_laws.proofs.Adjacent.{Third, Reduced, level, crossed, reduced}
use Rattle.cone_laws.proofs.Spare.{Stepped, stayed, made, BesideKept, BesideMade, kept_needed, made_needed}
use Rattle.cone_laws.proofs.Instance.{Beside, needed_by_lists, InCone, map_at, column_value, system}
use Rattle.cone_laws.proofs.ThirdRay.{IsThird, third_or_none}
use Rattle.cone_laws.proofs.Filtered.{kept_place, kept_place-order, IsKept, kept_is, Passes, passes}

pub stays_asks : (eq : Bool) (v : ℤ) → stays eq v ≡ true → Asks eq v
stays_asks true v e = (Decides-int_eq v (pos 0)).0 e
stays_asks false v e = omega (arith, ints)

pub asks_stays : (eq : Bool) (v : ℤ) → Asks eq v → stays eq v ≡ true
asks_stays true v h = (Decides-int_eq v (pos 0)).1 h
asks_stays false v h = grind (arith, ints)

-- ---- numbers
made_column : (t r dp n dn p vp vn : ℤ) → t *ℤ r ≡ dp *ℤ n -ℤ dn *ℤ p → dp ≡ vp → dn ≡ vn → t *ℤ r ≡ vp *ℤ n +ℤ neg_ℤ vn *ℤ p
made_column t r dp n dn p vp vn e f g = e ∙ ap (λ (z : ℤ). z *ℤ n -ℤ dn *ℤ p) f ∙ ap (λ (z : ℤ). vp *ℤ n -ℤ z *ℤ p) g ∙ omega (arith, ints, neg-mul vn p)

beside_zero : (x c v : ℤ) → x ≡ c *ℤ v → x ≡ c *ℤ v +ℤ pos 0 *ℤ v
beside_zero x c v e = omega (arith, ints, zero-mul v)

spans_scale : {L R : V → Type 0} (c : ℤ) (v x : V) → pos 0 ≤ℤ c → SpansBy L R v → ((j : ℕ) → x j ≡ c *ℤ v j) → SpansBy L R x
spans_scale c v x p s e = spans_add c (pos 0) v v x p (omega (arith, ints)) s s (λ j. beside_zero (x j) c (v j) (e j))

crossed_zero : (x y : ℤ) → x *ℤ y +ℤ neg_ℤ y *ℤ x ≡ pos 0
crossed_zero x y = simp ring (omega (arith, ints))

pair_column : (x n y p vx vn vy vp : ℤ) → x ≡ vx → n ≡ vn → y ≡ vy → p ≡ vp → x *ℤ n -ℤ y *ℤ p ≡ vx *ℤ vn +ℤ neg_ℤ vy *ℤ vp
pair_column x n y p vx vn vy vp e f g h = rw (e, f, g, h) (omega (arith, ints, neg-mul vy vp))

-- where one value above 0 meets the row, each does
above_asks : (eq : Bool) (x y : ℤ) → Asks eq x → pos 0 <ℤ x → pos 0 <ℤ y → Asks eq y
above_asks true x y h p q = absurd (omega (arith, ints))
above_asks false x y h p q = omega (arith, ints)

one_line : {L : V → Type 0} (l : V) → L l → SpansBy L Nothing l
one_line l m = spans_sums l (sums_one_line (pos 1) l l m (λ j. omega (arith, ints)))

same_pair : (x y : ℕ × ℕ) → x.0 ≡ y.0 → x.1 ≡ y.1 → x ≡ y
same_pair x y e f = λ i. (e i, f i)

module _ (rows : List Row) (k : ℕ) (row : Row) (rays new : List (List ℤ)) (step : IsRayStep rows k row rays new) where
  abbrev test : List ℤ → Bool
  test r = stays row.1 (dot row.0 r)

  abbrev kept : List (List ℤ)
  kept = filter test rays

  -- the rays that stay, and then those made
  abbrev whole : List (List ℤ)
  whole = kept ++ step.made

  abbrev map : V → ℤ
  map = value row.0

  map_value : (v : List ℤ) → map (cell v) ≡ dot row.0 v
  map_value v = sym (dot_is row.0 v)

  -- ---- what stands where
  place : ℕ → ℕ
  place i = kept_place test rays i

  place_is : (i : ℕ) → i < length kept → IsKept rays kept (place i) i
  unfolding place
  place_is i b = kept_is test rays i b

  places_differ : (i m : ℕ) → i ≢ m → place i ≢ place m
  unfolding place
  places_differ i m ne e = by_order (cases_lt i m) (cases_lt m i)
    where
      by_order : (i < m) ⊎ (m ≤ i) → (m < i) ⊎ (i ≤ m) → ⊥
      by_order (inl l) g = omega (arith, kept_place-order test rays i m l, e)
      by_order (inr l) (inl g) = omega (arith, kept_place-order test rays m i g, e)
      by_order (inr l) (inr g) = ne (omega arith)

  kept_asks : (i : ℕ) → i < length kept → Asks row.1 (dot row.0 (vector_at rays (place i)))
  kept_asks i b = subst (λ (v : List ℤ). Asks row.1 (dot row.0 v)) (place_is i b).same (stays_asks row.1 (dot row.0 (vector_at kept i)) (filter_passes test rays i [] b))

  kept_same : (i : ℕ) → i < length kept → Same (columns whole i) (columns rays (place i))
  kept_same i b j = ap (λ (v : List ℤ). cell v j) (get_or_append_left kept step.made [] i b ∙ (place_is i b).same)

  pairs_below : (m : ℕ) → m < length step.made → m < length step.pairs
  pairs_below m b = omega (arith, step.each_made.as_many)

  is_pair : (m : ℕ) → m < length step.made → IsPair row.0 (vector_at rays (pair_at step.pairs m).0) (vector_at rays (pair_at step.pairs m).1) (vector_at step.made m)
  is_pair m b = (step.each_made.each m (0, 0) [] (pairs_below m b)).pair

  made_same : (m : ℕ) → vector_at whole (length kept + m) ≡ vector_at step.made m
  made_same m = get_or-append-add kept step.made m []

  -- a positive multiple of the vector made is the combination of the pair
  made_is : (m : ℕ) (b : m < length step.made) (j : ℕ) → (is_pair m b).times *ℤ columns whole (length kept + m) j ≡ pairing map (columns rays (pair_at step.pairs m).0) (columns rays (pair_at step.pairs m).1) j
  made_is m b j = ap (λ (v : List ℤ). (is_pair m b).times *ℤ cell v j) (made_same m) ∙ made_column (is_pair m b).times (cell (vector_at step.made m) j) (dot row.0 (vector_at rays (pair_at step.pairs m).0)) (columns rays (pair_at step.pairs m).1 j) (dot row.0 (vector_at rays (pair_at step.pairs m).1)) (columns rays (pair_at step.pairs m).0 j) (map (columns rays (pair_at step.pairs m).0)) (map (columns rays (pair_at step.pairs m).1)) ((is_pair m b).same j) (sym (map_value (vector_at rays (pair_at step.pairs m).0))) (sym (map_value (vector_at rays (pair_at step.pairs m).1)))

  -- a number of the new list is one of a ray that stays, or of one made
  record IsMadeAt (i : ℕ) : Type 0 where
    number : ℕ
    below : number < length step.made
    at : i ≡ length kept + number

  new_at : (i : ℕ) → i < length whole → (i < length kept) ⊎ IsMadeAt i
  new_at i b = by_order (cases_lt i (length kept))
    where
      by_order : (i < length kept) ⊎ (length kept ≤ i) → (i < length kept) ⊎ IsMadeAt i
      by_order (inl l) = inl l
      by_order (inr l) = inr (record { number = i - length kept; below = omega (arith, length-append kept step.made); at = omega arith })

  -- ---- crossings
  to_crossed : (p n : ℕ) → IsOpposite row.0 rays p n → IsCrossed (columns rays) (length rays) map p n
  to_crossed p n o = record {
    first = o.first;
    second = o.second;
    above = subst (λ (z : ℤ). pos 0 <ℤ z) (sym (map_value (vector_at rays p))) o.above;
    below = subst (λ (z : ℤ). z <ℤ pos 0) (sym (map_value (vector_at rays n))) o.below;
  }

  to_opposite : (p n : ℕ) → IsCrossed (columns rays) (length rays) map p n → IsOpposite row.0 rays p n
  to_opposite p n o = record {
    first = o.first;
    second = o.second;
    above = subst (λ (z : ℤ). pos 0 <ℤ z) (map_value (vector_at rays p)) o.above;
    below = subst (λ (z : ℤ). z <ℤ pos 0) (map_value (vector_at rays n)) o.below;
  }

  -- ---- what the new list spans
  made_in : (m : ℕ) → m < length step.made → In whole (columns whole (length kept + m))
  made_in m b = record { index = length kept + m; is = omega (arith, length-append kept step.made); same = λ j. refl }

  pub stays_in : (j : ℕ) → j < length rays → Asks row.1 (dot row.0 (vector_at rays j)) → (v : V) → Same v (columns rays j) → In whole v
  stays_in j b h v e = record {
    index = found.index;
    is = omega (arith, length-append kept step.made, found.below);
    same = λ i. e i ∙ ap (λ (u : List ℤ). cell u i) (sym (get_or_append_left kept step.made [] found.index found.below ∙ found.same));
  }
    where
      found : Passes kept (vector_at rays j)
      found = passes test rays j b (asks_stays row.1 (dot row.0 (vector_at rays j)) h)

  pub crossed_spanned : (L : V → Type 0) (p n : ℕ) → IsCrossing rows k row.0 rays p n → (v : V) → Same v (pairing map (columns rays p) (columns rays n)) → SpansBy L (In whole) v
  crossed_spanned L p n c v e = spans_sums v (sums_one_ray (is_pair m below).times (columns whole (length kept + m)) v (omega (arith, ints, (is_pair m below).positive)) (made_in m below) (λ j. e j ∙ sym (made_is m below j ∙ ap (λ (x : ℕ × ℕ). pairing map (columns rays x.0) (columns rays x.1) j) same)))
    where
      m : ℕ
      m = (step.all p n c).0

      below : m < length step.made
      below = omega (arith, step.each_made.as_many, (step.all p n c).1)

      same : pair_at step.pairs m ≡ (p, n)
      same = get_or_default step.pairs m (0, 0) (p, n) (step.all p n c).1 ∙ (step.all p n c).2

  -- ---- no new ray to spare
  module _ (width : ℕ) (lines : List (List ℤ)) (gen : Generates (Upto width rows k) lines rays) (lineal : HasLineality (Upto width rows k) lines) (needed : IsIrredundant lines rays) (at : IsRowAt rows k row) (lines_on : All (λ l. dot row.0 l ≡ pos 0) lines) where
    fits : k ≤ length rows
    fits = omega (arith, at.below)

    sys : System (In lines) (columns rays) (length rays) (map_at width rows k fits) k (InCone width rows k)
    sys = system width rows k fits lines rays gen lineal needed

    abbrev Adj : ℕ → ℕ → Type 0
    Adj = NoThird rows k rays

    lines_level : (l : V) → In lines l → map l ≡ pos 0
    lines_level l m = same_value map (value_linear row.0) l (columns lines m.index) m.same ∙ map_value (vector_at lines m.index) ∙ lines_on m.index [] m.is

    abbrev Zero : ℕ → ℕ → Type 0
    Zero i q = map_at width rows k fits i (columns rays q) ≡ pos 0

    no_third : (p n q : ℕ) → Adj p n → q < length rays → q ≢ p → q ≢ n → ¬ ((i : ℕ) → i < k → Zero i p → Zero i n → Zero i q)
    no_third p n q adjacent b qp qn between = adjacent q b qp qn (λ i l y z. sym (column_value rows i (vector_at rays q)) ∙ between i l (column_value rows i (vector_at rays p) ∙ y) (column_value rows i (vector_at rays n) ∙ z))

    third : (p n : ℕ) → IsCrossed (columns rays) (length rays) map p n → Adj p n ⊎ Third (columns rays) (length rays) (map_at width rows k fits) k p n
    third p n c = by_search (third_or_none rows rays p n k)
      where
        by_search : NoThird rows k rays p n ⊎ IsThird rows k rays p n → Adj p n ⊎ Third (columns rays) (length rays) (map_at width rows k fits) k p n
        by_search (inl h) = inl h
        by_search (inr t) = inr (record {
          index = t.index;
          below = t.below;
          not_first = t.not_first;
          not_second = t.not_second;
          between = λ i l y z. column_value rows i (vector_at rays t.index) ∙ t.between i l (sym (column_value rows i (vector_at rays p)) ∙ y) (sym (column_value rows i (vector_at rays n)) ∙ z);
        })

    module _ (Keep : ℕ → Type 0) (Make : ℕ → ℕ → Type 0) where
      abbrev New : V → Type 0
      New = Stepped (columns rays) (length rays) map Adj Keep Make

      kept_new : (i : ℕ) → i < length kept → Keep (place i) → (v : V) → Same v (columns whole i) → SpansBy (In lines) New v
      kept_new i b h v e = spans_sums v (sums_one_ray (pos 1) v v (omega (arith, ints)) (stayed (place i) (place_is i b).below (subst (λ (z : ℤ). pos 0 ≤ℤ z) (sym (map_value (vector_at rays (place i)))) (asks_least row.1 (dot row.0 (vector_at rays (place i))) (kept_asks i b))) h (λ j. e j ∙ kept_same i b j)) (λ j. omega (arith, ints)))

      made_new : (m : ℕ) → m < length step.made → Make (pair_at step.pairs m).0 (pair_at step.pairs m).1 → (v : V) → Same v (columns whole (length kept + m)) → SpansBy (In lines) New v
      made_new m b h v e = spans_of_multiple (is_pair m b).times v combination (is_pair m b).positive (spans_sums combination (sums_one_ray (pos 1) combination combination (omega (arith, ints)) (made (pair_at step.pairs m).0 (pair_at step.pairs m).1 (to_crossed (pair_at step.pairs m).0 (pair_at step.pairs m).1 (step.cross m (pairs_below m b)).opposite) (step.cross m (pairs_below m b)).adjacent h (λ j. refl)) (λ j. omega (arith, ints)))) (λ j. sym (made_is m b j) ∙ ap (λ (z : ℤ). (is_pair m b).times *ℤ z) (sym (e j)))
        where
          combination : V
          combination = pairing map (columns rays (pair_at step.pairs m).0) (columns rays (pair_at step.pairs m).1)

    kept_required : (i : ℕ) → i < length kept → ¬ (SpansBy (In lines) (Beside whole i) (columns whole i))
    kept_required i b s = kept_needed (In lines) (columns rays) (length rays) (map_at width rows k fits) k (InCone width rows k) sys map (value_linear row.0) lines_level Adj no_third (place i) (place_is i b).below least (spans_same (columns whole i) (columns rays (place i)) (spans_spans one_line other (columns whole i) s) (λ j. sym (kept_same i b j)))
      where
        least : pos 0 ≤ℤ map (columns rays (place i))
        least = subst (λ (z : ℤ). pos 0 ≤ℤ z) (sym (map_value (vector_at rays (place i)))) (asks_least row.1 (dot row.0 (vector_at rays (place i))) (kept_asks i b))

        other : (v : V) → Beside whole i v → SpansBy (In lines) (BesideKept (columns rays) (length rays) map Adj (place i)) v
        other v m = by_place (new_at m.index m.is.0)
          where
            by_place : (m.index < length kept) ⊎ IsMadeAt m.index → SpansBy (In lines) (BesideKept (columns rays) (length rays) map Adj (place i)) v
            by_place (inl c) = kept_new (λ q. q ≢ place i) (λ q n. Unit {0}) m.index c (places_differ m.index i m.is.1) v m.same
            by_place (inr c) = made_new (λ q. q ≢ place i) (λ q n. Unit {0}) c.number c.below tt v (λ j. m.same j ∙ ap (λ (q : ℕ). columns whole q j) c.at)

    made_required : (m : ℕ) → m < length step.made → ¬ (SpansBy (In lines) (Beside whole (length kept + m)) (columns whole (length kept + m)))
    made_required m b s = made_needed (In lines) (columns rays) (length rays) (map_at width rows k fits) k (InCone width rows k) sys map (value_linear row.0) lines_level Adj no_third p n (to_crossed p n (step.cross m (pairs_below m b)).opposite) (step.cross m (pairs_below m b)).adjacent (spans_scale (is_pair m b).times (columns whole (length kept + m)) (pairing map (columns rays p) (columns rays n)) (omega (arith, ints, (is_pair m b).positive)) (spans_spans one_line other (columns whole (length kept + m)) s) (λ j. sym (made_is m b j)))
      where
        p : ℕ
        p = (pair_at step.pairs m).0

        n : ℕ
        n = (pair_at step.pairs m).1

        other : (v : V) → Beside whole (length kept + m) v → SpansBy (In lines) (BesideMade (columns rays) (length rays) map Adj p n) v
        other v o = by_place (new_at o.index o.is.0)
          where
            by_place : (o.index < length kept) ⊎ IsMadeAt o.index → SpansBy (In lines) (BesideMade (columns rays) (length rays) map Adj p n) v
            by_place (inl c) = kept_new (λ q. Unit {0}) (λ q x. ¬ ((q ≡ p) × (x ≡ n))) o.index c tt v o.same
            by_place (inr c) = made_new (λ q. Unit {0}) (λ q x. ¬ ((q ≡ p) × (x ≡ n))) c.number c.below (λ e. step.distinct c.number m (pairs_below c.number c.below) (pairs_below m b) (λ f. o.is.1 (c.at ∙ ap (λ (q : ℕ). length kept + q) f)) (same_pair (pair_at step.pairs c.number) (pair_at step.pairs m) e.0 e.1)) v (λ j. o.same j ∙ ap (λ (q : ℕ). columns whole q j) c.at)

    required : (i : ℕ) → i < length whole → ¬ (SpansBy (In lines) (Beside whole i) (columns whole i))
    required i b = by_place (new_at i b)
      where
        by_place : (i < length kept) ⊎ IsMadeAt i → ¬ (SpansBy (In lines) (Beside whole i) (columns whole i))
        by_place (inl c) = kept_required i c
        by_place (inr c) = subst (λ (q : ℕ). ¬ (SpansBy (In lines) (Beside whole q) (columns whole q))) (sym c.at) (made_required c.number c.below)

    pub new_irredundant : IsIrredundant lines new
    new_irredundant = subst (λ (r : List (List ℤ)). IsIrredundant lines r) (sym step.result) (needed_by_lists lines whole required)

    -- ---- the cone of one row more
    more_within : (v : List ℤ) → Upto width rows k v → Asks row.1 (dot row.0 v) → Upto width rows (k + 1) v
    more_within v u h = upto_more width rows k row v at u h

    line_within : (l : List ℤ) → dot row.0 l ≡ pos 0 → Upto width rows k l × Upto width rows k (negated l) → Upto width rows (k + 1) l × Upto width rows (k + 1) (negated l)
    line_within l z u = (more_within l u.0 (zero_asks row.1 (dot row.0 l) z), more_within (negated l) u.1 (zero_asks row.1 (dot row.0 (negated l)) (dot-negated row.0 l ∙ ap neg_ℤ z)))

    made_sum : (m : ℕ) (b : m < length step.made) → IsSumOf (vector_at step.made m) (dot row.0 (vector_at rays (pair_at step.pairs m).0)) (vector_at rays (pair_at step.pairs m).1) (neg_ℤ (dot row.0 (vector_at rays (pair_at step.pairs m).1))) (vector_at rays (pair_at step.pairs m).0)
    made_sum m b = record { times = (is_pair m b).times; positive = (is_pair m b).positive; same = λ j. made_column (is_pair m b).times (cell (vector_at step.made m) j) (dot row.0 (vector_at rays (pair_at step.pairs m).0)) (columns rays (pair_at step.pairs m).1 j) (dot row.0 (vector_at rays (pair_at step.pairs m).1)) (columns rays (pair_at step.pairs m).0 j) (dot row.0 (vector_at rays (pair_at step.pairs m).0)) (dot row.0 (vector_at rays (pair_at step.pairs m).1)) ((is_pair m b).same j) refl refl }

    made_within : (m : ℕ) → m < length step.made → Upto width rows (k + 1) (vector_at step.made m)
    made_within m b = more_within (vector_at step.made m) (upto_sum width rows k (vector_at step.made m) (dot row.0 p) n (neg_ℤ (dot row.0 n)) p (made_sum m b) ((step.each_made.each m (0, 0) [] (pairs_below m b)).wide ∙ (gen.rays_within (pair_at step.pairs m).0 [] sides.first).wide) (omega (arith, ints, sides.above)) (omega (arith, ints, sides.below)) (gen.rays_within (pair_at step.pairs m).1 [] sides.second) (gen.rays_within (pair_at step.pairs m).0 [] sides.first)) (zero_asks row.1 (dot row.0 (vector_at step.made m)) zero_on_row)
      where
        p : List ℤ
        p = vector_at rays (pair_at step.pairs m).0

        n : List ℤ
        n = vector_at rays (pair_at step.pairs m).1

        sides : IsOpposite row.0 rays (pair_at step.pairs m).0 (pair_at step.pairs m).1
        sides = (step.cross m (pairs_below m b)).opposite

        zero_on_row : dot row.0 (vector_at step.made m) ≡ pos 0
        zero_on_row = zero_of_mul (made_sum m b).times (dot row.0 (vector_at step.made m)) (made_sum m b).positive (dot_sum row.0 (vector_at step.made m) (dot row.0 p) n (neg_ℤ (dot row.0 n)) p (made_sum m b) ∙ crossed_zero (dot row.0 p) (dot row.0 n))

    ray_within : (i : ℕ) → i < length whole → Upto width rows (k + 1) (vector_at whole i)
    ray_within i b = by_place (new_at i b)
      where
        by_place : (i < length kept) ⊎ IsMadeAt i → Upto width rows (k + 1) (vector_at whole i)
        by_place (inl c) = subst (λ (v : List ℤ). Upto width rows (k + 1) v) (sym (get_or_append_left kept step.made [] i c ∙ (place_is i c).same)) (more_within (vector_at rays (place i)) (gen.rays_within (place i) [] (place_is i c).below) (kept_asks i c))
        by_place (inr c) = subst (λ (v : List ℤ). Upto width rows (k + 1) v) (sym (ap (λ (q : ℕ). vector_at whole q) c.at ∙ made_same c.number)) (made_within c.number c.below)

    -- ---- all of it is spanned
    reduced_new : (v : V) → Reduced (columns rays) (length rays) map Adj v → SpansBy (In lines) (In whole) v
    reduced_new v (level j b z e) = spans_sums v (sums_one_ray (pos 1) v v (omega (arith, ints)) (stays_in j b (zero_asks row.1 (dot row.0 (vector_at rays j)) (sym (map_value (vector_at rays j)) ∙ z)) v e) (λ i. omega (arith, ints)))
    reduced_new v (crossed p n c adjacent e) = crossed_spanned (In lines) p n (record { opposite = to_opposite p n c; adjacent = adjacent }) v e

    on_row : (v : V) → InCone width rows k v → map v ≡ pos 0 → SpansBy (In lines) (In whole) v
    on_row v m z = spans_spans one_line reduced_new v (reduced (In lines) (columns rays) (length rays) (map_at width rows k fits) k (InCone width rows k) sys map (value_linear row.0) lines_level Adj third v m z)

    pair_new : (v : V) → PairOf (In rays) map v → SpansBy (In lines) (In whole) v
    pair_new v m = spans_same (pairing map (columns rays p) (columns rays n)) v (on_row (pairing map (columns rays p) (columns rays n)) (crossing_within (In lines) (columns rays) (length rays) (map_at width rows k fits) k (InCone width rows k) sys map p n crossed_rays) (pairing_is_zero map (value_linear row.0) (columns rays p) (columns rays n))) (λ j. m.same j ∙ pair_column (map m.first) (m.second j) (map m.second) (m.first j) (map (columns rays p)) (columns rays n j) (map (columns rays n)) (columns rays p j) first_value (m.below.is.same j) second_value (m.above.is.same j))
      where
        p : ℕ
        p = m.above.is.index

        n : ℕ
        n = m.below.is.index

        first_value : map m.first ≡ map (columns rays p)
        first_value = same_value map (value_linear row.0) m.first (columns rays p) m.above.is.same

        second_value : map m.second ≡ map (columns rays n)
        second_value = same_value map (value_linear row.0) m.second (columns rays n) m.below.is.same

        crossed_rays : IsCrossed (columns rays) (length rays) map p n
        crossed_rays = record { first = m.above.is.is; second = m.below.is.is; above = subst (λ (z : ℤ). pos 0 <ℤ z) first_value m.above.positive; below = subst (λ (z : ℤ). z <ℤ pos 0) second_value m.below.negative }

    stays_new : (v : V) (m : In rays v) → Asks row.1 (map v) → SpansBy (In lines) (In whole) v
    stays_new v m h = spans_sums v (sums_one_ray (pos 1) v v (omega (arith, ints)) (stays_in m.index m.is (subst (λ (z : ℤ). Asks row.1 z) (same_value map (value_linear row.0) v (columns rays m.index) m.same ∙ map_value (vector_at rays m.index)) h) v m.same) (λ i. omega (arith, ints)))

    half_new : (x : ℤ) → Asks row.1 x → pos 0 <ℤ x → (v : V) → Half (In rays) map v → SpansBy (In lines) (In whole) v
    half_new x h p v (inl (inl m)) = stays_new v m.is (zero_asks row.1 (map v) m.zero)
    half_new x h p v (inl (inr m)) = pair_new v m
    half_new x h p v (inr m) = stays_new v m.is (above_asks row.1 x (map v) h p m.positive)

    new_spans : (v : List ℤ) → Upto width rows k v → Asks row.1 (dot row.0 v) → SpansBy (In lines) (In whole) (cell v)
    new_spans v u h = by_value (zero_or_positive (dot row.0 v) (asks_least row.1 (dot row.0 v) h))
      where
        by_value : (dot row.0 v ≡ pos 0) ⊎ (pos 0 <ℤ dot row.0 v) → SpansBy (In lines) (In whole) (cell v)
        by_value (inl z) = on_row (cell v) (record { vector = v; upto = u; same = λ j. refl }) (map_value v ∙ z)
        by_value (inr p) = spans_spans one_line (half_new (dot row.0 v) h p) (cell v) (half_spans (In lines) (In rays) map (value_linear row.0) lines_level (cell v) (to_sums lines rays v (gen.spans v u)) (subst (λ (z : ℤ). pos 0 ≤ℤ z) (sym (map_value v)) (omega (arith, ints))))

    whole_generates : Generates (Upto width rows (k + 1)) lines whole
    whole_generates = record {
      lines_within = λ i d b. line_within (slice_index_or lines i d) (lines_on i d b) (gen.lines_within i d b);
      rays_within = All-from_get_or (Upto width rows (k + 1)) whole [] ray_within;
      spans = λ v u. from_sums lines whole v (new_spans v (upto_less width rows k v u) (upto_row width rows k row v at u));
    }

    pub new_minimal : IsMinimal (Upto width rows (k + 1)) lines new
    new_minimal = record {
      generates = subst (λ (r : List (List ℤ)). Generates (Upto width rows (k + 1)) lines r) (sym step.result) whole_generates;
      lineality = λ v u n. lineal v (upto_less width rows k v u) (upto_less width rows k (negated v) n);
      irredundant = new_irredundant;
    }
