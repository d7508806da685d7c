-- The pairs of adjacent rays that were found so far.
use Rattle.std.specs.Prelude.{◌≡◌, ◌≢◌, ℕ, ◌+◌, ◌<◌, ◌⊎◌, true, List, [], ◌∷◌, ◌++◌, length, ℤ, pos, ◌<ℤ◌, int_lt, Contains}
use Rattle.std.proofs.Common.{refl, sym, ap, ◌∙◌, subst, arith, inl, inr}
use Rattle.std.proofs.lemmas.List.{get_or_append_left, get_or_push, length_push}
use Rattle.std.proofs.lemmas.List.Elements.{Contains-append_left, Contains-push}
use Rattle.std.proofs.lemmas.Bool.{cases_lt, true_from_ne_false}
use Rattle.row_core.specs.Pairs.{value_at, pair_at, IsPairAt}
use Rattle.row_core.proofs.SignTests.{above_zero, not_above, under_zero, not_under}
use Rattle.sat_matrix.specs.Tables.{Table}
use Rattle.sat_matrix.specs.Pairs.{is_on, pair_on, index_at, AreRising, AreOn, IsAdjacent, pair_of, IsBefore, IsFoundAt, AreFound, AreAllFound, AreAllCrosses}
use Rattle.sat_matrix.specs.declared.adjacency.Side.{Side}
use Rattle.sat_matrix.specs.declared.adjacency.Side.TheVariants.{Above, Below}

pub pair_at-push_before : (pairs : List (ℕ × ℕ)) (p : ℕ × ℕ) (i : ℕ) → i < length pairs → pair_at (pairs ++ p ∷ []) i ≡ pair_at pairs i
pair_at-push_before pairs p i h = get_or_append_left pairs (p ∷ []) (0, 0) i h

pub pair_at-push_last : (pairs : List (ℕ × ℕ)) (p : ℕ × ℕ) (i : ℕ) → length pairs ≡ i → pair_at (pairs ++ p ∷ []) i ≡ p
pair_at-push_last pairs p i h = get_or_push pairs p (0, 0) i h

-- what holds of each pair and of one more
pub pairs_push : (P : ℕ × ℕ → Type 0) (pairs : List (ℕ × ℕ)) (p : ℕ × ℕ) → ((i : ℕ) → i < length pairs → P (pair_at pairs i)) → P p → (i : ℕ) → i < length (pairs ++ p ∷ []) → P (pair_at (pairs ++ p ∷ []) i)
pairs_push P pairs p all one i h =
    elim (cases_lt i (length pairs)) [
      | inl less ↦ subst P (sym (pair_at-push_before pairs p i less)) (all i less)
      | inr more ↦ subst P (sym (pair_at-push_last pairs p i (omega (arith, length_push pairs p)))) one
    ]

pub distinct_push : (pairs : List (ℕ × ℕ)) (p : ℕ × ℕ) → ((i j : ℕ) → i < length pairs → j < length pairs → i ≢ j → pair_at pairs i ≢ pair_at pairs j) → ((i : ℕ) → i < length pairs → pair_at pairs i ≢ p) → (i j : ℕ) → i < length (pairs ++ p ∷ []) → j < length (pairs ++ p ∷ []) → i ≢ j → pair_at (pairs ++ p ∷ []) i ≢ pair_at (pairs ++ p ∷ []) j
distinct_push pairs p old other i j hi hj ne e =
    let size = length_push pairs p in
    elim (cases_lt i (length pairs)) [
      | inl i_less ↦ elim (cases_lt j (length pairs)) [
        | inl j_less ↦ old i j i_less j_less ne (sym (pair_at-push_before pairs p i i_less) ∙ e ∙ pair_at-push_before pairs p j j_less)
        | inr j_more ↦ other i i_less (sym (pair_at-push_before pairs p i i_less) ∙ e ∙ pair_at-push_last pairs p j (omega (arith, size)))
      ]
      | inr i_more ↦ elim (cases_lt j (length pairs)) [
        | inl j_less ↦ other j j_less (sym (pair_at-push_before pairs p j j_less) ∙ sym e ∙ pair_at-push_last pairs p i (omega (arith, size)))
        | inr j_more ↦ ne (omega (arith, size))
      ]
    ]

-- ---- the adjacent pairs of the two sides
pub pair_on_within : (side : Side) (outer inner bound : ℕ) → outer < bound → inner < bound → ((pair_on side outer inner).0 < bound) × ((pair_on side outer inner).1 < bound)
pair_on_within Above outer inner bound first second = (first, second)
pair_on_within Below outer inner bound first second = (second, first)

pair_on_parts : (side : Side) (m n p q : ℕ) → pair_on side m n ≡ pair_on side p q → (m ≡ p) × (n ≡ q)
pair_on_parts Above m n p q e = (ap (λ (pair : ℕ × ℕ). pair.0) e, ap (λ (pair : ℕ × ℕ). pair.1) e)
pair_on_parts Below m n p q e = (ap (λ (pair : ℕ × ℕ). pair.1) e, ap (λ (pair : ℕ × ℕ). pair.0) e)

pub found_none : (side : Side) (table : Table) (outer inner : List ℕ) → AreFound side table outer inner 0 0 []
found_none side table outer inner = record {
  each = λ i h. absurd (omega (arith, h));
  all = λ p q first second before. elim before [ inl less ↦ absurd (omega (arith, less)) | inr at ↦ absurd (omega (arith, at.1)) ];
  distinct = λ i j h g ne e. absurd (omega (arith, h));
}

module _ (side : Side) (table : Table) (outer inner : List ℕ) (bound next : ℕ) (pairs : List (ℕ × ℕ)) (h : AreFound side table outer inner bound next pairs) where
  -- the pairs of earlier positions are other ones
  earlier_pair : (rows p q : ℕ) → AreRising rows outer → AreRising rows inner → bound < length outer → next < length inner → IsBefore bound next p q → pair_of side outer inner p q ≢ pair_of side outer inner bound next
  earlier_pair rows p q rising_outer rising_inner first second before e =
      let same = pair_on_parts side (index_at outer p) (index_at inner q) (index_at outer bound) (index_at inner next) e in
      elim before [
        | inl less ↦ omega (arith, rising_outer.increasing p bound less first, same.0)
        | inr at ↦ omega (arith, rising_inner.increasing q next at.1 second, same.1)
      ]

  -- the same pair, with other bounds
  found_before : (pair : ℕ × ℕ) (bound_after next_after : ℕ) (f : IsFoundAt side table outer inner bound next pair) → IsBefore bound_after next_after f.p f.q → IsFoundAt side table outer inner bound_after next_after pair
  found_before pair bound_after next_after f before = record { p = f.p; q = f.q; first = f.first; second = f.second; before = before; same = f.same; adjacent = f.adjacent }

  later : (i : ℕ) → i < length pairs → IsFoundAt side table outer inner bound (next + 1) (pair_at pairs i)
  later i inside =
      let f = h.each i inside in
      found_before (pair_at pairs i) bound (next + 1) f (elim f.before [ inl less ↦ inl less | inr at ↦ inr (at.0, omega (arith, at.1)) ])

  at_next : (p q : ℕ) → IsBefore bound (next + 1) p q → IsBefore bound next p q ⊎ ((bound ≡ p) × (next ≡ q))
  at_next p q before = elim before [
    | inl less ↦ inl (inl less)
    | inr at ↦ elim (cases_lt q next) [ inl less ↦ inl (inr (at.0, less)) | inr more ↦ inr (sym at.0, omega (arith, at.1)) ]
  ]

  -- an adjacent pair more
  pub found_push : (rows : ℕ) → AreRising rows outer → AreRising rows inner → bound < length outer → next < length inner → IsAdjacent table (pair_of side outer inner bound next) → AreFound side table outer inner bound (next + 1) (pairs ++ pair_of side outer inner bound next ∷ [])
  found_push rows rising_outer rising_inner first second adjacent =
      let new = pair_of side outer inner bound next in
      record {
        each = pairs_push (IsFoundAt side table outer inner bound (next + 1)) pairs new later
            (record { p = bound; q = next; first = first; second = second; before = inr (refl, omega arith); same = refl; adjacent = adjacent });
        all = λ p q within_outer within_inner before is. elim (at_next p q before) [
          | inl earlier ↦ Contains-append_left pairs (new ∷ []) (pair_of side outer inner p q) (h.all p q within_outer within_inner earlier is)
          | inr here ↦ subst (λ m. Contains (pairs ++ new ∷ []) (pair_of side outer inner m q)) here.0 (subst (λ m. Contains (pairs ++ new ∷ []) (pair_of side outer inner bound m)) here.1 (Contains-push pairs new))
        ];
        distinct = distinct_push pairs new h.distinct (λ i inside e.
            let f = h.each i inside in
            earlier_pair rows f.p f.q rising_outer rising_inner first second f.before (f.same ∙ e));
      }

  -- a pair that isn't adjacent
  pub found_skip : ¬ (IsAdjacent table (pair_of side outer inner bound next)) → AreFound side table outer inner bound (next + 1) pairs
  found_skip apart = record {
    each = later;
    all = λ p q within_outer within_inner before is. elim (at_next p q before) [
      | inl earlier ↦ h.all p q within_outer within_inner earlier is
      | inr here ↦ absurd (apart (subst (λ m. IsAdjacent table (pair_of side outer inner bound m)) (sym here.1) (subst (λ m. IsAdjacent table (pair_of side outer inner m q)) (sym here.0) is)))
    ];
    distinct = h.distinct;
  }

  -- all positions of the inner side were tried
  pub found_row : next ≡ length inner → AreFound side table outer inner (bound + 1) 0 pairs
  found_row end = record {
    each = λ i inside.
        let f = h.each i inside in
        found_before (pair_at pairs i) (bound + 1) 0 f (elim f.before [ inl less ↦ inl (omega (arith, less)) | inr at ↦ inl (omega (arith, at.0)) ]);
    all = λ p q within_outer within_inner before is. h.all p q within_outer within_inner
        (elim before [
          | inl less ↦ elim (cases_lt p bound) [ inl earlier ↦ inl earlier | inr more ↦ inr (omega (arith, less), omega arith) ]
          | inr at ↦ absurd (omega (arith, at.1))
        ]) is;
    distinct = h.distinct;
  }

-- ---- the pairs that cross
abbrev other : Side → Side
other Above = Below
other Below = Above

on_above : (u : ℤ) → pos 0 <ℤ u → int_lt (pos 0) u ≡ true
on_above u h = true_from_ne_false (int_lt (pos 0) u) (λ e. not_above u e h)

on_below : (u : ℤ) → u <ℤ pos 0 → int_lt u (pos 0) ≡ true
on_below u h = true_from_ne_false (int_lt u (pos 0)) (λ e. not_under u e h)

opposite_pair : (side : Side) (values : List ℤ) (m n : ℕ) → m < length values → n < length values → is_on side (value_at values m) ≡ true → is_on (other side) (value_at values n) ≡ true → IsPairAt values (pair_on side m n).0 (pair_on side m n).1
opposite_pair Above values m n first second one two = record { first = first; second = second; above = above_zero (value_at values m) one; below = under_zero (value_at values n) two }
opposite_pair Below values m n first second one two = record { first = second; second = first; above = above_zero (value_at values n) two; below = under_zero (value_at values m) one }

pair_same : (a b m n : ℕ) → a ≡ m → b ≡ n → let left : ℕ × ℕ = (a, b) in let right : ℕ × ℕ = (m, n) in left ≡ right
pair_same a b m n first second = cc

-- the positions of a pair of opposite rays
positions : (side : Side) (values : List ℤ) (outer inner : List ℕ) (m n : ℕ) → AreOn side values (length values) outer → AreOn (other side) values (length values) inner → IsPairAt values m n → (p q : ℕ) × (p < length outer) × (q < length inner) × (pair_of side outer inner p q ≡ (m, n))
positions Above values outer inner m n on_outer on_inner is =
    let a = on_outer.all m is.first (on_above (value_at values m) is.above) in
    let b = on_inner.all n is.second (on_below (value_at values n) is.below) in
    (a.0, b.0, a.1, b.1, pair_same (index_at outer a.0) (index_at inner b.0) m n a.2 b.2)
positions Below values outer inner m n on_outer on_inner is =
    let a = on_inner.all m is.first (on_above (value_at values m) is.above) in
    let b = on_outer.all n is.second (on_below (value_at values n) is.below) in
    (b.0, a.0, b.1, a.1, pair_same (index_at inner a.0) (index_at outer b.0) m n a.2 b.2)

crosses_from : (side : Side) (values : List ℤ) (table : Table) (outer inner : List ℕ) (pairs : List (ℕ × ℕ)) → AreOn side values (length values) outer → AreOn (other side) values (length values) inner → AreFound side table outer inner (length outer) 0 pairs → AreAllCrosses values table pairs
crosses_from side values table outer inner pairs on_outer on_inner found = record {
  each = λ i inside.
      let f = found.each i inside in
      record {
        pair = subst (λ (pair : ℕ × ℕ). IsPairAt values pair.0 pair.1) f.same (opposite_pair side values (index_at outer f.p) (index_at inner f.q) (on_outer.rising.within f.p f.first) (on_inner.rising.within f.q f.second) (on_outer.on f.p f.first) (on_inner.on f.q f.second));
        no_third = f.adjacent;
      };
  all = λ m n is.
      let at = positions side values outer inner m n on_outer on_inner is.pair in
      subst (λ (pair : ℕ × ℕ). Contains pairs pair) at.4 (found.all at.0 at.1 at.2 at.3 (inl at.2) (subst (λ (pair : ℕ × ℕ). IsAdjacent table pair) (sym at.4) is.no_third));
  distinct = found.distinct;
}

pub crosses_all : (values : List ℤ) (table : Table) (above below : List ℕ) (pairs : List (ℕ × ℕ)) → AreOn Above values (length values) above → AreOn Below values (length values) below → AreAllFound table above below pairs → AreAllCrosses values table pairs
crosses_all values table above below pairs on_above on_below found = elim found [
  | inl outer_above ↦ crosses_from Above values table above below pairs on_above on_below outer_above
  | inr outer_below ↦ crosses_from Below values table below above pairs on_below on_above outer_below
]
