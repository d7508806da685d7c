-- Reduced echelon form: the unit vectors have it, and both kinds of step keep it.
use Rattle.std.specs.Prelude.{◌≡◌, ◌≢◌, ℕ, ◌+◌, ◌<◌, ◌≤◌, List, [], ◌∷◌, length, slice_index_or, remove, Bool, true, false, cond, if◌then◌else◌, ℤ, pos, ◌-ℤ◌, ◌<ℤ◌, ◌⊎◌, All, filter, unsigned_abs}
use Prim.Native.Nat.{◌∣◌}
use lib.Dec.{ltb}
use Rattle.std.proofs.Math.IntN.{◌*ℤ◌}
use Rattle.std.proofs.Math.Nat.{eq-one_of_dvd-one}
use Rattle.std.proofs.Common.{sym, ◌∙◌, ap, subst, inl, inr, arith}
use Rattle.std.proofs.lemmas.Int.{ints}
use Rattle.std.proofs.lemmas.Bool.{cases_lt, cond-true, cond-false, lt-ltb, le-ltb}
use Rattle.std.proofs.lemmas.List.Edits.{length-remove, get_or-remove_below, get_or-remove_above}
use Rattle.std.proofs.lemmas.List.Elements.{All-append, All-filter, All-from_get_or, All-nil, All-cons}
use Rattle.row_core.specs.Vectors.{cell, dot}
use Rattle.row_core.specs.Content.{IsPrimitive}
use Rattle.row_core.specs.Lists.{Row, vector_at}
use Rattle.cone_laws.specs.Canon.{IsPivot, IsEchelon}
use Rattle.cone_laws.specs.Steps.{AreUnits, IsMade, IsRayStep, IsLowered, upward, IsLineStep}
use Rattle.row_core.specs.Pairs.{pair_at}
use Rattle.row_core.specs.Signs.{stays, sign}
use Rattle.cone_laws.proofs.Columns.{cell-scale}
use Rattle.row_core.proofs.Ring.{magnitude_positive, zero_of_mul, positive_of_mul, mul-positive}

-- ---- the entries of a lowered vector
pub lowered_zero : (t r n w c l : ℤ) → pos 0 <ℤ t → t *ℤ r ≡ n *ℤ w -ℤ c *ℤ l → w ≡ pos 0 → c *ℤ l ≡ pos 0 → r ≡ pos 0
lowered_zero t r n w c l p e f g = zero_of_mul t r p (e ∙ omega (arith, ints, ap (λ (z : ℤ). n *ℤ z) f, g))

pub lowered_positive : (t r n w c l : ℤ) → pos 0 <ℤ t → pos 0 <ℤ n → t *ℤ r ≡ n *ℤ w -ℤ c *ℤ l → pos 0 <ℤ w → c *ℤ l ≡ pos 0 → pos 0 <ℤ r
lowered_positive t r n w c l p q e f g = positive_of_mul t r p (let h : pos 0 <ℤ (n *ℤ w) = mul-positive n w q f in omega (arith, ints, e, g, h))

pub zero_right : (c l : ℤ) → l ≡ pos 0 → c *ℤ l ≡ pos 0
zero_right c l e = ap (λ (z : ℤ). c *ℤ z) e ∙ omega (arith, ints)

pub zero_left : (c l : ℤ) → c ≡ pos 0 → c *ℤ l ≡ pos 0
zero_left c l e = ap (λ (z : ℤ). z *ℤ l) e ∙ omega (arith, ints)

-- ---- the places of a list less its element q
pub old_place : ℕ → ℕ → ℕ
old_place q i = cond (ltb i q) i (i + 1)

pub old_place_is : (q i : ℕ) → ((i < q) × (old_place q i ≡ i)) ⊎ ((q ≤ i) × (old_place q i ≡ i + 1))
unfolding old_place
old_place_is q i = by_order (cases_lt i q)
  where
    by_order : (i < q) ⊎ (q ≤ i) → ((i < q) × (cond (ltb i q) i (i + 1) ≡ i)) ⊎ ((q ≤ i) × (cond (ltb i q) i (i + 1) ≡ i + 1))
    by_order (inl h) = inl (h, cond-true (ltb i q) i (i + 1) (lt-ltb i q h))
    by_order (inr h) = inr (h, cond-false (ltb i q) i (i + 1) (le-ltb i q h))

pub old_place-other : (q i : ℕ) → old_place q i ≢ q
old_place-other q i e = by_place (old_place_is q i)
  where
    by_place : ((i < q) × (old_place q i ≡ i)) ⊎ ((q ≤ i) × (old_place q i ≡ i + 1)) → ⊥
    by_place (inl (h, f)) = omega (arith, h, f, e)
    by_place (inr (h, f)) = omega (arith, h, f, e)

pub old_place-below : (q i n : ℕ) → i + 1 < n → old_place q i < n
old_place-below q i n l = omega (arith, old_place_is q i, l)

pub old_place-order : (q i k : ℕ) → i < k → old_place q i < old_place q k
old_place-order q i k l = omega (arith, old_place_is q i, old_place_is q k, l)

pub old_place-same : (q i k : ℕ) → old_place q i ≡ old_place q k → i ≡ k
old_place-same q i k e = omega (arith, old_place_is q i, old_place_is q k, e)

pub remove-place : {X : Type 0} (xs : List X) (q i : ℕ) (d : X) → q < length xs → slice_index_or (remove xs q) i d ≡ slice_index_or xs (old_place q i) d
remove-place {X} xs q i d h = by_place (old_place_is q i)
  where
    by_place : ((i < q) × (old_place q i ≡ i)) ⊎ ((q ≤ i) × (old_place q i ≡ i + 1)) → slice_index_or (remove xs q) i d ≡ slice_index_or xs (old_place q i) d
    by_place (inl (l, e)) = get_or-remove_below xs q d i l h ∙ ap (λ (n : ℕ). slice_index_or xs n d) (sym e)
    by_place (inr (l, e)) = get_or-remove_above xs q d i l h ∙ ap (λ (n : ℕ). slice_index_or xs n d) (sym e)

-- ---- the line step
module _ (row : Row) (lines rays new_lines new_rays : List (List ℤ)) (e : IsEchelon lines rays) (s : IsLineStep row lines rays new_lines new_rays) where
  abbrev l : List ℤ
  l = vector_at lines s.index

  magnitude : pos 0 <ℤ pos (unsigned_abs (dot row.0 l))
  magnitude = magnitude_positive (dot row.0 l) s.crossing.crosses

  -- the line taken out is 0 at the pivot of each other line
  taken_zero : (i : ℕ) → i < length lines → i ≢ s.index → cell l (e.pivot i) ≡ pos 0
  taken_zero i h ne = e.lines_zero i s.index h s.crossing.below ne

  as_many : length new_lines + 1 ≡ length lines
  as_many = ap (λ (n : ℕ). n + 1) s.lines_lowered.as_many ∙ length-remove lines s.index s.crossing.below

  place_below : (i : ℕ) → i < length new_lines → old_place s.index i < length lines
  place_below i h = old_place-below s.index i (length lines) (omega (arith, as_many, h))

  -- new line i is line old_place i, lowered
  line_is : (i : ℕ) → i < length new_lines → IsLowered row.0 l (vector_at lines (old_place s.index i)) (vector_at new_lines i)
  line_is i h =
      subst (λ (w : List ℤ). IsLowered row.0 l w (vector_at new_lines i)) (remove-place lines s.index i [] s.crossing.below)
      (s.lines_lowered.each i [] [] (omega (arith, s.lines_lowered.as_many, h)))

  -- a lowered vector stays 0 where it and the line are 0
  zero_stays : (w r : List ℤ) (j : ℕ) → IsLowered row.0 l w r → cell w j ≡ pos 0 → cell l j ≡ pos 0 → cell r j ≡ pos 0
  zero_stays w r j d f g =
      lowered_zero d.lowered.times (cell r j) (pos (unsigned_abs (dot row.0 l))) (cell w j) (sign (dot row.0 l) *ℤ dot row.0 w) (cell l j) d.lowered.positive (d.lowered.same j) f
      (zero_right (sign (dot row.0 l) *ℤ dot row.0 w) (cell l j) g)

  -- before the pivot of line i nothing of the line taken out is added to it
  nothing_added : (i j : ℕ) → i < length lines → i ≢ s.index → j < e.pivot i → (sign (dot row.0 l) *ℤ dot row.0 (vector_at lines i)) *ℤ cell l j ≡ pos 0
  nothing_added i j h ne k = by_order (cases_lt i s.index)
    where
      by_order : (i < s.index) ⊎ (s.index ≤ i) → (sign (dot row.0 l) *ℤ dot row.0 (vector_at lines i)) *ℤ cell l j ≡ pos 0
      by_order (inl m) =
          let f : cell l j ≡ pos 0 = (e.pivots s.index s.crossing.below).before j (omega (arith, e.ordered i s.index m s.crossing.below, k)) in
          zero_right (sign (dot row.0 l) *ℤ dot row.0 (vector_at lines i)) (cell l j) f
      by_order (inr m) =
          let f : dot row.0 (vector_at lines i) ≡ pos 0 = s.crossing.last i (omega (arith, m, ne)) h in
          zero_left (sign (dot row.0 l) *ℤ dot row.0 (vector_at lines i)) (cell l j) (zero_right (sign (dot row.0 l)) (dot row.0 (vector_at lines i)) f)

  pivot_stays : (i : ℕ) → i < length new_lines → IsPivot (vector_at new_lines i) (e.pivot (old_place s.index i))
  pivot_stays i h = record {
    positive = lowered_positive d.lowered.times (cell r p) (pos (unsigned_abs (dot row.0 l))) (cell w p) c (cell l p) d.lowered.positive magnitude (d.lowered.same p) (e.pivots k kb).positive (zero_right c (cell l p) (taken_zero k kb (old_place-other s.index i)));
    before = λ j m. lowered_zero d.lowered.times (cell r j) (pos (unsigned_abs (dot row.0 l))) (cell w j) c (cell l j) d.lowered.positive (d.lowered.same j) ((e.pivots k kb).before j m) (nothing_added k j kb (old_place-other s.index i) m);
  }
    where
      k : ℕ
      k = old_place s.index i

      kb : old_place s.index i < length lines
      kb = place_below i h

      d : IsLowered row.0 l (vector_at lines (old_place s.index i)) (vector_at new_lines i)
      d = line_is i h

      p : ℕ
      p = e.pivot (old_place s.index i)

      w : List ℤ
      w = vector_at lines (old_place s.index i)

      r : List ℤ
      r = vector_at new_lines i

      c : ℤ
      c = sign (dot row.0 l) *ℤ dot row.0 (vector_at lines (old_place s.index i))

  line_zero : (i k : ℕ) → i < length new_lines → k < length new_lines → i ≢ k → cell (vector_at new_lines k) (e.pivot (old_place s.index i)) ≡ pos 0
  line_zero i k h g ne =
      zero_stays (vector_at lines (old_place s.index k)) (vector_at new_lines k) (e.pivot (old_place s.index i)) (line_is k g)
      (e.lines_zero (old_place s.index i) (old_place s.index k) (place_below i h) (place_below k g) (λ f. ne (old_place-same s.index i k f)))
      (taken_zero (old_place s.index i) (place_below i h) (old_place-other s.index i))

  kept_zero : (i k : ℕ) → i < length new_lines → k < length s.kept → cell (vector_at s.kept k) (e.pivot (old_place s.index i)) ≡ pos 0
  kept_zero i k h g =
      zero_stays (vector_at rays k) (vector_at s.kept k) (e.pivot (old_place s.index i)) (s.rays_lowered.each k [] [] (omega (arith, s.rays_lowered.as_many, g)))
      (e.rays_zero (old_place s.index i) k (place_below i h) (omega (arith, s.rays_lowered.as_many, g)))
      (taken_zero (old_place s.index i) (place_below i h) (old_place-other s.index i))

  upward_zero : (i : ℕ) → i < length new_lines → cell (upward row.0 l) (e.pivot (old_place s.index i)) ≡ pos 0
  upward_zero i h =
      cell-scale (sign (dot row.0 l)) l (e.pivot (old_place s.index i))
      ∙ zero_right (sign (dot row.0 l)) (cell l (e.pivot (old_place s.index i))) (taken_zero (old_place s.index i) (place_below i h) (old_place-other s.index i))

  ray_zero : (i : ℕ) → i < length new_lines → All (λ v. cell v (e.pivot (old_place s.index i)) ≡ pos 0) new_rays
  ray_zero i h =
      let P : List ℤ → Type 0 = λ v. cell v (e.pivot (old_place s.index i)) ≡ pos 0 in
      subst (λ (vs : List (List ℤ)). All P vs) (sym s.result)
      (All-append P s.kept (if row.1 then [] else (upward row.0 l ∷ [])) (All-from_get_or P s.kept [] (λ k g. kept_zero i k h g)) (turned row.1))
    where
      turned : (b : Bool) → All (λ v. cell v (e.pivot (old_place s.index i)) ≡ pos 0) (if b then [] else (upward row.0 l ∷ []))
      turned true = All-nil (λ v. cell v (e.pivot (old_place s.index i)) ≡ pos 0)
      turned false = All-cons (λ v. cell v (e.pivot (old_place s.index i)) ≡ pos 0) (upward row.0 l) [] (upward_zero i h) (All-nil (λ v. cell v (e.pivot (old_place s.index i)) ≡ pos 0))

  pub line_step_echelon : IsEchelon new_lines new_rays
  line_step_echelon = record {
    pivot = λ i. e.pivot (old_place s.index i);
    pivots = pivot_stays;
    ordered = λ i k h g. e.ordered (old_place s.index i) (old_place s.index k) (old_place-order s.index i k h) (place_below k g);
    lines_zero = line_zero;
    rays_zero = λ i k h g. ray_zero i h k [] g;
  }

-- ---- the ray step
made_zero : (t r x n y p : ℤ) → pos 0 <ℤ t → t *ℤ r ≡ x *ℤ n -ℤ y *ℤ p → n ≡ pos 0 → p ≡ pos 0 → r ≡ pos 0
made_zero t r x n y p h e f g = lowered_zero t r x n y p h e f (zero_right y p g)

module _ (rows : List Row) (k : ℕ) (row : Row) (lines rays new : List (List ℤ)) (e : IsEchelon lines rays) (s : IsRayStep rows k row rays new) where
  made_zeros : (i m : ℕ) → i < length lines → m < length s.made → cell (vector_at s.made m) (e.pivot i) ≡ pos 0
  made_zeros i m h g =
      made_zero d.pair.times (cell (vector_at s.made m) (e.pivot i)) (dot row.0 (vector_at rays pair.0)) (cell (vector_at rays pair.1) (e.pivot i)) (dot row.0 (vector_at rays pair.1)) (cell (vector_at rays pair.0) (e.pivot i))
      d.pair.positive (d.pair.same (e.pivot i)) (e.rays_zero i pair.1 h (s.cross m mb).opposite.second) (e.rays_zero i pair.0 h (s.cross m mb).opposite.first)
    where
      mb : m < length s.pairs
      mb = omega (arith, s.each_made.as_many, g)

      pair : ℕ × ℕ
      pair = pair_at s.pairs m

      d : IsMade row.0 (vector_at rays (pair_at s.pairs m).0) (vector_at rays (pair_at s.pairs m).1) (vector_at s.made m)
      d = s.each_made.each m (0, 0) [] mb

  all_zero : (i : ℕ) → i < length lines → All (λ v. cell v (e.pivot i) ≡ pos 0) new
  all_zero i h =
      let P : List ℤ → Type 0 = λ v. cell v (e.pivot i) ≡ pos 0 in
      subst (λ (vs : List (List ℤ)). All P vs) (sym s.result)
      (All-append P (filter (λ r. stays row.1 (dot row.0 r)) rays) s.made
      (All-filter (λ r. stays row.1 (dot row.0 r)) P rays (All-from_get_or P rays [] (λ m g. e.rays_zero i m h g)))
      (All-from_get_or P s.made [] (λ m g. made_zeros i m h g)))

  pub ray_step_echelon : IsEchelon lines new
  ray_step_echelon = record {
    pivot = e.pivot;
    pivots = e.pivots;
    ordered = e.ordered;
    lines_zero = e.lines_zero;
    rays_zero = λ i m h g. all_zero i h m [] g;
  }

-- ---- the start
pub units_echelon : (width : ℕ) (lines : List (List ℤ)) → AreUnits width lines → IsEchelon lines []
units_echelon width lines u = record {
  pivot = λ i. i;
  pivots = λ i h. record { positive = omega (arith, ints, u.one i (omega (arith, u.as_many, h))); before = λ j l. u.zeros i j (omega (arith, u.as_many, h)) (λ e. omega (arith, e, l)) };
  ordered = λ i k h g. h;
  lines_zero = λ i k h g ne. u.zeros k i (omega (arith, u.as_many, g)) (λ e. ne (sym e));
  rays_zero = λ i k h g. absurd (omega (arith, g));
}

-- a vector with an entry 1 is primitive
pub primitive_from_one : (v : List ℤ) (i : ℕ) → i < length v → cell v i ≡ pos 1 → IsPrimitive v
primitive_from_one v i h e = inr (λ d all. eq-one_of_dvd-one (subst (λ (z : ℤ). d ∣ unsigned_abs z) e (all i (pos 0) h)))

pub units_primitive : (width : ℕ) (lines : List (List ℤ)) → AreUnits width lines → All IsPrimitive lines
units_primitive width lines u =
    All-from_get_or IsPrimitive lines [] (λ i h. primitive_from_one (vector_at lines i) i (let b : i < width = omega (arith, u.as_many, h) in omega (arith, u.wide i b, b)) (u.one i (omega (arith, u.as_many, h))))
