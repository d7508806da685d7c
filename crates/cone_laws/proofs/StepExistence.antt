-- The steps exist: whatever the rows, a system leads to a system of one row more.
use Rattle.std.proofs.Common.{◌≡◌, ◌≢◌, ◌⊎◌, inl, inr, ℕ, zero, suc, ◌+◌, ◌<◌, ◌≤◌, List, [], ◌∷◌, ◌++◌, length, slice_index_or, replicate, set, false, ℤ, pos, ◌+ℤ◌, ◌-ℤ◌, ◌*ℤ◌, neg_ℤ, refl, sym, ap, ◌∙◌, subst, arith, length-append}
use Rattle.std.specs.Prelude.{All, remove, filter, count_by, if◌then◌else◌, unsigned_abs}
use Rattle.std.proofs.lemmas.Int.{ints}
use Rattle.std.proofs.lemmas.Bool.{cases_lt}
use Rattle.std.proofs.lemmas.List.{get_or_default, get_or_append_left, get_or_push, get_or_past, length-set, length-replicate, get_or-replicate, get_or-set_same, get_or-set_other}
use Rattle.std.proofs.lemmas.List.Elements.{All-head, All-tail, All-from_get_or}
use Rattle.std.proofs.lemmas.List.Sums.{length-filter}
use Rattle.row_core.specs.Vectors.{cell, dot}
use Rattle.row_core.specs.Lists.{Row, Pointwise, vector_at}
use Rattle.cone_laws.specs.Cones.{Upto}
use Rattle.cone_laws.specs.Canon.{IsSystem}
use Rattle.cone_laws.specs.Steps.{IsRowAt, AreUnits, IsCrossing, IsMadeOf, IsLowered, IsLastCrossing, upward}
use Rattle.row_core.specs.Pairs.{pair_at}
use Rattle.row_core.specs.Signs.{stays, sign}
use Rattle.cone_laws.specs.SystemLaws.{HasSystem, HasSystemOf, AreAllCrossings}
use Rattle.row_core.proofs.Ring.{neg-mul, same_or_not}
use Rattle.cone_laws.proofs.Factors.{All-remove}
use Rattle.cone_laws.proofs.PrimitivePart.{HasPrimitiveSum, primitive_sum}
use Rattle.cone_laws.proofs.CrossingPairs.{HasCrossings, crossings}
use Rattle.cone_laws.proofs.NextSystems.{units_system, line_step_system, ray_step_system}

-- ---- a related element for each element of a list
pub record HasRelated {A B : Type 0} (R : A → B → Type 0) (x : A) : Type 0 where
  pub element : B
  pub related : R x element

pub record HasPointwise {A B : Type 0} (R : A → B → Type 0) (xs : List A) : Type 0 where
  pub list : List B
  pub related : Pointwise R xs list

pub Pointwise-cons : {A B : Type 0} (R : A → B → Type 0) (x : A) (xs : List A) (y : B) (ys : List B) → R x y → Pointwise R xs ys → Pointwise R (x ∷ xs) (y ∷ ys)
Pointwise-cons {A = A} {B = B} R x xs y ys r p = record { as_many = ap suc p.as_many; each = by_index }
  where
    by_index : (i : ℕ) (d : A) (e : B) → i < length (x ∷ xs) → R (slice_index_or (x ∷ xs) i d) (slice_index_or (y ∷ ys) i e)
    by_index zero d e h = r
    by_index (suc i) d e h = p.each i d e (omega arith)

pub pointwise_exists : {A B : Type 0} (R : A → B → Type 0) (xs : List A) → All (HasRelated R) xs → HasPointwise R xs
pointwise_exists R [] f = record { list = []; related = record { as_many = refl; each = λ i d e h. absurd (omega arith) } }
pointwise_exists R (x ∷ xs) f =
    let first = All-head (HasRelated R) x xs f in
    let rest = pointwise_exists R xs (All-tail (HasRelated R) x xs f) in
    record { list = first.element ∷ rest.list; related = Pointwise-cons R x xs first.element rest.list first.related rest.related }

-- ---- one vector of a step
lowered_column : (m r s w c l : ℤ) → m *ℤ r ≡ s *ℤ w +ℤ neg_ℤ c *ℤ l → m *ℤ r ≡ s *ℤ w -ℤ c *ℤ l
lowered_column m r s w c l e = omega (arith, ints, e, neg-mul c l)

lowered_exists : (a l w : List ℤ) → length w ≡ length l → HasRelated (IsLowered a l) w
lowered_exists a l w e = from_sum (primitive_sum (pos (unsigned_abs (dot a l))) w (neg_ℤ (sign (dot a l) *ℤ dot a w)) l e)
  where
    from_sum : HasPrimitiveSum (pos (unsigned_abs (dot a l))) w (neg_ℤ (sign (dot a l) *ℤ dot a w)) l → HasRelated (IsLowered a l) w
    from_sum s = record {
      element = s.vector;
      related = record {
        lowered = record {
          times = s.sum.times;
          positive = s.sum.positive;
          same = λ j. lowered_column s.sum.times (cell s.vector j) (pos (unsigned_abs (dot a l))) (cell w j) (sign (dot a l) *ℤ dot a w) (cell l j) (s.sum.same j);
        };
        wide = s.wide;
        primitive = s.primitive;
      };
    }

made_exists : (a : List ℤ) (rays : List (List ℤ)) (pair : ℕ × ℕ) → length (vector_at rays pair.1) ≡ length (vector_at rays pair.0) → HasRelated (IsMadeOf a rays) pair
made_exists a rays pair e = from_sum (primitive_sum (dot a (vector_at rays pair.0)) (vector_at rays pair.1) (neg_ℤ (dot a (vector_at rays pair.1))) (vector_at rays pair.0) e)
  where
    from_sum : HasPrimitiveSum (dot a (vector_at rays pair.0)) (vector_at rays pair.1) (neg_ℤ (dot a (vector_at rays pair.1))) (vector_at rays pair.0) → HasRelated (IsMadeOf a rays) pair
    from_sum s = record {
      element = s.vector;
      related = record {
        pair = record {
          times = s.sum.times;
          positive = s.sum.positive;
          same = λ j. lowered_column s.sum.times (cell s.vector j) (dot a (vector_at rays pair.0)) (cell (vector_at rays pair.1) j) (dot a (vector_at rays pair.1)) (cell (vector_at rays pair.0) j) (s.sum.same j);
        };
        wide = s.wide ∙ e;
        primitive = s.primitive;
      };
    }

-- ---- the last line on which the row isn't 0
module _ (a : List ℤ) (lines : List (List ℤ)) where
  -- the last of the first c lines on which the row isn't 0
  record IsLastBelow (c : ℕ) : Type 0 where
    index : ℕ
    below : index < c
    crosses : dot a (vector_at lines index) ≢ pos 0
    last : (i : ℕ) → index < i → i < c → dot a (vector_at lines i) ≡ pos 0

  last_below : (c : ℕ) → ((i : ℕ) → i < c → dot a (vector_at lines i) ≡ pos 0) ⊎ IsLastBelow c
  last_below zero = inl (λ i h. absurd (omega arith))
  last_below (suc c) = by_last (same_or_not (dot a (vector_at lines c)) (pos 0)) (last_below c)
    where
      at_last : (P : ℕ → Type 0) → P c → (i : ℕ) → i < suc c → (i < c → P i) → P i
      at_last P here i h before = by_place (cases_lt i c)
        where
          by_place : (i < c) ⊎ (c ≤ i) → P i
          by_place (inl g) = before g
          by_place (inr g) = subst P (let e : c ≡ i = omega arith in e) here

      by_last : (dot a (vector_at lines c) ≡ pos 0) ⊎ (dot a (vector_at lines c) ≢ pos 0) → ((i : ℕ) → i < c → dot a (vector_at lines i) ≡ pos 0) ⊎ IsLastBelow c → ((i : ℕ) → i < suc c → dot a (vector_at lines i) ≡ pos 0) ⊎ IsLastBelow (suc c)
      by_last (inr ne) rest = inr (record { index = c; below = omega arith; crosses = ne; last = λ i h g. absurd (omega arith) })
      by_last (inl e) (inl z) = inl (λ i h. at_last (λ m. dot a (vector_at lines m) ≡ pos 0) e i h (z i))
      by_last (inl e) (inr l) = inr (record { index = l.index; below = omega (arith, l.below); crosses = l.crosses; last = λ i h g. at_last (λ m. dot a (vector_at lines m) ≡ pos 0) e i g (l.last i h) })

  pub last_or_flat : ((i : ℕ) → i < length lines → dot a (vector_at lines i) ≡ pos 0) ⊎ ((index : ℕ) × IsLastCrossing a lines index)
  last_or_flat = by_case (last_below (length lines))
    where
      by_case : ((i : ℕ) → i < length lines → dot a (vector_at lines i) ≡ pos 0) ⊎ IsLastBelow (length lines) → ((i : ℕ) → i < length lines → dot a (vector_at lines i) ≡ pos 0) ⊎ ((index : ℕ) × IsLastCrossing a lines index)
      by_case (inl z) = inl z
      by_case (inr l) = inr (l.index, record { below = l.below; crosses = l.crosses; last = l.last })

-- ---- whole steps
length_remove : {A : Type 0} (xs : List A) (i : ℕ) → length xs ≤ length (remove xs i) + 1
length_remove [] i = omega arith
length_remove (x ∷ xs) zero = omega arith
length_remove (x ∷ xs) (suc i) = omega (arith, length_remove xs i)

module _ (width : ℕ) (rows : List Row) (k : ℕ) (row : Row) (lines rays : List (List ℤ)) (at : IsRowAt rows k row) (s : IsSystem (Upto width rows k) lines rays) where
  lines_wide : All (λ v. length v ≡ width) lines
  lines_wide i d h = (s.generates.lines_within i d h).0.wide

  rays_wide : All (λ v. length v ≡ width) rays
  rays_wide i d h = (s.generates.rays_within i d h).wide

  line_step_of : (index number : ℕ) → IsLastCrossing row.0 lines index → number + 1 ≤ length lines + length rays → HasSystemOf width rows (k + 1) number
  line_step_of index number crossing bound = from_lists (pointwise_exists (IsLowered row.0 line) (remove lines index) (others (remove lines index) (All-remove (λ v. length v ≡ width) lines index lines_wide))) (pointwise_exists (IsLowered row.0 line) rays (others rays rays_wide))
    where
      line : List ℤ
      line = vector_at lines index

      others : (vs : List (List ℤ)) → All (λ v. length v ≡ width) vs → All (HasRelated (IsLowered row.0 line)) vs
      others vs wide i d h = lowered_exists row.0 line (slice_index_or vs i d) (wide i d h ∙ sym (lines_wide index [] crossing.below))

      from_lists : HasPointwise (IsLowered row.0 line) (remove lines index) → HasPointwise (IsLowered row.0 line) rays → HasSystemOf width rows (k + 1) number
      from_lists l r = record {
        lines = l.list;
        rays = r.list ++ more;
        system = line_step_system width rows k row lines rays l.list (r.list ++ more) at s (record { index = index; crossing = crossing; lines_lowered = l.related; kept = r.list; rays_lowered = r.related; result = refl });
        bound = omega (arith, bound, l.related.as_many, r.related.as_many, length_remove lines index, length-append r.list more);
      }
        where
          more : List (List ℤ)
          more = if row.1 then [] else (upward row.0 (vector_at lines index) ∷ [])

  ray_step_of : (pairs : List (ℕ × ℕ)) (number : ℕ) → ((i : ℕ) → i < length lines → dot row.0 (vector_at lines i) ≡ pos 0) → AreAllCrossings rows k row.0 rays pairs → number ≤ length lines + count_by (λ r. stays row.1 (dot row.0 r)) rays + length pairs → HasSystemOf width rows (k + 1) number
  ray_step_of pairs number flat c bound = from_list (pointwise_exists (IsMadeOf row.0 rays) pairs (All-from_get_or (HasRelated (IsMadeOf row.0 rays)) pairs (0, 0) (λ i h. made i h (c.cross i h))))
    where
      made : (i : ℕ) → i < length pairs → IsCrossing rows k row.0 rays (pair_at pairs i).0 (pair_at pairs i).1 → HasRelated (IsMadeOf row.0 rays) (pair_at pairs i)
      made i h x = made_exists row.0 rays (pair_at pairs i) (rays_wide (pair_at pairs i).1 [] x.opposite.second ∙ sym (rays_wide (pair_at pairs i).0 [] x.opposite.first))

      from_list : HasPointwise (IsMadeOf row.0 rays) pairs → HasSystemOf width rows (k + 1) number
      from_list m = record {
        lines = lines;
        rays = kept ++ m.list;
        system = ray_step_system width rows k row lines rays (kept ++ m.list) at flat s (record { pairs = pairs; made = m.list; result = refl; cross = c.cross; all = c.all; distinct = c.distinct; each_made = m.related });
        bound = omega (arith, bound, m.related.as_many, length-append kept m.list, length-filter (λ r. stays row.1 (dot row.0 r)) rays);
      }
        where
          kept : List (List ℤ)
          kept = filter (λ r. stays row.1 (dot row.0 r)) rays

  next_system : HasSystemOf width rows (k + 1) 0
  next_system = by_lines (last_or_flat row.0 lines)
    where
      by_crossings : ((i : ℕ) → i < length lines → dot row.0 (vector_at lines i) ≡ pos 0) → HasCrossings rows k row.0 rays → HasSystemOf width rows (k + 1) 0
      by_crossings flat c = ray_step_of c.pairs 0 flat c.are_all (omega arith)

      by_lines : ((i : ℕ) → i < length lines → dot row.0 (vector_at lines i) ≡ pos 0) ⊎ ((index : ℕ) × IsLastCrossing row.0 lines index) → HasSystemOf width rows (k + 1) 0
      by_lines (inl flat) = by_crossings flat (crossings rows k row.0 rays)
      by_lines (inr (index, crossing)) = line_step_of index 0 crossing (omega (arith, crossing.below))

pub line_step_count : (width : ℕ) (rows : List Row) (k : ℕ) (row : Row) (lines rays : List (List ℤ)) (index number : ℕ) → IsRowAt rows k row → IsSystem (Upto width rows k) lines rays → index < length lines → dot row.0 (vector_at lines index) ≢ pos 0 → number + 1 ≤ length lines + length rays → HasSystemOf width rows (k + 1) number
line_step_count width rows k row lines rays index number at s below crosses bound = by_lines (last_or_flat row.0 lines)
  where
    by_lines : ((i : ℕ) → i < length lines → dot row.0 (vector_at lines i) ≡ pos 0) ⊎ ((index : ℕ) × IsLastCrossing row.0 lines index) → HasSystemOf width rows (k + 1) number
    by_lines (inl flat) = absurd (crosses (flat index below))
    by_lines (inr (last, crossing)) = line_step_of width rows k row lines rays at s last number crossing bound

pub ray_step_count : (width : ℕ) (rows : List Row) (k : ℕ) (row : Row) (lines rays : List (List ℤ)) (pairs : List (ℕ × ℕ)) (number : ℕ) → IsRowAt rows k row → IsSystem (Upto width rows k) lines rays → ((i : ℕ) → i < length lines → dot row.0 (vector_at lines i) ≡ pos 0) → AreAllCrossings rows k row.0 rays pairs → number ≤ length lines + count_by (λ r. stays row.1 (dot row.0 r)) rays + length pairs → HasSystemOf width rows (k + 1) number
ray_step_count width rows k row lines rays pairs number at s flat c bound = ray_step_of width rows k row lines rays at s pairs number flat c bound

-- the lines and the rays that stay are in the next system whatever pairs cross
pub ray_step_kept : (width : ℕ) (rows : List Row) (k : ℕ) (row : Row) (lines rays : List (List ℤ)) (number : ℕ) → IsRowAt rows k row → IsSystem (Upto width rows k) lines rays → ((i : ℕ) → i < length lines → dot row.0 (vector_at lines i) ≡ pos 0) → number ≤ length lines + count_by (λ r. stays row.1 (dot row.0 r)) rays → HasSystemOf width rows (k + 1) number
ray_step_kept width rows k row lines rays number at s flat bound =
    let all : HasCrossings rows k row.0 rays = crossings rows k row.0 rays in
    ray_step_count width rows k row lines rays all.pairs number at s flat all.are_all (omega (arith, bound))

-- ---- the unit vectors
abbrev unit : ℕ → ℕ → List ℤ
unit width i = set (replicate width (pos 0)) i (pos 1)

abbrev units_upto : ℕ → ℕ → List (List ℤ)
units_upto width zero = []
units_upto width (suc n) = units_upto width n ++ unit width n ∷ []

length-units_upto : (width n : ℕ) → length (units_upto width n) ≡ n
length-units_upto width zero = refl
length-units_upto width (suc n) = omega (arith, length-append (units_upto width n) (unit width n ∷ []), length-units_upto width n)

unit_at : (width n i : ℕ) → i < n → vector_at (units_upto width n) i ≡ unit width i
unit_at width zero i h = absurd (omega arith)
unit_at width (suc n) i h = by_place (cases_lt i n) (λ g. unit_at width n i g)
  where
    by_place : (i < n) ⊎ (n ≤ i) → (i < n → vector_at (units_upto width n) i ≡ unit width i) → vector_at (units_upto width (suc n)) i ≡ unit width i
    by_place (inl g) before = get_or_append_left (units_upto width n) (unit width n ∷ []) [] i (omega (arith, length-units_upto width n)) ∙ before g
    by_place (inr g) before =
        let here : i ≡ n = omega arith in
        get_or_push (units_upto width n) (unit width n) [] i (length-units_upto width n ∙ sym here) ∙ ap (λ (m : ℕ). unit width m) (sym here)

zero_cell : (width j : ℕ) → cell (replicate width (pos 0)) j ≡ pos 0
zero_cell width j = by_place (cases_lt j width)
  where
    by_place : (j < width) ⊎ (width ≤ j) → cell (replicate width (pos 0)) j ≡ pos 0
    by_place (inl h) = get_or-replicate width j (pos 0) (pos 0) h
    by_place (inr h) = get_or_past (replicate width (pos 0)) j (pos 0) (omega (arith, length-replicate width (pos 0)))

abbrev pub units : ℕ → List (List ℤ)
units width = units_upto width width

pub are_units : (width : ℕ) → AreUnits width (units width)
are_units width = record {
  as_many = length-units_upto width width;
  wide = λ i h. ap (λ (v : List ℤ). length v) (unit_at width width i h) ∙ length-set (replicate width (pos 0)) i (pos 1) ∙ length-replicate width (pos 0);
  one = λ i h. ap (λ (v : List ℤ). cell v i) (unit_at width width i h) ∙ get_or-set_same (replicate width (pos 0)) i (pos 1) (pos 0) (omega (arith, length-replicate width (pos 0)));
  zeros = λ i j h ne. ap (λ (v : List ℤ). cell v j) (unit_at width width i h) ∙ get_or-set_other (replicate width (pos 0)) i j (pos 1) (pos 0) (λ e. ne (sym e)) ∙ zero_cell width j;
}

pub every_prefix : (width : ℕ) (rows : List Row) (k : ℕ) → k ≤ length rows → HasSystem width rows k
every_prefix width rows zero h = record { lines = units width; rays = []; system = units_system width rows (units width) (are_units width) }
every_prefix width rows (suc k) h = from_before (every_prefix width rows k (omega arith))
  where
    row : Row
    row = slice_index_or rows k ([], false)

    from_next : HasSystemOf width rows (k + 1) 0 → HasSystem width rows (suc k)
    from_next n = record { lines = n.lines; rays = n.rays; system = subst (λ (m : ℕ). IsSystem (Upto width rows m) n.lines n.rays) (let e : k + 1 ≡ suc k = omega arith in e) n.system }

    from_before : HasSystem width rows k → HasSystem width rows (suc k)
    from_before b = from_next (next_system width rows k row b.lines b.rays (record { below = omega arith; same = get_or_default rows k row ([], false) (omega arith) }) b.system)
