-- The combinations that leave the range.
use Rattle.std.proofs.Common.{◌≡◌, inl, inr, ℕ, suc, ◌-◌, ◌<◌, ◌≤◌, List, [], ◌∷◌, ◌++◌, length, take, drop, slice_index_or, ℤ, neg_ℤ, ◌+ℤ◌, ◌-ℤ◌, ◌*ℤ◌, refl, sym, ap, ◌∙◌, subst, arith, length-append}
use Rattle.std.specs.Prelude.{All, remove}
use Rattle.std.proofs.lemmas.Int.{ints}
use Rattle.std.proofs.lemmas.List.{length-take-le, take-append-drop, get_or-append_right}
use Rattle.std.proofs.lemmas.List.Edits.{remove-append_right}
use Rattle.std.proofs.Math.Seq.{take-suc}
use Rattle.row_core.specs.Vectors.{cell}
use Rattle.row_core.specs.Lists.{Row, row_at, Pointwise, vector_at}
use Rattle.row_core.proofs.Ring.{neg-mul}
use Rattle.row_core.proofs.CellLemmas.{length-scale}
use Rattle.cone_laws.specs.Canon.{IsPivot}
use Rattle.row_core.specs.Signs.{sign}
use Rattle.cone_laws.proofs.PrimitivePart.{HasPrimitiveSum, primitive_sum}
use Rattle.cone_laws.proofs.StepExistence.{HasRelated, HasPointwise, pointwise_exists}
use Rattle.minimise.specs.Bases.{IsBasis, IsCleared, IsPlace, HasTaken, turned_up}
use Rattle.minimise.specs.Lefts.{IsLeftAmong}
use Rattle.minimise.specs.Faults.{IsReductionLeft, IsGrowingLeft}
use Rattle.minimise.proofs.Growing.{new_line, basis_taken}

-- ---- a basis that takes in a line, whatever the numbers
cleared_column : (m r s w c l : ℤ) → m *ℤ r ≡ s *ℤ w +ℤ neg_ℤ c *ℤ l → m *ℤ r ≡ s *ℤ w -ℤ c *ℤ l
cleared_column m r s w c l e = omega (arith, ints, e, neg-mul c l)

cleared_exists : (c : ℕ) (l w : List ℤ) → length w ≡ length l → HasRelated (IsCleared c l) w
cleared_exists c l w e = from_sum (primitive_sum (cell l c) w (neg_ℤ (cell w c)) l e)
  where
    from_sum : HasPrimitiveSum (cell l c) w (neg_ℤ (cell w c)) l → HasRelated (IsCleared c l) w
    from_sum s = record {
      element = s.vector;
      related = record {
        cleared = record {
          times = s.sum.times;
          positive = s.sum.positive;
          same = λ j. cleared_column s.sum.times (cell s.vector j) (cell l c) (cell w j) (cell w c) (cell l j) (s.sum.same j);
        };
        wide = s.wide;
        primitive = s.primitive;
      };
    }

pub remove_between : {X : Type 0} (xs ys : List X) (x : X) (k : ℕ) → length xs ≡ k → remove (xs ++ x ∷ ys) k ≡ xs ++ ys
remove_between xs ys x k e = remove-append_right xs (x ∷ ys) k k e (omega arith) ∙ ap (λ (n : ℕ). xs ++ remove (x ∷ ys) n) (zero_rest k)
  where
    zero_rest : (n : ℕ) → n - n ≡ 0
    zero_rest n = omega arith

record HasNew (c : ℕ) (lines : List (List ℤ)) (line : List ℤ) (k : ℕ) : Type 0 where
  new : List (List ℤ)
  taken : HasTaken c lines line new
  k_is : taken.k ≡ k

new_exists : (c : ℕ) (lines : List (List ℤ)) (line : List ℤ) (k : ℕ) → All (λ (l : List ℤ). length l ≡ length line) lines → IsPlace lines c k → HasNew c lines line k
new_exists c lines line k wide place = from_list (pointwise_exists (IsCleared c line) lines (λ i d h. cleared_exists c line (slice_index_or lines i d) (wide i d h)))
  where
    from_list : HasPointwise (IsCleared c line) lines → HasNew c lines line k
    from_list p =
        let size : k ≤ length p.list = omega (arith, place.within, p.related.as_many) in
        let front : length (take k p.list) ≡ k = length-take-le k p.list size in
        let others : remove (take k p.list ++ line ∷ drop k p.list) k ≡ p.list = remove_between (take k p.list) (drop k p.list) line k front ∙ take-append-drop k p.list in
        record {
          new = take k p.list ++ line ∷ drop k p.list;
          taken = record {
            k = k;
            place = place;
            within = omega (arith, front, length-append (take k p.list) (line ∷ drop k p.list));
            line_is = get_or_between (take k p.list) (drop k p.list) line k front;
            cleared = subst (λ (ls : List (List ℤ)). Pointwise (IsCleared c line) lines ls) (sym others) p.related;
          };
          k_is = refl;
        }
      where
        get_or_between : (xs ys : List (List ℤ)) (x : List ℤ) (k : ℕ) → length xs ≡ k → vector_at (xs ++ x ∷ ys) k ≡ x
        get_or_between xs ys x k e = get_or-append_right xs (x ∷ ys) k k [] e (omega arith) ∙ ap (λ (n : ℕ). vector_at (x ∷ ys) n) (let z : k - k ≡ 0 = omega arith in z)

-- ---- the cases
module _ (rows : List Row) (flat lines : List (List ℤ)) (j : ℕ) (within : j ≤ length flat) (basis : IsBasis (take j flat) lines) where
  -- a row of the list that the lines reduce
  pub row_left : (i : ℕ) (left right : List ℤ) (column : ℕ) → i < length rows → IsReductionLeft lines (row_at rows i) left right column → IsLeftAmong rows flat left right column
  row_left i left right column below r = record {
    j = j;
    within = within;
    lines = lines;
    basis = basis;
    index = r.index;
    below = r.below;
    left_is = r.left_is;
    pivot = r.pivot;
    at = r.at;
    right_is = inr (record { row = i; below = below; reduced = r.reduced });
    leaves = r.leaves;
  }

  -- a line of the basis that is cleared at the pivot of a new one
  pub growing_left : (a left right : List ℤ) (column : ℕ) → j < length flat → vector_at flat j ≡ a → All (λ (l : List ℤ). length l ≡ length a) lines → IsGrowingLeft lines a left right column → IsLeftAmong rows flat left right column
  growing_left a left right column below is wide g = from_new (new_exists g.pivot lines (turned_up g.reduced g.pivot) g.taking.k all_wide g.taking.place)
    where
      all_wide : All (λ (l : List ℤ). length l ≡ length (turned_up g.reduced g.pivot)) lines
      all_wide i d h = wide i d h ∙ sym (length-scale (sign (cell g.reduced g.pivot)) g.reduced ∙ g.is_reduced.wide)

      from_new : HasNew g.pivot lines (turned_up g.reduced g.pivot) g.taking.k → IsLeftAmong rows flat left right column
      from_new n = record {
        j = suc j;
        within = omega (arith, below);
        lines = n.new;
        basis = subst (λ (vs : List (List ℤ)). IsBasis vs n.new) (sym (take-suc flat j [] below ∙ ap (λ (v : List ℤ). take j flat ++ v ∷ []) is)) (basis_taken (take j flat) lines a g.reduced basis g.is_reduced g.pivot g.leading n.new n.taken);
        index = n.taken.k;
        below = n.taken.within;
        left_is = n.taken.line_is ∙ sym g.taking.clearing.left_is;
        pivot = g.pivot;
        at = subst (λ (v : List ℤ). IsPivot v g.pivot) (sym g.taking.clearing.left_is) (new_line lines a g.reduced g.pivot g.is_reduced g.leading).at;
        right_is = inl ((λ (e : suc j ≡ 0). omega (arith, e)), record { lines = lines; basis = subst (λ (m : ℕ). IsBasis (take m flat) lines) (let z : j ≡ suc j - 1 = omega arith in z) basis; line = g.taking.clearing.right_in });
        leaves = g.taking.clearing.leaves;
      }
