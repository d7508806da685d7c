-- The value of a generator's row at a function is that of a row of the function at the generator.
use Rattle.std.proofs.Common.{◌≡◌, ℕ, zero, suc, ◌+◌, ◌-◌, ◌<◌, List, [], ◌∷◌, ◌++◌, length, take, drop, ℤ, pos, neg_ℤ, ◌+ℤ◌, ◌*ℤ◌, refl, sym, ap, ◌∙◌, arith}
use Rattle.std.proofs.lemmas.Int.{ints}
use Rattle.std.proofs.lemmas.List.{take-append-le, length-take-le, length-drop, length-append, get_or-drop, get_or-append_right}
use Rattle.std.proofs.Math.Seq.{take-length}
use Rattle.row_core.specs.Vectors.{cell, dot, add}
use Rattle.row_core.proofs.DotLemmas.{dot-take_more}
use Rattle.row_core.proofs.Ring.{mul_comm, neg-mul}
use Rattle.cone_laws.specs.Cones.{negated}
use Rattle.cone_laws.proofs.Columns.{dot_comm, dot-add, dot-negated, length-add, length-scale}
use Rattle.mapped_systems.specs.Maps.{with_zeros}
use Rattle.ranking.specs.Functions.{state_of, successor_of, value_at}
use Rattle.ranking.specs.RankingRows.{bound_row, differences, fall_row}
use Rattle.mapped_systems.proofs.ColumnLemmas.{dot-with_zeros}

-- ---- rows cut in two
no_more : (z : ℤ) → z ≡ pos 0 +ℤ z
no_more z = omega (arith, ints)

add_again : (x y z s : ℤ) → s ≡ y +ℤ z → x +ℤ s ≡ (x +ℤ y) +ℤ z
add_again x y z s e = omega (arith, ints, e)

nil_dot : (w : List ℤ) → dot w [] ≡ pos 0
nil_dot [] = refl
nil_dot (x ∷ w) = refl

pub dot-append : (n : ℕ) (u w v : List ℤ) → length u ≡ n → dot (u ++ w) v ≡ dot u (take n v) +ℤ dot w (drop n v)
dot-append zero [] w v e = no_more (dot w v)
dot-append zero (x ∷ u) w v e = absurd (omega (arith, e))
dot-append (suc n) [] w v e = absurd (omega (arith, e))
dot-append (suc n) (x ∷ u) w [] e = no_more (pos 0) ∙ ap (λ z. pos 0 +ℤ z) (sym (nil_dot w))
dot-append (suc n) (x ∷ u) w (y ∷ v) e = add_again (x *ℤ y) (dot u (take n v)) (dot w (drop n v)) (dot (u ++ w) v) (dot-append n u w v (omega (arith, e)))

-- ---- the value at a state
narrow_take : (n : ℕ) (s : List ℤ) → length s ≡ n + 1 → take (n + 1) s ≡ s
narrow_take n s w = ap (λ (k : ℕ). take k s) (sym w) ∙ take-length s

-- the variables' part and the constant's
value_split : (n : ℕ) (f s : List ℤ) → n < length f → length s ≡ n + 1 → value_at n f s ≡ dot (take n f) (take n s) +ℤ cell f n *ℤ cell s n
value_split n f s h w = ap (dot (take (n + 1) f)) (sym (narrow_take n s w)) ∙ dot-take_more f s n h (omega (arith, w))

module _ (n : ℕ) (pair f : List ℤ) (pair_wide : length pair ≡ n + n + 1) (f_wide : length f ≡ n + 1 + 1) where
  length_front : length (take n pair) ≡ n
  length_front = length-take-le n pair (omega (arith, pair_wide))

  length_back : length (drop (n + n) pair) ≡ 1
  length_back = let e = length-drop (n + n) pair in omega (arith, e, pair_wide)

  length_state : length (state_of n pair) ≡ n + 1
  length_state = let e = length-append (take n pair) (drop (n + n) pair) in omega (arith, e, length_front, length_back)

  length_successor : length (successor_of n pair) ≡ n + 1
  length_successor = let e = length-drop n pair in omega (arith, e, pair_wide)

  front_of_state : take n (state_of n pair) ≡ take n pair
  front_of_state = take-append-le n (take n pair) (drop (n + n) pair) (omega (arith, length_front)) ∙ ap (λ (k : ℕ). take k (take n pair)) (sym length_front) ∙ take-length (take n pair)

  pub last_of_state : cell (state_of n pair) n ≡ cell pair (n + n)
  last_of_state =
      get_or-append_right (take n pair) (drop (n + n) pair) n n (pos 0) length_front (omega arith)
      ∙ get_or-drop (n + n) pair (n - n) (pos 0)
      ∙ ap (cell pair) (omega arith)

  pub last_of_successor : cell (successor_of n pair) n ≡ cell pair (n + n)
  last_of_successor = get_or-drop n pair n (pos 0)

  state_value : value_at n f (state_of n pair) ≡ dot (take n f) (take n pair) +ℤ cell f n *ℤ cell pair (n + n)
  state_value =
      value_split n f (state_of n pair) (omega (arith, f_wide)) length_state
      ∙ ap (λ (s : List ℤ). dot (take n f) s +ℤ cell f n *ℤ cell (state_of n pair) n) front_of_state
      ∙ ap (λ (z : ℤ). dot (take n f) (take n pair) +ℤ cell f n *ℤ z) last_of_state

  successor_value : value_at n f (successor_of n pair) ≡ dot (take n f) (take n (drop n pair)) +ℤ cell f n *ℤ cell pair (n + n)
  successor_value =
      value_split n f (successor_of n pair) (omega (arith, f_wide)) length_successor
      ∙ ap (λ (z : ℤ). dot (take n f) (take n (drop n pair)) +ℤ cell f n *ℤ z) last_of_successor

  -- ---- rows of a generator
  zero_end : (x y : ℤ) → y ≡ pos 0 → x +ℤ y ≡ x
  zero_end x y e = omega (arith, ints, e)

  dot_zero : (v : List ℤ) → dot (pos 0 ∷ []) v ≡ pos 0
  dot_zero [] = refl
  dot_zero (y ∷ v) = omega (arith, ints)

  pub bound_value : dot (bound_row n pair) f ≡ value_at n f (state_of n pair)
  bound_value =
      dot-append (n + 1) (state_of n pair) (pos 0 ∷ []) f length_state
      ∙ zero_end (dot (state_of n pair) (take (n + 1) f)) (dot (pos 0 ∷ []) (drop (n + 1) f)) (dot_zero (drop (n + 1) f))
      ∙ dot_comm (state_of n pair) (take (n + 1) f)

  length_differences : length (differences n pair) ≡ n
  length_differences =
      length-add (take n pair) (negated (take n (drop n pair))) (length_front ∙ sym length_behind)
      ∙ length_behind
    where
      length_behind : length (negated (take n (drop n pair))) ≡ n
      length_behind = length-scale (neg_ℤ (pos 1)) (take n (drop n pair)) ∙ length-take-le n (drop n pair) (let e = length-drop n pair in omega (arith, e, pair_wide))

  differences_value : (v : List ℤ) → dot (differences n pair) v ≡ dot v (take n pair) +ℤ neg_ℤ (dot v (take n (drop n pair)))
  differences_value v = dot_comm (differences n pair) v ∙ dot-add v (take n pair) (negated (take n (drop n pair))) ∙ ap (λ (z : ℤ). dot v (take n pair) +ℤ z) (dot-negated v (take n (drop n pair)))

  two_cells : (a b : ℤ) (v : List ℤ) → dot (a ∷ b ∷ []) v ≡ a *ℤ cell v 0 +ℤ b *ℤ cell v 1
  two_cells a b [] = omega (arith, ints)
  two_cells a b (x ∷ []) = omega (arith, ints)
  two_cells a b (x ∷ y ∷ v) = omega (arith, ints)

  pub fall_value : dot (fall_row n pair) f ≡ value_at n f (state_of n pair) +ℤ neg_ℤ (value_at n f (successor_of n pair) +ℤ cell f (n + 1) *ℤ cell pair (n + n))
  fall_value =
      let e = dot-append n (differences n pair) (pos 0 ∷ neg_ℤ (cell pair (n + n)) ∷ []) f length_differences in
      let d = differences_value (take n f) in
      let t = two_cells (pos 0) (neg_ℤ (cell pair (n + n))) (drop n f) in
      let s = state_value in
      let u = successor_value in
      fall_sum (dot (fall_row n pair) f) (value_at n f (state_of n pair)) (value_at n f (successor_of n pair)) (dot (take n f) (take n pair)) (dot (take n f) (take n (drop n pair))) (cell f n *ℤ cell pair (n + n)) (cell (drop n f) 0) (cell pair (n + n)) (cell (drop n f) 1) (cell f (n + 1))
      (e ∙ ap (λ (z : ℤ). z +ℤ dot (pos 0 ∷ neg_ℤ (cell pair (n + n)) ∷ []) (drop n f)) d ∙ ap (λ (z : ℤ). (dot (take n f) (take n pair) +ℤ neg_ℤ (dot (take n f) (take n (drop n pair)))) +ℤ z) t)
      s u (get_or-drop n f 1 (pos 0))
    where
      fall_sum : (row here there x y c b d k l : ℤ) → row ≡ (x +ℤ neg_ℤ y) +ℤ (pos 0 *ℤ b +ℤ neg_ℤ d *ℤ k) → here ≡ x +ℤ c → there ≡ y +ℤ c → k ≡ l → row ≡ here +ℤ neg_ℤ (there +ℤ l *ℤ d)
      fall_sum row here there x y c b d k l e s u h =
          let m : neg_ℤ d *ℤ k ≡ neg_ℤ (l *ℤ d) = neg-mul d k ∙ ap (λ (z : ℤ). neg_ℤ (d *ℤ z)) h ∙ ap neg_ℤ (mul_comm d l) in
          omega (arith, ints, e, s, u, m)

-- ---- rows of a function
-- the row over pairs whose value is that of the function at the state
abbrev pub bound_of : ℕ → List ℤ → List ℤ
bound_of n f = with_zeros n n (take (n + 1) f)

-- the row whose value is by how much the function falls along the pair, less 1
abbrev pub fall_of : ℕ → List ℤ → List ℤ
fall_of n f = add (bound_of n f) (negated (add (with_zeros 0 n (take (n + 1) f)) (with_zeros 0 (n + n) (cell f (n + 1) ∷ []))))

module _ (n : ℕ) (f pair : List ℤ) where
  pub value_bound : dot (bound_of n f) pair ≡ value_at n f (state_of n pair)
  value_bound = dot-with_zeros n n (take (n + 1) f) pair

  at_successor : dot (with_zeros 0 n (take (n + 1) f)) pair ≡ value_at n f (successor_of n pair)
  at_successor = dot-with_zeros 0 n (take (n + 1) f) pair ∙ ap (λ (k : ℕ). dot (take (n + 1) f) (drop k pair)) (omega arith)

  one_cell : (a : ℤ) (v : List ℤ) → dot (a ∷ []) v ≡ a *ℤ cell v 0
  one_cell a [] = omega (arith, ints)
  one_cell a (x ∷ v) = omega (arith, ints)

  abbrev ending : List ℤ
  ending = with_zeros 0 (n + n) (cell f (n + 1) ∷ [])

  abbrev behind : List ℤ
  behind = add (with_zeros 0 n (take (n + 1) f)) ending

  at_divisor : dot ending pair ≡ cell f (n + 1) *ℤ cell pair (n + n)
  at_divisor =
      dot-with_zeros 0 (n + n) (cell f (n + 1) ∷ []) pair
      ∙ one_cell (cell f (n + 1)) (drop (0 + (n + n)) pair)
      ∙ ap (λ (z : ℤ). cell f (n + 1) *ℤ z) (get_or-drop (0 + (n + n)) pair 0 (pos 0) ∙ ap (cell pair) (omega arith))

  pub value_fall : dot (fall_of n f) pair ≡ value_at n f (state_of n pair) +ℤ neg_ℤ (value_at n f (successor_of n pair) +ℤ cell f (n + 1) *ℤ cell pair (n + n))
  value_fall =
      dot_comm (fall_of n f) pair
      ∙ dot-add pair (bound_of n f) (negated behind)
      ∙ ap (λ (z : ℤ). z +ℤ dot pair (negated behind)) (dot_comm pair (bound_of n f) ∙ value_bound)
      ∙ ap (λ (z : ℤ). value_at n f (state_of n pair) +ℤ z) (dot-negated pair behind ∙ ap neg_ℤ (dot-add pair (with_zeros 0 n (take (n + 1) f)) ending ∙ both))
    where
      both : dot pair (with_zeros 0 n (take (n + 1) f)) +ℤ dot pair ending ≡ value_at n f (successor_of n pair) +ℤ cell f (n + 1) *ℤ cell pair (n + n)
      both = ap (λ (z : ℤ). z +ℤ dot pair ending) (dot_comm pair (with_zeros 0 n (take (n + 1) f)) ∙ at_successor) ∙ ap (λ (z : ℤ). value_at n f (successor_of n pair) +ℤ z) (dot_comm pair ending ∙ at_divisor)
