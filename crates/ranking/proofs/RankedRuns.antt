-- Along a run the value of a ranking function falls by at least 1 with each step.
use Rattle.std.proofs.Common.{◌≡◌, ◌⊎◌, inl, inr, ℕ, zero, suc, ◌+◌, ◌≤◌, List, length, take, ℤ, pos, negsuc, neg_ℤ, ◌+ℤ◌, ◌*ℤ◌, ◌≤ℤ◌, ◌<ℤ◌, sym, ap, ◌∙◌, subst, arith}
use Rattle.std.proofs.lemmas.Int.{ints}
use Rattle.row_core.specs.Vectors.{cell, dot}
use Rattle.row_core.specs.Points.{IsPoint, IsSamePoint}
use Rattle.row_core.proofs.DotLemmas.{dot-scale}
use Rattle.row_core.proofs.Ring.{ring, mul_comm, mul-add, add-mul, neg-mul, mul-neg, one-mul, mul-at_least_zero, mul-positive, at_least_zero_of_mul, positive_of_mul, at_least_zero_or_not}
use Rattle.cone_laws.specs.Canon.{vector_at}
use Rattle.cone_laws.proofs.Columns.{cell-scale}
use Rattle.cons_sys.specs.Constraints.{Constraints}
use Rattle.ranking.specs.Functions.{state_of, successor_of, value_at, Ranks, IsRanking}
use Rattle.ranking.specs.Runs.{LeadsTo, IsFloor, RankedRunsAreBounded, RankedRunsEnd}
use Rattle.ranking.proofs.PairValues.{last_of_state, last_of_successor}

-- ---- numbers
bounded_by : (x y : ℤ) → x ≤ℤ y → pos 0 ≤ℤ (y +ℤ neg_ℤ x)
bounded_by x y h = omega (arith, ints, h)

-- both values and divisors times positive numbers
fall_times : (l m a b c e D : ℤ) → (l *ℤ m) *ℤ (a *ℤ b +ℤ neg_ℤ ((c +ℤ D *ℤ b) *ℤ e)) ≡ (l *ℤ a) *ℤ (m *ℤ b) +ℤ neg_ℤ ((m *ℤ c +ℤ D *ℤ (m *ℤ b)) *ℤ (l *ℤ e))
fall_times l m a b c e D = simp ring (omega (arith, ints))

fall_of_pair : (r s d A C D : ℤ) → (r *ℤ A) *ℤ (s *ℤ d) +ℤ neg_ℤ ((s *ℤ C +ℤ D *ℤ (s *ℤ d)) *ℤ (r *ℤ d)) ≡ (r *ℤ (s *ℤ d)) *ℤ (A +ℤ neg_ℤ (C +ℤ D *ℤ d))
fall_of_pair r s d A C D = simp ring (omega (arith, ints))

-- one step more
one_more : (m D e b p q : ℤ) → b *ℤ (p +ℤ neg_ℤ (m *ℤ (D *ℤ e) +ℤ D *ℤ e)) ≡ (p *ℤ b +ℤ neg_ℤ ((q +ℤ D *ℤ b) *ℤ e)) +ℤ e *ℤ (q +ℤ neg_ℤ (m *ℤ (D *ℤ b)))
one_more m D e b p q = simp ring (omega (arith, ints))

sum_least : (x y z : ℤ) → x ≡ y +ℤ z → pos 0 ≤ℤ y → pos 0 ≤ℤ z → pos 0 ≤ℤ x
sum_least x y z e h k = omega (arith, ints, e, h, k)

next_times : (m : ℕ) (z : ℤ) → pos (suc m) *ℤ z ≡ pos m *ℤ z +ℤ z
next_times m z = ap (λ (k : ℤ). k *ℤ z) next_count ∙ add-mul (pos m) (pos 1) z ∙ ap (λ (y : ℤ). pos m *ℤ z +ℤ y) (one-mul z)
  where
    next_count : pos (suc m) ≡ pos m +ℤ pos 1
    next_count = omega (arith, ints)

-- ---- the value at a state
-- the value of the function, and the divisor that it is over
module _ (n : ℕ) (f : List ℤ) where
  abbrev value : List ℤ → ℤ
  value x = value_at n f x

  abbrev divisor : List ℤ → ℤ
  divisor x = cell x n

  abbrev own : ℤ
  own = cell f (n + 1)

  -- the state can be left, and the value falls by at least 1 to the next one
  record Falls (x y : List ℤ) : Type 0 where
    bounded : pos 0 ≤ℤ value x
    here : pos 0 <ℤ divisor x
    there : pos 0 <ℤ divisor y
    falls : pos 0 ≤ℤ (value x *ℤ divisor y +ℤ neg_ℤ ((value y +ℤ own *ℤ divisor y) *ℤ divisor x))

  -- the value is at least the number
  abbrev IsAbove : ℕ → List ℤ → Type 0
  IsAbove m x = pos 0 ≤ℤ (value x +ℤ neg_ℤ (pos m *ℤ (own *ℤ divisor x)))

  same_value : (x s : List ℤ) (is : IsSamePoint x s) → is.left *ℤ value x ≡ is.right *ℤ value s
  same_value x s is = sym (dot-scale (take (n + 1) f) is.left x) ∙ ap (dot (take (n + 1) f)) is.same ∙ dot-scale (take (n + 1) f) is.right s

  same_divisor : (x s : List ℤ) (is : IsSamePoint x s) → is.left *ℤ divisor x ≡ is.right *ℤ divisor s
  same_divisor x s is = sym (cell-scale is.left x n) ∙ ap divisor is.same ∙ cell-scale is.right s n

  has_divisor : (x s : List ℤ) → IsSamePoint x s → pos 0 <ℤ divisor s → pos 0 <ℤ divisor x
  has_divisor x s is h = positive_of_mul is.left (divisor x) is.left_positive (subst (λ (z : ℤ). pos 0 <ℤ z) (sym (same_divisor x s is)) (mul-positive is.right (divisor s) is.right_positive h))

  at_least_zero : (z : ℤ) → pos 0 <ℤ z → pos 0 ≤ℤ z
  at_least_zero z h = omega (arith, ints, h)

  has_bound : (x s : List ℤ) → IsSamePoint x s → pos 0 ≤ℤ value s → pos 0 ≤ℤ value x
  has_bound x s is h = at_least_zero_of_mul is.left (value x) is.left_positive (subst (λ (z : ℤ). pos 0 ≤ℤ z) (sym (same_value x s is)) (mul-at_least_zero is.right (value s) (at_least_zero is.right is.right_positive) h))

  has_fall : (x y s t : List ℤ) (d : ℤ) → IsSamePoint x s → IsSamePoint y t → divisor s ≡ d → divisor t ≡ d → pos 0 <ℤ d → (value t +ℤ own *ℤ d) ≤ℤ value s → pos 0 ≤ℤ (value x *ℤ divisor y +ℤ neg_ℤ ((value y +ℤ own *ℤ divisor y) *ℤ divisor x))
  has_fall x y s t d is it e g h fall =
      let l = is.left in
      let m = it.left in
      let a : l *ℤ value x ≡ is.right *ℤ value s = same_value x s is in
      let c : m *ℤ value y ≡ it.right *ℤ value t = same_value y t it in
      let p : l *ℤ divisor x ≡ is.right *ℤ d = same_divisor x s is ∙ ap (λ (z : ℤ). is.right *ℤ z) e in
      let q : m *ℤ divisor y ≡ it.right *ℤ d = same_divisor y t it ∙ ap (λ (z : ℤ). it.right *ℤ z) g in
      let whole : (l *ℤ m) *ℤ (value x *ℤ divisor y +ℤ neg_ℤ ((value y +ℤ own *ℤ divisor y) *ℤ divisor x)) ≡ (is.right *ℤ (it.right *ℤ d)) *ℤ (value s +ℤ neg_ℤ (value t +ℤ own *ℤ d)) =
      fall_times l m (value x) (divisor y) (value y) (divisor x) own
      ∙ ap (λ (z : ℤ). z *ℤ (m *ℤ divisor y) +ℤ neg_ℤ ((m *ℤ value y +ℤ own *ℤ (m *ℤ divisor y)) *ℤ (l *ℤ divisor x))) a
      ∙ ap (λ (z : ℤ). (is.right *ℤ value s) *ℤ z +ℤ neg_ℤ ((m *ℤ value y +ℤ own *ℤ z) *ℤ (l *ℤ divisor x))) q
      ∙ ap (λ (z : ℤ). (is.right *ℤ value s) *ℤ (it.right *ℤ d) +ℤ neg_ℤ ((z +ℤ own *ℤ (it.right *ℤ d)) *ℤ (l *ℤ divisor x))) c
      ∙ ap (λ (z : ℤ). (is.right *ℤ value s) *ℤ (it.right *ℤ d) +ℤ neg_ℤ ((it.right *ℤ value t +ℤ own *ℤ (it.right *ℤ d)) *ℤ z)) p
      ∙ fall_of_pair is.right it.right d (value s) (value t) own in
      let times : pos 0 <ℤ (l *ℤ m) = mul-positive l m is.left_positive it.left_positive in
      let factor : pos 0 <ℤ (is.right *ℤ (it.right *ℤ d)) = mul-positive is.right (it.right *ℤ d) is.right_positive (mul-positive it.right d it.right_positive h) in
      at_least_zero_of_mul (l *ℤ m) (value x *ℤ divisor y +ℤ neg_ℤ ((value y +ℤ own *ℤ divisor y) *ℤ divisor x)) times
      (subst (λ (z : ℤ). pos 0 ≤ℤ z) (sym whole)
      (mul-at_least_zero (is.right *ℤ (it.right *ℤ d)) (value s +ℤ neg_ℤ (value t +ℤ own *ℤ d)) (at_least_zero (is.right *ℤ (it.right *ℤ d)) factor) (bounded_by (value t +ℤ own *ℤ d) (value s) fall)))

  module _ (relation : Constraints) (even : relation.dim ≡ n + n) (f_point : IsPoint (n + 1) f) (ranking : IsRanking n relation f) where
    falls_along : (x y : List ℤ) → LeadsTo n relation x y → Falls x y
    falls_along x y leads =
        let pair = leads.pair in
        let wide : length pair ≡ n + n + 1 = leads.related.point.wide ∙ ap (λ (k : ℕ). k + 1) even in
        let positive : pos 0 <ℤ cell pair (n + n) = subst (λ (k : ℕ). pos 0 <ℤ cell pair k) even leads.related.point.positive in
        let ranks : Ranks n f pair = ranking pair leads.related in
        let e : divisor (state_of n pair) ≡ cell pair (n + n) = last_of_state n pair f wide f_point.wide in
        let g : divisor (successor_of n pair) ≡ cell pair (n + n) = last_of_successor n pair f wide f_point.wide in
        record {
          bounded = has_bound x (state_of n pair) leads.source ranks.bounded;
          here = has_divisor x (state_of n pair) leads.source (subst (λ (z : ℤ). pos 0 <ℤ z) (sym e) positive);
          there = has_divisor y (successor_of n pair) leads.target (subst (λ (z : ℤ). pos 0 <ℤ z) (sym g) positive);
          falls = has_fall x y (state_of n pair) (successor_of n pair) (cell pair (n + n)) leads.source leads.target e g positive ranks.falls;
        }

    -- one step before, the value is at least the next number
    above_before : (m : ℕ) (x y : List ℤ) → Falls x y → IsAbove m y → IsAbove (suc m) x
    above_before m x y step above =
        subst (λ (z : ℤ). pos 0 ≤ℤ (value x +ℤ neg_ℤ z)) (sym (next_times m (own *ℤ divisor x)))
        (at_least_zero_of_mul (divisor y) (value x +ℤ neg_ℤ (pos m *ℤ (own *ℤ divisor x) +ℤ own *ℤ divisor x)) step.there
        (sum_least (divisor y *ℤ (value x +ℤ neg_ℤ (pos m *ℤ (own *ℤ divisor x) +ℤ own *ℤ divisor x))) (value x *ℤ divisor y +ℤ neg_ℤ ((value y +ℤ own *ℤ divisor y) *ℤ divisor x)) (divisor x *ℤ (value y +ℤ neg_ℤ (pos m *ℤ (own *ℤ divisor y))))
        (one_more (pos m) own (divisor x) (divisor y) (value x) (value y))
        step.falls
        (mul-at_least_zero (divisor x) (value y +ℤ neg_ℤ (pos m *ℤ (own *ℤ divisor y))) (at_least_zero (divisor x) step.here) above)))

    above_none : (x y : List ℤ) → Falls x y → IsAbove zero x
    above_none x y step = nothing_off (value x) (own *ℤ divisor x) step.bounded
      where
        nothing_off : (p q : ℤ) → pos 0 ≤ℤ p → pos 0 ≤ℤ (p +ℤ neg_ℤ (pos 0 *ℤ q))
        nothing_off p q h = omega (arith, ints, h)

    -- where m more steps follow a step, the value before it is at least m
    above_along : (g : ℕ → List ℤ) (m i : ℕ) → ((j : ℕ) → j ≤ m → LeadsTo n relation (g (i + j)) (g (i + j + 1))) → IsAbove m (g i)
    above_along g zero i leads = above_none (g i) (g (i + 1)) (falls_along (g i) (g (i + 1)) (subst (λ (k : ℕ). LeadsTo n relation (g k) (g (k + 1))) (omega arith) (leads 0 (omega arith))))
    above_along g (suc m) i leads =
        above_before m (g i) (g (i + 1)) (falls_along (g i) (g (i + 1)) (subst (λ (k : ℕ). LeadsTo n relation (g k) (g (k + 1))) (omega arith) (leads 0 (omega arith))))
        (above_along g m (i + 1) (λ j h. let e : i + (j + 1) ≡ i + 1 + j = omega arith in subst (λ (k : ℕ). LeadsTo n relation (g k) (g (k + 1))) e (leads (j + 1) (omega (arith, h)))))

    -- ---- rounded down
    own_positive : (x : List ℤ) → pos 0 <ℤ divisor x → pos 0 <ℤ (own *ℤ divisor x)
    own_positive x h = mul-positive own (divisor x) f_point.positive h

rounded : (m : ℕ) (num den floor : ℤ) → pos 0 <ℤ den → pos 0 ≤ℤ (num +ℤ neg_ℤ (pos m *ℤ den)) → IsFloor num den floor → pos m ≤ℤ floor
rounded m num den floor h above is = by_case (at_least_zero_or_not (floor +ℤ neg_ℤ (pos m)))
  where
    times_out : (x y z : ℤ) → (x +ℤ neg_ℤ (y +ℤ pos 1)) *ℤ z ≡ x *ℤ z +ℤ neg_ℤ ((y +ℤ pos 1) *ℤ z)
    times_out x y z = add-mul x (neg_ℤ (y +ℤ pos 1)) z ∙ ap (λ (w : ℤ). x *ℤ z +ℤ w) (neg-mul (y +ℤ pos 1) z)

    too_low : (p q r s : ℤ) → s ≡ p +ℤ neg_ℤ q → pos 0 ≤ℤ s → r <ℤ q → pos 0 ≤ℤ (r +ℤ neg_ℤ p) → ⊥
    too_low p q r s e h k a = omega (arith, ints, e, h, k, a)

    by_case : (pos 0 ≤ℤ (floor +ℤ neg_ℤ (pos m))) ⊎ ((floor +ℤ neg_ℤ (pos m)) <ℤ pos 0) → pos m ≤ℤ floor
    by_case (inl g) = omega (arith, ints, g)
    by_case (inr g) = absurd (too_low (pos m *ℤ den) ((floor +ℤ pos 1) *ℤ den) num ((pos m +ℤ neg_ℤ (floor +ℤ pos 1)) *ℤ den) (times_out (pos m) floor den) (mul-at_least_zero (pos m +ℤ neg_ℤ (floor +ℤ pos 1)) den (omega (arith, ints, g)) (omega (arith, ints, h))) is.next above)

pub runs_bounded : RankedRunsAreBounded
runs_bounded n relation f states zero floor even point ranking run wide some is = absurd (omega (arith, some))
runs_bounded n relation f states (suc m) floor even point ranking run wide some is =
    let leads : (j : ℕ) → j ≤ m → LeadsTo n relation (vector_at states (0 + j)) (vector_at states (0 + j + 1)) = λ j h. let e : j ≡ 0 + j = omega arith in subst (λ (k : ℕ). LeadsTo n relation (vector_at states k) (vector_at states (k + 1))) e (run j (omega (arith, h, wide))) in
    let first : LeadsTo n relation (vector_at states 0) (vector_at states (0 + 1)) = run 0 (omega (arith, wide)) in
    let step = falls_along n f relation even point ranking (vector_at states 0) (vector_at states (0 + 1)) first in
    let least : pos m ≤ℤ floor = rounded m (value_at n f (vector_at states 0)) (cell f (n + 1) *ℤ cell (vector_at states 0) n) floor (own_positive n f relation even point ranking (vector_at states 0) step.here) (above_along n f relation even point ranking (vector_at states) m 0 leads) is in
    omega (arith, ints, least)

-- a value that isn't negative is below its successor
not_above : (v den : ℤ) → pos 0 ≤ℤ v → pos 0 <ℤ den → ((m : ℕ) → pos 0 ≤ℤ (v +ℤ neg_ℤ (pos m *ℤ den))) → ⊥
not_above (negsuc k) den h d all = omega (arith, ints, h)
not_above (pos k) den h d all =
    let top : pos 0 ≤ℤ (pos k +ℤ neg_ℤ (pos (suc k) *ℤ den)) = all (suc k) in
    let off : pos (suc k) *ℤ den ≡ pos (suc k) *ℤ (den +ℤ neg_ℤ (pos 1)) +ℤ pos (suc k) = split (pos (suc k)) den in
    let rest : pos 0 ≤ℤ (pos (suc k) *ℤ (den +ℤ neg_ℤ (pos 1))) = mul-at_least_zero (pos (suc k)) (den +ℤ neg_ℤ (pos 1)) (omega (arith, ints)) (omega (arith, ints, d)) in
    too_far k (pos (suc k) *ℤ den) (pos (suc k) *ℤ (den +ℤ neg_ℤ (pos 1))) off rest top
  where
    put_together : (a b c x : ℤ) → b ≡ a +ℤ neg_ℤ c → c ≡ x → a ≡ b +ℤ x
    put_together a b c x e f = omega (arith, ints, e, f)

    split : (x y : ℤ) → x *ℤ y ≡ x *ℤ (y +ℤ neg_ℤ (pos 1)) +ℤ x
    split x y = put_together (x *ℤ y) (x *ℤ (y +ℤ neg_ℤ (pos 1))) (x *ℤ pos 1) x (mul-add x y (neg_ℤ (pos 1)) ∙ ap (λ (z : ℤ). x *ℤ y +ℤ z) (mul-neg x (pos 1))) (mul_comm x (pos 1) ∙ one-mul x)

    too_far : (k : ℕ) (p q : ℤ) → p ≡ q +ℤ pos (suc k) → pos 0 ≤ℤ q → pos 0 ≤ℤ (pos k +ℤ neg_ℤ p) → ⊥
    too_far k p q e h t = omega (arith, ints, e, h, t)

pub runs_end : RankedRunsEnd
runs_end n relation f states even point ranking run =
    let step = falls_along n f relation even point ranking (states 0) (states (0 + 1)) (run 0) in
    not_above (value_at n f (states 0)) (cell f (n + 1) *ℤ cell (states 0) n) step.bounded (own_positive n f relation even point ranking (states 0) step.here)
    (λ m. above_along n f relation even point ranking states m 0 (λ j h. run (0 + j)))
