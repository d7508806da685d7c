-- The vectors that meet the first rows of a list: one row more, and combinations of them.
use Rattle.std.proofs.Common.{◌≡◌, ℕ, ◌+◌, ◌<◌, List, length, slice_index_or, Bool, true, false, MatchBool, ℤ, pos, ◌+ℤ◌, ◌*ℤ◌, neg_ℤ, ◌≤ℤ◌, ◌<ℤ◌, refl, sym, ap, ◌∙◌, subst, arith}
use Rattle.std.proofs.lemmas.Int.{ints}
use Rattle.std.proofs.lemmas.List.{get_or_default}
use Rattle.std.proofs.lemmas.List.Elements.{AllWithin-more, AllWithin-upto}
use Rattle.row_core.specs.Vectors.{cell, dot, scale}
use Rattle.row_core.specs.Lists.{Row}
use Rattle.cone_laws.specs.Cones.{Meets, Upto, negated}
use Rattle.cone_laws.specs.Steps.{IsRowAt}
use Rattle.row_core.proofs.Ring.{mul-zero, mul-at_least_zero, at_least_zero_of_mul, zero_of_mul}
use Rattle.cone_laws.proofs.Sums.{V}
use Rattle.cone_laws.proofs.Columns.{value, value_linear, value_both, dot_is, dot-scale, dot-negated}

-- what the row asks of its value at a vector
abbrev pub Asks : Bool → ℤ → Type 0
Asks eq x = MatchBool eq (x ≡ pos 0) (pos 0 ≤ℤ x)

-- ---- one row
pub zero_asks : (eq : Bool) (x : ℤ) → x ≡ pos 0 → Asks eq x
zero_asks true x e = e
zero_asks false x e = omega (arith, ints)

pub asks_least : (eq : Bool) (x : ℤ) → Asks eq x → pos 0 ≤ℤ x
asks_least true x h = omega (arith, ints)
asks_least false x h = h

-- both signs meet the row: 0
pub asks_both : (eq : Bool) (x : ℤ) → Asks eq x → Asks eq (neg_ℤ x) → x ≡ pos 0
asks_both true x h k = h
asks_both false x h k = omega (arith, ints)

zero_of_times : (m r s x t y : ℤ) → pos 0 <ℤ m → m *ℤ r ≡ s *ℤ x +ℤ t *ℤ y → x ≡ pos 0 → y ≡ pos 0 → r ≡ pos 0
zero_of_times m r s x t y p e f g =
    let h = ap (λ (z : ℤ). s *ℤ z) f ∙ mul-zero s in
    let i = ap (λ (z : ℤ). t *ℤ z) g ∙ mul-zero t in
    zero_of_mul m r p (omega (arith, ints, e, h, i))

least_of_times : (m r s x t y : ℤ) → pos 0 <ℤ m → m *ℤ r ≡ s *ℤ x +ℤ t *ℤ y → pos 0 ≤ℤ (s *ℤ x) → pos 0 ≤ℤ (t *ℤ y) → pos 0 ≤ℤ r
least_of_times m r s x t y p e f g = at_least_zero_of_mul m r p (omega (arith, ints))

zero_least : (t y : ℤ) → y ≡ pos 0 → pos 0 ≤ℤ (t *ℤ y)
zero_least t y e = let h = ap (λ (z : ℤ). t *ℤ z) e ∙ mul-zero t in omega (arith, ints, h)

-- a positive multiple of r is a sum of two that meet the row
pub asks_sum : (eq : Bool) (m r s x t y : ℤ) → pos 0 <ℤ m → m *ℤ r ≡ s *ℤ x +ℤ t *ℤ y → pos 0 ≤ℤ s → pos 0 ≤ℤ t → Asks eq x → Asks eq y → Asks eq r
asks_sum true m r s x t y p e q u f g = zero_of_times m r s x t y p e f g
asks_sum false m r s x t y p e q u f g = least_of_times m r s x t y p e (mul-at_least_zero s x q f) (mul-at_least_zero t y u g)

-- a positive multiple of r is a multiple of one that meets the row, and of one on which it is 0
pub asks_beside : (eq : Bool) (m r s x t y : ℤ) → pos 0 <ℤ m → m *ℤ r ≡ s *ℤ x +ℤ t *ℤ y → pos 0 ≤ℤ s → Asks eq x → y ≡ pos 0 → Asks eq r
asks_beside true m r s x t y p e q f g = zero_of_times m r s x t y p e f g
asks_beside false m r s x t y p e q f g = least_of_times m r s x t y p e (mul-at_least_zero s x q f) (zero_least t y g)

-- ---- columns and values
-- a positive multiple of r is s times x and t times y
pub record IsSumOf (r : List ℤ) (s : ℤ) (x : List ℤ) (t : ℤ) (y : List ℤ) : Type 0 where
  pub times : ℤ
  pub positive : pos 0 <ℤ times
  pub same : (j : ℕ) → times *ℤ cell r j ≡ s *ℤ cell x j +ℤ t *ℤ cell y j

pub dot_sum : (a r : List ℤ) (s : ℤ) (x : List ℤ) (t : ℤ) (y : List ℤ) (c : IsSumOf r s x t y) → c.times *ℤ dot a r ≡ s *ℤ dot a x +ℤ t *ℤ dot a y
dot_sum a r s x t y c =
    let w : V = λ j. c.times *ℤ cell r j in
    let e : value a w ≡ s *ℤ value a (cell x) +ℤ t *ℤ value a (cell y) = value_both (value a) (value_linear a) w (cell x) (cell y) s t c.same in
    let f : value a w ≡ c.times *ℤ value a (cell r) = (value_linear a).multiple w (cell r) c.times (λ j. refl) in
    let g : dot a r ≡ value a (cell r) = dot_is a r in
    let h : dot a x ≡ value a (cell x) = dot_is a x in
    let i : dot a y ≡ value a (cell y) = dot_is a y in
    ap (λ (z : ℤ). c.times *ℤ z) g ∙ sym f ∙ e ∙ ap (λ (z : ℤ). s *ℤ z +ℤ t *ℤ value a (cell y)) (sym h) ∙ ap (λ (z : ℤ). s *ℤ dot a x +ℤ t *ℤ z) (sym i)

-- ---- the first rows
-- each of the first k rows is 0 on the vector
abbrev pub IsZeroOn : List Row → ℕ → List ℤ → Type 0
IsZeroOn rows k v = (m : ℕ) (d : Row) → m < k → dot (slice_index_or rows m d).0 v ≡ pos 0

pub upto_sum : (width : ℕ) (rows : List Row) (k : ℕ) (r : List ℤ) (s : ℤ) (x : List ℤ) (t : ℤ) (y : List ℤ) → IsSumOf r s x t y → length r ≡ width → pos 0 ≤ℤ s → pos 0 ≤ℤ t → Upto width rows k x → Upto width rows k y → Upto width rows k r
upto_sum width rows k r s x t y c w p q ux uy = record {
  wide = w;
  meets = λ m d low high. asks_sum (slice_index_or rows m d).1 c.times (dot (slice_index_or rows m d).0 r) s (dot (slice_index_or rows m d).0 x) t (dot (slice_index_or rows m d).0 y) c.positive (dot_sum (slice_index_or rows m d).0 r s x t y c) p q (ux.meets m d low high) (uy.meets m d low high);
}

pub upto_beside : (width : ℕ) (rows : List Row) (k : ℕ) (r : List ℤ) (s : ℤ) (x : List ℤ) (t : ℤ) (y : List ℤ) → IsSumOf r s x t y → length r ≡ width → pos 0 ≤ℤ s → Upto width rows k x → IsZeroOn rows k y → Upto width rows k r
upto_beside width rows k r s x t y c w p ux z = record {
  wide = w;
  meets = λ m d low high. asks_beside (slice_index_or rows m d).1 c.times (dot (slice_index_or rows m d).0 r) s (dot (slice_index_or rows m d).0 x) t (dot (slice_index_or rows m d).0 y) c.positive (dot_sum (slice_index_or rows m d).0 r s x t y c) p (ux.meets m d low high) (z m d high);
}

pub upto_zero : (width : ℕ) (rows : List Row) (k : ℕ) (v : List ℤ) → length v ≡ width → IsZeroOn rows k v → Upto width rows k v
upto_zero width rows k v w z = record { wide = w; meets = λ m d low high. zero_asks (slice_index_or rows m d).1 (dot (slice_index_or rows m d).0 v) (z m d high) }

-- the rows are 0 on a vector whose negative meets them too
pub both_zero : (width : ℕ) (rows : List Row) (k : ℕ) (v : List ℤ) → Upto width rows k v → Upto width rows k (negated v) → IsZeroOn rows k v
both_zero width rows k v u n m d high =
    asks_both (slice_index_or rows m d).1 (dot (slice_index_or rows m d).0 v) (u.meets m d (omega arith) high)
    (subst (λ (z : ℤ). Asks (slice_index_or rows m d).1 z) (dot-negated (slice_index_or rows m d).0 v) (n.meets m d (omega arith) high))

pub negated_zero : (rows : List Row) (k : ℕ) (v : List ℤ) → IsZeroOn rows k v → IsZeroOn rows k (negated v)
negated_zero rows k v z m d high = dot-negated (slice_index_or rows m d).0 v ∙ ap neg_ℤ (z m d high)

pub scale_zero : (rows : List Row) (k : ℕ) (s : ℤ) (v : List ℤ) → IsZeroOn rows k v → IsZeroOn rows k (scale s v)
scale_zero rows k s v z m d high = dot-scale (slice_index_or rows m d).0 s v ∙ ap (λ (x : ℤ). s *ℤ x) (z m d high) ∙ mul-zero s

-- ---- one row more
pub upto_less : (width : ℕ) (rows : List Row) (k : ℕ) (v : List ℤ) → Upto width rows (k + 1) v → Upto width rows k v
upto_less width rows k v u = record { wide = u.wide; meets = AllWithin-upto (Meets v) rows 0 (k + 1) k (omega arith) u.meets }

pub upto_row : (width : ℕ) (rows : List Row) (k : ℕ) (row : Row) (v : List ℤ) → IsRowAt rows k row → Upto width rows (k + 1) v → Meets v row
upto_row width rows k row v at u = subst (λ (r : Row). Meets v r) at.same (u.meets k row (omega arith) (omega arith))

pub upto_more : (width : ℕ) (rows : List Row) (k : ℕ) (row : Row) (v : List ℤ) → IsRowAt rows k row → Upto width rows k v → Meets v row → Upto width rows (k + 1) v
upto_more width rows k row v at u m = record {
  wide = u.wide;
  meets = AllWithin-more (Meets v) rows 0 k u.meets (λ d. subst (λ (r : Row). Meets v r) (sym at.same ∙ get_or_default rows k row d at.below) m);
}
