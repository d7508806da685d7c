-- An inequality whose row is kept by the lines and rays of a set holds on the set.
use Rattle.std.proofs.Common.{◌≡◌, ◌⊎◌, inl, inr, ℕ, ◌+◌, ◌<◌, ◌≤◌, List, [], ◌∷◌, map, length, get_or, Bool, ℤ, pos, neg_ℤ, ◌+ℤ◌, ◌*ℤ◌, ◌≤ℤ◌, ◌<ℤ◌, true, false, sym, ◌∙◌, subst, ap, arith}
use Rattle.std.specs.Prelude.{All}
use Rattle.std.proofs.Math.ListN.{get_or-map}
use Rattle.std.proofs.lemmas.Bool.{cases_lt}
use Rattle.std.proofs.lemmas.Int.{ints}
use Rattle.std.proofs.lemmas.List.{length-map, get_or_default}
use Rattle.std.proofs.lemmas.List.Elements.{All-nil, All-cons, All-weaker, All-from_get_or}
use Rattle.row_core.specs.Vectors.{cell, dot, add, scale}
use Rattle.row_core.specs.Points.{IsPoint}
use Rattle.row_core.specs.Lists.{Row, row_at, vectors}
use Rattle.row_core.proofs.DotLemmas.{dot-scale}
use Rattle.row_core.proofs.Ring.{ring, mul-at_least_zero, at_least_zero_of_mul, positive_of_mul, mul-zero}
use Rattle.cone_laws.specs.Members.{ConeOf}
use Rattle.cone_laws.specs.Canon.{vector_at}
use Rattle.cone_laws.proofs.Ring.{by_sign}
use Rattle.cone_laws.proofs.Columns.{cell-negated, dot-add, dot_comm, length-scale}
use Rattle.cone_laws.proofs.Spanning.{at_least_zero_on_spanned}
use Rattle.chernikova.specs.declared.cone.Cone.{Cone}
use Rattle.cons_sys.specs.declared.kind.ConKind.TheVariants.{Eq, Ge, Gt}
use Rattle.cons_sys.specs.Constraints.{Constraint, Constraints, FitDimension, constraint_at, kind_at}
use Rattle.nnc_enc.specs.Encoding.{encoded_constraint, encoded_constraints, height_row, raised}
use Rattle.nnc_enc.proofs.EncodedRows.{constraints_are_coded, constraints_encode, constraint_value, cell_insert}
use Rattle.nnc_enc.proofs.EncodedDuals.{height_at}
use Rattle.cover_search.specs.Inequalities.{IsInequality, AreInequalities, is_strict}
use Rattle.cover_search.specs.Regions.{HasCone, HoldsOn, IsKept}

-- what is so below a number and at it is so below the next
pub upto_next : (P : ℕ → Type 0) (n : ℕ) → ((i : ℕ) → i < n → P i) → P n → (i : ℕ) → i < n + 1 → P i
upto_next P n h p i b = by_case (cases_lt i n)
  where
    by_case : (i < n) ⊎ (n ≤ i) → P i
    by_case (inl l) = h i l
    by_case (inr l) = let e : n ≡ i = omega (arith, b, l) in subst P e p

-- the row at a place of an encoded list
pub encoded_at : (dim : ℕ) (list : List Constraint) (i : ℕ) → i < length list → get_or (map (encoded_constraint dim) list) i ([], false) ≡ encoded_constraint dim (constraint_at list i)
encoded_at dim list i b = get_or_default (map (encoded_constraint dim) list) i ([], false) (encoded_constraint dim ([], Eq)) (omega (arith, length-map list (encoded_constraint dim), b)) ∙ get_or-map (encoded_constraint dim) list i ([], Eq)

-- ---- numbers
bound_with : (x n : ℤ) → (m : ℤ) × (n ≤ℤ m) × (x ≤ℤ m)
bound_with x n = by_case (by_sign (x +ℤ neg_ℤ n))
  where
    by_case : (pos 0 <ℤ (x +ℤ neg_ℤ n)) ⊎ (((x +ℤ neg_ℤ n) <ℤ pos 0) ⊎ (x +ℤ neg_ℤ n ≡ pos 0)) → (m : ℤ) × (n ≤ℤ m) × (x ≤ℤ m)
    by_case (inl p) = (x, omega (arith, ints, p), omega (arith, ints))
    by_case (inr (inl p)) = (n, omega (arith, ints), omega (arith, ints, p))
    by_case (inr (inr e)) = (n, omega (arith, ints), omega (arith, ints, e))

below_least : (x n m : ℤ) → x ≤ℤ n → n ≤ℤ m → x ≤ℤ m
below_least x n m h k = omega (arith, ints, h, k)

-- a number of at least 1 that no height of the vectors exceeds
bound_of : (column : ℕ) (rays : List (List ℤ)) → (n : ℤ) × (pos 1 ≤ℤ n) × All (λ r. cell r column ≤ℤ n) rays
bound_of column [] = (pos 1, omega (arith, ints), All-nil (λ r. cell r column ≤ℤ pos 1))
bound_of column (r ∷ rays) =
    let b = bound_of column rays in
    let c = bound_with (cell r column) b.0 in
    (c.0, below_least (pos 1) b.0 c.0 b.1 c.1, All-cons (λ (u : List ℤ). cell u column ≤ℤ c.0) r rays c.2 (All-weaker (λ (u : List ℤ). cell u column ≤ℤ b.0) (λ (u : List ℤ). cell u column ≤ℤ c.0) (λ u h. below_least (cell u column) b.0 c.0 h c.1) rays b.2))

product_split : (n x h : ℤ) → n *ℤ x +ℤ (n +ℤ neg_ℤ (pos 1)) *ℤ h ≡ n *ℤ (x +ℤ h +ℤ neg_ℤ (pos 1)) +ℤ (n +ℤ neg_ℤ h)
product_split n x h = simp ring (omega (arith, ints))

two_least : (x y : ℤ) → pos 0 ≤ℤ x → pos 0 ≤ℤ y → pos 0 ≤ℤ (x +ℤ y)
two_least x y h k = omega (arith, ints, h, k)

less_one : (n : ℤ) → pos 1 ≤ℤ n → pos 0 ≤ℤ (n +ℤ neg_ℤ (pos 1))
less_one n h = omega (arith, ints, h)

at_least : (n : ℤ) → pos 1 ≤ℤ n → pos 0 ≤ℤ n
at_least n h = omega (arith, ints, h)

above_zero : (n : ℤ) → pos 1 ≤ℤ n → pos 0 <ℤ n
above_zero n h = omega (arith, ints, h)

difference : (n h : ℤ) → h ≤ℤ n → pos 0 ≤ℤ (n +ℤ neg_ℤ h)
difference n h k = omega (arith, ints, k)

sum_less_one : (x h : ℤ) → pos 0 <ℤ (x +ℤ h) → pos 0 ≤ℤ (x +ℤ h +ℤ neg_ℤ (pos 1))
sum_less_one x h k = omega (arith, ints, k)

kept_least : (n x h : ℤ) → pos 1 ≤ℤ n → h ≤ℤ n → pos 0 ≤ℤ h → IsKept true x h → pos 0 ≤ℤ (n *ℤ x +ℤ (n +ℤ neg_ℤ (pos 1)) *ℤ h)
kept_least n x h one most least (inl p) = two_least (n *ℤ x) ((n +ℤ neg_ℤ (pos 1)) *ℤ h) (mul-at_least_zero n x (at_least n one) p) (mul-at_least_zero (n +ℤ neg_ℤ (pos 1)) h (less_one n one) least)
kept_least n x h one most least (inr p) =
    subst (λ (z : ℤ). pos 0 ≤ℤ z) (sym (product_split n x h))
    (two_least (n *ℤ (x +ℤ h +ℤ neg_ℤ (pos 1))) (n +ℤ neg_ℤ h) (mul-at_least_zero n (x +ℤ h +ℤ neg_ℤ (pos 1)) (at_least n one) (sum_less_one x h p.1)) (difference n h most))

product_less : (n s h : ℤ) → n *ℤ (s +ℤ neg_ℤ h) +ℤ (n +ℤ neg_ℤ (pos 1)) *ℤ h ≡ n *ℤ s +ℤ neg_ℤ h
product_less n s h = simp ring (omega (arith, ints))

above_of_less : (x h : ℤ) → pos 0 <ℤ h → pos 0 ≤ℤ (x +ℤ neg_ℤ h) → pos 0 <ℤ x
above_of_less x h k l = omega (arith, ints, k, l)

minus_height : (x s h : ℤ) → x ≡ s +ℤ neg_ℤ (pos 1) *ℤ h → x ≡ s +ℤ neg_ℤ h
minus_height x s h e = omega (arith, ints, e)

strict_number : (n t q h x : ℤ) → pos 1 ≤ℤ n → pos 0 <ℤ t → pos 0 <ℤ h → x ≡ t *ℤ q +ℤ neg_ℤ h → pos 0 ≤ℤ (n *ℤ x +ℤ (n +ℤ neg_ℤ (pos 1)) *ℤ h) → pos 0 <ℤ q
strict_number n t q h x one p above e least =
    positive_of_mul t q p
    (positive_of_mul n (t *ℤ q) (above_zero n one)
    (above_of_less (n *ℤ (t *ℤ q)) h above
    (subst (λ (z : ℤ). pos 0 ≤ℤ z) (product_less n (t *ℤ q) h) (subst (λ (y : ℤ). pos 0 ≤ℤ (n *ℤ y +ℤ (n +ℤ neg_ℤ (pos 1)) *ℤ h)) e least))))

without_height : (x s h : ℤ) → x ≡ s +ℤ pos 0 *ℤ h → x ≡ s
without_height x s h e = omega (arith, ints, e)

weak_number : (t q x : ℤ) → pos 0 <ℤ t → x ≡ t *ℤ q → pos 0 ≤ℤ x → pos 0 ≤ℤ q
weak_number t q x p e least = at_least_zero_of_mul t q p (subst (λ (z : ℤ). pos 0 ≤ℤ z) e least)

both_zero : (x y : ℤ) → pos 0 ≤ℤ x → pos 0 ≤ℤ y → y ≡ neg_ℤ x → x ≡ pos 0
both_zero x y h k e = omega (arith, ints, h, k, e)

zero_sum : (n x m y : ℤ) → x ≡ pos 0 → y ≡ pos 0 → n *ℤ x +ℤ m *ℤ y ≡ pos 0
zero_sum n x m y e f =
    let g : n *ℤ x ≡ pos 0 = ap (λ (z : ℤ). n *ℤ z) e ∙ mul-zero n in
    let k : m *ℤ y ≡ pos 0 = ap (λ (z : ℤ). m *ℤ z) f ∙ mul-zero m in
    omega (arith, ints, g, k)

weakly_kept : (x h : ℤ) → IsKept false x h → pos 0 ≤ℤ x
weakly_kept x h (inl p) = p
weakly_kept x h (inr p) = cc

-- ---- a set
module _ (cs : Constraints) (fit : FitDimension cs) (cone : Cone) (has : HasCone cs cone) where
  abbrev lines : List (List ℤ)
  lines = vectors cone.lines.rows

  abbrev rays : List (List ℤ)
  rays = vectors cone.rays.rows

  abbrev C : List ℤ → Type 0
  C = ConeOf (cs.dim + 2) (encoded_constraints cs)

  line_height : (i : ℕ) → i < length lines → cell (vector_at lines i) cs.dim ≡ pos 0
  line_height i b =
      let m = has.canon.system.generates.lines_within i [] b in
      both_zero (cell (vector_at lines i) cs.dim) (cell (scale (neg_ℤ (pos 1)) (vector_at lines i)) cs.dim) ((constraints_encode cs fit).height (vector_at lines i) m.0) ((constraints_encode cs fit).height (scale (neg_ℤ (pos 1)) (vector_at lines i)) m.1) (cell-negated (vector_at lines i) cs.dim)

  -- an inequality that holds at a point holds where its row is at least 0 on the lines and rays
  weak : (a : List ℤ) → length a ≡ cs.dim + 1 → All (λ l. dot (encoded_constraint cs.dim (a, Ge)).0 l ≡ pos 0) lines → All (λ r. pos 0 ≤ℤ dot (encoded_constraint cs.dim (a, Ge)).0 r) rays → HoldsOn cs (a, Ge)
  weak a wide on_lines on_rays v pt h =
      let k = (constraints_are_coded cs v fit pt).0 h in
      let u = raised cs.dim (scale k.times v) k.height in
      let least = at_least_zero_on_spanned (encoded_constraint cs.dim (a, Ge)).0 lines rays u on_lines on_rays (has.canon.system.generates.spans u k.member) in
      let value = constraint_value cs.dim (a, Ge) (scale k.times v) k.height wide (omega (arith, length-scale k.times v, pt.wide)) in
      weak_number k.times (dot a v) (dot (encoded_constraint cs.dim (a, Ge)).0 u) k.positive (without_height (dot (encoded_constraint cs.dim (a, Ge)).0 u) (dot a (scale k.times v)) k.height value ∙ dot-scale a k.times v) least

  -- the row times a number, and the row of the height times one less
  abbrev row_times : List ℤ → ℤ → List ℤ
  row_times row n = add (scale n row) (scale (n +ℤ neg_ℤ (pos 1)) (height_row cs.dim).0)

  value_times : (row : List ℤ) (n : ℤ) (x : List ℤ) → length x ≡ cs.dim + 2 → dot (row_times row n) x ≡ n *ℤ dot row x +ℤ (n +ℤ neg_ℤ (pos 1)) *ℤ cell x cs.dim
  value_times row n x w =
      let m = n +ℤ neg_ℤ (pos 1) in
      dot_comm (row_times row n) x ∙ dot-add x (scale n row) (scale m (height_row cs.dim).0)
      ∙ ap (λ (z : ℤ). z +ℤ dot x (scale m (height_row cs.dim).0)) (dot-scale x n row ∙ ap (λ (z : ℤ). n *ℤ z) (dot_comm x row))
      ∙ ap (λ (z : ℤ). n *ℤ dot row x +ℤ z) (dot-scale x m (height_row cs.dim).0 ∙ ap (λ (z : ℤ). m *ℤ z) (height_at cs.dim x w))

  strict : (a : List ℤ) → length a ≡ cs.dim + 1 → All (λ l. dot (encoded_constraint cs.dim (a, Gt)).0 l ≡ pos 0) lines → All (λ r. IsKept true (dot (encoded_constraint cs.dim (a, Gt)).0 r) (cell r cs.dim)) rays → HoldsOn cs (a, Gt)
  strict a wide on_lines on_rays v pt h =
      let row = (encoded_constraint cs.dim (a, Gt)).0 in
      let k = (constraints_are_coded cs v fit pt).0 h in
      let u = raised cs.dim (scale k.times v) k.height in
      let b = bound_of cs.dim rays in
      let lines_zero : All (λ l. dot (row_times row b.0) l ≡ pos 0) lines = All-from_get_or (λ (l : List ℤ). dot (row_times row b.0) l ≡ pos 0) lines []
      (λ i d. value_times row b.0 (vector_at lines i) (has.canon.system.generates.lines_within i [] d).0.wide ∙ zero_sum b.0 (dot row (vector_at lines i)) (b.0 +ℤ neg_ℤ (pos 1)) (cell (vector_at lines i) cs.dim) (on_lines i [] d) (line_height i d)) in
      let rays_least : All (λ r. pos 0 ≤ℤ dot (row_times row b.0) r) rays = All-from_get_or (λ (r : List ℤ). pos 0 ≤ℤ dot (row_times row b.0) r) rays []
      (λ i d. subst (λ (z : ℤ). pos 0 ≤ℤ z) (sym (value_times row b.0 (vector_at rays i) (has.canon.system.generates.rays_within i [] d).wide))
      (kept_least b.0 (dot row (vector_at rays i)) (cell (vector_at rays i) cs.dim) b.1 (b.2 i [] d) ((constraints_encode cs fit).height (vector_at rays i) (has.canon.system.generates.rays_within i [] d)) (on_rays i [] d))) in
      let least = at_least_zero_on_spanned (row_times row b.0) lines rays u lines_zero rays_least (has.canon.system.generates.spans u k.member) in
      let value = constraint_value cs.dim (a, Gt) (scale k.times v) k.height wide (omega (arith, length-scale k.times v, pt.wide)) in
      let height = cell_height k.times k.height v pt in
      strict_number b.0 k.times (dot a v) k.height (dot row u) b.1 k.positive k.above
      (minus_height (dot row u) (dot a (scale k.times v)) k.height value ∙ ap (λ (z : ℤ). z +ℤ neg_ℤ k.height) (dot-scale a k.times v))
      (subst (λ (z : ℤ). pos 0 ≤ℤ (b.0 *ℤ dot row u +ℤ (b.0 +ℤ neg_ℤ (pos 1)) *ℤ z)) height
      (subst (λ (z : ℤ). pos 0 ≤ℤ z) (value_times row b.0 u k.member.wide) least))
    where
      cell_height : (t z : ℤ) (v : List ℤ) → IsPoint cs.dim v → cell (raised cs.dim (scale t v) z) cs.dim ≡ z
      cell_height t z v pt = cell_insert cs.dim (scale t v) z (omega (arith, length-scale t v, pt.wide))

  holds : (c : Constraint) → IsInequality c → length c.0 ≡ cs.dim + 1 → All (λ l. dot (encoded_constraint cs.dim c).0 l ≡ pos 0) lines → All (λ r. IsKept (is_strict c.1) (dot (encoded_constraint cs.dim c).0 r) (cell r cs.dim)) rays → HoldsOn cs c
  holds (a, Eq) i wide on_lines on_rays = absurd i
  holds (a, Ge) i wide on_lines on_rays = weak a wide on_lines (All-weaker (λ (r : List ℤ). IsKept false (dot (encoded_constraint cs.dim (a, Ge)).0 r) (cell r cs.dim)) (λ (r : List ℤ). pos 0 ≤ℤ dot (encoded_constraint cs.dim (a, Ge)).0 r) (λ r k. weakly_kept (dot (encoded_constraint cs.dim (a, Ge)).0 r) (cell r cs.dim) k) rays on_rays)
  holds (a, Gt) i wide on_lines on_rays = strict a wide on_lines on_rays

  -- what is kept by all lines and rays holds
  pub kept_holds : (hs : Constraints) → FitDimension hs → hs.dim ≡ cs.dim → AreInequalities hs → (index : ℕ) → index < length hs.list → (rows : List Row) (row : List ℤ) (kept : Bool) (column : ℕ) → rows ≡ map (encoded_constraint hs.dim) hs.list → row ≡ row_at rows index → kept ≡ is_strict (kind_at hs.list index) → column ≡ cs.dim → All (λ l. dot row l ≡ pos 0) lines → All (λ r. IsKept kept (dot row r) (cell r column)) rays → HoldsOn cs (constraint_at hs.list index)
  kept_holds hs fits same proper index below rows row kept column rows_are row_is kept_is column_is on_lines on_rays =
      let c = constraint_at hs.list index in
      let is : row ≡ (encoded_constraint cs.dim c).0 = row_is ∙ ap (λ (rs : List Row). row_at rs index) rows_are ∙ ap (λ (r : Row). r.0) (encoded_at hs.dim hs.list index below) ∙ ap (λ (n : ℕ). (encoded_constraint n c).0) same in
      holds c (proper index ([], Eq) below) ((fits.each index ([], Eq) below).wide ∙ ap (λ (n : ℕ). n + 1) same)
      (subst (λ (r : List ℤ). All (λ l. dot r l ≡ pos 0) lines) is on_lines)
      (subst (λ (s : Bool). All (λ r. IsKept s (dot (encoded_constraint cs.dim c).0 r) (cell r cs.dim)) rays) kept_is
      (subst (λ (n : ℕ). All (λ r. IsKept kept (dot (encoded_constraint cs.dim c).0 r) (cell r n)) rays) column_is
      (subst (λ (a : List ℤ). All (λ r. IsKept kept (dot a r) (cell r column)) rays) is on_rays)))
