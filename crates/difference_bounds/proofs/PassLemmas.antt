-- The steps of a pass.
use Rattle.std.specs.Prelude.{◌≡◌, ◌⊎◌, ℕ, zero, suc, ◌+◌, ◌*◌, ◌<◌, List, [], ◌∷◌, ℤ, pos, ◌+ℤ◌, ◌*ℤ◌, ◌≤ℤ◌, ◌<ℤ◌, Option, Some, None, IfSome, slice_index_or}
use Rattle.std.proofs.Common.{arith, sym, ◌∙◌, ap, refl, subst, inl, inr}
use Rattle.std.proofs.lemmas.Int.{ints}
use Rattle.std.proofs.lemmas.Option.{none-some, same_Some}
use Rattle.std.specs.List.{AllByRecursion}
use Rattle.std.proofs.lemmas.Bool.{cases_order}
use Rattle.std.proofs.lemmas.List.Elements.{recursion_from_All}
use Rattle.row_core.proofs.Ring.{mul-at_least_zero, at_least_zero_of_mul, at_least_zero_or_not, mul_comm}
use Rattle.difference_bounds.specs.declared.fraction.Fraction.{Fraction}
use Rattle.difference_bounds.specs.Fractions.{sum, IsAtMost, IsBelow, IsLowestOf, IsFraction}
use Rattle.difference_bounds.specs.Walks.{Bound, Bounds, AreBelow, IsTotal, HasWalk, IsLeast, IsLeastTotal, IsNonnegative, IsNegative}
use Rattle.difference_bounds.specs.Tables.{Table, AreFractions, bounds_of, HasZeros, AreLeast, Differs}
use Rattle.difference_bounds.specs.Laws.{IsLesser, IsRelaxed}
use Rattle.row_core.specs.declared.errors.Overflow.{Overflow}
use Rattle.std.specs.Prelude.{Bool, true, false, MatchBool, not}
use Rattle.difference_bounds.specs.Overflows.{LeavesInRelaxing, LeavesInClosing}
use Rattle.difference_bounds.specs.Passes.{IsBefore, IsPassing, HasNoNegative, HasNegative, IsClosed}
use Rattle.difference_bounds.proofs.Tightness.{closes_tables, negative_has_none}
use Rattle.difference_bounds.proofs.Scaling.{Scaled, walk_to, over_sum, over_lowest, below_to, least_to, nonnegative_to}
use Rattle.difference_bounds.proofs.Denominators.{table_over}
use Rattle.difference_bounds.proofs.Weights as w
use Rattle.difference_bounds.proofs.LeastSteps.{step_bounds}

-- ---- signs of least totals
same_sign : (a b : ℤ) (d e : ℤ) → pos 0 <ℤ d → pos 0 <ℤ e → a *ℤ e ≡ b *ℤ d → pos 0 ≤ℤ b → pos 0 ≤ℤ a
same_sign a b d e p q h k =
    let s : pos 0 ≤ℤ (b *ℤ d) = mul-at_least_zero b d k (omega (arith, ints)) in
    at_least_zero_of_mul e a q (subst (λ (z : ℤ). pos 0 ≤ℤ z) (sym h ∙ mul_comm a e) s)

-- ---- a pass leaves the bounds to k and from k as they are
module _ (given : Table) (m k : ℕ) (f : AreFractions given.cells) (l : k < m) (n : IsNonnegative (bounds_of given) m k) where
  abbrev b : Bounds
  b = bounds_of given

  closed_number : (z : ℤ) → w.IsLeast (table_over given f).weights k k k (Some z) → pos 0 ≤ℤ z
  closed_number z h = nonnegative_to (table_over given f).divisor (table_over given f).positive b (table_over given f).weights (table_over given f).scaled m k l n z h.0

  -- the sum with a total of a closed walk isn't below
  stays_below : (x y z : ℤ) (p q s : Fraction) → (o : Bound) → Scaled (table_over given f).divisor (Some p) (Some x) → Scaled (table_over given f).divisor (Some q) (Some z) → pos 0 ≤ℤ z → (IsLowestOf (sum p q) s ⊎ IsLowestOf (sum q p) s) → IsBelow s p → ⊥
  stays_below x y z p q s o a c h (inl e) u =
      let over = table_over given f in
      let r = below_to over.divisor over.positive s p (x +ℤ z) x (over_lowest over.divisor (sum p q) s (x +ℤ z) (over_sum over.divisor p q x z a c) e) a u in
      omega (arith, ints, r, h)
  stays_below x y z p q s o a c h (inr e) u =
      let over = table_over given f in
      let r = below_to over.divisor over.positive s p (z +ℤ x) x (over_lowest over.divisor (sum q p) s (z +ℤ x) (over_sum over.divisor q p z x c a) e) a u in
      omega (arith, ints, r, h)

  abbrev Known : ℕ → ℕ → Bound → Type 0
  Known i j o = (x : Option ℤ) × Scaled (table_over given f).divisor o x × w.IsLeast (table_over given f).weights k i j x

  known : (i j : ℕ) (o : Bound) → IsLeast b k i j o → Known i j o
  known i j o h = least_to (table_over given f).divisor (table_over given f).positive b (table_over given f).weights (table_over given f).scaled k i j o h

  lesser_stays : (p q s : Fraction) (r : Bound) (i j : ℕ) → Known i j (Some p) → Known k k (Some q) → (IsLowestOf (sum p q) s ⊎ IsLowestOf (sum q p) s) → IsLesser (Some p) s r → r ≡ Some p
  lesser_stays p q s r i j (None, a, x) c e h = absurd a
  lesser_stays p q s r i j (Some x, a, y) (None, c, z) e h = absurd c
  lesser_stays p q s r i j (Some x, a, y) (Some v, c, z) e (inl (h, g)) = absurd (stays_below x x v p q s None a c (closed_number v z) e h)
  lesser_stays p q s r i j (Some x, a, y) (Some v, c, z) e (inr (h, g)) = g

  pub to_stays : (i : ℕ) (a z r : Bound) → IsLeast b k i k a → IsLeast b k k k z → IsRelaxed a a z r → r ≡ a
  to_stays i None z r la lz h = h
  to_stays i (Some p) None r la lz h = h
  to_stays i (Some p) (Some q) r la lz (s, e, h) = lesser_stays p q s r i k (known i k (Some p) la) (known k k (Some q) lz) (inl e) h

  pub from_stays : (j : ℕ) (a z r : Bound) → IsLeast b k k j a → IsLeast b k k k z → IsRelaxed a z a r → r ≡ a
  from_stays j None None r la lz h = h
  from_stays j None (Some q) r la lz h = h
  from_stays j (Some p) None r la lz h = h
  from_stays j (Some p) (Some q) r la lz (s, e, h) = lesser_stays p q s r k j (known k j (Some p) la) (known k k (Some q) lz) (inr e) h

-- ---- one cell
pub before_start : (i j : ℕ) → IsBefore 0 0 i j → ⊥
before_start i j (inl h) = omega arith
before_start i j (inr (e, h)) = omega arith

-- the cell itself, or another
pub here_or : (r c i j : ℕ) → ((i ≡ r) × (j ≡ c)) ⊎ Differs r c i j
here_or r c i j = by (cases_order i r) (cases_order j c)
  where
    by : (i ≡ r) ⊎ ((i < r) ⊎ (r < i)) → (j ≡ c) ⊎ ((j < c) ⊎ (c < j)) → ((i ≡ r) × (j ≡ c)) ⊎ Differs r c i j
    by (inl e) (inl f) = inl (e, f)
    by (inl e) (inr (inl h)) = inr (λ p. let q = p.1 in omega arith)
    by (inl e) (inr (inr h)) = inr (λ p. let q = p.1 in omega arith)
    by (inr (inl h)) f = inr (λ p. let q = p.0 in omega arith)
    by (inr (inr h)) f = inr (λ p. let q = p.0 in omega arith)

pub before_less : (r c i j : ℕ) → Differs r c i j → IsBefore r (c + 1) i j → IsBefore r c i j
before_less r c i j n (inl h) = inl h
before_less r c i j n (inr (e, h)) = by (cases_order j c)
  where
    by : (j ≡ c) ⊎ ((j < c) ⊎ (c < j)) → IsBefore r c i j
    by (inl f) = absurd (n (e, f))
    by (inr (inl g)) = inr (e, g)
    by (inr (inr g)) = absurd (omega arith)

pub before_more : (r c i j : ℕ) → IsBefore r c i j → IsBefore r (c + 1) i j
before_more r c i j (inl h) = inl h
before_more r c i j (inr (e, h)) = inr (e, omega arith)

pub not_itself : (r c : ℕ) → ¬ (IsBefore r c r c)
not_itself r c (inl h) = omega arith
not_itself r c (inr (e, h)) = omega arith

pub itself_next : (r c i j : ℕ) → (i ≡ r) × (j ≡ c) → IsBefore r (c + 1) i j
itself_next r c i j (e, f) = inr (e, omega arith)

-- the new table has the bound at the cell and is the old one elsewhere
pub record IsSetAt (m : ℕ) (t u : Table) (r c : ℕ) (x : Bound) : Type 0 where
  pub here : bounds_of u r c ≡ x
  pub elsewhere : (p q : ℕ) → p < m → q < m → Differs r c p q → bounds_of u p q ≡ bounds_of t p q

module _ (given : Table) (m k : ℕ) (t u : Table) (r c : ℕ) (x : Bound) (l : k < m) (lr : r < m) (lc : c < m) (p : IsPassing given m k t r c) (h : IsRelaxed (bounds_of t r c) (bounds_of t r k) (bounds_of t k c) x) (s : IsSetAt m t u r c x) where
  abbrev g : Bounds
  g = bounds_of given

  at_cell : (n i j : ℕ) → (i ≡ r) × (j ≡ c) → IsLeast g n r c x → IsLeast g n i j (bounds_of u i j)
  at_cell n i j (e, f) o =
      subst (λ (y : ℕ). IsLeast g n y j (bounds_of u y j)) (sym e) (subst (λ (y : ℕ). IsLeast g n r y (bounds_of u r y)) (sym f) (subst (λ (y : Bound). IsLeast g n r c y) (sym s.here) o))

  at_other : (n i j : ℕ) → i < m → j < m → Differs r c i j → IsLeast g n i j (bounds_of t i j) → IsLeast g n i j (bounds_of u i j)
  at_other n i j li lj d o = subst (λ (y : Bound). IsLeast g n i j y) (sym (s.elsewhere i j li lj d)) o

  next : IsLeast g (k + 1) r c x
  next = step_bounds given m k r c (bounds_of t r c) (bounds_of t r k) (bounds_of t k c) x p.fractions l p.nonnegative (p.rest r c lr lc (not_itself r c)) (p.to r lr) (p.from c lc) h

  to_same : c ≡ k → x ≡ bounds_of t r c
  to_same e =
      let a = subst (λ (y : ℕ). IsLeast g k r y (bounds_of t r y)) (sym e) (p.to r lr) in
      let z = p.to k l in
      let q : IsRelaxed (bounds_of t r k) (bounds_of t r k) (bounds_of t k k) x = subst (λ (y : ℕ). IsRelaxed (bounds_of t r y) (bounds_of t r k) (bounds_of t k y) x) e h in
      to_stays given m k p.fractions l p.nonnegative r (bounds_of t r k) (bounds_of t k k) x (p.to r lr) z q ∙ ap (λ (y : ℕ). bounds_of t r y) (sym e)

  from_same : r ≡ k → x ≡ bounds_of t r c
  from_same e =
      let z = p.to k l in
      let q : IsRelaxed (bounds_of t k c) (bounds_of t k k) (bounds_of t k c) x = subst (λ (y : ℕ). IsRelaxed (bounds_of t y c) (bounds_of t y k) (bounds_of t k c) x) e h in
      from_stays given m k p.fractions l p.nonnegative c (bounds_of t k c) (bounds_of t k k) x (p.from c lc) z q ∙ ap (λ (y : ℕ). bounds_of t y c) (sym e)

  still : x ≡ bounds_of t r c → IsLeast g k r c x
  still e = subst (λ (y : Bound). IsLeast g k r c y) (sym e) (p.rest r c lr lc (not_itself r c))

  pub passes_on : IsPassing given m k u r (c + 1)
  passes_on = record {
    fractions = p.fractions;
    nonnegative = p.nonnegative;
    before = λ i j li lj q. elim (here_or r c i j) [ inl e ↦ at_cell (k + 1) i j e next | inr d ↦ at_other (k + 1) i j li lj d (p.before i j li lj (before_less r c i j d q)) ];
    rest = λ i j li lj q. elim (here_or r c i j) [ inl e ↦ absurd (q (itself_next r c i j e)) | inr d ↦ at_other k i j li lj d (p.rest i j li lj (λ z. q (before_more r c i j z))) ];
    to = λ i li. elim (here_or r c i k) [ inl e ↦ at_cell k i k e (still (to_same (sym e.1))) | inr d ↦ at_other k i k li l d (p.to i li) ];
    from = λ j lj. elim (here_or r c k j) [ inl e ↦ at_cell k k j e (still (from_same (sym e.0))) | inr d ↦ at_other k k j l lj d (p.from j lj) ];
  }

-- ---- a row, and all rows
pub row_before : (m r i j : ℕ) → j < m → IsBefore (r + 1) 0 i j → IsBefore r m i j
row_before m r i j l (inl h) = by (cases_order i r)
  where
    by : (i ≡ r) ⊎ ((i < r) ⊎ (r < i)) → IsBefore r m i j
    by (inl e) = inr (e, l)
    by (inr (inl g)) = inl g
    by (inr (inr g)) = absurd (omega arith)
row_before m r i j l (inr (e, h)) = absurd (omega arith)

pub row_after : (m r i j : ℕ) → IsBefore r m i j → IsBefore (r + 1) 0 i j
row_after m r i j (inl h) = inl (omega arith)
row_after m r i j (inr (e, h)) = inl (omega arith)

pub row_passed : (given : Table) (m k : ℕ) (t : Table) (r : ℕ) → IsPassing given m k t r m → IsPassing given m k t (r + 1) 0
row_passed given m k t r p = record {
  fractions = p.fractions;
  nonnegative = p.nonnegative;
  before = λ i j li lj q. p.before i j li lj (row_before m r i j lj q);
  rest = λ i j li lj q. p.rest i j li lj (λ z. q (row_after m r i j z));
  to = p.to;
  from = p.from;
}

pub pass_begins : (given : Table) (m k : ℕ) (t : Table) → AreFractions given.cells → k < m → IsNonnegative (bounds_of given) m k → AreLeast (bounds_of given) m k (bounds_of t) → IsPassing given m k t 0 0
pass_begins given m k t f l n h = record {
  fractions = f;
  nonnegative = n;
  before = λ i j li lj q. absurd (before_start i j q);
  rest = λ i j li lj q. h i j li lj;
  to = λ i li. h i k li l;
  from = λ j lj. h k j l lj;
}

pub pass_ends : (given : Table) (m k : ℕ) (t : Table) → IsPassing given m k t m 0 → AreLeast (bounds_of given) m (k + 1) (bounds_of t)
pass_ends given m k t p i j li lj = p.before i j li lj (inl li)

-- ---- before the first pass
direct : (b : Bounds) (i j : ℕ) (f : Fraction) (ps : List ℕ) → AreBelow 0 ps → IsTotal b i ps j f → b i j ≡ Some f
direct b i j f [] l e = e
direct b i j f (p ∷ ps) (l, h) e = absurd (omega arith)

at_most_same : (f g : Fraction) → f ≡ g → IsAtMost f g
at_most_same f g e = subst (λ (z : Fraction). IsAtMost f z) e (omega (arith, ints))

start_at : (b : Bounds) (i j : ℕ) (o : Bound) → b i j ≡ o → IfSome o IsFraction → IsLeast b 0 i j o
start_at b i j None e h = λ g q. none-some g (sym e ∙ direct b i j g q.inner q.below q.total)
start_at b i j (Some f) e h = record {
  positive = h.positive;
  lowest = h.lowest;
  reached = record { total = f; walk = record { inner = []; below = tt; total = e }; same = refl };
  least = λ g q. at_most_same f g (same_Some f g (sym e ∙ direct b i j g q.inner q.below q.total));
}

cell_fraction : (cells : List Bound) → AllByRecursion (λ c. IfSome c IsFraction) cells → (k : ℕ) → IfSome (slice_index_or cells k None) IsFraction
cell_fraction [] h k = tt
cell_fraction (c ∷ cells) (p, h) zero = p
cell_fraction (c ∷ cells) (p, h) (suc k) = cell_fraction cells h k

pub bound_fraction : (t : Table) (i j : ℕ) → AreFractions t.cells → IfSome (bounds_of t i j) IsFraction
bound_fraction t i j h = cell_fraction t.cells (recursion_from_All (λ c. IfSome c IsFraction) t.cells h) (i * t.places + j)

pub least_begins : (t : Table) (m : ℕ) → AreFractions t.cells → AreLeast (bounds_of t) m 0 (bounds_of t)
least_begins t m h i j li lj = start_at (bounds_of t) i j (bounds_of t i j) refl (bound_fraction t i j h)

-- ---- negative closed walks
at_most_sign : (f g : Fraction) → pos 0 <ℤ f.den → pos 0 <ℤ g.den → IsAtMost f g → pos 0 ≤ℤ f.num → pos 0 ≤ℤ g.num
at_most_sign f g p q h k =
    let s : pos 0 ≤ℤ (f.num *ℤ g.den) = mul-at_least_zero f.num g.den k (omega (arith, ints)) in
    let r : pos 0 ≤ℤ (f.den *ℤ g.num) = subst (λ (z : ℤ). pos 0 ≤ℤ z) (mul_comm g.num f.den) (omega (arith, ints, s, h)) in
    at_least_zero_of_mul f.den g.num p r

module _ (given : Table) (m k : ℕ) (t : Table) (f : AreFractions given.cells) (l : AreLeast (bounds_of given) m k (bounds_of t)) where
  total_positive : (i j : ℕ) (g : Fraction) → HasWalk (bounds_of given) k i j g → pos 0 <ℤ g.den
  total_positive i j g h = let over = table_over given f in (walk_to over.divisor (bounds_of given) over.weights over.scaled k i j g h).2.positive

  none_negative : (q : ℕ) (o : Bound) → bounds_of t q q ≡ o → IsLeast (bounds_of given) k q q o → ((h : Fraction) → bounds_of t q q ≡ Some h → pos 0 ≤ℤ h.num) → (g : Fraction) → HasWalk (bounds_of given) k q q g → pos 0 ≤ℤ g.num
  none_negative q None e a n g h = absurd (a g h)
  none_negative q (Some b) e a n g h = at_most_sign b g a.positive (total_positive q q g h) (a.least g h) (n b e)

  pub nonnegative_by : HasNoNegative t m → IsNonnegative (bounds_of given) m k
  nonnegative_by n q lq g h = none_negative q (bounds_of t q q) refl (l q q lq lq) (n q lq) g h

  pub negative_by : HasNegative t m → IsNegative (bounds_of given) m k
  negative_by n = by (subst (IsLeast (bounds_of given) k n.place n.place) n.here (l n.place n.place n.below n.below))
    where
      by : IsLeastTotal (bounds_of given) k n.place n.place n.bound → IsNegative (bounds_of given) m k
      by a = record {
        place = n.place;
        below = n.below;
        total = a.reached.total;
        walk = a.reached.walk;
        negative = sign (at_least_zero_or_not a.reached.total.num);
      }
        where
          sign : (pos 0 ≤ℤ a.reached.total.num) ⊎ (a.reached.total.num <ℤ pos 0) → a.reached.total.num <ℤ pos 0
          sign (inl h) =
              let s = same_sign n.bound.num a.reached.total.num n.bound.den a.reached.total.den a.positive (total_positive n.place n.place a.reached.total a.reached.walk) a.reached.same h in
              let r = n.negative in
              absurd (omega (arith, ints, s, r))
          sign (inr h) = h

-- a row whose bound to k is none stays as it is
module _ (given : Table) (m k : ℕ) (t : Table) (r : ℕ) (l : k < m) (lr : r < m) (e : bounds_of t r k ≡ None) (p : IsPassing given m k t r 0) where
  unchanged : (c : ℕ) → IsRelaxed (bounds_of t r c) (bounds_of t r k) (bounds_of t k c) (bounds_of t r c)
  unchanged c = subst (λ (y : Bound). IsRelaxed (bounds_of t r c) y (bounds_of t k c) (bounds_of t r c)) (sym e) refl

  passed_to : (c : ℕ) → c < m + 1 → IsPassing given m k t r c
  passed_to zero h = p
  passed_to (suc c) h =
      let f : c + 1 ≡ suc c = omega arith in
      subst (λ (x : ℕ). IsPassing given m k t r x) f (passes_on given m k t t r c (bounds_of t r c) l lr (omega arith) (passed_to c (omega arith)) (unchanged c) (record { here = refl; elsewhere = λ x y lx ly d. refl }))

  pub row_skipped : IsPassing given m k t (r + 1) 0
  row_skipped = row_passed given m k t r (passed_to m (omega arith))

-- ---- in the code
pub pass_cell : (given : Table) (m n k : ℕ) (t u : Table) (r c : ℕ) → n ≡ m → k < m → r < m → c < m → IsPassing given m k t r c → IsRelaxed (bounds_of t r c) (bounds_of t r k) (bounds_of t k c) (bounds_of u r c) → ((p q : ℕ) → p < n → q < n → Differs r c p q → bounds_of u p q ≡ bounds_of t p q) → IsPassing given m k u r (c + 1)
pass_cell given m n k t u r c e l lr lc p h s =
    passes_on given m k t u r c (bounds_of u r c) l lr lc p h (record { here = refl; elsewhere = λ x y lx ly d. s x y (subst (λ (z : ℕ). x < z) (sym e) lx) (subst (λ (z : ℕ). y < z) (sym e) ly) d })

pub passing_leaves : (given : Table) (m k : ℕ) (t : Table) (r c : ℕ) (over : Overflow) → k < m → r < m → c < m → IsPassing given m k t r c → LeavesInRelaxing (bounds_of t r c) (bounds_of t r k) (bounds_of t k c) over → LeavesInClosing (bounds_of given) m over
passing_leaves given m k t r c over l lr lc p h = record {
  k = k;
  i = r;
  j = c;
  k_below = l;
  i_below = lr;
  j_below = lc;
  nonnegative = p.nonnegative;
  bound = bounds_of t r c;
  to = bounds_of t r k;
  from = bounds_of t k c;
  bound_least = p.rest r c lr lc (not_itself r c);
  to_least = p.to r lr;
  from_least = p.from c lc;
  leaves = h;
}

pub closed_by : (t u : Table) (m n : ℕ) (b : Bool) → n ≡ m → AreFractions t.cells → AreFractions u.cells → HasZeros (bounds_of t) m → AreLeast (bounds_of t) m m (bounds_of u) → MatchBool b (HasNegative u n) (HasNoNegative u n) → IsClosed t u m (not b)
closed_by t u m n true e f g z l h = negative_has_none t m m f (omega arith) (negative_by t m m u f l (subst (HasNegative u) e h))
closed_by t u m n false e f g z l h = let c = closes_tables t u m f g z l in (c.same, c.tight (nonnegative_by t m m u f l (subst (HasNoNegative u) e h)))
