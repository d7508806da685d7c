-- The table of the bounds that constraints give, one constraint after another.
use Rattle.std.specs.Prelude.{◌≡◌, ◌≢◌, ◌⊎◌, ℕ, ◌+◌, ◌<◌, List, [], ◌∷◌, length, ℤ, pos, neg_ℤ, ◌<ℤ◌, true, Some, None, IfSome}
use Rattle.std.proofs.Common.{arith, sym, ◌∙◌, ap, subst, inl, inr}
use Rattle.std.proofs.lemmas.Int.{ints}
use Rattle.std.proofs.lemmas.Bool.{cases_order}
use Rattle.std.proofs.lemmas.Option.{same_Some}
use Rattle.row_core.specs.Vectors.{cell}
use Rattle.row_core.specs.declared.errors.Overflow.{Overflow}
use Rattle.row_core.proofs.OnePrimitive.{IsPrimitiveOf-once}
use Rattle.cons_sys.specs.Constraints.{Constraints, constraint_at, row_at, kind_at}
use Rattle.cons_sys.specs.declared.kind.ConKind.TheVariants.{Eq}
use Rattle.optimum.proofs.Fractions.{short_most}
use Rattle.difference_bounds.specs.declared.fraction.Fraction.{Fraction}
use Rattle.difference_bounds.specs.Fractions.{pair_of, IsFraction, IsLowestOf}
use Rattle.difference_bounds.specs.Walks.{Bound, Bounds}
use Rattle.difference_bounds.specs.Tables.{Table, AreFractions, HasZeros, bounds_of, Differs}
use Rattle.difference_bounds.specs.Laws.{IsLesser, IsCovered}
use Rattle.difference_bounds.proofs.FractionLemmas.{lowest_positive}
use Rattle.difference_bounds.proofs.PassLemmas.{here_or, bound_fraction}
use Rattle.bd_shape.specs.Rows.{constant_row}
use Rattle.bd_shape.specs.Forms.{IsDifference}
use Rattle.bd_shape.specs.Given.{IsUpper, IsLower, GivesBound, IsGiven, AreLeastOf, IsLowered, IsRead, IsReading}
use Rattle.bd_shape.specs.Refusals.{LeavesInTwoGiven, LeavesInTaking}
use Rattle.bd_shape.proofs.FormOnce.{first_once, second_once, factor_once, constant_no_difference}

-- ---- a bound that is lowered
lesser_from : (x : Bound) (h : Fraction) (r : Bound) (f : Fraction) → IsLesser x h r → r ≡ Some f → (x ≡ Some f) ⊎ (f ≡ h)
lesser_from None h r f e q = inr (same_Some f h (sym q ∙ e))
lesser_from (Some x) h r f (inl (l, e)) q = inr (same_Some f h (sym q ∙ e))
lesser_from (Some x) h r f (inr (n, e)) q = inl (sym e ∙ q)

covers_itself : (x : Bound) (h : Fraction) (r : Bound) → IsLesser x h r → IsCovered (Some h) r
covers_itself None h r e = subst (IsCovered (Some h)) (sym e) (λ k. omega (arith, ints, k))
covers_itself (Some x) h r (inl (l, e)) = subst (IsCovered (Some h)) (sym e) (λ k. omega (arith, ints, k))
covers_itself (Some x) h r (inr (n, e)) = subst (IsCovered (Some h)) (sym e) n

covers_lesser : (f : Fraction) (x : Bound) (h : Fraction) (r : Bound) → pos 0 <ℤ f.den → pos 0 <ℤ h.den → IfSome x IsFraction → IsCovered (Some f) x → IsLesser x h r → IsCovered (Some f) r
covers_lesser f None h r pf ph fx c e = absurd c
covers_lesser f (Some x) h r pf ph fx c (inl (l, e)) = subst (IsCovered (Some f)) (sym e) (λ k. c (short_most true f.num f.den h.num h.den x.num x.den pf ph fx.positive k (omega (arith, ints, l))))
covers_lesser f (Some x) h r pf ph fx c (inr (n, e)) = subst (IsCovered (Some f)) (sym e) c

same_cell : (b : Bounds) (i j p q : ℕ) → i ≡ p → j ≡ q → b i j ≡ b p q
same_cell b i j p q e f = ap (λ (y : ℕ). b y j) e ∙ ap (b p) f

module _ (Given : ℕ → ℕ → Fraction → Type 0) (above : (i j : ℕ) (f : Fraction) → Given i j f → pos 0 <ℤ f.den) (m : ℕ) (t u : Table) (a b : ℕ) (g : Fraction) (s : IsLowered t u a b g) (places : t.places ≡ m) (ft : AreFractions t.cells) where
  -- the bound of the two places is one more that is given
  abbrev pub More : ℕ → ℕ → Fraction → Type 0
  More i j f = Given i j f ⊎ ((i ≡ a) × (j ≡ b) × (f ≡ s.bound))

  else_where : (i j : ℕ) → i < m → j < m → Differs a b i j → bounds_of u i j ≡ bounds_of t i j
  else_where i j li lj d = s.elsewhere i j (subst (λ (z : ℕ). i < z) (sym places) li) (subst (λ (z : ℕ). j < z) (sym places) lj) d

  pub lowered_zeros : a ≢ b → HasZeros (bounds_of t) m → HasZeros (bounds_of u) m
  lowered_zeros n z i li = else_where i i li li (λ e. n (sym e.0 ∙ e.1)) ∙ z i li

  pub lowered_above : (i j : ℕ) (f : Fraction) → More i j f → pos 0 <ℤ f.den
  lowered_above i j f (inl h) = above i j f h
  lowered_above i j f (inr (e, k, q)) = subst (λ (z : Fraction). pos 0 <ℤ z.den) (sym q) s.fraction.positive

  module _ (l : AreLeastOf Given m (bounds_of t)) where
    given_more : (i j : ℕ) (f : Fraction) → i < m → j < m → i ≢ j → bounds_of u i j ≡ Some f → More i j f
    given_more i j f li lj d e = by (here_or a b i j)
      where
        of : (i ≡ a) × (j ≡ b) → (bounds_of t a b ≡ Some f) ⊎ (f ≡ s.bound) → More i j f
        of q (inl k) = inl (l.given i j f li lj d (same_cell (bounds_of t) i j a b q.0 q.1 ∙ k))
        of q (inr k) = inr (q.0, q.1, k)

        by : ((i ≡ a) × (j ≡ b)) ⊎ Differs a b i j → More i j f
        by (inl q) = of q (lesser_from (bounds_of t a b) s.bound (bounds_of u a b) f s.here (sym (same_cell (bounds_of u) i j a b q.0 q.1) ∙ e))
        by (inr q) = inl (l.given i j f li lj d (sym (else_where i j li lj q) ∙ e))

    at_here : (i j : ℕ) (f : Fraction) → (i ≡ a) × (j ≡ b) → IsCovered (Some f) (bounds_of u a b) → IsCovered (Some f) (bounds_of u i j)
    at_here i j f q c = subst (IsCovered (Some f)) (sym (same_cell (bounds_of u) i j a b q.0 q.1)) c

    least_more : (i j : ℕ) (f : Fraction) → i < m → j < m → i ≢ j → More i j f → IsCovered (Some f) (bounds_of u i j)
    least_more i j f li lj d (inr (p, q, e)) = at_here i j f (p, q) (subst (λ (z : Fraction). IsCovered (Some z) (bounds_of u a b)) (sym e) (covers_itself (bounds_of t a b) s.bound (bounds_of u a b) s.here))
    least_more i j f li lj d (inl h) = by (here_or a b i j)
      where
        by : ((i ≡ a) × (j ≡ b)) ⊎ Differs a b i j → IsCovered (Some f) (bounds_of u i j)
        by (inl q) = at_here i j f q (covers_lesser f (bounds_of t a b) s.bound (bounds_of u a b) (above i j f h) s.fraction.positive (bound_fraction t a b ft) (subst (IsCovered (Some f)) (same_cell (bounds_of t) i j a b q.0 q.1) (l.least i j f li lj d h)) s.here)
        by (inr q) = subst (IsCovered (Some f)) (sym (else_where i j li lj q)) (l.least i j f li lj d h)

    pub lowered_least : AreLeastOf More m (bounds_of u)
    lowered_least = record { given = given_more; least = least_more }

least_over : (G H : ℕ → ℕ → Fraction → Type 0) (m : ℕ) (b : Bounds) → ((i j : ℕ) (f : Fraction) → G i j f → H i j f) → ((i j : ℕ) (f : Fraction) → H i j f → G i j f) → AreLeastOf G m b → AreLeastOf H m b
least_over G H m b to from l = record { given = λ i j f li lj d e. to i j f (l.given i j f li lj d e); least = λ i j f li lj d h. l.least i j f li lj d (from i j f h) }

-- ---- given bounds
gives_above : (cs : Constraints) (k i j : ℕ) (f : Fraction) → GivesBound cs.dim (constraint_at cs.list k) i j f → pos 0 <ℤ f.den
gives_above cs k i j f (inl u) = lowest_positive (record { num = cell (row_at cs.list k) cs.dim; den = u.factor }) f u.difference.positive u.lowest
gives_above cs k i j f (inr (e, l)) = lowest_positive (record { num = neg_ℤ (cell (row_at cs.list k) cs.dim); den = l.factor }) f l.difference.positive l.lowest

pub given_above : (cs : Constraints) (n i j : ℕ) (f : Fraction) → IsGiven cs n i j f → pos 0 <ℤ f.den
given_above cs n i j f g = gives_above cs g.constraint i j f g.gives

given_more_places : (cs : Constraints) (n i j : ℕ) (f : Fraction) → IsGiven cs n i j f → IsGiven cs (n + 1) i j f
given_more_places cs n i j f g = record { constraint = g.constraint; before = let b = g.before in omega arith; gives = g.gives }

given_last : (cs : Constraints) (n i j : ℕ) (f : Fraction) → IsGiven cs (n + 1) i j f → IsGiven cs n i j f ⊎ GivesBound cs.dim (constraint_at cs.list n) i j f
given_last cs n i j f g = by (cases_order g.constraint n) g.before
  where
    by : (g.constraint ≡ n) ⊎ ((g.constraint < n) ⊎ (n < g.constraint)) → g.constraint < n + 1 → IsGiven cs n i j f ⊎ GivesBound cs.dim (constraint_at cs.list n) i j f
    by (inl e) b = inr (subst (λ (k : ℕ). GivesBound cs.dim (constraint_at cs.list k) i j f) e g.gives)
    by (inr (inl l)) b = inl (record { constraint = g.constraint; before = l; gives = g.gives })
    by (inr (inr l)) b = absurd (omega arith)

first_of : (a b c d : ℤ) → a ∷ b ∷ [] ≡ c ∷ d ∷ [] → a ≡ c
first_of a b c d e = cc

second_of : (a b c d : ℤ) → a ∷ b ∷ [] ≡ c ∷ d ∷ [] → b ≡ d
second_of a b c d e = cc

pub same_fraction : (f g : Fraction) → pair_of f ≡ pair_of g → f ≡ g
same_fraction f g e =
    let n = first_of f.num f.den g.num g.den e in
    let d = second_of f.num f.den g.num g.den e in
    let p : record { num = f.num; den = f.den } ≡ record { num = g.num; den = g.den } = cc in p

lowest_once : (n c d : ℤ) (f g : Fraction) → c ≡ d → IsLowestOf (record { num = n; den = c }) f → IsLowestOf (record { num = n; den = d }) g → f ≡ g
lowest_once n c d f g e p q = same_fraction f g (IsPrimitiveOf-once (n ∷ d ∷ []) (pair_of f) (pair_of g) (subst (λ (z : ℤ). IsLowestOf (record { num = n; den = z }) f) e p) q)

-- ---- a difference
module _ (cs : Constraints) (k plus minus : ℕ) (factor : ℤ) (d : IsDifference cs.dim (row_at cs.list k) plus minus factor) where
  abbrev row : List ℤ
  row = row_at cs.list k

  abbrev m : ℕ
  m = cs.dim + 1

  apart : minus ≢ plus
  apart e = d.apart (sym e)

  upper : (h : Fraction) → IsLowestOf (record { num = cell row cs.dim; den = factor }) h → IsUpper cs.dim row minus plus h
  upper h l = record { factor = factor; difference = d; lowest = l }

  lower : (h : Fraction) → IsLowestOf (record { num = neg_ℤ (cell row cs.dim); den = factor }) h → IsLower cs.dim row plus minus h
  lower h l = record { factor = factor; difference = d; lowest = l }

  upper_once : (h : Fraction) → IsLowestOf (record { num = cell row cs.dim; den = factor }) h → (i j : ℕ) (f : Fraction) → IsUpper cs.dim row i j f → (i ≡ minus) × (j ≡ plus) × (f ≡ h)
  upper_once h l i j f u = (
    second_once cs.dim row j i plus minus u.factor factor u.difference d,
    first_once cs.dim row j i plus minus u.factor factor u.difference d,
    lowest_once (cell row cs.dim) u.factor factor f h (factor_once cs.dim row j i plus minus u.factor factor u.difference d) u.lowest l,
  )

  lower_once : (h : Fraction) → IsLowestOf (record { num = neg_ℤ (cell row cs.dim); den = factor }) h → (i j : ℕ) (f : Fraction) → IsLower cs.dim row i j f → (i ≡ plus) × (j ≡ minus) × (f ≡ h)
  lower_once h l i j f u = (
    first_once cs.dim row i j plus minus u.factor factor u.difference d,
    second_once cs.dim row i j plus minus u.factor factor u.difference d,
    lowest_once (neg_ℤ (cell row cs.dim)) u.factor factor f h (factor_once cs.dim row i j plus minus u.factor factor u.difference d) u.lowest l,
  )

  read_more : (t : Table) → IsReading cs k t → IsRead cs.dim (constraint_at cs.list k) → (q : ℕ) → q < k + 1 → IsRead cs.dim (constraint_at cs.list q)
  read_more t r h q l = by (cases_order q k)
    where
      by : (q ≡ k) ⊎ ((q < k) ⊎ (k < q)) → IsRead cs.dim (constraint_at cs.list q)
      by (inl e) = subst (λ (z : ℕ). IsRead cs.dim (constraint_at cs.list z)) (sym e) h
      by (inr (inl b)) = r.read q b
      by (inr (inr b)) = absurd (omega arith)

  module _ (t u : Table) (r : IsReading cs k t) (ft : AreFractions t.cells) (s : IsLowered t u minus plus (record { num = cell row cs.dim; den = factor })) where
    abbrev Upper : ℕ → ℕ → Fraction → Type 0
    Upper i j f = IsGiven cs k i j f ⊎ ((i ≡ minus) × (j ≡ plus) × (f ≡ s.bound))

    upper_least : AreLeastOf Upper m (bounds_of u)
    upper_least = lowered_least (IsGiven cs k) (given_above cs k) m t u minus plus (record { num = cell row cs.dim; den = factor }) s r.places ft r.least

    upper_zeros : HasZeros (bounds_of u) m
    upper_zeros = lowered_zeros (IsGiven cs k) (given_above cs k) m t u minus plus (record { num = cell row cs.dim; den = factor }) s r.places ft apart r.zeros

    upper_above : (i j : ℕ) (f : Fraction) → Upper i j f → pos 0 <ℤ f.den
    upper_above = lowered_above (IsGiven cs k) (given_above cs k) m t u minus plus (record { num = cell row cs.dim; den = factor }) s r.places ft

    upper_given : (i j : ℕ) (f : Fraction) → Upper i j f → IsGiven cs (k + 1) i j f
    upper_given i j f (inl h) = given_more_places cs k i j f h
    upper_given i j f (inr (e, g, h)) = record { constraint = k; before = omega arith; gives = inl (subst (λ (y : ℕ). IsUpper cs.dim row y j f) (sym e) (subst (λ (y : ℕ). IsUpper cs.dim row minus y f) (sym g) (subst (λ (y : Fraction). IsUpper cs.dim row minus plus y) (sym h) (upper s.bound s.lowest)))) }

    pub reads_inequality : u.places ≡ t.places → kind_at cs.list k ≢ Eq → IsReading cs (k + 1) u
    reads_inequality e n = record {
      places = e ∙ r.places;
      zeros = upper_zeros;
      least = least_over Upper (IsGiven cs (k + 1)) m (bounds_of u) upper_given from upper_least;
      read = read_more t r (inl (record { i = minus; j = plus; bound = s.bound; upper = upper s.bound s.lowest }, λ q. absurd (n q)));
    }
      where
        last : (i j : ℕ) (f : Fraction) → IsGiven cs k i j f ⊎ GivesBound cs.dim (constraint_at cs.list k) i j f → Upper i j f
        last i j f (inl h) = inl h
        last i j f (inr (inl h)) = inr (upper_once s.bound s.lowest i j f h)
        last i j f (inr (inr (q, h))) = absurd (n q)

        from : (i j : ℕ) (f : Fraction) → IsGiven cs (k + 1) i j f → Upper i j f
        from i j f h = last i j f (given_last cs k i j f h)

    module _ (w : Table) (fu : AreFractions u.cells) (eu : u.places ≡ t.places) (v : IsLowered u w plus minus (record { num = neg_ℤ (cell row cs.dim); den = factor })) (q : kind_at cs.list k ≡ Eq) where
      abbrev Both : ℕ → ℕ → Fraction → Type 0
      Both i j f = Upper i j f ⊎ ((i ≡ plus) × (j ≡ minus) × (f ≡ v.bound))

      both_given : (i j : ℕ) (f : Fraction) → Both i j f → IsGiven cs (k + 1) i j f
      both_given i j f (inl h) = upper_given i j f h
      both_given i j f (inr (e, g, h)) = record { constraint = k; before = omega arith; gives = inr (q, subst (λ (y : ℕ). IsLower cs.dim row y j f) (sym e) (subst (λ (y : ℕ). IsLower cs.dim row plus y f) (sym g) (subst (λ (y : Fraction). IsLower cs.dim row plus minus y) (sym h) (lower v.bound v.lowest)))) }

      both_last : (i j : ℕ) (f : Fraction) → IsGiven cs k i j f ⊎ GivesBound cs.dim (constraint_at cs.list k) i j f → Both i j f
      both_last i j f (inl h) = inl (inl h)
      both_last i j f (inr (inl h)) = inl (inr (upper_once s.bound s.lowest i j f h))
      both_last i j f (inr (inr (e, h))) = inr (lower_once v.bound v.lowest i j f h)

      pub reads_equality : w.places ≡ u.places → IsReading cs (k + 1) w
      reads_equality e = record {
        places = e ∙ eu ∙ r.places;
        zeros = lowered_zeros Upper upper_above m u w plus minus (record { num = neg_ℤ (cell row cs.dim); den = factor }) v (eu ∙ r.places) fu d.apart upper_zeros;
        least = least_over Both (IsGiven cs (k + 1)) m (bounds_of w) both_given (λ i j f h. both_last i j f (given_last cs k i j f h)) (lowered_least Upper upper_above m u w plus minus (record { num = neg_ℤ (cell row cs.dim); den = factor }) v (eu ∙ r.places) fu upper_least);
        read = read_more t r (inl (record { i = minus; j = plus; bound = s.bound; upper = upper s.bound s.lowest }, λ q. record { i = plus; j = minus; bound = v.bound; lower = lower v.bound v.lowest }));
      }

    -- the second bound as it was
    pub mirror_kept : bounds_of u plus minus ≡ bounds_of t plus minus
    mirror_kept = s.elsewhere plus minus (subst (λ (z : ℕ). plus < z) (sym r.places) d.first) (subst (λ (z : ℕ). minus < z) (sym r.places) d.second) (λ e. d.apart e.0)

  -- ---- overflows
  pub upper_leaves : (t : Table) (over : Overflow) → k < length cs.list → IsReading cs k t → LeavesInTaking (bounds_of t) minus plus (record { num = cell row cs.dim; den = factor }) over → LeavesInTwoGiven cs over
  upper_leaves t over l r h = record {
    later = k;
    below = l;
    i = minus;
    j = plus;
    first = h.bound;
    second = h.leaves.other;
    first_given = inl (upper h.bound h.lowest);
    second_given = r.least.given minus plus h.leaves.other d.second d.first apart h.leaves.is_bound;
    leaves = h.leaves.leaves;
  }

  pub lower_leaves : (t u : Table) (over : Overflow) → k < length cs.list → IsReading cs k t → bounds_of u plus minus ≡ bounds_of t plus minus → kind_at cs.list k ≡ Eq → LeavesInTaking (bounds_of u) plus minus (record { num = neg_ℤ (cell row cs.dim); den = factor }) over → LeavesInTwoGiven cs over
  lower_leaves t u over l r e q h = record {
    later = k;
    below = l;
    i = plus;
    j = minus;
    first = h.bound;
    second = h.leaves.other;
    first_given = inr (q, lower h.bound h.lowest);
    second_given = r.least.given plus minus h.leaves.other d.first d.second d.apart (sym e ∙ h.leaves.is_bound);
    leaves = h.leaves.leaves;
  }

-- ---- a constraint without variables
pub reads_constant : (cs : Constraints) (k : ℕ) (t : Table) → row_at cs.list k ≡ constant_row cs.dim (cell (row_at cs.list k) cs.dim) → IsReading cs k t → IsRead cs.dim (constraint_at cs.list k) → IsReading cs (k + 1) t
reads_constant cs k t e r h = record {
  places = r.places;
  zeros = r.zeros;
  least = least_over (IsGiven cs k) (IsGiven cs (k + 1)) (cs.dim + 1) (bounds_of t) (given_more_places cs k) (λ i j f g. last i j f (given_last cs k i j f g)) r.least;
  read = λ q l. by q l (cases_order q k);
}
  where
    last : (i j : ℕ) (f : Fraction) → IsGiven cs k i j f ⊎ GivesBound cs.dim (constraint_at cs.list k) i j f → IsGiven cs k i j f
    last i j f (inl g) = g
    last i j f (inr (inl u)) = absurd (constant_no_difference cs.dim (row_at cs.list k) j i u.factor e u.difference)
    last i j f (inr (inr (q, u))) = absurd (constant_no_difference cs.dim (row_at cs.list k) i j u.factor e u.difference)

    by : (q : ℕ) → q < k + 1 → (q ≡ k) ⊎ ((q < k) ⊎ (k < q)) → IsRead cs.dim (constraint_at cs.list q)
    by q l (inl e) = subst (λ (z : ℕ). IsRead cs.dim (constraint_at cs.list z)) (sym e) h
    by q l (inr (inl b)) = r.read q b
    by q l (inr (inr b)) = absurd (omega arith)
