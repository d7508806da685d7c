-- The points that meet the bounds that constraints give.
use Rattle.std.specs.Prelude.{◌≡◌, ◌≢◌, ◌⊎◌, ◌↔◌, ℕ, ◌+◌, ◌<◌, List, [], length, ℤ, pos, ◌+ℤ◌, ◌-ℤ◌, ◌*ℤ◌, neg_ℤ, ◌≤ℤ◌, ◌<ℤ◌, Bool, true, false, IsTrue, MatchBool, Some, None, IfSome}
use Rattle.std.proofs.Common.{arith, sym, ◌∙◌, ap, refl, subst, inl, inr}
use Rattle.std.proofs.lemmas.Int.{ints}
use Rattle.std.proofs.lemmas.Option.{same_Some}
use Rattle.std.proofs.lemmas.Bool.{false≢true}
use Rattle.std.proofs.lemmas.List.Elements.{All-from_get_or}
use Rattle.row_core.proofs.Ring.{neg-mul, mul_comm, one-mul}
use Rattle.row_core.specs.Vectors.{cell, dot}
use Rattle.row_core.specs.Points.{IsPoint}
use Rattle.cons_sys.specs.Kinds.{Allows}
use Rattle.cons_sys.specs.Constraints.{Constraint, Constraints, constraint_at, row_at, kind_at, Satisfies, In}
use Rattle.cons_sys.specs.declared.kind.ConKind.{ConKind}
use Rattle.cons_sys.specs.declared.kind.ConKind.TheVariants.{Eq, Ge, Gt}
use Rattle.cons_sys.proofs.Signs.{same_sign, Allows-same_sign}
use Rattle.stored_systems.specs.PointSets.{IsClosedKind, AreClosed}
use Rattle.difference_bounds.specs.declared.fraction.Fraction.{Fraction}
use Rattle.difference_bounds.specs.Fractions.{IsFraction}
use Rattle.difference_bounds.specs.Walks.{Bound, nothing}
use Rattle.difference_bounds.specs.Laws.{IsCovered}
use Rattle.difference_bounds.specs.Values.{IsWithin, Meets}
use Rattle.difference_bounds.specs.Tables.{Table, AreFractions, bounds_of}
use Rattle.difference_bounds.proofs.PassLemmas.{bound_fraction}
use Rattle.difference_bounds.proofs.ChoiceLemmas.{within_greater, not_below_most}
use Rattle.bd_shape.specs.Shapes.{DifferenceShape, IsIn, IsInBounds, place_value, values_at}
use Rattle.bd_shape.specs.Rows.{constant_row}
use Rattle.bd_shape.specs.Forms.{scaled_row}
use Rattle.bd_shape.specs.Given.{IsUpper, IsLower, GivesBound, IsGiven, IsRead, HoldsNowhere, IsReading}
use Rattle.bd_shape.proofs.RowLists.{dot_constant}
use Rattle.bd_shape.proofs.FormLemmas.{same_or}
use Rattle.bd_shape.proofs.GivenRows.{scaled_value, row_bounds}
use Rattle.bd_shape.proofs.GivenTables.{given_above, reads_constant}

-- ---- rows
upper_holds : (dim : ℕ) (row : List ℤ) (i j : ℕ) (f : Fraction) (p : List ℤ) → IsPoint dim p → IsUpper dim row i j f → (pos 0 ≤ℤ dot row p) ↔ IsWithin (values_at dim p) i j f
upper_holds dim row i j f p w u = subst (λ (v : List ℤ). (pos 0 ≤ℤ dot v p) ↔ IsWithin (values_at dim p) i j f) (sym u.difference.same) (row_bounds dim j i u.factor (cell row dim) f p u.difference.first u.difference.second u.difference.apart w.wide u.lowest)

turned : (s t b d c x y : ℤ) → s ≡ b *ℤ d +ℤ (c *ℤ x -ℤ c *ℤ y) → t ≡ neg_ℤ b *ℤ d +ℤ (c *ℤ y -ℤ c *ℤ x) → t ≡ neg_ℤ s
turned s t b d c x y e f = let h = neg-mul b d in omega (arith, ints, e, f, h)

lower_holds : (dim : ℕ) (row : List ℤ) (i j : ℕ) (f : Fraction) (p : List ℤ) → IsPoint dim p → IsLower dim row i j f → (dot row p ≤ℤ pos 0) ↔ IsWithin (values_at dim p) i j f
lower_holds dim row i j f p w u =
    let d = u.difference in
    let b = cell row dim in
    let apart : j ≢ i = λ e. d.apart (sym e) in
    let r = row_bounds dim j i u.factor (neg_ℤ b) f p d.second d.first apart w.wide u.lowest in
    let s : dot row p ≡ b *ℤ cell p dim +ℤ (u.factor *ℤ place_value p i -ℤ u.factor *ℤ place_value p j) = ap (λ (v : List ℤ). dot v p) d.same ∙ scaled_value dim i j u.factor b p d.first d.second d.apart w.wide in
    let t = scaled_value dim j i u.factor (neg_ℤ b) p d.second d.first apart w.wide in
    let e = turned (dot row p) (dot (scaled_row dim j i u.factor (neg_ℤ b)) p) b (cell p dim) u.factor (place_value p i) (place_value p j) s t in
    (λ h. r.0 (omega (arith, ints, e, h)), λ h. let k = r.1 h in omega (arith, ints, e, k))

allowed_least : (kind : ConKind) (x : ℤ) → Allows kind x → pos 0 ≤ℤ x
allowed_least Eq x h = omega (arith, ints, h)
allowed_least Ge x h = h
allowed_least Gt x h = omega (arith, ints, h)

allowed_most : (kind : ConKind) (x : ℤ) → kind ≡ Eq → Allows kind x → x ≤ℤ pos 0
allowed_most Eq x e h = omega (arith, ints, h)
allowed_most Ge x e h = absurd (let p : ⊥ = cc in p)
allowed_most Gt x e h = absurd (let p : ⊥ = cc in p)

allowed_by : (kind : ConKind) (x : ℤ) → IsClosedKind kind → pos 0 ≤ℤ x → (kind ≡ Eq → x ≤ℤ pos 0) → Allows kind x
allowed_by Eq x c h k = let q = k refl in omega (arith, ints, h, q)
allowed_by Ge x c h k = h
allowed_by Gt x c h k = absurd c

-- ---- constraints
gives_within : (dim : ℕ) (c : Constraint) (i j : ℕ) (f : Fraction) (p : List ℤ) → IsPoint dim p → GivesBound dim c i j f → Satisfies p c → IsWithin (values_at dim p) i j f
gives_within dim c i j f p w (inl u) h = (upper_holds dim c.0 i j f p w u).0 (allowed_least c.1 (dot c.0 p) h)
gives_within dim c i j f p w (inr (e, u)) h = (lower_holds dim c.0 i j f p w u).0 (allowed_most c.1 (dot c.0 p) e h)

read_holds : (dim : ℕ) (c : Constraint) (p : List ℤ) → IsPoint dim p → IsClosedKind c.1 → IsRead dim c → ((i j : ℕ) (f : Fraction) → GivesBound dim c i j f → IsWithin (values_at dim p) i j f) → Satisfies p c
read_holds dim c p w k (inr h) g = h p w
read_holds dim c p w k (inl (u, l)) g =
    allowed_by c.1 (dot c.0 p) k
    ((upper_holds dim c.0 u.i u.j u.bound p w u.upper).1 (g u.i u.j u.bound (inl u.upper)))
    (λ e. let v = l e in (lower_holds dim c.0 v.i v.j v.bound p w v.lower).1 (g v.i v.j v.bound (inr (e, v.lower))))

-- the places of a bound that a constraint gives
record ArePlaces (m i j : ℕ) : Type 0 where
  first : i < m
  second : j < m
  apart : i ≢ j

gives_places : (dim : ℕ) (c : Constraint) (i j : ℕ) (f : Fraction) → GivesBound dim c i j f → ArePlaces (dim + 1) i j
gives_places dim c i j f (inl u) = record { first = u.difference.second; second = u.difference.first; apart = λ e. u.difference.apart (sym e) }
gives_places dim c i j f (inr (e, u)) = record { first = u.difference.first; second = u.difference.second; apart = u.difference.apart }

-- ---- the whole list
module _ (cs : Constraints) (t : Table) (r : IsReading cs (length cs.list) t) (ft : AreFractions t.cells) (closed : AreClosed cs) (p : List ℤ) (w : IsPoint cs.dim p) where
  covered_within : (i j : ℕ) (f : Fraction) → pos 0 <ℤ f.den → i < cs.dim + 1 → j < cs.dim + 1 → Meets (bounds_of t) (cs.dim + 1) (values_at cs.dim p) → (o : Bound) → bounds_of t i j ≡ o → IsCovered (Some f) o → IsWithin (values_at cs.dim p) i j f
  covered_within i j f pf li lj h None e c = absurd c
  covered_within i j f pf li lj h (Some y) e c = within_greater (values_at cs.dim p) i j y f w.positive (subst (λ (o : Bound). IfSome o IsFraction) e (bound_fraction t i j ft)).positive pf (not_below_most f y c) (h.each i j li lj y e)

  all_hold : Meets (bounds_of t) (cs.dim + 1) (values_at cs.dim p) → In cs p
  all_hold h = All-from_get_or (Satisfies p) cs.list ([], Eq) (λ k l. read_holds cs.dim (constraint_at cs.list k) p w (closed k ([], Eq) l) (r.read k l) (each k l))
    where
      each : (k : ℕ) → k < length cs.list → (i j : ℕ) (f : Fraction) → GivesBound cs.dim (constraint_at cs.list k) i j f → IsWithin (values_at cs.dim p) i j f
      each k l i j f g =
          let q = gives_places cs.dim (constraint_at cs.list k) i j f g in
          let given : IsGiven cs (length cs.list) i j f = record { constraint = k; before = l; gives = g } in
          covered_within i j f (given_above cs (length cs.list) i j f given) q.first q.second h (bounds_of t i j) refl (r.least.least i j f q.first q.second q.apart given)

  all_meet : In cs p → Meets (bounds_of t) (cs.dim + 1) (values_at cs.dim p)
  all_meet h = record { positive = w.positive; each = λ i j li lj f e. by i j li lj f e (same_or i j) }
    where
      by : (i j : ℕ) → i < cs.dim + 1 → j < cs.dim + 1 → (f : Fraction) → bounds_of t i j ≡ Some f → (i ≡ j) ⊎ (i ≢ j) → IsWithin (values_at cs.dim p) i j f
      by i j li lj f e (inr d) = let g = r.least.given i j f li lj d e in gives_within cs.dim (constraint_at cs.list g.constraint) i j f p w g.gives (h g.constraint ([], Eq) g.before)
      by i j li lj f e (inl d) =
          let z : Some nothing ≡ Some f = sym (r.zeros i li) ∙ ap (bounds_of t i) d ∙ e in
          subst (λ (y : ℕ). IsWithin (values_at cs.dim p) i y f) d (subst (λ (g : Fraction). IsWithin (values_at cs.dim p) i i g) (same_Some nothing f z) (omega (arith, ints)))

  pub reading_points : Meets (bounds_of t) (cs.dim + 1) (values_at cs.dim p) ↔ In cs p
  reading_points = (all_hold, all_meet)

pub shape_points : (cs : Constraints) (t : Table) → IsReading cs (length cs.list) t → AreFractions t.cells → AreClosed cs → (s : DifferenceShape) → ((p : List ℤ) → IsIn s p ↔ (IsPoint cs.dim p × IsInBounds (Some t) cs.dim p)) → (p : List ℤ) → IsIn s p ↔ (IsPoint cs.dim p × In cs p)
shape_points cs t r f c s h p = (
  λ k. let q = (h p).0 k in (q.0, (reading_points cs t r f c p q.0).0 q.1),
  λ k. (h p).1 (k.0, (reading_points cs t r f c p k.0).1 k.1),
)

-- ---- constraints without variables
constant_allows : (dim : ℕ) (c : Constraint) (p : List ℤ) → IsPoint dim p → c.0 ≡ constant_row dim (cell c.0 dim) → Satisfies p c ↔ Allows c.1 (cell c.0 dim)
constant_allows dim c p w e = (λ h. Allows-same_sign c.1 (dot c.0 p) b (same_sign (pos 1) d (dot c.0 p) b (omega (arith, ints)) w.positive back) h, λ h. Allows-same_sign c.1 b (dot c.0 p) (same_sign d (pos 1) b (dot c.0 p) w.positive (omega (arith, ints)) (sym back)) h)
  where
    b : ℤ
    b = cell c.0 dim

    d : ℤ
    d = cell p dim

    back : pos 1 *ℤ dot c.0 p ≡ d *ℤ b
    back = one-mul (dot c.0 p) ∙ ap (λ (v : List ℤ). dot v p) e ∙ dot_constant dim b p w.wide ∙ mul_comm b d

pub constant_answer : (cs : Constraints) (k : ℕ) (t : Table) (r : Bool) → row_at cs.list k ≡ constant_row cs.dim (cell (row_at cs.list k) cs.dim) → IsReading cs k t → IsTrue r ↔ Allows (kind_at cs.list k) (cell (row_at cs.list k) cs.dim) → MatchBool r (IsReading cs (k + 1) t) (HoldsNowhere cs.dim (constraint_at cs.list k))
constant_answer cs k t true e g h = reads_constant cs k t e g (inr (λ p w. (constant_allows cs.dim (constraint_at cs.list k) p w e).1 (h.0 refl)))
constant_answer cs k t false e g h = λ p w s. false≢true (h.1 ((constant_allows cs.dim (constraint_at cs.list k) p w e).0 s))
