-- The best point bounds all values, and is the least bound.
use Rattle.std.specs.Prelude.{◌≡◌, ◌≢◌, ◌⊎◌, ℕ, zero, suc, ◌<◌, List, [], ◌∷◌, length, ℤ, pos, negsuc, ◌+ℤ◌, ◌-ℤ◌, neg_ℤ, ◌≤ℤ◌, ◌<ℤ◌, Bool, true, false, ◌↔◌, IsTrue}
use Rattle.std.proofs.Math.IntN.{◌*ℤ◌}
use Rattle.std.proofs.Common.{arith, sym, ◌∙◌, ap, refl, subst, inl, inr}
use Rattle.std.proofs.lemmas.Int.{ints}
use Rattle.row_core.specs.Vectors.{cell, dot, add, scale}
use Rattle.row_core.specs.Content.{IsPrimitiveOf}
use Rattle.cone_laws.proofs.Ring.{ring, same_or_not, mul-at_least_zero, mul-positive, mul-zero, at_least_zero_of_mul, positive_of_mul}
use Rattle.cone_laws.proofs.Columns.{dot_comm, dot-add, dot-scale}
use Rattle.cons_sys.specs.declared.kind.ConKind.TheVariants.{Ge, Gt}
use Rattle.gens_sys.specs.Kinds.{HasBadDivisor}
use Rattle.gens_sys.specs.Generators.{Generators, generator_at, row_at, kind_at, FitDimension}
use Rattle.gens_sys.specs.declared.kind.GenKind.{GenKind}
use Rattle.gens_sys.specs.declared.kind.GenKind.TheVariants.{Line, Ray, Point, ClosurePoint}
use Rattle.set_laws.specs.Asking.{Asks, MeetsOn, IsProper, HasPoint, IsMember, HasCounter}
use Rattle.optimum.specs.Search.{IsShort, IsAtMost, IsPointKind, Improves, Goes, IsBest, SeeksTo}
use Rattle.optimum.specs.Suprema.{HasBeyond, ExceedsAll, IsSupremum}
use Rattle.set_laws.proofs.SpanValues.{true_of_asked}
use Rattle.set_laws.proofs.Members.{fits_at, member_at}
use Rattle.set_laws.proofs.Counters.{counter, proper_point}
use Rattle.optimum.proofs.BestLemmas.{point_divisor}
use Rattle.optimum.proofs.Fractions.{short_or_most, short_not_most, most_same, most_if_not}

-- ---- the way up as a sign
abbrev pub sign : Bool → ℤ
sign true = pos 1
sign false = negsuc 0

pub signed_most : (up : Bool) (x y : ℤ) → IsAtMost up x y → pos 0 ≤ℤ (sign up *ℤ (y -ℤ x))
signed_most true x y h = omega (arith, ints, h)
signed_most false x y h = omega (arith, ints, h)

most_signed : (up : Bool) (x y : ℤ) → pos 0 ≤ℤ (sign up *ℤ (y -ℤ x)) → IsAtMost up x y
most_signed true x y h = omega (arith, ints, h)
most_signed false x y h = omega (arith, ints, h)

pub signed_short : (up : Bool) (x y : ℤ) → IsShort up x y → pos 0 <ℤ (sign up *ℤ (y -ℤ x))
signed_short true x y h = omega (arith, ints, h)
signed_short false x y h = omega (arith, ints, h)

short_signed : (up : Bool) (x y : ℤ) → pos 0 <ℤ (sign up *ℤ (y -ℤ x)) → IsShort up x y
short_signed true x y h = omega (arith, ints, h)
short_signed false x y h = omega (arith, ints, h)

-- x beyond y: not at least 0
beyond : (up : Bool) (x y : ℤ) → IsShort up y x → pos 0 ≤ℤ (sign up *ℤ (y -ℤ x)) → ⊥
beyond up x y h k = short_not_most up y x h (most_signed up x y k)

times_move : (s t x y : ℤ) → s *ℤ (t *ℤ y -ℤ t *ℤ x) ≡ t *ℤ (s *ℤ (y -ℤ x))
times_move s t x y = simp ring (omega (arith, ints))

cancel_most : (up : Bool) (t x y : ℤ) → pos 0 <ℤ t → IsAtMost up (t *ℤ x) (t *ℤ y) → IsAtMost up x y
cancel_most up t x y p h = most_signed up x y (at_least_zero_of_mul t (sign up *ℤ (y -ℤ x)) p (subst (λ (z : ℤ). pos 0 ≤ℤ z) (times_move (sign up) t x y) (signed_most up (t *ℤ x) (t *ℤ y) h)))

cancel_short : (up : Bool) (t x y : ℤ) → pos 0 <ℤ t → IsShort up (t *ℤ x) (t *ℤ y) → IsShort up x y
cancel_short up t x y p h = short_signed up x y (positive_of_mul t (sign up *ℤ (y -ℤ x)) p (subst (λ (z : ℤ). pos 0 <ℤ z) (times_move (sign up) t x y) (signed_short up (t *ℤ x) (t *ℤ y) h)))

weak : (t : ℤ) → pos 0 <ℤ t → pos 0 ≤ℤ t
weak t p = omega (arith, ints, p)

times_most : (up : Bool) (t x y : ℤ) → pos 0 <ℤ t → IsAtMost up x y → IsAtMost up (t *ℤ x) (t *ℤ y)
times_most up t x y p h = most_signed up (t *ℤ x) (t *ℤ y) (subst (λ (z : ℤ). pos 0 ≤ℤ z) (sym (times_move (sign up) t x y)) (mul-at_least_zero t (sign up *ℤ (y -ℤ x)) (weak t p) (signed_most up x y h)))

times_short : (up : Bool) (t x y : ℤ) → pos 0 <ℤ t → IsShort up x y → IsShort up (t *ℤ x) (t *ℤ y)
times_short up t x y p h = short_signed up (t *ℤ x) (t *ℤ y) (subst (λ (z : ℤ). pos 0 <ℤ z) (sym (times_move (sign up) t x y)) (mul-positive t (sign up *ℤ (y -ℤ x)) p (signed_short up x y h)))

both_most : (up : Bool) (x y u v : ℤ) → x ≡ u → y ≡ v → IsAtMost up x y → IsAtMost up u v
both_most up x y u v e f h = subst (λ (z : ℤ). IsAtMost up z v) e (subst (λ (z : ℤ). IsAtMost up x z) f h)

both_short : (up : Bool) (x y u v : ℤ) → x ≡ u → y ≡ v → IsShort up x y → IsShort up u v
both_short up x y u v e f h = subst (λ (z : ℤ). IsShort up z v) e (subst (λ (z : ℤ). IsShort up x z) f h)

-- ---- the row that says that the values are bounded
abbrev last_row : ℕ → List ℤ
last_row zero = pos 1 ∷ []
last_row (suc n) = pos 0 ∷ last_row n

one_alone : (b : ℤ) → pos 1 *ℤ b +ℤ pos 0 ≡ b
one_alone b = omega (arith, ints)

no_first : (b x y : ℤ) → x ≡ y → pos 0 *ℤ b +ℤ x ≡ y
no_first b x y e = omega (arith, ints, e)

last_value : (n : ℕ) (v : List ℤ) → dot (last_row n) v ≡ cell v n
last_value zero [] = refl
last_value zero (b ∷ v) = one_alone b
last_value (suc n) [] = refl
last_value (suc n) (b ∷ v) = no_first b (dot (last_row n) v) (cell v n) (last_value n v)

abbrev bound_row : Bool → ℕ → List ℤ → ℤ → ℤ → List ℤ
bound_row up dim row num den = add (scale (sign up *ℤ num) (last_row dim)) (scale (neg_ℤ (sign up *ℤ den)) row)

value_sum : (s num den d v x l r : ℤ) → x ≡ l +ℤ r → l ≡ (s *ℤ num) *ℤ d → r ≡ neg_ℤ (s *ℤ den) *ℤ v → x ≡ s *ℤ (num *ℤ d -ℤ den *ℤ v)
value_sum s num den d v x l r e f g =
    let h : (s *ℤ num) *ℤ d +ℤ neg_ℤ (s *ℤ den) *ℤ v ≡ s *ℤ (num *ℤ d -ℤ den *ℤ v) = simp ring (omega (arith, ints)) in
    omega (arith, ints, e, f, g, h)

bound_value : (up : Bool) (dim : ℕ) (row : List ℤ) (num den : ℤ) (v : List ℤ) → dot (bound_row up dim row num den) v ≡ sign up *ℤ (num *ℤ cell v dim -ℤ den *ℤ dot row v)
bound_value up dim row num den v =
    dot_comm (bound_row up dim row num den) v
    ∙ value_sum (sign up) num den (cell v dim) (dot row v) (dot v (bound_row up dim row num den)) (dot v (scale (sign up *ℤ num) (last_row dim))) (dot v (scale (neg_ℤ (sign up *ℤ den)) row))
    (dot-add v (scale (sign up *ℤ num) (last_row dim)) (scale (neg_ℤ (sign up *ℤ den)) row))
    (dot-scale v (sign up *ℤ num) (last_row dim) ∙ ap (λ (z : ℤ). (sign up *ℤ num) *ℤ z) (dot_comm v (last_row dim) ∙ last_value dim v))
    (dot-scale v (neg_ℤ (sign up *ℤ den)) row ∙ ap (λ (z : ℤ). neg_ℤ (sign up *ℤ den) *ℤ z) (dot_comm v row))

-- ---- directions
zero_of : (d : ℤ) → ¬ (¬ (d ≡ pos 0)) → d ≡ pos 0
zero_of d n = by (same_or_not d (pos 0))
  where
    by : (d ≡ pos 0) ⊎ (d ≢ pos 0) → d ≡ pos 0
    by (inl e) = e
    by (inr e) = absurd (n e)

module _ (up : Bool) (row : List ℤ) (gs : Generators) (fits : FitDimension gs) where
  abbrev value_of : ℕ → ℤ
  value_of i = dot row (row_at gs.list i)

  abbrev divisor_of : ℕ → ℤ
  divisor_of i = cell (row_at gs.list i) gs.dim

  no_divisor : (i : ℕ) → i < length gs.list → (g : GenKind) → kind_at gs.list i ≡ g → (¬ (HasBadDivisor g (divisor_of i)) → divisor_of i ≡ pos 0) → divisor_of i ≡ pos 0
  no_divisor i h g e f = f (subst (λ (k : GenKind). ¬ (HasBadDivisor k (divisor_of i))) e (fits_at gs fits i h).divisor)

  line_divisor : (i : ℕ) → i < length gs.list → kind_at gs.list i ≡ Line → divisor_of i ≡ pos 0
  line_divisor i h e = no_divisor i h Line e (λ n. zero_of (divisor_of i) n)

  ray_divisor : (i : ℕ) → i < length gs.list → kind_at gs.list i ≡ Ray → divisor_of i ≡ pos 0
  ray_divisor i h e = no_divisor i h Ray e (λ n. zero_of (divisor_of i) n)

  direction_value : (s num den d v x : ℤ) → x ≡ s *ℤ (num *ℤ d -ℤ den *ℤ v) → d ≡ pos 0 → x ≡ s *ℤ (pos 0 -ℤ den *ℤ v)
  direction_value s num den d v x e f = e ∙ ap (λ (z : ℤ). s *ℤ (num *ℤ z -ℤ den *ℤ v)) f ∙ ap (λ (z : ℤ). s *ℤ (z -ℤ den *ℤ v)) (mul-zero num)

  zero_value : (s num den d v x : ℤ) → x ≡ s *ℤ (num *ℤ d -ℤ den *ℤ v) → d ≡ pos 0 → v ≡ pos 0 → x ≡ pos 0
  zero_value s num den d v x e f g = direction_value s num den d v x e f ∙ ap (λ (z : ℤ). s *ℤ (pos 0 -ℤ z)) (ap (λ (z : ℤ). den *ℤ z) g ∙ mul-zero den) ∙ mul-zero s

  -- ---- no bound
  counter_short : HasPoint gs.list → (m k : ℤ) (i : ℕ) → i < length gs.list → ¬ (MeetsOn (bound_row up gs.dim row m k, Ge) (generator_at gs.list i)) → HasBeyond up row gs.dim (IsMember gs) m k
  counter_short point m k i h n = of (counter gs fits point (bound_row up gs.dim row m k, Ge) i h n)
    where
      of : HasCounter gs (bound_row up gs.dim row m k, Ge) → HasBeyond up row gs.dim (IsMember gs) m k
      of r = (r.point, r.member, by (short_or_most up (m *ℤ cell r.point gs.dim) (k *ℤ dot row r.point)))
        where
          by : IsShort up (m *ℤ cell r.point gs.dim) (k *ℤ dot row r.point) ⊎ IsAtMost up (k *ℤ dot row r.point) (m *ℤ cell r.point gs.dim) → IsShort up (m *ℤ cell r.point gs.dim) (k *ℤ dot row r.point)
          by (inl s) = s
          by (inr a) = absurd (r.fails (subst (λ (z : ℤ). pos 0 ≤ℤ z) (sym (bound_value up gs.dim row m k r.point)) (signed_most up (k *ℤ dot row r.point) (m *ℤ cell r.point gs.dim) a)))

  off_zero : (up : Bool) (v : ℤ) → sign up *ℤ (pos 0 -ℤ pos 1 *ℤ v) ≡ pos 0 → v ≡ pos 0
  off_zero true v e = omega (arith, ints, e)
  off_zero false v e = omega (arith, ints, e)

  ray_short : (up : Bool) (v : ℤ) → IsShort up (pos 0) v → pos 0 ≤ℤ (sign up *ℤ (pos 0 -ℤ pos 1 *ℤ v)) → ⊥
  ray_short true v h k = omega (arith, ints, h, k)
  ray_short false v h k = omega (arith, ints, h, k)

  lacks_bound : (bound : ℤ) (i : ℕ) → i < length gs.list → (g : GenKind) → kind_at gs.list i ≡ g → Improves up g (value_of i) → ¬ (Asks Ge g (dot (bound_row up gs.dim row bound (pos 1)) (row_at gs.list i)))
  lacks_bound bound i h Line e n a = n (off_zero up (value_of i) (sym (direction_value (sign up) bound (pos 1) (divisor_of i) (value_of i) (dot (bound_row up gs.dim row bound (pos 1)) (row_at gs.list i)) (bound_value up gs.dim row bound (pos 1) (row_at gs.list i)) (line_divisor i h e)) ∙ a))
  lacks_bound bound i h Ray e n a = ray_short up (value_of i) n (subst (λ (z : ℤ). pos 0 ≤ℤ z) (direction_value (sign up) bound (pos 1) (divisor_of i) (value_of i) (dot (bound_row up gs.dim row bound (pos 1)) (row_at gs.list i)) (bound_value up gs.dim row bound (pos 1) (row_at gs.list i)) (ray_divisor i h e)) a)
  lacks_bound bound i h Point e n a = n
  lacks_bound bound i h ClosurePoint e n a = n

  pub endless_unbounded : IsProper gs → (i : ℕ) → i < length gs.list → Improves up (kind_at gs.list i) (value_of i) → ExceedsAll up row gs.dim (IsMember gs)
  endless_unbounded proper i h n bound = counter_short (proper_point gs proper i h) bound (pos 1) i h (lacks_bound bound i h (kind_at gs.list i) refl n)

  -- ---- the bound
  module _ (proper : IsProper gs) (seeks : SeeksTo up row gs.dim gs.list (length gs.list)) (b : ℕ) (best : IsBest up row gs.dim gs.list (length gs.list) b) (num den : ℤ) (lowest : IsPrimitiveOf (value_of b ∷ divisor_of b ∷ []) (num ∷ den ∷ [])) where
    abbrev t : ℤ
    t = pos lowest.multiple.times

    t_above : pos 0 <ℤ t
    t_above = let p = lowest.multiple.positive in omega (arith, ints, p)

    value_is : value_of b ≡ t *ℤ num
    value_is = ap (λ (v : List ℤ). cell v 0) lowest.multiple.same

    divisor_is : divisor_of b ≡ t *ℤ den
    divisor_is = ap (λ (v : List ℤ). cell v 1) lowest.multiple.same

    den_above : pos 0 <ℤ den
    den_above = positive_of_mul t den t_above (subst (λ (z : ℤ). pos 0 <ℤ z) divisor_is (point_divisor up row gs fits b best.below best.kind))

    left_is : (x : ℤ) → x *ℤ divisor_of b ≡ t *ℤ (den *ℤ x)
    left_is x = ap (λ (z : ℤ). x *ℤ z) divisor_is ∙ simp ring (omega (arith, ints))

    right_is : (d : ℤ) → value_of b *ℤ d ≡ t *ℤ (num *ℤ d)
    right_is d = ap (λ (z : ℤ). z *ℤ d) value_is ∙ simp ring (omega (arith, ints))

    most_at : (i : ℕ) → i < length gs.list → IsPointKind (kind_at gs.list i) → IsAtMost up (den *ℤ value_of i) (num *ℤ divisor_of i)
    most_at i h k = cancel_most up t (den *ℤ value_of i) (num *ℤ divisor_of i) t_above (both_most up (value_of i *ℤ divisor_of b) (value_of b *ℤ divisor_of i) (t *ℤ (den *ℤ value_of i)) (t *ℤ (num *ℤ divisor_of i)) (left_is (value_of i)) (right_is (divisor_of i)) (best.most i h k))

    short_at : (i : ℕ) → i < length gs.list → Goes (kind_at gs.list i) (kind_at gs.list b) i b → IsShort up (den *ℤ value_of i) (num *ℤ divisor_of i)
    short_at i h k = cancel_short up t (den *ℤ value_of i) (num *ℤ divisor_of i) t_above (both_short up (value_of i *ℤ divisor_of b) (value_of b *ℤ divisor_of i) (t *ℤ (den *ℤ value_of i)) (t *ℤ (num *ℤ divisor_of i)) (left_is (value_of i)) (right_is (divisor_of i)) (best.first i h k))

    abbrev bounding : List ℤ
    bounding = bound_row up gs.dim row num den

    here : (i : ℕ) → dot bounding (row_at gs.list i) ≡ sign up *ℤ (num *ℤ divisor_of i -ℤ den *ℤ value_of i)
    here i = bound_value up gs.dim row num den (row_at gs.list i)

    least_by : (i : ℕ) → IsAtMost up (den *ℤ value_of i) (num *ℤ divisor_of i) → pos 0 ≤ℤ dot bounding (row_at gs.list i)
    least_by i a = subst (λ (z : ℤ). pos 0 ≤ℤ z) (sym (here i)) (signed_most up (den *ℤ value_of i) (num *ℤ divisor_of i) a)

    ray_most : (i : ℕ) → i < length gs.list → kind_at gs.list i ≡ Ray → ¬ (IsShort up (pos 0) (value_of i)) → IsAtMost up (den *ℤ value_of i) (num *ℤ divisor_of i)
    ray_most i h e n =
        both_most up (den *ℤ value_of i) (den *ℤ pos 0) (den *ℤ value_of i) (num *ℤ divisor_of i) refl (mul-zero den ∙ sym (ap (λ (z : ℤ). num *ℤ z) (ray_divisor i h e) ∙ mul-zero num))
        (times_most up den (value_of i) (pos 0) den_above (most_if_not up (pos 0) (value_of i) n))

    asked_by : (i : ℕ) → i < length gs.list → (g : GenKind) → kind_at gs.list i ≡ g → ¬ (Improves up g (value_of i)) → Asks Ge g (dot bounding (row_at gs.list i))
    asked_by i h Line e n = zero_value (sign up) num den (divisor_of i) (value_of i) (dot bounding (row_at gs.list i)) (here i) (line_divisor i h e) (zero_of (value_of i) n)
    asked_by i h Ray e n = least_by i (ray_most i h e n)
    asked_by i h Point e n = least_by i (most_at i h (subst IsPointKind (sym e) tt))
    asked_by i h ClosurePoint e n = least_by i (most_at i h (subst IsPointKind (sym e) tt))

    asked_at : (i : ℕ) → i < length gs.list → Asks Ge (kind_at gs.list i) (dot bounding (row_at gs.list i))
    asked_at i h = asked_by i h (kind_at gs.list i) refl (seeks i h).bounded

    strict_by : kind_at gs.list b ≡ ClosurePoint → (i : ℕ) → i < length gs.list → (g : GenKind) → kind_at gs.list i ≡ g → Asks Ge g (dot bounding (row_at gs.list i)) → Asks Gt g (dot bounding (row_at gs.list i))
    strict_by c i h Line e a = a
    strict_by c i h Ray e a = a
    strict_by c i h Point e a =
        subst (λ (z : ℤ). pos 0 <ℤ z) (sym (here i)) (signed_short up (den *ℤ value_of i) (num *ℤ divisor_of i)
        (short_at i h (subst (λ (g : GenKind). Goes g (kind_at gs.list b) i b) (sym e) (subst (λ (g : GenKind). Goes Point g i b) (sym c) tt))))
    strict_by c i h ClosurePoint e a = a

    -- ---- the answers
    bounded : (p : List ℤ) → IsMember gs p → IsAtMost up (den *ℤ dot row p) (num *ℤ cell p gs.dim)
    bounded p m = most_signed up (den *ℤ dot row p) (num *ℤ cell p gs.dim) (subst (λ (z : ℤ). pos 0 ≤ℤ z) (bound_value up gs.dim row num den p) (true_of_asked gs (bounding, Ge) asked_at p m.spanned))

    strictly : kind_at gs.list b ≡ ClosurePoint → (p : List ℤ) → IsMember gs p → IsShort up (den *ℤ dot row p) (num *ℤ cell p gs.dim)
    strictly c p m = short_signed up (den *ℤ dot row p) (num *ℤ cell p gs.dim) (subst (λ (z : ℤ). pos 0 <ℤ z) (bound_value up gs.dim row num den p) (true_of_asked gs (bounding, Gt) (λ i h. strict_by c i h (kind_at gs.list i) refl (asked_at i h)) p m.spanned))

    pub point_value : den *ℤ value_of b ≡ num *ℤ divisor_of b
    point_value = ap (λ (z : ℤ). den *ℤ z) value_is ∙ simp ring (omega (arith, ints)) ∙ sym (ap (λ (z : ℤ). num *ℤ z) divisor_is)

    attained_by : (attained : Bool) → IsTrue attained ↔ kind_at gs.list b ≡ Point → IsTrue attained ↔ ((p : List ℤ) × IsMember gs p × (den *ℤ dot row p ≡ num *ℤ cell p gs.dim))
    attained_by attained h = ((λ a. (row_at gs.list b, member_at gs fits b best.below (h.0 a), point_value)), back (kind_at gs.list b) refl best.kind)
      where
        back : (g : GenKind) → kind_at gs.list b ≡ g → IsPointKind g → (p : List ℤ) × IsMember gs p × (den *ℤ dot row p ≡ num *ℤ cell p gs.dim) → IsTrue attained
        back Line e k w = absurd k
        back Ray e k w = absurd k
        back Point e k w = h.1 e
        back ClosurePoint e k (p, m, s) = absurd (short_not_most up (den *ℤ dot row p) (num *ℤ cell p gs.dim) (strictly e p m) (most_same up (num *ℤ cell p gs.dim) (den *ℤ dot row p) (sym s)))

    lacks_less : (m k : ℤ) → IsShort up (m *ℤ den) (num *ℤ k) → (g : GenKind) → IsPointKind g → ¬ (Asks Ge g (dot (bound_row up gs.dim row m k) (row_at gs.list b)))
    lacks_less m k s g p a = by g p a
      where
        scaled : IsShort up (m *ℤ divisor_of b) (k *ℤ value_of b)
        scaled = both_short up (t *ℤ (m *ℤ den)) (t *ℤ (num *ℤ k)) (m *ℤ divisor_of b) (k *ℤ value_of b)
            (sym (ap (λ (z : ℤ). m *ℤ z) divisor_is ∙ simp ring (omega (arith, ints)))) (sym (ap (λ (z : ℤ). k *ℤ z) value_is ∙ simp ring (omega (arith, ints))))
            (times_short up t (m *ℤ den) (num *ℤ k) t_above s)

        never : pos 0 ≤ℤ dot (bound_row up gs.dim row m k) (row_at gs.list b) → ⊥
        never l = beyond up (k *ℤ value_of b) (m *ℤ divisor_of b) scaled (subst (λ (z : ℤ). pos 0 ≤ℤ z) (bound_value up gs.dim row m k (row_at gs.list b)) l)

        by : (g : GenKind) → IsPointKind g → Asks Ge g (dot (bound_row up gs.dim row m k) (row_at gs.list b)) → ⊥
        by Line p a = absurd p
        by Ray p a = absurd p
        by Point p a = never a
        by ClosurePoint p a = never a

    pub supremum : (attained : Bool) → IsTrue attained ↔ kind_at gs.list b ≡ Point → IsSupremum up row gs.dim (IsMember gs) num den attained
    supremum attained h = record {
      lowest = lowest.primitive;
      positive = den_above;
      bound = bounded;
      reached = attained_by attained h;
      nearest = λ m k p s. counter_short (proper_point gs proper b best.below) m k b best.below (lacks_less m k s (kind_at gs.list b) best.kind);
    }
