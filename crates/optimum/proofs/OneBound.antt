-- A set has one bound, none, or no point.
use Rattle.std.specs.Prelude.{◌≡◌, ◌⊎◌, ⊤, ℕ, ◌<◌, List, [], ◌∷◌, ℤ, pos, negsuc, ◌+ℤ◌, ◌-ℤ◌, ◌<ℤ◌, Bool, true, false, ◌↔◌}
use Rattle.std.proofs.Math.IntN.{◌*ℤ◌}
use Rattle.std.proofs.Common.{arith, refl, sym, ◌∙◌, ap, subst, inl, inr}
use Rattle.std.proofs.lemmas.Int.{ints}
use Rattle.std.proofs.lemmas.Bool.Decides.{same_from_decides}
use Rattle.row_core.specs.Vectors.{cell, dot, scale}
use Rattle.row_core.specs.Content.{IsPrimitive}
use Rattle.row_core.proofs.OnePrimitive.{IsPrimitiveOf-once}
use Rattle.cone_laws.proofs.Ring.{ring, by_sign, mul-at_least_zero, mul-positive, mul-zero, positive_of_mul}
use Rattle.stored_systems.specs.PointSets.{IsWithin}
use Rattle.poly_pair.specs.Polyhedra.{Polyhedron}
use Rattle.optimum.specs.Search.{IsShort, IsAtMost}
use Rattle.optimum.specs.Suprema.{HasBeyond, IsSupremum, IsUnbounded, IsTrueSup}
use Rattle.optimum.specs.Laws.{HasOneBound}
use Rattle.optimum.specs.declared.outcome.Sup.{Sup}
use Rattle.optimum.specs.declared.outcome.Sup.TheVariants as sup
use Rattle.optimum.proofs.Fractions.{short_not_most, most_if_not}
use Rattle.optimum.proofs.SupremumLemmas.{sign, signed_most, signed_short}

-- ---- a bound and none
-- d times what stays below the bound
gap_sum : (s num den bound d v : ℤ) → d *ℤ (s *ℤ (num -ℤ den *ℤ bound)) ≡ den *ℤ (s *ℤ (v -ℤ bound *ℤ d)) +ℤ s *ℤ (num *ℤ d -ℤ den *ℤ v)
gap_sum s num den bound d v = simp ring (omega (arith, ints))

one_times : (x : ℤ) → pos 1 *ℤ x ≡ x
one_times x = omega (arith, ints)

within_gap : (up : Bool) (num den bound d v : ℤ) → pos 0 <ℤ den → pos 0 <ℤ d → IsAtMost up (den *ℤ v) (num *ℤ d) → IsShort up (bound *ℤ d) (pos 1 *ℤ v) → pos 0 <ℤ (sign up *ℤ (num -ℤ den *ℤ bound))
within_gap up num den bound d v pd pp a h =
    let x = mul-positive den (sign up *ℤ (v -ℤ bound *ℤ d)) pd (signed_short up (bound *ℤ d) v (subst (IsShort up (bound *ℤ d)) (one_times v) h)) in
    let y = signed_most up (den *ℤ v) (num *ℤ d) a in
    let z : pos 0 <ℤ (d *ℤ (sign up *ℤ (num -ℤ den *ℤ bound))) = omega (arith, ints, gap_sum (sign up) num den bound d v, x, y) in
    positive_of_mul d (sign up *ℤ (num -ℤ den *ℤ bound)) pp z

beyond_gap : (up : Bool) (row : List ℤ) (p : Polyhedron) (num den : ℤ) (attained : Bool) (bound : ℤ) → IsSupremum up row p.cons.dim (IsWithin p.cons) num den attained → HasBeyond up row p.cons.dim (IsWithin p.cons) bound (pos 1) → pos 0 <ℤ (sign up *ℤ (num -ℤ den *ℤ bound))
beyond_gap up row p num den attained bound s (v, w, h) = within_gap up num den bound (cell v p.cons.dim) (dot row v) s.positive w.point.positive (s.bound v w) h

more_sum : (s num den one : ℤ) → s *ℤ (num -ℤ den *ℤ num) +ℤ (den -ℤ one) *ℤ (s *ℤ num) ≡ s *ℤ num -ℤ one *ℤ (s *ℤ num)
more_sum s num den one = simp ring (omega (arith, ints))

no_gap : (s num den : ℤ) → pos 0 <ℤ den → pos 0 <ℤ (s *ℤ num) → pos 0 <ℤ (s *ℤ (num -ℤ den *ℤ num)) → ⊥
no_gap s num den p h k =
    let x = mul-at_least_zero (den -ℤ pos 1) (s *ℤ num) (omega (arith, ints, p)) (omega (arith, ints, h)) in
    omega (arith, ints, x, k, more_sum s num den (pos 1), one_times (s *ℤ num))

no_part : (x : ℤ) → x -ℤ pos 0 ≡ x
no_part x = omega (arith, ints)

at_zero : (s num den : ℤ) → s *ℤ (num -ℤ den *ℤ pos 0) ≡ s *ℤ num
at_zero s num den = ap (λ (z : ℤ). s *ℤ z) (ap (λ (z : ℤ). num -ℤ z) (mul-zero den) ∙ no_part num)

pub bounded_not_unbounded : (up : Bool) (row : List ℤ) (p : Polyhedron) (num den : ℤ) (attained : Bool) → IsSupremum up row p.cons.dim (IsWithin p.cons) num den attained → IsUnbounded up row p → ⊥
bounded_not_unbounded up row p num den attained s u = by (by_sign (sign up *ℤ num))
  where
    at_none : pos 0 <ℤ (sign up *ℤ num)
    at_none = subst (λ (z : ℤ). pos 0 <ℤ z) (at_zero (sign up) num den) (beyond_gap up row p num den attained (pos 0) s (u (pos 0)))

    by : (pos 0 <ℤ (sign up *ℤ num)) ⊎ (((sign up *ℤ num) <ℤ pos 0) ⊎ (sign up *ℤ num ≡ pos 0)) → ⊥
    by (inl h) = no_gap (sign up) num den s.positive h (beyond_gap up row p num den attained num s (u num))
    by (inr (inl h)) = let k = at_none in omega (arith, ints, h, k)
    by (inr (inr h)) = let k = at_none in omega (arith, ints, h, k)

-- ---- no point, and some
abbrev IsOther : Sup → Type 0
IsOther sup.Empty = ⊤
IsOther sup.Unbounded = ⊥
IsOther (sup.At num den attained index) = ⊤

pub unbounded_exactly : (up : Bool) (row : List ℤ) (p : Polyhedron) (s : Sup) → IsTrueSup up row p s → (s ≡ sup.Unbounded) ↔ IsUnbounded up row p
unbounded_exactly up row p sup.Empty a = ((λ e. absurd (subst IsOther e tt)), (λ u. let w = u (pos 0) in absurd (a w.0 w.1)))
unbounded_exactly up row p sup.Unbounded a = ((λ e. a), (λ u. refl))
unbounded_exactly up row p (sup.At num den attained index) a = ((λ e. absurd (subst IsOther e tt)), (λ u. absurd (bounded_not_unbounded up row p num den attained a u)))

-- ---- one bound
most_both : (up : Bool) (x y : ℤ) → IsAtMost up x y → IsAtMost up y x → x ≡ y
most_both true x y h k = omega (arith, ints, h, k)
most_both false x y h k = omega (arith, ints, h, k)

swapped : (a b : ℤ) → a *ℤ b ≡ b *ℤ a
swapped a b = simp ring (omega (arith, ints))

positive_as : (z : ℤ) → pos 0 <ℤ z → (n : ℕ) × (0 < n) × (z ≡ pos n)
positive_as (pos n) h = (n, omega (arith, ints, h), refl)
positive_as (negsuc n) h = absurd (omega (arith, ints, h))

same_pair : (a b c d : ℤ) → a ≡ c → b ≡ d → a ∷ b ∷ [] ≡ c ∷ d ∷ []
same_pair a b c d e f = ap (λ (z : ℤ). z ∷ b ∷ []) e ∙ ap (λ (z : ℤ). c ∷ z ∷ []) f

-- a fraction has one form in lowest terms
pub one_form : (num den other under : ℤ) → IsPrimitive (num ∷ den ∷ []) → IsPrimitive (other ∷ under ∷ []) → pos 0 <ℤ den → pos 0 <ℤ under → num *ℤ under ≡ other *ℤ den → num ∷ den ∷ [] ≡ other ∷ under ∷ []
one_form num den other under p q dp up e = by (positive_as den dp) (positive_as under up)
  where
    by : (n : ℕ) × (0 < n) × (den ≡ pos n) → (m : ℕ) × (0 < m) × (under ≡ pos m) → num ∷ den ∷ [] ≡ other ∷ under ∷ []
    by (n, np, en) (m, mp, em) =
        IsPrimitiveOf-once (scale under (num ∷ den ∷ [])) (num ∷ den ∷ []) (other ∷ under ∷ [])
        (record { multiple = record { times = m; positive = mp; same = ap (λ (z : ℤ). scale z (num ∷ den ∷ [])) em }; primitive = p })
        (record { multiple = record { times = n; positive = np; same = same_pair (under *ℤ num) (under *ℤ den) (den *ℤ other) (den *ℤ under) (swapped under num ∙ e ∙ swapped other den) (swapped under den) ∙ ap (λ (z : ℤ). scale z (other ∷ under ∷ [])) en }; primitive = q })

module _ (up : Bool) (row : List ℤ) (dim : ℕ) (Has : List ℤ → Type 0) where
  abbrev Bounds : ℤ → ℤ → Bool → Type 0
  Bounds num den attained = IsSupremum up row dim Has num den attained

  no_less : (num den other under : ℤ) (attained also : Bool) → Bounds num den attained → Bounds other under also → ¬ (IsShort up (num *ℤ under) (other *ℤ den))
  no_less num den other under attained also s t h = by (t.nearest num den s.positive h)
    where
      by : HasBeyond up row dim Has num den → ⊥
      by (v, w, short) = short_not_most up (num *ℤ cell v dim) (den *ℤ dot row v) short (s.bound v w)

  same_fraction : (num den other under : ℤ) (attained also : Bool) → Bounds num den attained → Bounds other under also → num ∷ den ∷ [] ≡ other ∷ under ∷ []
  same_fraction num den other under attained also s t =
      one_form num den other under s.lowest t.lowest s.positive t.positive
      (most_both up (num *ℤ under) (other *ℤ den) (most_if_not up (other *ℤ den) (num *ℤ under) (no_less other under num den also attained t s)) (most_if_not up (num *ℤ under) (other *ℤ den) (no_less num den other under attained also s t)))

  same_bound : (num den other under : ℤ) (attained also : Bool) → Bounds num den attained → Bounds other under also → sup.At num den attained 0 ≡ sup.At other under also 0
  same_bound num den other under attained also s t =
      let e = same_fraction num den other under attained also s t in
      let n : num ≡ other = ap (λ (v : List ℤ). cell v 0) e in
      let d : den ≡ under = ap (λ (v : List ℤ). cell v 1) e in
      let there : Bounds num den also = subst (λ (z : ℤ). Bounds num z also) (sym d) (subst (λ (z : ℤ). Bounds z under also) (sym n) t) in
      let a : attained ≡ also = same_from_decides attained also s.reached there.reached in
      cc

  less_sum : (num den s : ℤ) → num *ℤ den -ℤ (num -ℤ s) *ℤ den ≡ s *ℤ den
  less_sum num den s = simp ring (omega (arith, ints))

  less_good : (num den : ℤ) → pos 0 <ℤ den → (up : Bool) → IsShort up ((num -ℤ sign up) *ℤ den) (num *ℤ den)
  less_good num den p true = omega (arith, ints, p, less_sum num den (pos 1))
  less_good num den p false = omega (arith, ints, p, less_sum num den (negsuc 0))

  has_some : (num den : ℤ) (attained : Bool) → Bounds num den attained → ¬ ((v : List ℤ) → ¬ (Has v))
  has_some num den attained s none = let w = s.nearest (num -ℤ sign up) den s.positive (less_good num den s.positive up) in none w.0 w.1

pub one_bound : HasOneBound
one_bound up row p sup.Empty sup.Empty a b = refl
one_bound up row p sup.Empty sup.Unbounded a b = let w = b (pos 0) in absurd (a w.0 w.1)
one_bound up row p sup.Empty (sup.At num den attained index) a b = absurd (has_some up row p.cons.dim (IsWithin p.cons) num den attained b a)
one_bound up row p sup.Unbounded sup.Empty a b = let w = a (pos 0) in absurd (b w.0 w.1)
one_bound up row p sup.Unbounded sup.Unbounded a b = refl
one_bound up row p sup.Unbounded (sup.At num den attained index) a b = absurd (bounded_not_unbounded up row p num den attained b a)
one_bound up row p (sup.At num den attained index) sup.Empty a b = absurd (has_some up row p.cons.dim (IsWithin p.cons) num den attained a b)
one_bound up row p (sup.At num den attained index) sup.Unbounded a b = absurd (bounded_not_unbounded up row p num den attained a b)
one_bound up row p (sup.At num den attained index) (sup.At other under also at) a b = same_bound up row p.cons.dim (IsWithin p.cons) num den other under attained also a b
