-- What a constraint asks of directions, and what its row without the constant asks of the generators that they are of.
use Rattle.std.proofs.Common.{◌≡◌, ℕ, ◌<◌, List, [], ◌∷◌, ℤ, pos, ◌+ℤ◌, ◌*ℤ◌, ◌≤ℤ◌, ◌<ℤ◌, refl, sym, ap, ◌∙◌, subst, arith, All}
use Rattle.std.proofs.lemmas.Int.{ints}
use Rattle.std.proofs.lemmas.List.Elements.{All-nil, All-cons, All-head, All-tail}
use Rattle.row_core.specs.Vectors.{dot}
use Rattle.row_core.specs.Content.{IsPrimitiveOf}
use Rattle.row_core.proofs.Ring.{mul-zero, mul-at_least_zero, at_least_zero_of_mul, zero_of_mul}
use Rattle.row_core.proofs.DotLemmas.{dot-scale}
use Rattle.cons_sys.specs.declared.kind.ConKind.{ConKind}
use Rattle.cons_sys.specs.declared.kind.ConKind.TheVariants.{Eq, Ge, Gt}
use Rattle.cons_sys.specs.Constraints.{Constraint}
use Rattle.gens_sys.specs.Kinds.{IsZeroDirection}
use Rattle.gens_sys.specs.declared.kind.GenKind.{GenKind}
use Rattle.gens_sys.specs.declared.kind.GenKind.TheVariants.{Line, Ray, Point, ClosurePoint}
use Rattle.gens_sys.specs.Generators.{Generator}
use Rattle.set_laws.specs.Asking.{Asks, MeetsOn}
use Rattle.elapse.specs.Directions.{AreDirections, no_direction, zero_direction, one_direction, direction_kind, levelled}
use Rattle.elapse.proofs.Levelled.{dot_levelled}

-- what the value of the row without its constant has to be
abbrev pub level_kind : ConKind → ConKind
level_kind Eq = Eq
level_kind Ge = Ge
level_kind Gt = Ge

-- the constraint on directions
abbrev pub level_constraint : ℕ → Constraint → Constraint
level_constraint dim c = (levelled dim c.0, level_kind c.1)

-- ---- one value
zero_factor : (x t y : ℤ) → pos 0 <ℤ t → x ≡ t *ℤ y → x ≡ pos 0 → y ≡ pos 0
zero_factor x t y p e h = zero_of_mul t y p (sym e ∙ h)

least_factor : (x t y : ℤ) → pos 0 <ℤ t → x ≡ t *ℤ y → pos 0 ≤ℤ x → pos 0 ≤ℤ y
least_factor x t y p e h = at_least_zero_of_mul t y p (subst (λ z. pos 0 ≤ℤ z) e h)

zero_times : (x t y : ℤ) → x ≡ t *ℤ y → y ≡ pos 0 → x ≡ pos 0
zero_times x t y e h = e ∙ ap (λ z. t *ℤ z) h ∙ mul-zero t

least_times : (x t y : ℤ) → pos 0 <ℤ t → x ≡ t *ℤ y → pos 0 ≤ℤ y → pos 0 ≤ℤ x
least_times x t y p e h = subst (λ z. pos 0 ≤ℤ z) (sym e) (mul-at_least_zero t y (omega (arith, ints, p)) h)

zero_least : (x : ℤ) → x ≡ pos 0 → pos 0 ≤ℤ x
zero_least x e = omega (arith, ints, e)

direction_asked : (k : ConKind) (g : GenKind) (x t y : ℤ) → pos 0 <ℤ t → x ≡ t *ℤ y → Asks (level_kind k) g x → Asks k (direction_kind g) y
direction_asked Eq Line x t y p e h = zero_factor x t y p e h
direction_asked Eq Ray x t y p e h = zero_factor x t y p e h
direction_asked Eq Point x t y p e h = zero_factor x t y p e h
direction_asked Eq ClosurePoint x t y p e h = zero_factor x t y p e h
direction_asked Ge Line x t y p e h = zero_factor x t y p e h
direction_asked Ge Ray x t y p e h = least_factor x t y p e h
direction_asked Ge Point x t y p e h = least_factor x t y p e h
direction_asked Ge ClosurePoint x t y p e h = least_factor x t y p e h
direction_asked Gt Line x t y p e h = zero_factor x t y p e h
direction_asked Gt Ray x t y p e h = least_factor x t y p e h
direction_asked Gt Point x t y p e h = least_factor x t y p e h
direction_asked Gt ClosurePoint x t y p e h = least_factor x t y p e h

level_asked : (k : ConKind) (g : GenKind) (x t y : ℤ) → pos 0 <ℤ t → x ≡ t *ℤ y → Asks k (direction_kind g) y → Asks (level_kind k) g x
level_asked Eq Line x t y p e h = zero_times x t y e h
level_asked Eq Ray x t y p e h = zero_times x t y e h
level_asked Eq Point x t y p e h = zero_times x t y e h
level_asked Eq ClosurePoint x t y p e h = zero_times x t y e h
level_asked Ge Line x t y p e h = zero_times x t y e h
level_asked Ge Ray x t y p e h = least_times x t y p e h
level_asked Ge Point x t y p e h = least_times x t y p e h
level_asked Ge ClosurePoint x t y p e h = least_times x t y p e h
level_asked Gt Line x t y p e h = zero_times x t y e h
level_asked Gt Ray x t y p e h = least_times x t y p e h
level_asked Gt Point x t y p e h = least_times x t y p e h
level_asked Gt ClosurePoint x t y p e h = least_times x t y p e h

zero_asked : (k : ConKind) (g : GenKind) (x : ℤ) → x ≡ pos 0 → Asks (level_kind k) g x
zero_asked Eq Line x e = e
zero_asked Eq Ray x e = e
zero_asked Eq Point x e = e
zero_asked Eq ClosurePoint x e = e
zero_asked Ge Line x e = e
zero_asked Ge Ray x e = zero_least x e
zero_asked Ge Point x e = zero_least x e
zero_asked Ge ClosurePoint x e = zero_least x e
zero_asked Gt Line x e = e
zero_asked Gt Ray x e = zero_least x e
zero_asked Gt Point x e = zero_least x e
zero_asked Gt ClosurePoint x e = zero_least x e

-- ---- one direction
abbrev IsNought : ℤ → Type 0
IsNought z = z ≡ pos 0

all_zero : (g : GenKind) (v : List ℤ) → IsZeroDirection (direction_kind g) v → All (λ z. z ≡ pos 0) v
all_zero Line v h = h
all_zero Ray v h = h
all_zero Point v h = h
all_zero ClosurePoint v h = h

no_sum : (a b d : ℤ) → b ≡ pos 0 → d ≡ pos 0 → a *ℤ b +ℤ d ≡ pos 0
no_sum a b d e f = let g : a *ℤ b ≡ pos 0 = ap (λ z. a *ℤ z) e ∙ mul-zero a in omega (arith, ints, f, g)

dot_nought : (a v : List ℤ) → All IsNought v → dot a v ≡ pos 0
dot_nought [] v h = refl
dot_nought (a ∷ u) [] h = refl
dot_nought (a ∷ u) (b ∷ v) h = no_sum a b (dot u v) (All-head IsNought b v h) (dot_nought u v (All-tail IsNought b v h))

-- the value of the row without its constant is a positive multiple of that of the row at the direction
primitive_value : (dim : ℕ) (a v stored : List ℤ) (p : IsPrimitiveOf (levelled dim v) stored) → dot (levelled dim a) v ≡ pos p.multiple.times *ℤ dot a stored
primitive_value dim a v stored p = dot_levelled dim a v ∙ ap (dot a) p.multiple.same ∙ dot-scale a (pos p.multiple.times) stored

positive_times : (n : ℕ) → 0 < n → pos 0 <ℤ pos n
positive_times n h = omega (arith, ints, h)

-- ---- lists
module _ (dim : ℕ) (c : Constraint) where
  abbrev OnLevel : Generator → Type 0
  OnLevel g = MeetsOn (level_constraint dim c) g

  abbrev OnDirection : Generator → Type 0
  OnDirection g = MeetsOn c g

  pub directions_meet : (old new : List Generator) → AreDirections dim old new → All OnLevel old → All OnDirection new
  directions_meet [] [] no_direction h = All-nil OnDirection
  directions_meet [] (_ ∷ new) d h = elim d [ ]
  directions_meet (g ∷ old) new (zero_direction z d) h = directions_meet old new d (All-tail OnLevel g old h)
  directions_meet ((v, kind) ∷ old) ((stored, kind2) ∷ new) (one_direction n p d) h =
      All-cons OnDirection (stored, kind2) new
      (direction_asked c.1 kind (dot (levelled dim c.0) v) (pos p.multiple.times) (dot c.0 stored) (positive_times p.multiple.times p.multiple.positive) (primitive_value dim c.0 v stored p) (All-head OnLevel (v, kind) old h))
      (directions_meet old new d (All-tail OnLevel (v, kind) old h))

  pub directions_met : (old new : List Generator) → AreDirections dim old new → All OnDirection new → All OnLevel old
  directions_met [] [] no_direction h = All-nil OnLevel
  directions_met [] (_ ∷ new) d h = elim d [ ]
  directions_met ((v, kind) ∷ old) new (zero_direction z d) h =
      All-cons OnLevel (v, kind) old
      (zero_asked c.1 kind (dot (levelled dim c.0) v) (dot_levelled dim c.0 v ∙ dot_nought c.0 (levelled dim v) (all_zero kind (levelled dim v) z)))
      (directions_met old new d h)
  directions_met ((v, kind) ∷ old) ((stored, kind2) ∷ new) (one_direction n p d) h =
      All-cons OnLevel (v, kind) old
      (level_asked c.1 kind (dot (levelled dim c.0) v) (pos p.multiple.times) (dot c.0 stored) (positive_times p.multiple.times p.multiple.positive) (primitive_value dim c.0 v stored p) (All-head OnDirection (stored, kind2) new h))
      (directions_met old new d (All-tail OnDirection (stored, kind2) new h))
