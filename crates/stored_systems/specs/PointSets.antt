use Rattle.std.specs.Prelude.{◌≡◌, ℕ, ◌+◌, ◌↔◌, List, length, ℤ, pos, ◌≤ℤ◌, All, ⊤}
use Rattle.row_core.specs.Vectors.{cell, dot}
use Rattle.row_core.specs.Points.{IsPoint}
use Rattle.cons_sys.specs.declared.kind.ConKind.{ConKind}
use Rattle.cons_sys.specs.declared.kind.ConKind.TheVariants.{Eq, Ge, Gt}
use Rattle.cons_sys.specs.Constraints.{Constraints, In}
use Rattle.gens_sys.specs.declared.kind.GenKind.{GenKind}
use Rattle.gens_sys.specs.declared.kind.GenKind.TheVariants.{Line, Ray, Point, ClosurePoint}
use Rattle.gens_sys.specs.Kinds.{HasBadDivisor}
use Rattle.gens_sys.specs.Generators.{Generator, Generators}

-- ---- closed systems
-- a closed system has no strict constraint
abbrev pub IsClosedKind : ConKind → Type 0
IsClosedKind Eq = ⊤
IsClosedKind Ge = ⊤
IsClosedKind Gt = ⊥

abbrev pub AreClosed : Constraints → Type 0
AreClosed cs = All (λ c. IsClosedKind c.1) cs.list

-- each row has a column for each variable and one more
abbrev pub AreWide : Constraints → Type 0
AreWide cs = All (λ c. length c.0 ≡ cs.dim + 1) cs.list

-- a closed system has no closure point
abbrev pub IsClosedGenKind : GenKind → Type 0
IsClosedGenKind Line = ⊤
IsClosedGenKind Ray = ⊤
IsClosedGenKind Point = ⊤
IsClosedGenKind ClosurePoint = ⊥

abbrev pub AreClosedKinds : Generators → Type 0
AreClosedKinds gs = All (λ g. IsClosedGenKind g.1) gs.list

-- a generator of a closed system, whose last entry fits its kind
pub record IsClosedGen (dim : ℕ) (g : Generator) : Type 0 where
  pub kind : IsClosedGenKind g.1
  pub divisor : ¬ (HasBadDivisor g.1 (cell g.0 dim))

abbrev pub AreClosedGens : Generators → Type 0
AreClosedGens gs = All (IsClosedGen gs.dim) gs.list

-- each vector has a column for each variable and one more
abbrev pub AreWideGens : Generators → Type 0
AreWideGens gs = All (λ g. length g.0 ≡ gs.dim + 1) gs.list

-- ---- the set of the points at which constraints hold
-- the vector is a point over the variables of the constraints, and these hold at it
pub record IsWithin (cs : Constraints) (p : List ℤ) : Type 0 where
  pub point : IsPoint cs.dim p
  pub holds : In cs p

-- the row is at least 0 at each point of the set
pub record IsValid (cs : Constraints) (a : List ℤ) : Type 0 where
  pub wide : length a ≡ cs.dim + 1
  pub holds : (p : List ℤ) → IsWithin cs p → pos 0 ≤ℤ dot a p

-- each valid row is at least 0 on the vector
pub record IsInCone (cs : Constraints) (v : List ℤ) : Type 0 where
  pub wide : length v ≡ cs.dim + 1
  pub admitted : (a : List ℤ) → IsValid cs a → pos 0 ≤ℤ dot a v

-- both hold at the same points
abbrev pub HoldSame : Constraints → Constraints → Type 0
HoldSame cs ds = (p : List ℤ) → IsPoint cs.dim p → In cs p ↔ In ds p
