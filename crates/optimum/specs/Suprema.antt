-- The least upper and the greatest lower bound of an expression on a set: `up` is true
-- for the upper one.
use Rattle.std.specs.Prelude.{◌≡◌, ℕ, List, [], ◌∷◌, length, ℤ, pos, ◌<ℤ◌, Bool, Result, Ok, Err, ◌↔◌, IsTrue}
use Rattle.std.proofs.Math.IntN.{◌*ℤ◌}
use Rattle.row_core.specs.Vectors.{cell, dot}
use Rattle.row_core.specs.Content.{IsPrimitive, IsPrimitiveOf}
use Rattle.row_core.specs.declared.PairOver.{PairOver}
use Rattle.gens_sys.specs.Generators.{Generators, row_at, kind_at}
use Rattle.gens_sys.specs.declared.kind.GenKind.TheVariants.{Point}
use Rattle.stored_systems.specs.PointSets.{IsWithin}
use Rattle.poly_pair.specs.Polyhedra.{Polyhedron, HasNoPoint}
use Rattle.optimum.specs.Search.{IsShort, IsAtMost, SeeksTo, IsBest, IsEndless, SeekLeaves}
use Rattle.optimum.specs.declared.outcome.Sup.{Sup}
use Rattle.optimum.specs.declared.outcome.Sup.TheVariants as sup

-- ---- a set of points of the dimension, by what is in it
-- a point whose value times k is beyond m
abbrev pub HasBeyond : Bool → List ℤ → ℕ → (List ℤ → Type 0) → ℤ → ℤ → Type 0
HasBeyond up row dim Has m k = (p : List ℤ) × Has p × IsShort up (m *ℤ cell p dim) (k *ℤ dot row p)

-- each integer is exceeded by some value
abbrev pub ExceedsAll : Bool → List ℤ → ℕ → (List ℤ → Type 0) → Type 0
ExceedsAll up row dim Has = (bound : ℤ) → HasBeyond up row dim Has bound (pos 1)

-- the fraction, in lowest terms, is exceeded by no value and equals some exactly where it is
-- attained, and each fraction less good is exceeded
pub record IsSupremum (up : Bool) (row : List ℤ) (dim : ℕ) (Has : List ℤ → Type 0) (num den : ℤ)
    (attained : Bool) : Type 0 where
  pub lowest : IsPrimitive (num ∷ den ∷ [])
  pub positive : pos 0 <ℤ den
  pub bound : (p : List ℤ) → Has p → IsAtMost up (den *ℤ dot row p) (num *ℤ cell p dim)
  pub reached : IsTrue attained ↔ ((p : List ℤ) × Has p × (den *ℤ dot row p ≡ num *ℤ cell p dim))
  pub nearest : (m k : ℤ) → pos 0 <ℤ k → IsShort up (m *ℤ den) (num *ℤ k)
      → HasBeyond up row dim Has m k

-- ---- the polyhedron
-- each integer is exceeded by the value of some point
abbrev pub IsUnbounded : Bool → List ℤ → Polyhedron → Type 0
IsUnbounded up row p = ExceedsAll up row p.cons.dim (IsWithin p.cons)

-- what an answer says of the points: there is none, their values have no bound, or this
-- is the bound
abbrev pub IsTrueSup : Bool → List ℤ → Polyhedron → Sup → Type 0
IsTrueSup up row p sup.Empty = HasNoPoint p
IsTrueSup up row p sup.Unbounded = IsUnbounded up row p
IsTrueSup up row p (sup.At num den attained index) =
    IsSupremum up row p.cons.dim (IsWithin p.cons) num den attained

-- ---- the order of the generators
-- no generator ends the search, b is the best point, and the answer is its fraction in lowest terms
pub record IsFound (up : Bool) (row : List ℤ) (gs : Generators) (num den : ℤ) (attained : Bool)
    (b : ℕ) : Type 0 where
  pub reached : SeeksTo up row gs.dim gs.list (length gs.list)
  pub best : IsBest up row gs.dim gs.list (length gs.list) b
  pub lowest : IsPrimitiveOf
      (dot row (row_at gs.list b) ∷ cell (row_at gs.list b) gs.dim ∷ []) (num ∷ den ∷ [])
  pub point : IsTrue attained ↔ kind_at gs.list b ≡ Point

-- what the order gives
abbrev pub SupAnswer : Bool → List ℤ → Generators → Result Sup PairOver → Type 0
SupAnswer up row gs (Ok sup.Empty) = gs.list ≡ []
SupAnswer up row gs (Ok sup.Unbounded) = (i : ℕ) × IsEndless up row gs.dim gs.list i
SupAnswer up row gs (Ok (sup.At num den attained index)) = IsFound up row gs num den attained index
SupAnswer up row gs (Err over) = SeekLeaves up row gs.dim gs.list over
