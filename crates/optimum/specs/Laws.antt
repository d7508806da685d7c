-- Laws of the answers.
use Rattle.std.specs.Prelude.{◌≡◌, ◌↔◌, ℕ, List, ℤ, Bool, IsTrue, Result, Ok}
use Rattle.std.proofs.Math.IntN.{◌*ℤ◌}
use Rattle.row_core.specs.Vectors.{cell, dot}
use Rattle.row_core.specs.Points.{IsPoint}
use Rattle.row_core.specs.declared.PairOver.{PairOver}
use Rattle.cons_sys.specs.Constraints.{Constraint, Satisfies}
use Rattle.cons_sys.specs.declared.kind.ConKind.{ConKind}
use Rattle.gens_sys.specs.Generators.{Generators, FitDimension, row_at}
use Rattle.stored_systems.specs.PointSets.{IsClosedKind, IsWithin}
use Rattle.poly_pair.specs.Polyhedra.{Polyhedron, IsKept}
use Rattle.optimum.specs.Relations.{HoldsThroughout, RelationAnswer}
use Rattle.optimum.specs.Search.{IsAtMost}
use Rattle.optimum.specs.Suprema.{IsTrueSup, SupAnswer}
use Rattle.optimum.specs.declared.outcome.Relation.{Relation}
use Rattle.optimum.specs.declared.outcome.Sup.{Sup}
use Rattle.optimum.specs.declared.outcome.Sup.TheVariants as sup

-- the answer without the number of its generator
abbrev pub bound_of : Sup → Sup
bound_of sup.Empty = sup.Empty
bound_of sup.Unbounded = sup.Unbounded
bound_of (sup.At num den attained index) = sup.At num den attained 0

-- of the points of one set no two different answers are true
abbrev pub HasOneBound : Type 0
HasOneBound = (up : Bool) (row : List ℤ) (p : Polyhedron) (a b : Sup) → IsTrueSup up row p a
    → IsTrueSup up row p b → bound_of a ≡ bound_of b

-- the generators in their order give one answer
abbrev pub HasOneSup : Type 0
HasOneSup = (up : Bool) (row : List ℤ) (gs : Generators) → FitDimension gs
    → (r s : Result Sup PairOver) → SupAnswer up row gs r → SupAnswer up row gs s → r ≡ s

-- and one to the relation
abbrev pub HasOneRelation : Type 0
HasOneRelation = (row : List ℤ) (kind : ConKind) (p : Polyhedron) (r s : Result Relation PairOver)
    → RelationAnswer row kind p r → RelationAnswer row kind p s → r ≡ s

-- a vector that shows a bound: it is a point at which each constraint holds that isn't strict and
-- holds at each point of the set, it is one of the set exactly where the bound is attained, it has
-- the bound as its value, and no point of the set has a better one
pub record IsWitness (up : Bool) (row : List ℤ) (p : Polyhedron) (num den : ℤ) (attained : Bool)
    (v : List ℤ) : Type 0 where
  pub point : IsPoint p.cons.dim v
  pub closure : (c : Constraint) → IsClosedKind c.1 → HoldsThroughout p.cons c → Satisfies v c
  pub inside : IsTrue attained ↔ IsWithin p.cons v
  pub value : den *ℤ dot row v ≡ num *ℤ cell v p.cons.dim
  pub bound : (u : List ℤ) → IsWithin p.cons u
      → IsAtMost up (den *ℤ dot row u) (num *ℤ cell u p.cons.dim)

-- the generator that an answer numbers is one
abbrev pub GeneratorIsWitness : Type 0
GeneratorIsWitness =
    (up : Bool) (row : List ℤ) (p : Polyhedron) (num den : ℤ) (attained : Bool) (index : ℕ)
    → IsKept p → FitDimension p.gens → SupAnswer up row p.gens (Ok (sup.At num den attained index))
    → IsWitness up row p num den attained (row_at p.gens.list index)
