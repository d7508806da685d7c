use Rattle.std.specs.Prelude.{◌≡◌, ℕ, ◌↔◌, List, drop, ℤ, Option, Some, None}
use Rattle.row_core.specs.Points.{IsPoint, IsSamePoint}
use Rattle.cons_sys.specs.Constraints.{Constraints, In}
use Rattle.gens_sys.specs.Generators.{Generators}
use Rattle.gens_sys.specs.Spans.{Span}
use Rattle.stored_systems.specs.PointSets.{IsWithin, AreClosedKinds}
use Rattle.poly_pair.specs.declared.topology.Topology.TheVariants.{Closed}
use Rattle.poly_pair.specs.FirstLists.{LacksPoint}
use Rattle.poly_pair.specs.Polyhedra.{Polyhedron, IsOver}
use Rattle.mapped_systems.specs.Maps.{without}

-- some pair of a state and a successor is in the relation, where the state, which is its first
-- variables with the divisor, is in the set, and the successor, which is the others, is the point
pub record IsStepTo (p relation : Constraints) (y : List ℤ) : Type 0 where
  pub pair : List ℤ
  pub related : IsWithin relation pair
  pub source : In p (without p.dim relation.dim pair)
  pub target : IsSamePoint y (drop p.dim pair)

-- the post of a set by a relation: all successors of its states
pub record IsPost (p relation post : Polyhedron) : Type 0 where
  pub over : IsOver Closed p.cons.dim post
  pub points : (y : List ℤ) → IsPoint p.cons.dim y → In post.cons y
      ↔ IsStepTo p.cons relation.cons y

-- generators of the post, of which one is a point
pub record SpanPost (p relation : Polyhedron) (gs : Generators) : Type 0 where
  pub same_dim : gs.dim ≡ p.cons.dim
  pub kinds : AreClosedKinds gs
  pub point : ¬ (LacksPoint gs.list)
  pub points : (y : List ℤ) → IsPoint p.cons.dim y → Span gs y ↔ IsStepTo p.cons relation.cons y

-- or nothing where no state has a successor
abbrev pub SpanPostIfAny : Polyhedron → Polyhedron → Option Generators → Type 0
SpanPostIfAny p relation None = (y : List ℤ) → ¬ (IsStepTo p.cons relation.cons y)
SpanPostIfAny p relation (Some gs) = SpanPost p relation gs

-- some pair at which the constraints hold has the point behind its first variables
pub record HasPairOf (dim : ℕ) (pairs : Constraints) (y : List ℤ) : Type 0 where
  pub pair : List ℤ
  pub within : IsWithin pairs pair
  pub target : IsSamePoint y (drop dim pair)

-- all points behind the first variables of such pairs
pub record AreSuccessors (dim : ℕ) (pairs : Constraints) (successors : Polyhedron) : Type 0 where
  pub over : IsOver Closed dim successors
  pub points : (y : List ℤ) → IsPoint dim y → In successors.cons y ↔ HasPairOf dim pairs y
