use Rattle.std.specs.Prelude.{◌≡◌, ◌⊎◌, ℕ, List, [], ◌++◌, ◌↔◌, ℤ, Option, None, Result}
use Rattle.row_core.specs.Points.{IsPoint}
use Rattle.row_core.specs.Lists.{Row}
use Rattle.row_core.specs.declared.errors.Overflow.{Overflow}
use Rattle.row_core.specs.declared.errors.ConvErr.{ConvErr}
use Rattle.cons_sys.specs.Constraints.{In}
use Rattle.gens_sys.specs.Generators.{Generator, Generators}
use Rattle.stored_systems.specs.WorkLists.{LeavesOn}
use Rattle.poly_pair.specs.TopologyLists.{generators_of, list_width}
use Rattle.poly_pair.specs.Polyhedra.{Polyhedron, IsOver}
use Rattle.poly_pair.specs.Parts.{AreStoredOfVectors}
use Rattle.poly_pair.specs.Work.{gens_work, conv_overflow, overflow_in, IsConversion}
use Rattle.elapse.specs.ElapsedPoints.{IsInElapse}
use Rattle.elapse.specs.Directions.{AreDirections}

-- the time elapse of the one by the other: the points at which each constraint of the topology
-- holds that holds at all x + t*y
pub record IsElapse (p q result : Polyhedron) : Type 0 where
  pub over : IsOver p.topology p.cons.dim result
  pub points : (v : List ℤ) → IsPoint p.cons.dim v → In result.cons v
      ↔ IsInElapse p.topology p.cons q.cons v

-- the generators of the one, and then the directions
abbrev pub followed : Generators → List Generator → Generators
followed gs directions = record { dim = gs.dim; list = gs.list ++ directions }

-- the rows are the generator list of the generators of the one and the directions of the other
pub record IsElapseList (p q : Polyhedron) (rows : List Row) : Type 0 where
  pub directions : List Generator
  pub are_directions : AreDirections p.gens.dim q.gens.list directions
  pub listed : rows ≡ generators_of p.topology (followed p.gens directions)

-- what is stored is of the systems of that list
pub record AreStoredOfList (p q result : Polyhedron) : Type 0 where
  pub rows : List Row
  pub is_list : IsElapseList p q rows
  pub stored : AreStoredOfVectors p.topology p.gens.dim rows result

-- where one of the two is empty, the empty set is stored
pub record IsOfNone (p q result : Polyhedron) : Type 0 where
  pub given : (p.gens.list ≡ []) ⊎ (q.gens.list ≡ [])
  pub none : result.gens.list ≡ []

abbrev pub AreStoredOfElapse : Polyhedron → Polyhedron → Polyhedron → Type 0
AreStoredOfElapse p q result = IsOfNone p q result ⊎ AreStoredOfList p q result

-- an overflow shows a number outside the range in the conversion of that list, or of
-- its second list
pub record LeavesOnElapse (p q : Polyhedron) (over : Overflow) : Type 0 where
  pub some : ¬ (p.gens.list ≡ [])
  pub moving : ¬ (q.gens.list ≡ [])
  pub rows : List Row
  pub is_list : IsElapseList p q rows
  pub leaves : LeavesOn (list_width p.topology p.gens.dim) p.gens.dim rows over

-- what the conversion of that list, or of its second list, costs and shows
pub record IsElapseConversion (p q : Polyhedron) (old new : ℕ)
    (over : Option Overflow) : Type 0 where
  pub some : ¬ (p.gens.list ≡ [])
  pub moving : ¬ (q.gens.list ≡ [])
  pub directions : List Generator
  pub are_directions : AreDirections p.gens.dim q.gens.list directions
  pub conversion : IsConversion (gens_work p.topology (followed p.gens directions)) old new over

-- a call that converts that list, or nothing where one of the two is empty or memory runs out
-- before the directions are made
abbrev pub ConvertsElapse : Polyhedron → Polyhedron → ℕ → ℕ → Result Polyhedron ConvErr → Type 0
ConvertsElapse p q old new result =
    ((new ≡ old) × (overflow_in conv_overflow result ≡ None))
    ⊎ IsElapseConversion p q old new (overflow_in conv_overflow result)
