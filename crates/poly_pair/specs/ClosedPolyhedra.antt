use Rattle.std.specs.Prelude.{ℕ}
use Rattle.stored_systems.specs.PairedSystems.{AreToldByLists}
use Rattle.poly_pair.specs.declared.topology.Topology.TheVariants.{Closed}
use Rattle.poly_pair.specs.Polyhedra.{Polyhedron, IsKept, IsOver}

-- a closed polyhedron over so many variables
pub record IsClosedOver (dim : ℕ) (p : Polyhedron) : Type 0 where
  pub kept : IsKept p
  pub over : IsOver Closed dim p

-- two of them have the same points exactly where their constraints are one list, and exactly where
-- their generators are
abbrev pub ClosedListsTell : Type 0
ClosedListsTell = (dim : ℕ) (p q : Polyhedron) → IsClosedOver dim p → IsClosedOver dim q
    → AreToldByLists p.cons q.cons p.gens q.gens
