use Rattle.std.specs.Prelude.{◌≡◌, []}
use Rattle.sat_matrix.specs.Tables.{Table}
use Rattle.stored_systems.specs.Zeros.{ArePairZeros}
use Rattle.poly_pair.specs.declared.topology.Topology.TheVariants.{Closed}
use Rattle.poly_pair.specs.Polyhedra.{Polyhedron}

-- the table that a closed polyhedron with a point keeps
abbrev pub KeepsZeros : Polyhedron → Table → Type 0
KeepsZeros p table = p.topology ≡ Closed → ¬ (p.gens.list ≡ []) → ArePairZeros p.cons p.gens table
