-- When two entries are the same, and two tables have the same entries.
use Rattle.std.specs.Prelude.{◌≡◌, [], ◌∷◌}
use Rattle.row_core.specs.Lists.{Pointwise}
use Rattle.poly_pair.specs.Polyhedra.{Polyhedron, HaveSamePoints}
use Rattle.poly_pair.specs.declared.topology.Topology.TheVariants.{Closed}
use Rattle.powerset.specs.Powersets.{FinitePowerset}
use Rattle.calc_state.specs.declared.entry.Entry.{Entry}
use Rattle.calc_state.specs.declared.entry.Entry.TheVariants as entry
use Rattle.calc_state.specs.Table.{Table}

-- one topology, one dimension and the same points; of a closed polyhedron the two systems are equal
-- too
pub record AreSamePolyhedra (p q : Polyhedron) : Type 0 where
  pub topology : p.topology ≡ q.topology
  pub dim : p.cons.dim ≡ q.cons.dim
  pub points : HaveSamePoints p q
  pub closed : p.topology ≡ Closed → p ≡ q

-- one topology, one dimension, and as many members, each the same as the one at its place
pub record AreSamePowersets (u w : FinitePowerset) : Type 0 where
  pub topology : u.topology ≡ w.topology
  pub dim : u.dim ≡ w.dim
  pub members : Pointwise AreSamePolyhedra u.members w.members

-- the same polyhedron or powerset, or one transition system, shape or automaton
abbrev pub AreSameEntries : Entry → Entry → Type 0
AreSameEntries (entry.Poly p) (entry.Poly q) = AreSamePolyhedra p q
AreSameEntries (entry.System s) (entry.System t) = s ≡ t
AreSameEntries (entry.Powerset u) (entry.Powerset w) = AreSamePowersets u w
AreSameEntries (entry.Shape s) (entry.Shape r) = s ≡ r
AreSameEntries (entry.Hybrid h) (entry.Hybrid k) = h ≡ k
AreSameEntries e f = ⊥

-- the same names in the same order, and under each the same
abbrev pub AreSameTables : Table → Table → Type 0
AreSameTables [] [] = Unit {0}
AreSameTables (e ∷ table) (f ∷ others) =
    (e.0 ≡ f.0) × AreSameEntries e.1 f.1 × AreSameTables table others
AreSameTables table others = ⊥
