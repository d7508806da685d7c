-- What the two systems of a polyhedron tell of it.
use Rattle.std.proofs.Common.{◌≡◌, ◌⊎◌, inl, inr, ℕ, List, [], ℤ, sym, subst, ◌∙◌}
use Rattle.cons_sys.specs.Constraints.{Constraints}
use Rattle.gens_sys.specs.Generators.{Generators}
use Rattle.stored_systems.specs.PointSets.{IsWithin}
use Rattle.stored_systems.specs.StoredForms.{IsStored}
use Rattle.stored_systems.specs.PairedSystems.{ArePaired}
use Rattle.stored_systems.proofs.PairedSystems.{stored_lists_tell}
use Rattle.stored_systems.proofs.Stored.{pair_point}
use Rattle.poly_pair.specs.declared.topology.Topology.{Topology}
use Rattle.poly_pair.specs.declared.topology.Topology.TheVariants.{Closed, Nnc}
use Rattle.poly_pair.specs.Polyhedra.{Polyhedron, IsKept, IsStoredAs}
use Rattle.poly_pair.specs.ClosedPolyhedra.{IsClosedOver, ClosedListsTell}
use Rattle.poly_pair.proofs.StoredLemmas.{kept_is_pair, kept_dim}

some_stored : (topology : Topology) (cs : Constraints) (gs : Generators) → IsStoredAs topology cs gs → (gs.list ≡ []) ⊎ ((p : List ℤ) × IsWithin cs p)
some_stored Closed cs gs (inl e) = inl e.gens
some_stored Closed cs gs (inr f) = inr (_, pair_point cs gs f)
some_stored Nnc cs gs (inl e) = inl e.gens
some_stored Nnc cs gs (inr f) = inr (f.point, f.within)

pub kept_paired : (p : Polyhedron) → IsKept p → ArePaired p.cons p.gens
kept_paired p k = record { same_dim = kept_dim p k; pair = kept_is_pair p k; some = some_stored p.topology p.cons p.gens k.stored }

closed_stored : (dim : ℕ) (p : Polyhedron) → IsClosedOver dim p → IsStored p.cons p.gens
closed_stored dim p c = subst (λ (t : Topology). IsStoredAs t p.cons p.gens) c.over.same_topology c.kept.stored

pub closed_lists_tell : ClosedListsTell
closed_lists_tell dim p q c d = stored_lists_tell p.cons q.cons p.gens q.gens (c.over.same_dim ∙ sym d.over.same_dim) (closed_stored dim p c) (closed_stored dim q d)
