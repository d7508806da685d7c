-- The polyhedron of mapped generators by the systems of their list with a row of zeros behind it.
use Rattle.std.proofs.Common.{◌≡◌, ℕ, zero, suc, ◌+◌, ◌<◌, List, [], ◌∷◌, length, replicate, slice_index_or, true, ℤ, pos, refl, sym, ap, ◌∙◌, subst, arith}
use Rattle.row_core.specs.Vectors.{dot}
use Rattle.row_core.specs.Lists.{Row}
use Rattle.cone_laws.specs.DualSystems.{AreSystemsOf}
use Rattle.cone_laws.specs.UniqueLaws.{AdmitSame}
use Rattle.cone_laws.proofs.MemberLemmas.{same_cone, rows_of_both}
use Rattle.cone_laws.proofs.UptoRows.{upto_zero}
use Rattle.gens_sys.specs.Generators.{Generator, Generators, FitDimension}
use Rattle.stored_systems.specs.PointSets.{AreClosedKinds}
use Rattle.stored_systems.specs.WorkLists.{generator_list}
use Rattle.poly_pair.specs.declared.topology.Topology.{Topology}
use Rattle.poly_pair.specs.declared.topology.Topology.TheVariants.{Closed}
use Rattle.poly_pair.specs.FirstLists.{HasPointKind, IsGeneratorList}
use Rattle.poly_pair.specs.Parts.{AreStoredOfGenerators}
use Rattle.poly_pair.specs.Polyhedra.{Polyhedron, IsKept, IsOfGenerators}
use Rattle.poly_pair.specs.Starts.{CanStart}
use Rattle.poly_pair.proofs.BothSystems.{generators_stored}
use Rattle.poly_pair.proofs.ListLemmas.{vectors_pair, vectors_of_pair, generators_of_vectors}
use Rattle.poly_pair.proofs.PointKinds.{some_point}
use Rattle.poly_pair.proofs.StoredLemmas.{no_element}
use Rattle.mapped_systems.specs.MappedLists.{IsMappedSystem}
use Rattle.affine_maps.specs.Collapsing.{IsListOfClosed, IsStoredOfList, collapsed_list}
use Rattle.affine_maps.proofs.CollapsedForms.{dot_zeros}
use Rattle.affine_maps.proofs.MappedPolyhedra.{mapped_kinds, mapped_point}

-- ---- a row of zeros
zeros_met : (n : ℕ) (v : List ℤ) (m : ℕ) (d : Row) → m < 1 → dot (slice_index_or ((replicate n (pos 0), true) ∷ []) m d).0 v ≡ pos 0
zeros_met n v zero d h = dot_zeros n v
zeros_met n v (suc m) d h = absurd (omega (arith, h))

pub same_without : (width : ℕ) (gs : Generators) → AdmitSame width (collapsed_list gs) (length (collapsed_list gs)) (generator_list gs) (length (generator_list gs))
same_without width gs = record {
  first = λ v u. ((rows_of_both width (generator_list gs) ((replicate (gs.dim + 1) (pos 0), true) ∷ []) v).0 u).0;
  second = λ v u. (rows_of_both width (generator_list gs) ((replicate (gs.dim + 1) (pos 0), true) ∷ []) v).1 (u, upto_zero width ((replicate (gs.dim + 1) (pos 0), true) ∷ []) 1 v u.wide (zeros_met (gs.dim + 1) v));
}

-- ---- the polyhedron
module _ (f : List ℤ → List ℤ) (p : Polyhedron) (k : IsKept p) (start : CanStart p) (gs : Generators) (fit : FitDimension gs) (m : IsMappedSystem f p.cons.dim p.gens gs) (as_many : length gs.list ≡ length p.gens.list) where
  kinds : AreClosedKinds gs
  kinds = mapped_kinds f Closed p.cons.dim p gs (sym start.closed) k m

  some : ¬ (gs.list ≡ [])
  some e = start.some (no_element p.gens.list (sym as_many ∙ ap (λ (list : List Generator). length list) e))

  point : HasPointKind gs.list
  point = some_point gs.list some (mapped_point f p.cons.dim p gs k m)

  listed : IsGeneratorList Closed p.cons.dim (generator_list gs)
  listed = record { system = gs; same_dim = m.same_dim; kinds = kinds; fit = fit; point = point; listed = refl }

  systems_of : (equalities inequalities lines rays : List (List ℤ)) → AreSystemsOf (p.cons.dim + 1) (collapsed_list gs) equalities inequalities lines rays → AreSystemsOf (p.cons.dim + 1) (generator_list gs) equalities inequalities lines rays
  systems_of equalities inequalities lines rays s = record {
    first = (same_cone (p.cons.dim + 1) (collapsed_list gs) (length (collapsed_list gs)) (generator_list gs) (length (generator_list gs)) equalities inequalities (same_without (p.cons.dim + 1) gs)).1 s.first;
    second = s.second;
  }

  pub list_of_closed : IsListOfClosed p.cons.dim (collapsed_list gs)
  list_of_closed equalities inequalities lines rays s = (vectors_pair equalities inequalities lines rays p.cons.dim (generator_list gs) listed (systems_of equalities inequalities lines rays s)).0

  module _ (q : Polyhedron) (s : IsStoredOfList p.cons.dim (collapsed_list gs) q) where
    of_closed : IsOfGenerators Closed gs q
    of_closed =
        generators_of_vectors Closed p.cons.dim gs (generator_list gs) q (sym m.same_dim) kinds fit refl
        (vectors_of_pair p.cons.dim (generator_list gs) s.equalities s.inequalities s.lines s.rays q listed (systems_of s.equalities s.inequalities s.lines s.rays s.systems) s.over.same_topology s.over.same_dim s.stored.cons)

    pub of_generators : IsOfGenerators p.topology gs q
    of_generators = subst (λ (t : Topology). IsOfGenerators t gs q) (sym start.closed) of_closed

    pub stored_of_generators : AreStoredOfGenerators p.topology gs q
    stored_of_generators = subst (λ (t : Topology). AreStoredOfGenerators t gs q) (sym start.closed) (generators_stored gs q s.kept of_closed kinds fit point)
