-- What one system of a closed set stores, of a list of the other kind.
use Rattle.std.proofs.Common.{◌≡◌, inl, inr, ℕ, ◌+◌, ◌≤◌, List, [], ◌∷◌, refl, sym, ap, subst, arith}
use Rattle.std.specs.Prelude.{ℤ, ◌⊎◌, ◌≢◌}
use Prim.Native.Nat.{suc, zero}
use Rattle.cone_laws.specs.Canon.{Canon}
use Rattle.cone_laws.specs.Members.{ConeOf}
use Rattle.cone_laws.specs.DualSystems.{AreSystemsOf, system_rows}
use Rattle.cons_sys.specs.declared.kind.ConKind.TheVariants.{Ge}
use Rattle.cons_sys.specs.Constraints.{Constraints, FitDimension}
use Rattle.gens_sys.specs.declared.kind.GenKind.TheVariants.{Line, Ray, Point, ClosurePoint}
use Rattle.gens_sys.specs.Generators.{Generator, Generators, FitDimension as FitGenerators}
use Rattle.stored_systems.specs.PointSets.{AreClosed, AreClosedKinds}
use Rattle.stored_systems.specs.StoredForms.{stored_constraints, stored_generators, false_row}
use Rattle.stored_systems.specs.WorkLists.{constraint_list, generator_list, HasPoint, HaveNoPoint}
use Rattle.stored_systems.proofs.ConstraintLists.{pair_of_constraints}
use Rattle.stored_systems.proofs.GeneratorLists.{pair_of_generators}
use Rattle.poly_pair.specs.declared.topology.Topology.TheVariants.{Closed}
use Rattle.poly_pair.specs.declared.topology.TheConstants.{MAX_DIM}
use Rattle.poly_pair.specs.FirstLists.{HasPointKind, HasNoPointKind, LacksPoint}
use Rattle.file_poly.specs.OtherSystems.{AreStoredGenerators, AreStoredConstraints}
use Rattle.poly_pair.specs.Polyhedra.{Polyhedron, IsEmpty}
use Rattle.stored_systems.proofs.CanonicalSystems.{HasCanon, has_canon}
use Rattle.poly_pair.proofs.ListLemmas.{closed_gens, wide_gens, rows_of_empty, constraints_of_rows, vectors_of_pair, generators_of_vectors, generators_of_empty}
use Rattle.poly_pair.proofs.StoredLemmas.{empty_stored, empty_of}

-- the stored systems of no point
none_of : Constraints → Generators → Polyhedron
none_of cs gs = record { topology = Closed; cons = cs; gens = gs }

false_constraints : ℕ → Constraints
false_constraints dim = record { dim = dim; list = (false_row dim, Ge) ∷ [] }

-- ---- of constraints
pub generators_of_system : (cs : Constraints) (lines rays : List (List ℤ)) (gs : Generators) → cs.dim ≤ MAX_DIM → AreClosed cs → Canon (ConeOf (cs.dim + 1) (constraint_list cs)) lines rays → HasPoint cs.dim rays → gs.dim ≡ cs.dim → gs.list ≡ stored_generators cs.dim lines rays → AreStoredGenerators cs gs
generators_of_system cs lines rays gs narrow closed canon point dim list =
    let second : HasCanon (cs.dim + 1) (system_rows lines rays) = has_canon (cs.dim + 1) (system_rows lines rays) in
    let systems : AreSystemsOf (cs.dim + 1) (constraint_list cs) lines rays second.lines second.rays = record { first = canon; second = second.canon } in
    let pair = pair_of_constraints cs lines rays second.lines second.rays closed systems point in
    record {
      polyhedron = record { topology = Closed; cons = record { dim = cs.dim; list = stored_constraints cs.dim second.lines second.rays }; gens = gs };
      kept = record {
        narrow = narrow;
        stored = inr (record { same_dim = dim; lines = lines; rays = rays; equalities = second.lines; inequalities = second.rays; systems = pair.0; cons = refl; gens = list });
      };
      set = record { over = record { same_topology = refl; same_dim = refl }; points = pair.1 };
      gens = refl;
    }

pub generators_of_none : (cs : Constraints) (lines rays : List (List ℤ)) (gs : Generators) → cs.dim ≤ MAX_DIM → AreClosed cs → FitDimension cs → Canon (ConeOf (cs.dim + 1) (constraint_list cs)) lines rays → HaveNoPoint cs.dim rays → gs.dim ≡ cs.dim → gs.list ≡ [] → AreStoredGenerators cs gs
unfolding none_of false_constraints
generators_of_none cs lines rays gs narrow closed fit canon none dim list =
    let p : Polyhedron = none_of (false_constraints cs.dim) gs in
    let empty : IsEmpty Closed cs.dim p = empty_of Closed cs.dim p p.cons gs refl refl refl dim refl list in
    record {
      polyhedron = p;
      kept = record { narrow = narrow; stored = empty_stored Closed cs.dim p.cons gs refl dim refl list };
      set = constraints_of_rows Closed cs.dim cs (constraint_list cs) p refl closed fit refl
          (rows_of_empty Closed cs.dim (constraint_list cs) p (record { system = cs; same_dim = refl; kinds = closed; fit = fit; listed = refl }) (record { lines = lines; rays = rays; canon = canon; level = none }) empty);
      gens = refl;
    }

-- ---- of generators
pub constraints_of_system : (gs : Generators) (equalities inequalities : List (List ℤ)) (cs : Constraints) → gs.dim ≤ MAX_DIM → AreClosedKinds gs → FitGenerators gs → HasPointKind gs.list → Canon (ConeOf (gs.dim + 1) (generator_list gs)) equalities inequalities → cs.dim ≡ gs.dim → cs.list ≡ stored_constraints gs.dim equalities inequalities → AreStoredConstraints gs cs
constraints_of_system gs equalities inequalities cs narrow kinds fit point canon dim list =
    let second : HasCanon (gs.dim + 1) (system_rows equalities inequalities) = has_canon (gs.dim + 1) (system_rows equalities inequalities) in
    let systems : AreSystemsOf (gs.dim + 1) (generator_list gs) equalities inequalities second.lines second.rays = record { first = canon; second = second.canon } in
    let pair = pair_of_generators gs equalities inequalities second.lines second.rays point.index (closed_gens gs kinds fit) (wide_gens gs fit) systems point.below point.point in
    let q : Polyhedron = record { topology = Closed; cons = record { dim = gs.dim; list = cs.list }; gens = record { dim = gs.dim; list = stored_generators gs.dim second.lines second.rays } } in
    record {
      polyhedron = q;
      kept = record {
        narrow = narrow;
        stored = inr (record { same_dim = refl; lines = second.lines; rays = second.rays; equalities = equalities; inequalities = inequalities; systems = pair.0; cons = list; gens = refl });
      };
      set = generators_of_vectors Closed gs.dim gs (generator_list gs) q refl kinds fit refl
          (vectors_of_pair gs.dim (generator_list gs) equalities inequalities second.lines second.rays q (record { system = gs; same_dim = refl; kinds = kinds; fit = fit; point = point; listed = refl }) systems refl refl list);
      cons = at_dim cs gs.dim dim;
    }
  where
    at_dim : (cs : Constraints) (dim : ℕ) → cs.dim ≡ dim → record { dim = dim; list = cs.list } ≡ cs
    at_dim cs dim e = ap (λ (n : ℕ). record { dim = n; list = cs.list }) (sym e)

pub constraints_of_none : (gs : Generators) (cs : Constraints) → gs.dim ≤ MAX_DIM → gs.list ≡ [] → cs.dim ≡ gs.dim → cs.list ≡ (false_row gs.dim, Ge) ∷ [] → AreStoredConstraints gs cs
unfolding none_of
constraints_of_none gs cs narrow none dim list =
    let p : Polyhedron = none_of cs gs in
    let empty : IsEmpty Closed gs.dim p = empty_of Closed gs.dim p cs gs refl refl dim refl list none in
    record {
      polyhedron = p;
      kept = record { narrow = subst (λ (n : ℕ). n ≤ MAX_DIM) (sym dim) narrow; stored = empty_stored Closed gs.dim cs gs dim refl list none };
      set = generators_of_empty Closed gs.dim gs p refl none empty;
      cons = refl;
    }
