-- The closed polyhedron of constraints and generators of one set.
use Rattle.std.proofs.Common.{◌≡◌, inr, ℕ, ◌+◌, List, [], length, ℤ, refl, sym, ap, ◌∙◌, subst}
use Rattle.std.specs.Prelude.{◌↔◌}
use Rattle.row_core.specs.Points.{IsPoint}
use Rattle.row_core.specs.Lists.{Row, vectors}
use Rattle.sat_matrix.specs.Tables.{Table}
use Rattle.sat_matrix.specs.ZeroTables.{IsZeroTable}
use Rattle.chernikova.specs.declared.cone.Cone.{Cone}
use Rattle.row_core.specs.MarkedLists.{AreLists}
use Rattle.poly_pair.specs.Starts.{IsStartOf}
use Rattle.stored_systems.specs.Zeros.{ArePairZeros}
use Rattle.poly_pair.specs.Zeros.{KeepsZeros}
use Rattle.cone_laws.specs.Canon.{IsSystem}
use Rattle.cone_laws.specs.Cones.{Generates}
use Rattle.cone_laws.specs.Duality.{lines_of, rays_of}
use Rattle.cone_laws.specs.DualSystems.{AreSystemsOf, system_rows}
use Rattle.cone_laws.specs.Members.{ConeOf}
use Rattle.cone_laws.proofs.MemberLemmas.{spanned_within}
use Rattle.cone_laws.proofs.SystemLists.{lines_of-system_rows, rays_of-system_rows}
use Rattle.std.proofs.lemmas.List.{length-map}
use Rattle.cons_sys.specs.Constraints.{Constraints, FitDimension, In}
use Rattle.gens_sys.specs.Generators.{Generators, FitDimension as FitGenerators}
use Rattle.gens_sys.specs.Spans.{Span}
use Rattle.stored_systems.specs.PointSets.{AreClosed, AreClosedKinds, HoldSame, IsWithin}
use Rattle.stored_systems.specs.StoredForms.{stored_constraints, stored_generators, AreClosedSystems, IsPairForm, IsStored}
use Rattle.stored_systems.specs.StoredLaws.{AreSameSystems}
use Rattle.stored_systems.specs.WorkLists.{constraint_list, generator_row, generator_list}
use Rattle.stored_systems.proofs.GeneratorLists.{pair_of_generators}
use Rattle.stored_systems.proofs.Stored.{pair_point, stored_is_pair, stored_is_unique}
use Rattle.poly_pair.specs.declared.topology.Topology.{Topology}
use Rattle.poly_pair.specs.declared.topology.Topology.TheVariants.{Closed}
use Rattle.poly_pair.specs.FirstLists.{HasPointKind}
use Rattle.poly_pair.specs.Parts.{AreStoredOfGenerators}
use Rattle.poly_pair.specs.Polyhedra.{Polyhedron, IsStoredAs, IsKept, IsOfConstraints, IsOfGenerators}
use Rattle.stored_systems.proofs.CanonicalSystems.{HasCanon, has_canon}
use Rattle.poly_pair.proofs.ListLemmas.{closed_gens, wide_gens, list_admits, list_spans}
use Rattle.poly_pair.proofs.StoredLemmas.{none_kept, kept_dim}
use Rattle.poly_pair.proofs.Starts.{pair_form}
use Rattle.stored_systems.proofs.StoredLists.{listed_canon, generator_rows}

both_ways : {A B C : Type 0} → A ↔ B → B ↔ C → A ↔ C
both_ways f g = ((λ a. g.0 (f.0 a)), (λ c. f.1 (g.1 c)))

turned : {A B : Type 0} → A ↔ B → B ↔ A
turned f = (f.1, f.0)

-- ---- what the generators generate
module _ (cs : Constraints) (gs : Generators) (same_dim : gs.dim ≡ cs.dim) (closed : AreClosed cs) (kinds : AreClosedKinds gs) (fit : FitDimension cs) (gens_fit : FitGenerators gs) (generates : Generates (ConeOf (cs.dim + 1) (constraint_list cs)) (lines_of (generator_list gs)) (rays_of (generator_list gs))) where
  generated_hold : (v : List ℤ) → IsPoint gs.dim v → IsPoint cs.dim v → Span gs v ↔ In cs v
  generated_hold v pt at = (
    (λ s. (list_admits Closed cs v closed fit at).1 (spanned_within (cs.dim + 1) (constraint_list cs) (length (constraint_list cs)) (lines_of (generator_list gs)) (rays_of (generator_list gs)) v generates at.wide ((list_spans Closed gs v kinds gens_fit pt).0 s))),
    (λ h. (list_spans Closed gs v kinds gens_fit pt).1 (generates.spans v ((list_admits Closed cs v closed fit at).0 h))),
  )

  pub generators_of_both : (p : Polyhedron) → IsOfConstraints Closed cs p → IsOfGenerators Closed gs p
  generators_of_both p o = record {
    over = record { same_topology = o.over.same_topology; same_dim = o.over.same_dim ∙ sym same_dim };
    points = λ v pt. both_ways (generated_hold v pt (at v pt)) (o.points v (at v pt));
  }
    where
      at : (v : List ℤ) → IsPoint gs.dim v → IsPoint cs.dim v
      at v pt = subst (λ (n : ℕ). IsPoint n v) same_dim pt

-- ---- what is stored of it
module _ (gs : Generators) (p : Polyhedron) (k : IsKept p) (o : IsOfGenerators Closed gs p) (kinds : AreClosedKinds gs) (fit : FitGenerators gs) (point : HasPointKind gs.list) where
  first : HasCanon (gs.dim + 1) (generator_list gs)
  first = has_canon (gs.dim + 1) (generator_list gs)

  second : HasCanon (gs.dim + 1) (system_rows first.lines first.rays)
  second = has_canon (gs.dim + 1) (system_rows first.lines first.rays)

  systems : AreSystemsOf (gs.dim + 1) (generator_list gs) first.lines first.rays second.lines second.rays
  systems = record { first = first.canon; second = second.canon }

  pair : AreClosedSystems gs.dim second.lines second.rays first.lines first.rays × ((v : List ℤ) → IsPoint gs.dim v → Span gs v ↔ Span (record { dim = gs.dim; list = stored_generators gs.dim second.lines second.rays }) v)
  pair = pair_of_generators gs first.lines first.rays second.lines second.rays point.index (closed_gens gs kinds fit) (wide_gens gs fit) systems point.below point.point

  form : IsPairForm (record { dim = gs.dim; list = stored_constraints gs.dim first.lines first.rays }) (record { dim = gs.dim; list = stored_generators gs.dim second.lines second.rays })
  form = record { same_dim = refl; lines = second.lines; rays = second.rays; equalities = first.lines; inequalities = first.rays; systems = pair.0; cons = refl; gens = refl }

  stored : IsStored p.cons p.gens
  stored = subst (λ (t : Topology). IsStoredAs t p.cons p.gens) o.over.same_topology k.stored

  at : (v : List ℤ) → IsPoint p.cons.dim v → IsPoint gs.dim v
  at v pt = subst (λ (n : ℕ). IsPoint n v) o.over.same_dim pt

  hold_same : HoldSame p.cons (record { dim = gs.dim; list = stored_constraints gs.dim first.lines first.rays })
  hold_same v pt =
      both_ways (turned (o.points v (at v pt)))
      (both_ways (pair.1 v (at v pt)) (turned (stored_is_pair (record { dim = gs.dim; list = stored_constraints gs.dim first.lines first.rays }) (record { dim = gs.dim; list = stored_generators gs.dim second.lines second.rays }) (inr form) v (at v pt))))

  same : AreSameSystems p.cons (record { dim = gs.dim; list = stored_constraints gs.dim first.lines first.rays }) p.gens (record { dim = gs.dim; list = stored_generators gs.dim second.lines second.rays })
  same =
      (stored_is_unique p.cons (record { dim = gs.dim; list = stored_constraints gs.dim first.lines first.rays }) p.gens (record { dim = gs.dim; list = stored_generators gs.dim second.lines second.rays }) o.over.same_dim stored (inr form)).0 hold_same

  within : (v : List ℤ) → IsWithin (record { dim = gs.dim; list = stored_constraints gs.dim first.lines first.rays }) v → IsWithin p.cons v
  within v w =
      let pt : IsPoint p.cons.dim v = subst (λ (n : ℕ). IsPoint n v) (sym o.over.same_dim) w.point in
      record { point = pt; holds = (hold_same v pt).1 w.holds }

  some : ¬ (p.gens.list ≡ [])
  some none =
      let w = pair_point (record { dim = gs.dim; list = stored_constraints gs.dim first.lines first.rays }) (record { dim = gs.dim; list = stored_generators gs.dim second.lines second.rays }) form in
      (none_kept p k).0 none _ (within _ w)

  pub generators_stored : AreStoredOfGenerators Closed gs p
  generators_stored = inr (record {
    equalities = first.lines;
    inequalities = first.rays;
    lines = second.lines;
    rays = second.rays;
    systems = systems;
    some = some;
    stored = record { cons = ap (λ (c : Constraints). c.list) same.cons; gens = ap (λ (g : Generators). g.list) same.gens };
  })

-- ---- the start
pub both_start : (cs : Constraints) (gs : Generators) (list : List Row) (dim : ℕ) (cone : Cone) (zeros : Table) → dim ≡ cs.dim → list ≡ constraint_list cs → gs.dim ≡ cs.dim → IsSystem (ConeOf (cs.dim + 1) (constraint_list cs)) (lines_of (generator_list gs)) (rays_of (generator_list gs)) → AreLists (gs.dim + 1) cone.lines cone.rays → vectors cone.lines.rows ≡ lines_of (generator_list gs) → vectors cone.rays.rows ≡ rays_of (generator_list gs) → ArePairZeros cs gs zeros
    → ((rows : List Row) → IsZeroTable (generator_list gs) (length (generator_list gs)) (vectors rows) zeros → IsZeroTable rows (length rows) (vectors cone.rays.rows) cone.sat) → IsStartOf (dim + 1) list (length list) cone
both_start cs gs list dim cone zeros d listed same system lists lines rays pair turns =
    subst (λ (n : ℕ). IsStartOf (n + 1) list (length list) cone) (sym d)
    (subst (λ (rs : List Row). IsStartOf (cs.dim + 1) rs (length rs) cone) (sym listed) (record {
      system =
          subst (λ (xs : List (List ℤ)). IsSystem (ConeOf (cs.dim + 1) (constraint_list cs)) xs (vectors cone.rays.rows)) (sym lines)
          (subst (λ (xs : List (List ℤ)). IsSystem (ConeOf (cs.dim + 1) (constraint_list cs)) (lines_of (generator_list gs)) xs) (sym rays) system);
      lists = subst (λ (n : ℕ). AreLists (n + 1) cone.lines cone.rays) same lists;
      zeros = turns (constraint_list cs) pair;
    }))

-- ---- what a closed polyhedron with a point lends
module _ (p : Polyhedron) (gs : Generators) (zeros : Table) (closed : p.topology ≡ Closed) (some : ¬ (p.gens.list ≡ [])) (same : gs ≡ p.gens) (table : KeepsZeros p zeros) where
  pub kept_columns : zeros.columns ≡ length gs.list
  kept_columns = (table closed some).columns ∙ ap (λ (g : Generators). length (generator_list g)) (sym same) ∙ length-map gs.list generator_row

  pub kept_start : IsKept p → (cone : Cone) → AreLists (gs.dim + 1) cone.lines cone.rays → vectors cone.lines.rows ≡ lines_of (generator_list gs) → vectors cone.rays.rows ≡ rays_of (generator_list gs)
      → ((rows : List Row) → IsZeroTable (generator_list gs) (length (generator_list gs)) (vectors rows) zeros → IsZeroTable rows (length rows) (vectors cone.rays.rows) cone.sat) → IsStartOf (p.cons.dim + 1) (constraint_list p.cons) (length (constraint_list p.cons)) cone
  kept_start k cone lists lines rays turns =
      both_start p.cons gs (constraint_list p.cons) p.cons.dim cone zeros refl refl (ap (λ (g : Generators). g.dim) same ∙ kept_dim p k)
      (subst (λ (xs : List (List ℤ)). IsSystem (ConeOf (p.cons.dim + 1) (constraint_list p.cons)) xs (rays_of (generator_list gs))) (sym lines_are)
      (subst (λ (xs : List (List ℤ)). IsSystem (ConeOf (p.cons.dim + 1) (constraint_list p.cons)) f.lines xs) (sym rays_are) (listed_canon p.cons p.gens f).system))
      lists lines rays (subst (λ (g : Generators). ArePairZeros p.cons g zeros) (sym same) (table closed some)) turns
    where
      f : IsPairForm p.cons p.gens
      f = pair_form p k closed some

      listed : generator_list gs ≡ system_rows f.lines f.rays
      listed = ap generator_list same ∙ generator_rows p.cons p.gens f

      lines_are : lines_of (generator_list gs) ≡ f.lines
      lines_are = ap lines_of listed ∙ lines_of-system_rows f.lines f.rays

      rays_are : rays_of (generator_list gs) ≡ f.rays
      rays_are = ap rays_of listed ∙ rays_of-system_rows f.lines f.rays
