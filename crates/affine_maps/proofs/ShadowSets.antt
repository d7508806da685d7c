-- The points that constraints become where some columns alone are kept, by the generators of the constraints.
use Rattle.std.proofs.Common.{◌≡◌, ◌⊎◌, inl, inr, ℕ, ◌+◌, ◌≤◌, List, length, ℤ, Option, Some, None, Result, Ok, Err, sym, ap, ◌∙◌, subst, arith, All}
use Rattle.std.specs.Prelude.{IfErr}
use Rattle.row_core.specs.Points.{IsPoint}
use Rattle.row_core.specs.declared.errors.Overflow.{Overflow}
use Rattle.row_core.specs.declared.errors.ConvErr.{ConvErr}
use Rattle.row_core.specs.declared.errors.ConvErr.TheVariants as conversion
use Rattle.cone_laws.specs.Leaves.{Leaves}
use Rattle.cons_sys.specs.Constraints.{Constraints}
use Rattle.gens_sys.specs.Generators.{Generator, Generators, FitDimension}
use Rattle.stored_systems.specs.WorkLists.{LeavesOn}
use Rattle.poly_pair.specs.declared.topology.Topology.{Topology}
use Rattle.poly_pair.specs.TopologyLists.{list_width, generators_of}
use Rattle.poly_pair.specs.Polyhedra.{Polyhedron, IsEmpty, IsOfGenerators}
use Rattle.poly_pair.specs.Work.{Work, cons_work, gens_work, IsConversion, IsFirstConversion}
use Rattle.poly_pair.specs.Parts.{AreStoredOfGenerators}
use Rattle.poly_pair.specs.Spanning.{HoldNowhere, IsSpanning}
use Rattle.mapped_systems.specs.Maps.{picked}
use Rattle.mapped_systems.specs.MappedLists.{IsMappedSystem}
use Rattle.row_core.specs.Refusals.{IsOverflowIn}
use Rattle.mapped_systems.specs.Sources.{HasSource}
use Rattle.affine_maps.specs.Shadows.{IsShadow, IsStoredOfShadow, SpanShadow, LeavesOnSystem, LeavesOnShadow, IsSecondConversion, IsShadowConversion, ConvertsShadow}
use Rattle.mapped_systems.proofs.LinearMaps.{IsLinearMap}
use Rattle.mapped_systems.proofs.MappedSets.{SpannedSource, source_of, of_source}
use Rattle.affine_maps.proofs.MappedPolyhedra.{kinds_for}
use Rattle.mapped_systems.proofs.MappedKinds.{none_before}

-- ---- no point
pub empty_shadow : (topology : Topology) (f : List ℤ → List ℤ) (dim : ℕ) (cs : Constraints) → HoldNowhere cs → (r : Polyhedron) → IsEmpty topology dim r → IsShadow topology f dim cs r
empty_shadow topology f dim cs none r e = record {
  over = e.over;
  points = λ v pt. (
    (λ h. absurd (e.points v (record { point = subst (λ (n : ℕ). IsPoint n v) (sym e.over.same_dim) pt; holds = h }))),
    (λ s. absurd (none s.source s.within)),
  );
}

-- the mapped generators at the dimension of the constraints
pub picked_system : (topology : Topology) (columns : List ℕ) (cs : Constraints) (gs new : Generators) → IsSpanning topology cs gs → IsMappedSystem (picked columns gs.dim) (length columns) gs new → IsMappedSystem (picked columns cs.dim) (length columns) gs new
picked_system topology columns cs gs new spanning m = subst (λ (n : ℕ). IsMappedSystem (picked columns n) (length columns) gs new) spanning.same_dim m

-- ---- the generators
module _ (topology : Topology) (f : List ℤ → List ℤ) (to : ℕ) (cs : Constraints) (lin : IsLinearMap cs.dim to f) (gs : Generators) (fit : FitDimension gs) (spanning : IsSpanning topology cs gs) (new : Generators) (m : IsMappedSystem f to gs new) where
  all_wide : All (λ (g : Generator). length g.0 ≡ cs.dim + 1) gs.list
  all_wide i d h = (fit.each i d h).wide ∙ ap (λ (n : ℕ). n + 1) spanning.same_dim

  source_within : (v : List ℤ) → SpannedSource cs.dim to f lin gs v → HasSource f cs v
  source_within v s = record { source = s.source; within = record { point = s.point; holds = (spanning.points s.source s.point).1 s.spanned }; same = s.same }

  source_spanned : (v : List ℤ) → HasSource f cs v → SpannedSource cs.dim to f lin gs v
  source_spanned v s = record { source = s.source; point = s.within.point; spanned = (spanning.points s.source s.within.point).0 s.within.holds; same = s.same }

  pub shadow_spanned : SpanShadow topology f to cs new
  shadow_spanned = record {
    kinds = kinds_for f topology gs new m.mapped spanning.kinds;
    point = λ lacks. none_before f gs.list new.list m.mapped lacks.none spanning.some.index spanning.some.below spanning.some.point;
    points = λ v pt. (
      (λ h. source_within v (source_of cs.dim to f lin gs new all_wide m.mapped v pt h)),
      (λ s. of_source cs.dim to f lin gs new all_wide m.mapped v (source_spanned v s)),
    );
    is_system = record { gens = gs; of_system = spanning.of_system; mapped = m };
  }

-- ---- what they generate
module _ (topology : Topology) (f : List ℤ → List ℤ) (to : ℕ) (cs : Constraints) (new : Generators) (s : SpanShadow topology f to cs new) where
  pub shadow_points : (r : Polyhedron) → IsOfGenerators topology new r → IsShadow topology f to cs r
  shadow_points r o = record {
    over = record { same_topology = o.over.same_topology; same_dim = o.over.same_dim ∙ s.is_system.mapped.same_dim };
    points = λ v pt. (
      (λ h. (s.points v pt).0 ((o.points v (at_dim v pt)).1 h)),
      (λ h. (o.points v (at_dim v pt)).0 ((s.points v pt).1 h)),
    );
  }
    where
      at_dim : (v : List ℤ) → IsPoint to v → IsPoint new.dim v
      at_dim v pt = subst (λ (n : ℕ). IsPoint n v) (sym s.is_system.mapped.same_dim) pt

  pub shadow_stored : (r : Polyhedron) → AreStoredOfGenerators topology new r → IsStoredOfShadow topology f to cs r
  shadow_stored r st = inr (record { system = new; is_system = s.is_system; stored = st })

  -- ---- what its conversion costs and shows
  pub system_conversion : (before after : ℕ) (over : Option Overflow) → IsConversion (gens_work topology new) before after over → IsSecondConversion topology f to cs before after over
  system_conversion before after over h = inr (record { system = new; is_system = s.is_system; conversion = h })

-- ---- what the calls cost and show
module _ (work : Work) (topology : Topology) (f : List ℤ → List ℤ) (to : ℕ) (cs : Constraints) where
  -- the second after the first
  pub both_conversions : (old between new : ℕ) (over : Option Overflow) → IsFirstConversion work old between None → IsSecondConversion topology f to cs between new over → IsShadowConversion work topology f to cs old new over
  both_conversions old between new over first (inl h) = inl (subst (λ (n : ℕ). IsFirstConversion work old n over) (sym h.0) (subst (λ (o : Option Overflow). IsFirstConversion work old between o) (sym h.1) first))
  both_conversions old between new over first (inr second) = inr (record { between = between; first = first; second = second })

  pub shadow_fewer : (old new : ℕ) (over : Option Overflow) → IsShadowConversion work topology f to cs old new over → old ≤ new
  shadow_fewer old new over (inl first) = first.no_fewer
  shadow_fewer old new over (inr both) = omega (arith, both.first.no_fewer, both.second.conversion.no_fewer)

  pub shadow_leaves : (old new : ℕ) (over : Overflow) → IsShadowConversion work topology f to cs old new (Some over) → Leaves work.width work.rows over ⊎ LeavesOnSystem topology f to cs over
  shadow_leaves old new over (inl first) = inl first.overflow
  shadow_leaves old new over (inr both) = inr (record {
    system = both.second.system;
    is_system = both.second.is_system;
    leaves = subst (λ (n : ℕ). LeavesOn (list_width topology n) n (generators_of topology both.second.system) over) both.second.is_system.mapped.same_dim both.second.conversion.overflow;
  })

pub shadow_clause : (topology : Topology) (f : List ℤ → List ℤ) (to : ℕ) (cs : Constraints) (old new : ℕ) (r : Result Polyhedron ConvErr) → ConvertsShadow (cons_work topology cs) topology f to cs old new r → IfErr r (IsOverflowIn (LeavesOnShadow topology f to cs))
shadow_clause topology f to cs old new (Ok made) h = tt
shadow_clause topology f to cs old new (Err (conversion.Overflow over)) h = shadow_leaves (cons_work topology cs) topology f to cs old new over h
shadow_clause topology f to cs old new (Err conversion.Memory) h = tt
