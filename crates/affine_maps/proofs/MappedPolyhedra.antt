-- Polyhedra of mapped generators, and of constraints whose rows are mapped.
use Rattle.std.proofs.Common.{◌≡◌, ◌⊎◌, inr, ℕ, ◌+◌, ◌<◌, List, length, ℤ, pos, ◌<ℤ◌, sym, ap, ◌∙◌, subst, All}
use Rattle.row_core.specs.Vectors.{cell}
use Rattle.row_core.specs.Points.{IsPoint}
use Rattle.row_core.specs.Refusals.{IsOverflowIn}
use Rattle.row_core.specs.declared.errors.Overflow.{Overflow}
use Rattle.row_core.specs.declared.errors.ConvErr.{ConvErr}
use Rattle.row_core.specs.declared.errors.ConvErr.TheVariants as conversion
use Rattle.cons_sys.specs.Constraints.{Constraints, FitDimension as FitConstraints}
use Rattle.gens_sys.specs.Generators.{Generator, Generators, FitDimension}
use Rattle.gens_sys.specs.Spans.{Span}
use Rattle.stored_systems.specs.WorkLists.{LeavesOn}
use Rattle.poly_pair.specs.declared.topology.Topology.{Topology}
use Rattle.poly_pair.specs.declared.topology.Topology.TheVariants.{Closed, Nnc}
use Rattle.poly_pair.specs.TopologyLists.{AreConstraintsFor, AreGeneratorsFor, list_width, constraints_of, generators_of}
use Rattle.poly_pair.specs.FirstLists.{LacksPoint}
use Rattle.poly_pair.specs.Refusals.{IsOverflowOn}
use Rattle.poly_pair.specs.Polyhedra.{Polyhedron, IsKept, IsOfConstraints, IsOfGenerators, HasNoPoint}
use Rattle.poly_pair.proofs.StoredLemmas.{none_kept, kept_is_pair, kept_dim, kept_constraints, kept_generators}
use Rattle.mapped_systems.specs.Maps.{substituted, pulled_back}
use Rattle.mapped_systems.specs.MappedLists.{AreMapped, ArePulled, IsMappedSystem, IsPulledSystem}
use Rattle.mapped_systems.specs.Sources.{HasSource}
use Rattle.mapped_systems.proofs.LinearMaps.{IsLinearMap, substitution_linear}
use Rattle.mapped_systems.proofs.MappedKinds.{closed_gen_kinds, none_before, nothing_new}
use Rattle.mapped_systems.proofs.MappedSets.{SpannedSource, source_of, of_source}
use Rattle.mapped_systems.proofs.PulledSets.{MeetsAt, pulled_holds, holds_pulled, closed_kinds, replaced_meets}
use Rattle.affine_maps.specs.CarriedPairs.{CanBeCarried, ImagePairLeaves}
use Rattle.affine_maps.specs.SubstitutedSets.{IsSubstitutedImage, IsSubstitutedPreimage, LeavesOnSubstituted, LeavesOnPulledBack}

-- ---- generators
module _ (f : List ℤ → List ℤ) where
  pub kinds_for : (topology : Topology) (old new : Generators) → AreMapped f old.list new.list → AreGeneratorsFor topology old → AreGeneratorsFor topology new
  kinds_for Closed old new a h = closed_gen_kinds f old.list new.list a h
  kinds_for Nnc old new a h = tt

  pub mapped_kinds : (topology : Topology) (to : ℕ) (p : Polyhedron) (new : Generators) → topology ≡ p.topology → IsKept p → IsMappedSystem f to p.gens new → AreGeneratorsFor topology new
  mapped_kinds topology to p new e k m = subst (λ (t : Topology). AreGeneratorsFor t new) (sym e) (kinds_for p.topology p.gens new m.mapped (kept_generators p k))

  pub mapped_point : (to : ℕ) (p : Polyhedron) (new : Generators) → IsKept p → IsMappedSystem f to p.gens new → ¬ (LacksPoint new.list)
  mapped_point to p new k m lacks = nothing_new f new.list (subst (λ (old : List Generator). AreMapped f old new.list) ((none_kept p k).1 no_point) m.mapped) lacks.some
    where
      no_point : HasNoPoint p
      no_point v w =
          let s : Span p.gens v = (kept_is_pair p k v w.point).0 w.holds in
          none_before f p.gens.list new.list m.mapped lacks.none s.point.index s.point.within s.point.kind

-- ---- systems of a polyhedron
-- the mapped system of the generators that a polyhedron lends
pub lent_generators : (F : ℕ → List ℤ → List ℤ) (T : ℕ → ℕ) (p : Polyhedron) (gs new : Generators) → gs ≡ p.gens → IsKept p → IsMappedSystem (F gs.dim) (T gs.dim) gs new → IsMappedSystem (F p.cons.dim) (T p.cons.dim) p.gens new
lent_generators F T p gs new e k m = subst (λ (n : ℕ). IsMappedSystem (F n) (T n) p.gens new) (kept_dim p k) (subst (λ (hs : Generators). IsMappedSystem (F hs.dim) (T hs.dim) hs new) e m)

-- ---- constraints
pulled_kinds_for : (f : List ℤ → List ℤ) (topology : Topology) (old new : Constraints) → ArePulled f old.list new.list → AreConstraintsFor topology old → AreConstraintsFor topology new
pulled_kinds_for f Closed old new a h = closed_kinds f old.list new.list a h
pulled_kinds_for f Nnc old new a h = tt

pub pulled_kinds : (f : List ℤ → List ℤ) (topology : Topology) (to : ℕ) (p : Polyhedron) (new : Constraints) → topology ≡ p.topology → IsKept p → IsPulledSystem f to p.cons new → AreConstraintsFor topology new
pulled_kinds f topology to p new e k m = subst (λ (t : Topology). AreConstraintsFor t new) (sym e) (pulled_kinds_for f p.topology p.cons new m.pulled (kept_constraints p k))

-- ---- the image where a variable is replaced
module _ (var : ℕ) (expr : List ℤ) (den : ℤ) (p : Polyhedron) (new : Generators) (topology : Topology) (same : topology ≡ p.topology) (k : IsKept p) (fit : FitDimension p.gens) (below : var < p.cons.dim) (positive : pos 0 <ℤ den) (m : IsMappedSystem (substituted var expr den) p.cons.dim p.gens new) where
  lin : IsLinearMap p.cons.dim p.cons.dim (substituted var expr den)
  lin = substitution_linear p.cons.dim var expr den below positive

  all_wide : All (λ (g : Generator). length g.0 ≡ p.cons.dim + 1) p.gens.list
  all_wide i d h = (fit.each i d h).wide ∙ ap (λ (n : ℕ). n + 1) (kept_dim p k)

  source_within : (v : List ℤ) → SpannedSource p.cons.dim p.cons.dim (substituted var expr den) lin p.gens v → HasSource (substituted var expr den) p.cons v
  source_within v s = record { source = s.source; within = record { point = s.point; holds = (kept_is_pair p k s.source s.point).1 s.spanned }; same = s.same }

  source_spanned : (v : List ℤ) → HasSource (substituted var expr den) p.cons v → SpannedSource p.cons.dim p.cons.dim (substituted var expr den) lin p.gens v
  source_spanned v s = record { source = s.source; point = s.within.point; spanned = (kept_is_pair p k s.source s.within.point).0 s.within.holds; same = s.same }

  pub image_points : (q : Polyhedron) → IsOfGenerators topology new q → IsSubstitutedImage var expr den p q
  image_points q o = record {
    over = record { same_topology = o.over.same_topology ∙ same; same_dim = o.over.same_dim ∙ m.same_dim };
    points = λ v pt. (
      (λ h. source_within v (source_of p.cons.dim p.cons.dim (substituted var expr den) lin p.gens new all_wide m.mapped v pt ((o.points v (at_dim v pt)).1 h))),
      (λ s. (o.points v (at_dim v pt)).0 (of_source p.cons.dim p.cons.dim (substituted var expr den) lin p.gens new all_wide m.mapped v (source_spanned v s))),
    );
  }
    where
      at_dim : (v : List ℤ) → IsPoint p.cons.dim v → IsPoint new.dim v
      at_dim v pt = subst (λ (n : ℕ). IsPoint n v) (sym m.same_dim) pt

-- ---- the preimage
pub preimage_points : (var : ℕ) (expr : List ℤ) (den : ℤ) (p : Polyhedron) (new : Constraints) (topology : Topology) → topology ≡ p.topology → FitConstraints p.cons → var < p.cons.dim → IsPulledSystem (pulled_back var expr den) p.cons.dim p.cons new → (q : Polyhedron) → IsOfConstraints topology new q → IsSubstitutedPreimage var expr den p q
preimage_points var expr den p new topology same fit below m q o = record {
  over = record { same_topology = o.over.same_topology ∙ same; same_dim = o.over.same_dim ∙ m.same_dim };
  points = λ v pt. (
    (λ h. pulled_holds (pulled_back var expr den) (substituted var expr den) v p.cons.list new.list m.pulled (meets v pt) ((o.points v (at_dim v pt)).1 h)),
    (λ h. (o.points v (at_dim v pt)).0 (holds_pulled (pulled_back var expr den) (substituted var expr den) v p.cons.list new.list m.pulled (meets v pt) h)),
  );
}
  where
    meets : (v : List ℤ) → IsPoint p.cons.dim v → All (MeetsAt (pulled_back var expr den) (substituted var expr den) v) p.cons.list
    meets v pt = replaced_meets var expr den p.cons fit below v pt

    at_dim : (v : List ℤ) → IsPoint p.cons.dim v → IsPoint new.dim v
    at_dim v pt = subst (λ (n : ℕ). IsPoint n v) (sym m.same_dim) pt

-- ---- refusals
pub mapped_overflow : (var : ℕ) (expr : List ℤ) (den : ℤ) (p : Polyhedron) (new : Generators) (topology : Topology) → topology ≡ p.topology → IsMappedSystem (substituted var expr den) p.cons.dim p.gens new → (CanBeCarried p (cell expr var) → ImagePairLeaves var expr den p new) → (e : ConvErr) → IsOverflowOn (list_width topology new.dim) new.dim (generators_of topology new) e → IsOverflowIn (LeavesOnSubstituted var expr den p) e
mapped_overflow var expr den p new topology same m pair (conversion.Overflow over) l = record {
  system = new;
  mapped = m;
  leaves = subst (λ (n : ℕ). LeavesOn (list_width p.topology n) n (generators_of p.topology new) over) m.same_dim (subst (λ (t : Topology). LeavesOn (list_width t new.dim) new.dim (generators_of t new) over) same l);
  pair = pair;
}
mapped_overflow var expr den p new topology same m pair conversion.Memory l = tt

pub pulled_overflow : (var : ℕ) (expr : List ℤ) (den : ℤ) (p : Polyhedron) (new : Constraints) (topology : Topology) → topology ≡ p.topology → IsPulledSystem (pulled_back var expr den) p.cons.dim p.cons new → (e : ConvErr) → IsOverflowOn (list_width topology new.dim) new.dim (constraints_of topology new) e → IsOverflowIn (LeavesOnPulledBack var expr den p) e
pulled_overflow var expr den p new topology same m (conversion.Overflow over) l = record {
  system = new;
  pulled = m;
  leaves = subst (λ (n : ℕ). LeavesOn (list_width p.topology n) n (constraints_of p.topology new) over) m.same_dim (subst (λ (t : Topology). LeavesOn (list_width t new.dim) new.dim (constraints_of t new) over) same l);
}
pulled_overflow var expr den p new topology same m conversion.Memory l = tt

pub either_overflow : (A B : Overflow → Type 0) (e : ConvErr) → IsOverflowIn B e → IsOverflowIn (λ over. A over ⊎ B over) e
either_overflow A B (conversion.Overflow over) l = inr l
either_overflow A B conversion.Memory l = tt
