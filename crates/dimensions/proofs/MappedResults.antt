-- Polyhedra of mapped generators.
use Rattle.std.proofs.Common.{◌≡◌, ℕ, ◌+◌, List, length, ℤ, pos, ◌*ℤ◌, ◌<ℤ◌, Option, Some, None, Result, Ok, Err, inl, inr, sym, ap, ◌∙◌, subst, arith, All}
use Rattle.std.specs.Prelude.{IfErr}
use Rattle.std.proofs.lemmas.Int.{ints}
use Rattle.row_core.specs.Vectors.{cell, scale}
use Rattle.row_core.specs.Points.{IsPoint, IsSamePoint}
use Rattle.row_core.specs.Refusals.{IsOverflowIn}
use Rattle.row_core.specs.declared.errors.ConvErr.{ConvErr}
use Rattle.row_core.specs.declared.errors.ConvErr.TheVariants as conversion
use Rattle.cone_laws.proofs.Ring.{mul-zero, zero_of_mul}
use Rattle.cone_laws.proofs.Columns.{cell-scale}
use Rattle.cons_sys.proofs.SystemLemmas.{In-same_point}
use Rattle.gens_sys.specs.Generators.{Generator, Generators, FitDimension}
use Rattle.gens_sys.specs.Spans.{Span}
use Rattle.stored_systems.specs.WorkLists.{LeavesOn}
use Rattle.poly_pair.specs.declared.topology.Topology.{Topology}
use Rattle.poly_pair.specs.declared.topology.Topology.TheVariants.{Closed, Nnc}
use Rattle.poly_pair.specs.TopologyLists.{AreGeneratorsFor, list_width, generators_of}
use Rattle.poly_pair.specs.FirstLists.{LacksPoint}
use Rattle.poly_pair.specs.Work.{gens_work, conv_overflow, overflow_in, IsConversion, Converts}
use Rattle.poly_pair.specs.Polyhedra.{Polyhedron, IsKept, IsOfGenerators, HasNoPoint}
use Rattle.poly_pair.proofs.StoredLemmas.{none_kept, kept_is_pair, kept_dim, kept_generators}
use Rattle.mapped_systems.specs.Maps.{with_zeros, without}
use Rattle.mapped_systems.specs.MappedLists.{AreMapped, IsMappedSystem}
use Rattle.mapped_systems.specs.Sources.{HasSource}
use Rattle.mapped_systems.proofs.ColumnLemmas.{without-with_zeros, without-scale, restored, length-without, cell-within, cell-behind}
use Rattle.mapped_systems.proofs.LinearMaps.{IsLinearMap}
use Rattle.mapped_systems.proofs.MappedKinds.{closed_gen_kinds, none_before, nothing_new}
use Rattle.mapped_systems.proofs.MappedSets.{SpannedSource, source_of, of_source}
use Rattle.dimensions.specs.Results.{IsImage, IsPadded, IsProjection}
use Rattle.row_core.specs.declared.errors.Overflow.{Overflow}
use Rattle.dimensions.specs.Refusals.{LeavesOnMapped, IsMappedConversion, ConvertsMapped}

-- ---- kinds
module _ (f : List ℤ → List ℤ) where
  pub kinds_for : (topology : Topology) (old new : Generators) → AreMapped f old.list new.list → AreGeneratorsFor topology old → AreGeneratorsFor topology new
  kinds_for Closed old new a h = closed_gen_kinds f old.list new.list a h
  kinds_for Nnc old new a h = tt

  pub mapped_kinds : (topology : Topology) (to : ℕ) (p : Polyhedron) (new : Generators) → topology ≡ p.topology → IsKept p → IsMappedSystem f to p.gens new → AreGeneratorsFor topology new
  mapped_kinds topology to p new e k m = subst (λ (t : Topology). AreGeneratorsFor t new) (sym e) (kinds_for p.topology p.gens new m.mapped (kept_generators p k))

  pub mapped_point : (to : ℕ) (p : Polyhedron) (new : Generators) → IsKept p → IsMappedSystem f to p.gens new → ¬ (LacksPoint new.list)
  mapped_point to p new k m lacks = nothing_new f new.list (subst (λ (old : List Generator). AreMapped f old new.list) ((none_kept p k).1 no_point) m.mapped) lacks.some
    where
      no_point : HasNoPoint p
      no_point v w =
          let s : Span p.gens v = (kept_is_pair p k v w.point).0 w.holds in
          none_before f p.gens.list new.list m.mapped lacks.none s.point.index s.point.within s.point.kind

-- ---- the image
module _ (f : List ℤ → List ℤ) (to : ℕ) (p : Polyhedron) (new : Generators) (topology : Topology) (same : topology ≡ p.topology) (k : IsKept p) (fit : FitDimension p.gens) (lin : IsLinearMap p.cons.dim to f) (m : IsMappedSystem f to p.gens new) where
  all_wide : All (λ (g : Generator). length g.0 ≡ p.cons.dim + 1) p.gens.list
  all_wide i d h = (fit.each i d h).wide ∙ ap (λ (n : ℕ). n + 1) (kept_dim p k)

  source_within : (v : List ℤ) → SpannedSource p.cons.dim to f lin p.gens v → HasSource f p.cons v
  source_within v s = record { source = s.source; within = record { point = s.point; holds = (kept_is_pair p k s.source s.point).1 s.spanned }; same = s.same }

  source_spanned : (v : List ℤ) → HasSource f p.cons v → SpannedSource p.cons.dim to f lin p.gens v
  source_spanned v s = record { source = s.source; point = s.within.point; spanned = (kept_is_pair p k s.source s.within.point).0 s.within.holds; same = s.same }

  pub image_points : (q : Polyhedron) → IsOfGenerators topology new q → IsImage f to p q
  image_points q o = record {
    over = record { same_topology = o.over.same_topology ∙ same; same_dim = o.over.same_dim ∙ m.same_dim };
    points = λ v pt. (
      (λ h. source_within v (source_of p.cons.dim to f lin p.gens new all_wide m.mapped v pt ((o.points v (at_dim v pt)).1 h))),
      (λ s. (o.points v (at_dim v pt)).0 (of_source p.cons.dim to f lin p.gens new all_wide m.mapped v (source_spanned v s))),
    );
  }
    where
      at_dim : (v : List ℤ) → IsPoint to v → IsPoint new.dim v
      at_dim v pt = subst (λ (n : ℕ). IsPoint n v) (sym m.same_dim) pt

-- ---- conversions
pub mapped_conversion : (f : List ℤ → List ℤ) (to : ℕ) (p : Polyhedron) (made : Generators) (topology : Topology) (old new : ℕ) (over : Option Overflow) → topology ≡ p.topology → IsMappedSystem f to p.gens made → IsConversion (gens_work topology made) old new over → IsMappedConversion f to p old new over
mapped_conversion f to p made topology old new over same m h = record { system = made; mapped = m; conversion = subst (λ (t : Topology). IsConversion (gens_work t made) old new over) same h }

pub mapped_clause : (f : List ℤ → List ℤ) (to : ℕ) (p : Polyhedron) (old new : ℕ) (r : Result Polyhedron ConvErr) → ConvertsMapped f to p old new r → IfErr r (IsOverflowIn (LeavesOnMapped f to p))
mapped_clause f to p old new (Ok q) h = tt
mapped_clause f to p old new (Err (conversion.Overflow over)) (inl h) = absurd (let never : Some over ≡ None = h.1 in cc)
mapped_clause f to p old new (Err (conversion.Overflow over)) (inr h) = record {
  system = h.system;
  mapped = h.mapped;
  leaves = subst (λ (n : ℕ). LeavesOn (list_width p.topology n) n (generators_of p.topology h.system) over) h.mapped.same_dim h.conversion.overflow;
}
mapped_clause f to p old new (Err conversion.Memory) h = tt

pub mapped_overflow : (f : List ℤ → List ℤ) (to : ℕ) (p : Polyhedron) (made : Generators) (topology : Topology) (old new : ℕ) (r : Result Polyhedron ConvErr) → topology ≡ p.topology → IsMappedSystem f to p.gens made → Converts (gens_work topology made) old new r → IfErr r (IsOverflowIn (LeavesOnMapped f to p))
mapped_overflow f to p made topology old new r same m h = mapped_clause f to p old new r (inr (mapped_conversion f to p made topology old new (overflow_in conv_overflow r) same m h))

-- ---- more variables, all 0
module _ (p : Polyhedron) (count : ℕ) where
  same_cell : (l r x y : ℤ) → pos 0 <ℤ l → l *ℤ x ≡ r *ℤ y → y ≡ pos 0 → x ≡ pos 0
  same_cell l r x y h e f = zero_of_mul l x h (e ∙ ap (λ (z : ℤ). r *ℤ z) f ∙ mul-zero r)

  padded_of : (v : List ℤ) → HasSource (with_zeros p.cons.dim count) p.cons v → IsPadded p.cons.dim (p.cons.dim + count) p v
  padded_of v s = record {
    zero = λ j g h. same_cell s.same.left s.same.right (cell v j) (cell (with_zeros p.cons.dim count s.source) j) s.same.left_positive (columns j) (cell-within p.cons.dim count s.source j (omega (arith, s.within.point.wide)) g h);
    within = In-same_point p.cons s.source (without p.cons.dim (p.cons.dim + count) v) back s.within.holds;
  }
    where
      columns : (j : ℕ) → s.same.left *ℤ cell v j ≡ s.same.right *ℤ cell (with_zeros p.cons.dim count s.source) j
      columns j = sym (cell-scale s.same.left v j) ∙ ap (λ (w : List ℤ). cell w j) s.same.same ∙ cell-scale s.same.right (with_zeros p.cons.dim count s.source) j

      back : IsSamePoint s.source (without p.cons.dim (p.cons.dim + count) v)
      back = record {
        left = s.same.right;
        right = s.same.left;
        left_positive = s.same.right_positive;
        right_positive = s.same.left_positive;
        same =
            ap (scale s.same.right) (sym (without-with_zeros p.cons.dim count s.source (omega (arith, s.within.point.wide))))
            ∙ sym (without-scale p.cons.dim (p.cons.dim + count) s.same.right (with_zeros p.cons.dim count s.source) (omega arith))
            ∙ ap (without p.cons.dim (p.cons.dim + count)) (sym s.same.same)
            ∙ without-scale p.cons.dim (p.cons.dim + count) s.same.left v (omega arith);
      }

  of_padded : (v : List ℤ) → IsPoint (p.cons.dim + count) v → IsPadded p.cons.dim (p.cons.dim + count) p v → HasSource (with_zeros p.cons.dim count) p.cons v
  of_padded v pt z = record {
    source = without p.cons.dim (p.cons.dim + count) v;
    within = record { point = record { wide = wide; positive = subst (λ (x : ℤ). pos 0 <ℤ x) last pt.positive }; holds = z.within };
    same = record { left = pos 1; right = pos 1; left_positive = omega (arith, ints); right_positive = omega (arith, ints); same = ap (scale (pos 1)) (sym again) };
  }
    where
      again : with_zeros p.cons.dim count (without p.cons.dim (p.cons.dim + count) v) ≡ v
      again = restored p.cons.dim count v (omega (arith, pt.wide)) z.zero

      wide : length (without p.cons.dim (p.cons.dim + count) v) ≡ p.cons.dim + 1
      wide = let e = length-without p.cons.dim count v (omega (arith, pt.wide)) in omega (arith, e, pt.wide)

      last : cell v (p.cons.dim + count) ≡ cell (without p.cons.dim (p.cons.dim + count) v) p.cons.dim
      last = ap (λ (w : List ℤ). cell w (p.cons.dim + count)) (sym again) ∙ cell-behind p.cons.dim count (without p.cons.dim (p.cons.dim + count) v) p.cons.dim (omega (arith, wide)) (omega arith)

  pub projection_points : (q : Polyhedron) → IsImage (with_zeros p.cons.dim count) (p.cons.dim + count) p q → IsProjection count p q
  projection_points q i = record {
    over = i.over;
    points = λ v pt. (
      (λ h. padded_of v ((i.points v pt).0 h)),
      (λ z. (i.points v pt).1 (of_padded v pt z)),
    );
  }

-- ---- systems of a polyhedron
-- the mapped system of the generators that a polyhedron lends
pub lent_generators : (F : ℕ → List ℤ → List ℤ) (T : ℕ → ℕ) (p : Polyhedron) (gs new : Generators) → gs ≡ p.gens → IsKept p → IsMappedSystem (F gs.dim) (T gs.dim) gs new → IsMappedSystem (F p.cons.dim) (T p.cons.dim) p.gens new
lent_generators F T p gs new e k m = subst (λ (n : ℕ). IsMappedSystem (F n) (T n) p.gens new) (kept_dim p k) (subst (λ (hs : Generators). IsMappedSystem (F hs.dim) (T hs.dim) hs new) e m)
