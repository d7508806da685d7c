-- What the generators of the one set and the directions of the other generate is the time elapse.
use Rattle.std.proofs.Common.{◌≡◌, ℕ, ◌<◌, List, ◌++◌, length, slice_index_or, ℤ, sym, ◌∙◌, subst, All}
use Rattle.std.specs.Prelude.{◌↔◌}
use Rattle.std.proofs.lemmas.List.Elements.{All-append}
use Rattle.stored_systems.proofs.ListLemmas.{All-left, All-right}
use Rattle.row_core.specs.Points.{IsPoint}
use Rattle.cons_sys.specs.Kinds.{Allows}
use Rattle.cons_sys.specs.Constraints.{Constraint, Constraints, FitDimension, In, Satisfies}
use Rattle.gens_sys.specs.Generators.{Generator, Generators, FitDimension as FitGenerators}
use Rattle.gens_sys.specs.Spans.{Span}
use Rattle.stored_systems.specs.PointSets.{IsWithin}
use Rattle.poly_pair.specs.declared.topology.Topology.{Topology}
use Rattle.poly_pair.specs.declared.topology.Topology.TheVariants.{Closed, Nnc}
use Rattle.poly_pair.specs.TopologyLists.{AreConstraintsFor}
use Rattle.set_laws.specs.Asking.{IsProper, MeetsOn}
use Rattle.set_laws.proofs.GeneratorLaws.{true_on_law}
use Rattle.poly_pair.specs.TopologyConstraints.{IsKindFor, IsConstraintFor}
use Rattle.elapse.specs.Directions.{AreDirections}
use Rattle.elapse.specs.ElapsedPoints.{IsTrueElapsed, IsInElapse}
use Rattle.elapse.specs.Elapses.{followed}
use Rattle.elapse.proofs.Levelled.{dot_levelled}
use Rattle.elapse.proofs.DirectionValues.{level_kind, level_constraint, directions_meet, directions_met}
use Rattle.elapse.proofs.MovedValues.{moved_satisfies}
use Rattle.elapse.proofs.ElapseLaws.{velocity_point, start_elapsed, level_of_elapsed}

-- both systems of a set, its generators as they may be
pub record AreSystems (dim : ℕ) (cs : Constraints) (gs : Generators) : Type 0 where
  pub same_dim : cs.dim ≡ dim
  pub gens_dim : gs.dim ≡ dim
  pub fit : FitGenerators gs
  pub proper : IsProper gs
  pub pair : (v : List ℤ) → IsPoint dim v → In cs v ↔ Span gs v

-- a constraint that holds at the points has what it asks on each generator, and the other way round
module _ (dim : ℕ) (cs : Constraints) (gs : Generators) (s : AreSystems dim cs gs) (c : Constraint) where
  pub on_generators : ((v : List ℤ) → IsPoint dim v → In cs v → Satisfies v c) → All (MeetsOn c) gs.list
  on_generators h = (true_on_law gs c s.fit s.proper).0 (λ v m. h v (subst (λ n. IsPoint n v) s.gens_dim m.point) ((s.pair v (subst (λ n. IsPoint n v) s.gens_dim m.point)).1 m.spanned))

  pub on_points : All (MeetsOn c) gs.list → (v : List ℤ) → IsPoint dim v → In cs v → Satisfies v c
  on_points h v p w = (true_on_law gs c s.fit s.proper).1 h v (record { point = subst (λ n. IsPoint n v) (sym s.gens_dim) p; spanned = (s.pair v p).0 w })

-- the constraints of a system of the topology
constraint_for : (topology : Topology) (cs : Constraints) → FitDimension cs → AreConstraintsFor topology cs → (i : ℕ) (d : Constraint) → i < length cs.list → IsConstraintFor topology cs.dim (slice_index_or cs.list i d)
constraint_for topology cs fit kinds i d h = record { wide = (fit.each i d h).wide; kind = kind_for topology kinds }
  where
    kind_for : (topology : Topology) → AreConstraintsFor topology cs → IsKindFor topology (slice_index_or cs.list i d).1
    kind_for Closed k = k i d h
    kind_for Nnc k = tt

module _ (dim : ℕ) (cs ds rs : Constraints) (gs hs : Generators) (new : List Generator) (p : AreSystems dim cs gs) (q : AreSystems dim ds hs) (are : AreDirections gs.dim hs.list new) (r : AreSystems dim rs (followed gs new)) (start velocity : List ℤ) (start_within : IsWithin cs start) (velocity_within : IsWithin ds velocity) where
  same : ds.dim ≡ cs.dim
  same = q.same_dim ∙ sym p.same_dim

  directions : AreDirections cs.dim hs.list new
  directions = subst (λ n. AreDirections n hs.list new) (p.gens_dim ∙ sym p.same_dim) are

  within : (ts : Constraints) → ts.dim ≡ dim → (v : List ℤ) → IsPoint dim v → In ts v → IsWithin ts v
  within ts e v point holds = record { point = subst (λ n. IsPoint n v) (sym e) point; holds = holds }

  -- a constraint that holds at all elapsed points holds on the result
  elapsed_on_result : (c : Constraint) → IsTrueElapsed cs ds c → (v : List ℤ) → IsPoint dim v → In rs v → Satisfies v c
  elapsed_on_result c t =
      on_points dim rs (followed gs new) r c
      (All-append (MeetsOn c) gs.list new
      (on_generators dim cs gs p c (λ v point holds. t v (start_elapsed cs ds same v velocity (within cs p.same_dim v point holds) velocity_within)))
      (directions_meet cs.dim c hs.list new directions
      (on_generators dim ds hs q (level_constraint cs.dim c) (λ v point holds.
      subst (Allows (level_kind c.1)) (sym (dot_levelled cs.dim c.0 v)) (level_of_elapsed cs ds same start v start_within (within ds q.same_dim v point holds) c t)))))

  -- a constraint that holds on the result holds at all elapsed points
  result_on_elapsed : (c : Constraint) → ((v : List ℤ) → IsPoint dim v → In rs v → Satisfies v c) → IsTrueElapsed cs ds c
  result_on_elapsed c h v e =
      moved_satisfies cs.dim e.start e.velocity e.start_within.point (velocity_point cs ds same e.velocity e.velocity_within) v e.moved c
      (on_points dim cs gs p c (All-left (MeetsOn c) gs.list new met) e.start (subst (λ n. IsPoint n e.start) p.same_dim e.start_within.point) e.start_within.holds)
      (subst (Allows (level_kind c.1)) (dot_levelled cs.dim c.0 e.velocity)
      (on_points dim ds hs q (level_constraint cs.dim c) (directions_met cs.dim c hs.list new directions (All-right (MeetsOn c) gs.list new met)) e.velocity (subst (λ n. IsPoint n e.velocity) q.same_dim e.velocity_within.point) e.velocity_within.holds))
    where
      met : All (MeetsOn c) (gs.list ++ new)
      met = on_generators dim rs (followed gs new) r c h

  pub elapse_points : (topology : Topology) → FitDimension rs → AreConstraintsFor topology rs → (v : List ℤ) → IsPoint cs.dim v → In rs v ↔ IsInElapse topology cs ds v
  elapse_points topology fit kinds v point = (
    (λ holds c f t. elapsed_on_result c t v (subst (λ n. IsPoint n v) p.same_dim point) holds),
    (λ inside i d h. inside (slice_index_or rs.list i d) (subst (λ n. IsConstraintFor topology n (slice_index_or rs.list i d)) (r.same_dim ∙ sym p.same_dim) (constraint_for topology rs fit kinds i d h))
        (result_on_elapsed (slice_index_or rs.list i d) (λ u u_point holds. holds i d h))),
  )
