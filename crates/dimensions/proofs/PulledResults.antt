-- Polyhedra of constraints whose rows are mapped.
use Rattle.std.proofs.Common.{◌≡◌, ℕ, ◌+◌, List, ◌++◌, drop, slice_index_or, ℤ, Some, None, Result, Ok, Err, inl, inr, sym, ap, ◌∙◌, subst, arith, All}
use Rattle.std.proofs.lemmas.List.Elements.{All-append}
use Rattle.row_core.specs.Vectors.{dot}
use Rattle.row_core.specs.Points.{IsPoint}
use Rattle.cons_sys.specs.Constraints.{Constraint, Constraints, In, Satisfies}
use Rattle.stored_systems.specs.PointSets.{IsClosedKind}
use Rattle.stored_systems.proofs.ListLemmas.{All-left, All-right}
use Rattle.poly_pair.specs.declared.topology.Topology.{Topology}
use Rattle.poly_pair.specs.declared.topology.Topology.TheVariants.{Closed, Nnc}
use Rattle.poly_pair.specs.TopologyLists.{AreConstraintsFor, list_width, constraints_of}
use Rattle.poly_pair.specs.Polyhedra.{Polyhedron, IsKept, IsOfConstraints}
use Rattle.poly_pair.proofs.StoredLemmas.{kept_constraints}
use Rattle.mapped_systems.specs.Maps.{with_zeros, without}
use Rattle.mapped_systems.specs.MappedLists.{ArePulled, IsPulledSystem, IsJoinedSystem}
use Rattle.mapped_systems.proofs.ColumnLemmas.{dot-with_zeros}
use Rattle.mapped_systems.proofs.PulledSets.{MeetsAt, pulled_holds, holds_pulled, closed_kinds, padded_meets}
use Rattle.std.specs.Prelude.{IfErr}
use Rattle.row_core.specs.declared.errors.ConvErr.{ConvErr}
use Rattle.row_core.specs.declared.errors.ConvErr.TheVariants as conversion
use Rattle.row_core.specs.Refusals.{IsOverflowIn}
use Rattle.stored_systems.specs.WorkLists.{LeavesOn}
use Rattle.dimensions.specs.Refusals.{LeavesOnJoined, ConvertsJoined}
use Rattle.dimensions.specs.Results.{IsPreimage, IsOfBoth, IsProduct}

-- ---- kinds
abbrev IsClosed : Constraint → Type 0
IsClosed c = IsClosedKind c.1

pulled_kinds_for : (f : List ℤ → List ℤ) (topology : Topology) (old new : Constraints) → ArePulled f old.list new.list → AreConstraintsFor topology old → AreConstraintsFor topology new
pulled_kinds_for f Closed old new a h = closed_kinds f old.list new.list a h
pulled_kinds_for f Nnc old new a h = tt

pub pulled_kinds : (f : List ℤ → List ℤ) (topology : Topology) (to : ℕ) (p : Polyhedron) (new : Constraints) → topology ≡ p.topology → IsKept p → IsPulledSystem f to p.cons new → AreConstraintsFor topology new
pulled_kinds f topology to p new e k m = subst (λ (t : Topology). AreConstraintsFor t new) (sym e) (pulled_kinds_for f p.topology p.cons new m.pulled (kept_constraints p k))

joined_for : (topology : Topology) (first second new : Constraints) → IsJoinedSystem first second new → AreConstraintsFor topology first → AreConstraintsFor topology second → AreConstraintsFor topology new
joined_for Closed first second new j h g = subst (All IsClosed) (sym j.joined) (All-append IsClosed j.front j.back (closed_kinds (with_zeros first.dim second.dim) first.list j.front j.front_pulled h) (closed_kinds (with_zeros 0 first.dim) second.list j.back j.back_pulled g))
joined_for Nnc first second new j h g = tt

pub joined_kinds : (topology : Topology) (p q : Polyhedron) (new : Constraints) → topology ≡ p.topology → p.topology ≡ q.topology → IsKept p → IsKept q → IsJoinedSystem p.cons q.cons new → AreConstraintsFor topology new
joined_kinds topology p q new e f k l j = subst (λ (t : Topology). AreConstraintsFor t new) (sym e) (joined_for p.topology p.cons q.cons new j (kept_constraints p k) (subst (λ (t : Topology). AreConstraintsFor t q.cons) (sym f) (kept_constraints q l)))

-- ---- the preimage
pub preimage_points : (f g : List ℤ → List ℤ) (to : ℕ) (p : Polyhedron) (new : Constraints) (topology : Topology) → topology ≡ p.topology → IsPulledSystem f to p.cons new → ((v : List ℤ) → IsPoint to v → All (MeetsAt f g v) p.cons.list) → (q : Polyhedron) → IsOfConstraints topology new q → IsPreimage g to p q
preimage_points f g to p new topology same m meets q o = record {
  over = record { same_topology = o.over.same_topology ∙ same; same_dim = o.over.same_dim ∙ m.same_dim };
  points = λ v pt. (
    (λ h. pulled_holds f g v p.cons.list new.list m.pulled (meets v pt) ((o.points v (at_dim v pt)).1 h)),
    (λ h. (o.points v (at_dim v pt)).0 (holds_pulled f g v p.cons.list new.list m.pulled (meets v pt) h)),
  );
}
  where
    at_dim : (v : List ℤ) → IsPoint to v → IsPoint new.dim v
    at_dim v pt = subst (λ (n : ℕ). IsPoint n v) (sym m.same_dim) pt

-- ---- the product
module _ (p q : Polyhedron) (new : Constraints) (topology : Topology) (same : topology ≡ p.topology) (j : IsJoinedSystem p.cons q.cons new) where
  zero_sum : (n : ℕ) → 0 + n ≡ n
  zero_sum n = omega arith

  back_meets : (v : List ℤ) → All (MeetsAt (with_zeros 0 p.cons.dim) (drop p.cons.dim) v) q.cons.list
  back_meets v i d h = dot-with_zeros 0 p.cons.dim (slice_index_or q.cons.list i d).0 v ∙ ap (λ (n : ℕ). dot (slice_index_or q.cons.list i d).0 (drop n v)) (zero_sum p.cons.dim)

  both_hold : (v : List ℤ) → In new v → IsOfBoth p q v
  both_hold v h =
      let all : All (Satisfies v) (j.front ++ j.back) = subst (All (Satisfies v)) j.joined h in
      record {
        front = pulled_holds (with_zeros p.cons.dim q.cons.dim) (without p.cons.dim (p.cons.dim + q.cons.dim)) v p.cons.list j.front j.front_pulled (padded_meets p.cons.dim q.cons.dim p.cons.list v) (All-left (Satisfies v) j.front j.back all);
        back = pulled_holds (with_zeros 0 p.cons.dim) (drop p.cons.dim) v q.cons.list j.back j.back_pulled (back_meets v) (All-right (Satisfies v) j.front j.back all);
      }

  hold_both : (v : List ℤ) → IsOfBoth p q v → In new v
  hold_both v b = subst (All (Satisfies v)) (sym j.joined) (All-append (Satisfies v) j.front j.back
      (holds_pulled (with_zeros p.cons.dim q.cons.dim) (without p.cons.dim (p.cons.dim + q.cons.dim)) v p.cons.list j.front j.front_pulled (padded_meets p.cons.dim q.cons.dim p.cons.list v) b.front)
      (holds_pulled (with_zeros 0 p.cons.dim) (drop p.cons.dim) v q.cons.list j.back j.back_pulled (back_meets v) b.back))

  pub product_points : (r : Polyhedron) → IsOfConstraints topology new r → IsProduct p q r
  product_points r o = record {
    over = record { same_topology = o.over.same_topology ∙ same; same_dim = o.over.same_dim ∙ j.same_dim };
    points = λ v pt. (
      (λ h. both_hold v ((o.points v (at_dim v pt)).1 h)),
      (λ b. (o.points v (at_dim v pt)).0 (hold_both v b)),
    );
  }
    where
      at_dim : (v : List ℤ) → IsPoint (p.cons.dim + q.cons.dim) v → IsPoint new.dim v
      at_dim v pt = subst (λ (n : ℕ). IsPoint n v) (sym j.same_dim) pt

-- ---- conversions
pub joined_clause : (p q : Polyhedron) (old new : ℕ) (r : Result Polyhedron ConvErr) → ConvertsJoined p q old new r → IfErr r (IsOverflowIn (LeavesOnJoined p q))
joined_clause p q old new (Ok made) h = tt
joined_clause p q old new (Err (conversion.Overflow over)) (inl h) = absurd (let never : Some over ≡ None = h.1 in cc)
joined_clause p q old new (Err (conversion.Overflow over)) (inr h) = record {
  system = h.system;
  joined = h.joined;
  leaves = subst (λ (n : ℕ). LeavesOn (list_width p.topology n) n (constraints_of p.topology h.system) over) h.joined.same_dim h.conversion.overflow;
}
joined_clause p q old new (Err conversion.Memory) h = tt
