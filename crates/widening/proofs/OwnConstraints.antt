-- A closed polyhedron has each point at which all constraints hold that are valid on it.
use Rattle.std.proofs.Common.{◌≡◌, ℕ, zero, suc, ◌+◌, ◌<◌, List, [], length, ℤ, inl, inr, refl, sym, subst, All, slice_index_or, arith}
use Rattle.std.proofs.lemmas.List.Elements.{All-nil, All-cons}
use Rattle.row_core.specs.Points.{IsPoint}
use Rattle.cons_sys.specs.declared.kind.ConKind.TheVariants.{Ge}
use Rattle.cons_sys.specs.Constraints.{Constraint, Constraints, In, Satisfies}
use Rattle.gens_sys.specs.Generators.{Generators}
use Rattle.stored_systems.specs.PointSets.{AreWide}
use Rattle.stored_systems.specs.StoredForms.{false_row, IsStored}
use Rattle.stored_systems.proofs.StoredPair.{pair_wide}
use Rattle.stored_systems.proofs.Stored.{with_lists}
use Rattle.poly_pair.specs.declared.topology.Topology.{Topology}
use Rattle.poly_pair.specs.declared.topology.Topology.TheVariants.{Closed, Nnc}
use Rattle.poly_pair.specs.TopologyLists.{AreConstraintsFor}
use Rattle.poly_pair.specs.TopologyConstraints.{IsKindFor, IsConstraintFor}
use Rattle.poly_pair.specs.Polyhedra.{Polyhedron}
use Rattle.poly_pair.specs.ClosedPolyhedra.{IsClosedOver}
use Rattle.poly_pair.proofs.StoredLemmas.{kept_constraints}
use Rattle.widening.proofs.OneRun.{closed_stored}

false_wide : (n : ℕ) → length (false_row n) ≡ n + 1
false_wide zero = refl
false_wide (suc n) = omega (arith, false_wide n)

stored_wide : (cs : Constraints) (gs : Generators) → IsStored cs gs → AreWide cs
stored_wide cs gs (inl e) = subst (λ (xs : List Constraint). All (λ c. length c.0 ≡ cs.dim + 1) xs) (sym e.cons) (All-cons (λ (c : Constraint). length c.0 ≡ cs.dim + 1) (false_row cs.dim, Ge) [] (false_wide cs.dim) (All-nil (λ (c : Constraint). length c.0 ≡ cs.dim + 1)))
stored_wide cs gs (inr f) = with_lists (λ c g. AreWide c) cs gs f (pair_wide cs.dim f.lines f.rays f.equalities f.inequalities f.systems)

kind_of : (t : Topology) (cs : Constraints) → AreConstraintsFor t cs → (i : ℕ) (e : Constraint) → i < length cs.list → IsKindFor t (slice_index_or cs.list i e).1
kind_of Closed cs all i e h = all i e h
kind_of Nnc cs all i e h = tt

own_constraint : (d : ℕ) (p : Polyhedron) → IsClosedOver d p → (i : ℕ) (e : Constraint) → i < length p.cons.list → IsConstraintFor p.topology p.cons.dim (slice_index_or p.cons.list i e)
own_constraint d p c i e h = record {
  wide = stored_wide p.cons p.gens (closed_stored p.topology p.cons p.gens c.over.same_topology c.kept.stored) i e h;
  kind = kind_of p.topology p.cons (kept_constraints p c.kept) i e h;
}

pub within_own : (d : ℕ) (p : Polyhedron) → IsClosedOver d p → (v : List ℤ) → ((c : Constraint) → IsConstraintFor p.topology p.cons.dim c → ((w : List ℤ) → IsPoint p.cons.dim w → In p.cons w → Satisfies w c) → Satisfies v c) → In p.cons v
within_own d p c v all i e h = all (slice_index_or p.cons.list i e) (own_constraint d p c i e h) (λ w pt inside. inside i e h)
