-- The points of a polyhedron are those that its generators span.
use Rattle.std.specs.Prelude.{ℕ, List, ℤ, ◌↔◌}
use Rattle.std.proofs.Common.{sym, subst, inl, inr}
use Rattle.row_core.specs.Points.{IsPoint}
use Rattle.stored_systems.specs.PointSets.{IsWithin}
use Rattle.stored_systems.proofs.Stored.{pair_point}
use Rattle.poly_pair.specs.declared.topology.Topology.{Topology}
use Rattle.poly_pair.specs.declared.topology.Topology.TheVariants.{Closed, Nnc}
use Rattle.poly_pair.specs.Polyhedra.{Polyhedron, IsKept, IsStoredAs}
use Rattle.poly_pair.proofs.StoredLemmas.{kept_is_pair, kept_dim}
use Rattle.set_laws.specs.Asking.{IsProper, IsMember}
use Rattle.set_laws.proofs.GeneratorLaws.{spans_law}

pub members : (p : Polyhedron) → IsKept p → (v : List ℤ) → IsMember p.gens v ↔ IsWithin p.cons v
members p k v = (
  (λ m. let point = subst (λ (n : ℕ). IsPoint n v) (kept_dim p k) m.point in record { point = point; holds = (kept_is_pair p k v point).1 m.spanned }),
  (λ w. record { point = subst (λ (n : ℕ). IsPoint n v) (sym (kept_dim p k)) w.point; spanned = (kept_is_pair p k v w.point).0 w.holds }),
)

-- a stored list of generators is empty or has a point
pub proper : (p : Polyhedron) → IsKept p → IsProper p.gens
proper p k = by p.topology k.stored
  where
    from_point : {v : List ℤ} → IsWithin p.cons v → IsProper p.gens
    from_point {v} w = spans_law p.gens v ((kept_is_pair p k v w.point).0 w.holds)

    by : (t : Topology) → IsStoredAs t p.cons p.gens → IsProper p.gens
    by Closed (inl e) = inl e.gens
    by Closed (inr f) = from_point (pair_point p.cons p.gens f)
    by Nnc (inl e) = inl e.gens
    by Nnc (inr f) = from_point f.within
