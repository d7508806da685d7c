-- The hull of a set and a post.
use Rattle.std.proofs.Common.{◌⊎◌, inr, ℕ, List, Option, Some, None, ℤ, refl, sym, ◌∙◌, subst}
use Rattle.row_core.specs.Points.{IsPoint}
use Rattle.row_core.specs.declared.errors.Overflow.{Overflow}
use Rattle.row_core.specs.declared.errors.ConvErr.{ConvErr}
use Rattle.row_core.specs.declared.errors.ConvErr.TheVariants as conversion
use Rattle.cons_sys.specs.Constraints.{Constraint, In, Satisfies}
use Rattle.poly_pair.specs.Polyhedra.{Polyhedron, IsIncluded}
use Rattle.poly_pair.specs.ClosedPolyhedra.{IsClosedOver}
use Rattle.poly_pair.specs.TopologyLists.{list_width, generators_of}
use Rattle.poly_pair.specs.Refusals.{IsOverflowOn}
use Rattle.lattice_ops.specs.Sets.{IsValidOn, both_generators}
use Rattle.lattice_ops.specs.Growing.{IsGrown}
use Rattle.row_core.specs.Refusals.{IsOverflowIn}
use Rattle.widening.specs.RunLaws.{IsAbove, IsFound}
use Rattle.widening.proofs.TurnLemmas.{enlarged}
use Rattle.widening.proofs.OwnConstraints.{within_own}
use Rattle.hybrid.specs.Turns.{IsHullWithPost, LeavesAfter}

module _ (IsMade : Polyhedron → Type 0) (d : ℕ) (old : Polyhedron) (o : IsClosedOver d old) where
  pub hull_above : (joined : Polyhedron) → IsHullWithPost IsMade old joined → IsAbove d old joined
  hull_above joined j = record {
    closed = record { kept = j.joined_kept; over = record { same_topology = j.is_hull.over.same_topology ∙ o.over.same_topology; same_dim = j.is_hull.over.same_dim ∙ o.over.same_dim } };
    includes = λ v pt h. (j.is_hull.points v pt).1 (λ c is in_old in_post. in_old v pt h);
  }

  -- the post is in the hull
  pub hull_takes : (joined : Polyhedron) → (j : IsHullWithPost IsMade old joined) → IsClosedOver d j.post → (v : List ℤ) → IsPoint d v → In j.post.cons v → In joined.cons v
  hull_takes joined j c v pt h =
      (j.is_hull.points v (subst (λ (n : ℕ). IsPoint n v) (sym o.over.same_dim) pt)).1 (λ a is in_old in_post. in_post v (subst (λ (n : ℕ). IsPoint n v) (sym c.over.same_dim) pt) h)

  -- a set that has all of the hull has the post too
  pub hull_stays : (joined set : Polyhedron) → (j : IsHullWithPost IsMade old joined) → IsClosedOver d j.post → IsClosedOver d set → IsIncluded joined set → IsHullWithPost IsMade set set
  hull_stays joined set j c s within = record {
    post = j.post;
    is_post = j.is_post;
    is_hull = record {
      over = record { same_topology = refl; same_dim = refl };
      points = λ v pt. ((λ h a is on_set on_post. on_set v pt h), (λ all. within_own d set s v (λ a is on_set. all a is on_set (λ y at h. takes a on_set y (subst (λ (n : ℕ). IsPoint n y) c.over.same_dim at) h))));
    };
    joined_kept = s.kept;
  }
    where
      takes : (a : Constraint) → IsValidOn set a → (y : List ℤ) → IsPoint d y → In j.post.cons y → Satisfies y a
      takes a on_set y at h =
          let inside : In set.cons y = within y (subst (λ (n : ℕ). IsPoint n y) (sym (hull_above joined j).closed.over.same_dim) at) (hull_takes joined j c y at h) in
          on_set y (subst (λ (n : ℕ). IsPoint n y) (sym s.over.same_dim) at) inside

  pub found_of : (post : Polyhedron) → IsMade post → (r : Option Polyhedron) → IsGrown old post r → IsFound (IsHullWithPost IsMade old) old r
  found_of post m None h = record { joined = h.hull; is_joined = record { post = post; is_post = m; is_hull = h.is_hull; joined_kept = h.kept }; same = h.same }
  found_of post m (Some hull) h = record { is_joined = j; enlarged = enlarged d old hull o (hull_above hull j) h.differs }
    where
      j : IsHullWithPost IsMade old hull
      j = record { post = post; is_post = m; is_hull = h.is_hull; joined_kept = h.kept }

-- an overflow of the hull, behind others
pub leaves_of : (IsMade : Polyhedron → Type 0) (Other : Overflow → Type 0) (old post : Polyhedron) → IsMade post → (e : ConvErr) → IsOverflowOn (list_width old.topology old.cons.dim) old.cons.dim (generators_of old.topology (both_generators old post)) e → IsOverflowIn (λ over. Other over ⊎ LeavesAfter IsMade old over) e
leaves_of IsMade Other old post m (conversion.Overflow over) l = inr (record { post = post; is_post = m; leaves = l })
leaves_of IsMade Other old post m conversion.Memory l = tt

-- what is found for one reason is found for another
pub found_as : (P Q : Polyhedron → Type 0) → ((joined : Polyhedron) → P joined → Q joined) → (old : Polyhedron) (o : Option Polyhedron) → IsFound P old o → IsFound Q old o
found_as P Q f old None h = record { joined = h.joined; is_joined = f h.joined h.is_joined; same = h.same }
found_as P Q f old (Some joined) h = record { is_joined = f joined h.is_joined; enlarged = h.enlarged }
