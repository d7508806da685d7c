-- What the turns of a hybrid system make is closed.
use Rattle.std.proofs.Common.{◌≡◌, ◌⊎◌, inl, inr, ℕ, sym, ◌∙◌, subst}
use Rattle.poly_pair.specs.Polyhedra.{Polyhedron, IsKept, HasNoPoint}
use Rattle.poly_pair.specs.ClosedPolyhedra.{IsClosedOver}
use Rattle.affine_maps.specs.Posts.{IsPost}
use Rattle.hybrid.specs.Steps.{IsPartIn, IsFlown, IsTimePost, IsJumpPost}

pub part_closed : (d : ℕ) (p q part : Polyhedron) → IsClosedOver d p → IsPartIn p q part → IsClosedOver d part
part_closed d p q part c h = record { kept = h.kept; over = record { same_topology = h.is_meet.over.same_topology ∙ c.over.same_topology; same_dim = h.is_meet.over.same_dim ∙ c.over.same_dim } }

pub post_closed : (d : ℕ) (p relation post : Polyhedron) → IsClosedOver d p → IsKept post → IsPost p relation post → IsClosedOver d post
post_closed d p relation post c k h = record { kept = k; over = record { same_topology = h.over.same_topology; same_dim = h.over.same_dim ∙ c.over.same_dim } }

pub time_closed : (d : ℕ) (set inv flow post : Polyhedron) → IsClosedOver d set → IsClosedOver d inv → IsTimePost set inv flow post → IsClosedOver d post
time_closed d set inv flow post c i h = by h.after
  where
    by : (HasNoPoint flow × (post ≡ h.start)) ⊎ (¬ (HasNoPoint flow) × IsFlown h.start inv flow post) → IsClosedOver d post
    by (inl (n, e)) = subst (IsClosedOver d) (sym e) (part_closed d set inv h.start c h.is_start)
    by (inr (s, f)) = part_closed d inv f.elapsed post i f.is_part

pub jump_closed : (d : ℕ) (set inv relation target_inv post : Polyhedron) → IsClosedOver d target_inv → IsJumpPost set inv relation target_inv post → IsClosedOver d post
jump_closed d set inv relation target_inv post i h = part_closed d target_inv h.successors post i h.is_part
