use Rattle.std.specs.Prelude.{◌≡◌, ◌⊎◌, ℕ, ◌+◌, List, length}
use Rattle.std.specs.List.{range_with_len}
use Rattle.row_core.specs.declared.errors.Overflow.{Overflow}
use Rattle.stored_systems.specs.WorkLists.{LeavesOn}
use Rattle.poly_pair.specs.TopologyLists.{list_width, generators_of}
use Rattle.poly_pair.specs.Polyhedra.{Polyhedron, IsKept, HasNoPoint}
use Rattle.lattice_ops.specs.Sets.{IsMeet, meet_list, both_generators}
use Rattle.mapped_systems.specs.Maps.{with_zeros, without, remaining, kept_variables}
use Rattle.dimensions.specs.Results.{IsPreimage}
use Rattle.dimensions.specs.Refusals.{LeavesOnPulled, LeavesOnMapped}
use Rattle.elapse.specs.Elapses.{IsElapse, LeavesOnElapse}
use Rattle.affine_maps.specs.Posts.{IsPost}
use Rattle.affine_maps.specs.PostLists.{LeavesOnSteps}

-- the polyhedron of the points that are in both
pub record IsPartIn (p q part : Polyhedron) : Type 0 where
  pub is_meet : IsMeet p q part
  pub kept : IsKept part

-- ---- time
-- the states of the invariant that states of the set come to as time passes
pub record IsFlown (start inv flow flown : Polyhedron) : Type 0 where
  pub elapsed : Polyhedron
  pub is_elapse : IsElapse start flow elapsed
  pub elapsed_kept : IsKept elapsed
  pub is_part : IsPartIn inv elapsed flown

-- the states that those of the set in the invariant come to inside the invariant as time passes;
-- where the flow is empty no time passes
pub record IsTimePost (set inv flow post : Polyhedron) : Type 0 where
  pub start : Polyhedron
  pub is_start : IsPartIn set inv start
  pub after : (HasNoPoint flow × (post ≡ start))
      ⊎ (¬ (HasNoPoint flow) × IsFlown start inv flow post)

-- ---- jumps
-- the successors, in the target's invariant, of the states of the set in the source's
pub record IsJumpPost (set inv relation target_inv post : Polyhedron) : Type 0 where
  pub start : Polyhedron
  pub is_start : IsPartIn set inv start
  pub successors : Polyhedron
  pub is_post : IsPost start relation successors
  pub successors_kept : IsKept successors
  pub is_part : IsPartIn target_inv successors post

-- ---- overflows
-- the conversion of the constraint list of both, or of its second list, leaves the range
abbrev pub LeavesOnMeet : Polyhedron → Polyhedron → Overflow → Type 0
LeavesOnMeet p q over = LeavesOn (list_width p.topology p.cons.dim) p.cons.dim (meet_list p q) over

-- that of the generator list of both
abbrev pub LeavesOnHull : Polyhedron → Polyhedron → Overflow → Type 0
LeavesOnHull p q over = LeavesOn (list_width p.topology p.cons.dim) p.cons.dim
    (generators_of p.topology (both_generators p q)) over

-- those of the time elapse and of the meet with the invariant
pub record LeavesOnReturn (start inv flow : Polyhedron) (over : Overflow) : Type 0 where
  pub elapsed : Polyhedron
  pub is_elapse : IsElapse start flow elapsed
  pub elapsed_kept : IsKept elapsed
  pub leaves : LeavesOnMeet inv elapsed over

abbrev pub LeavesOnFlow : Polyhedron → Polyhedron → Polyhedron → Overflow → Type 0
LeavesOnFlow start inv flow over = LeavesOnElapse start flow over
    ⊎ LeavesOnReturn start inv flow over

pub record LeavesAfterStart (set inv flow : Polyhedron) (over : Overflow) : Type 0 where
  pub some : ¬ (HasNoPoint flow)
  pub start : Polyhedron
  pub is_start : IsPartIn set inv start
  pub leaves : LeavesOnFlow start inv flow over

-- as time passes
abbrev pub LeavesOnTime : Polyhedron → Polyhedron → Polyhedron → Overflow → Type 0
LeavesOnTime set inv flow over = LeavesOnMeet set inv over ⊎ LeavesAfterStart set inv flow over

-- the set with as many free variables behind its own
abbrev pub IsEmbedded : Polyhedron → Polyhedron → Type 0
IsEmbedded set embedded = IsPreimage
    (without set.cons.dim (set.cons.dim + set.cons.dim)) (set.cons.dim + set.cons.dim) set embedded

-- the columns of the first n of n + n variables are left out
abbrev pub behind : ℕ → List ℕ
behind n = range_with_len 0 n

pub record LeavesOnEmbeddedPairs (set relation : Polyhedron) (over : Overflow) : Type 0 where
  pub embedded : Polyhedron
  pub is_embedded : IsEmbedded set embedded
  pub embedded_kept : IsKept embedded
  pub leaves : LeavesOnMeet embedded relation over

pub record LeavesOnTargets (set relation : Polyhedron) (over : Overflow) : Type 0 where
  pub embedded : Polyhedron
  pub is_embedded : IsEmbedded set embedded
  pub embedded_kept : IsKept embedded
  pub pairs : Polyhedron
  pub are_pairs : IsPartIn embedded relation pairs
  pub leaves : LeavesOnMapped (remaining pairs.cons.dim (behind set.cons.dim))
      (length (kept_variables pairs.cons.dim (behind set.cons.dim))) pairs over

-- those of the set with free variables, of the meet with the relation and of leaving the
-- first variables out
abbrev pub LeavesOnEmbedding : Polyhedron → Polyhedron → Overflow → Type 0
LeavesOnEmbedding set relation over =
    LeavesOnPulled (with_zeros set.cons.dim set.cons.dim) (set.cons.dim + set.cons.dim) set over
    ⊎ LeavesOnEmbeddedPairs set relation over ⊎ LeavesOnTargets set relation over

-- the conversion of the list of the relation's constraints and then the set's leaves the range, and
-- then one of these does, which is shown
pub record LeavesOnEmbeddedPost (set relation : Polyhedron) (over : Overflow) : Type 0 where
  pub first : Overflow
  pub by_steps : LeavesOnSteps set relation first
  pub by_embedding : LeavesOnEmbedding set relation over

pub record LeavesOnStep (set inv relation : Polyhedron) (over : Overflow) : Type 0 where
  pub start : Polyhedron
  pub is_start : IsPartIn set inv start
  pub leaves : LeavesOnEmbeddedPost start relation over

pub record LeavesOnArrival (set inv relation target_inv : Polyhedron)
    (over : Overflow) : Type 0 where
  pub start : Polyhedron
  pub is_start : IsPartIn set inv start
  pub successors : Polyhedron
  pub is_post : IsPost start relation successors
  pub successors_kept : IsKept successors
  pub leaves : LeavesOnMeet target_inv successors over

-- at a jump
abbrev pub LeavesOnJump : Polyhedron → Polyhedron → Polyhedron → Polyhedron → Overflow → Type 0
LeavesOnJump set inv relation target_inv over = LeavesOnMeet set inv over
    ⊎ LeavesOnStep set inv relation over ⊎ LeavesOnArrival set inv relation target_inv over
