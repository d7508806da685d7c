-- What holds of each time elapse, by its definition.
use Rattle.std.proofs.Common.{◌≡◌, ◌⊎◌, inl, inr, ℕ, zero, suc, ◌+◌, List, [], ◌∷◌, length, ℤ, pos, ◌≤ℤ◌, ◌<ℤ◌, refl, subst, arith}
use Rattle.std.proofs.lemmas.Int.{ints}
use Rattle.std.proofs.lemmas.List.Elements.{All-nil, All-cons}
use Rattle.row_core.specs.Vectors.{dot}
use Rattle.row_core.specs.Points.{IsPoint}
use Rattle.row_core.proofs.Ring.{at_least_zero_or_not, same_or_not}
use Rattle.cons_sys.specs.Kinds.{Allows}
use Rattle.cons_sys.specs.declared.kind.ConKind.{ConKind}
use Rattle.cons_sys.specs.declared.kind.ConKind.TheVariants.{Eq, Ge, Gt}
use Rattle.cons_sys.specs.Constraints.{Constraint, Constraints, Satisfies}
use Rattle.stored_systems.specs.PointSets.{IsWithin}
use Rattle.stored_systems.specs.StoredForms.{false_row}
use Rattle.poly_pair.specs.declared.topology.Topology.{Topology}
use Rattle.poly_pair.specs.declared.topology.Topology.TheVariants.{Closed, Nnc}
use Rattle.stored_systems.proofs.Stored.{stored_is_empty}
use Rattle.poly_pair.specs.TopologyConstraints.{IsKindFor, IsConstraintFor}
use Rattle.elapse.specs.Directions.{levelled}
use Rattle.elapse.specs.ElapsedPoints.{IsElapsed, IsTrueElapsed}
use Rattle.elapse.specs.ElapseLaws.{ElapseIncludesStart, ElapseMovesOn}
use Rattle.elapse.proofs.DirectionValues.{level_kind}
use Rattle.elapse.proofs.MovedValues.{start_moved, moved_satisfies, level_of_moved}

-- ---- a constraint that never holds
kind_for : (topology : Topology) → IsKindFor topology Ge
kind_for Closed = tt
kind_for Nnc = tt

length_false : (dim : ℕ) → length (false_row dim) ≡ dim + 1
length_false zero = refl
length_false (suc dim) = let e = length_false dim in omega (arith, e)

pub false_for : (topology : Topology) (dim : ℕ) → IsConstraintFor topology dim (false_row dim, Ge)
false_for topology dim = record { wide = length_false dim; kind = kind_for topology }

pub never_satisfied : (dim : ℕ) (v : List ℤ) → IsPoint dim v → Satisfies v (false_row dim, Ge) → ⊥
never_satisfied dim v p h =
    (stored_is_empty (record { dim = dim; list = (false_row dim, Ge) ∷ [] }) (record { dim = dim; list = [] }) (inl (record { same_dim = refl; cons = refl; gens = refl }))).0 refl v
    (record { point = p; holds = All-cons (Satisfies v) (false_row dim, Ge) [] h (All-nil (Satisfies v)) })

-- ---- the set of one start
module _ (cs ds : Constraints) (same : ds.dim ≡ cs.dim) where
  pub velocity_point : (y : List ℤ) → IsWithin ds y → IsPoint cs.dim y
  velocity_point y w = subst (λ n. IsPoint n y) same w.point

  pub start_elapsed : (x y : List ℤ) → IsWithin cs x → IsWithin ds y → IsElapsed cs ds x
  start_elapsed x y v w = record {
    start = x;
    start_within = v;
    velocity = y;
    velocity_within = w;
    moved = start_moved cs.dim x y v.point (velocity_point y w);
  }

  -- the row without its constant, at each velocity
  pub level_of_elapsed : (x y : List ℤ) → IsWithin cs x → IsWithin ds y → (c : Constraint) → IsTrueElapsed cs ds c → Allows (level_kind c.1) (dot c.0 (levelled cs.dim y))
  level_of_elapsed x y v w c t = level_of_moved cs.dim x y v.point (velocity_point y w) c (λ u m. t u (record {
    start = x;
    start_within = v;
    velocity = y;
    velocity_within = w;
    moved = m;
  }))

pub start_law : ElapseIncludesStart
start_law topology cs ds x y same v w c f t = t x (start_elapsed cs ds same x y v w)

least_or_not : (l : ℤ) → (pos 0 ≤ℤ l) ⊎ ((pos 0 ≤ℤ l) → ⊥)
least_or_not l = by_case (at_least_zero_or_not l)
  where
    by_case : (pos 0 ≤ℤ l) ⊎ (l <ℤ pos 0) → (pos 0 ≤ℤ l) ⊎ ((pos 0 ≤ℤ l) → ⊥)
    by_case (inl p) = inl p
    by_case (inr p) = inr (λ q. omega (arith, ints, p, q))

allowed_or_not : (kind : ConKind) (l : ℤ) → Allows (level_kind kind) l ⊎ (Allows (level_kind kind) l → ⊥)
allowed_or_not Eq l = same_or_not l (pos 0)
allowed_or_not Ge l = least_or_not l
allowed_or_not Gt l = least_or_not l

pub moves_law : ElapseMovesOn
moves_law topology cs ds x y v same p inside w m c f t = by_level (allowed_or_not c.1 (dot c.0 (levelled cs.dim y)))
  where
    by_level : Allows (level_kind c.1) (dot c.0 (levelled cs.dim y)) ⊎ (Allows (level_kind c.1) (dot c.0 (levelled cs.dim y)) → ⊥) → Satisfies v c
    by_level (inl g) = moved_satisfies cs.dim x y p (velocity_point cs ds same y w) v m c (inside c f t) g
    by_level (inr n) = absurd (never_satisfied cs.dim x p (inside (false_row cs.dim, Ge) (false_for topology cs.dim) (λ q e. absurd (n (level_of_elapsed cs ds same e.start y e.start_within w c t)))))
