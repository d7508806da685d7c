-- The points at which the lists of branches hold.
use Rattle.std.proofs.Common.{◌≡◌, ◌⊎◌, inl, inr, ℕ, ◌+◌, ◌<◌, ◌≤◌, List, [], ◌∷◌, length, take, slice_get, Some, get_or, ℤ, subst, arith}
use Rattle.std.specs.Prelude.{All}
use Rattle.std.proofs.lemmas.Bool.{cases_lt}
use Rattle.std.proofs.lemmas.Option.{slice_get-get_or, slice_get_within, get_or_from_slice_get}
use Rattle.std.proofs.lemmas.List.Elements.{All-head}
use Rattle.cons_sys.specs.declared.kind.ConKind.TheVariants.{Eq}
use Rattle.cons_sys.specs.Constraints.{Constraint, Constraints, constraint_at, Satisfies, In}
use Rattle.cover_search.specs.Inequalities.{AreInequalities, complement}
use Rattle.cover_search.specs.Branches.{choice, IsBranch, begins, chooses, HoldsInNone}
use Rattle.cover_search.proofs.InequalityLemmas.{all_left, all_right, complement_excludes}

-- ---- places of a list
-- two elements at one place are the same
pub same_at : {X : Type 0} (xs : List X) (i k : ℕ) (x y : X) → i ≡ k → slice_get xs i ≡ Some x → slice_get xs k ≡ Some y → x ≡ y
same_at xs i k x y e f g = cc

-- what holds of each element holds of that at a place
pub all_at : {X : Type 0} (P : X → Type 0) (xs : List X) (k : ℕ) (x : X) → All P xs → slice_get xs k ≡ Some x → P x
all_at P xs k x h e = subst P (get_or_from_slice_get xs k x x e) (h k x (slice_get_within xs k x e))

-- ---- branches
-- the first constraints hold at the point, and none of the first k systems does
pub record IsOutside (list : List Constraint) (systems : List Constraints) (k : ℕ) (v : List ℤ) : Type 0 where
  pub holds : All (Satisfies v) list
  pub outside : (i : ℕ) (rows : Constraints) → i < k → slice_get systems i ≡ Some rows → ¬ (In rows v)

-- one choice more
outside_next : (first : List Constraint) (systems : List Constraints) (v : List ℤ) (k j : ℕ) (rows : Constraints) → AreInequalities rows → slice_get systems k ≡ Some rows → j < length rows.list → IsOutside first systems k v → All (Satisfies v) (choice rows.list j) → IsOutside first systems (k + 1) v
outside_next first systems v k j rows proper at below before chosen = record { holds = before.holds; outside = outside }
  where
    excluded : Satisfies v (complement (constraint_at rows.list j))
    excluded = All-head (Satisfies v) (complement (constraint_at rows.list j)) [] (all_right (Satisfies v) (take j rows.list) (complement (constraint_at rows.list j) ∷ []) chosen)

    here : ¬ (In rows v)
    here inside = complement_excludes (constraint_at rows.list j) v (proper j ([], Eq) below) excluded (inside j ([], Eq) below)

    outside : (i : ℕ) (other : Constraints) → i < k + 1 → slice_get systems i ≡ Some other → ¬ (In other v)
    outside i other b e = by_case (cases_lt i k)
      where
        by_case : (i < k) ⊎ (k ≤ i) → ¬ (In other v)
        by_case (inl l) = before.outside i other l e
        by_case (inr l) = subst (λ (s : Constraints). ¬ (In s v)) (same_at systems k i rows other (omega arith) at e) here

-- where the list of a branch holds, the first constraints do, and none of the systems that it passed
pub branch_outside : (first : List Constraint) (systems : List Constraints) → All AreInequalities systems → (v : List ℤ) {k : ℕ} {list : List Constraint} → IsBranch first systems k list → All (Satisfies v) list → IsOutside first systems k v
branch_outside first systems proper v begins h = record { holds = h; outside = λ i rows b. absurd (omega (arith, b)) }
branch_outside first systems proper v (chooses {k} {list} rows j branch at below) h =
    outside_next first systems v k j rows (all_at AreInequalities systems k rows proper at) at below
    (branch_outside first systems proper v branch (all_left (Satisfies v) list (choice rows.list j) h))
    (all_right (Satisfies v) list (choice rows.list j) h)

-- where it passed all of them, none holds
pub outside_all : (first : List Constraint) (systems : List Constraints) (v : List ℤ) (k : ℕ) → k ≡ length systems → IsOutside first systems k v → HoldsInNone systems v
outside_all first systems v k e o i d b = o.outside i (get_or systems i d) (omega arith) (slice_get-get_or systems i d b)
