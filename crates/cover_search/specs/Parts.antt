use Rattle.std.specs.Prelude.{◌≡◌, ◌⊎◌, ℕ, zero, suc, ◌+◌, ◌*◌, ◌<◌, ◌≤◌, List, [], ◌∷◌, ◌++◌, length, slice_get, slice_index_or, Option, Some, None, MatchOption, ℤ, Contains, All}
use Rattle.row_core.specs.Points.{IsPoint}
use Rattle.cons_sys.specs.Constraints.{Constraints, constraint_at, Satisfies, In}
use Rattle.cover_search.specs.Inequalities.{complement}
use Rattle.cover_search.specs.Branches.{HoldsInSome, HoldsInNone}
use Rattle.cover_search.specs.Regions.{with_one, HoldsOn, LiesIn, IsPointIn}
use Rattle.cover_search.specs.declared.contacts.Contact.{Contact}
use Rattle.cover_search.specs.declared.contacts.Contact.TheVariants.{Within, Apart, Across}
use Rattle.cover_search.specs.declared.contacts.Cut.{Cut}
use Rattle.cover_search.specs.declared.contacts.Plan.{Plan}
use Rattle.cover_search.specs.declared.parts.Part.{Part}

-- ---- how a set lies to a system
-- the system holds at no point of the set
abbrev pub AreApart : Constraints → Constraints → Type 0
AreApart cs rows = (v : List ℤ) → IsPoint cs.dim v → In cs v → ¬ (In rows v)

-- all inequalities of the system from number n on hold on the set
abbrev pub HoldFrom : Constraints → Constraints → ℕ → Type 0
HoldFrom cs rows n = (i : ℕ) → n ≤ i → i < length rows.list → HoldsOn cs (constraint_at rows.list i)

-- what is seen of the two
abbrev pub IsContact : Constraints → Constraints → Contact → Type 0
IsContact cs rows Within = LiesIn cs rows
IsContact cs rows Apart = AreApart cs rows
IsContact cs rows (Across crossed last) = (last < length rows.list) × HoldFrom cs rows (last + 1)

-- ---- the systems that a set may meet
-- the cut is by the system with this number
abbrev pub IsOf : Option Cut → ℕ → Type 0
IsOf None i = ⊥
IsOf (Some cut) i = cut.system ≡ i

-- the system with this number parts the set, or stays open
abbrev pub IsOpenIn : Plan → ℕ → Type 0
IsOpenIn plan i = IsOf plan.next i ⊎ Contains plan.met.items i

abbrev pub as_number : Option Cut → ℕ
as_number None = 0
as_number (Some cut) = 1

-- how many systems a plan has
abbrev pub size : Plan → ℕ
size plan = as_number plan.next + length plan.met.items

-- the set has no point of the system with this number
abbrev pub IsApartAt : List Constraints → Constraints → ℕ → Type 0
IsApartAt systems region i = (rows : Constraints) → slice_get systems i ≡ Some rows
    → AreApart region rows

-- of the cut's system, the inequalities behind the last that is crossed hold on the set
pub record IsCutOf (systems : List Constraints) (region : Constraints) (cut : Cut) : Type 0 where
  pub rows : Constraints
  pub at : slice_get systems cut.system ≡ Some rows
  pub last : cut.last < length rows.list
  pub behind : HoldFrom region rows (cut.last + 1)

-- without a cut nothing is open
abbrev pub IsNext : List Constraints → Constraints → List ℕ → Option Cut → Type 0
IsNext systems region numbers None = numbers ≡ []
IsNext systems region numbers (Some cut) = IsCutOf systems region cut

-- each of the first k numbers is in the plan, or the set has no point of its system
pub record IsPlan (systems : List Constraints) (region : Constraints) (numbers : List ℕ) (k : ℕ)
    (plan : Plan) : Type 0 where
  pub listed : (n : ℕ) → n < k → n < length numbers → IsOpenIn plan (slice_index_or numbers n 0)
      ⊎ IsApartAt systems region (slice_index_or numbers n 0)
  pub next : IsNext systems region plan.met.items plan.next
  pub below : All (λ i. i < length systems) plan.met.items
  pub few : size plan ≤ k

-- the plan has one more cut: one of the two is the next, and the other's system stays open
abbrev pub IsTaken : Plan → Cut → Plan → Type 0
IsTaken old cut new = MatchOption old.next ((new.next ≡ Some cut)
    × (new.met.items ≡ old.met.items)) (λ best. ((new.next ≡ Some cut)
    × (new.met.items ≡ old.met.items ++ best.system ∷ [])) ⊎ ((new.next ≡ Some best)
    × (new.met.items ≡ old.met.items ++ cut.system ∷ [])))

-- the set has no point of the system and the plan is as before, or the system is in it too
abbrev pub IsMet : Constraints → Constraints → ℕ → Plan → Plan → Type 0
IsMet region rows system old new = (AreApart region rows × (new ≡ old)) ⊎ ((cut : Cut)
    × (cut.system ≡ system) × (cut.last < length rows.list) × HoldFrom region rows (cut.last + 1)
    × IsTaken old cut new)

-- ---- parts of a set
-- behind other parts, the one on which an inequality of the system doesn't hold, with the
-- same open systems
pub record IsPushed (rows : Constraints) (index : ℕ) (region : Constraints) (numbers : List ℕ)
    (old new : List Part) : Type 0 where
  pub part : Part
  pub cut : part.region ≡ with_one region (complement (constraint_at rows.list index))
  pub same : part.met.items ≡ numbers
  pub joined : new ≡ old ++ part ∷ []

-- what is left of a set behind one inequality: all of it where that holds on it, or else the part
-- on which it holds
abbrev pub IsLeft : Constraints → ℕ → Constraints → List ℕ → List Part → List Part → Constraints
    → Type 0
IsLeft rows index region numbers old new rest = (HoldsOn region (constraint_at rows.list index)
    × (new ≡ old) × (rest ≡ region)) ⊎ (IsPushed rows index region numbers old new
    × (rest ≡ with_one region (constraint_at rows.list index)))

-- the point is in some of the parts
pub record IsInSomePart (parts : List Part) (v : List ℤ) : Type 0 where
  pub part : Part
  pub listed : Contains parts part
  pub holds : In part.region v

-- a part of the set without points of the system, with these open systems
pub record IsOutside (rows region : Constraints) (numbers : List ℕ) (part : Part) : Type 0 where
  pub same_dim : part.region.dim ≡ region.dim
  pub within : LiesIn part.region region
  pub apart : AreApart part.region rows
  pub same : part.met.items ≡ numbers

-- behind other parts, those of a set outside of the system, one for some of the first k
-- inequalities; what is left of the set has these
pub record IsPartedBy (rows : Constraints) (k : ℕ) (region : Constraints) (numbers : List ℕ)
    (old new : List Part) (rest : Constraints) : Type 0 where
  pub added : List Part
  pub joined : new ≡ old ++ added
  pub few : length added ≤ k
  pub each : All (IsOutside rows region numbers) added
  pub same_dim : rest.dim ≡ region.dim
  pub within : LiesIn rest region
  pub told : (v : List ℤ) → IsPoint region.dim v → In region v → (In rest v × ((i : ℕ) → i < k
      → Satisfies v (constraint_at rows.list i))) ⊎ IsInSomePart added v

-- behind other parts, those of a set outside of the system
pub record IsParted (rows region : Constraints) (numbers : List ℕ)
    (old new : List Part) : Type 0 where
  pub added : List Part
  pub joined : new ≡ old ++ added
  pub few : length added ≤ length rows.list
  pub each : All (IsOutside rows region numbers) added
  pub told : (v : List ℤ) → IsPoint region.dim v → In region v → In rows v ⊎ IsInSomePart added v

-- behind other parts, those of a set outside of the cut's system
abbrev pub IsCutBy : List Constraints → Cut → Constraints → List ℕ → List Part → List Part → Type 0
IsCutBy systems cut region numbers old new = (rows : Constraints)
    × (slice_get systems cut.system ≡ Some rows) × IsParted rows region numbers old new

-- the point is given where no system comes next, and else the parts outside of that
-- system are appended
abbrev pub IsFollowed : List Constraints → Plan → Constraints → List ℤ → List Part → List Part
    → Option (List ℤ) → Type 0
IsFollowed systems plan region point old new found =
    MatchOption plan.next (found ≡ Some point) (λ cut. (found ≡ None)
    × IsCutBy systems cut region plan.met.items old new)

-- ---- a search over parts
-- a part of the set: its open systems are some of all, and it has no point of the others
pub record IsPart (first : Constraints) (systems : List Constraints) (part : Part) : Type 0 where
  pub same_dim : part.region.dim ≡ first.dim
  pub within : LiesIn part.region first
  pub below : All (λ i. i < length systems) part.met.items
  pub apart : (i : ℕ) → Contains part.met.items i ⊎ IsApartAt systems part.region i

-- the sum of the numbers of inequalities of all systems
abbrev pub all_rows : List Constraints → ℕ
all_rows [] = 0
all_rows (rows ∷ systems) = length rows.list + all_rows systems

-- how many parts may come of one with n open systems, itself among them, where each gives m at most
abbrev pub to_come : ℕ → ℕ → ℕ
to_come m zero = 1
to_come m (suc n) = 1 + m * to_come m n

-- how many may come of all
abbrev pub all_to_come : ℕ → List Part → ℕ
all_to_come m [] = 0
all_to_come m (part ∷ parts) = to_come m (length part.met.items) + all_to_come m parts

-- what a turn makes of a part: parts of it with fewer open systems, and of each point either one of
-- these or a system has it
pub record IsSettled (systems : List Constraints) (part : Part) (old new : List Part) : Type 0 where
  pub added : List Part
  pub joined : new ≡ old ++ added
  pub few : all_to_come (all_rows systems) added < to_come (all_rows systems)
      (length part.met.items)
  pub each : All (IsPart part.region systems) added
  pub told : (v : List ℤ) → IsPoint part.region.dim v → In part.region v → HoldsInSome systems v
      ⊎ IsInSomePart added v

-- a point of the part at which no system holds
pub record IsMissed (systems : List Constraints) (region : Constraints) (v : List ℤ) : Type 0 where
  pub point : IsPointIn region v
  pub outside : HoldsInNone systems v
