-- How the points of a set lie to a constraint.
use Rattle.std.specs.Prelude.{◌⊎◌, ℕ, ◌<◌, List, length, ℤ, neg_ℤ, Result, Ok, Err, ◌↔◌, IsTrue}
use Rattle.row_core.specs.declared.PairOver.{PairOver}
use Rattle.cone_laws.specs.Cones.{negated}
use Rattle.cons_sys.specs.Constraints.{Constraint, Constraints, Satisfies}
use Rattle.cons_sys.specs.declared.kind.ConKind.{ConKind}
use Rattle.cons_sys.specs.declared.kind.ConKind.TheVariants.{Eq, Ge, Gt}
use Rattle.gens_sys.specs.Generators.{Generator, generator_at}
use Rattle.gens_sys.specs.declared.kind.GenKind.{GenKind}
use Rattle.stored_systems.specs.PointSets.{IsWithin}
use Rattle.poly_pair.specs.Polyhedra.{Polyhedron}
use Rattle.set_laws.specs.Asking.{Asks, MeetsOn}
use Rattle.optimum.specs.Values.{RowReaches, RowLeaves}
use Rattle.optimum.specs.declared.relating.Sides.{Sides}
use Rattle.optimum.specs.declared.outcome.Relation.{Relation}

-- ---- the points of the set
-- the constraint holds at each point of the set
abbrev pub HoldsThroughout : Constraints → Constraint → Type 0
HoldsThroughout cs c = (p : List ℤ) → IsWithin cs p → Satisfies p c

-- the constraint holds at no point of the set
abbrev pub HoldsNowhere : Constraints → Constraint → Type 0
HoldsNowhere cs c = (p : List ℤ) → IsWithin cs p → ¬ (Satisfies p c)

-- a point of the set at which the constraint holds
pub record HoldsSomewhere (cs : Constraints) (c : Constraint) : Type 0 where
  pub point : List ℤ
  pub within : IsWithin cs point
  pub holds : Satisfies point c

-- a point of the set at which the constraint doesn't hold
pub record FailsSomewhere (cs : Constraints) (c : Constraint) : Type 0 where
  pub point : List ℤ
  pub within : IsWithin cs point
  pub fails : ¬ (Satisfies point c)

-- no point satisfies the constraint; each does; the row is 0 at each; some point satisfies
-- it and some doesn't
pub record IsRelation (cs : Constraints) (row : List ℤ) (kind : ConKind)
    (r : Relation) : Type 0 where
  pub disjoint : IsTrue r.disjoint ↔ HoldsNowhere cs (row, kind)
  pub included : IsTrue r.included ↔ HoldsThroughout cs (row, kind)
  pub saturates : IsTrue r.saturates ↔ HoldsThroughout cs (row, Eq)
  pub intersects : IsTrue r.intersects ↔ HoldsSomewhere cs (row, kind)
      × FailsSomewhere cs (row, kind)

-- ---- the answer
-- all dots stay in the range and the flags are true of the points, or some dot leaves the range
abbrev pub RelationAnswer : List ℤ → ConKind → Polyhedron → Result Relation PairOver → Type 0
RelationAnswer row kind p (Ok r) = RowReaches row p.gens.list (length p.gens.list)
    × IsRelation p.cons row kind r
RelationAnswer row kind p (Err over) = RowLeaves row p.gens.list over

-- ---- the sides of generators
-- the first n generators have what the constraint asks
abbrev pub MeetUpto : Constraint → List Generator → ℕ → Type 0
MeetUpto c list n = (i : ℕ) → i < n → MeetsOn c (generator_at list i)

-- which constraints of the row and of its negative the first n generators meet
pub record AreSides (row : List ℤ) (list : List Generator) (n : ℕ) (s : Sides) : Type 0 where
  pub zero : IsTrue s.zero ↔ MeetUpto (row, Eq) list n
  pub least : IsTrue s.least ↔ MeetUpto (row, Ge) list n
  pub above : IsTrue s.above ↔ MeetUpto (row, Gt) list n
  pub most : IsTrue s.most ↔ MeetUpto (negated row, Ge) list n
  pub below : IsTrue s.below ↔ MeetUpto (negated row, Gt) list n

-- the same with one generator more
pub record AreNoted (old : Sides) (kind : GenKind) (value : ℤ) (new : Sides) : Type 0 where
  pub zero : IsTrue new.zero ↔ IsTrue old.zero × Asks Eq kind value
  pub least : IsTrue new.least ↔ IsTrue old.least × Asks Ge kind value
  pub above : IsTrue new.above ↔ IsTrue old.above × Asks Gt kind value
  pub most : IsTrue new.most ↔ IsTrue old.most × Asks Ge kind (neg_ℤ value)
  pub below : IsTrue new.below ↔ IsTrue old.below × Asks Gt kind (neg_ℤ value)

-- what is asked of the sides that the constraint holds at each point
abbrev pub Includes : ConKind → Sides → Type 0
Includes Eq s = IsTrue s.zero
Includes Ge s = IsTrue s.least
Includes Gt s = IsTrue s.above

-- and at none
abbrev pub Excludes : ConKind → Sides → Type 0
Excludes Eq s = IsTrue s.above ⊎ IsTrue s.below
Excludes Ge s = IsTrue s.below
Excludes Gt s = IsTrue s.most

-- the flags that the sides give
pub record AreFlags (kind : ConKind) (s : Sides) (r : Relation) : Type 0 where
  pub disjoint : IsTrue r.disjoint ↔ Excludes kind s
  pub included : IsTrue r.included ↔ Includes kind s
  pub saturates : IsTrue r.saturates ↔ IsTrue s.zero
  pub intersects : IsTrue r.intersects ↔ ¬ (IsTrue r.disjoint) × ¬ (IsTrue r.included)

-- what gathering the sides of all generators answers
abbrev pub SidesAnswer : List ℤ → List Generator → Result Sides PairOver → Type 0
SidesAnswer row list (Ok s) = RowReaches row list (length list) × AreSides row list (length list) s
SidesAnswer row list (Err over) = RowLeaves row list over
