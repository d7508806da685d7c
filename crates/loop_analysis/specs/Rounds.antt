-- Rounds of a loop, on sets of states.
use Rattle.std.specs.Prelude.{◌≡◌, ◌⊎◌, ℕ, ◌<◌, List, [], ◌∷◌, length, take, slice_get, Option, Some, Result}
use Rattle.row_core.specs.declared.errors.Overflow.{Overflow}
use Rattle.row_core.specs.declared.errors.ConvErr.{ConvErr}
use Rattle.stored_systems.specs.WorkLists.{LeavesOnClosed, constraint_list, generator_list}
use Rattle.poly_pair.specs.declared.topology.Topology.TheVariants.{Closed}
use Rattle.poly_pair.specs.Polyhedra.{Polyhedron, IsKept, IsOfConstraints}
use Rattle.poly_pair.specs.Additions.{with_constraints}
use Rattle.poly_pair.specs.Work.{added_cons, conv_overflow, overflow_in, IsConversion}
use Rattle.lattice_ops.specs.Sets.{IsHull, both_generators, hull_work}
use Rattle.lattice_ops.specs.Sequences.{IsThen, AreCalls}
use Rattle.affine_maps.specs.declared.relations.ImageRel.TheVariants.{Eq}
use Rattle.affine_maps.specs.Relations.{IsImageBy}
use Rattle.affine_maps.specs.ImageResults.{LeavesInImageBy}
use Rattle.affine_maps.specs.PairConversions.{IsMappedInVain, IsImageConversion}
use Rattle.widening.specs.Runs.{TurnList}
use Rattle.loop_analysis.specs.declared.loops.Assignment.{Assignment}
use Rattle.loop_analysis.specs.Loops.{WhileLoop}

-- ---- sets
-- what the states of a set become by an assignment
pub record IsImageOf (a : Assignment) (set made : Polyhedron) : Type 0 where
  pub image : IsImageBy Eq a.variable a.value.expr a.value.den set made
  pub kept : IsKept made

-- by assignments, one after the other
abbrev pub AreImages : List Assignment → Polyhedron → Polyhedron → Type 0
AreImages [] set made = set ≡ made
AreImages (a ∷ more) set made =
    (between : Polyhedron) × IsImageOf a set between × AreImages more between made

-- what those at which the guard holds become by the body
pub record IsRound (l : WhileLoop) (set made : Polyhedron) : Type 0 where
  pub guarded : Polyhedron
  pub is_guarded : IsOfConstraints Closed (with_constraints set l.guard) guarded
  pub kept : IsKept guarded
  pub images : AreImages l.body guarded made

-- the hull of a set and of such a round
pub record IsJoined (l : WhileLoop) (set joined : Polyhedron) : Type 0 where
  pub round : Polyhedron
  pub is_round : IsRound l set round
  pub round_kept : IsKept round
  pub is_hull : IsHull set round joined
  pub joined_kept : IsKept joined

-- ---- overflows
abbrev pub LeavesInImage : Assignment → Polyhedron → Overflow → Type 0
LeavesInImage a set over = LeavesInImageBy Eq a.variable a.value.expr a.value.den set over

-- one of an assignment to what the assignments before it made
pub record LeavesInBody (body : List Assignment) (guarded : Polyhedron)
    (over : Overflow) : Type 0 where
  pub index : ℕ
  pub a : Assignment
  pub at : slice_get body index ≡ Some a
  pub set : Polyhedron
  pub images : AreImages (take index body) guarded set
  pub leaves : LeavesInImage a set over

-- one of the conversion for the guard, or of the body
pub record LeavesInAssignments (l : WhileLoop) (set : Polyhedron) (over : Overflow) : Type 0 where
  pub guarded : Polyhedron
  pub is_guarded : IsOfConstraints Closed (with_constraints set l.guard) guarded
  pub kept : IsKept guarded
  pub leaves : LeavesInBody l.body guarded over

abbrev pub LeavesInRound : WhileLoop → Polyhedron → Overflow → Type 0
LeavesInRound l set over =
    LeavesOnClosed set.cons.dim (constraint_list (with_constraints set l.guard)) over
    ⊎ LeavesInAssignments l set over

-- one of the conversion for the hull of a set and a round
pub record LeavesOnHull (l : WhileLoop) (set old : Polyhedron) (over : Overflow) : Type 0 where
  pub round : Polyhedron
  pub is_round : IsRound l set round
  pub round_kept : IsKept round
  pub leaves : LeavesOnClosed old.cons.dim (generator_list (both_generators old round)) over

abbrev pub LeavesInJoin : WhileLoop → Polyhedron → Overflow → Type 0
LeavesInJoin l set over = LeavesInRound l set over ⊎ LeavesOnHull l set set over

-- ---- what is counted and shown
-- by an assignment: what mapping the stored pair of a set, or its generators, counts
abbrev pub IsAssignmentConversion : Assignment → Polyhedron → ℕ → ℕ → Option Overflow → Type 0
IsAssignmentConversion a set old new over =
    IsMappedInVain a.variable a.value.expr a.value.den set old new over
    ⊎ IsImageConversion a.variable a.value.expr a.value.den set old new over

-- by that at a place, to what the assignments before it made
pub record IsConversionAt (body : List Assignment) (guarded : Polyhedron) (k old new : ℕ)
    (over : Option Overflow) : Type 0 where
  pub a : Assignment
  pub at : slice_get body k ≡ Some a
  pub set : Polyhedron
  pub images : AreImages (take k body) guarded set
  pub conversion : IsAssignmentConversion a set old new over

-- by the assignments of the body in order, or the first ones
pub record IsBodyConversion (l : WhileLoop) (set : Polyhedron) (old new : ℕ)
    (over : Option Overflow) : Type 0 where
  pub guarded : Polyhedron
  pub is_guarded : IsOfConstraints Closed (with_constraints set l.guard) guarded
  pub kept : IsKept guarded
  pub conversions : AreCalls (IsConversionAt l.body guarded) (length l.body) old new over

-- by a round: the conversion for the guard, and then these
abbrev pub IsRoundConversion : WhileLoop → Polyhedron → ℕ → ℕ → Option Overflow → Type 0
IsRoundConversion l set old new over =
    IsThen (IsConversion (added_cons set l.guard)) (IsBodyConversion l set) old new over

-- that for the hull of a set and a round
pub record IsHullConversion (l : WhileLoop) (set : Polyhedron) (old new : ℕ)
    (over : Option Overflow) : Type 0 where
  pub round : Polyhedron
  pub is_round : IsRound l set round
  pub round_kept : IsKept round
  pub conversion : IsConversion (hull_work set round) old new over

-- behind those of the round
abbrev pub IsJoinConversion : WhileLoop → Polyhedron → ℕ → ℕ → Option Overflow → Type 0
IsJoinConversion l set old new over =
    IsThen (IsRoundConversion l set) (IsHullConversion l set) old new over

-- calls
abbrev pub ConvertsAssignment : {T : Type 0} → Assignment → Polyhedron → ℕ → ℕ → Result T ConvErr
    → Type 0
ConvertsAssignment a set old new result =
    IsAssignmentConversion a set old new (overflow_in conv_overflow result)

abbrev pub ConvertsRound : {T : Type 0} → WhileLoop → Polyhedron → ℕ → ℕ → Result T ConvErr → Type 0
ConvertsRound l set old new result =
    IsRoundConversion l set old new (overflow_in conv_overflow result)

abbrev pub ConvertsJoin : {T : Type 0} → WhileLoop → Polyhedron → ℕ → ℕ → Result T ConvErr → Type 0
ConvertsJoin l set old new result =
    IsJoinConversion l set old new (overflow_in conv_overflow result)

-- ---- the loop as turns of a run
-- what joins the first of the sets
pub record JoinsFirst (l : WhileLoop) (sets : List Polyhedron) (joined : Polyhedron) : Type 0 where
  pub set : Polyhedron
  pub first : slice_get sets 0 ≡ Some set
  pub is_joined : IsJoined l set joined

pub record LeavesAtFirst (l : WhileLoop) (sets : List Polyhedron) (over : Overflow) : Type 0 where
  pub set : Polyhedron
  pub first : slice_get sets 0 ≡ Some set
  pub leaves : LeavesInJoin l set over

-- what finding it counts and shows
pub record CountsAtFirst (l : WhileLoop) (sets : List Polyhedron) (old new : ℕ)
    (over : Option Overflow) : Type 0 where
  pub set : Polyhedron
  pub first : slice_get sets 0 ≡ Some set
  pub conversion : IsJoinConversion l set old new over

-- one place, the head, and one turn, the round from there
abbrev pub turns_of : WhileLoop → TurnList
turns_of l = record {
  dim = l.dim;
  places = 1;
  count = 1;
  place = λ k. 0;
  Joins = λ k. JoinsFirst l;
  Leaves = λ k. LeavesAtFirst l;
  Counts = λ k. CountsAtFirst l;
}
