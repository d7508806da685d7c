use Rattle.std.proofs.Common.{◌≡◌, inl, inr, sym, subst, ℕ, List, Option}
use Rattle.std.specs.Prelude.{All}
use Rattle.row_core.specs.declared.errors.Overflow.{Overflow}
use Rattle.row_core.specs.Refusals.{IsOverflowIn}
use Rattle.row_core.proofs.RefusalLemmas.{overflow_weaker}
use Rattle.poly_pair.specs.declared.topology.Topology.{Topology}
use Rattle.poly_pair.specs.Polyhedra.{Polyhedron, AreAlike}
use Rattle.powerset.specs.Powersets.{FinitePowerset, IsMember}
use Rattle.powerset.specs.Reductions.{IsReduced, LeavesBetween}
use Rattle.powerset.specs.Joins.{AreMeets, IsPairMeet, LeavesOnMeet, LeavesBetweenMeets, LeavesOnPairMeet, ArePairConversions}
use Rattle.powerset.proofs.JoinLemmas.{reduced_all, one_dimension, meets_members, alike}
use Rattle.powerset.proofs.joining.pmeet.Goals as goal

-- those of lists that are equal to these
conversions : (ps qs first second : List Polyhedron) → first ≡ ps → second ≡ qs → (old new : ℕ) (over : Option Overflow) → ArePairConversions first second old new over → ArePairConversions ps qs old new over
conversions ps qs first second e f old new over h = subst (λ (xs : List Polyhedron). ArePairConversions xs qs old new over) e (subst (λ (xs : List Polyhedron). ArePairConversions first xs old new over) f h)

pub reduced-requires : goal.reduced-requires
reduced-requires g c =
    let s = c.args.s.now in
    let meets : AreMeets s.members c.args.t.now.members c.in-Ok.meets.items = subst (λ (ps : List Polyhedron). AreMeets ps c.args.t.now.members c.in-Ok.meets.items) c.members.ensures.value (subst (λ (ps : List Polyhedron). AreMeets c.members.result.now ps c.in-Ok.meets.items) c.members-2.ensures.value c.in-Ok.ensures.meets) in
    one_dimension s.topology s.dim c.in-Ok.meets.items (meets_members s.topology s.dim s.members c.args.t.now.members c.in-Ok.meets.items c.members.ensures.kept.each meets)

pub from_members-requires-clause-members : goal.from_members-requires-clause-members
from_members-requires-clause-members g c =
    let s = c.args.s.now in
    let meets : AreMeets s.members c.args.t.now.members c.in-Ok.meets.items = subst (λ (ps : List Polyhedron). AreMeets ps c.args.t.now.members c.in-Ok.meets.items) c.members.ensures.value (subst (λ (ps : List Polyhedron). AreMeets c.members.result.now ps c.in-Ok.meets.items) c.members-2.ensures.value c.in-Ok.ensures.meets) in
    let r : IsReduced c.in-Ok.meets.items c.in-Ok-reduced.members.items = c.in-Ok-reduced.ensures.reduced in
    subst (λ (o : Topology). All (IsMember o c.dim.result) c.in-Ok-reduced.members.items) (sym c.topology.ensures)
    (subst (λ (n : ℕ). All (IsMember s.topology n) c.in-Ok-reduced.members.items) (sym c.dim.ensures.value)
    (reduced_all (IsMember s.topology s.dim) c.in-Ok.meets.items c.in-Ok-reduced.members.items r (meets_members s.topology s.dim s.members c.args.t.now.members c.in-Ok.meets.items c.members.ensures.kept.each meets)))

pub all_meets-requires : goal.all_meets-requires
all_meets-requires g c =
    let s = c.args.s.now in
    let t = c.args.t.now in
    subst (λ (ps : List Polyhedron). All (λ (p : Polyhedron). All (AreAlike p) ps) c.members.result.now) (sym c.members-2.ensures.value)
    (subst (All (λ (p : Polyhedron). All (AreAlike p) t.members)) (sym c.members.ensures.value) (alike s t c.members.ensures.kept c.members-2.ensures.kept c.requires.topology c.requires.dim))

pub returns : goal.returns
returns g c =
    let s = c.args.s.now in
    let meets : AreMeets s.members c.args.t.now.members c.in-Ok.meets.items = subst (λ (ps : List Polyhedron). AreMeets ps c.args.t.now.members c.in-Ok.meets.items) c.members.ensures.value (subst (λ (ps : List Polyhedron). AreMeets c.members.result.now ps c.in-Ok.meets.items) c.members-2.ensures.value c.in-Ok.ensures.meets) in
    record { meet = subst (IsPairMeet s c.args.t.now) (sym c.from_members.ensures) (record { same_topology = c.topology.ensures; same_dim = c.dim.ensures.value; meets = c.in-Ok.meets.items; are_meets = meets; members = c.in-Ok-reduced.ensures.reduced }); overflow = tt; no_fewer = c.in-Ok.ensures.no_fewer; conversion = inl (conversions s.members c.args.t.now.members _ _ c.members.ensures.value c.members-2.ensures.value _ _ _ c.in-Ok.ensures.conversion) }

pub returns-in-Err : goal.returns-in-Err
returns-in-Err g c =
    let s = c.args.s.now in
    let t = c.args.t.now in
    let cause = c.in-Err.cause in
    let leaves =
    subst (λ (ps : List Polyhedron). IsOverflowIn (LeavesOnMeet ps t.members) cause) c.members.ensures.value
    (subst (λ (ps : List Polyhedron). IsOverflowIn (LeavesOnMeet c.members.result.now ps) cause) c.members-2.ensures.value c.in-Err.ensures.overflow) in
    record { meet = tt; overflow = overflow_weaker (LeavesOnMeet s.members t.members) (LeavesOnPairMeet s t) (λ over l. inl l) cause leaves; no_fewer = c.in-Err.ensures.no_fewer; conversion = inl (conversions s.members t.members _ _ c.members.ensures.value c.members-2.ensures.value _ _ _ c.in-Err.ensures.conversion) }

pub returns-in-Err-reduced : goal.returns-in-Err-reduced
returns-in-Err-reduced g c = record {
  meet = tt;
  overflow = overflow_weaker (LeavesBetweenMeets s c.args.t.now) (LeavesOnPairMeet s c.args.t.now) (λ over l. inr l) c.in-Err-reduced.cause between;
  no_fewer = c.in-Ok.ensures.no_fewer;
  conversion = inr (conversions s.members c.args.t.now.members _ _ c.members.ensures.value c.members-2.ensures.value _ _ _ c.in-Ok.ensures.conversion, between);
}
  where
    s : FinitePowerset
    s = c.args.s.now

    meets : AreMeets s.members c.args.t.now.members c.in-Ok.meets.items
    meets = subst (λ (ps : List Polyhedron). AreMeets ps c.args.t.now.members c.in-Ok.meets.items) c.members.ensures.value (subst (λ (ps : List Polyhedron). AreMeets c.members.result.now ps c.in-Ok.meets.items) c.members-2.ensures.value c.in-Ok.ensures.meets)

    between : IsOverflowIn (LeavesBetweenMeets s c.args.t.now) c.in-Err-reduced.cause
    between = overflow_weaker (LeavesBetween c.in-Ok.meets.items) (LeavesBetweenMeets s c.args.t.now) (λ over l. record { meets = c.in-Ok.meets.items; are_meets = meets; leaves = l }) c.in-Err-reduced.cause c.in-Err-reduced.ensures.overflow
