use Rattle.std.proofs.Common.{◌≡◌, inl, inr, None, List, ap, ◌∙◌, subst, IfOk}
use Rattle.std.proofs.lemmas.Result.{IfOk-weaker, IfErr-weaker}
use Rattle.row_core.specs.declared.errors.ConvErr.{ConvErr}
use Rattle.row_core.specs.declared.errors.ConvErr.TheVariants as conversion
use Rattle.poly_pair.specs.Polyhedra.{Polyhedron}
use Rattle.poly_pair.specs.Work.{conv_overflow, overflow_in}
use Rattle.widening.specs.RunConversions.{IsRunConversion}
use Rattle.trans_sys.specs.Systems.{TransitionSystem}
use Rattle.row_core.specs.Refusals.{IsOverflowIn}
use Rattle.widening.specs.Runs.{HasLimit}
use Rattle.widening.specs.RunLaws.{IncludeEach}
use Rattle.hybrid.specs.Turns.{turns_of}
use Rattle.hybrid.specs.Reaches.{AreParts, AreReached, LeavesInParts, LeavesInReach, ArePartConversions, IncludeInitial, AreClosedUnderFlow, AreClosedUnderJumps}
use Rattle.std.proofs.lemmas.Result.{err_from_is_err_and}
use Rattle.widening.proofs.RunCounts.{no_turn}
use Rattle.hybrid.proofs.ReachLaws.{includes_initial, closed_under_flow, closed_under_jumps}
use Rattle.hybrid.proofs.reaches.reach.Goals as goal

pub returns-clause-reached : goal.returns-clause-reached
returns-clause-reached g c =
    let h = c.args.h.now in
    let begins : c.in_ok-initial.initial.items ≡ h.system.initial = c.in_ok-initial.ensures.value ∙ ap (λ (s : TransitionSystem). s.initial) c.system.ensures.value in
    let parts : IfOk c.parts_of.result (λ ps. AreParts h.invariants c.in-Ok.sets.items ps.items) = subst (λ (xs : List Polyhedron). IfOk c.parts_of.result (λ ps. AreParts h.invariants xs ps.items)) c.deref.ensures.value c.parts_of.ensures.parts in
    IfOk-weaker c.parts_of.result (λ ps. AreParts h.invariants c.in-Ok.sets.items ps.items) (λ ps. AreReached h c.args.delay ps.items)
    (λ ps p. record { sets = c.in-Ok.sets.items; limit = subst (λ (xs : List Polyhedron). HasLimit (turns_of h) xs c.args.delay c.in-Ok.sets.items) begins c.in-Ok.ensures.limit; of_limit = p }) parts

pub returns-clause-includes_initial : goal.returns-clause-includes_initial
returns-clause-includes_initial g c =
    let h = c.args.h.now in
    let begins : c.in_ok-initial.initial.items ≡ h.system.initial = c.in_ok-initial.ensures.value ∙ ap (λ (s : TransitionSystem). s.initial) c.system.ensures.value in
    let parts : IfOk c.parts_of.result (λ ps. AreParts h.invariants c.in-Ok.sets.items ps.items) = subst (λ (xs : List Polyhedron). IfOk c.parts_of.result (λ ps. AreParts h.invariants xs ps.items)) c.deref.ensures.value c.parts_of.ensures.parts in
    IfOk-weaker c.parts_of.result (λ ps. AreParts h.invariants c.in-Ok.sets.items ps.items) (λ ps. IncludeInitial h ps.items)
    (λ ps p. includes_initial h c.system.ensures.kept c.in-Ok.sets.items ps.items c.in-Ok.ensures.sets p (subst (λ (xs : List Polyhedron). IncludeEach xs c.in-Ok.sets.items) begins c.in-Ok.ensures.includes_initial)) parts

pub returns-clause-closed_under_flow : goal.returns-clause-closed_under_flow
returns-clause-closed_under_flow g c =
    let h = c.args.h.now in
    let parts : IfOk c.parts_of.result (λ ps. AreParts h.invariants c.in-Ok.sets.items ps.items) = subst (λ (xs : List Polyhedron). IfOk c.parts_of.result (λ ps. AreParts h.invariants xs ps.items)) c.deref.ensures.value c.parts_of.ensures.parts in
    IfOk-weaker c.parts_of.result (λ ps. AreParts h.invariants c.in-Ok.sets.items ps.items) (λ ps. AreClosedUnderFlow h ps.items)
    (λ ps p. closed_under_flow h c.system.ensures.kept c.in-Ok.sets.items ps.items c.in-Ok.ensures.sets p c.in-Ok.ensures.taken) parts

pub returns-clause-closed_under_jumps : goal.returns-clause-closed_under_jumps
returns-clause-closed_under_jumps g c =
    let h = c.args.h.now in
    let parts : IfOk c.parts_of.result (λ ps. AreParts h.invariants c.in-Ok.sets.items ps.items) = subst (λ (xs : List Polyhedron). IfOk c.parts_of.result (λ ps. AreParts h.invariants xs ps.items)) c.deref.ensures.value c.parts_of.ensures.parts in
    IfOk-weaker c.parts_of.result (λ ps. AreParts h.invariants c.in-Ok.sets.items ps.items) (λ ps. AreClosedUnderJumps h ps.items)
    (λ ps p. closed_under_jumps h c.system.ensures.kept c.in-Ok.sets.items ps.items c.in-Ok.ensures.sets p c.in-Ok.ensures.taken) parts

pub returns-clause-overflow : goal.returns-clause-overflow
returns-clause-overflow g c = IfErr-weaker c.parts_of.result (IsOverflowIn (LeavesInParts c.args.h.now.invariants c.deref.result.now)) (IsOverflowIn (LeavesInReach c.args.h.now c.args.delay)) by c.parts_of.ensures.overflow
  where
    begins : c.in_ok-initial.initial.items ≡ c.args.h.now.system.initial
    begins = c.in_ok-initial.ensures.value ∙ ap (λ (s : TransitionSystem). s.initial) c.system.ensures.value

    by : (e : ConvErr) → IsOverflowIn (LeavesInParts c.args.h.now.invariants c.deref.result.now) e → IsOverflowIn (LeavesInReach c.args.h.now c.args.delay) e
    by (conversion.Overflow over) l = inr (record {
      sets = c.in-Ok.sets.items;
      limit = subst (λ (xs : List Polyhedron). HasLimit (turns_of c.args.h.now) xs c.args.delay c.in-Ok.sets.items) begins c.in-Ok.ensures.limit;
      leaves = subst (λ (xs : List Polyhedron). LeavesInParts c.args.h.now.invariants xs over) c.deref.ensures.value l;
    })
    by conversion.Memory l = tt

pub returns-in-Err-clause-conversion : goal.returns-in-Err-clause-conversion
returns-in-Err-clause-conversion g c =
    let begins : c.in_ok-initial.initial.items ≡ c.args.h.now.system.initial = c.in_ok-initial.ensures.value ∙ ap (λ (s : TransitionSystem). s.initial) c.system.ensures.value in
    inl (subst (λ (xs : List Polyhedron). IsRunConversion (turns_of c.args.h.now) xs c.args.delay c.args.steps.now c.run.new.steps (conv_overflow c.in-Err.cause)) begins c.in-Err.ensures.conversion)

pub returns-clause-conversion : goal.returns-clause-conversion
returns-clause-conversion g c =
    let h = c.args.h.now in
    let begins : c.in_ok-initial.initial.items ≡ h.system.initial = c.in_ok-initial.ensures.value ∙ ap (λ (s : TransitionSystem). s.initial) c.system.ensures.value in
    inr (record {
      between = c.run.new.steps;
      first = subst (λ (xs : List Polyhedron). IsRunConversion (turns_of h) xs c.args.delay c.args.steps.now c.run.new.steps None) begins c.in-Ok.ensures.conversion;
      second = record {
        sets = c.in-Ok.sets.items;
        limit = subst (λ (xs : List Polyhedron). HasLimit (turns_of h) xs c.args.delay c.in-Ok.sets.items) begins c.in-Ok.ensures.limit;
        conversions = subst (λ (xs : List Polyhedron). ArePartConversions h.invariants xs c.run.new.steps c.parts_of.new.steps (overflow_in conv_overflow c.parts_of.result)) c.deref.ensures.value c.parts_of.ensures.conversion;
      };
    })

pub returns-in_err-initial-clause-conversion : goal.returns-in_err-initial-clause-conversion
returns-in_err-initial-clause-conversion g c = let p = err_from_is_err_and c.from_residual.result c.from_residual.ensures.1 in rw (p.1, p.2) (inl (no_turn (turns_of c.args.h.now) c.args.h.now.system.initial c.args.delay c.args.steps.now))
