use Rattle.std.proofs.Common.{◌≡◌, ℕ, ◌-◌, ◌<◌, length, Some, slice_get, sym, ap, ◌∙◌, subst, arith, IfOk}
use Rattle.std.proofs.lemmas.Result.{IfOk-weaker, IfErr-weaker}
use Rattle.poly_pair.specs.Polyhedra.{Polyhedron}
use Rattle.poly_pair.specs.Work.{conv_overflow, overflow_in}
use Rattle.trans_sys.specs.declared.transition.Transition.{Transition}
use Rattle.trans_sys.specs.Systems.{TransitionSystem}
use Rattle.row_core.specs.Refusals.{IsOverflowIn}
use Rattle.widening.specs.RunLaws.{IsFound}
use Rattle.hybrid.specs.Turns.{Turn, IsOfJump, Joins, LeavesInJump, Leaves, Counts, place_of, turn_at}
use Rattle.hybrid.proofs.HybridTurns.{at_time, found_behind, leaves_behind, counts_behind}
use Rattle.hybrid.proofs.turns.HybridTurns.found.Goals as goal

pub returns-then-index-locations-clause-found : goal.returns-then-index-locations-clause-found
returns-then-index-locations-clause-found g c =
    let h = c.args.self.now in
    let below : c.args.index < length h.system.initial = subst (λ (s : TransitionSystem). c.args.index < length s.initial) c.system.ensures.value (omega (arith, c.locs-locations.ensures.value, c.if-index-locations.true)) in
    subst (λ (t : Turn). IfOk c.time_turn.result (λ o. (old : Polyhedron) → slice_get c.args.sets.now (place_of t) ≡ Some old → IsFound (Joins h t c.args.sets.now) old o)) (sym (at_time h c.args.index below)) c.time_turn.ensures.found

pub returns-clause-found : goal.returns-clause-found
returns-clause-found g c =
    let h = c.args.self.now in
    let i = c.args.index - c.locs-locations.result in
    let places : c.locs-locations.result ≡ length h.system.initial = c.locs-locations.ensures.value ∙ ap (λ (s : TransitionSystem). length s.initial) c.system.ensures.value in
    let behind : ¬ (c.args.index < length h.system.initial) = λ l. omega (arith, l, places, c.if-index-locations.false) in
    let same : i ≡ c.args.index - length h.system.initial = ap (λ (n : ℕ). c.args.index - n) places in
    let below : i < length h.system.transitions = omega (arith, behind, places, c.requires.index) in
    IfOk-weaker c.jump_turn.result (λ o. (t : Transition) (old : Polyhedron) → slice_get h.system.transitions i ≡ Some t → slice_get c.args.sets.now t.target ≡ Some old → IsFound (IsOfJump h t c.args.sets.now) old o) (λ o. (old : Polyhedron) → slice_get c.args.sets.now (place_of (turn_at h c.args.index)) ≡ Some old → IsFound (Joins h (turn_at h c.args.index) c.args.sets.now) old o)
    (found_behind h c.args.index i behind same below c.args.sets.now) c.jump_turn.ensures.found

pub returns-clause-overflow : goal.returns-clause-overflow
returns-clause-overflow g c =
    let h = c.args.self.now in
    let i = c.args.index - c.locs-locations.result in
    let places : c.locs-locations.result ≡ length h.system.initial = c.locs-locations.ensures.value ∙ ap (λ (s : TransitionSystem). length s.initial) c.system.ensures.value in
    let behind : ¬ (c.args.index < length h.system.initial) = λ l. omega (arith, l, places, c.if-index-locations.false) in
    let same : i ≡ c.args.index - length h.system.initial = ap (λ (n : ℕ). c.args.index - n) places in
    let below : i < length h.system.transitions = omega (arith, behind, places, c.requires.index) in
    IfErr-weaker c.jump_turn.result (IsOverflowIn (λ over. (t : Transition) → slice_get h.system.transitions i ≡ Some t → LeavesInJump h t c.args.sets.now over)) (IsOverflowIn (Leaves h (turn_at h c.args.index) c.args.sets.now))
    (leaves_behind h c.args.index i behind same below c.args.sets.now) c.jump_turn.ensures.overflow

pub returns-clause-conversion : goal.returns-clause-conversion
returns-clause-conversion g c =
    let h = c.args.self.now in
    let i = c.args.index - c.locs-locations.result in
    let places : c.locs-locations.result ≡ length h.system.initial = c.locs-locations.ensures.value ∙ ap (λ (s : TransitionSystem). length s.initial) c.system.ensures.value in
    let behind : ¬ (c.args.index < length h.system.initial) = λ l. omega (arith, l, places, c.if-index-locations.false) in
    let same : i ≡ c.args.index - length h.system.initial = ap (λ (n : ℕ). c.args.index - n) places in
    let below : i < length h.system.transitions = omega (arith, behind, places, c.requires.index) in
    counts_behind h c.args.index i behind same below c.args.sets.now _ _ _ c.jump_turn.ensures.conversion

pub returns-then-index-locations-clause-conversion : goal.returns-then-index-locations-clause-conversion
returns-then-index-locations-clause-conversion g c =
    let h = c.args.self.now in
    let below : c.args.index < length h.system.initial = subst (λ (s : TransitionSystem). c.args.index < length s.initial) c.system.ensures.value (omega (arith, c.locs-locations.ensures.value, c.if-index-locations.true)) in
    subst (λ (t : Turn). Counts h t c.args.sets.now c.args.steps.now c.time_turn.new.steps (overflow_in conv_overflow c.time_turn.result)) (sym (at_time h c.args.index below)) c.time_turn.ensures.conversion
