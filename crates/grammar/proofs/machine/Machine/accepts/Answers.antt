use Rattle.std.proofs.Common.{◌≡◌, ℕ, ◌+◌, ◌*◌, ◌<◌, ◌≤◌, List, [], length, take, get_or, subst, sym, ap, ◌∙◌, arith, take_all, inl, inr}
use Rattle.std.specs.Prelude.{slice_index_or}
use Rattle.std.proofs.lemmas.List.{get_or_past}
use Rattle.grammar.specs.Derivative.{after_rows}
use Rattle.grammar.specs.SameRows.{SameRows}
use Rattle.grammar.specs.Machine.{next}
use Rattle.grammar.proofs.Columns.{Means, means_start, means_step, matches_from_end}
use Rattle.grammar.proofs.machine.Machine.accepts.Goals as goal

-- no step leads out of the dead state
dead_stays : (classes steps : List ℕ) (b : ℕ) → length steps ≤ 8160 → next classes steps 255 b ≡ 255
dead_stays classes steps b few = get_or_past steps (255 * 32 + slice_index_or classes b 0) 255 (omega arith)

pub loop-byte-init : goal.loop-byte-init
loop-byte-init c form d = inr (d.first, subst (λ x. Means form [] x) (sym d.start) (means_start form d.alive))

pub loop-byte-preserved : goal.loop-byte-preserved
loop-byte-preserved c form d =
    let text = c.args.text.now in
    let i = c.loop-byte.byte-index in
    let within : i < length text = omega arith in
    let byte : get_or text i 0 < 256 = omega (arith, c.type_inv.text i) in
    let few : length c.args.self.now.steps.now ≤ 8160 = omega arith in
    elim (c.loop-byte.invariant form d) [
      | inl dead ↦ inl (c.state_after-state.ensures ∙ ap (λ x. next c.args.self.now.classes.now c.args.self.now.steps.now x (get_or text i 0)) dead ∙ dead_stays c.args.self.now.classes.now c.args.self.now.steps.now (get_or text i 0) few)
      | inr h ↦ (let s = d.goes c.loop-byte.state (get_or text i 0) h.0 byte in
          let new : next c.args.self.now.classes.now c.args.self.now.steps.now c.loop-byte.state (get_or text i 0) ≡ c.state_after-state.result = sym c.state_after-state.ensures in
          elim s.known [
            | inl dead ↦ inl (c.state_after-state.ensures ∙ dead)
            | inr y ↦ inr (
              subst (λ (x : ℕ). x < d.states) new y,
              means_step form text i (d.rows c.loop-byte.state) (d.rows c.state_after-state.result) within h.1
                  (subst (λ (x : ℕ). SameRows (after_rows (get_or text i 0) (d.rows c.loop-byte.state)) (d.rows x)) new s.same),
            )
          ])
    ]

pub returns : goal.returns
returns c form d ended =
    let whole : take c.loop-byte.byte-index c.args.text.now ≡ c.args.text.now = take_all c.loop-byte.byte-index c.args.text.now (omega arith) in
    elim (c.loop-byte.invariant form d) [
      | inl dead ↦ absurd (c.if-state.false dead)
      | inr h ↦ matches_from_end form c.args.text.now (d.rows c.loop-byte.state) (subst (λ x. Means form x (d.rows c.loop-byte.state)) whole h.1) (sym (d.end c.loop-byte.state h.0) ∙ sym c.may_end.ensures ∙ ended)
    ]
