use Rattle.std.proofs.Common.{◌≡◌, ℕ, ◌<◌, [], take, length, get_or, subst, sym, ◌∙◌, arith, take_all, inl, inr}
use Rattle.grammar.specs.Derivative.{after_rows}
use Rattle.grammar.specs.SameRows.{SameRows}
use Rattle.grammar.specs.Machine.{next}
use Rattle.grammar.proofs.Columns.{Means, means_start, means_step, column_within, column_behind, matches_from_end}
use Rattle.grammar.proofs.machine.Machine.column_by_byte.Goals as goal

pub loop-index-init : goal.loop-index-init
loop-index-init c form d = (d.first, subst (λ x. Means form [] x) (sym d.start) (means_start form d.alive))

pub returns-then-state : goal.returns-then-state
returns-then-state c form d =
    let text = c.args.text.now in
    let i = c.loop-index.index in
    let within : i < length text = omega arith in
    let h = c.loop-index.invariant form d in
    let byte : get_or text i 0 < 256 = omega (arith, c.type_inv.text i) in
    let s = d.goes c.loop-index.state (get_or text i 0) h.0 byte in
    let new : next c.args.self.now.classes.now c.args.self.now.steps.now c.loop-index.state (get_or text i 0) ≡ 255 = sym c.state_after-state.ensures ∙ c.if-state.true in
    column_within form text i (d.rows c.loop-index.state) (d.rows 255) within
    h.1 (d.some c.loop-index.state h.0)
    (means_step form text i (d.rows c.loop-index.state) (d.rows 255) within h.1
    (subst (λ (x : ℕ). SameRows (after_rows (get_or text i 0) (d.rows c.loop-index.state)) (d.rows x)) new s.same)) d.none

pub loop-index-preserved : goal.loop-index-preserved
loop-index-preserved c form d =
    let text = c.args.text.now in
    let i = c.loop-index.index in
    let within : i < length text = omega arith in
    let h = c.loop-index.invariant form d in
    let byte : get_or text i 0 < 256 = omega (arith, c.type_inv.text i) in
    let s = d.goes c.loop-index.state (get_or text i 0) h.0 byte in
    let new : next c.args.self.now.classes.now c.args.self.now.steps.now c.loop-index.state (get_or text i 0) ≡ c.state_after-state.result = sym c.state_after-state.ensures in (
      elim s.known [ inl x ↦ absurd (c.if-state.false (c.state_after-state.ensures ∙ x)) | inr y ↦ subst (λ (x : ℕ). x < d.states) new y ],
      means_step form text i (d.rows c.loop-index.state) (d.rows c.state_after-state.result) within h.1
          (subst (λ (x : ℕ). SameRows (after_rows (get_or text i 0) (d.rows c.loop-index.state)) (d.rows x)) new s.same),
    )

pub returns-then-may_end : goal.returns-then-may_end
returns-then-may_end c form d =
    let h = c.loop-index.invariant form d in
    let whole : take c.loop-index.index c.args.text.now ≡ c.args.text.now = take_all c.loop-index.index c.args.text.now (omega arith) in
    matches_from_end form c.args.text.now (d.rows c.loop-index.state)
    (subst (λ x. Means form x (d.rows c.loop-index.state)) whole h.1) (sym (d.end c.loop-index.state h.0) ∙ sym c.may_end.ensures ∙ c.if-may_end.true)

pub returns-else-may_end : goal.returns-else-may_end
returns-else-may_end c form d =
    let h = c.loop-index.invariant form d in
    let whole : take c.loop-index.index c.args.text.now ≡ c.args.text.now = take_all c.loop-index.index c.args.text.now (omega arith) in
    column_behind form c.args.text.now (d.rows c.loop-index.state)
    (subst (λ x. Means form x (d.rows c.loop-index.state)) whole h.1) (d.some c.loop-index.state h.0)
    (sym (d.end c.loop-index.state h.0) ∙ sym c.may_end.ensures ∙ c.if-may_end.false)
