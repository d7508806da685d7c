use Rattle.std.specs.Prelude.{◌-◌, ◌+◌, ℕ}
use Rattle.std.proofs.Common.{arith, inl, inr}
use Rattle.std.proofs.lemmas.Bool.{cases_lt}
use Rattle.cone_laws.specs.SystemLaws.{HasSystemOf}
use Rattle.chernikova.specs.Plans.{lists_of}
use Rattle.chernikova.proofs.Slack.{has_less, plan_counted, kept_counted, placed_counted, spared_counted}
use Rattle.chernikova.proofs.list_order.ListOrder.take_placed.Goals as goal

pub returns-in_err-plan-clause-counted : goal.returns-in_err-plan-clause-counted
returns-in_err-plan-clause-counted g c =
    kept_counted c.args.rows.now.width c.args.rows.now.rows c.args.k c.args.self.now.system (lists_of c.args.self.now.scratch) c.args.position _ c.requires.row c.requires.state c.requires.position (omega (arith, c.requires.kept))

pub returns-in_err-take_planned-clause-counted : goal.returns-in_err-take_planned-clause-counted
returns-in_err-take_planned-clause-counted g c =
    placed_counted c.args.rows.now.width c.args.rows.now.rows c.args.k c.args.self.now.system (lists_of c.args.self.now.scratch) (lists_of c.plan_of_position.new.scratch) c.args.position c.in_ok-plan.plan _ c.requires.row c.requires.state c.requires.position c.in_ok-plan.ensures (omega (arith, c.requires.kept, c.take_planned.ensures.counted))

pub returns-clause-counted : goal.returns-clause-counted
returns-clause-counted g c =
    let width = c.args.rows.now.width in
    let rows = c.args.rows.now.rows in
    let k = c.args.k in
    let made : ℕ = c.take_planned.new.steps - c.args.steps.now in
    let gain : ℕ = c.args.kept + c.take_planned.new.steps + c.saturating_add-self.result - (c.args.steps.now + c.args.self.now.slack) in
    elim (cases_lt c.saturating_sub-spared.result c.args.kept) [
      | inl few ↦
          placed_counted width rows k c.args.self.now.system (lists_of c.args.self.now.scratch) (lists_of c.plan_of_position.new.scratch) c.args.position c.in_ok-plan.plan gain c.requires.row c.requires.state c.requires.position c.in_ok-plan.ensures
          (omega (arith, few, c.requires.kept, c.take_planned.ensures.counted))
      | inr many ↦
          let spared : HasSystemOf width rows (k + 1) (made + c.saturating_sub-spared.result) =
          spared_counted width rows (k + 1) c.take_planned.new.cone made c.combinations-made.result c.saturating_sub-spared.result c.in_ok-take_planned.ensures.state
          (plan_counted width rows k c.args.self.now.system (lists_of c.plan_of_position.new.scratch) c.in_ok-plan.plan made c.requires.row c.requires.state c.in_ok-plan.ensures (omega (arith, c.take_planned.ensures.counted)))
          (omega (arith, c.take_planned.ensures.counted, c.combinations-made.ensures))
          (omega arith) in
          has_less width rows (k + 1) (made + c.saturating_sub-spared.result) gain spared (omega (arith, many, c.take_planned.ensures.no_fewer))
    ]
