use Rattle.std.specs.Prelude.{◌-◌, ◌+◌, Bool}
use Rattle.std.proofs.Common.{sym, subst, arith}
use Rattle.chernikova.specs.Conversion.{TellsChange}
use Rattle.chernikova.specs.Plans.{lists_of}
use Rattle.chernikova.proofs.Counts.{count_none}
use Rattle.chernikova.proofs.Slack.{plan_counted}
use Rattle.chernikova.proofs.Told.{plan_tells}
use Rattle.chernikova.proofs.conversion.take_row.Goals as goal

pub returns-in_err-plan-clause-counted : goal.returns-in_err-plan-clause-counted
returns-in_err-plan-clause-counted g c = count_none c.args.rows.now.width c.args.rows.now.rows c.args.k _ c.requires.row (omega arith)

pub returns-in_err-take_planned-clause-counted : goal.returns-in_err-take_planned-clause-counted
returns-in_err-take_planned-clause-counted g c =
    plan_counted c.args.rows.now.width c.args.rows.now.rows c.args.k c.args.cone.now (lists_of c.plan_row.new.scratch) c.in_ok-plan.plan (c.take_planned.new.steps - c.args.steps.now) c.requires.row c.requires.state c.in_ok-plan.ensures.plan (omega (arith, c.take_planned.ensures.counted))

pub returns-clause-changed : goal.returns-clause-changed
returns-clause-changed g c =
    subst (λ (b : Bool). TellsChange c.args.rows.now.width c.args.rows.now.rows c.args.k (c.args.k + 1) b) (sym c.changes-changed.ensures)
    (plan_tells c.args.rows.now.width c.args.rows.now.rows c.args.k c.args.cone.now (lists_of c.plan_row.new.scratch) c.in_ok-plan.plan c.requires.row c.requires.state c.in_ok-plan.ensures.plan)

pub returns-clause-counted : goal.returns-clause-counted
returns-clause-counted g c =
    plan_counted c.args.rows.now.width c.args.rows.now.rows c.args.k c.args.cone.now (lists_of c.plan_row.new.scratch) c.in_ok-plan.plan (c.take_planned.new.steps - c.args.steps.now) c.requires.row c.requires.state c.in_ok-plan.ensures.plan (omega (arith, c.take_planned.ensures.counted))
