use Rattle.std.specs.Prelude.{◌+◌, ◌≤◌, Bool}
use Rattle.std.proofs.Common.{subst, arith}
use Rattle.row_core.specs.Lists.{is_eq_at}
use Rattle.chernikova.specs.Plans.{lists_of, kept_of}
use Rattle.chernikova.proofs.Counts.{count_none}
use Rattle.chernikova.proofs.Slack.{has_less, kept_counted}
use Rattle.chernikova.proofs.Positions.{has_values}
use Rattle.chernikova.proofs.better_order.Race.take_row.Goals as goal

pub looks_upto-first-requires : goal.looks_upto-first-requires
looks_upto-first-requires g c = has_values c.args.rows.now.width c.args.rows.now.rows c.args.k c.args.self.now.first.system (lists_of c.row_position.new.scratch) c.in_ok-position.position c.requires.state c.in_ok-position.ensures.position

pub returns-in_err-position-clause-counted : goal.returns-in_err-position-clause-counted
returns-in_err-position-clause-counted g c = count_none c.args.rows.now.width c.args.rows.now.rows c.args.k _ c.requires.row (omega arith)

pub returns-then-is_done-clause-counted : goal.returns-then-is_done-clause-counted
returns-then-is_done-clause-counted g c =
    let kept : c.kept-kept.result ≤ kept_of (is_eq_at c.args.rows.now.rows c.args.k) c.args.self.now.first.system (lists_of c.row_position.new.scratch) c.in_ok-position.position =
    subst (λ (eq : Bool). c.kept-kept.result ≤ kept_of eq c.args.self.now.first.system (lists_of c.row_position.new.scratch) c.in_ok-position.position) c.is_eq.ensures (omega (arith, c.kept-kept.ensures)) in
    kept_counted c.args.rows.now.width c.args.rows.now.rows c.args.k c.args.self.now.first.system (lists_of c.row_position.new.scratch) c.in_ok-position.position _ c.requires.row c.requires.state c.in_ok-position.ensures.position (omega (arith, kept, c.catch_up.ensures.within))

pub take_placed-requires-clause-kept : goal.take_placed-requires-clause-kept
take_placed-requires-clause-kept g c =
    subst (λ (eq : Bool). c.kept-kept.result ≤ kept_of eq c.args.self.now.first.system (lists_of c.row_position.new.scratch) c.in_ok-position.position) c.is_eq.ensures (omega (arith, c.kept-kept.ensures))

pub returns-in_err-take_placed-clause-counted : goal.returns-in_err-take_placed-clause-counted
returns-in_err-take_placed-clause-counted g c =
    has_less c.args.rows.now.width c.args.rows.now.rows (c.args.k + 1) _ _ c.take_placed.ensures.counted (omega (arith, c.catch_up.ensures.within, c.catch_up.ensures.no_fewer, c.take_placed.ensures.no_fewer))

pub returns-clause-counted : goal.returns-clause-counted
returns-clause-counted g c =
    has_less c.args.rows.now.width c.args.rows.now.rows (c.args.k + 1) _ _ c.take_placed.ensures.counted (omega (arith, c.catch_up.ensures.within, c.catch_up.ensures.no_fewer, c.take_placed.ensures.no_fewer))

pub returns-clause-done : goal.returns-clause-done
returns-clause-done g c = c.in_ok-take_placed.ensures.state

pub take_placed-requires-clause-state : goal.take_placed-requires-clause-state
take_placed-requires-clause-state g c = c.requires.state

pub take_placed-requires-clause-row : goal.take_placed-requires-clause-row
take_placed-requires-clause-row g c = c.requires.row

pub take_placed-requires-clause-position : goal.take_placed-requires-clause-position
take_placed-requires-clause-position g c = c.in_ok-position.ensures.position

pub catch_up-requires : goal.catch_up-requires
catch_up-requires g c = c.requires.beside

pub is_done-requires : goal.is_done-requires
is_done-requires g c = c.catch_up.ensures.beside

pub returns-clause-beside : goal.returns-clause-beside
returns-clause-beside g c = c.catch_up.ensures.beside

pub returns-then-is_done-clause-beside : goal.returns-then-is_done-clause-beside
returns-then-is_done-clause-beside g c = c.catch_up.ensures.beside

pub returns-in_err-take_placed-clause-beside : goal.returns-in_err-take_placed-clause-beside
returns-in_err-take_placed-clause-beside g c = c.catch_up.ensures.beside

pub returns-then-is_done-clause-done : goal.returns-then-is_done-clause-done
returns-then-is_done-clause-done g c = c.is_done.ensures c.if-is_done.true

pub returns-then-is_done-clause-no_fewer : goal.returns-then-is_done-clause-no_fewer
returns-then-is_done-clause-no_fewer g c = c.catch_up.ensures.no_fewer

pub returns-in_err-take_placed-clause-no_fewer : goal.returns-in_err-take_placed-clause-no_fewer
returns-in_err-take_placed-clause-no_fewer g c = omega (arith, c.catch_up.ensures.no_fewer, c.take_placed.ensures.no_fewer)

pub returns-clause-no_fewer : goal.returns-clause-no_fewer
returns-clause-no_fewer g c = omega (arith, c.catch_up.ensures.no_fewer, c.take_placed.ensures.no_fewer)
