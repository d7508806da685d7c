use Rattle.std.specs.Prelude.{List}
use Rattle.std.proofs.Common.{sym, subst, ◌∙◌}
use Rattle.row_core.specs.Lists.{Row, vectors}
use Rattle.chernikova.specs.Faults.{IsCombineFault}
use Rattle.chernikova.specs.Plans.{StepLists, lists_of, IsPlan}
use Rattle.chernikova.proofs.RoomLemmas.{same_state, same_plan}
use Rattle.chernikova.proofs.taking.take_planned.Goals as goal

pub carry_out-requires-clause-ready : goal.carry_out-requires-clause-ready
carry_out-requires-clause-ready g c = record {
  before = c.args.cone.now.sat;
  state = same_state c.args.rows.now.width c.args.rows.now.rows c.args.k c.args.cone.now c.make_room.new.cone c.make_room.ensures.same c.requires.state;
  planned =
      let P : StepLists → Type 0 = λ lists. IsPlan c.args.rows.now.rows c.args.k (record c.make_room.new.cone { sat = c.args.cone.now.sat }) lists c.args.plan in
      subst P (sym c.make_room.ensures.lists) (same_plan c.args.rows.now.rows c.args.k c.args.cone.now c.make_room.new.cone (lists_of c.args.scratch.now) c.args.plan c.make_room.ensures.same c.requires.plan);
  column = c.in_ok-make_room.ensures.column;
  room = c.in_ok-make_room.ensures.room;
}

pub overflow_of_combination-requires-clause-fault : goal.overflow_of_combination-requires-clause-fault
overflow_of_combination-requires-clause-fault g c =
    let L : List Row → Type 0 = λ ls. IsCombineFault c.args.rows.now.rows c.args.k (vectors ls) (vectors c.make_room.new.cone.rays.rows) c.in-Err.fault in
    let R : List Row → Type 0 = λ rs. IsCombineFault c.args.rows.now.rows c.args.k (vectors c.carry_out.new.cone.lines.rows) (vectors rs) c.in-Err.fault in
    subst R (sym c.in-Err.ensures.same.rays.rows) (subst L (sym c.in-Err.ensures.same.lines.rows) c.in-Err.ensures.state)

pub overflow_of_combination-requires-clause-lines : goal.overflow_of_combination-requires-clause-lines
overflow_of_combination-requires-clause-lines g c = c.in-Err.ensures.same.lines.width ∙ c.make_room.ensures.same.lines.width ∙ c.requires.state.lists.lines_wide

pub overflow_of_combination-requires-clause-rays : goal.overflow_of_combination-requires-clause-rays
overflow_of_combination-requires-clause-rays g c = c.in-Err.ensures.same.rays.width ∙ c.make_room.ensures.same.rays.width ∙ c.requires.state.lists.rays_wide

pub overflow_of_combination-requires-clause-narrow : goal.overflow_of_combination-requires-clause-narrow
overflow_of_combination-requires-clause-narrow g c = c.requires.state.narrow

pub overflow_of_combination-requires-clause-row : goal.overflow_of_combination-requires-clause-row
overflow_of_combination-requires-clause-row g c = c.requires.row

pub returns-clause-state : goal.returns-clause-state
returns-clause-state g c = c.in_default.ensures.state
