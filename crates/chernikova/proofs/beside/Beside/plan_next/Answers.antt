use Rattle.std.specs.Prelude.{◌≡◌, false, Option, Some, None, is_some, IfSome}
use Rattle.std.proofs.Common.{sym, subst, ◌∙◌}
use Rattle.std.proofs.lemmas.Bool.{false≢true}
use Rattle.chernikova.specs.Conversion.{IsState}
use Rattle.chernikova.specs.Plans.{lists_of, IsPlan}
use Rattle.chernikova.specs.Beside.{IsPlanned, IsRunning, IsSearchOfRow}
use Rattle.chernikova.specs.declared.beside.Beside.{Beside}
use Rattle.chernikova.specs.declared.plan.Plan.{Plan}
use Rattle.chernikova.specs.declared.taking.Search.{Search}
use Rattle.chernikova.proofs.beside.Beside.plan_next.Goals as goal
use Rattle.chernikova.proofs.beside.Beside.plan_next.Goals.{in-Ok-Found, in-Ok-Dear, in-Err}

-- what isn't known is no plan
none_planned : (p : Option Plan) (P : Plan → Type 0) → is_some p ≡ false → IfSome p P
none_planned None P h = tt
none_planned (Some plan) P h = absurd (false≢true (sym h))

pub returns-clause-state : goal.returns-clause-state
returns-clause-state c =
    let P : Beside → Type 0 = λ b. IsState b.rows.width b.rows.rows b.taken b.system in
    elim c.match-plan_row_within.branch [
      | in-Ok-Found w ↦ subst P (sym w.self-is) c.requires.state
      | in-Ok-Dear w ↦ subst P (sym w.self-is) c.requires.state
      | in-Err w ↦ subst P (sym w.self-is) c.requires.state
    ]

pub returns-clause-planned : goal.returns-clause-planned
returns-clause-planned c =
    let P : Beside → Type 0 = λ b. IsPlanned b in
    let S : Search → Type 0 = λ s. IsSearchOfRow c.args.self.now.rows.rows c.args.self.now.taken c.args.self.now.system (lists_of c.plan_row_within.new.scratch) s in
    let none : IfSome c.args.self.now.plan (IsPlan c.args.self.now.rows.rows c.args.self.now.taken c.args.self.now.system (lists_of c.plan_row_within.new.scratch)) =
    none_planned c.args.self.now.plan (IsPlan c.args.self.now.rows.rows c.args.self.now.taken c.args.self.now.system (lists_of c.plan_row_within.new.scratch)) (sym c.is_some.ensures ∙ c.if-is_some.false) in
    elim c.match-plan_row_within.branch [
      | in-Ok-Found w ↦ subst P (sym w.self-is) (subst S w.in-Ok-Found.field-0-is w.in-Ok-Found.ensures)
      | in-Ok-Dear w ↦ subst P (sym w.self-is) none
      | in-Err w ↦ subst P (sym w.self-is) none
    ]

pub returns-clause-running : goal.returns-clause-running
returns-clause-running c = λ width rows h.
    let P : Beside → Type 0 = λ b. IsRunning width rows b in
    let S : Search → Type 0 = λ s. IsSearchOfRow c.args.self.now.rows.rows c.args.self.now.taken c.args.self.now.system (lists_of c.plan_row_within.new.scratch) s in
    let none : IfSome c.args.self.now.plan (IsPlan c.args.self.now.rows.rows c.args.self.now.taken c.args.self.now.system (lists_of c.plan_row_within.new.scratch)) =
    none_planned c.args.self.now.plan (IsPlan c.args.self.now.rows.rows c.args.self.now.taken c.args.self.now.system (lists_of c.plan_row_within.new.scratch)) (sym c.is_some.ensures ∙ c.if-is_some.false) in
    elim c.match-plan_row_within.branch [
      | in-Ok-Found w ↦ subst P (sym w.self-is) (record { same_width = h.same_width; reordered = h.reordered; taken = h.taken; state = h.state; planned = subst S w.in-Ok-Found.field-0-is w.in-Ok-Found.ensures })
      | in-Ok-Dear w ↦ subst P (sym w.self-is) (record { same_width = h.same_width; reordered = h.reordered; taken = h.taken; state = h.state; planned = none })
      | in-Err w ↦ subst P (sym w.self-is) (record { same_width = h.same_width; reordered = h.reordered; taken = h.taken; state = h.state; planned = none })
    ]
