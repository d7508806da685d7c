use Rattle.std.specs.Prelude.{◌+◌, ℕ, IfSome}
use Rattle.std.proofs.Common.{subst, sym, arith, Option}
use Rattle.chernikova.specs.declared.plan.Plan.{Plan}
use Rattle.chernikova.specs.Conversion.{IsState}
use Rattle.chernikova.specs.Plans.{lists_of, IsPlan}
use Rattle.std.proofs.lemmas.Bool.{false≢true}
use Rattle.chernikova.proofs.beside.Beside.take_in.Goals as goal

pub returns-clause-beside : goal.returns-clause-beside
returns-clause-beside g c = λ width rows h runs.
    let P : ℕ → Type 0 = λ w. IsState w c.args.self.now.rows.rows (c.args.self.now.taken + 1) c.take_planned.new.cone in
    let Q : Option Plan → Type 0 = λ p. IfSome p (IsPlan c.args.self.now.rows.rows (c.args.self.now.taken + 1) c.take_planned.new.cone (lists_of c.take_planned.new.scratch)) in
    record {
      same_width = h.same_width;
      reordered = h.reordered;
      taken = omega (arith, c.requires.row, h.reordered.as_many);
      state = subst P h.same_width c.in-Ok.ensures.state;
      planned = subst Q (sym c.take.ensures.after) tt;
    }

pub returns-then-combinations-slack-clause-beside : goal.returns-then-combinations-slack-clause-beside
returns-then-combinations-slack-clause-beside g c = λ width rows h runs.
    record { same_width = h.same_width; reordered = h.reordered; taken = h.taken; state = h.state; planned = subst (λ (p : Option Plan). IfSome p (IsPlan c.args.self.now.rows.rows c.args.self.now.taken c.args.self.now.system (lists_of c.args.self.now.scratch))) (sym c.in-Some.ensures.value) h.planned }

pub returns-in_default-clause-beside : goal.returns-in_default-clause-beside
returns-in_default-clause-beside g c = λ width rows h runs.
    record { same_width = h.same_width; reordered = h.reordered; taken = h.taken; state = h.state; planned = subst (λ (p : Option Plan). IfSome p (IsPlan c.args.self.now.rows.rows c.args.self.now.taken c.args.self.now.system (lists_of c.args.self.now.scratch))) (sym c.take.ensures.after) tt }

pub returns-in_default-take_planned-clause-beside : goal.returns-in_default-take_planned-clause-beside
returns-in_default-take_planned-clause-beside g c = λ width rows h runs. absurd (false≢true runs)
