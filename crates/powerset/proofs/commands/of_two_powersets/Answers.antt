use Rattle.std.proofs.Common.{◌≡◌, Option, Some, Ok, Err, ◌∙◌, rules, sym, ap, subst}
use Rattle.std.specs.Option.{option_copied}
use Rattle.powerset.specs.Powersets.{FinitePowerset}
use Rattle.line_values.specs.Meaning.{on_two}
use Rattle.powerset.specs.Commands.{of_two_powersets}
use Rattle.line_values.specs.Performed.{IsPerformed}
use Rattle.line_values.proofs.PerformedLemmas.{found_two, not_full, leaves}
use Rattle.powerset.proofs.CommandLemmas.{unions_pass}
use Rattle.powerset.proofs.commands.of_two_powersets.Goals as goal

pub returns-in-Err : goal.returns-in-Err
returns-in-Err g c =
    let s : FinitePowerset = c.in-Some.s.now in
    let t : FinitePowerset = c.in-Some-t.t.now in
    let topologies : s.topology ≡ t.topology = search rules in
    let dims : s.dim ≡ t.dim = sym c.dim.ensures.value ∙ c.if-dim.false ∙ c.dim-2.ensures.value in
    let room = not_full c.args.full c.if-full.false in
    let passes = unions_pass s t c.args.full topologies dims room in
    let one : option_copied c.args.s ≡ Some s = ap option_copied c.in-Some.is in
    let other : option_copied c.args.t ≡ Some t = ap option_copied c.in-Some-t.is in
    subst (λ (o : Option FinitePowerset). IsPerformed (on_two o (option_copied c.args.t) (of_two_powersets c.args.op c.args.full)) (Err c.from.result)) (sym one)
    (subst (λ (o : Option FinitePowerset). IsPerformed (on_two (Some s) o (of_two_powersets c.args.op c.args.full)) (Err c.from.result)) (sym other)
    (rw c.from.ensures (leaves (of_two_powersets c.args.op c.args.full s t) c.in-Err.cause passes c.in-Err.ensures.overflow)))

pub returns-in-Ok : goal.returns-in-Ok
returns-in-Ok g c =
    let s : FinitePowerset = c.in-Some.s.now in
    let t : FinitePowerset = c.in-Some-t.t.now in
    let topologies : s.topology ≡ t.topology = search rules in
    let dims : s.dim ≡ t.dim = sym c.dim.ensures.value ∙ c.if-dim.false ∙ c.dim-2.ensures.value in
    found_two (option_copied c.args.s) (option_copied c.args.t) s t (of_two_powersets c.args.op c.args.full) (Ok c.in-Ok.made) (ap option_copied c.in-Some.is) (ap option_copied c.in-Some-t.is)
    (unions_pass s t c.args.full topologies dims (not_full c.args.full c.if-full.false), c.in-Ok.ensures.made)
