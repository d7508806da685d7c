use Rattle.std.proofs.Common.{ap}
use Rattle.std.specs.Option.{option_copied}
use Rattle.command_tasks.specs.declared.on_polyhedra.OfTwo.{OfTwo}
use Rattle.poly_makers.specs.Meanings.{made_of_two}
use Rattle.line_values.proofs.FoundOperands.{on_two_as}
use Rattle.poly_makers.proofs.commands.make_of_two.Goals as goal

pub returns-in-Operate : goal.returns-in-Operate
returns-in-Operate g c = on_two_as (λ (b : OfTwo). made_of_two b c.args.full) c.args.by _ (option_copied c.args.p) (option_copied c.args.q) c.in-Some.p.now c.in-Some-q.q.now c.of_two.result (ap option_copied c.in-Some.is) (ap option_copied c.in-Some-q.is) c.in-Operate.is c.of_two.ensures

pub returns-in-Widen : goal.returns-in-Widen
returns-in-Widen g c = on_two_as (λ (b : OfTwo). made_of_two b c.args.full) c.args.by _ (option_copied c.args.p) (option_copied c.args.q) c.in-Some.p.now c.in-Some-q.q.now c.widen.result (ap option_copied c.in-Some.is) (ap option_copied c.in-Some-q.is) c.in-Widen.is c.widen.ensures
