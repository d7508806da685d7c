use Rattle.std.proofs.Common.{ap}
use Rattle.std.specs.Option.{option_copied}
use Rattle.command_tasks.specs.declared.on_polyhedra.OfOne.{OfOne}
use Rattle.poly_makers.specs.Meanings.{made_of_one}
use Rattle.line_values.proofs.FoundOperands.{on_one_as}
use Rattle.poly_makers.proofs.commands.make_of_one.Goals as goal

pub mapped_by-requires : goal.mapped_by-requires
mapped_by-requires g c = record { form = rw c.in-Map.is at c.requires }

pub returns-in-Copy : goal.returns-in-Copy
returns-in-Copy g c = on_one_as (λ (b : OfOne). made_of_one b c.args.full) c.args.by _ (option_copied c.args.p) c.in-Some.p.now c.copy.result (ap option_copied c.in-Some.is) c.in-Copy.is c.copy.ensures

pub returns-in-Closure : goal.returns-in-Closure
returns-in-Closure g c = on_one_as (λ (b : OfOne). made_of_one b c.args.full) c.args.by _ (option_copied c.args.p) c.in-Some.p.now c.closure.result (ap option_copied c.in-Some.is) c.in-Closure.is c.closure.ensures

pub returns-in-Map : goal.returns-in-Map
returns-in-Map g c = on_one_as (λ (b : OfOne). made_of_one b c.args.full) c.args.by _ (option_copied c.args.p) c.in-Some.p.now c.mapped_by.result (ap option_copied c.in-Some.is) c.in-Map.is c.mapped_by.ensures

pub returns-in-Extend : goal.returns-in-Extend
returns-in-Extend g c = on_one_as (λ (b : OfOne). made_of_one b c.args.full) c.args.by _ (option_copied c.args.p) c.in-Some.p.now c.extend.result (ap option_copied c.in-Some.is) c.in-Extend.is c.extend.ensures

pub returns-in-Remove : goal.returns-in-Remove
returns-in-Remove g c = on_one_as (λ (b : OfOne). made_of_one b c.args.full) c.args.by _ (option_copied c.args.p) c.in-Some.p.now c.remove.result (ap option_copied c.in-Some.is) c.in-Remove.is c.remove.ensures
