use Rattle.line_values.proofs.EffectLemmas.{performed_as}
use Rattle.command_tasks.specs.declared.on_polyhedra.Given.{Given}
use Rattle.poly_makers.specs.Meanings.{made_alone}
use Rattle.poly_makers.proofs.commands.make_alone.Goals as goal

pub cons-requires-clause-form : goal.cons-requires-clause-form
cons-requires-clause-form g c = (rw c.in-Cons.is at c.requires).form

pub cons-requires-clause-told : goal.cons-requires-clause-told
cons-requires-clause-told g c = (rw c.in-Cons.is at c.requires).told

pub gens-requires-clause-form : goal.gens-requires-clause-form
gens-requires-clause-form g c = (rw c.in-Gens.is at c.requires).form

pub gens-requires-clause-told : goal.gens-requires-clause-told
gens-requires-clause-told g c = (rw c.in-Gens.is at c.requires).told

pub returns-in-Cons : goal.returns-in-Cons
returns-in-Cons g c = performed_as (λ (b : Given). made_alone b c.args.full c.args.topology c.args.n) c.args.by _ c.cons.result c.in-Cons.is c.cons.ensures

pub returns-in-Gens : goal.returns-in-Gens
returns-in-Gens g c = performed_as (λ (b : Given). made_alone b c.args.full c.args.topology c.args.n) c.args.by _ c.gens.result c.in-Gens.is c.gens.ensures

pub returns-in-Space : goal.returns-in-Space
returns-in-Space g c = performed_as (λ (b : Given). made_alone b c.args.full c.args.topology c.args.n) c.args.by _ c.space.result c.in-Space.is c.space.ensures
