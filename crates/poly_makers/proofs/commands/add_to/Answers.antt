use Rattle.std.proofs.Common.{ap}
use Rattle.std.specs.Option.{option_copied}
use Rattle.poly_makers.specs.Meanings.{added}
use Rattle.line_values.proofs.FoundOperands.{on_one_as}
use Rattle.poly_makers.proofs.commands.add_to.Goals as goal

pub add-requires-clause-form : goal.add-requires-clause-form
add-requires-clause-form g c = (rw c.in-Cons.is at c.requires).form

pub add-requires-clause-told : goal.add-requires-clause-told
add-requires-clause-told g c = (rw c.in-Cons.is at c.requires).told

pub addgen-requires-clause-form : goal.addgen-requires-clause-form
addgen-requires-clause-form g c = (rw c.in-Gens.is at c.requires).form

pub addgen-requires-clause-told : goal.addgen-requires-clause-told
addgen-requires-clause-told g c = (rw c.in-Gens.is at c.requires).told

pub returns-in-Cons : goal.returns-in-Cons
returns-in-Cons g c = on_one_as added c.args.addition _ (option_copied c.args.p) c.in-Some.p.now c.add.result (ap option_copied c.in-Some.is) c.in-Cons.is c.add.ensures

pub returns-in-Gens : goal.returns-in-Gens
returns-in-Gens g c = on_one_as added c.args.addition _ (option_copied c.args.p) c.in-Some.p.now c.addgen.result (ap option_copied c.in-Some.is) c.in-Gens.is c.addgen.ensures
