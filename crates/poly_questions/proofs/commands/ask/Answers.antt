use Rattle.line_values.proofs.EffectLemmas.{performed_as, on_found, on_two_found}
use Rattle.poly_questions.specs.Lattice.{compared}
use Rattle.poly_questions.specs.Meanings.{said_of_one, said}
use Rattle.poly_questions.proofs.commands.ask.Goals as goal

pub ask_of_one-requires : goal.ask_of_one-requires
ask_of_one-requires g c = rw c.in-OfOne.is at c.requires

pub returns-in-OfOne : goal.returns-in-OfOne
returns-in-OfOne g c =
    performed_as (said g.E.PolyEntry.as_poly c.args.names.now) c.args.question _ c.ask_of_one.result c.in-OfOne.is
    (on_found (said_of_one c.in-OfOne.about) c.ask_of_one.result c.poly_at.ensures c.ask_of_one.ensures)

pub returns-in-Compare : goal.returns-in-Compare
returns-in-Compare g c =
    performed_as (said g.E.PolyEntry.as_poly c.args.names.now) c.args.question _ c.compare.result c.in-Compare.is
    (on_two_found (compared c.in-Compare.by) c.compare.result c.poly_at-one.ensures c.poly_at-in-Compare.ensures c.compare.ensures)

pub returns-in-Names : goal.returns-in-Names
returns-in-Names g c = performed_as (said g.E.PolyEntry.as_poly c.args.names.now) c.args.question _ c.name_list.result c.in-Names.is c.name_list.ensures
