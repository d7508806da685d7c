use Rattle.line_values.proofs.EffectLemmas.{performed_as, on_found, on_two_found}
use Rattle.powerset.specs.Commands.{pset, of_two_powersets}
use Rattle.calc_state.specs.Meanings.{made_powerset}
use Rattle.calc_state.proofs.perform.make_powerset.Goals as goal

pub returns-in-OfPoly : goal.returns-in-OfPoly
returns-in-OfPoly g c = performed_as (made_powerset c.args.names.now c.args.full) c.args.by _ c.pset.result c.in-OfPoly.is (on_found (pset c.args.full) c.pset.result c.poly_at.ensures c.pset.ensures)

pub returns-in-OfTwo : goal.returns-in-OfTwo
returns-in-OfTwo g c =
    performed_as (made_powerset c.args.names.now c.args.full) c.args.by _ c.of_two_powersets.result c.in-OfTwo.is
    (on_two_found (of_two_powersets c.in-OfTwo.op c.args.full) c.of_two_powersets.result c.powerset_at-one.ensures c.powerset_at.ensures c.of_two_powersets.ensures)
