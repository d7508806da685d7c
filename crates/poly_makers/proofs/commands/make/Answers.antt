use Rattle.std.proofs.Common.{subst}
use Rattle.poly_pair.specs.declared.topology.Topology.{Topology}
use Rattle.line_values.specs.Operands.{poly_of}
use Rattle.line_values.specs.Performed.{IsPerformed}
use Rattle.line_values.proofs.EffectLemmas.{performed_as, on_found, on_two_found}
use Rattle.poly_makers.specs.Meanings.{made_alone, made_of_one, made_of_two, made}
use Rattle.poly_makers.proofs.commands.make.Goals as goal

pub make_alone-requires : goal.make_alone-requires
make_alone-requires g c = rw c.in-Given.is at c.requires

pub make_of_one-requires : goal.make_of_one-requires
make_of_one-requires g c = rw c.in-OfOne.is at c.requires

pub returns-in-Given : goal.returns-in-Given
returns-in-Given g c =
    performed_as (made (poly_of g.E.PolyEntry.as_poly c.args.names.now) c.args.full) c.args.maker _ c.make_alone.result c.in-Given.is
    (subst (λ (t : Topology). IsPerformed (made_alone c.in-Given.by c.args.full t c.in-Given.n) c.make_alone.result) c.topology_of.ensures c.make_alone.ensures)

pub returns-in-OfOne : goal.returns-in-OfOne
returns-in-OfOne g c =
    performed_as (made (poly_of g.E.PolyEntry.as_poly c.args.names.now) c.args.full) c.args.maker _ c.make_of_one.result c.in-OfOne.is
    (on_found (made_of_one c.in-OfOne.by c.args.full) c.make_of_one.result c.poly_at.ensures c.make_of_one.ensures)

pub returns-in-OfTwo : goal.returns-in-OfTwo
returns-in-OfTwo g c =
    performed_as (made (poly_of g.E.PolyEntry.as_poly c.args.names.now) c.args.full) c.args.maker _ c.make_of_two.result c.in-OfTwo.is
    (on_two_found (made_of_two c.in-OfTwo.by c.args.full) c.make_of_two.result c.poly_at-one.ensures c.poly_at-in-OfTwo.ensures c.make_of_two.ensures)
