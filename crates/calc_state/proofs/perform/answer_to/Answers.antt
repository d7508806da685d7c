use Rattle.line_values.proofs.EffectLemmas.{performed_as, on_found, on_two_found}
use Rattle.powerset.specs.Commands.{psize, covers}
use Rattle.ranking.specs.Commands.{ranking}
use Rattle.bd_shape.specs.Commands.{shape_contains, shape_print}
use Rattle.calc_state.specs.Meanings.{answered}
use Rattle.calc_state.proofs.perform.answer_to.Goals as goal

pub ask-requires : goal.ask-requires
ask-requires g c = rw c.in-OfPolyhedra.is at c.requires

pub returns-in-OfPolyhedra : goal.returns-in-OfPolyhedra
returns-in-OfPolyhedra g c = performed_as (answered c.args.names.now) c.args.asked _ c.ask.result c.in-OfPolyhedra.is c.ask.ensures

pub returns-in-Psize : goal.returns-in-Psize
returns-in-Psize g c = performed_as (answered c.args.names.now) c.args.asked _ c.psize.result c.in-Psize.is (on_found psize c.psize.result c.powerset_at.ensures c.psize.ensures)

pub returns-in-Covers : goal.returns-in-Covers
returns-in-Covers g c = performed_as (answered c.args.names.now) c.args.asked _ c.covers.result c.in-Covers.is (on_two_found covers c.covers.result c.powerset_at-one.ensures c.powerset_at-in-Covers.ensures c.covers.ensures)

pub returns-in-Ranking : goal.returns-in-Ranking
returns-in-Ranking g c = performed_as (answered c.args.names.now) c.args.asked _ c.ranking.result c.in-Ranking.is (on_found ranking c.ranking.result c.poly_at.ensures c.ranking.ensures)

pub returns-in-ShapeContains : goal.returns-in-ShapeContains
returns-in-ShapeContains g c = performed_as (answered c.args.names.now) c.args.asked _ c.shape_contains.result c.in-ShapeContains.is (on_two_found shape_contains c.shape_contains.result c.shape_at-one.ensures c.shape_at.ensures c.shape_contains.ensures)

pub returns-in-ShapePrint : goal.returns-in-ShapePrint
returns-in-ShapePrint g c = performed_as (answered c.args.names.now) c.args.asked _ c.shape_print.result c.in-ShapePrint.is (on_found shape_print c.shape_print.result c.shape_at-in-ShapePrint.ensures c.shape_print.ensures)
