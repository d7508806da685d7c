use Rattle.line_values.proofs.EffectLemmas.{performed_as, on_found, on_two_found}
use Rattle.bd_shape.specs.Commands.{shape, of_two_shapes}
use Rattle.calc_state.specs.Meanings.{made_shape}
use Rattle.calc_state.proofs.perform.make_shape.Goals as goal

pub bounds-requires-clause-form : goal.bounds-requires-clause-form
bounds-requires-clause-form c = (rw c.in-Bounds.is at c.requires).form

pub bounds-requires-clause-told : goal.bounds-requires-clause-told
bounds-requires-clause-told c = (rw c.in-Bounds.is at c.requires).told

pub returns-in-OfPoly : goal.returns-in-OfPoly
returns-in-OfPoly c = performed_as (made_shape c.args.names.now c.args.full) c.args.by _ c.shape_of_set.result c.in-OfPoly.is (on_found (shape c.args.full) c.shape_of_set.result c.poly_at.ensures c.shape_of_set.ensures)

pub returns-in-Bounds : goal.returns-in-Bounds
returns-in-Bounds c = performed_as (made_shape c.args.names.now c.args.full) c.args.by _ c.bounds.result c.in-Bounds.is c.bounds.ensures

pub returns-in-OfTwo : goal.returns-in-OfTwo
returns-in-OfTwo c =
    performed_as (made_shape c.args.names.now c.args.full) c.args.by _ c.of_two_shapes.result c.in-OfTwo.is
    (on_two_found (of_two_shapes c.in-OfTwo.op c.args.full) c.of_two_shapes.result c.shape_at-one.ensures c.shape_at.ensures c.of_two_shapes.ensures)
