use Rattle.line_values.proofs.EffectLemmas.{performed_as, on_found}
use Rattle.powerset.specs.Commands.{member}
use Rattle.ranking.specs.Commands.{rank}
use Rattle.bd_shape.specs.Commands.{shape_poly}
use Rattle.calc_state.specs.Meanings.{made_poly}
use Rattle.calc_state.proofs.perform.make_poly.Goals as goal

pub make-requires : goal.make-requires
make-requires g c = rw c.in-OfPolyhedra.is at c.requires

pub returns-in-OfPolyhedra : goal.returns-in-OfPolyhedra
returns-in-OfPolyhedra g c = performed_as (made_poly c.args.names.now c.args.full) c.args.by _ c.make.result c.in-OfPolyhedra.is c.make.ensures

pub returns-in-Member : goal.returns-in-Member
returns-in-Member g c = performed_as (made_poly c.args.names.now c.args.full) c.args.by _ c.member.result c.in-Member.is (on_found (member c.args.full c.in-Member.i) c.member.result c.powerset_at.ensures c.member.ensures)

pub returns-in-Rank : goal.returns-in-Rank
returns-in-Rank g c = performed_as (made_poly c.args.names.now c.args.full) c.args.by _ c.rank.result c.in-Rank.is (on_found (rank c.args.full) c.rank.result c.poly_at.ensures c.rank.ensures)

pub returns-in-OfShape : goal.returns-in-OfShape
returns-in-OfShape g c = performed_as (made_poly c.args.names.now c.args.full) c.args.by _ c.shape_poly.result c.in-OfShape.is (on_found (shape_poly c.args.full) c.shape_poly.result c.shape_at.ensures c.shape_poly.ensures)
