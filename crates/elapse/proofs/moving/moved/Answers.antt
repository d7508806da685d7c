use Rattle.std.proofs.Common.{None, inl, inr, refl, subst}
use Rattle.std.proofs.lemmas.Result.{err_from_is_err_and}
use Rattle.cons_sys.specs.Constraints.{FitDimension as FitConstraints}
use Rattle.gens_sys.specs.Generators.{FitDimension}
use Rattle.poly_pair.specs.Work.{conv_overflow}
use Rattle.elapse.proofs.ElapsedPolyhedra.{joined_kinds, joined_has_point, joined_elapse, joined_stored, joined_conversion, same_followed, same_directions}
use Rattle.elapse.proofs.moving.moved.Goals as goal

pub from_gens_with_point-requires-clause-kinds : goal.from_gens_with_point-requires-clause-kinds
from_gens_with_point-requires-clause-kinds g c =
    joined_kinds c.args.p.now c.args.q.now c.kept_is_pair.ensures c.gens.ensures.kept c.gens-2.ensures.kept c.requires.same_dim c.requires.some c.requires.moving (subst FitDimension c.gens.ensures.value c.dim.ensures.rows) (subst FitDimension c.gens-2.ensures.value c.dim-3.ensures.rows) c.in_ok-moves.moves.list
    (same_directions c.args.p.now c.args.q.now c.gens-3.result.now c.in_ok-moves.moves.list c.gens.ensures.kept c.gens-2.ensures.kept c.requires.same_dim c.gens-3.ensures.value c.in_ok-moves.ensures.list)
    c.topology.result c.in_ok-gens.gens c.topology.ensures.value
    (same_followed c.in_ok-gens.gens c.args.p.now.gens c.gens-4.result.now c.in_ok-moves.moves.list c.in_ok-gens.ensures.dim c.in_ok-gens.ensures.list c.gens-4.ensures.value)

pub returns-in-Ok-clause-points : goal.returns-in-Ok-clause-points
returns-in-Ok-clause-points g c =
    joined_elapse c.args.p.now c.args.q.now c.kept_is_pair.ensures c.gens.ensures.kept c.gens-2.ensures.kept c.requires.same_dim c.requires.some c.requires.moving (subst FitDimension c.gens.ensures.value c.dim.ensures.rows) (subst FitDimension c.gens-2.ensures.value c.dim-3.ensures.rows) c.in_ok-moves.moves.list
    (same_directions c.args.p.now c.args.q.now c.gens-3.result.now c.in_ok-moves.moves.list c.gens.ensures.kept c.gens-2.ensures.kept c.requires.same_dim c.gens-3.ensures.value c.in_ok-moves.ensures.list)
    c.topology.result c.in_ok-gens.gens c.topology.ensures.value
    (same_followed c.in_ok-gens.gens c.args.p.now.gens c.gens-4.result.now c.in_ok-moves.moves.list c.in_ok-gens.ensures.dim c.in_ok-gens.ensures.list c.gens-4.ensures.value)
    c.in-Ok.poly c.in-Ok.ensures.points c.dim-5.ensures.rows c.cons.ensures.kept (subst FitConstraints c.cons.ensures.value c.dim-in-Ok.ensures.rows)

pub returns-in-Ok-clause-stored : goal.returns-in-Ok-clause-stored
returns-in-Ok-clause-stored g c =
    joined_stored c.args.p.now c.args.q.now c.kept_is_pair.ensures c.gens.ensures.kept c.gens-2.ensures.kept c.requires.same_dim c.requires.some c.requires.moving (subst FitDimension c.gens.ensures.value c.dim.ensures.rows) (subst FitDimension c.gens-2.ensures.value c.dim-3.ensures.rows) c.in_ok-moves.moves.list
    (same_directions c.args.p.now c.args.q.now c.gens-3.result.now c.in_ok-moves.moves.list c.gens.ensures.kept c.gens-2.ensures.kept c.requires.same_dim c.gens-3.ensures.value c.in_ok-moves.ensures.list)
    c.topology.result c.in_ok-gens.gens c.topology.ensures.value
    (same_followed c.in_ok-gens.gens c.args.p.now.gens c.gens-4.result.now c.in_ok-moves.moves.list c.in_ok-gens.ensures.dim c.in_ok-gens.ensures.list c.gens-4.ensures.value)
    c.in-Ok.poly c.in-Ok.ensures.stored

pub from_gens_with_point-requires-clause-point : goal.from_gens_with_point-requires-clause-point
from_gens_with_point-requires-clause-point g c =
    joined_has_point c.args.p.now c.args.q.now c.kept_is_pair.ensures c.gens.ensures.kept c.gens-2.ensures.kept c.requires.same_dim c.requires.some c.requires.moving (subst FitDimension c.gens.ensures.value c.dim.ensures.rows) (subst FitDimension c.gens-2.ensures.value c.dim-3.ensures.rows) c.in_ok-moves.moves.list
    (same_directions c.args.p.now c.args.q.now c.gens-3.result.now c.in_ok-moves.moves.list c.gens.ensures.kept c.gens-2.ensures.kept c.requires.same_dim c.gens-3.ensures.value c.in_ok-moves.ensures.list)
    c.topology.result c.in_ok-gens.gens c.topology.ensures.value
    (same_followed c.in_ok-gens.gens c.args.p.now.gens c.gens-4.result.now c.in_ok-moves.moves.list c.in_ok-gens.ensures.dim c.in_ok-gens.ensures.list c.gens-4.ensures.value)

pub returns-in-Ok-clause-conversion : goal.returns-in-Ok-clause-conversion
returns-in-Ok-clause-conversion g c =
    inr (joined_conversion c.args.p.now c.args.q.now c.kept_is_pair.ensures c.gens.ensures.kept c.gens-2.ensures.kept c.requires.same_dim c.requires.some c.requires.moving (subst FitDimension c.gens.ensures.value c.dim.ensures.rows) (subst FitDimension c.gens-2.ensures.value c.dim-3.ensures.rows) c.in_ok-moves.moves.list
    (same_directions c.args.p.now c.args.q.now c.gens-3.result.now c.in_ok-moves.moves.list c.gens.ensures.kept c.gens-2.ensures.kept c.requires.same_dim c.gens-3.ensures.value c.in_ok-moves.ensures.list)
    c.topology.result c.in_ok-gens.gens c.topology.ensures.value
    (same_followed c.in_ok-gens.gens c.args.p.now.gens c.gens-4.result.now c.in_ok-moves.moves.list c.in_ok-gens.ensures.dim c.in_ok-gens.ensures.list c.gens-4.ensures.value)
    c.args.steps.now c.from_gens_with_point.new.steps None c.in-Ok.ensures.conversion)

pub returns-clause-conversion : goal.returns-clause-conversion
returns-clause-conversion g c =
    inr (joined_conversion c.args.p.now c.args.q.now c.kept_is_pair.ensures c.gens.ensures.kept c.gens-2.ensures.kept c.requires.same_dim c.requires.some c.requires.moving (subst FitDimension c.gens.ensures.value c.dim.ensures.rows) (subst FitDimension c.gens-2.ensures.value c.dim-3.ensures.rows) c.in_ok-moves.moves.list
    (same_directions c.args.p.now c.args.q.now c.gens-3.result.now c.in_ok-moves.moves.list c.gens.ensures.kept c.gens-2.ensures.kept c.requires.same_dim c.gens-3.ensures.value c.in_ok-moves.ensures.list)
    c.topology.result c.in_ok-gens.gens c.topology.ensures.value
    (same_followed c.in_ok-gens.gens c.args.p.now.gens c.gens-4.result.now c.in_ok-moves.moves.list c.in_ok-gens.ensures.dim c.in_ok-gens.ensures.list c.gens-4.ensures.value)
    c.args.steps.now c.from_gens_with_point.new.steps (conv_overflow c.in-Err.cause) c.in-Err.ensures.conversion)

pub returns-in_err-moves : goal.returns-in_err-moves
returns-in_err-moves g c = let p = err_from_is_err_and c.from_residual.result c.from_residual.ensures.1 in rw (p.1, p.2) (record { points = tt; stored = tt; conversion = inl (refl, refl) })

pub returns-in_err-gens : goal.returns-in_err-gens
returns-in_err-gens g c = let p = err_from_is_err_and c.from_residual-in_err-gens.result c.from_residual-in_err-gens.ensures.1 in rw (p.1, p.2) (record { points = tt; stored = tt; conversion = inl (refl, refl) })
