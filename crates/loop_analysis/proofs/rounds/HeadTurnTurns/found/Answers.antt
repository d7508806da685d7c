use Rattle.std.proofs.Common.{◌≡◌, Some, slice_get}
use Rattle.std.proofs.lemmas.Result.{IfOk-weaker, IfErr-weaker}
use Rattle.poly_pair.specs.Polyhedra.{Polyhedron}
use Rattle.poly_pair.specs.ClosedPolyhedra.{IsClosedOver}
use Rattle.row_core.specs.Refusals.{IsOverflowIn}
use Rattle.widening.specs.RunLaws.{IsFound}
use Rattle.widening.proofs.Places.{all_at}
use Rattle.loop_analysis.specs.Rounds.{IsJoined, JoinsFirst, LeavesInJoin, LeavesAtFirst}
use Rattle.loop_analysis.proofs.TurnLemmas.{found_first, leaves_first}
use Rattle.loop_analysis.proofs.rounds.HeadTurnTurns.found.Goals as goal

pub joined-requires : goal.joined-requires
joined-requires g c = all_at (IsClosedOver c.args.self.now.program.now.dim) c.args.sets.now 0 c.first.result.now c.requires.sets.each c.first.ensures

pub returns-clause-found : goal.returns-clause-found
returns-clause-found g c =
    let l = c.args.self.now.program.now in
    let set = c.first.result.now in
    IfOk-weaker c.joined.result (IsFound (IsJoined l set) set) (λ o. (old : Polyhedron) → slice_get c.args.sets.now 0 ≡ Some old → IsFound (JoinsFirst l c.args.sets.now) old o)
    (found_first l c.args.sets.now set c.first.ensures) c.joined.ensures.found

pub returns-clause-overflow : goal.returns-clause-overflow
returns-clause-overflow g c =
    let l = c.args.self.now.program.now in
    let set = c.first.result.now in
    IfErr-weaker c.joined.result (IsOverflowIn (LeavesInJoin l set)) (IsOverflowIn (LeavesAtFirst l c.args.sets.now))
    (leaves_first l c.args.sets.now set c.first.ensures) c.joined.ensures.overflow

pub returns-clause-conversion : goal.returns-clause-conversion
returns-clause-conversion g c = record { set = c.first.result.now; first = c.first.ensures; conversion = c.joined.ensures.conversion }
