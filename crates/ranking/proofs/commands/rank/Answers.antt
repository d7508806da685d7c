use Rattle.std.proofs.Common.{◌≡◌, ◌%◌, Option, Some, Err, sym, ap, subst}
use Rattle.std.specs.Option.{option_copied}
use Rattle.poly_pair.specs.Polyhedra.{Polyhedron}
use Rattle.poly_pair.specs.declared.topology.Topology.TheVariants.{Closed}
use Rattle.line_values.specs.Meaning.{on_one}
use Rattle.ranking.specs.Commands.{rank}
use Rattle.line_values.specs.Performed.{IsPerformed}
use Rattle.line_values.proofs.PerformedLemmas.{not_full, leaves}
use Rattle.ranking.proofs.CommandLemmas.{rank_passes}
use Rattle.ranking.proofs.commands.rank.Goals as goal

pub returns-in-Err : goal.returns-in-Err
returns-in-Err g c =
    let r : Polyhedron = c.in-Some.r.now in
    let closed : r.topology ≡ Closed = c.if-not-is_closed.ensures in
    let even : r.cons.dim % 2 ≡ 0 = c.if-not-has_even_dim.ensures in
    let room = not_full c.args.full c.if-full.false in
    let found : option_copied c.args.r ≡ Some r = ap option_copied c.in-Some.is in
    subst (λ (o : Option Polyhedron). IsPerformed (on_one o (rank c.args.full)) (Err c.from.result)) (sym found)
    (rw c.from.ensures (leaves (rank c.args.full r) c.in-Err.cause (rank_passes r c.args.full closed even room) c.in-Err.ensures.overflow))

pub returns-in-Ok : goal.returns-in-Ok
returns-in-Ok g c =
    let r : Polyhedron = c.in-Some.r.now in
    let closed : r.topology ≡ Closed = c.if-not-is_closed.ensures in
    let even : r.cons.dim % 2 ≡ 0 = c.if-not-has_even_dim.ensures in
    rw c.in-Some.is (rank_passes r c.args.full closed even (not_full c.args.full c.if-full.false), c.in-Ok.ensures.points)
