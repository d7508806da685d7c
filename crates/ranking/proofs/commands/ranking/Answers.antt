use Rattle.std.proofs.Common.{◌≡◌, ◌%◌, Option, Some, Err, sym, ap, subst}
use Rattle.std.specs.Option.{option_copied}
use Rattle.poly_pair.specs.Polyhedra.{Polyhedron}
use Rattle.poly_pair.specs.declared.topology.Topology.TheVariants.{Closed}
use Rattle.line_values.specs.Meaning.{on_one}
use Rattle.ranking.specs.Commands.{ranking}
use Rattle.line_values.specs.Performed.{IsPerformed}
use Rattle.line_values.proofs.PerformedLemmas.{leaves}
use Rattle.ranking.proofs.CommandLemmas.{ranking_passes, ranking_told}
use Rattle.ranking.proofs.commands.ranking.Goals as goal

pub returns-in-Err : goal.returns-in-Err
returns-in-Err g c =
    let r : Polyhedron = c.in-Some.r.now in
    let closed : r.topology ≡ Closed = c.if-not-is_closed.ensures in
    let even : r.cons.dim % 2 ≡ 0 = c.if-not-has_even_dim.ensures in
    let found : option_copied c.args.r ≡ Some r = ap option_copied c.in-Some.is in
    subst (λ (o : Option Polyhedron). IsPerformed (on_one o ranking) (Err c.from.result)) (sym found)
    (rw c.from.ensures (leaves (ranking r) c.in-Err.cause (ranking_passes r closed even) c.in-Err.ensures.overflow))

pub returns-in_ok-ranking_line-in-Ok : goal.returns-in_ok-ranking_line-in-Ok
returns-in_ok-ranking_line-in-Ok g c =
    let r : Polyhedron = c.in-Some.r.now in
    let closed : r.topology ≡ Closed = c.if-not-is_closed.ensures in
    let even : r.cons.dim % 2 ≡ 0 = c.if-not-has_even_dim.ensures in
    rw c.in-Some.is (ranking_told r c.in-Ok.functions c.in_ok-ranking_line-in-Ok.field-0 closed even c.in-Ok.ensures.points c.in_ok-ranking_line-in-Ok.ensures)
