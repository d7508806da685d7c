use Rattle.std.proofs.Common.{◌≡◌, ℕ, length, arith, ap, subst}
use Rattle.cons_sys.specs.Constraints.{Constraints}
use Rattle.poly_pair.specs.declared.topology.Topology.TheVariants.{Nnc}
use Rattle.poly_pair.specs.Polyhedra.{IsEmpty}
use Rattle.enclosures.specs.Ways.{ways}
use Rattle.enclosures.specs.Differences.{IsJoinTo}
use Rattle.enclosures.proofs.JoinLemmas.{none_joined, joined_difference}
use Rattle.enclosures.proofs.differences.difference.Goals as goal

pub loop-index-init : goal.loop-index-init
loop-index-init g c = none_joined c.args.p.now (ways c.args.cons.now).list c.in_ok-made.made (subst (λ (n : ℕ). IsEmpty Nnc n c.in_ok-made.made) c.dim.ensures.value c.in_ok-made.ensures)

pub returns-clause-points : goal.returns-clause-points
returns-clause-points g c =
    let many : length c.in_ok-ways.ways.list ≡ length (ways c.args.cons.now).list = ap (λ (cs : Constraints). length cs.list) c.in_ok-ways.ensures in
    let e : c.loop-index.index ≡ length (ways c.args.cons.now).list = omega (arith, many, c.len-index-end.ensures) in
    joined_difference c.args.p.now c.args.cons.now c.loop-index.made (subst (λ (n : ℕ). IsJoinTo c.args.p.now (ways c.args.cons.now).list n c.loop-index.made) e c.loop-index.invariant)
