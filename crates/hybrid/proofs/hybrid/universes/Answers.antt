use Rattle.std.proofs.Common.{◌≡◌, [], ◌∷◌, ◌++◌, sym, subst, ap, arith, length, length-append, All}
use Rattle.std.proofs.lemmas.List.Elements.{All-push}
use Rattle.poly_pair.specs.declared.topology.Topology.TheVariants.{Closed}
use Rattle.poly_pair.specs.Polyhedra.{IsUniverse}
use Rattle.poly_pair.specs.ClosedPolyhedra.{IsClosedOver}
use Rattle.hybrid.proofs.hybrid.universes.Goals as goal

pub loop-preserved : goal.loop-preserved
loop-preserved c =
    let sets = c.loop.sets.items in
    let set = c.in_ok-set.set in
    let more : c.push.new.self.items ≡ sets ++ set ∷ [] = c.in_ok-push.ensures.items in
    let over = c.in_ok-set.ensures.over in
    record {
      count = omega (arith, ap length more, length-append sets (set ∷ []), c.loop.invariant.count);
      universe = subst (All (IsUniverse Closed c.args.dim)) (sym more) (All-push (IsUniverse Closed c.args.dim) sets set c.loop.invariant.universe c.in_ok-set.ensures);
      closed = subst (All (IsClosedOver c.args.dim)) (sym more) (All-push (IsClosedOver c.args.dim) sets set c.loop.invariant.closed (record { kept = c.dim-kept.ensures.kept; over = over }));
    }
