use Rattle.std.proofs.Common.{length, map, ap, sym, arith}
use Rattle.std.proofs.lemmas.List.{nil_from_length}
use Rattle.std.specs.Vec.Iter.{into_iter_items}
use Rattle.line_values.proofs.ChangeLemmas.{one_more, all_made}
use Rattle.line_values.proofs.change.poly_entries.Goals as goal

pub loop-set-preserved : goal.loop-set-preserved
loop-set-preserved g c =
    record {
      len = omega (arith, c.loop-set.invariant.len, c.in-Some.ensures.steps.1, ap length c.in-Some.ensures.steps.0);
      entries = one_more g.E.PolyEntry.of_poly c.loop-set.entries.items c.push.new.self.items (into_iter_items c.loop-set.set-iterator) (into_iter_items c.next.new.self) c.in-Some.set (map g.E.PolyEntry.of_poly c.args.sets.items) c.in-Some.ensures.steps.0 (rw (sym c.of_poly.ensures) c.in_ok-push.ensures.items) c.loop-set.invariant.entries;
    }

pub returns : goal.returns
returns g c = all_made g.E.PolyEntry.of_poly c.loop-set.entries.items (into_iter_items c.loop-set.set-iterator) (map g.E.PolyEntry.of_poly c.args.sets.items) (nil_from_length (into_iter_items c.loop-set.set-iterator) (omega (arith, c.loop-set.invariant.len, c.in-None.ensures.steps.0))) c.loop-set.invariant.entries
