use Rattle.std.proofs.Common.{length, ap, arith}
use Rattle.std.proofs.lemmas.List.{nil_from_length}
use Rattle.std.specs.Vec.Iter.{into_iter_items}
use Rattle.name_table.specs.Table.{put_each}
use Rattle.name_table.specs.Keys.{named}
use Rattle.name_table.proofs.TableLemmas.{one_more_put, all_put}
use Rattle.name_table.proofs.numbering.put_within.Goals as goal

pub loop-name-preserved : goal.loop-name-preserved
loop-name-preserved g c =
    record {
      room = omega (arith, c.loop-name.invariant.room, c.put_one_within.ensures.room, ap length c.in-Some.ensures.steps.0);
      len = omega (arith, c.loop-name.invariant.len, c.in-Some.ensures.steps.1, ap length c.in-Some.ensures.steps.0);
      entries = one_more_put c.loop-name.map.entries c.put_one_within.new.map.entries (into_iter_items c.loop-name.name-iterator) (into_iter_items c.next.new.self) c.in-Some.name c.in-Some.entry (put_each (named c.args.map.now.entries) (named c.args.entries.items)) c.in-Some.ensures.steps.0 c.put_one_within.ensures.entries c.loop-name.invariant.entries;
    }

pub returns : goal.returns
returns g c = all_put c.loop-name.map.entries (into_iter_items c.loop-name.name-iterator) (put_each (named c.args.map.now.entries) (named c.args.entries.items)) (nil_from_length (into_iter_items c.loop-name.name-iterator) (omega (arith, c.loop-name.invariant.len, c.in-None.ensures.steps.0))) c.loop-name.invariant.entries
