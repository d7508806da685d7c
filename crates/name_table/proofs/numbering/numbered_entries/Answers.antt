use Rattle.std.proofs.Common.{ℕ, length, ap, ◌∙◌, arith}
use Rattle.std.proofs.lemmas.List.{nil_from_length}
use Rattle.std.specs.Vec.Iter.{into_iter_items}
use Rattle.name_table.specs.Table.{numbered, numbered_entries}
use Rattle.name_table.proofs.TableLemmas.{one_more_entry, all_entries}
use Rattle.name_table.proofs.numbering.numbered_entries.Goals as goal

pub loop-entry-preserved : goal.loop-entry-preserved
loop-entry-preserved g c =
    record {
      len = omega (arith, c.loop-entry.invariant.len, c.in-Some.ensures.steps.1, ap length c.in-Some.ensures.steps.0);
      under = one_more_entry c.args.prefix.now c.loop-entry.under.items c.push.new.self.items (into_iter_items c.loop-entry.entry-iterator) (into_iter_items c.next.new.self) c.in-Some.entry c.in_ok-name.name (numbered_entries c.args.prefix.now 0 c.args.entries.items) c.in-Some.ensures.steps.0 c.in_ok-push.ensures.items (c.in_ok-name.ensures ∙ ap (λ (n : ℕ). numbered c.args.prefix.now n) (c.len.ensures ∙ c.loop-entry.under.ok.0)) c.loop-entry.invariant.under;
    }

pub returns : goal.returns
returns g c = all_entries c.args.prefix.now c.loop-entry.under.items (length c.loop-entry.under.items) (into_iter_items c.loop-entry.entry-iterator) (numbered_entries c.args.prefix.now 0 c.args.entries.items) (nil_from_length (into_iter_items c.loop-entry.entry-iterator) (omega (arith, c.loop-entry.invariant.len, c.in-None.ensures.steps.0))) c.loop-entry.invariant.under
