use Rattle.std.proofs.Common.{◌∙◌, ap}
use Rattle.name_table.specs.Keys.{named}
use Rattle.name_table.proofs.TableLemmas.{named-insert_entry}
use Rattle.name_table.proofs.names.Names.put.Goals as goal

pub returns-clause-ok : goal.returns-clause-ok
returns-clause-ok g c =
    ap named c.in_ok-insert.ensures.entries
    ∙ (named-insert_entry c.self.inside.entries.entries c.in_ok-key.key c.args.entry
    ∙ rw (c.in_ok-key.ensures.items, c.self.view_is))
