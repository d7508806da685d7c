use Rattle.std.proofs.Common.{◌∙◌, ap}
use Rattle.name_table.specs.Table.{without}
use Rattle.name_table.specs.Keys.{named}
use Rattle.name_table.proofs.TableLemmas.{named-remove_entry}
use Rattle.name_table.proofs.names.Names.take_out.Goals as goal

pub returns : goal.returns
returns g c =
    ap named c.shift_remove-old.ensures.entries
    ∙ (named-remove_entry c.self.inside.entries.entries c.args.name.now
    ∙ ap (λ t. without t c.args.name.now) c.self.view_is)
