use Rattle.std.proofs.Common.{◌∙◌, ap}
use Rattle.name_table.specs.Table.{entry_of}
use Rattle.name_table.proofs.TableLemmas.{lookup-named}
use Rattle.name_table.proofs.names.Names.get.Goals as goal

pub returns : goal.returns
returns g c = c.get.ensures.value ∙ (lookup-named c.self.inside.entries.entries c.args.name.now ∙ ap (λ t. entry_of t c.args.name.now) c.self.view_is)
