use Rattle.std.proofs.Common.{ap, ◌∙◌}
use Rattle.name_table.specs.Keys.{named}
use Rattle.name_table.proofs.TableLemmas.{named-insert_entry}
use Rattle.name_table.proofs.numbering.put_one_within.Goals as goal

pub returns-clause-entries : goal.returns-clause-entries
returns-clause-entries g c = ap named c.in-Ok.ensures.entries ∙ named-insert_entry c.args.map.now.entries c.args.name c.args.entry
