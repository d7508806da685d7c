use Rattle.grammar.specs.Grammar.{alone, con}
use Rattle.grammar.proofs.ConTable.{con_decides}
use Rattle.grammar.proofs.decided.con_column.Goals as goal

pub returns : goal.returns
returns c = c.column.ensures (alone con) con_decides
