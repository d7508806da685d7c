use Rattle.grammar.specs.Grammar.{alone, cons}
use Rattle.grammar.proofs.ConsTable.{cons_decides}
use Rattle.grammar.proofs.decided.cons_column.Goals as goal

pub returns : goal.returns
returns c = c.column.ensures (alone cons) cons_decides
