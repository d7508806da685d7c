use Rattle.grammar.specs.Grammar.{alone, expr}
use Rattle.grammar.proofs.ExprTable.{expr_decides}
use Rattle.grammar.proofs.decided.expr_column.Goals as goal

pub returns : goal.returns
returns c = c.column.ensures (alone expr) expr_decides
