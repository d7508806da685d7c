use Rattle.grammar.specs.Grammar.{alone, frac}
use Rattle.grammar.proofs.FracTable.{frac_decides}
use Rattle.grammar.proofs.decided.frac_column.Goals as goal

pub returns : goal.returns
returns c = c.column.ensures (alone frac) frac_decides
