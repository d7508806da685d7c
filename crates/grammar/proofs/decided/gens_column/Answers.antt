use Rattle.grammar.specs.Grammar.{alone, gens}
use Rattle.grammar.proofs.GensTable.{gens_decides}
use Rattle.grammar.proofs.decided.gens_column.Goals as goal

pub returns : goal.returns
returns c = c.column.ensures (alone gens) gens_decides
