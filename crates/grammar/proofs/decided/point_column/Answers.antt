use Rattle.grammar.specs.Grammar.{alone, point}
use Rattle.grammar.proofs.PointTable.{point_decides}
use Rattle.grammar.proofs.decided.point_column.Goals as goal

pub returns : goal.returns
returns c = c.column.ensures (alone point) point_decides
