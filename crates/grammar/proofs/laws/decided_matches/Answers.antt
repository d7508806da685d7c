use Rattle.grammar.proofs.Columns.{matches_or_not}
use Rattle.grammar.proofs.laws.decided_matches.Goals as goal

pub returns : goal.returns
returns c = matches_or_not
