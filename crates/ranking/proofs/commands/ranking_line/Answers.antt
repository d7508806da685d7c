use Rattle.ranking.proofs.CommandLemmas.{ranking_line_said}
use Rattle.ranking.proofs.commands.ranking_line.Goals as goal

pub returns : goal.returns
returns c = ranking_line_said c.args.functions.now c.in_ok-print_ranking.field-0 c.as_line.result c.is_proper.ensures c.in_ok-print_ranking.ensures c.as_line.ensures
