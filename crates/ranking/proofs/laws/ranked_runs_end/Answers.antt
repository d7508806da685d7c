use Rattle.ranking.proofs.RankedRuns.{runs_bounded, runs_end}
use Rattle.ranking.proofs.laws.ranked_runs_end.Goals as goal

pub returns-clause-bounded : goal.returns-clause-bounded
returns-clause-bounded c = runs_bounded

pub returns-clause-ended : goal.returns-clause-ended
returns-clause-ended c = runs_end
