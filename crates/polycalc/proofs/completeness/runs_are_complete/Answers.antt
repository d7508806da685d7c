use Rattle.polycalc.proofs.CompleteRuns.{run_complete}
use Rattle.polycalc.proofs.completeness.runs_are_complete.Goals as goal

pub returns : goal.returns
returns c = run_complete c.one_command.ensures c.reads_once.ensures
