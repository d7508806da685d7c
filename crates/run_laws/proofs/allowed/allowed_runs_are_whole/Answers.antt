use Rattle.run_laws.proofs.AllowedRuns.{fixpoints_are_whole, reaches_are_whole}
use Rattle.run_laws.proofs.allowed.allowed_runs_are_whole.Goals as goal

pub returns : goal.returns
returns c = record { fixpoints = fixpoints_are_whole; reaches = reaches_are_whole }
