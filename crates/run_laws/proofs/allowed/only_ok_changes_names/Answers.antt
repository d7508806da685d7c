use Rattle.run_laws.proofs.AllowedLines.{only_ok_changes}
use Rattle.run_laws.proofs.allowed.only_ok_changes_names.Goals as goal

pub returns : goal.returns
returns c = only_ok_changes
