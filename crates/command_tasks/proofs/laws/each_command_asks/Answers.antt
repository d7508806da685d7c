use Rattle.command_tasks.proofs.TaskLemmas.{only_blank}
use Rattle.command_tasks.proofs.laws.each_command_asks.Goals as goal

pub returns : goal.returns
returns c = only_blank
