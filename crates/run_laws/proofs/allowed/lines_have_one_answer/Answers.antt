use Rattle.run_laws.proofs.AllowedLines.{lines_have_one_answer}
use Rattle.run_laws.proofs.allowed.lines_have_one_answer.Goals as goal

pub returns : goal.returns
returns c = lines_have_one_answer
