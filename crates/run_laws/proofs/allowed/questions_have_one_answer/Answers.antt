use Rattle.run_laws.proofs.AllowedLines.{questions_have_one_answer}
use Rattle.run_laws.proofs.allowed.questions_have_one_answer.Goals as goal

pub returns : goal.returns
returns c = questions_have_one_answer
