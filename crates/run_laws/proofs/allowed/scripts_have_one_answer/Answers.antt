use Rattle.run_laws.proofs.AllowedScripts.{scripts_have_one_answer, scripts_have_one_text}
use Rattle.run_laws.proofs.allowed.scripts_have_one_answer.Goals as goal

pub returns : goal.returns
returns c = record { answers = scripts_have_one_answer; texts = scripts_have_one_text }
