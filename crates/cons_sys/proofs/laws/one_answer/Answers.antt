use Rattle.cons_sys.proofs.AnswerLemmas.{Answers-once}
use Rattle.cons_sys.proofs.laws.one_answer.Goals as goal

pub returns : goal.returns
returns c = Answers-once
