use Rattle.run_laws.proofs.AllowedAnswers.{answers_are_one, extremes_are_one}
use Rattle.run_laws.proofs.AllowedPrints.{prints_say_one}
use Rattle.run_laws.proofs.allowed.allowed_answers_are_one.Goals as goal

pub returns : goal.returns
returns c = record { answers = answers_are_one; extremes = extremes_are_one c.one_bound.ensures; prints = prints_say_one }
