use Rattle.powerset.proofs.reducing.includes.Goals as goal

pub returns-in-Ok-clause-answered : goal.returns-in-Ok-clause-answered
returns-in-Ok-clause-answered c = (c.in-Ok.answer, c.in-Ok.ensures.answer)
