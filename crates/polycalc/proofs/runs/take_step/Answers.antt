use Rattle.polycalc.proofs.runs.take_step.Goals as goal

pub returns : goal.returns
returns g c = c.step.ensures.step
