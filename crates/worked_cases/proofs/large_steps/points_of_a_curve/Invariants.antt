use Rattle.worked_cases.proofs.large_steps.points_of_a_curve.Given as goal

abbrev pub ghosts-check_curve : goal.ghosts-check_curve
ghosts-check_curve g a = record { name = a.blank.name; parts = a.blank.parts }
