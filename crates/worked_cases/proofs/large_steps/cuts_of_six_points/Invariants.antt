use Rattle.worked_cases.proofs.large_steps.cuts_of_six_points.Given as goal

abbrev pub ghosts-check_cuts : goal.ghosts-check_cuts
ghosts-check_cuts g a = record { name = a.blank.name; parts = a.blank.parts }
