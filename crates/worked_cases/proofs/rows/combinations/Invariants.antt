use Rattle.worked_cases.proofs.rows.combinations.Given as goal

abbrev pub ghosts-check_combinations : goal.ghosts-check_combinations
ghosts-check_combinations g a = record { name = a.blank.name; parts = a.blank.parts }
