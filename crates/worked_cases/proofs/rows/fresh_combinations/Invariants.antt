use Rattle.worked_cases.proofs.rows.fresh_combinations.Given as goal

abbrev pub ghosts-check_fresh_combinations : goal.ghosts-check_fresh_combinations
ghosts-check_fresh_combinations g a = record { name = a.blank.name; parts = a.blank.parts }
