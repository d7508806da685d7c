use Rattle.worked_cases.proofs.stored_rows.rows_are_combined.Given as goal

abbrev pub ghosts-check_combinations : goal.ghosts-check_combinations
ghosts-check_combinations g a = record { name = a.blank.name; parts = a.blank.parts }
