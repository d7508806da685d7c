use Rattle.worked_cases.proofs.conversions.further_rows_are_taken.Given as goal

abbrev pub ghosts-check_further_rows : goal.ghosts-check_further_rows
ghosts-check_further_rows g a = record { name = a.blank.name; parts = a.blank.parts }
