use Rattle.worked_cases.proofs.conversions.further_row_that_cannot_be_taken.Given as goal

abbrev pub ghosts-check_overflow_later : goal.ghosts-check_overflow_later
ghosts-check_overflow_later g a = record { name = a.blank.name; parts = a.blank.parts }
