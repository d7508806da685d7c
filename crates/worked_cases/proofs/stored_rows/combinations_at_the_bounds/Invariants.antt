use Rattle.worked_cases.proofs.stored_rows.combinations_at_the_bounds.Given as goal

abbrev pub ghosts-check_bounds : goal.ghosts-check_bounds
ghosts-check_bounds g a = record { name = a.blank.name; parts = a.blank.parts }
