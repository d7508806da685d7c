use Rattle.worked_cases.proofs.stored_rows.a_row_is_combined_with_another_slice.Given as goal

abbrev pub ghosts-check_combination_with : goal.ghosts-check_combination_with
ghosts-check_combination_with g a = record { name = a.blank.name; parts = a.blank.parts }
