use Rattle.worked_cases.proofs.conversions.second_list_is_converted.Given as goal

abbrev pub ghosts-check_second_conversion : goal.ghosts-check_second_conversion
ghosts-check_second_conversion g a = record { name = a.blank.name; parts = a.blank.parts }
