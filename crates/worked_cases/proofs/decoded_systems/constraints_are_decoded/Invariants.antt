use Rattle.worked_cases.proofs.decoded_systems.constraints_are_decoded.Given as goal

abbrev pub ghosts-check_decoded : goal.ghosts-check_decoded
ghosts-check_decoded g a = record { name = a.blank.name; parts = a.blank.parts }
