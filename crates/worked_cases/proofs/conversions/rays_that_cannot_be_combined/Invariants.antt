use Rattle.worked_cases.proofs.conversions.rays_that_cannot_be_combined.Given as goal

abbrev pub ghosts-check_overflow : goal.ghosts-check_overflow
ghosts-check_overflow g a = record { name = a.blank.name; parts = a.blank.parts }
