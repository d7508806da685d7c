use Rattle.worked_cases.proofs.large_steps.few_edges_below_many.Given as goal

abbrev pub ghosts-check_polygons : goal.ghosts-check_polygons
ghosts-check_polygons g a = record { name = a.blank.name; parts = a.blank.parts }
