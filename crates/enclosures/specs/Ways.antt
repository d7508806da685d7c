use Rattle.std.specs.Prelude.{List, [], ◌∷◌, flat_map}
use Rattle.cone_laws.specs.Cones.{negated}
use Rattle.cons_sys.specs.declared.kind.ConKind.TheVariants.{Eq, Ge, Gt}
use Rattle.cons_sys.specs.Constraints.{Constraint, Constraints}

-- the ways in which a constraint can fail, each as one that then holds: the value of an equality
-- can be above 0 or below it
abbrev pub ways_of : Constraint → List Constraint
ways_of (a, Eq) = (a, Gt) ∷ (negated a, Gt) ∷ []
ways_of (a, Ge) = (negated a, Gt) ∷ []
ways_of (a, Gt) = (negated a, Ge) ∷ []

-- those of each constraint of a system, in order
abbrev pub ways : Constraints → Constraints
ways cs = record { dim = cs.dim; list = flat_map ways_of cs.list }
