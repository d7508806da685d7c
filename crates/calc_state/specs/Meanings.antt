-- What each command means in a table.
use Rattle.std.specs.Prelude.{ℕ, List, [], Bool}
use Rattle.poly_pair.specs.Polyhedra.{Polyhedron}
use Rattle.powerset.specs.Powersets.{FinitePowerset}
use Rattle.bd_shape.specs.Shapes.{DifferenceShape}
use Rattle.script_text.specs.declared.command.Command.{Command}
use Rattle.name_table.specs.Table.{entry_of, has_no_room}
use Rattle.line_values.specs.Effects.{puts, tells, drop_of}
use Rattle.line_values.specs.Meaning.{Meaning, on_one, on_two, says}
use Rattle.poly_makers.specs.Meanings.{made as made_of_polyhedra, added}
use Rattle.poly_questions.specs.Meanings.{said}
use Rattle.calc_state.specs.Table.{Table, Change, poly_of, system_of, powerset_of, shape_of, hybrid_of, as_poly, as_system, as_powerset, as_shape, as_hybrid}
use Rattle.fixpoint.specs.Commands.{system, fixpoint}
use Rattle.powerset.specs.Commands.{pset, of_two_powersets, member, psize, covers}
use Rattle.ranking.specs.Commands.{rank, ranking}
use Rattle.bd_shape.specs.Commands.{shape as shape_of_set, bounds, of_two_shapes, shape_contains, shape_print, shape_poly}
use Rattle.hybrid.specs.Commands.{hybrid, reach}
use Rattle.calc_state.specs.Parts.{init, trans, set_part}
use Rattle.command_tasks.specs.Tasks.{task_of}
use Rattle.command_tasks.specs.declared.tasks.Task.{Task}
use Rattle.command_tasks.specs.declared.tasks.Task.TheVariants as task
use Rattle.command_tasks.specs.declared.tasks.TableTask.{TableTask}
use Rattle.command_tasks.specs.declared.tasks.TableTask.TheVariants as on
use Rattle.command_tasks.specs.declared.tasks.Asked.{Asked}
use Rattle.command_tasks.specs.declared.tasks.Asked.TheVariants as asked
use Rattle.command_tasks.specs.declared.tasks.Made.{Made}
use Rattle.command_tasks.specs.declared.tasks.Made.TheVariants as made
use Rattle.command_tasks.specs.declared.tasks.PolyMaker.{PolyMaker}
use Rattle.command_tasks.specs.declared.tasks.PolyMaker.TheVariants as poly
use Rattle.command_tasks.specs.declared.tasks.PowersetMaker.{PowersetMaker}
use Rattle.command_tasks.specs.declared.tasks.PowersetMaker.TheVariants as powerset
use Rattle.command_tasks.specs.declared.tasks.ShapeMaker.{ShapeMaker}
use Rattle.command_tasks.specs.declared.tasks.ShapeMaker.TheVariants as shape
use Rattle.command_tasks.specs.declared.tasks.Running.{Running}
use Rattle.command_tasks.specs.declared.tasks.Running.TheVariants as running
use Rattle.command_tasks.specs.declared.tasks.PartTask.{PartTask}
use Rattle.command_tasks.specs.declared.tasks.PartTask.TheVariants as part

-- ---- what is made, where the table is full for its name or not
abbrev pub made_poly : Table → Bool → PolyMaker → Meaning Polyhedron
made_poly table full (poly.OfPolyhedra by) = made_of_polyhedra (poly_of table) full by
made_poly table full (poly.Member s i) = on_one (powerset_of table s) (member full i)
made_poly table full (poly.Rank r) = on_one (poly_of table r) (rank full)
made_poly table full (poly.OfShape s) = on_one (shape_of table s) (shape_poly full)

abbrev pub made_powerset : Table → Bool → PowersetMaker → Meaning FinitePowerset
made_powerset table full (powerset.OfPoly p) = on_one (poly_of table p) (pset full)
made_powerset table full (powerset.OfTwo op s t) =
    on_two (powerset_of table s) (powerset_of table t) (of_two_powersets op full)

abbrev pub made_shape : Table → Bool → ShapeMaker → Meaning DifferenceShape
made_shape table full (shape.OfPoly p) = on_one (poly_of table p) (shape_of_set full)
made_shape table full (shape.Bounds n text) = bounds full n text
made_shape table full (shape.OfTwo op s t) =
    on_two (shape_of table s) (shape_of table t) (of_two_shapes op full)

abbrev pub put_under : Table → List ℕ → Made → Meaning Change
put_under table out (made.Poly by) = puts as_poly out (made_poly table (has_no_room table out) by)
put_under table out (made.System n l) = puts as_system out (system (has_no_room table out) n l)
put_under table out (made.Powerset by) =
    puts as_powerset out (made_powerset table (has_no_room table out) by)
put_under table out (made.Shape by) =
    puts as_shape out (made_shape table (has_no_room table out) by)
put_under table out (made.Hybrid s) =
    puts as_hybrid out (on_one (system_of table s) (hybrid (has_no_room table out)))

-- ---- what is said
abbrev pub answered : Table → Asked → Meaning (List ℕ)
answered table (asked.OfPolyhedra question) = said as_poly table question
answered table (asked.Psize s) = on_one (powerset_of table s) psize
answered table (asked.Covers s t) = on_two (powerset_of table s) (powerset_of table t) covers
answered table (asked.Ranking r) = on_one (poly_of table r) ranking
answered table (asked.ShapeContains s t) =
    on_two (shape_of table s) (shape_of table t) shape_contains
answered table (asked.ShapePrint s) = on_one (shape_of table s) shape_print

-- ---- what is run
abbrev pub ran : Table → List ℕ → Running → Meaning Change
ran table prefix (running.System s delay) = on_one (system_of table s) (fixpoint table delay prefix)
ran table prefix (running.Hybrid h delay) = on_one (hybrid_of table h) (reach table delay prefix)

-- ---- what is changed in part
abbrev pub changed_part_of : Table → List ℕ → PartTask → Meaning Change
changed_part_of table name (part.Initial location p) =
    on_one (system_of table name) (λ found. on_one (poly_of table p) (init name location found))
changed_part_of table name (part.Transition source target r) =
    on_one (system_of table name)
    (λ found. on_one (poly_of table r) (trans name source target found))
changed_part_of table name (part.Location of location p) =
    on_one (hybrid_of table name)
    (λ found. on_one (poly_of table p) (set_part of name location found))

-- ---- tasks and commands
abbrev pub on_table : Table → TableTask → Meaning Change
on_table table on.Nothing = tells (says [])
on_table table (on.TakesOut name) = drop_of name (entry_of table name)
on_table table (on.Asks what) = tells (answered table what)
on_table table (on.Puts out what) = put_under table out what
on_table table (on.AddsTo p what) = puts as_poly p (on_one (poly_of table p) (added what))
on_table table (on.PutsAll prefix what) = ran table prefix what

-- a task; one that opens a file says nothing
abbrev pub meaning_of : Table → Task → Meaning Change
meaning_of table (task.Opens out form) = tells (says [])
meaning_of table (task.ChangesPart name what) = changed_part_of table name what
meaning_of table (task.OnTable what) = on_table table what

-- the meaning of the command
abbrev pub meaning : Table → Command → Meaning Change
meaning table command = meaning_of table (task_of command)
