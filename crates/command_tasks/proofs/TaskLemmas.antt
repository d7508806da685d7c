-- The parts of a command's task.
use Rattle.script_text.specs.declared.command.Command.{Command}
use Rattle.std.proofs.Common.{refl}
use Rattle.script_text.specs.declared.command.Command.TheVariants.{Nothing, Cons, Gens, Space, Copy, Drop, Add, Addgen, Has, Size, Print, Names, OfTwo, Closure, Compare, Isempty, Relation, Bound, Map, Extend, Remove, Widen, Read, Write, System, Init, Trans, Fixpoint, Pset, OfTwoPowersets, Member, Psize, Covers, Rank, Ranking, ShapeOf, Bounds, OfTwoShapes, ShapeContains, ShapePrint, ShapePoly, Hybrid, SetPart, Reach}
use Rattle.script_text.specs.Line.{PartsMatch, PartsTold}
use Rattle.command_tasks.specs.Tasks.{task_of, TaskFits, OnlyBlankAsksNothing}

-- they are those of the command
pub task_fits : (command : Command) → PartsMatch command → PartsTold command → TaskFits (task_of command)
task_fits (Cons out top n part) form told = record { form = form; told = told }
task_fits (Gens out top n part) form told = record { form = form; told = told }
task_fits (Add p part) form told = record { form = form; told = told }
task_fits (Addgen p part) form told = record { form = form; told = told }
task_fits (Has p part) form told = form
task_fits (Relation p part) form told = form
task_fits (Bound extremum p part) form told = form
task_fits (Map by out p v rel part) form told = form
task_fits (Bounds out n part) form told = record { form = form; told = told }
task_fits other form told = tt

-- each other command has a task of another form
pub only_blank : OnlyBlankAsksNothing
only_blank Nothing e = refl
only_blank (Cons a b d f) e = cc
only_blank (Gens a b d f) e = cc
only_blank (Space a b d f) e = cc
only_blank (Copy a b) e = cc
only_blank (Drop a) e = cc
only_blank (Add a b) e = cc
only_blank (Addgen a b) e = cc
only_blank (Has a b) e = cc
only_blank (Size a) e = cc
only_blank (Print a b) e = cc
only_blank Names e = cc
only_blank (OfTwo a b d f) e = cc
only_blank (Closure a b) e = cc
only_blank (Compare a b d) e = cc
only_blank (Isempty a) e = cc
only_blank (Relation a b) e = cc
only_blank (Bound a b d) e = cc
only_blank (Map a b d f g h) e = cc
only_blank (Extend a b d f) e = cc
only_blank (Remove a b d) e = cc
only_blank (Widen a b d) e = cc
only_blank (Read a b) e = cc
only_blank (Write a b) e = cc
only_blank (System a b d) e = cc
only_blank (Init a b d) e = cc
only_blank (Trans a b d f) e = cc
only_blank (Fixpoint a b d) e = cc
only_blank (Pset a b) e = cc
only_blank (OfTwoPowersets a b d f) e = cc
only_blank (Member a b d) e = cc
only_blank (Psize a) e = cc
only_blank (Covers a b) e = cc
only_blank (Rank a b) e = cc
only_blank (Ranking a) e = cc
only_blank (ShapeOf a b) e = cc
only_blank (Bounds a b d) e = cc
only_blank (OfTwoShapes a b d f) e = cc
only_blank (ShapeContains a b) e = cc
only_blank (ShapePrint a) e = cc
only_blank (ShapePoly a b) e = cc
only_blank (Hybrid a b) e = cc
only_blank (SetPart a b d f) e = cc
only_blank (Reach a b d) e = cc
