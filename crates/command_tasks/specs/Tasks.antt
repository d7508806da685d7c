-- What each command asks of the calculator.
use Rattle.std.specs.Prelude.{◌≡◌, ℕ, List, Bool}
use Rattle.script_text.specs.declared.command.Command.{Command}
use Rattle.script_text.specs.declared.command.Command.TheVariants as command
use Rattle.command_tasks.specs.declared.on_polyhedra.Maker.TheVariants as maker
use Rattle.command_tasks.specs.declared.on_polyhedra.Given.{Given}
use Rattle.command_tasks.specs.declared.on_polyhedra.Given.TheVariants as given
use Rattle.command_tasks.specs.declared.on_polyhedra.OfOne.{OfOne}
use Rattle.command_tasks.specs.declared.on_polyhedra.OfOne.TheVariants as one
use Rattle.command_tasks.specs.declared.on_polyhedra.OfTwo.{OfTwo}
use Rattle.command_tasks.specs.declared.on_polyhedra.OfTwo.TheVariants as two
use Rattle.command_tasks.specs.declared.on_polyhedra.Addition.{Addition}
use Rattle.command_tasks.specs.declared.on_polyhedra.Addition.TheVariants as addition
use Rattle.command_tasks.specs.declared.on_polyhedra.Question.{Question}
use Rattle.command_tasks.specs.declared.on_polyhedra.Question.TheVariants as question
use Rattle.command_tasks.specs.declared.on_polyhedra.About.{About}
use Rattle.command_tasks.specs.declared.on_polyhedra.About.TheVariants as about
use Rattle.command_tasks.specs.Parts.{IsConsPart, MakerFits, AdditionFits, QuestionFits}
use Rattle.command_tasks.specs.declared.tasks.Task.{Task}
use Rattle.command_tasks.specs.declared.tasks.Task.TheVariants as task
use Rattle.command_tasks.specs.declared.tasks.TableTask.{TableTask}
use Rattle.command_tasks.specs.declared.tasks.TableTask.TheVariants as table
use Rattle.command_tasks.specs.declared.tasks.Asked.{Asked}
use Rattle.command_tasks.specs.declared.tasks.Asked.TheVariants as asked
use Rattle.command_tasks.specs.declared.tasks.Made.{Made}
use Rattle.command_tasks.specs.declared.tasks.Made.TheVariants as made
use Rattle.command_tasks.specs.declared.tasks.PolyMaker.{PolyMaker}
use Rattle.command_tasks.specs.declared.tasks.PolyMaker.TheVariants as poly
use Rattle.command_tasks.specs.declared.tasks.PowersetMaker.{PowersetMaker}
use Rattle.command_tasks.specs.declared.tasks.PowersetMaker.TheVariants as powerset
use Rattle.command_tasks.specs.declared.tasks.ShapeMaker.{ShapeMaker}
use Rattle.command_tasks.specs.declared.tasks.ShapeMaker.TheVariants as shape
use Rattle.command_tasks.specs.declared.tasks.Running.{Running}
use Rattle.command_tasks.specs.declared.tasks.Running.TheVariants as running
use Rattle.command_tasks.specs.declared.tasks.PartTask.{PartTask}
use Rattle.command_tasks.specs.declared.tasks.PartTask.TheVariants as part

-- ---- tasks of some shapes
abbrev pub puts : List ℕ → Made → Task
puts out what = task.OnTable (table.Puts out what)

abbrev pub puts_poly : List ℕ → PolyMaker → Task
puts_poly out by = puts out (made.Poly by)

abbrev pub makes_alone : List ℕ → Bool → ℕ → Given → Task
makes_alone out top n by = puts_poly out (poly.OfPolyhedra (maker.Given top n by))

abbrev pub makes_of_one : List ℕ → List ℕ → OfOne → Task
makes_of_one out p by = puts_poly out (poly.OfPolyhedra (maker.OfOne p by))

abbrev pub makes_of_two : List ℕ → List ℕ → List ℕ → OfTwo → Task
makes_of_two out p q by = puts_poly out (poly.OfPolyhedra (maker.OfTwo p q by))

abbrev pub puts_powerset : List ℕ → PowersetMaker → Task
puts_powerset out by = puts out (made.Powerset by)

abbrev pub puts_shape : List ℕ → ShapeMaker → Task
puts_shape out by = puts out (made.Shape by)

abbrev pub adds : List ℕ → Addition → Task
adds p what = task.OnTable (table.AddsTo p what)

abbrev pub tells : Asked → Task
tells what = task.OnTable (table.Asks what)

abbrev pub asks : Question → Task
asks what = tells (asked.OfPolyhedra what)

abbrev pub asks_about : List ℕ → About → Task
asks_about p what = asks (question.OfOne p what)

abbrev pub runs : List ℕ → Running → Task
runs prefix what = task.OnTable (table.PutsAll prefix what)

abbrev pub changes : List ℕ → PartTask → Task
changes name what = task.ChangesPart name what

-- ---- the task of each command
-- on systems, powersets, shapes, automata or ranking functions; no other asks anything
abbrev pub further_task : Command → Task
further_task (command.System out n l) = puts out (made.System n l)
further_task (command.Init s location p) = changes s (part.Initial location p)
further_task (command.Trans s source target r) = changes s (part.Transition source target r)
further_task (command.Fixpoint s delay prefix) = runs prefix (running.System s delay)
further_task (command.Pset out p) = puts_powerset out (powerset.OfPoly p)
further_task (command.OfTwoPowersets op out s t) = puts_powerset out (powerset.OfTwo op s t)
further_task (command.Member out s i) = puts_poly out (poly.Member s i)
further_task (command.Psize s) = tells (asked.Psize s)
further_task (command.Covers s t) = tells (asked.Covers s t)
further_task (command.Rank out r) = puts_poly out (poly.Rank r)
further_task (command.Ranking r) = tells (asked.Ranking r)
further_task (command.ShapeOf out p) = puts_shape out (shape.OfPoly p)
further_task (command.Bounds out n text) = puts_shape out (shape.Bounds n text)
further_task (command.OfTwoShapes op out s t) = puts_shape out (shape.OfTwo op s t)
further_task (command.ShapeContains s t) = tells (asked.ShapeContains s t)
further_task (command.ShapePrint s) = tells (asked.ShapePrint s)
further_task (command.ShapePoly out s) = puts_poly out (poly.OfShape s)
further_task (command.Hybrid out s) = puts out (made.Hybrid s)
further_task (command.SetPart of h location p) = changes h (part.Location of location p)
further_task (command.Reach h delay prefix) = runs prefix (running.Hybrid h delay)
further_task other = task.OnTable table.Nothing

-- on polyhedra, names and files, and those
abbrev pub task_of : Command → Task
task_of (command.Cons out top n text) = makes_alone out top n (given.Cons text)
task_of (command.Gens out top n text) = makes_alone out top n (given.Gens text)
task_of (command.Space space out top n) = makes_alone out top n (given.Space space)
task_of (command.Copy out p) = makes_of_one out p one.Copy
task_of (command.Drop name) = task.OnTable (table.TakesOut name)
task_of (command.Add p text) = adds p (addition.Cons text)
task_of (command.Addgen p text) = adds p (addition.Gens text)
task_of (command.Has p text) = asks_about p (about.Has text)
task_of (command.Size p) = asks_about p about.Size
task_of (command.Print side p) = asks_about p (about.Print side)
task_of command.Names = asks question.Names
task_of (command.OfTwo op out p q) = makes_of_two out p q (two.Operate op)
task_of (command.Closure out p) = makes_of_one out p one.Closure
task_of (command.Compare by p q) = asks (question.Compare by p q)
task_of (command.Isempty p) = asks_about p about.Isempty
task_of (command.Relation p text) = asks_about p (about.Relation text)
task_of (command.Bound extremum p text) = asks_about p (about.Bound extremum text)
task_of (command.Map by out p v rel text) = makes_of_one out p (one.Map by v rel text)
task_of (command.Extend by out p n) = makes_of_one out p (one.Extend by n)
task_of (command.Remove out p vars) = makes_of_one out p (one.Remove vars)
task_of (command.Widen out p q) = makes_of_two out p q two.Widen
task_of (command.Read out form) = task.Opens out form
task_of (command.Write p form) = asks_about p (about.Write form)
task_of further = further_task further

-- nothing is asked by a blank line alone
abbrev pub OnlyBlankAsksNothing : Type 0
OnlyBlankAsksNothing =
    (x : Command) → task_of x ≡ task.OnTable table.Nothing → x ≡ command.Nothing

-- ---- the parts of a task: each has the form that the reader of its value asks for
abbrev pub AskedFits : Asked → Type 0
AskedFits (asked.OfPolyhedra what) = QuestionFits what
AskedFits other = Unit {0}

abbrev pub PolyMakerFits : PolyMaker → Type 0
PolyMakerFits (poly.OfPolyhedra by) = MakerFits by
PolyMakerFits other = Unit {0}

abbrev pub ShapeMakerFits : ShapeMaker → Type 0
ShapeMakerFits (shape.Bounds n text) = IsConsPart text
ShapeMakerFits other = Unit {0}

abbrev pub MadeFits : Made → Type 0
MadeFits (made.Poly by) = PolyMakerFits by
MadeFits (made.Shape by) = ShapeMakerFits by
MadeFits other = Unit {0}

abbrev pub TableTaskFits : TableTask → Type 0
TableTaskFits (table.Asks what) = AskedFits what
TableTaskFits (table.Puts out what) = MadeFits what
TableTaskFits (table.AddsTo p what) = AdditionFits what
TableTaskFits other = Unit {0}

abbrev pub TaskFits : Task → Type 0
TaskFits (task.OnTable what) = TableTaskFits what
TaskFits other = Unit {0}
