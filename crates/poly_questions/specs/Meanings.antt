-- What each question about polyhedra or the names means.
use Rattle.std.specs.Prelude.{ℕ, List, Option}
use Rattle.poly_pair.specs.Polyhedra.{Polyhedron}
use Rattle.name_table.specs.Table.{Table}
use Rattle.line_values.specs.Meaning.{Meaning, on_one, on_two}
use Rattle.line_values.specs.Operands.{poly_of, is_max}
use Rattle.command_tasks.specs.declared.on_polyhedra.Question.{Question}
use Rattle.command_tasks.specs.declared.on_polyhedra.Question.TheVariants as question
use Rattle.command_tasks.specs.declared.on_polyhedra.About.{About}
use Rattle.command_tasks.specs.declared.on_polyhedra.About.TheVariants as about
use Rattle.poly_questions.specs.Questions.{has, size, print, names}
use Rattle.poly_questions.specs.Optima.{relation, bound}
use Rattle.poly_questions.specs.Lattice.{compared, isempty}
use Rattle.poly_questions.specs.Files.{write}

-- what is said of one polyhedron
abbrev pub said_of_one : About → Polyhedron → Meaning (List ℕ)
said_of_one (about.Has part) = has part
said_of_one about.Size = size
said_of_one (about.Print side) = print side
said_of_one about.Isempty = isempty
said_of_one (about.Relation part) = relation part
said_of_one (about.Bound extremum part) = bound (is_max extremum) part
said_of_one (about.Write form) = write form

-- what is said in a table of which some entries are polyhedra
abbrev pub said : {E : Type 0} → (Option E → Option Polyhedron) → Table E → Question
    → Meaning (List ℕ)
said as_poly table (question.OfOne p of) = on_one (poly_of as_poly table p) (said_of_one of)
said as_poly table (question.Compare by p q) =
    on_two (poly_of as_poly table p) (poly_of as_poly table q) (compared by)
said as_poly table question.Names = names table
