-- The parts of a task: each has the form that its reader asks for, and tells its strict relations.
use Rattle.std.specs.Prelude.{◌≡◌}
use Rattle.grammar.specs.Form.{Matches}
use Rattle.grammar.specs.Grammar.{alone}
use Rattle.grammar.specs.Cases.{expr_cases, frac_cases, con_cases, cons_cases, gens_cases, point_cases}
use Rattle.script_text.specs.Commands.{is_strict}
use Rattle.script_text.specs.declared.command.Part.{Part}
use Rattle.command_tasks.specs.declared.on_polyhedra.Maker.{Maker}
use Rattle.command_tasks.specs.declared.on_polyhedra.Maker.TheVariants as maker
use Rattle.command_tasks.specs.declared.on_polyhedra.Given.{Given}
use Rattle.command_tasks.specs.declared.on_polyhedra.Given.TheVariants as given
use Rattle.command_tasks.specs.declared.on_polyhedra.OfOne.{OfOne}
use Rattle.command_tasks.specs.declared.on_polyhedra.OfOne.TheVariants as one
use Rattle.command_tasks.specs.declared.on_polyhedra.Addition.{Addition}
use Rattle.command_tasks.specs.declared.on_polyhedra.Addition.TheVariants as addition
use Rattle.command_tasks.specs.declared.on_polyhedra.Question.{Question}
use Rattle.command_tasks.specs.declared.on_polyhedra.Question.TheVariants as question
use Rattle.command_tasks.specs.declared.on_polyhedra.About.{About}
use Rattle.command_tasks.specs.declared.on_polyhedra.About.TheVariants as about

-- a text of constraints
pub record IsConsPart (part : Part) : Type 0 where
  pub form : Matches (alone cons_cases) part.text
  pub told : part.strict ≡ is_strict part.text

-- a text of generators
pub record IsGensPart (part : Part) : Type 0 where
  pub form : Matches (alone gens_cases) part.text
  pub told : part.strict ≡ is_strict part.text

abbrev pub GivenFits : Given → Type 0
GivenFits (given.Cons part) = IsConsPart part
GivenFits (given.Gens part) = IsGensPart part
GivenFits (given.Space space) = Unit {0}

abbrev pub OfOneFits : OfOne → Type 0
OfOneFits (one.Map by v rel part) = Matches (alone frac_cases) part.text
OfOneFits one.Copy = Unit {0}
OfOneFits one.Closure = Unit {0}
OfOneFits (one.Extend by n) = Unit {0}
OfOneFits (one.Remove vars) = Unit {0}

-- the parts of a maker
abbrev pub MakerFits : Maker → Type 0
MakerFits (maker.Given top n by) = GivenFits by
MakerFits (maker.OfOne p by) = OfOneFits by
MakerFits (maker.OfTwo p q by) = Unit {0}

-- the part of an addition
abbrev pub AdditionFits : Addition → Type 0
AdditionFits (addition.Cons part) = IsConsPart part
AdditionFits (addition.Gens part) = IsGensPart part

abbrev pub AboutFits : About → Type 0
AboutFits (about.Has part) = Matches (alone point_cases) part.text
AboutFits about.Size = Unit {0}
AboutFits (about.Print side) = Unit {0}
AboutFits about.Isempty = Unit {0}
AboutFits (about.Relation part) = Matches (alone con_cases) part.text
AboutFits (about.Bound extremum part) = Matches (alone expr_cases) part.text
AboutFits (about.Write form) = Unit {0}

-- the part of a question
abbrev pub QuestionFits : Question → Type 0
QuestionFits (question.OfOne p of) = AboutFits of
QuestionFits (question.Compare by p q) = Unit {0}
QuestionFits question.Names = Unit {0}
