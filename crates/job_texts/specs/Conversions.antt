-- The conversion of a file of constraints into one of generators, or the other way round.
use Rattle.std.specs.Prelude.{◌≡◌, List, [], ◌∷◌, ◌++◌, ℕ, Result}
use Rattle.row_core.specs.declared.errors.Overflow.{Overflow}
use Rattle.reply_text.specs.declared.faults.Fault.TheVariants as fault
use Rattle.cdd_reading.specs.Files.{HasLinearityAfter}
use Rattle.cdd_reading.specs.Refusals.{Test, tests, other, IsFirstOf, NoneOf}
use Rattle.cdd_reading.specs.declared.format.Format.{Format}
use Rattle.stored_systems.specs.StoredLaws.{IsPair}
use Rattle.poly_pair.specs.Polyhedra.{Polyhedron, IsKept}
use Rattle.file_poly.specs.Files.{IsOfFile, LeavesOnFirstOfFile, IsWrittenOf, FitsIn}
use Rattle.line_values.specs.declared.refusal.StepErr.{StepErr}
use Rattle.line_values.specs.Replies.{Reply, Answered, Refused, Overflows, GivesReply}

-- `linearity` stands behind the file
abbrev pub linearity_behind : List ℕ → Test
linearity_behind bytes f = (f ≡ fault.LinearityAfterEnd) × HasLinearityAfter bytes

-- the tests of a file that is converted, in order
abbrev pub conversion_tests : Format → List ℕ → List Test
conversion_tests want bytes = tests want bytes ++ linearity_behind bytes ∷ []

-- the closed polyhedron of the file's points, by the two systems that are stored of them
pub record IsPolyhedronOf (want : Format) (bytes : List ℕ) (p : Polyhedron) : Type 0 where
  pub set : IsOfFile want bytes p
  pub kept : IsKept p
  pub pair : IsPair p.cons p.gens

-- the text is the file of the polyhedron's other system, and so a file of the same points
pub record IsOtherFile (want : Format) (bytes text : List ℕ) : Type 0 where
  pub polyhedron : Polyhedron
  pub of_file : IsPolyhedronOf want bytes polyhedron
  pub fit : FitsIn (other want) polyhedron
  pub written : IsWrittenOf (other want) polyhedron text
  pub same_points : IsOfFile (other want) text polyhedron

-- what a file is answered that is taken for one of this kind
abbrev pub ConvertsTo : Format → List ℕ → Reply → Type 0
ConvertsTo want bytes (Answered text) =
    NoneOf (conversion_tests want bytes) × IsOtherFile want bytes text
ConvertsTo want bytes (Refused f) = IsFirstOf (conversion_tests want bytes) f
ConvertsTo want bytes (Overflows over) =
    NoneOf (conversion_tests want bytes) × LeavesOnFirstOfFile want bytes over

-- what was given is such a reply, or memory ran out
abbrev pub GivesConversion : Format → List ℕ → Result (List ℕ) StepErr → Type 0
GivesConversion want bytes given = GivesReply (ConvertsTo want bytes) given

-- the file passes all tests, and the conversion of its list has no overflow
pub record MustConvert (want : Format) (bytes : List ℕ) : Type 0 where
  pub faultless : NoneOf (conversion_tests want bytes)
  pub safe : (over : Overflow) → ¬ (LeavesOnFirstOfFile want bytes over)
