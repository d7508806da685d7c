-- Files that are being read, and what comes of a whole one.
use Rattle.std.specs.Prelude.{◌≡◌, ℕ, List, [], ◌∷◌, ◌++◌, take, Bool, IsTrue, Result, Ok, Err}
use Rattle.reply_text.specs.declared.faults.Fault.TheVariants as fault
use Rattle.cdd_reading.specs.Refusals.{Test, tests, IsFirstOf, NoneOf}
use Rattle.poly_pair.specs.Polyhedra.{Polyhedron}
use Rattle.file_poly.specs.Files.{IsOfFile, LeavesOnFile}
use Rattle.line_values.specs.declared.refusal.StepErr.{StepErr}
use Rattle.line_values.specs.declared.refusal.StepErr.TheVariants as err
use Rattle.line_values.specs.Operands.{format_of}
use Rattle.line_values.specs.Proper.{IsProper}

-- a file that is being read: its polyhedron's name, whether it has generators, its lines with CR LF
pub record OpenFile : Type 0 where
  pub name : List ℕ
  pub ext : Bool
  pub text : List ℕ

-- with one line more; of one over the limit 65,536 bytes are kept, which tell that it is too long
abbrev pub with_line : OpenFile → List ℕ → OpenFile
with_line file line =
    record { name = file.name; ext = file.ext; text = file.text ++ take 65536 line ++ 13 ∷ 10 ∷ [] }

-- there is no room for the name
abbrev pub no_room : Bool → Test
no_room full f = (f ≡ fault.TooManyNames) × IsTrue full

-- the tests of a whole file, in order
abbrev pub whole_tests : Bool → OpenFile → List Test
whole_tests full file = tests (format_of file.ext) file.text ++ no_room full ∷ []

-- what came of a whole file
abbrev pub IsFileRead : Bool → OpenFile → Result Polyhedron StepErr → Type 0
IsFileRead full file (Ok p) =
    NoneOf (whole_tests full file) × IsOfFile (format_of file.ext) file.text p × IsProper p
IsFileRead full file (Err (err.Input f)) = IsFirstOf (whole_tests full file) f
IsFileRead full file (Err (err.Overflow over)) =
    NoneOf (whole_tests full file) × LeavesOnFile (format_of file.ext) file.text over
IsFileRead full file (Err err.Memory) = Unit {0}
