-- A file is read as one list, or refused for one fault.
use Rattle.std.specs.Prelude.{◌≡◌, ℕ, List}
use Rattle.cons_sys.specs.Constraints.{Constraints}
use Rattle.gens_sys.specs.Generators.{Generators}
use Rattle.reply_text.specs.declared.faults.Fault.{Fault}
use Rattle.cdd_reading.specs.Files.{IsIneFile, IsExtFile}
use Rattle.cdd_reading.specs.Refusals.{tests, NoneOf, IsFirstOf}
use Rattle.cdd_reading.specs.declared.format.Format.{Format}

abbrev pub HasOneIne : Type 0
HasOneIne = (bytes : List ℕ) (a b : Constraints) → IsIneFile bytes a → IsIneFile bytes b → a ≡ b

abbrev pub HasOneExt : Type 0
HasOneExt = (bytes : List ℕ) (a b : Generators) → IsExtFile bytes a → IsExtFile bytes b → a ≡ b

abbrev pub HasOneFault : Type 0
HasOneFault =
    (want : Format) (bytes : List ℕ) (f g : Fault) → IsFirstOf (tests want bytes) f
    → IsFirstOf (tests want bytes) g → f ≡ g

-- a file that passes all tests has no fault
abbrev pub PassesOrFails : Type 0
PassesOrFails =
    (want : Format) (bytes : List ℕ) (f : Fault) → NoneOf (tests want bytes)
    → IsFirstOf (tests want bytes) f → ⊥
