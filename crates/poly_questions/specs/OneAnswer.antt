-- Questions that have one answer.
use Rattle.std.specs.Prelude.{◌≡◌, ℕ, List}
use Rattle.row_core.specs.declared.errors.Overflow.{Overflow}
use Rattle.poly_pair.specs.Polyhedra.{Polyhedron}
use Rattle.script_text.specs.declared.command.Comparison.{Comparison}
use Rattle.script_text.specs.declared.command.Comparison.TheVariants as by
use Rattle.command_tasks.specs.declared.on_polyhedra.About.{About}
use Rattle.line_values.specs.Meaning.{Meaning}
use Rattle.poly_questions.specs.Lattice.{compared}
use Rattle.poly_questions.specs.Meanings.{said_of_one}

-- the meaning says one text or shows one overflow
pub record SaysOnce (m : Meaning (List ℕ)) : Type 0 where
  pub one_text : (k l : List ℕ) → m.does k → m.does l → k ≡ l
  pub one_overflow : (o p : Overflow) → m.overflows o → m.overflows p → o ≡ p
  pub not_both : (k : List ℕ) (o : Overflow) → m.does k → ¬ (m.overflows o)

-- a question about one polyhedron has one answer
abbrev pub HasOneAnswer : Type 0
HasOneAnswer = (what : About) (p : Polyhedron) → SaysOnce (said_of_one what p)

-- the comparison converts nothing
abbrev pub ConvertsNothing : Comparison → Type 0
ConvertsNothing by.Contains = Unit {0}
ConvertsNothing by.Equal = Unit {0}
ConvertsNothing by.Disjoint = ⊥

-- a comparison that converts nothing has one answer
abbrev pub HasOneComparison : Type 0
HasOneComparison =
    (op : Comparison) (p q : Polyhedron) → ConvertsNothing op → SaysOnce (compared op p q)
