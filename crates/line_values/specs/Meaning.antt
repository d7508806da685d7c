-- What a command asks of its operands, and what it answers.
use Rattle.std.specs.Prelude.{◌≡◌, ◌≢◌, ◌↔◌, ℕ, ◌<◌, List, Bool, IsTrue, Option, None, Some, ◌∷◌, [], ◌++◌, codes, true, false}
use Rattle.row_core.specs.declared.errors.Overflow.{Overflow}
use Rattle.reply_text.specs.declared.faults.Fault.TheVariants as fault
use Rattle.poly_pair.specs.Polyhedra.{Polyhedron}
use Rattle.line_values.specs.Order.{Conditions}

-- what a command asks and answers: its faults, the overflows that it may show, the right answers
pub record Meaning (A : Type 0) : Type 1 where
  pub conditions : Conditions
  pub overflows : Overflow → Type 0
  pub does : A → Type 0

-- ---- what a command asks
-- no fault is possible
abbrev pub no_fault : Conditions
no_fault other = ⊥

-- no overflow is possible
abbrev pub no_overflow : Overflow → Type 0
no_overflow over = ⊥

-- a name that is read isn't there, or is of another kind
abbrev pub unknown_name : Conditions
unknown_name fault.UnknownName = Unit {0}
unknown_name other = ⊥

-- the command reads a name that isn't there
abbrev pub unknown : {A : Type 0} → Meaning A
unknown = record { conditions = unknown_name; overflows = no_overflow; does = λ answer. ⊥ }

-- the command reads one entry of a kind
abbrev pub on_one : {A B : Type 0} → Option A → (A → Meaning B) → Meaning B
on_one None meaning = unknown
on_one (Some p) meaning = meaning p

-- the command reads two
abbrev pub on_two : {A B C : Type 0} → Option A → Option B → (A → B → Meaning C) → Meaning C
on_two None q meaning = unknown
on_two (Some p) None meaning = unknown
on_two (Some p) (Some q) meaning = meaning p q

-- two operands have one topology and one dimension
abbrev pub alike : Polyhedron → Polyhedron → Conditions → Conditions
alike p q others fault.TopologyMismatch = p.topology ≢ q.topology
alike p q others fault.DimMismatch = p.cons.dim ≢ q.cons.dim
alike p q others other = others other

-- a result needs room for its name, and the table is full or not
abbrev pub room : Bool → Conditions
room full fault.TooManyNames = IsTrue full
room full other = ⊥

-- a dimension is at most 63
abbrev pub small : ℕ → Conditions → Conditions
small n others fault.TooManyDims = 63 < n
small n others other = others other

-- ---- what a command says
-- the text, and the end of its line
abbrev pub line : List ℕ → List ℕ
line text = text ++ 10 ∷ []

-- the command says these lines
abbrev pub says : List ℕ → Meaning (List ℕ)
says lines = record { conditions = no_fault; overflows = no_overflow; does = λ text. text ≡ lines }

-- the answer to a question
abbrev pub answer_line : Bool → List ℕ
answer_line true = codes "yes" ++ 10 ∷ []
answer_line false = codes "no" ++ 10 ∷ []

-- yes is said where the statement is true, and else no
pub record IsTold (Statement : Type 0) (text : List ℕ) : Type 0 where
  pub holds : Bool
  pub true_of : IsTrue holds ↔ Statement
  pub said : text ≡ answer_line holds
