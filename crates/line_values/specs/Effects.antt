-- What a command does in a table of names: what is said, put or taken out.
use Rattle.std.specs.Prelude.{◌≡◌, ℕ, List, [], ◌∷◌, ◌++◌, map, Option, None, Some, MatchOption, Result, Ok, Err, Vec, codes}
use Rattle.std.specs.declared.alloc.Global.{Global}
use Rattle.row_core.specs.declared.errors.Memory.{Memory}
use Rattle.poly_pair.specs.Polyhedra.{Polyhedron}
use Rattle.name_table.specs.Table.{Table, put, put_each, without, numbered_entries}
use Rattle.line_values.specs.declared.refusal.StepErr.{StepErr}
use Rattle.line_values.specs.declared.change.Change.{Change}
use Rattle.line_values.specs.declared.change.Change.TheVariants.{Says, Puts, PutsAll, TakesOut}
use Rattle.line_values.specs.Meaning.{Meaning, no_fault, no_overflow, unknown}

-- ---- changes
-- the reply is a text with this property, and nothing changes
abbrev pub IsReply : {E : Type 0} → (List ℕ → Type 0) → Change E → Type 0
IsReply Is (Says text) = Is text
IsReply Is other = ⊥

-- an entry of a kind with this property is put under the name
abbrev pub IsPutAs : {A E : Type 0} → (Option E → Option A) → List ℕ → (A → Type 0) → Change E
    → Type 0
IsPutAs kind out Is (Puts name e) = (name ≡ out) × MatchOption (kind (Some e)) ⊥ Is
IsPutAs kind out Is other = ⊥

-- polyhedra with this property are put under the numbered names
abbrev pub AreAllPut : {E : Type 0} → List ℕ → (List Polyhedron → Type 0) → Change E → Type 0
AreAllPut out Are (PutsAll prefix sets) = (prefix ≡ out) × Are sets.items
AreAllPut out Are other = ⊥

-- this name is taken out
abbrev pub IsTakenOut : {E : Type 0} → List ℕ → Change E → Type 0
IsTakenOut name (TakesOut taken) = taken ≡ name
IsTakenOut name other = ⊥

-- drop NAME
abbrev pub drop_of : {E : Type 0} → List ℕ → Option E → Meaning (Change E)
drop_of name None = unknown
drop_of name (Some e) =
    record { conditions = no_fault; overflows = no_overflow; does = IsTakenOut name }

-- ---- what a command makes or says
-- what the command makes is put under the name, as an entry of its kind
abbrev pub puts : {A E : Type 0} → (Option E → Option A) → List ℕ → Meaning A → Meaning (Change E)
puts kind out m =
    record { conditions = m.conditions; overflows = m.overflows; does = IsPutAs kind out m.does }

-- what the command says is the reply
abbrev pub tells : {E : Type 0} → Meaning (List ℕ) → Meaning (Change E)
tells m = record { conditions = m.conditions; overflows = m.overflows; does = IsReply m.does }

-- what came of making an entry, as a change of the table
abbrev pub placed : {A E : Type 0} → (A → E) → List ℕ → Result A StepErr → Result (Change E) StepErr
placed kind out (Ok made) = Ok (Puts out (kind made))
placed kind out (Err cause) = Err cause

-- what came of making polyhedra, as a change of the table
abbrev pub all_placed : {E : Type 0} → List ℕ → Result (Vec Polyhedron Global) StepErr
    → Result (Change E) StepErr
all_placed prefix (Ok sets) = Ok (PutsAll prefix sets)
all_placed prefix (Err cause) = Err cause

-- what came of a question, as a change of the table
abbrev pub replied : {E : Type 0} → Result (List ℕ) StepErr → Result (Change E) StepErr
replied (Ok text) = Ok (Says text)
replied (Err cause) = Err cause

-- ---- the table after a change
-- the reply to a line that makes or changes something
abbrev pub ok_line : List ℕ
ok_line = codes "ok" ++ 10 ∷ []

-- the lines of the reply
abbrev pub lines_of : {E : Type 0} → Change E → List ℕ
lines_of (Says text) = text
lines_of other = ok_line

-- the table after the change, where a polyhedron is put as this entry
abbrev pub after : {E : Type 0} → (Polyhedron → E) → Table E → Change E → Table E
after of_poly table (Says text) = table
after of_poly table (Puts name e) = put table name e
after of_poly table (PutsAll prefix sets) =
    put_each table (numbered_entries prefix 0 (map of_poly sets.items))
after of_poly table (TakesOut name) = without table name

-- the change is made and its lines are given, or memory ran out and the table is as before
abbrev pub Shows : {E : Type 0} → (Polyhedron → E) → Table E → Change E → Result (List ℕ) Memory
    → Table E → Type 0
Shows of_poly old change (Ok lines) new =
    (lines ≡ lines_of change) × (new ≡ after of_poly old change)
Shows of_poly old change (Err memory) new = new ≡ old
