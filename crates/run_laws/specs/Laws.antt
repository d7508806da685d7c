-- Laws of runs.
use Rattle.std.specs.Prelude.{◌≡◌, ◌⊎◌, ℕ, ℤ, List, [], ◌∷◌, None, Some}
use Rattle.std.specs.Map.{keys_of}
use Rattle.stored_systems.specs.StoredLaws.{IsPair}
use Rattle.poly_pair.specs.Polyhedra.{Polyhedron}
use Rattle.poly_pair.specs.declared.topology.Topology.TheVariants.{Nnc}
use Rattle.powerset.specs.declared.covering.Cover.TheVariants.{No}
use Rattle.script_text.specs.declared.command.Command.TheVariants.{Size, Print, Bound, Covers}
use Rattle.calc_state.specs.declared.entry.Entry.{Entry}
use Rattle.name_table.specs.Table.{entry_of}
use Rattle.calc_state.specs.Table.{Table, poly_of}
use Rattle.powerset.specs.Commands.{cover_line}
use Rattle.calc_state.specs.State.{State, closed}
use Rattle.line_values.specs.Replies.{Reply}
use Rattle.run_laws.specs.Acts.{Act, Did, Accepted, acts, AreAccepted}
use Rattle.calc_state.specs.Runs.{Run}
use Rattle.run_laws.specs.Sets.{IsEntryOf, IsSetOf, names_of}
use Rattle.run_laws.specs.Sameness.{AreSameEntries, AreSameTables}
use Rattle.run_laws.specs.Truth.{AreTruthful}

-- ---- what is accepted decides
-- what was accepted gives the name a polyhedron that needn't be closed
pub record IsNotClosed (commands : List Act) (name : List ℕ) : Type 0 where
  pub polyhedron : Polyhedron
  pub set : IsSetOf commands name polyhedron
  pub topology : polyhedron.topology ≡ Nnc

-- the command shows the systems, or a generator, that are stored of such a polyhedron
abbrev pub ShowsStored : List Act → Act → Type 0
ShowsStored earlier (Did (Size name)) = IsNotClosed earlier name
ShowsStored earlier (Did (Print side name)) = IsNotClosed earlier name
ShowsStored earlier (Did (Bound extremum name part)) = IsNotClosed earlier name
ShowsStored earlier other = ⊥

-- both answers are `no`, each with a point
pub record ShowUncovered (text other : List ℕ) : Type 0 where
  pub dim : ℕ
  pub point : List ℤ
  pub point_of_other : List ℤ
  pub said : text ≡ cover_line dim (No point)
  pub said_other : other ≡ cover_line dim (No point_of_other)

-- the answers say the same, and may show different points of which this is true
abbrev pub ShowPoints : Act → List ℕ → List ℕ → Type 0
ShowPoints (Did (Covers s t)) text other = ShowUncovered text other
ShowPoints act text other = ⊥

-- each of the accepted has the same answer twice, but where stored systems are shown that the
-- points don't decide, or one of the points that aren't covered
abbrev pub AreSameAnswers : List Accepted → List Accepted → Type 0
AreSameAnswers [] [] = Unit {0}
AreSameAnswers (a ∷ earlier) (b ∷ before) =
    (ShowsStored (acts earlier) a.act ⊎ ShowPoints a.act a.answer b.answer ⊎ (a.answer ≡ b.answer))
    × AreSameAnswers earlier before
AreSameAnswers all others = ⊥

-- two runs that accept the same commands and files come to the same sets under the same names, with
-- the same answers
abbrev pub AcceptedDecide : Type 0
AcceptedDecide = (lines others : List (List ℕ)) (r s : List Reply) (new other : State)
    (all rest : List Accepted)
    → Run (closed []) lines r new → Run (closed []) others s other
    → AreAccepted None [] lines r all → AreAccepted None [] others s rest → acts all ≡ acts rest
    → AreSameTables new.names other.names × AreSameAnswers all rest

-- ---- the sets of the names
-- the table has this under the name, but for systems of polyhedra that the points don't decide
pub record IsUnder (table : Table) (name : List ℕ) (e : Entry) : Type 0 where
  pub kept : Entry
  pub there : entry_of table name ≡ Some kept
  pub same : AreSameEntries e kept

-- what the table has under a name is what was accepted gives it, and what this gives a name is
-- there; the constraints and the generators of each polyhedron hold the same points; and the table
-- has the names that are given
pub record AreAsCommanded (lines : List (List ℕ)) (replies : List Reply)
    (table : Table) : Type 0 where
  pub all : List Accepted
  pub accepted : AreAccepted None [] lines replies all
  pub given : (name : List ℕ) (e : Entry) → entry_of table name ≡ Some e
      → IsEntryOf (acts all) name e
  pub there : (name : List ℕ) (e : Entry) → IsEntryOf (acts all) name e → IsUnder table name e
  pub pairs : (name : List ℕ) (p : Polyhedron) → poly_of table name ≡ Some p → IsPair p.cons p.gens
  pub names : keys_of table ≡ names_of (acts all)

abbrev pub SetsAreAsCommanded : Type 0
SetsAreAsCommanded = (lines : List (List ℕ)) (replies : List Reply) (new : State)
    → Run (closed []) lines replies new → AreAsCommanded lines replies new.names

-- what is accepted gives a name one entry at most
abbrev pub SetsAreUnique : Type 0
SetsAreUnique = (all : List Act) (name : List ℕ) (e f : Entry) → IsEntryOf all name e
    → IsEntryOf all name f → AreSameEntries e f

-- the answers of a run to what it accepts are true
pub record AnswersTruly (lines : List (List ℕ)) (replies : List Reply) : Type 0 where
  pub all : List Accepted
  pub accepted : AreAccepted None [] lines replies all
  pub truthful : AreTruthful all

abbrev pub AnswersAreTrue : Type 0
AnswersAreTrue = (lines : List (List ℕ)) (replies : List Reply) (new : State)
    → Run (closed []) lines replies new → AnswersTruly lines replies

-- a run accepts one list of commands and files
abbrev pub AcceptedIsUnique : Type 0
AcceptedIsUnique = (lines : List (List ℕ)) (replies : List Reply) (all rest : List Accepted)
    → AreAccepted None [] lines replies all → AreAccepted None [] lines replies rest → all ≡ rest
