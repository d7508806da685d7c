-- What the commands mean that make and combine powersets, and those that ask about them.
use Rattle.std.specs.Prelude.{◌≡◌, ◌≢◌, ◌⊎◌, ℕ, ◌-◌, ◌<◌, List, ◌++◌, length, slice_get, Some, Bool, true, codes, decimal}
use Rattle.row_core.specs.declared.errors.Overflow.{Overflow}
use Rattle.reply_text.specs.declared.faults.Fault.TheVariants as fault
use Rattle.gens_sys.specs.declared.kind.GenKind.TheVariants.{Point}
use Rattle.expr_text.specs.Printed.{generator_text}
use Rattle.poly_pair.specs.Polyhedra.{Polyhedron}
use Rattle.powerset.specs.Powersets.{FinitePowerset, IsPowersetOfOne}
use Rattle.powerset.specs.Joins.{IsJoin, LeavesOnJoin, IsPairMeet, LeavesOnPairMeet}
use Rattle.powerset.specs.Covers.{IsCover, LeavesOnCover}
use Rattle.powerset.specs.declared.covering.Cover.{Cover}
use Rattle.powerset.specs.declared.covering.Cover.TheVariants.{Yes, No}
use Rattle.script_text.specs.declared.command.PowersetOperator.{PowersetOperator}
use Rattle.script_text.specs.declared.command.PowersetOperator.TheVariants.{Join, Meet}
use Rattle.line_values.specs.Order.{Conditions}
use Rattle.line_values.specs.Meaning.{Meaning, no_fault, no_overflow, room, answer_line, line, says}

-- ---- makers
-- pset OUT P
abbrev pub pset : Bool → Polyhedron → Meaning FinitePowerset
pset full p = record { conditions = room full; overflows = no_overflow; does = IsPowersetOfOne p }

-- two unions have one topology and one dimension
abbrev pub alike_unions : FinitePowerset → FinitePowerset → Conditions → Conditions
alike_unions s t others fault.TopologyMismatch = s.topology ≢ t.topology
alike_unions s t others fault.DimMismatch = s.dim ≢ t.dim
alike_unions s t others other = others other

-- the overflows that a combination may show
abbrev pub LeavesInPowersets : PowersetOperator → FinitePowerset → FinitePowerset → Overflow
    → Type 0
LeavesInPowersets Join s t over = LeavesOnJoin s t over
LeavesInPowersets Meet s t over = LeavesOnPairMeet s t over

-- the combination of two unions
abbrev pub IsPowersetOf : PowersetOperator → FinitePowerset → FinitePowerset → FinitePowerset
    → Type 0
IsPowersetOf Join s t u = IsJoin s t u
IsPowersetOf Meet s t u = IsPairMeet s t u

-- join OUT S T, pmeet OUT S T
abbrev pub of_two_powersets : PowersetOperator → Bool → FinitePowerset → FinitePowerset
    → Meaning FinitePowerset
of_two_powersets op full s t = record {
  conditions = alike_unions s t (room full);
  overflows = LeavesInPowersets op s t;
  does = IsPowersetOf op s t;
}

-- members are counted from 1, and the number isn't one of so many
abbrev pub misses_member : ℕ → ℕ → Conditions → Conditions
misses_member count i others fault.OutOfRange = (i ≡ 0) ⊎ (count < i)
misses_member count i others other = others other

-- member OUT S I
abbrev pub member : Bool → ℕ → FinitePowerset → Meaning Polyhedron
member full i s = record {
  conditions = misses_member (length s.members) i (room full);
  overflows = no_overflow;
  does = λ r. slice_get s.members (i - 1) ≡ Some r;
}

-- ---- questions
-- members M
abbrev pub members_text : FinitePowerset → List ℕ
members_text s = codes "members " ++ decimal (length s.members)

-- psize S
abbrev pub psize : FinitePowerset → Meaning (List ℕ)
psize s = says (line (members_text s))

-- yes, or no and the point that isn't covered
abbrev pub cover_line : ℕ → Cover → List ℕ
cover_line dim Yes = answer_line true
cover_line dim (No v) = line (codes "no " ++ generator_text dim (v, Point))

-- whether the one covers the other is said
pub record IsCoverTold (s t : FinitePowerset) (text : List ℕ) : Type 0 where
  pub answer : Cover
  pub true_of : IsCover s t answer
  pub said : text ≡ cover_line s.dim answer

-- covers S T
abbrev pub covers : FinitePowerset → FinitePowerset → Meaning (List ℕ)
covers s t = record {
  conditions = alike_unions s t no_fault;
  overflows = LeavesOnCover s t;
  does = IsCoverTold s t;
}
