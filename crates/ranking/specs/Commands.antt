-- What the commands mean that make the ranking functions of a relation, and that say one of them.
use Rattle.std.specs.Prelude.{◌≡◌, ◌≢◌, ℕ, ◌/◌, ◌%◌, Bool, List}
use Rattle.reply_text.specs.declared.faults.Fault.TheVariants as fault
use Rattle.poly_pair.specs.declared.topology.Topology.TheVariants.{Closed}
use Rattle.poly_pair.specs.Polyhedra.{Polyhedron}
use Rattle.ranking.specs.Rankings.{IsRankingSet}
use Rattle.ranking.specs.PrintedRankings.{IsRankingText}
use Rattle.ranking.specs.Refusals.{LeavesInRanking}
use Rattle.line_values.specs.Proper.{IsProper}
use Rattle.line_values.specs.Order.{Conditions}
use Rattle.line_values.specs.Meaning.{Meaning, no_fault, room, line}

-- the polyhedron is a closed relation of states and their successors, over as many variables each
abbrev pub relates_states : Polyhedron → Conditions → Conditions
relates_states r others fault.NotClosed = r.topology ≢ Closed
relates_states r others fault.DimMismatch = r.cons.dim % 2 ≢ 0
relates_states r others other = others other

-- rank OUT R
abbrev pub rank : Bool → Polyhedron → Meaning Polyhedron
rank full r = record {
  conditions = relates_states r (room full);
  overflows = LeavesInRanking (r.cons.dim / 2) r.gens;
  does = IsRankingSet (r.cons.dim / 2) r;
}

-- one of the functions is said, or that there is none
pub record IsRankingLine (functions : Polyhedron) (lines : List ℕ) : Type 0 where
  pub proper : IsProper functions
  pub text : List ℕ
  pub told : IsRankingText functions text
  pub said : lines ≡ line text

-- one of the ranking functions is said, or that there is none, as their proper polyhedron tells
pub record IsRankingTold (r : Polyhedron) (lines : List ℕ) : Type 0 where
  pub functions : Polyhedron
  pub is : IsRankingSet (r.cons.dim / 2) r functions
  pub proper : IsProper functions
  pub text : List ℕ
  pub told : IsRankingText functions text
  pub said : lines ≡ line text

-- ranking R
abbrev pub ranking : Polyhedron → Meaning (List ℕ)
ranking r = record {
  conditions = relates_states r no_fault;
  overflows = LeavesInRanking (r.cons.dim / 2) r.gens;
  does = IsRankingTold r;
}
