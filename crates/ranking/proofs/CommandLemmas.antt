-- What came of the commands on ranking functions.
use Rattle.std.proofs.Common.{◌≡◌, ℕ, ◌/◌, ◌%◌, Bool, IsTrue, List, Result, Ok, Err, IfOk}
use Rattle.poly_pair.specs.declared.topology.Topology.TheVariants.{Closed}
use Rattle.poly_pair.specs.Polyhedra.{Polyhedron}
use Rattle.ranking.specs.Rankings.{IsRankingSet}
use Rattle.ranking.specs.PrintedRankings.{IsRankingText}
use Rattle.line_values.specs.Proper.{IsProper}
use Rattle.line_values.specs.Order.{Passes}
use Rattle.line_values.specs.Meaning.{room, no_fault, line}
use Rattle.ranking.specs.Commands.{relates_states, ranking, IsRankingLine}
use Rattle.line_values.specs.Performed.{IsPerformed}

-- a closed relation of states, and a name for which there is room
pub rank_passes : (r : Polyhedron) (full : Bool) → r.topology ≡ Closed → r.cons.dim % 2 ≡ 0 → ¬ (IsTrue full) → Passes (relates_states r (room full))
rank_passes r full closed even free = (λ k. k, (λ k. k, (λ k. k closed, (λ k. k even, (λ k. k, (λ k. k, (λ k. k, (λ k. k, (λ k. k, (λ k. k, (λ k. k, (λ k. k, (free, (λ k. k, tt))))))))))))))

pub ranking_passes : (r : Polyhedron) → r.topology ≡ Closed → r.cons.dim % 2 ≡ 0 → Passes (relates_states r no_fault)
ranking_passes r closed even = (λ k. k, (λ k. k, (λ k. k closed, (λ k. k even, (λ k. k, (λ k. k, (λ k. k, (λ k. k, (λ k. k, (λ k. k, (λ k. k, (λ k. k, (λ k. k, (λ k. k, tt))))))))))))))

-- one of the functions was told
pub ranking_told : (r functions : Polyhedron) (lines : List ℕ) → r.topology ≡ Closed → r.cons.dim % 2 ≡ 0 → IsRankingSet (r.cons.dim / 2) r functions → IsRankingLine functions lines → IsPerformed (ranking r) (Ok lines)
ranking_told r functions lines closed even is told = (ranking_passes r closed even, record { functions = functions; is = is; proper = told.proper; text = told.text; told = told.told; said = told.said })

-- the line of one of the functions
pub ranking_line_said : {E : Type 0} (functions : Polyhedron) (text : List ℕ) (result : Result (List ℕ) E) → IsProper functions → IsRankingText functions text → IfOk result (λ told. told ≡ line text) → IfOk result (IsRankingLine functions)
ranking_line_said functions text (Ok lines) proper told said = record { proper = proper; text = text; told = told; said = said }
ranking_line_said functions text (Err cause) proper told said = tt
