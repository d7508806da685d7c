-- Steps that refuse a line.
use Rattle.std.proofs.Common.{◌≡◌, ℕ, List, true, false}
use Rattle.calc_state.specs.State.{State, closed}
use Rattle.line_values.specs.Replies.{Reply, Answered, Refused, Overflows, is_answer}
use Rattle.calc_state.specs.Line.{Step}
use Rattle.calc_state.proofs.LineLemmas.{IsAnswer, unchanged_from}

never_answer : (reply : Reply) → is_answer reply ≡ false → ¬ (IsAnswer reply)
never_answer (Answered text) f = let t : true ≡ false = f in cc
never_answer (Refused fault) f = λ h. h
never_answer (Overflows over) f = λ h. h

-- a refused line leaves the names as they were, and no file is open
pub refused_unchanged : (old : State) (line : List ℕ) (reply : Reply) (new : State) → Step old line reply new → is_answer reply ≡ false → new ≡ closed old.names
refused_unchanged old line reply new step f = unchanged_from old.names old.file line reply new step (never_answer reply f)
