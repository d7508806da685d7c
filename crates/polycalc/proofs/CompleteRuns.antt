-- Lines that must succeed.
use Rattle.std.proofs.Common.{◌≡◌, ℕ, List, [], ◌∷◌, refl, true}
use Rattle.script_text.specs.Line.{SpellsOne, ReadsOnce}
use Rattle.calc_state.specs.State.{State}
use Rattle.line_values.specs.Replies.{Reply, Answered, Refused, Overflows, is_answer}
use Rattle.calc_state.specs.Line.{MustSucceed}
use Rattle.calc_state.specs.Runs.{Run, IsComplete}
use Rattle.calc_state.proofs.LineLemmas.{IsAnswer, safe_reply}

answer_true : (reply : Reply) → IsAnswer reply → is_answer reply ≡ true
answer_true (Answered text) h = refl
answer_true (Refused fault) h = absurd h
answer_true (Overflows over) h = absurd h

-- in each run each line that must succeed is answered
pub run_complete : SpellsOne → ReadsOnce → (old : State) (lines : List (List ℕ)) (replies : List Reply) (new : State) (run : Run old lines replies new) → IsComplete old lines replies new run
run_complete one read old [] [] new run = tt
run_complete one read old (line ∷ lines) (reply ∷ replies) new (mid, step, run) =
    (λ (m : MustSucceed old line). answer_true reply (safe_reply one read old.names old.file mid line reply step m), run_complete one read mid lines replies new run)
run_complete one read old [] (reply ∷ replies) new run = run
run_complete one read old (line ∷ lines) [] new run = run
