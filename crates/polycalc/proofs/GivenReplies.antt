-- The reply of a step that was given and added.
use Rattle.std.proofs.Common.{◌≡◌, ℕ, List, Result, Ok, Err}
use Rattle.line_values.specs.declared.refusal.StepErr.{StepErr}
use Rattle.line_values.specs.declared.refusal.StepErr.TheVariants as err
use Rattle.line_values.specs.Replies.{Reply, Answered, Refused, Overflows}
use Rattle.calc_state.specs.State.{State}
use Rattle.calc_state.specs.Line.{Step, Gives}
use Rattle.written_replies.specs.Replies.{Written, with_reply, Adds}

-- what a step gave and was added is its one reply
pub step_added : (state later : State) (line : List ℕ) (given : Result (List ℕ) StepErr) (old new : Written) → Gives state line given later → Adds given old new → (reply : Reply) × Step state line reply later × (new ≡ with_reply old reply)
step_added state later line (Ok text) old new is added = (Answered text, is, added)
step_added state later line (Err (err.Input fault)) old new is added = (Refused fault, is, added)
step_added state later line (Err (err.Overflow over)) old new is added = (Overflows over, is, added)
step_added state later line (Err err.Memory) old new is added = absurd added
