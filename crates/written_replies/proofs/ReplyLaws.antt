-- What replies come to that are added and written.
use Rattle.std.proofs.Common.{◌≡◌, ℕ, List, Result, Ok, Err, subst}
use Rattle.std.specs.Prelude.{Option}
use Rattle.line_values.specs.declared.refusal.StepErr.{StepErr}
use Rattle.line_values.specs.declared.refusal.StepErr.TheVariants as err
use Rattle.line_values.specs.Replies.{Reply, Answered, Refused, Overflows, GivesReply}
use Rattle.written_replies.specs.Replies.{Written, with_reply, Adds}
use Rattle.written_replies.specs.Endings.{Writes}
use Rattle.written_replies.specs.declared.status.Status.{Status}
use Rattle.written_replies.specs.declared.status.Status.TheVariants.{ReadFault}

-- what was given and added is one reply
pub reply_added : (Is : Reply → Type 0) (given : Result (List ℕ) StepErr) (old new : Written) → GivesReply Is given → Adds given old new → (reply : Reply) × Is reply × (new ≡ with_reply old reply)
reply_added Is (Ok text) old new is added = (Answered text, is, added)
reply_added Is (Err (err.Input fault)) old new is added = (Refused fault, is, added)
reply_added Is (Err (err.Overflow over)) old new is added = (Overflows over, is, added)
reply_added Is (Err err.Memory) old new is added = absurd added

-- nothing is read where it is written
pub writes_unread : (w : Written) (old new : Option (List ℕ)) (s : Status) → Writes w old new s → s ≡ ReadFault → ⊥
writes_unread w old new s h e = subst (λ (t : Status). Writes w old new t) e h
