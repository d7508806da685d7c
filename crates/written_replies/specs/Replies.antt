use Rattle.std.specs.Prelude.{◌≡◌, ℕ, List, [], ◌∷◌, ◌++◌, Bool, ◌&&◌, Result, Ok, Err}
use Rattle.std.specs.List.{flat_map, list_all}
use Rattle.line_values.specs.Replies.{Reply, Answered, Refused, Overflows, is_answer}
use Rattle.line_values.specs.declared.refusal.StepErr.{StepErr}
use Rattle.line_values.specs.declared.refusal.StepErr.TheVariants as err
use Rattle.reply_text.specs.Faults.{fault_text}
use Rattle.reply_text.specs.Overflows.{overflow_text}

-- the bytes of a reply: whole lines, each with its line feed
abbrev pub reply_bytes : Reply → List ℕ
reply_bytes (Answered text) = text
reply_bytes (Refused fault) = fault_text fault ++ 10 ∷ []
reply_bytes (Overflows over) = overflow_text over ++ 10 ∷ []

-- the bytes of replies in order
abbrev pub replies_bytes : List Reply → List ℕ
replies_bytes replies = flat_map reply_bytes replies

-- no reply is a fault or an overflow
abbrev pub is_clean : List Reply → Bool
is_clean replies = list_all is_answer replies

-- what replies come to: their bytes, and whether no one of them is a fault or an overflow
pub record Written : Type 0 where
  pub bytes : List ℕ
  pub clean : Bool

abbrev pub written : List Reply → Written
written replies = record { bytes = replies_bytes replies; clean = is_clean replies }

-- with one reply more
abbrev pub with_reply : Written → Reply → Written
with_reply w reply =
    record { bytes = w.bytes ++ reply_bytes reply; clean = w.clean && is_answer reply }

-- the reply that was given is added; where memory ran out there is none
abbrev pub Adds : Result (List ℕ) StepErr → Written → Written → Type 0
Adds (Ok text) old new = new ≡ with_reply old (Answered text)
Adds (Err (err.Input fault)) old new = new ≡ with_reply old (Refused fault)
Adds (Err (err.Overflow over)) old new = new ≡ with_reply old (Overflows over)
Adds (Err err.Memory) old new = ⊥
