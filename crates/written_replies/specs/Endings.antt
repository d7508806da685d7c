-- What is written of gathered replies.
use Rattle.std.specs.Prelude.{◌≡◌, ℕ, List, take, Option, true, false}
use Rattle.std.specs.Io.KnownBytes.{append_known}
use Rattle.written_replies.specs.Replies.{Written}
use Rattle.written_replies.specs.declared.status.Status.{Status}
use Rattle.written_replies.specs.declared.status.Status.TheVariants.{Done, Refused, Usage, ReadFault, WriteFault, Memory, InputTooLong}

-- behind what was held stand the gathered replies, or a front of them; whether they are clean
abbrev pub Writes : Written → Option (List ℕ) → Option (List ℕ) → Status → Type 0
Writes w now later Done = (w.clean ≡ true) × (later ≡ append_known now w.bytes)
Writes w now later Refused = (w.clean ≡ false) × (later ≡ append_known now w.bytes)
Writes w now later WriteFault = (count : ℕ) × (later ≡ append_known now (take count w.bytes))
Writes w now later Memory = (count : ℕ) × (later ≡ append_known now (take count w.bytes))
Writes w now later Usage = ⊥
Writes w now later ReadFault = ⊥
Writes w now later InputTooLong = ⊥
