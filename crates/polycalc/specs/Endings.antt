-- The end of a script.
use Rattle.std.specs.Prelude.{◌≡◌, ℕ, List, take, Option, Bool, true, false, ◌&&◌}
use Rattle.std.specs.Io.KnownBytes.{append_known}
use Rattle.line_values.specs.Replies.{Reply}
use Rattle.written_replies.specs.Replies.{replies_bytes, is_clean}
use Rattle.written_replies.specs.declared.status.Status.{Status}
use Rattle.written_replies.specs.declared.status.Status.TheVariants.{Done, Refused, WriteFault, Memory}

-- the reply to the end of a script is written, or a front of it
pub data Closes (further : List Reply) (clean : Bool) (now later : Option (List ℕ)) : Status
    → Type 0 where
  done : (clean && is_clean further) ≡ true → later ≡ append_known now (replies_bytes further)
      → Closes further clean now later Done
  refused : (clean && is_clean further) ≡ false → later ≡ append_known now (replies_bytes further)
      → Closes further clean now later Refused
  unwritten : (n : ℕ) → later ≡ append_known now (take n (replies_bytes further))
      → Closes further clean now later WriteFault
  unmade : (n : ℕ) → later ≡ append_known now (take n (replies_bytes further))
      → Closes further clean now later Memory
