use Rattle.std.specs.Prelude.{◌≡◌, ℕ, ◌+◌, ◌<◌, ◌≤◌, List, length, Result, Ok, Err, Vec}
use Rattle.std.specs.declared.alloc.Global.{Global}
use Rattle.poly_io.specs.declared.whole.ReadAllErr.{ReadAllErr}
use Rattle.poly_io.specs.declared.whole.ReadAllErr.TheVariants.{Failed, TooLong, Memory}

-- what reading all of a source may answer after the source gave these bytes, at most room of them a
-- read
abbrev pub AnswersGiven : List ℕ → ℕ → ℕ → Result (Vec ℕ Global) ReadAllErr → Type 0
AnswersGiven given limit room (Ok bytes) = (length given ≤ limit) × (bytes.items ≡ given)
-- it is too long exactly where more bytes than the limit were given, and then no further read is
-- made
AnswersGiven given limit room (Err TooLong) = (limit < length given) × (length given ≤ limit + room)
AnswersGiven given limit room (Err Failed) = length given ≤ limit
AnswersGiven given limit room (Err Memory) = length given ≤ limit
