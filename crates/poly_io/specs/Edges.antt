use Rattle.std.specs.Prelude.{ℕ, ◌==◌, ◌<◌, ◌≤◌, List, length, take, Option, Result, Ok, Err, if◌then◌else◌}
use Rattle.std.specs.Io.KnownBytes.{Keeps, Appends, Consumes, IsAtEnd}
use Rattle.poly_io.specs.Counts.{next_count}
use Rattle.poly_io.specs.declared.reading.ReadAns.{ReadAns}
use Rattle.poly_io.specs.declared.reading.ReadAns.TheVariants.{Got, End, Failed as ReadFailed}
use Rattle.poly_io.specs.declared.writing.WriteAns.{WriteAns}
use Rattle.poly_io.specs.declared.writing.WriteAns.TheVariants.{Took, Failed as WriteFailed, Memory}

-- what a source's answer says of the reader behind it, as far as the reader's bytes are known
abbrev pub Means : Option (List ℕ) → Option (List ℕ) → List ℕ → ReadAns → Type 0
Means old new buffer (Got n) = (1 ≤ n) × (n ≤ length buffer) × Consumes old new (take n buffer)
Means old new buffer End = 0 < length buffer → IsAtEnd new
Means old new buffer ReadFailed = Keeps old new

-- what a sink's answer says of the writer behind it, as far as the writer's bytes are known: what
-- was taken reached it, and it never wants for memory
abbrev pub Sends : Option (List ℕ) → Option (List ℕ) → List ℕ → WriteAns → Type 0
Sends old new bytes (Took n) = Appends old new (take n bytes)
Sends old new bytes WriteFailed = Unit {0}
Sends old new bytes Memory = ⊥

-- a source's answer to what its reader answered: no byte is the end, and an error is a failure
abbrev pub answer_to_read : {E : Type 0} → Result ℕ E → ReadAns
answer_to_read (Ok n) = if n == 0 then End else Got n
answer_to_read (Err e) = ReadFailed

-- a sink's answer to what its writer answered: no byte and an error are failures
abbrev pub answer_to_write : {E : Type 0} → Result ℕ E → WriteAns
answer_to_write (Ok n) = if n == 0 then WriteFailed else Took n
answer_to_write (Err e) = WriteFailed

-- the count of faults after an answer: a failure is one more
abbrev pub count_after_read : ℕ → ReadAns → ℕ
count_after_read count (Got n) = count
count_after_read count End = count
count_after_read count ReadFailed = next_count count

abbrev pub count_after_write : ℕ → WriteAns → ℕ
count_after_write count (Took n) = count
count_after_write count WriteFailed = next_count count
count_after_write count Memory = count
