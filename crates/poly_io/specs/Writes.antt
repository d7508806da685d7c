use Rattle.std.specs.Prelude.{◌≡◌, ℕ, ◌≤◌, List, length, take, Option}
use Rattle.std.specs.Io.KnownBytes.{append_known}
use Rattle.poly_io.specs.Counts.{next_count}
use Rattle.poly_io.specs.declared.writing.WriteAns.{WriteAns}
use Rattle.poly_io.specs.declared.writing.WriteAns.TheVariants.{Took, Failed, Memory}

-- what a write may answer, from the bytes that were held to those that now are;
-- a sink that doesn't tell its bytes goes on not telling them
abbrev pub Writes : Option (List ℕ) → Option (List ℕ) → List ℕ → WriteAns → Type 0
-- the first bytes are appended to what was held, one at least
Writes old new bytes (Took n) =
    (1 ≤ n) × (n ≤ length bytes) × (new ≡ append_known old (take n bytes))
-- a failure appends nothing, nor does running out of memory
Writes old new bytes Failed = new ≡ old
Writes old new bytes Memory = new ≡ old

-- how often memory was refused, after an answer
abbrev pub wants_after : ℕ → WriteAns → ℕ
wants_after count (Took n) = count
wants_after count Failed = count
wants_after count Memory = next_count count
