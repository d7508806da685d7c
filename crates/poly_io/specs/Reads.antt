use Rattle.std.specs.Prelude.{◌≡◌, ℕ, ◌≤◌, List, length, take, Option}
use Rattle.std.specs.Io.KnownBytes.{prepend_known, IsAtEnd}
use Rattle.poly_io.specs.declared.reading.ReadAns.{ReadAns}
use Rattle.poly_io.specs.declared.reading.ReadAns.TheVariants.{Got, End, Failed}

-- the source gave bytes with this property: they were the first of those that it had left
abbrev pub Gave : Option (List ℕ) → Option (List ℕ) → (List ℕ → Type 0) → Type 0
Gave old new Are = (given : List ℕ) × (old ≡ prepend_known given new) × Are given

-- what a read may answer, from the bytes that were left to those that still are, with the buffer
-- after it; a source that doesn't tell its bytes goes on not telling them
abbrev pub Reads : Option (List ℕ) → Option (List ℕ) → List ℕ → ReadAns → Type 0
-- the first bytes of what was left are moved to the front of the buffer, one at least
Reads old new buffer (Got n) =
    (1 ≤ n) × (n ≤ length buffer) × (old ≡ prepend_known (take n buffer) new)
-- the end comes only where nothing is left
Reads old new buffer End = IsAtEnd old × (new ≡ old)
-- a failure takes nothing
Reads old new buffer Failed = new ≡ old
