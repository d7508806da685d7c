use Rattle.std.specs.Prelude.{ℕ, ◌==◌, List, length, min, if◌then◌else◌}
use Rattle.poly_io.specs.Timetable.{Faults}
use Rattle.poly_io.specs.declared.reading.ReadAns.{ReadAns}
use Rattle.poly_io.specs.declared.reading.ReadAns.TheVariants.{Got, End}

-- bytes in memory that are given out: those that are left, and the most that one call gives
pub record Stock : Type 0 where
  pub left : List ℕ
  pub piece : ℕ

-- such bytes, and the calls that fail
pub record Feed : Type 0 where
  pub stock : Stock
  pub faults : Faults

-- bytes that are gathered in memory: those that are held, the most that one call takes, and how
-- often memory was refused
pub record Store : Type 0 where
  pub held : List ℕ
  pub piece : ℕ
  pub wants : ℕ

-- such bytes, and the calls that fail
pub record Shelf : Type 0 where
  pub store : Store
  pub faults : Faults

-- the answer to a read with room for this many bytes
abbrev pub answer_from : Stock → ℕ → ReadAns
answer_from stock room =
    if length stock.left == 0 then End else Got (min room (min stock.piece (length stock.left)))
