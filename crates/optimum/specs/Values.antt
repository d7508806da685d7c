-- Values of a row on generators in order.
use Rattle.std.specs.Prelude.{◌≡◌, ℕ, ◌<◌, List, length, ℤ, false, Result, Ok, Err}
use Rattle.row_core.specs.Vectors.{dot}
use Rattle.row_core.specs.Range.{DotStays, IsFirstToLeave, AllStay}
use Rattle.row_core.specs.declared.PairOver.{PairOver}
use Rattle.row_core.specs.declared.OverKind.TheVariants.{Dot}
use Rattle.gens_sys.specs.Generators.{Generator, row_at}

-- in the dot of the row and generator i no product and no partial sum leaves the range
abbrev pub RowStays : List ℤ → List Generator → ℕ → Type 0
RowStays row list i = AllStay (DotStays row (row_at list i)) (length row)

-- the dots of the row and the first n generators stay in the range
abbrev pub RowReaches : List ℤ → List Generator → ℕ → Type 0
RowReaches row list n = (i : ℕ) → i < n → RowStays row list i

-- the refusal shows the dot of the row and a generator, and the first column at which
-- it leaves the range
pub record DotLeaves (row : List ℤ) (list : List Generator) (over : PairOver) : Type 0 where
  pub kind : over.kind ≡ Dot
  pub left : over.left ≡ 0
  pub column : IsFirstToLeave (DotStays row (row_at list over.right)) (length row) over.column

-- and that generator is the first whose dot with the row leaves the range
pub record RowLeaves (row : List ℤ) (list : List Generator) (over : PairOver) : Type 0 where
  pub generator : over.right < length list
  pub turned : over.turned ≡ false
  pub reached : RowReaches row list over.right
  pub leaves : DotLeaves row list over

-- the refusal of a dot
abbrev pub row_over : ℕ → ℕ → PairOver
row_over right column =
    record { kind = Dot; left = 0; right = right; column = column; turned = false }

-- what forming the value on one generator answers
abbrev pub ValueAnswer : List ℤ → List Generator → ℕ → Result ℤ PairOver → Type 0
ValueAnswer row list i (Ok value) = (value ≡ dot row (row_at list i)) × RowStays row list i
ValueAnswer row list i (Err over) = (over ≡ row_over i over.column)
    × IsFirstToLeave (DotStays row (row_at list i)) (length row) over.column
