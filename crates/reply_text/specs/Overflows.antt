use Rattle.std.specs.Prelude.{ℕ, ◌+◌, List, ◌++◌, ℤ, map, codes, decimal}
use Rattle.std.specs.Fmt.{signed_decimal}
use Rattle.std.specs.List.{join_with_byte}
use Rattle.row_core.specs.declared.Overflow.{Overflow}
use Rattle.row_core.specs.declared.OverKind.{OverKind}
use Rattle.row_core.specs.declared.OverKind.TheVariants.{Dot, Combine, Scale, Compare}

-- what was computed, in one word
abbrev pub kind_name : OverKind → List ℕ
kind_name Dot = codes "dot"
kind_name Combine = codes "combine"
kind_name Scale = codes "scale"
kind_name Compare = codes "compare"

-- the entries of a row, with one space between
abbrev pub row_text : List ℤ → List ℕ
row_text row = join_with_byte 32 (map signed_decimal row)

-- the kind, the step, the column counted from 1, and both rows
abbrev pub overflow_text : Overflow → List ℕ
overflow_text over =
    codes "overflow " ++ kind_name over.kind ++ codes " step " ++ decimal over.step
    ++ codes " column " ++ decimal (over.column + 1)
    ++ codes " left " ++ row_text over.left ++ codes " right " ++ row_text over.right
