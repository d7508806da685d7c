use Rattle.std.proofs.Common.{◌≡◌, ◌∷◌, ◌++◌, [], map, drop, take}
use Rattle.std.specs.Fmt.{signed_decimal}
use Rattle.cdd_text.specs.Written.{spaced, line_of, row_words}
use Rattle.cdd_text.proofs.write.push_row.Given as goal

abbrev pub invariant-loop-entry : goal.invariant-loop-entry
invariant-loop-entry l = l.text ++ (spaced (map signed_decimal (drop l.entry-index (take l.last l.row))) ++ 10 ∷ []) ≡ l.fn.text ++ line_of (row_words l.row)
