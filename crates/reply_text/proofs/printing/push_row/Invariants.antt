use Rattle.std.specs.Prelude.{◌≡◌, ◌++◌, take}
use Rattle.reply_text.specs.Overflows.{row_text}
use Rattle.reply_text.proofs.printing.push_row.Given as goal

abbrev pub invariant-loop-j : goal.invariant-loop-j
invariant-loop-j l = l.text ≡ l.fn.text ++ row_text (take l.j l.row)
