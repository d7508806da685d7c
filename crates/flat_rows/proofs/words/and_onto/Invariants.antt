use Rattle.std.proofs.Common.{◌≡◌, set}
use Rattle.flat_rows.specs.Flat.{entries_at}
use Rattle.flat_rows.proofs.WordRows.{anded}
use Rattle.flat_rows.proofs.words.and_onto.Given as goal

abbrev pub invariant-loop-word : goal.invariant-loop-word
invariant-loop-word l = l.rows ≡ record l.initial.rows { rows = set l.initial.rows.rows l.to (anded l.word (entries_at l.initial.rows.rows l.to) (entries_at l.initial.rows.rows l.from)) }
