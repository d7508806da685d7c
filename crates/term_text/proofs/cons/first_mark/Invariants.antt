use Rattle.std.proofs.Common.{◌≡◌, drop}
use Rattle.term_text.specs.Reading.{first_mark}
use Rattle.term_text.proofs.cons.first_mark.Given as goal

abbrev pub invariant-loop-byte : goal.invariant-loop-byte
invariant-loop-byte l = first_mark (drop l.byte-index l.text) ≡ first_mark l.text
