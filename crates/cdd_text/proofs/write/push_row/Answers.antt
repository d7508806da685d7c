use Rattle.std.proofs.Common.{◌-◌, ◌++◌, length, take, rules}
use Rattle.std.specs.Prelude.{pos}
use Rattle.std.specs.Fmt.{signed_decimal}
use Rattle.cdd_text.specs.Written.{line_of, row_words}
use Rattle.cdd_text.proofs.WrittenLaws.{spaced_next, row_starts}
use Rattle.cdd_text.proofs.write.push_row.Goals as goal

pub loop-entry-init : goal.loop-entry-init
loop-entry-init c = row_starts c.args.text.now c.push_signed.new.self c.args.row.now c.requires (search rules)

pub loop-entry-preserved : goal.loop-entry-preserved
loop-entry-preserved c =
    let row = c.args.row.now in
    spaced_next signed_decimal (take (length row - 1) row) c.loop-entry.entry-index (pos 0) c.loop-entry.text c.push_byte.new.self c.push_signed-in-loop-entry.new.self (c.args.text.now ++ line_of (row_words row)) (search rules) (search rules) (search rules) c.loop-entry.invariant
