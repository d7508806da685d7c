use Rattle.std.proofs.Common.{◌∙◌, eq-eqb, rules}
use Rattle.cdd_reading.proofs.MarkLaws.{not_same}
use Rattle.cdd_text.proofs.WrittenLaws.{no_linearity, linearity_starts, count_marked}
use Rattle.cdd_text.proofs.write.push_linearity.Goals as goal

pub returns-then-count-eq0 : goal.returns-then-count-eq0
returns-then-count-eq0 c = no_linearity c.args.text.now c.args.marks.now c.count_marks-count.result (c.count_marks-count.ensures ∙ count_marked 1 c.args.marks.now) (eq-eqb c.count_marks-count.result 0 (search rules))

pub loop-i-init : goal.loop-i-init
loop-i-init c = linearity_starts c.args.text.now c.push.new.self c.push_unsigned.new.self c.args.marks.now c.count_marks-count.result (c.count_marks-count.ensures ∙ count_marked 1 c.args.marks.now) (not_same c.count_marks-count.result 0 (search rules)) (search rules) (search rules)
