use Rattle.std.proofs.Common.{eqb, drop, arith}
use Rattle.std.proofs.lemmas.List.{length-drop}
use Rattle.std.proofs.lemmas.List.Sums.{common_prefix_len-le}
use Rattle.line_forms.proofs.choice.common_len.Goals as goal

pub returns-else-count-word : goal.returns-else-count-word
returns-else-count-word c =
    let most = (common_prefix_len-le eqb (drop c.loop-count.count c.args.text.now) (drop c.loop-count.count c.args.word.now)).1 in
    omega (arith, most, length-drop c.loop-count.count c.args.word.now, c.loop-count.invariant.0, c.if-count-word.false)
