use Rattle.std.proofs.lemmas.Result.{on_ok_weaker}
use Rattle.polycalc.proofs.GivenReplies.{step_added}
use Rattle.polycalc.proofs.runs.reply_to.Goals as goal

pub returns-clause-answered : goal.returns-clause-answered
returns-clause-answered g c =
    on_ok_weaker c.add.result (λ added. step_added c.args.calc.now c.take_step.new.calc c.args.line.now c.take_step.result c.args.replies.now c.add.new.self c.take_step.ensures added) c.add.ensures.added

pub returns-clause-wanting : goal.returns-clause-wanting
returns-clause-wanting g c = c.add.ensures.wanting
