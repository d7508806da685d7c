use Rattle.grammar.specs.Shape.{weight}
use Rattle.grammar.proofs.derivative.+push_after.Given as goal

abbrev pub decreases-push_after : goal.decreases-push_after
decreases-push_after l = weight l.form.now
