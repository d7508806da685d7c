use Rattle.std.proofs.Common.{ap, sym, ◌∙◌}
use Rattle.command_tasks.specs.Tasks.{further_task}
use Rattle.command_tasks.proofs.taking_apart.further_task.Goals as goal

pub returns-in-System : goal.returns-in-System
returns-in-System c = c.puts.ensures ∙ ap further_task (sym c.in-System.is)

pub returns-in-Init : goal.returns-in-Init
returns-in-Init c = c.changes.ensures ∙ ap further_task (sym c.in-Init.is)

pub returns-in-Trans : goal.returns-in-Trans
returns-in-Trans c = c.changes-in-Trans.ensures ∙ ap further_task (sym c.in-Trans.is)

pub returns-in-Fixpoint : goal.returns-in-Fixpoint
returns-in-Fixpoint c = c.runs.ensures ∙ ap further_task (sym c.in-Fixpoint.is)

pub returns-in-Pset : goal.returns-in-Pset
returns-in-Pset c = c.puts_powerset.ensures ∙ ap further_task (sym c.in-Pset.is)

pub returns-in-OfTwoPowersets : goal.returns-in-OfTwoPowersets
returns-in-OfTwoPowersets c = c.puts_powerset-in-OfTwoPowersets.ensures ∙ ap further_task (sym c.in-OfTwoPowersets.is)

pub returns-in-Member : goal.returns-in-Member
returns-in-Member c = c.puts_poly.ensures ∙ ap further_task (sym c.in-Member.is)

pub returns-in-Psize : goal.returns-in-Psize
returns-in-Psize c = c.tells.ensures ∙ ap further_task (sym c.in-Psize.is)

pub returns-in-Covers : goal.returns-in-Covers
returns-in-Covers c = c.tells-in-Covers.ensures ∙ ap further_task (sym c.in-Covers.is)

pub returns-in-Rank : goal.returns-in-Rank
returns-in-Rank c = c.puts_poly-in-Rank.ensures ∙ ap further_task (sym c.in-Rank.is)

pub returns-in-Ranking : goal.returns-in-Ranking
returns-in-Ranking c = c.tells-in-Ranking.ensures ∙ ap further_task (sym c.in-Ranking.is)

pub returns-in-ShapeOf : goal.returns-in-ShapeOf
returns-in-ShapeOf c = c.puts_shape.ensures ∙ ap further_task (sym c.in-ShapeOf.is)

pub returns-in-Bounds : goal.returns-in-Bounds
returns-in-Bounds c = c.puts_shape-in-Bounds.ensures ∙ ap further_task (sym c.in-Bounds.is)

pub returns-in-OfTwoShapes : goal.returns-in-OfTwoShapes
returns-in-OfTwoShapes c = c.puts_shape-in-OfTwoShapes.ensures ∙ ap further_task (sym c.in-OfTwoShapes.is)

pub returns-in-ShapeContains : goal.returns-in-ShapeContains
returns-in-ShapeContains c = c.tells-in-ShapeContains.ensures ∙ ap further_task (sym c.in-ShapeContains.is)

pub returns-in-ShapePrint : goal.returns-in-ShapePrint
returns-in-ShapePrint c = c.tells-in-ShapePrint.ensures ∙ ap further_task (sym c.in-ShapePrint.is)

pub returns-in-ShapePoly : goal.returns-in-ShapePoly
returns-in-ShapePoly c = c.puts_poly-in-ShapePoly.ensures ∙ ap further_task (sym c.in-ShapePoly.is)

pub returns-in-Hybrid : goal.returns-in-Hybrid
returns-in-Hybrid c = c.puts-in-Hybrid.ensures ∙ ap further_task (sym c.in-Hybrid.is)

pub returns-in-SetPart : goal.returns-in-SetPart
returns-in-SetPart c = c.changes-in-SetPart.ensures ∙ ap further_task (sym c.in-SetPart.is)

pub returns-in-Reach : goal.returns-in-Reach
returns-in-Reach c = c.runs-in-Reach.ensures ∙ ap further_task (sym c.in-Reach.is)
