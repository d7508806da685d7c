use Rattle.std.proofs.Common.{length, ap, ◌∙◌}
use Rattle.sample_rows.proofs.DrawnRows.{pushed_is, four_pushed, four_in_range, four_drawn}
use Rattle.sample_rows.proofs.draws.Draws.row.Goals as goal

pub returns-clause-row : goal.returns-clause-row
returns-clause-row c =
    (four_pushed c.new-row.result.items c.push.new.self.items c.push-2.new.self.items c.push-3.new.self.items c.push-4.new.self.items c.coefficient.result c.coefficient-2.result c.coefficient-3.result c.constant.result c.new-row.ensures.items (pushed_is c.new-row.result.items c.push.new.self.items c.coefficient.result c.coefficient.ensures.in_range c.in_ok-push.ensures.items) (pushed_is c.push.new.self.items c.push-2.new.self.items c.coefficient-2.result c.coefficient-2.ensures.in_range c.in_ok-push-2.ensures.items) (pushed_is c.push-2.new.self.items c.push-3.new.self.items c.coefficient-3.result c.coefficient-3.ensures.in_range c.in_ok-push-3.ensures.items) (pushed_is c.push-3.new.self.items c.push-4.new.self.items c.constant.result c.constant.ensures.in_range c.in_ok-push-4.ensures.items))
    ∙ four_drawn c.args.self.now.number c.draw.new.self.number c.draw-2.new.self.number c.draw-3.new.self.number c.draw.result c.draw-2.result c.draw-3.result c.draw-4.result c.coefficient.result c.coefficient-2.result c.coefficient-3.result c.constant.result
    c.draw.ensures.number c.draw-2.ensures.number c.draw-3.ensures.number c.draw.ensures.value c.draw-2.ensures.value c.draw-3.ensures.value c.draw-4.ensures.value c.coefficient.ensures.value c.coefficient-2.ensures.value c.coefficient-3.ensures.value c.constant.ensures.value

pub returns-clause-in_range : goal.returns-clause-in_range
returns-clause-in_range c =
    four_in_range c.push-4.new.self.items c.coefficient.result c.coefficient-2.result c.coefficient-3.result c.constant.result
    (four_pushed c.new-row.result.items c.push.new.self.items c.push-2.new.self.items c.push-3.new.self.items c.push-4.new.self.items c.coefficient.result c.coefficient-2.result c.coefficient-3.result c.constant.result c.new-row.ensures.items (pushed_is c.new-row.result.items c.push.new.self.items c.coefficient.result c.coefficient.ensures.in_range c.in_ok-push.ensures.items) (pushed_is c.push.new.self.items c.push-2.new.self.items c.coefficient-2.result c.coefficient-2.ensures.in_range c.in_ok-push-2.ensures.items) (pushed_is c.push-2.new.self.items c.push-3.new.self.items c.coefficient-3.result c.coefficient-3.ensures.in_range c.in_ok-push-3.ensures.items) (pushed_is c.push-3.new.self.items c.push-4.new.self.items c.constant.result c.constant.ensures.in_range c.in_ok-push-4.ensures.items))
    c.coefficient.ensures.in_range c.coefficient-2.ensures.in_range c.coefficient-3.ensures.in_range c.constant.ensures.in_range

pub returns-clause-wide : goal.returns-clause-wide
returns-clause-wide c = ap length (four_pushed c.new-row.result.items c.push.new.self.items c.push-2.new.self.items c.push-3.new.self.items c.push-4.new.self.items c.coefficient.result c.coefficient-2.result c.coefficient-3.result c.constant.result c.new-row.ensures.items (pushed_is c.new-row.result.items c.push.new.self.items c.coefficient.result c.coefficient.ensures.in_range c.in_ok-push.ensures.items) (pushed_is c.push.new.self.items c.push-2.new.self.items c.coefficient-2.result c.coefficient-2.ensures.in_range c.in_ok-push-2.ensures.items) (pushed_is c.push-2.new.self.items c.push-3.new.self.items c.coefficient-3.result c.coefficient-3.ensures.in_range c.in_ok-push-3.ensures.items) (pushed_is c.push-3.new.self.items c.push-4.new.self.items c.constant.result c.constant.ensures.in_range c.in_ok-push-4.ensures.items))
