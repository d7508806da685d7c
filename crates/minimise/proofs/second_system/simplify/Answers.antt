use Rattle.minimise.proofs.ValidSystems.{valid_of_done}
use Rattle.minimise.proofs.second_system.simplify.Goals as goal

pub returns-in-Ok-clause-valid : goal.returns-in-Ok-clause-valid
returns-in-Ok-clause-valid g c = valid_of_done c.args.rows.now.width c.args.rows.now.rows c.args.lines.now c.args.rays.now c.in-Ok.done c.requires.system c.requires.lists c.in-Ok.ensures.simplified
