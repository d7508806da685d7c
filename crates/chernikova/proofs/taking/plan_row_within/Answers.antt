use Rattle.chernikova.specs.Plans.{lists_of}
use Rattle.chernikova.proofs.Positions.{has_values}
use Rattle.chernikova.proofs.taking.plan_row_within.Goals as goal

pub looks-looks-requires : goal.looks-looks-requires
looks-looks-requires c = has_values c.args.rows.now.width c.args.rows.now.rows c.args.k c.args.cone.now (lists_of c.row_position.new.scratch) c.in_ok-position.position c.requires.state c.in_ok-position.ensures.position
