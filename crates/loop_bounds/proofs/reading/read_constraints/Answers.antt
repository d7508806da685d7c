use Rattle.loop_bounds.specs.Reading.{IsClosedCons, IsConstraintFault}
use Rattle.loop_bounds.proofs.ReadingLemmas.{line_read}
use Rattle.loop_bounds.proofs.reading.read_constraints.Goals as goal

pub returns : goal.returns
returns c = line_read c.args.word.now c.args.line.now c.in_ok-part_of.field-0.now (IsClosedCons c.args.dim) (IsConstraintFault c.args.dim) c.in_ok-part_of.ensures c.constraints_of.result c.read_behind.result c.constraints_of.ensures c.read_behind.ensures
