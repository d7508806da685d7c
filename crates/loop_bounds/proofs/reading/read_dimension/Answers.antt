use Rattle.std.proofs.Common.{codes}
use Rattle.loop_bounds.specs.Reading.{IsDimension, IsDimensionFault}
use Rattle.loop_bounds.proofs.ReadingLemmas.{line_read}
use Rattle.loop_bounds.proofs.reading.read_dimension.Goals as goal

pub returns : goal.returns
returns c = line_read (codes "variables ") c.args.line.now c.in_ok-part_of.field-0.now IsDimension IsDimensionFault c.in_ok-part_of.ensures c.dimension_of.result c.read_behind.result c.dimension_of.ensures c.read_behind.ensures
