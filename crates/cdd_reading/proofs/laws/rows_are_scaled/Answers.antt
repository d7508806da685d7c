use Rattle.cdd_reading.proofs.ValueLaws.{rows_are_scaled}
use Rattle.cdd_reading.proofs.laws.rows_are_scaled.Goals as goal

pub returns : goal.returns
returns c = rows_are_scaled
