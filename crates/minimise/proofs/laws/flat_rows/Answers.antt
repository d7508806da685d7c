use Rattle.minimise.proofs.FlatRows.{flat_is_zero_on_rays}
use Rattle.minimise.proofs.laws.flat_rows.Goals as goal

pub returns : goal.returns
returns c = flat_is_zero_on_rays
