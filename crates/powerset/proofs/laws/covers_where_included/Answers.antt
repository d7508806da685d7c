use Rattle.powerset.proofs.PowersetPoints.{covers_where_included}
use Rattle.powerset.proofs.laws.covers_where_included.Goals as goal

pub returns : goal.returns
returns c = covers_where_included
