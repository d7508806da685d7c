use Rattle.std.proofs.Common.{[]}
use Rattle.calc_state.specs.State.{closed}
use Rattle.run_laws.proofs.DistinctNames.{run_distinct}
use Rattle.run_laws.proofs.laws.names_are_distinct.Goals as goal

pub returns : goal.returns
returns c = λ lines replies new run. run_distinct c.names_stay_distinct.ensures.step (closed []) new lines replies c.names_stay_distinct.ensures.empty run
