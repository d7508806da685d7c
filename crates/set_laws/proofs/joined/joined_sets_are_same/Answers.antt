use Rattle.set_laws.proofs.JoinedLists.{joined_sets_are_same}
use Rattle.set_laws.proofs.joined.joined_sets_are_same.Goals as goal

pub returns : goal.returns
returns c = joined_sets_are_same
