use Rattle.dimensions.proofs.AddedVariables.{embedding_undone}
use Rattle.dimensions.proofs.laws.embedding_is_undone.Goals as goal

pub returns : goal.returns
returns c = embedding_undone
