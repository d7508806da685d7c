use Rattle.row_core.proofs.OrderLemmas.{order_lexicographic}
use Rattle.cone_laws.proofs.uniqueness.order_is_lexicographic.Goals as goal

pub returns : goal.returns
returns c = order_lexicographic
