use Rattle.row_core.proofs.OnePrimitive.{IsPrimitiveOf-once}
use Rattle.cone_laws.proofs.uniqueness.one_primitive.Goals as goal

pub returns : goal.returns
returns c = IsPrimitiveOf-once
