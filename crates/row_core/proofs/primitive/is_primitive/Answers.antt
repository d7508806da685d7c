use Rattle.std.proofs.Common.{arith}
use Rattle.std.proofs.lemmas.Bool.{leb-true, le-leb}
use Rattle.row_core.proofs.ContentLemmas.{primitive_as_it_is, content-primitive}
use Rattle.row_core.proofs.primitive.is_primitive.Goals as goal

pub returns : goal.returns
returns c = (
  (λ t. primitive_as_it_is c.args.row.now c.content.result (omega (arith, leb-true _ _ t))
      c.content.ensures.divides c.content.ensures.greatest),
  (λ primitive. le-leb _ _ (content-primitive c.args.row.now c.content.result
      c.content.ensures.divides c.content.ensures.greatest primitive)),
)
