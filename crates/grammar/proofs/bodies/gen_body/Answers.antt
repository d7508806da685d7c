use Rattle.std.proofs.Common.{refl}
use Rattle.grammar.specs.Grammar.{gen}
use Rattle.grammar.proofs.bodies.gen_body.Goals as goal

pub returns-clause-shape : goal.returns-clause-shape
unfolding gen
returns-clause-shape c = refl
