use Rattle.std.specs.Prelude.{◌≡◌, ℤ, pos, unsigned_abs}
use Rattle.std.specs.Int.{w128}
use Rattle.std.proofs.Common.{arith, sym, subst}
use Rattle.std.proofs.lemmas.Int.{to_z_pos}
use mir.Val.{to_z}
use Rattle.row_core.specs.Vectors.{scale}
use Rattle.row_core.specs.Content.{DividesAll}
use Rattle.row_core.proofs.ContentLemmas.{IsMultipleOf-refl, primitive_as_it_is, primitive_quotient}
use Rattle.row_core.proofs.primitive.make_primitive.Goals as goal

pub divide_all-requires-clause-divides : goal.divide_all-requires-clause-divides
divide_all-requires-clause-divides c =
    let value : to_z w128 c.content-divisor.result ≡ pos c.content-divisor.result =
    to_z_pos w128 c.content-divisor.result c.content-divisor.ensures.below in
    subst (λ (z : ℤ). DividesAll (unsigned_abs z) c.args.row.now) (sym value)
    c.content-divisor.ensures.divides

pub returns-then-divisor-gt1-clause-primitive : goal.returns-then-divisor-gt1-clause-primitive
returns-then-divisor-gt1-clause-primitive c =
    let value : to_z w128 c.content-divisor.result ≡ pos c.content-divisor.result =
    to_z_pos w128 c.content-divisor.result c.content-divisor.ensures.below in
    primitive_quotient c.args.row.now c.divide_all.new.row c.content-divisor.result (omega arith)
    (subst (λ (z : ℤ). c.args.row.now ≡ scale z c.divide_all.new.row) value
    c.divide_all.ensures.multiple)
    c.content-divisor.ensures.greatest

pub returns-else-divisor-gt1-clause-multiple : goal.returns-else-divisor-gt1-clause-multiple
returns-else-divisor-gt1-clause-multiple c = IsMultipleOf-refl c.args.row.now

pub returns-else-divisor-gt1-clause-primitive : goal.returns-else-divisor-gt1-clause-primitive
returns-else-divisor-gt1-clause-primitive c =
    primitive_as_it_is c.args.row.now c.content-divisor.result (omega arith)
    c.content-divisor.ensures.divides c.content-divisor.ensures.greatest
