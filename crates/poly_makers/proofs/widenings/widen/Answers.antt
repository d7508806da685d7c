use Rattle.std.proofs.Common.{Bool, sym, subst}
use Rattle.line_values.specs.Performed.{IsPerformed}
use Rattle.poly_makers.specs.Widening.{widen}
use Rattle.poly_makers.proofs.widenings.widen.Goals as goal

pub returns : goal.returns
returns g c = subst (λ (full : Bool). IsPerformed (widen full c.args.p.now c.args.q.now) c.widen_if_nested.result) (sym c.if-full.false) c.widen_if_nested.ensures
