use Rattle.std.specs.Prelude.{◌≡◌, Bool, Decides}
use Rattle.std.proofs.Common.{subst, sym}
use Rattle.row_core.proofs.SamenessLemmas.{is_same_list-rows, is_same_list-Decides}
use Rattle.row_core.proofs.buffers.RowListPartialEq.eq.Goals as goal

pub returns-then-self-other-clause-value : goal.returns-then-self-other-clause-value
returns-then-self-other-clause-value c =
    is_same_list-rows c.self.inside.width c.other.inside.width c.self.inside.marked
    c.other.inside.marked c.args.self.now c.args.other.now c.eq.result c.self.view_is
    c.other.view_is c.if-self-other.true c.eq.ensures

pub returns-then-self-other-clause-same : goal.returns-then-self-other-clause-same
returns-then-self-other-clause-same c =
    subst (λ (b : Bool). Decides b (c.args.self.now ≡ c.args.other.now))
    (sym (returns-then-self-other-clause-value c))
    (is_same_list-Decides c.args.self.now c.args.other.now)
