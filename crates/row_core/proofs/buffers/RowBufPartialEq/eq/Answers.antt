use Rattle.std.specs.Prelude.{◌≡◌, List, ℤ, Decides}
use Rattle.std.specs.Cmp.{signed_Decides}
use Rattle.std.proofs.Common.{subst}
use Rattle.std.proofs.lemmas.Slice.Eq.{slice_eq-Decides}
use Rattle.row_core.proofs.buffers.RowBufPartialEq.eq.Goals as goal

pub returns-clause-same : goal.returns-clause-same
returns-clause-same c =
    subst (λ (v : List ℤ). Decides c.eq.result (v ≡ c.args.other.now)) c.self.view_is
    (subst (λ (w : List ℤ). Decides c.eq.result (c.self.inside.entries.items ≡ w)) c.other.view_is
    (slice_eq-Decides signed_Decides c.self.inside.entries.items c.other.inside.entries.items
    c.eq.result c.eq.ensures))
