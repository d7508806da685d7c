use Rattle.std.specs.Prelude.{◌≡◌, ℕ, List, Decides}
use Rattle.std.specs.Cmp.{unsigned_Decides}
use Rattle.std.proofs.Common.{subst}
use Rattle.std.proofs.lemmas.Slice.Eq.{slice_eq-Decides}
use Rattle.reply_text.proofs.bytes.TextPartialEq.eq.Goals as goal

pub returns-clause-same : goal.returns-clause-same
returns-clause-same c =
    subst (λ (v : List ℕ). Decides c.eq.result (v ≡ c.args.other.now)) c.bytes.ensures
    (subst (λ (w : List ℕ). Decides c.eq.result (c.bytes.result.now ≡ w)) c.bytes-2.ensures
    (slice_eq-Decides unsigned_Decides c.bytes.result.now c.bytes-2.result.now c.eq.result c.eq.ensures))
