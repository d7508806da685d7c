use Rattle.std.proofs.Common.{◌≡◌, ◌<◌, ℕ, length, arith, subst}
use Rattle.std.specs.Prelude.{◌≢◌, pos, slice_index_or, MatchOption}
use Rattle.row_store.proofs.row_values.last_crossing.Goals as goal

pub returns : goal.returns
returns c =
    let end : c.loop-index.index ≡ length c.args.values.now = omega arith in
    let P : ℕ → Type 0 = λ n. MatchOption c.loop-index.last ((k : ℕ) → k < n → slice_index_or c.args.values.now k (pos 0) ≡ pos 0)
    (λ i. (i < n) × (slice_index_or c.args.values.now i (pos 0) ≢ pos 0) × ((k : ℕ) → i < k → k < n → slice_index_or c.args.values.now k (pos 0) ≡ pos 0)) in
    subst P end c.loop-index.invariant
