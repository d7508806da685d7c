use Rattle.std.proofs.Common.{◌≡◌, ℕ, ◌<◌}
use Rattle.std.specs.Prelude.{◌≢◌, pos, slice_index_or, MatchOption}
use Rattle.row_store.proofs.row_values.last_crossing.Given as goal

abbrev pub invariant-loop-index : goal.invariant-loop-index
invariant-loop-index l =
    MatchOption l.last ((k : ℕ) → k < l.index → slice_index_or l.values k (pos 0) ≡ pos 0)
    (λ i. (i < l.index) × (slice_index_or l.values i (pos 0) ≢ pos 0) × ((k : ℕ) → i < k → k < l.index → slice_index_or l.values k (pos 0) ≡ pos 0))
