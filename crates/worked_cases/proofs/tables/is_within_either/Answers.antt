use Rattle.std.proofs.Common.{arith, ℕ, zero, suc, ◌<◌, [], ◌∷◌, slice_index_or, length}
use Rattle.worked_cases.proofs.tables.is_within_either.Goals as goal

two_below : (n j k : ℕ) → j < n → k < n → (q : ℕ) → q < 2 → slice_index_or (j ∷ k ∷ []) q 0 < n
two_below n j k first second zero h = first
two_below n j k first second (suc zero) h = second
two_below n j k first second (suc (suc q)) h = absurd (omega (arith, h))

pub is_within_some-requires-clause-among : goal.is_within_some-requires-clause-among
is_within_some-requires-clause-among c = two_below (length c.args.table.now.rows) c.args.j c.args.k c.requires.first c.requires.second
