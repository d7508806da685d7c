use Rattle.std.proofs.Common.{◌≡◌, ℕ, ◌<◌, length}
use Rattle.std.specs.Prelude.{All, Contains}
use Rattle.cover_search.proofs.search.numbers_below.Given as goal

abbrev pub invariant-loop-number : goal.invariant-loop-number
invariant-loop-number l = record {
  below : All (λ i. i < l.count) l.numbers.items;
  as_many : length l.numbers.items ≡ l.number;
  all : (i : ℕ) → i < l.number → Contains l.numbers.items i;
}
