use Rattle.std.proofs.Common.{◌≡◌, ◌++◌, map}
use Rattle.row_core.specs.Range.{AllInRange}
use Rattle.cdd_reading.specs.Tokens.{integer, texts}
use Rattle.cdd_reading.proofs.values.read_integers.Given as goal

abbrev pub invariant-loop-token : goal.invariant-loop-token
invariant-loop-token l = record {
  can_next : (goal.iterator-loop-token).can_next l.token-iterator;
  is_finite : (goal.iterator-loop-token).is_finite l.token-iterator;
  whole : l.values.items ++ map integer (texts l.token-iterator) ≡ map integer (texts l.fn.tokens);
  in_range : AllInRange l.values.items;
}
