use Rattle.std.proofs.Common.{◌≡◌, ◌≤◌, List, ◌++◌, length, true}
use Rattle.std.specs.List.{list_all}
use Rattle.cdd_reading.specs.Tokens.{Token, texts}
use Rattle.cdd_reading.specs.Bodies.{is_number}
use Rattle.cdd_reading.proofs.body.check_numbers.Given as goal

abbrev pub invariant-loop-line : goal.invariant-loop-line
invariant-loop-line l = record {
  can_next : (goal.iterator-loop-line).can_next l.line-iterator;
  is_finite : (goal.iterator-loop-line).is_finite l.line-iterator;
  done : (before : List Token) × (l.fn.tokens ≡ before ++ l.line-iterator) × (list_all (is_number l.number_type) (texts before) ≡ true) × (l.count ≡ length before) × (l.count ≤ l.most);
}
