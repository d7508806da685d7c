use Rattle.cdd_reading.specs.Tokens.{texts}
use Rattle.cdd_reading.specs.Fractions.{AllDivide}
use Rattle.cdd_reading.proofs.values.all_divide.Given as goal

abbrev pub invariant-loop-token : goal.invariant-loop-token
invariant-loop-token l = record {
  can_next : (goal.iterator-loop-token).can_next l.token-iterator;
  is_finite : (goal.iterator-loop-token).is_finite l.token-iterator;
  left : AllDivide (texts l.fn.tokens) → AllDivide (texts l.token-iterator);
  whole : AllDivide (texts l.token-iterator) → AllDivide (texts l.fn.tokens);
}
