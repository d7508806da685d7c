use Rattle.chernikova.specs.Beside.{GoesOnFrom}
use Rattle.chernikova.proofs.list_order.ListOrder.run.Given as goal

abbrev pub invariant-loop-k : goal.invariant-loop-k
invariant-loop-k g l = record {
  goes_on : GoesOnFrom l.rows.width l.rows.rows l.k l.initial.steps l.steps l.self;
}
