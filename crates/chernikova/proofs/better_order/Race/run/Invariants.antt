use Rattle.std.proofs.Common.{ℕ}
use Rattle.chernikova.specs.Beside.{GoesOnFrom, IsBeside}
use Rattle.chernikova.specs.Conversion.{IsState}
use Rattle.chernikova.proofs.better_order.Race.run.Given as goal

abbrev pub invariant-loop-k : goal.invariant-loop-k
invariant-loop-k g l = record {
  beside : IsBeside l.rows.width l.rows.rows l.self.beside;
  state : IsState l.rows.width l.rows.rows l.k l.self.first.system;
  goes_on : (before : ℕ) → GoesOnFrom l.rows.width l.rows.rows l.from before l.initial.steps l.initial.self.first
      → GoesOnFrom l.rows.width l.rows.rows l.k before l.steps l.self.first;
}
