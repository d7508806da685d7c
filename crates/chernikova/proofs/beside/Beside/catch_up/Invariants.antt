use Rattle.std.proofs.Common.{◌≤◌, ◌+◌}
use Rattle.chernikova.specs.Beside.{IsBeside}
use Rattle.chernikova.proofs.beside.Beside.catch_up.Given as goal

abbrev pub invariant-loop-turn : goal.invariant-loop-turn
invariant-loop-turn g l = record {
  beside : IsBeside l.list.width l.list.rows l.self;
  no_fewer : l.initial.steps ≤ l.steps;
  within : l.steps + l.slack ≤ l.initial.steps + l.initial.slack;
}
