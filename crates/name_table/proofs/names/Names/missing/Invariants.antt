use Rattle.std.proofs.Common.{◌≡◌, ◌≤◌}
use Rattle.name_table.specs.Table.{missing}
use Rattle.name_table.proofs.names.Names.missing.Given as goal

abbrev pub invariant-loop-number : goal.invariant-loop-number
invariant-loop-number g l = record {
  value : l.missed ≡ missing l.self l.prefix l.number;
  few : l.missed ≤ l.number;
}
