use Rattle.std.proofs.Common.{sym, subst}
use Rattle.row_core.specs.Content.{IsPrimitive}
use Rattle.enclosures.proofs.ways.ways.Goals as goal

pub push_ways-requires-clause-primitive : goal.push_ways-requires-clause-primitive
push_ways-requires-clause-primitive c = subst IsPrimitive (sym c.row.ensures.value) c.row.ensures.primitive
