use Rattle.std.proofs.Common.{sym, subst}
use Rattle.row_core.specs.Content.{IsPrimitive}
use Rattle.enclosures.proofs.ways.push_ways.Goals as goal

pub push_primitive-requires-in-Eq-clause-primitive : goal.push_primitive-requires-in-Eq-clause-primitive
push_primitive-requires-in-Eq-clause-primitive c = subst IsPrimitive (sym c.cells.ensures.value) (c.in_ok-turned.ensures.primitive c.requires.primitive)

pub push_primitive-requires-in-Ge-clause-primitive : goal.push_primitive-requires-in-Ge-clause-primitive
push_primitive-requires-in-Ge-clause-primitive c = subst IsPrimitive (sym c.cells-in-Ge.ensures.value) (c.in_ok-turned.ensures.primitive c.requires.primitive)

pub push_primitive-requires-in-Gt-clause-primitive : goal.push_primitive-requires-in-Gt-clause-primitive
push_primitive-requires-in-Gt-clause-primitive c = subst IsPrimitive (sym c.cells-in-Gt.ensures.value) (c.in_ok-turned.ensures.primitive c.requires.primitive)
