use Rattle.std.proofs.Common.{sym, subst}
use Rattle.std.specs.Prelude.{IfOk}
use Rattle.poly_pair.specs.declared.topology.Topology.{Topology}
use Rattle.poly_pair.specs.TopologyLists.{AreConstraintsFor}
use Rattle.poly_pair.specs.Spanning.{IsSpanningIfAny}
use Rattle.lattice_ops.proofs.sets.common_generators.Goals as goal

pub spanning_generators_from-requires : goal.spanning_generators_from-requires
spanning_generators_from-requires g c = record {
  closed = sym c.in-Closed.ensures.value;
  kinds = subst (λ (t : Topology). AreConstraintsFor t c.args.both.now) (sym c.in-Closed.ensures.value) c.requires.kinds;
  begins = c.requires.begins;
}

pub returns-in-Closed : goal.returns-in-Closed
returns-in-Closed g c = record {
  generators = subst (λ (t : Topology). IfOk c.spanning_generators_from.result (IsSpanningIfAny t c.args.both.now)) c.in-Closed.ensures.value c.spanning_generators_from.ensures.generators;
  conversion = c.spanning_generators_from.ensures.conversion;
}

pub returns-in-Nnc : goal.returns-in-Nnc
returns-in-Nnc g c = rw (sym c.in-Nnc.ensures.value) (record { generators = c.spanning_generators.ensures.generators; conversion = c.spanning_generators.ensures.conversion })
