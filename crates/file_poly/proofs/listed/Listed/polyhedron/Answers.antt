use Rattle.std.proofs.Common.{◌≡◌, subst}
use Rattle.std.proofs.lemmas.Result.{IfOk-weaker}
use Rattle.poly_pair.specs.Polyhedra.{Polyhedron, IsOfConstraints, IsOfGenerators}
use Rattle.poly_pair.specs.declared.topology.Topology.TheVariants.{Closed}
use Rattle.poly_pair.specs.Work.{cons_work, gens_work}
use Rattle.poly_pair.proofs.WorkLemmas.{overflow_clause, before_clause}
use Rattle.file_poly.specs.Files.{IsFit}
use Rattle.file_poly.proofs.listed.Listed.polyhedron.Goals as goal

pub from_cons-requires : goal.from_cons-requires
from_cons-requires g c = let fit = subst IsFit c.in-Cons.is c.requires in record { narrow = fit.0; kinds = fit.1 }

pub from_gens_with_point-requires : goal.from_gens_with_point-requires
from_gens_with_point-requires g c = let fit = subst IsFit c.in-Gens.is c.requires in record { narrow = fit.0; kinds = fit.1; point = fit.2 }

pub returns-in-Cons : goal.returns-in-Cons
returns-in-Cons g c =
    let e = c.from_cons.ensures in
    rw c.in-Cons.is (record {
      set = e.points;
      closed = IfOk-weaker c.from_cons.result (IsOfConstraints Closed c.in-Cons.cons) (λ (p : Polyhedron). p.topology ≡ Closed) (λ p h. h.over.same_topology) e.points;
      overflow = overflow_clause (cons_work Closed c.in-Cons.cons) c.args.steps.now c.from_cons.new.steps c.from_cons.result e.conversion;
      no_fewer = e.conversion.no_fewer;
      counted = e.conversion.counted;
      counted_before = before_clause (cons_work Closed c.in-Cons.cons) c.args.steps.now c.from_cons.new.steps c.from_cons.result e.conversion;
    })

pub returns-in-Gens : goal.returns-in-Gens
returns-in-Gens g c =
    let e = c.from_gens_with_point.ensures in
    rw c.in-Gens.is (record {
      set = e.points;
      closed = IfOk-weaker c.from_gens_with_point.result (IsOfGenerators Closed c.in-Gens.gens) (λ (p : Polyhedron). p.topology ≡ Closed) (λ p h. h.over.same_topology) e.points;
      overflow = overflow_clause (gens_work Closed c.in-Gens.gens) c.args.steps.now c.from_gens_with_point.new.steps c.from_gens_with_point.result e.conversion;
      no_fewer = e.conversion.no_fewer;
      counted = e.conversion.counted;
      counted_before = before_clause (gens_work Closed c.in-Gens.gens) c.args.steps.now c.from_gens_with_point.new.steps c.from_gens_with_point.result e.conversion;
    })
