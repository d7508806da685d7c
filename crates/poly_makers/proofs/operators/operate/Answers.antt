use Rattle.std.proofs.Common.{sym, subst}
use Rattle.std.specs.Prelude.{IfOk}
use Rattle.script_text.specs.declared.command.Operator.{Operator}
use Rattle.script_text.specs.declared.command.Operator.TheVariants.{Meet, Hull, Concat, Elapse}
use Rattle.poly_pair.proofs.WorkLemmas.{overflow_clause}
use Rattle.dimensions.proofs.PulledResults.{joined_clause}
use Rattle.elapse.proofs.ElapsedPolyhedra.{elapse_clause}
use Rattle.poly_makers.specs.Operators.{FitDims, IsSetBy, IsStoredBy}
use Rattle.poly_makers.proofs.OperatorLemmas.{refused_by}
use Rattle.poly_makers.proofs.operators.operate.Goals as goal

pub meet-requires : goal.meet-requires
meet-requires g c = record { topology = c.requires.0; dim = subst (λ (op : Operator). FitDims op c.args.p.now c.args.q.now) c.in-Meet.is c.requires.1 }

pub hull-requires : goal.hull-requires
hull-requires g c = record { topology = c.requires.0; dim = subst (λ (op : Operator). FitDims op c.args.p.now c.args.q.now) c.in-Hull.is c.requires.1 }

pub concat-requires : goal.concat-requires
concat-requires g c = record { topology = c.requires.0; narrow = subst (λ (op : Operator). FitDims op c.args.p.now c.args.q.now) c.in-Concat.is c.requires.1 }

pub time_elapse-requires : goal.time_elapse-requires
time_elapse-requires g c = record { same_topology = sym c.requires.0; same_dim = sym (subst (λ (op : Operator). FitDims op c.args.p.now c.args.q.now) c.in-Elapse.is c.requires.1) }

pub returns-in-Meet : goal.returns-in-Meet
returns-in-Meet g c =
    let p = c.args.p.now in
    let q = c.args.q.now in
    record {
      points = subst (λ (op : Operator). IfOk c.meet.result (IsSetBy op p q)) (sym c.in-Meet.is) c.meet.ensures.points;
      stored = subst (λ (op : Operator). IfOk c.meet.result (IsStoredBy op p q)) (sym c.in-Meet.is) c.meet.ensures.stored;
      overflow = refused_by c.args.op Meet p q c.meet.result c.in-Meet.is (overflow_clause _ _ _ c.meet.result c.meet.ensures.conversion);
    }

pub returns-in-Hull : goal.returns-in-Hull
returns-in-Hull g c =
    let p = c.args.p.now in
    let q = c.args.q.now in
    record {
      points = subst (λ (op : Operator). IfOk c.hull.result (IsSetBy op p q)) (sym c.in-Hull.is) c.hull.ensures.points;
      stored = subst (λ (op : Operator). IfOk c.hull.result (IsStoredBy op p q)) (sym c.in-Hull.is) c.hull.ensures.stored;
      overflow = refused_by c.args.op Hull p q c.hull.result c.in-Hull.is (overflow_clause _ _ _ c.hull.result c.hull.ensures.conversion);
    }

pub returns-in-Concat : goal.returns-in-Concat
returns-in-Concat g c =
    let p = c.args.p.now in
    let q = c.args.q.now in
    record {
      points = subst (λ (op : Operator). IfOk c.concat.result (IsSetBy op p q)) (sym c.in-Concat.is) c.concat.ensures.points;
      stored = subst (λ (op : Operator). IfOk c.concat.result (IsStoredBy op p q)) (sym c.in-Concat.is) c.concat.ensures.stored;
      overflow = refused_by c.args.op Concat p q c.concat.result c.in-Concat.is (joined_clause p q c.args.steps.now c.concat.new.steps c.concat.result c.concat.ensures.conversion);
    }

pub returns-in-Elapse : goal.returns-in-Elapse
returns-in-Elapse g c =
    let p = c.args.p.now in
    let q = c.args.q.now in
    record {
      points = subst (λ (op : Operator). IfOk c.time_elapse.result (IsSetBy op p q)) (sym c.in-Elapse.is) c.time_elapse.ensures.points;
      stored = subst (λ (op : Operator). IfOk c.time_elapse.result (IsStoredBy op p q)) (sym c.in-Elapse.is) c.time_elapse.ensures.stored;
      overflow = refused_by c.args.op Elapse p q c.time_elapse.result c.in-Elapse.is (elapse_clause p q c.args.steps.now c.time_elapse.new.steps c.time_elapse.result c.time_elapse.ensures.conversion);
    }
