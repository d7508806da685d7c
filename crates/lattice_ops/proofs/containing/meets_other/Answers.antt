use Rattle.std.proofs.Common.{List, ℤ, subst}
use Rattle.std.specs.Prelude.{All}
use Rattle.cons_sys.specs.declared.kind.ConKind.{ConKind}
use Rattle.cons_sys.specs.Constraints.{row_at}
use Rattle.set_laws.specs.Asking.{MeetsOn}
use Rattle.lattice_ops.proofs.ShortTests.{own_met}
use Rattle.lattice_ops.proofs.containing.meets_other.Goals as goal

pub returns-then-has : goal.returns-then-has
returns-then-has c = (
  (λ t. subst (λ (k : ConKind). All (MeetsOn (row_at c.args.cons.now.list c.args.i, k)) c.args.q.now.gens.list) c.kind-kind.ensures
      (subst (λ (u : List ℤ). All (MeetsOn (u, c.kind-kind.result)) c.args.q.now.gens.list) c.row-row.ensures.value
      (own_met c.args.q.now c.cons.result.now c.rows_fit.ensures.kept c.rows_fit.ensures.gens c.cons.ensures.value (c.row-row.result.now, c.kind-kind.result) (c.has.ensures.0 t)))),
  (λ all. c.if-has.true),
)
