use Rattle.std.proofs.Common.{ℕ, arith, sym, subst, ap, ◌∙◌, []}
use Rattle.affine_maps.specs.Relations.{moved}
use Rattle.mapped_systems.specs.MappedLists.{ArePulled, none_pulled}
use Rattle.mapped_systems.proofs.ListSteps.{pulled_step}
use Rattle.affine_maps.proofs.related.moved_constraints.Goals as goal

pub loop-index-init : goal.loop-index-init
loop-index-init c = record {
  dim = omega (arith, c.new-all.ensures.dim, c.dim-dim.ensures.value);
  pulled = subst (ArePulled (moved c.args.cons.now.dim c.args.var) []) (sym c.new-all.ensures.empty) none_pulled;
}

pub loop-index-preserved : goal.loop-index-preserved
loop-index-preserved c =
    let inv = c.loop-index.invariant in
    record {
      dim = c.in_ok-push_row.ensures.dim ∙ inv.dim;
      pulled = pulled_step (moved c.args.cons.now.dim c.args.var) c.args.cons.now.list c.loop-index.all.list c.push_row.new.self.list c.loop-index.index c.in_ok-row.row c.kind.result (omega arith)
          (c.in_ok-row.ensures.row ∙ ap (λ (n : ℕ). moved n c.args.var c.row.result.now) c.dim-dim.ensures.value ∙ ap (moved c.args.cons.now.dim c.args.var) c.row.ensures.value)
          c.kind.ensures inv.pulled c.in_ok-push_row.ensures.list;
    }
