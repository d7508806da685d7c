use Rattle.std.proofs.Common.{◌≡◌, ℕ, arith, sym, subst, ◌∙◌}
use Rattle.enclosures.specs.Boxes.{AreBounds, none_yet, one_more}
use Rattle.enclosures.proofs.BoxLemmas.{all_bounds}
use Rattle.enclosures.proofs.boxes.bounding_box.Goals as goal

pub loop-variable-init : goal.loop-variable-init
loop-variable-init c = record {
  dim = c.new-bounds.ensures.dim ∙ c.dim.ensures.value;
  list = subst (AreBounds c.args.p.now 0) (sym c.new-bounds.ensures.empty) none_yet;
}

pub loop-variable-preserved : goal.loop-variable-preserved
loop-variable-preserved c = record {
  dim = c.push_bounds.ensures.dim ∙ c.loop-variable.invariant.dim;
  list = one_more c.loop-variable.invariant.list c.in_ok-push_bounds.ensures.list;
}

pub returns-clause-includes : goal.returns-clause-includes
returns-clause-includes c =
    let e : c.loop-variable.variable ≡ c.args.p.now.cons.dim = omega arith in
    λ v w. all_bounds c.args.p.now c.args.p.now.cons.dim c.loop-variable.bounds.list v w (omega arith) (subst (λ (n : ℕ). AreBounds c.args.p.now n c.loop-variable.bounds.list) e c.loop-variable.invariant.list)
