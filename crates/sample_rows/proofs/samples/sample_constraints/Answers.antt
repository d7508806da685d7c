use Rattle.std.proofs.Common.{◌≡◌, ℕ, ◌+◌, length, ap, sym, ◌∙◌, subst, arith}
use Rattle.std.proofs.lemmas.Result.{err_from_is_err_and}
use Rattle.row_core.specs.Range.{AllInRange}
use Rattle.row_core.specs.Lists.{Pointwise}
use Rattle.sample_rows.specs.Samples.{IsInequalityOf, sample_rows}
use Rattle.sample_rows.proofs.SampleLists.{before_more, sample_more}
use Rattle.sample_rows.proofs.samples.sample_constraints.Goals as goal

pub loop-row-preserved : goal.loop-row-preserved
loop-row-preserved c = record {
  dim = c.in_ok-push.ensures.dim ∙ c.loop-row.invariant.dim;
  list = sample_more c.loop-row.row c.loop-row.draws.number c.deref.result.now c.loop-row.cons.list c.push.new.self.list c.loop-row.invariant.list c.loop-row.invariant.number (c.deref.ensures.value ∙ c.in_ok-row.ensures.row) c.in_ok-push.ensures.list;
  number = before_more c.loop-row.row c.loop-row.draws.number c.row.new.self.number c.loop-row.invariant.number c.in_ok-row.ensures.number;
  small = c.in_ok-row.ensures.small;
}

pub returns : goal.returns
returns c =
    let e : c.loop-row.row ≡ c.args.n = omega arith in
    record { dim = c.loop-row.invariant.dim; list = subst (λ k. Pointwise IsInequalityOf (sample_rows k) c.loop-row.cons.list) e c.loop-row.invariant.list }

pub push-requires : goal.push-requires
push-requires c = record {
  wide = ap length c.deref.ensures.value ∙ c.in_ok-row.ensures.wide ∙ ap (λ (n : ℕ). n + 1) (sym c.loop-row.invariant.dim);
  in_range = subst AllInRange (sym c.deref.ensures.value) c.in_ok-row.ensures.in_range;
}

pub loop-row-init : goal.loop-row-init
loop-row-init c = record { dim = c.in_ok-cons.ensures.dim; list = c.in_ok-cons.ensures.list; number = c.new-draws.ensures; small = omega (arith, c.new-draws.ensures) }

pub row-requires : goal.row-requires
row-requires c = c.loop-row.invariant.small

pub returns-in_err-cons : goal.returns-in_err-cons
returns-in_err-cons c = let p = err_from_is_err_and c.from_residual.result c.from_residual.ensures.1 in rw p.1 tt

pub returns-in_err-row : goal.returns-in_err-row
returns-in_err-row c = let p = err_from_is_err_and c.from_residual-in_err-row.result c.from_residual-in_err-row.ensures.1 in rw p.1 tt

pub returns-in_err-push : goal.returns-in_err-push
returns-in_err-push c = let p = err_from_is_err_and c.from_residual-in_err-push.result c.from_residual-in_err-push.ensures.1 in rw p.1 tt
