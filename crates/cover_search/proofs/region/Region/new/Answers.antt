use Rattle.std.proofs.Common.{◌≡◌, ◌+◌, Ok, sym, ap, ◌∙◌}
use Rattle.std.proofs.lemmas.Result.{err_from_is_err_and}
use Rattle.cons_sys.specs.Constraints.{Constraints}
use Rattle.nnc_enc.specs.Encoding.{encoded_constraints}
use Rattle.cover_search.proofs.RegionLemmas.{has_cone, whole_overflow}
use Rattle.cover_search.proofs.ConversionLemmas.{list_converts, list_unconverted}
use Rattle.cover_search.proofs.region.Region.new.Goals as goal

pub invariant_of-result : goal.invariant_of-result
invariant_of-result g c =
    let same : c.args.cons.now ≡ c.in_ok-cons.cons = sym c.in_ok-cons.ensures.cases in
    let width = c.in_ok-list.ensures.width ∙ ap (λ (cs : Constraints). cs.dim + 2) same in
    let rows = c.in_ok-list.ensures.rows ∙ ap (λ (cs : Constraints). encoded_constraints cs) same in
    record {
      width = width;
      rows = rows;
      canonical = has_cone c.in_ok-cons.cons c.width.result c.in_ok-list.list.rows c.in_ok-cone.cone (c.width.ensures.value ∙ width) rows c.in_ok-cone.ensures.cone.canon c.in_ok-cone.ensures.cone.lists c.in_ok-cone.ensures.cone.sat;
    }

pub returns-in_err-cone-clause-overflow : goal.returns-in_err-cone-clause-overflow
returns-in_err-cone-clause-overflow g c =
    let p = err_from_is_err_and c.from_residual-in_err-cone.result c.from_residual-in_err-cone.ensures.1 in
    rw (p.1, p.2) (whole_overflow c.args.cons.now c.width.result c.in_ok-list.list.rows _ (c.width.ensures.value ∙ c.in_ok-list.ensures.width) c.in_ok-list.ensures.rows c.in_err-cone.ensures.conversion.overflow)

pub returns-in_err-cone-clause-region : goal.returns-in_err-cone-clause-region
returns-in_err-cone-clause-region g c = let p = err_from_is_err_and c.from_residual-in_err-cone.result c.from_residual-in_err-cone.ensures.1 in rw p.1 tt

pub returns-in_err-cons-clause-region : goal.returns-in_err-cons-clause-region
returns-in_err-cons-clause-region g c = let p = err_from_is_err_and c.from_residual-in_err-cons.result c.from_residual-in_err-cons.ensures.1 in rw p.1 tt

pub returns-in_err-list-clause-region : goal.returns-in_err-list-clause-region
returns-in_err-list-clause-region g c = let p = err_from_is_err_and c.from_residual.result c.from_residual.ensures.1 in rw p.1 tt

pub returns-in_err-list-clause-conversion : goal.returns-in_err-list-clause-conversion
returns-in_err-list-clause-conversion g c = let p = err_from_is_err_and c.from_residual.result c.from_residual.ensures.1 in rw (p.1, p.2) (list_unconverted c.args.cons.now c.args.steps.now)

pub returns-in_err-cons-clause-conversion : goal.returns-in_err-cons-clause-conversion
returns-in_err-cons-clause-conversion g c = let p = err_from_is_err_and c.from_residual-in_err-cons.result c.from_residual-in_err-cons.ensures.1 in rw (p.1, p.2) (list_unconverted c.args.cons.now c.args.steps.now)

pub returns-in_err-cone-clause-conversion : goal.returns-in_err-cone-clause-conversion
returns-in_err-cone-clause-conversion g c =
    let p = err_from_is_err_and c.from_residual-in_err-cone.result c.from_residual-in_err-cone.ensures.1 in
    rw (p.1, p.2) (list_converts c.args.cons.now c.width.result c.in_ok-list.list.rows _ _ _ (c.width.ensures.value ∙ c.in_ok-list.ensures.width) c.in_ok-list.ensures.rows c.in_err-cone.ensures.conversion)

pub returns-clause-conversion : goal.returns-clause-conversion
returns-clause-conversion g c = list_converts c.args.cons.now c.width.result c.in_ok-list.list.rows _ _ (Ok c.in_ok-cone.cone) (c.width.ensures.value ∙ c.in_ok-list.ensures.width) c.in_ok-list.ensures.rows c.in_ok-cone.ensures.conversion
