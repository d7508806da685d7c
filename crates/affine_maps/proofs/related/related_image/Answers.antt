use Rattle.std.specs.Int.{w128}
use Rattle.std.proofs.lemmas.Int.{to_z-of_z}
use mir.Val.{SFits, to_z, of_z}
use Rattle.std.proofs.Common.{◌≡◌, ℤ, ℕ, List, ◌<◌, length, inl, inr, refl, sym, subst, ap, ◌∙◌, arith, All}
use Rattle.std.proofs.lemmas.Result.{IfOk-weaker, err_from_is_err_and}
use Rattle.row_core.specs.Range.{InRange}
use Rattle.cons_sys.specs.Constraints.{Constraints}
use Rattle.mapped_systems.specs.Maps.{with_zeros, picked}
use Rattle.poly_pair.specs.Work.{conv_overflow, overflow_in}
use Rattle.affine_maps.specs.Shadows.{IsShadow, IsStoredOfShadow}
use Rattle.affine_maps.specs.Relations.{image_columns, IsImageBy, IsStoredOfRelation}
use Rattle.affine_maps.proofs.RelatedImages.{columns_length}
use Rattle.affine_maps.proofs.RelatedResults.{columns_below, extended_kinds, lent_extended, lent_points, relation_conversion, relation_stored}
use Rattle.affine_maps.proofs.related.related_image.Goals as goal

told : (z : ℤ) → SFits w128 z → to_z w128 (of_z w128 z) ≡ z
told z fits = to_z-of_z w128 z fits

pub shadow-requires-clause-kinds : goal.shadow-requires-clause-kinds
shadow-requires-clause-kinds g c =
    let p = c.args.p.now in
    extended_kinds c.topology.result (with_zeros p.cons.dim 1) c.args.rel c.args.expr.now c.args.den p c.in_ok-all.all c.topology.ensures.value c.topology.ensures.kept c.requires.rel
    (lent_extended p c.cons-cons.result.now c.dim-dim.result c.cons-cons.ensures.value c.dim-dim.ensures.value c.args.rel c.args.expr.now c.args.den (to_z w128 (of_z w128 c.args.den)) (told c.args.den c.ranges.den) c.in_ok-front.front c.in_ok-all.all c.in_ok-front.ensures c.in_ok-all.ensures.dim c.in_ok-all.ensures.list)

pub shadow-requires-clause-columns : goal.shadow-requires-clause-columns
shadow-requires-clause-columns g c =
    let p = c.args.p.now in
    let is = lent_extended p c.cons-cons.result.now c.dim-dim.result c.cons-cons.ensures.value c.dim-dim.ensures.value c.args.rel c.args.expr.now c.args.den (to_z w128 (of_z w128 c.args.den)) (told c.args.den c.ranges.den) c.in_ok-front.front c.in_ok-all.all c.in_ok-front.ensures c.in_ok-all.ensures.dim c.in_ok-all.ensures.list in
    let columns = c.deref.ensures.value ∙ c.in_ok-columns.ensures ∙ ap (λ (n : ℕ). image_columns n c.args.var) c.dim-dim.ensures.value in
    subst (λ (js : List ℕ). All (λ (j : ℕ). j < c.in_ok-all.all.dim) js) (sym columns) (subst (λ (n : ℕ). All (λ (j : ℕ). j < n) (image_columns p.cons.dim c.args.var)) (sym is.same_dim) (columns_below p.cons.dim c.args.var))

pub shadow-requires-clause-narrow : goal.shadow-requires-clause-narrow
shadow-requires-clause-narrow g c =
    let p = c.args.p.now in
    let columns = c.deref.ensures.value ∙ c.in_ok-columns.ensures ∙ ap (λ (n : ℕ). image_columns n c.args.var) c.dim-dim.ensures.value in
    omega (arith, ap length columns, columns_length p.cons.dim c.args.var c.requires.var, c.topology.ensures.kept.narrow)

pub returns-clause-points : goal.returns-clause-points
returns-clause-points g c =
    let p = c.args.p.now in
    let all = c.in_ok-all.all in
    let js = c.deref.result.now in
    let columns = c.deref.ensures.value ∙ c.in_ok-columns.ensures ∙ ap (λ (n : ℕ). image_columns n c.args.var) c.dim-dim.ensures.value in
    let is = lent_extended p c.cons-cons.result.now c.dim-dim.result c.cons-cons.ensures.value c.dim-dim.ensures.value c.args.rel c.args.expr.now c.args.den (to_z w128 (of_z w128 c.args.den)) (told c.args.den c.ranges.den) c.in_ok-front.front all c.in_ok-front.ensures c.in_ok-all.ensures.dim c.in_ok-all.ensures.list in
    IfOk-weaker c.shadow.result (IsShadow c.topology.result (picked js all.dim) (length js) all) (IsImageBy c.args.rel c.args.var c.args.expr.now c.args.den p)
    (lent_points p c.args.rel c.args.var c.args.expr.now c.args.den all c.topology.result js c.topology.ensures.value columns c.requires.var c.requires.wide is)
    c.shadow.ensures.points

pub returns-clause-conversion : goal.returns-clause-conversion
returns-clause-conversion g c =
    let p = c.args.p.now in
    let all = c.in_ok-all.all in
    let js = c.deref.result.now in
    let columns = c.deref.ensures.value ∙ c.in_ok-columns.ensures ∙ ap (λ (n : ℕ). image_columns n c.args.var) c.dim-dim.ensures.value in
    let is = lent_extended p c.cons-cons.result.now c.dim-dim.result c.cons-cons.ensures.value c.dim-dim.ensures.value c.args.rel c.args.expr.now c.args.den (to_z w128 (of_z w128 c.args.den)) (told c.args.den c.ranges.den) c.in_ok-front.front all c.in_ok-front.ensures c.in_ok-all.ensures.dim c.in_ok-all.ensures.list in
    inr (relation_conversion (with_zeros p.cons.dim 1) (image_columns p.cons.dim c.args.var) c.args.rel c.args.expr.now c.args.den p js all c.topology.result c.args.steps.now c.shadow.new.steps (overflow_in conv_overflow c.shadow.result) c.topology.ensures.value columns is c.shadow.ensures.conversion)

pub returns-in_err-front-clause-conversion : goal.returns-in_err-front-clause-conversion
returns-in_err-front-clause-conversion g c = let p = err_from_is_err_and c.from_residual.result c.from_residual.ensures.1 in rw (p.1, p.2) (inl (refl, refl))

pub returns-in_err-all-clause-conversion : goal.returns-in_err-all-clause-conversion
returns-in_err-all-clause-conversion g c = let p = err_from_is_err_and c.from_residual-in_err-all.result c.from_residual-in_err-all.ensures.1 in rw (p.1, p.2) (inl (refl, refl))

pub returns-in_err-columns-clause-conversion : goal.returns-in_err-columns-clause-conversion
returns-in_err-columns-clause-conversion g c = let p = err_from_is_err_and c.from_residual-in_err-columns.result c.from_residual-in_err-columns.ensures.1 in rw (p.1, p.2) (inl (refl, refl))

pub returns-clause-stored : goal.returns-clause-stored
returns-clause-stored g c =
    let p = c.args.p.now in
    let all = c.in_ok-all.all in
    let js = c.deref.result.now in
    let columns = c.deref.ensures.value ∙ c.in_ok-columns.ensures ∙ ap (λ (n : ℕ). image_columns n c.args.var) c.dim-dim.ensures.value in
    let is = lent_extended p c.cons-cons.result.now c.dim-dim.result c.cons-cons.ensures.value c.dim-dim.ensures.value c.args.rel c.args.expr.now c.args.den (to_z w128 (of_z w128 c.args.den)) (told c.args.den c.ranges.den) c.in_ok-front.front all c.in_ok-front.ensures c.in_ok-all.ensures.dim c.in_ok-all.ensures.list in
    IfOk-weaker c.shadow.result (IsStoredOfShadow c.topology.result (picked js all.dim) (length js) all) (IsStoredOfRelation (with_zeros p.cons.dim 1) (image_columns p.cons.dim c.args.var) c.args.rel c.args.expr.now c.args.den p)
    (relation_stored (with_zeros p.cons.dim 1) (image_columns p.cons.dim c.args.var) js c.args.rel c.args.expr.now c.args.den p all c.topology.result c.topology.ensures.value columns is)
    c.shadow.ensures.stored

pub extended-requires : goal.extended-requires
extended-requires g c = record {
  dim = omega (arith, c.in_ok-front.ensures.same_dim, ap (λ (cs : Constraints). cs.dim) c.cons-cons.ensures.value, c.dim-dim.ensures.value);
  wide = omega (arith, c.requires.wide, c.dim-dim.ensures.value);
  narrow = omega (arith, c.dim-dim.ensures.narrow);
  in_range = c.requires.in_range;
  den_in_range = subst InRange (sym (to_z-of_z w128 c.args.den c.ranges.den)) c.requires.den_in_range;
}
