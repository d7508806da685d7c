use Rattle.std.proofs.Common.{ℕ, ◌<◌, List, All, length, ◌∙◌, subst}
use Rattle.mapped_systems.specs.Maps.{remaining, kept_variables}
use Rattle.row_core.specs.Refusals.{IsOverflowIn}
use Rattle.dimensions.specs.Refusals.{LeavesOnMapped}
use Rattle.dimensions.proofs.MappedResults.{mapped_clause}
use Rattle.line_values.specs.Texts.{IsTextRefusal}
use Rattle.poly_makers.specs.Affine.{variables_fault, IsRemoved}
use Rattle.line_values.proofs.PerformedLemmas.{not_full}
use Rattle.poly_makers.proofs.MapLemmas.{remove_refused, remove_full, remove_made, remove_leaves}
use Rattle.std.specs.Prelude.{IfOk, IfErr, Result}
use Rattle.row_core.specs.declared.errors.ConvErr.{ConvErr}
use Rattle.poly_pair.specs.Polyhedra.{Polyhedron}
use Rattle.dimensions.specs.Results.{IsImage, IsStoredOfMapped}
use Rattle.line_values.specs.Refusals.{refusal_of_conversion}
use Rattle.poly_makers.specs.Affine.{remove}
use Rattle.poly_makers.proofs.MakerLemmas.{turned}
use Rattle.poly_makers.proofs.affine.remove.Goals as goal

pub returns-in-Err : goal.returns-in-Err
returns-in-Err g c =
    let fault = subst (λ (k : ℕ). IsTextRefusal (variables_fault k c.args.vars.now) c.in-Err.cause) c.dim.ensures.value c.in-Err.ensures in
    remove_refused c.args.full c.args.vars.now c.args.p.now c.in-Err.cause fault

pub returns-then-full : goal.returns-then-full
returns-then-full g c =
    let below = subst (λ (k : ℕ). All (λ (i : ℕ). i < k) c.args.vars.now) c.dim.ensures.value c.in-Ok.ensures.1 in
    remove_full c.args.full c.args.vars.now c.args.p.now below c.if-full.true

pub returns : goal.returns
returns g c =
    let p = c.args.p.now in
    let vars = c.as_slice.result.now in
    let map = remaining p.cons.dim vars in
    let to = length (kept_variables p.cons.dim vars) in
    let same = c.as_slice.ensures.value ∙ c.in-Ok.ensures.0 in
    let below = subst (λ (k : ℕ). All (λ (i : ℕ). i < k) c.args.vars.now) c.dim.ensures.value c.in-Ok.ensures.1 in
    let room = not_full c.args.full c.if-full.false in
    turned (remove c.args.full c.args.vars.now p) refusal_of_conversion
    (λ (r : Result Polyhedron ConvErr). IfOk r (IsImage map to p) × (IfOk r (IsStoredOfMapped map to p) × IfErr r (IsOverflowIn (LeavesOnMapped map to p))))
    c.remove_dims.result c.map_err.result c.map_err.ensures.cases
    (c.remove_dims.ensures.points, (c.remove_dims.ensures.stored, mapped_clause map to p c.args.steps.now c.remove_dims.new.steps c.remove_dims.result c.remove_dims.ensures.conversion))
    (λ made is. remove_made c.args.full c.args.vars.now p made below room (subst (λ (w : List ℕ). IsRemoved w p made) same (record { set = is.0; stored = is.1.0 })))
    (λ cause is. remove_leaves c.args.full c.args.vars.now p cause below room (subst (λ (w : List ℕ). IsOverflowIn (LeavesOnMapped (remaining p.cons.dim w) (length (kept_variables p.cons.dim w)) p) cause) same is.1.1))
