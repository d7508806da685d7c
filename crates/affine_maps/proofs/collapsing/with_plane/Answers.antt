use Rattle.std.proofs.Common.{◌∙◌, List, length, slice_set, ℤ, pos, neg_ℤ, refl, sym, ap, subst}
use Rattle.std.specs.Int.{w128}
use Rattle.std.proofs.lemmas.Int.{to_z-of_z}
use Rattle.std.proofs.lemmas.List.{length-set}
use Rattle.std.proofs.lemmas.List.Elements.{All-set}
use mir.Val.{to_z, of_z}
use Rattle.row_core.specs.Range.{InRange, AllInRange}
use Rattle.row_core.specs.Vectors.{scale}
use Rattle.affine_maps.proofs.CollapsedForms.{plane_of}
use Rattle.affine_maps.proofs.collapsing.with_plane.Goals as goal

pub push-requires-clause-in_range : goal.push-requires-clause-in_range
push-requires-clause-in_range c =
    subst AllInRange (sym c.deref.ensures.value)
    (All-set InRange c.into_vec-plane.result.items c.args.var (to_z w128 (of_z w128 c.args.den)) (subst InRange (sym (to_z-of_z w128 c.args.den c.ranges.den)) c.requires.den_in_range) (subst AllInRange (sym c.into_vec-plane.ensures.value) c.into_vec-plane.ensures.in_range))

pub returns : goal.returns
returns c =
    let e : List ℤ = c.args.expr.now in
    let n : ℤ = to_z w128 (of_z w128 c.args.den) in
    record {
      plane = c.deref.result.now;
      is_plane = plane_of c.args.var e c.args.den c.deref.result.now c.requires.var
          (c.deref.ensures.value ∙ ap (λ (xs : List ℤ). slice_set xs c.args.var n) (c.into_vec-plane.ensures.value ∙ c.in_ok-negated.ensures.value) ∙ ap (λ (z : ℤ). slice_set (scale (neg_ℤ (pos 1)) e) c.args.var z) (to_z-of_z w128 c.args.den c.ranges.den))
          (ap (λ (xs : List ℤ). length xs) c.deref.ensures.value ∙ length-set c.into_vec-plane.result.items c.args.var n ∙ ap (λ (xs : List ℤ). length xs) c.into_vec-plane.ensures.value ∙ c.in_ok-negated.ensures.width);
      lines = c.in_ok-push.ensures.rows;
      width = c.push.ensures.width;
      rays = refl;
      sat = refl;
    }
