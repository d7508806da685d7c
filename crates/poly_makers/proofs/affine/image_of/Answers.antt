use Rattle.std.proofs.Common.{◌≡◌, List, length, sym, ◌∙◌, ap, subst}
use Rattle.std.specs.Prelude.{ℤ, pos, ◌<ℤ◌, IfOk, IfErr}
use Rattle.std.specs.Int.{w128}
use Rattle.std.proofs.lemmas.Int.{to_z-of_z, fits_signed_from_abs}
use Rattle.row_core.specs.Range.{InRange, AllInRange}
use Rattle.row_core.specs.Refusals.{IsOverflowIn}
use Rattle.affine_maps.specs.Relations.{IsRelationFor}
use Rattle.affine_maps.specs.declared.relations.ImageRel.{ImageRel}
use Rattle.script_text.specs.declared.command.Mapping.{Mapping}
use Rattle.poly_makers.specs.Affine.{IsSetOfMap, IsStoredOfMap, LeavesInMap}
use Rattle.poly_makers.proofs.affine.image_of.Goals as goal

-- what is so of a mapping, a relation, a row and a divisor is so of equal ones
done_by : (P : Mapping → ImageRel → List ℤ → ℤ → Type 0) {op arm : Mapping} {made rel : ImageRel} {cells expr : List ℤ} {den given : ℤ} → op ≡ arm → made ≡ rel → cells ≡ expr → den ≡ given → P arm made cells den → P op rel expr given
done_by P {op} {arm} {made} {rel} {cells} {expr} {den} {given} is like row same h =
    subst (λ (o : Mapping). P o rel expr given) (sym is)
    (subst (λ (r : ImageRel). P arm r expr given) like (subst (λ (e : List ℤ). P arm made e given) row (subst (P arm made cells) same h)))

pub image-requires : goal.image-requires
image-requires g c =
    let f = c.args.frac.now in
    let den = to_z-of_z w128 f.den (fits_signed_from_abs w128 f.den c.requires.den_in_range.size) in
    record {
      var = c.requires.var;
      rel = subst (IsRelationFor c.args.p.now.topology) (sym c.image_rel-rel.ensures) c.requires.rel;
      wide = ap length c.cells-expr.ensures.value ∙ c.requires.wide;
      in_range = subst AllInRange (sym c.cells-expr.ensures.value) c.cells-expr.ensures.in_range;
      den_in_range = subst InRange (sym den) c.requires.den_in_range;
      positive = subst (λ (z : ℤ). pos 0 <ℤ z) (sym den) c.requires.positive;
    }

pub preimage-requires : goal.preimage-requires
preimage-requires g c =
    let f = c.args.frac.now in
    let den = to_z-of_z w128 f.den (fits_signed_from_abs w128 f.den c.requires.den_in_range.size) in
    record {
      var = c.requires.var;
      rel = subst (IsRelationFor c.args.p.now.topology) (sym c.image_rel-rel.ensures) c.requires.rel;
      wide = ap length c.cells-expr.ensures.value ∙ c.requires.wide;
      in_range = subst AllInRange (sym c.cells-expr.ensures.value) c.cells-expr.ensures.in_range;
      den_in_range = subst InRange (sym den) c.requires.den_in_range;
      positive = subst (λ (z : ℤ). pos 0 <ℤ z) (sym den) c.requires.positive;
    }

pub returns-in-Image : goal.returns-in-Image
returns-in-Image g c =
    let f = c.args.frac.now in
    let v = c.args.map.v in
    let p = c.args.p.now in
    let den = to_z-of_z w128 f.den (fits_signed_from_abs w128 f.den c.requires.den_in_range.size) in
    let row = c.cells-expr.ensures.value in
    let like = c.image_rel-rel.ensures in
    record {
      points = done_by (λ (op : Mapping) (r : ImageRel) (e : List ℤ) (z : ℤ). IfOk c.image.result (IsSetOfMap op r v e z p)) c.in-Image.is like row den c.image.ensures.points;
      stored = done_by (λ (op : Mapping) (r : ImageRel) (e : List ℤ) (z : ℤ). IfOk c.image.result (IsStoredOfMap op r v e z p)) c.in-Image.is like row den c.image.ensures.stored;
      overflow = done_by (λ (op : Mapping) (r : ImageRel) (e : List ℤ) (z : ℤ). IfErr c.image.result (IsOverflowIn (LeavesInMap op r v e z p))) c.in-Image.is like row den c.image.ensures.overflow;
    }

pub returns-in-Preimage : goal.returns-in-Preimage
returns-in-Preimage g c =
    let f = c.args.frac.now in
    let v = c.args.map.v in
    let p = c.args.p.now in
    let den = to_z-of_z w128 f.den (fits_signed_from_abs w128 f.den c.requires.den_in_range.size) in
    let row = c.cells-expr.ensures.value in
    let like = c.image_rel-rel.ensures in
    record {
      points = done_by (λ (op : Mapping) (r : ImageRel) (e : List ℤ) (z : ℤ). IfOk c.preimage.result (IsSetOfMap op r v e z p)) c.in-Preimage.is like row den c.preimage.ensures.points;
      stored = done_by (λ (op : Mapping) (r : ImageRel) (e : List ℤ) (z : ℤ). IfOk c.preimage.result (IsStoredOfMap op r v e z p)) c.in-Preimage.is like row den c.preimage.ensures.stored;
      overflow = done_by (λ (op : Mapping) (r : ImageRel) (e : List ℤ) (z : ℤ). IfErr c.preimage.result (IsOverflowIn (LeavesInMap op r v e z p))) c.in-Preimage.is like row den c.preimage.ensures.overflow;
    }
