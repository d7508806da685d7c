use Rattle.std.proofs.Common.{◌≡◌, ◌∙◌, List, ℤ, ◌++◌, length, drop, slice_set, ap, sym, subst, inl, arith}
use Rattle.std.proofs.lemmas.Int.{to_z-of_z, fits_signed_from_abs}
use Rattle.std.proofs.lemmas.List.{take_at}
use Rattle.std.specs.Int.{w128}
use mir.Val.{SFits}
use Rattle.row_core.specs.Vectors.{scale}
use Rattle.row_core.specs.Range.{AllInRange, AllStay, DotStays, IsFirstToLeave}
use Rattle.mapped_systems.specs.Refusals.{EntryStays}
use Rattle.mapped_systems.proofs.substitution.put_image.Goals as goal

copied : (c : goal.After-as_mut_slice) → c.as_mut_slice.result.now ≡ c.args.v.now
copied c = c.as_mut_slice.ensures.value ∙ c.in_ok-extend_from_slice.ensures.items ∙ ap (λ (v : List ℤ). v ++ c.args.v.now) c.clear.ensures.items

pub write_image-requires-clause-in_range : goal.write_image-requires-clause-in_range
write_image-requires-clause-in_range c = subst AllInRange (sym (copied c)) c.requires.in_range

pub returns : goal.returns
returns c =
    let new = c.write_image.new.row in
    let held = c.extend_from_slice.new.self in
    let var = c.args.var in
    let value = c.in-Ok.value in
    let den_fits : SFits w128 c.args.den = c.ranges.den in
    let value_fits : SFits w128 value = fits_signed_from_abs w128 value c.in-Ok.ensures.in_range.size in
    let width : length new ≡ held.len = omega (arith, c.in_default.ensures.width, c.as_mut_slice.ensures.len) in
    let whole = take_at new (drop (length new) held.items) held.len width in
    let same : c.as_mut_slice.result.now ≡ c.args.v.now = c.as_mut_slice.ensures.value ∙ c.in_ok-extend_from_slice.ensures.items ∙ ap (λ (v : List ℤ). v ++ c.args.v.now) c.clear.ensures.items in
    let written = simp to_z-of_z at c.in_default.ensures.written.0 in
    record {
      stays = record { dot = c.in-Ok.ensures.exact.1; entries = subst (λ (v : List ℤ). AllStay (EntryStays var c.args.den v) (length v)) same (simp to_z-of_z at c.in_default.ensures.stays) };
      row = whole ∙ written ∙ ap (λ (v : List ℤ). slice_set (scale c.args.den v) var value) same ∙ ap (slice_set (scale c.args.den c.args.v.now) var) c.in-Ok.ensures.exact.0;
      in_range = subst AllInRange (sym whole) c.in_default.ensures.written.1;
      overflow = tt;
    }

pub returns-in-Err : goal.returns-in-Err
returns-in-Err c =
    let expr = c.args.expr.now in
    record {
      row = tt;
      in_range = tt;
      stays = tt;
      overflow = inl (record {
        shown = c.in_ok-over-in-Err.ensures.rows;
        column = subst (IsFirstToLeave (DotStays expr c.args.v.now) (length expr)) (sym c.in_ok-over-in-Err.ensures.column) c.in-Err.ensures.exact;
      });
    }
