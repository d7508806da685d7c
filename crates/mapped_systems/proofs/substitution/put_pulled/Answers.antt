use Rattle.std.proofs.Common.{◌≡◌, ◌∙◌, ℕ, List, ℤ, pos, ◌++◌, length, drop, slice_set, ap, sym, subst, arith, max}
use Rattle.std.proofs.lemmas.Bool.Decides.{nat_tests}
use Rattle.std.proofs.lemmas.List.{length-set, take_at}
use Rattle.std.proofs.lemmas.List.Elements.{All-get_or}
use Rattle.std.proofs.lemmas.Int.{to_z-of_z, fits_signed_from_abs}
use Rattle.std.specs.Int.{w128}
use mir.Val.{SFits}
use Rattle.row_core.specs.Vectors.{cell, scale, add}
use Rattle.row_core.specs.Range.{InRange, AllInRange, AllStay, CombineStays, IsFirstToLeave}
use Rattle.row_core.proofs.SizeLemmas.{HaveBits-more}
use Rattle.mapped_systems.proofs.substitution.put_pulled.Goals as goal

pub combine_within-requires-clause-within : goal.combine_within-requires-clause-within
combine_within-requires-clause-within g c =
    let most : c.max-within.result ≡ max c.bits.result c.bits-2.result =
    grind (arith, nat_tests, c.max-within.ensures) in (
      HaveBits-more c.bits.result c.max-within.result c.as_mut_slice-cleared.result.now
          (omega (arith, most)) c.bits.ensures.within,
      HaveBits-more c.bits-2.result c.max-within.result c.args.expr.now (omega (arith, most))
          c.bits-2.ensures.within,
    )

pub returns : goal.returns
returns g c =
    let new = c.combine_within.new.dst in
    let row = c.args.row.now in
    let var = c.args.var in
    let den_fits : SFits w128 c.args.den = c.ranges.den in
    let entry_in_range : InRange (cell row var) = All-get_or InRange row var (pos 0) c.requires.var c.requires.in_range in
    let entry_fits : SFits w128 (cell row var) = fits_signed_from_abs w128 (cell row var) entry_in_range.size in
    let held = c.extend_from_slice.new.self in
    let width : length new ≡ held.len = omega (arith, c.in_default.ensures.width, c.as_mut_slice-cleared.ensures.len) in
    let whole = take_at new (drop (length new) (slice_set held.items var (pos 0))) held.len width in
    let cleared : c.as_mut_slice-cleared.result.now ≡ slice_set row var (pos 0) = c.as_mut_slice-cleared.ensures.value ∙ ap (λ (v : List ℤ). slice_set v var (pos 0)) (c.in_ok-extend_from_slice.ensures.items ∙ ap (λ (v : List ℤ). v ++ row) c.clear.ensures.items) in
    let combined = simp to_z-of_z at c.in_default.ensures.combined.0 in
    record {
      row = whole ∙ combined ∙ ap (λ (v : List ℤ). add (scale c.args.den v) (scale (cell row var) c.args.expr.now)) cleared;
      stays = subst (AllStay (CombineStays (slice_set row var (pos 0)) c.args.den c.args.expr.now (cell row var))) (length-set row var (pos 0)) (subst (λ (v : List ℤ). AllStay (CombineStays v c.args.den c.args.expr.now (cell row var)) (length v)) cleared (simp to_z-of_z at c.in_default.ensures.combined.1));
      in_range = subst AllInRange (sym whole) c.in_default.ensures.in_range;
      overflow = tt;
      no_fewer = omega (arith, c.in_default.ensures.counted);
      counted = omega (arith, c.in_default.ensures.counted);
    }

pub returns-in-Err : goal.returns-in-Err
returns-in-Err g c =
    let row = c.args.row.now in
    let var = c.args.var in
    let expr = c.args.expr.now in
    let den_fits : SFits w128 c.args.den = c.ranges.den in
    let entry_in_range : InRange (cell row var) = All-get_or InRange row var (pos 0) c.requires.var c.requires.in_range in
    let entry_fits : SFits w128 (cell row var) = fits_signed_from_abs w128 (cell row var) entry_in_range.size in
    let cleared : c.as_mut_slice-cleared.result.now ≡ slice_set row var (pos 0) = c.as_mut_slice-cleared.ensures.value ∙ ap (λ (v : List ℤ). slice_set v var (pos 0)) (c.in_ok-extend_from_slice.ensures.items ∙ ap (λ (v : List ℤ). v ++ row) c.clear.ensures.items) in
    let leaves = simp to_z-of_z at c.in-Err.ensures.combined.1 in
    let of_cleared : IsFirstToLeave (CombineStays (slice_set row var (pos 0)) c.args.den expr (cell row var)) (length (slice_set row var (pos 0))) c.in-Err.column = subst (λ (v : List ℤ). IsFirstToLeave (CombineStays v c.args.den expr (cell row var)) (length v) c.in-Err.column) cleared leaves in
    let shown = simp to_z-of_z at c.in_ok-over.ensures.rows in
    record {
      row = tt;
      in_range = tt;
      stays = tt;
      overflow = record {
        shown = shown;
        column = subst (IsFirstToLeave (CombineStays (slice_set row var (pos 0)) c.args.den expr (cell row var)) (length row)) (sym c.in_ok-over.ensures.column) (subst (λ (n : ℕ). IsFirstToLeave (CombineStays (slice_set row var (pos 0)) c.args.den expr (cell row var)) n c.in-Err.column) (length-set row var (pos 0)) of_cleared);
      };
      no_fewer = omega (arith, c.in-Err.ensures.counted);
      counted = omega (arith, c.in-Err.ensures.counted);
    }
