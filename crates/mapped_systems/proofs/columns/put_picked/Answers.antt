use Rattle.std.proofs.Common.{◌<◌, ℕ, List, ℤ, pos, [], ◌∷◌, ◌++◌, length, map, slice_index_or, ap, sym, subst, ◌∙◌, arith}
use Rattle.std.proofs.lemmas.List.{map_more, take_all}
use Rattle.std.proofs.lemmas.List.Elements.{All-append, All-cons, All-nil, All-get_or}
use Rattle.std.specs.Int.{w128}
use Rattle.std.proofs.lemmas.Int.{to_z-of_z, fits_signed_from_abs}
use mir.Val.{SFits}
use Rattle.row_core.specs.Vectors.{cell}
use Rattle.row_core.specs.Range.{InRange, AllInRange}
use Rattle.mapped_systems.proofs.columns.put_picked.Goals as goal

pub loop-column-preserved : goal.loop-column-preserved
loop-column-preserved c =
    let i = c.loop-column.column-index in
    let v = c.args.row.now in
    let j = slice_index_or c.args.columns.now i 0 in
    let below : j < length v = All-get_or (λ (n : ℕ). n < length v) c.args.columns.now i 0 (omega arith) c.requires.columns in
    let stays : InRange (cell v j) = All-get_or InRange v j (pos 0) below c.requires.in_range in
    let fits : SFits w128 (cell v j) = fits_signed_from_abs w128 (cell v j) stays.size in
    let e = simp to_z-of_z at c.push_reserved.ensures.items in
    record {
      count = omega (arith, c.push_reserved.ensures.len, c.loop-column.invariant.count);
      room = omega (arith, c.push_reserved.ensures.capacity, c.loop-column.invariant.room);
      entries = e ∙ ap (λ (xs : List ℤ). xs ++ cell v j ∷ []) c.loop-column.invariant.entries ∙ sym (map_more (cell v) c.args.columns.now i 0 (omega arith));
      in_range = subst AllInRange (sym e) (All-append InRange c.loop-column.buffer.items (cell v j ∷ []) c.loop-column.invariant.in_range (All-cons InRange (cell v j) [] stays (All-nil InRange)));
    }

pub returns : goal.returns
returns c =
    let v = c.args.row.now in
    let last = c.args.divisor in
    let stays : InRange (cell v last) = All-get_or InRange v last (pos 0) c.requires.divisor c.requires.in_range in
    let fits : SFits w128 (cell v last) = fits_signed_from_abs w128 (cell v last) stays.size in
    let e = simp to_z-of_z at c.push_reserved-2.ensures.items in
    record {
      row = e ∙ ap (λ (xs : List ℤ). xs ++ cell v last ∷ []) (c.loop-column.invariant.entries ∙ ap (map (cell v)) (take_all c.loop-column.column-index c.args.columns.now (omega arith)));
      in_range = subst AllInRange (sym e) (All-append InRange c.loop-column.buffer.items (cell v last ∷ []) c.loop-column.invariant.in_range (All-cons InRange (cell v last) [] stays (All-nil InRange)));
    }
