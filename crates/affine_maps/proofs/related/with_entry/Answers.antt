use Rattle.std.proofs.Common.{◌≡◌, ◌∙◌, List, ℤ, [], ◌∷◌, ◌-◌, ◌++◌, length, length-drop, take, drop, append_assoc, ap, sym, subst, arith}
use Rattle.std.proofs.lemmas.Int.{to_z-of_z}
use Rattle.std.proofs.lemmas.List.{take_all}
use Rattle.std.proofs.lemmas.List.Elements.{All-append, All-cons, All-take, All-drop}
use Rattle.std.specs.Int.{w128}
use mir.Val.{SFits}
use Rattle.row_core.specs.Range.{InRange, AllInRange}
use Rattle.affine_maps.specs.Relations.{with_entry}
use Rattle.affine_maps.proofs.RelatedRows.{length-with_entry}
use Rattle.affine_maps.proofs.related.with_entry.Goals as goal

pub from_vec-requires : goal.from_vec-requires
from_vec-requires c =
    let row = c.args.row.now in
    let entry_fits : SFits w128 c.args.entry = c.ranges.entry in
    let pushed = simp to_z-of_z at c.in_ok-push.ensures.items in
    let front : c.push.new.self.items ≡ take c.args.column row ++ c.args.entry ∷ [] = pushed ∙ ap (λ (v : List ℤ). v ++ c.args.entry ∷ []) c.in_ok-entries.ensures.items in
    let back : take (length row - c.args.column) (drop c.args.column row) ≡ drop c.args.column row = take_all (length row - c.args.column) (drop c.args.column row) (omega (arith, length-drop c.args.column row)) in
    let joined : c.extend_from_slice.new.self.items ≡ with_entry c.args.column row c.args.entry = c.in_ok-extend_from_slice.ensures.items ∙ ap (λ (v : List ℤ). c.push.new.self.items ++ v) back ∙ ap (λ (v : List ℤ). v ++ drop c.args.column row) front ∙ append_assoc (take c.args.column row) (c.args.entry ∷ []) (drop c.args.column row) in
    record {
      in_range = subst AllInRange (sym joined) (All-append InRange (take c.args.column row) (c.args.entry ∷ drop c.args.column row) (All-take InRange c.args.column row c.requires.in_range) (All-cons InRange c.args.entry (drop c.args.column row) c.requires.entry_in_range (All-drop InRange c.args.column row c.requires.in_range)));
      narrow = omega (arith, ap length joined, length-with_entry c.args.column row c.args.entry c.requires.column, c.requires.narrow);
    }

pub returns : goal.returns
returns c =
    let row = c.args.row.now in
    let entry_fits : SFits w128 c.args.entry = c.ranges.entry in
    let pushed = simp to_z-of_z at c.in_ok-push.ensures.items in
    let front : c.push.new.self.items ≡ take c.args.column row ++ c.args.entry ∷ [] = pushed ∙ ap (λ (v : List ℤ). v ++ c.args.entry ∷ []) c.in_ok-entries.ensures.items in
    let back : take (length row - c.args.column) (drop c.args.column row) ≡ drop c.args.column row = take_all (length row - c.args.column) (drop c.args.column row) (omega (arith, length-drop c.args.column row)) in
    let joined : c.extend_from_slice.new.self.items ≡ with_entry c.args.column row c.args.entry = c.in_ok-extend_from_slice.ensures.items ∙ ap (λ (v : List ℤ). c.push.new.self.items ++ v) back ∙ ap (λ (v : List ℤ). v ++ drop c.args.column row) front ∙ append_assoc (take c.args.column row) (c.args.entry ∷ []) (drop c.args.column row) in
    let same = c.from_vec.ensures ∙ joined in
    record {
      row = same;
      wide = ap length same ∙ length-with_entry c.args.column row c.args.entry c.requires.column;
    }
