use Rattle.std.specs.Prelude.{◌≡◌, ◌-◌, ◌++◌, ◌∷◌, [], List, ℤ, length, take, drop}
use Rattle.std.specs.Int.{w128}
use Rattle.std.proofs.Common.{arith, ap, sym, subst, ◌∙◌, append_assoc, length-drop}
use Rattle.std.proofs.lemmas.Int.{to_z-of_z}
use Rattle.std.proofs.lemmas.List.{take_all}
use Rattle.std.proofs.lemmas.List.Edits.{length-insert}
use Rattle.std.proofs.lemmas.List.Elements.{All-append, All-cons, All-take, All-drop}
use mir.Val.{SFits}
use Rattle.row_core.specs.Range.{InRange, AllInRange}
use Rattle.nnc_enc.specs.Encoding.{raised}
use Rattle.nnc_enc.proofs.encoding.put_raised.Goals as goal

pub returns : goal.returns
returns c =
    let row = c.args.row.now in
    let dim = c.args.dim in
    let height = c.args.height in
    let height_fits : SFits w128 height = c.ranges.height in
    let front : c.extend_from_slice.new.self.items ≡ take dim row = c.in_ok-extend_from_slice.ensures.items ∙ ap (λ (v : List ℤ). v ++ take dim row) c.clear.ensures.items in
    let pushed = simp to_z-of_z at c.in_ok-push.ensures.items in
    let middle : c.push.new.self.items ≡ take dim row ++ height ∷ [] = pushed ∙ ap (λ (v : List ℤ). v ++ height ∷ []) front in
    let back : take (length row - dim) (drop dim row) ≡ drop dim row = take_all (length row - dim) (drop dim row) (omega (arith, length-drop dim row)) in
    let joined : c.extend_from_slice-2.new.self.items ≡ raised dim row height = c.in_ok-extend_from_slice-2.ensures.items ∙ ap (λ (v : List ℤ). c.push.new.self.items ++ v) back ∙ ap (λ (v : List ℤ). v ++ drop dim row) middle ∙ append_assoc (take dim row) (height ∷ []) (drop dim row) in
    record {
      items = joined;
      wide = omega (arith, ap (λ (v : List ℤ). length v) joined, length-insert row dim height (omega arith));
      in_range = subst AllInRange (sym joined) (All-append InRange (take dim row) (height ∷ drop dim row) (All-take InRange dim row c.requires.in_range) (All-cons InRange height (drop dim row) c.requires.height (All-drop InRange dim row c.requires.in_range)));
    }
