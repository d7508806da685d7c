use Rattle.std.specs.Prelude.{◌≡◌, ℕ, ◌+◌, ◌-◌, ◌++◌, List, ℤ, length, take, drop}
use Rattle.std.proofs.Common.{arith, ap, sym, subst, ◌∙◌, add-one, length-drop}
use Rattle.std.proofs.lemmas.List.{take_all}
use Rattle.std.proofs.lemmas.List.Edits.{length-remove}
use Rattle.std.proofs.lemmas.List.Elements.{All-append, All-take, All-drop}
use Rattle.row_core.specs.Range.{InRange, AllInRange}
use Rattle.nnc_enc.specs.Encoding.{lowered}
use Rattle.nnc_enc.proofs.decoding.put_lowered.Goals as goal

pub returns : goal.returns
returns c =
    let row = c.args.row.now in
    let dim = c.args.dim in
    let front : c.extend_from_slice.new.self.items ≡ take dim row = c.in_ok-extend_from_slice.ensures.items ∙ ap (λ (v : List ℤ). v ++ take dim row) c.clear.ensures.items in
    let back : take (length row - (dim + 1)) (drop (dim + 1) row) ≡ drop (dim + 1) row = take_all (length row - (dim + 1)) (drop (dim + 1) row) (omega (arith, length-drop (dim + 1) row)) in
    let joined : c.extend_from_slice-2.new.self.items ≡ take dim row ++ drop (dim + 1) row = c.in_ok-extend_from_slice-2.ensures.items ∙ ap (λ (v : List ℤ). c.extend_from_slice.new.self.items ++ v) back ∙ ap (λ (v : List ℤ). v ++ drop (dim + 1) row) front in
    let items : c.extend_from_slice-2.new.self.items ≡ lowered dim row = joined ∙ ap (λ (n : ℕ). take dim row ++ drop n row) (add-one dim) in
    record {
      items = items;
      wide = omega (arith, ap (λ (v : List ℤ). length v) items, length-remove row dim (omega (arith, c.requires.wide)), c.requires.wide);
      in_range = subst AllInRange (sym joined) (All-append InRange (take dim row) (drop (dim + 1) row) (All-take InRange dim row c.requires.in_range) (All-drop InRange (dim + 1) row c.requires.in_range));
    }
