use Rattle.std.specs.Prelude.{◌≡◌, Some}
use Rattle.std.specs.Int.{w64}
use Rattle.std.proofs.Common.{rules, ◌∙◌, ap, sym, subst, inr}
use Rattle.std.proofs.lemmas.Int.{to_z-of_z}
use mir.Val.{SFits}
use Rattle.difference_bounds.specs.Tables.{bounds_of}
use Rattle.difference_bounds.specs.Laws.{IsRelaxed}
use Rattle.difference_bounds.specs.Words.{IsShort, whole, told}
use Rattle.difference_bounds.proofs.CellLemmas.{told_short}
use Rattle.difference_bounds.proofs.table.BoundTable.relax.Goals as goal

pub put-requires-clause-told : goal.put-requires-clause-told
put-requires-clause-told c =
    let first : SFits w64 c.word.result = search rules in
    let second : SFits w64 c.word-2.result = search rules in
    let third : SFits w64 c.word-3.result = search rules in
    let fits : SFits w64 c.in-Falls.number = search rules in
    let b = bounds_of c.args.self.now in
    let steps = simp to_z-of_z at c.in-Falls.ensures in
    let short : IsShort c.in-Falls.number = (steps (b c.args.i c.args.j) (b c.args.i c.args.k) (b c.args.k c.args.j) c.word.ensures.word c.word-2.ensures.word c.word-3.ensures.word).1 in
    inr (subst IsShort (sym (to_z-of_z w64 c.in-Falls.number fits)) short)

pub returns-in-Falls-clause-here : goal.returns-in-Falls-clause-here
returns-in-Falls-clause-here c =
    let first : SFits w64 c.word.result = search rules in
    let second : SFits w64 c.word-2.result = search rules in
    let third : SFits w64 c.word-3.result = search rules in
    let fits : SFits w64 c.in-Falls.number = search rules in
    let b = bounds_of c.args.self.now in
    let steps = simp to_z-of_z at c.in-Falls.ensures in
    let falls = steps (b c.args.i c.args.j) (b c.args.i c.args.k) (b c.args.k c.args.j) c.word.ensures.word c.word-2.ensures.word c.word-3.ensures.word in
    let here : bounds_of c.put.new.self c.args.i c.args.j ≡ Some (whole c.in-Falls.number) = c.put.ensures.here ∙ (ap told (to_z-of_z w64 c.in-Falls.number fits) ∙ told_short c.in-Falls.number falls.1) in
    subst (IsRelaxed (b c.args.i c.args.j) (b c.args.i c.args.k) (b c.args.k c.args.j)) (sym here) falls.0
