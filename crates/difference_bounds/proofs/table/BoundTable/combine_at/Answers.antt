use Rattle.std.specs.Prelude.{◌≡◌, Bool, true, false, Some}
use Rattle.std.specs.Int.{w64}
use Rattle.std.proofs.Common.{rules, ◌∙◌, ap, sym, subst}
use Rattle.std.proofs.lemmas.Int.{to_z-of_z}
use mir.Val.{SFits}
use Rattle.difference_bounds.specs.Tables.{bounds_of}
use Rattle.difference_bounds.specs.Combining.{IsChosen, PicksAs}
use Rattle.difference_bounds.specs.Words.{IsTold, told}
use Rattle.difference_bounds.proofs.CellLemmas.{told_of, told_is}
use Rattle.difference_bounds.proofs.table.BoundTable.combine_at.Goals as goal

pub put-requires-clause-told : goal.put-requires-clause-told
put-requires-clause-told c =
    let first : SFits w64 c.word_pair-left.result.0 = search rules in
    let second : SFits w64 c.word_pair-left.result.1 = search rules in
    let tells = simp to_z-of_z at c.in-Some-true.ensures.told in
    let known : c.in-Some-true.field-0 ≡ true = search rules in
    subst IsTold (sym (to_z-of_z w64 c.word_pair-left.result.1 second)) (told_of (bounds_of c.args.other.now c.args.i c.args.j) c.word_pair-left.result.1 c.word_pair-left.ensures.there (tells (ap Some known)))

pub returns-in-Some-true-clause-here : goal.returns-in-Some-true-clause-here
returns-in-Some-true-clause-here c =
    let first : SFits w64 c.word_pair-left.result.0 = search rules in
    let second : SFits w64 c.word_pair-left.result.1 = search rules in
    let picks = simp to_z-of_z at c.in-Some-true.ensures.pick in
    let left = bounds_of c.args.self.now c.args.i c.args.j in
    let right = bounds_of c.args.other.now c.args.i c.args.j in
    let known : c.in-Some-true.field-0 ≡ true = search rules in
    let taken : IsChosen c.args.choice left right right = subst (λ (r : Bool). PicksAs c.args.choice left right (Some r)) known (picks left right c.word_pair-left.ensures.here c.word_pair-left.ensures.there) in
    let tells = simp to_z-of_z at c.in-Some-true.ensures.told in
    let here : bounds_of c.put.new.self c.args.i c.args.j ≡ right = c.put.ensures.here ∙ (ap told (to_z-of_z w64 c.word_pair-left.result.1 second) ∙ told_is right c.word_pair-left.result.1 c.word_pair-left.ensures.there (tells (ap Some known))) in
    subst (IsChosen c.args.choice left right) (sym here) taken

pub returns-in-Some-false-clause-here : goal.returns-in-Some-false-clause-here
returns-in-Some-false-clause-here c =
    let first : SFits w64 c.word_pair-left.result.0 = search rules in
    let second : SFits w64 c.word_pair-left.result.1 = search rules in
    let picks = simp to_z-of_z at c.in-Some-false.ensures.pick in
    let left = bounds_of c.args.self.now c.args.i c.args.j in
    let right = bounds_of c.args.other.now c.args.i c.args.j in
    let known : c.in-Some-false.field-0 ≡ false = search rules in
    subst (λ (r : Bool). PicksAs c.args.choice left right (Some r)) known (picks left right c.word_pair-left.ensures.here c.word_pair-left.ensures.there)
