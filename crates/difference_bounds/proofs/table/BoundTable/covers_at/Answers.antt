use Rattle.std.specs.Int.{w64}
use Rattle.std.proofs.Common.{rules}
use Rattle.std.proofs.lemmas.Int.{to_z-of_z}
use mir.Val.{SFits}
use Rattle.difference_bounds.specs.Tables.{bounds_of}
use Rattle.difference_bounds.proofs.WordLemmas.{covered_by}
use Rattle.difference_bounds.proofs.table.BoundTable.covers_at.Goals as goal

pub returns-in-Some-clause-covers : goal.returns-in-Some-clause-covers
returns-in-Some-clause-covers c =
    let first : SFits w64 c.word.result = search rules in
    let second : SFits w64 c.word-2.result = search rules in
    let compares = simp to_z-of_z at c.in-Some.ensures.comparison in
    let left = bounds_of c.args.self.now c.args.i c.args.j in
    let right = bounds_of c.args.other.now c.args.i c.args.j in
    covered_by left right c.in-Some.below (compares left right c.word.ensures.word c.word-2.ensures.word)
