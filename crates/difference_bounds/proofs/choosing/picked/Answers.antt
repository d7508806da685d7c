use Rattle.std.specs.Prelude.{◌≡◌}
use Rattle.std.specs.Int.{w64}
use Rattle.std.proofs.Common.{arith, rules, sym, subst}
use Rattle.std.proofs.lemmas.Int.{ints, to_z-of_z}
use mir.Val.{SFits}
use Rattle.difference_bounds.specs.Combining.{PicksAs}
use Rattle.difference_bounds.specs.declared.choosing.Choice.{Choice}
use Rattle.difference_bounds.specs.declared.choosing.Choice.TheVariants.{Lesser, Greater}
use Rattle.difference_bounds.proofs.WordLemmas.{picks_greater, picks_lesser}
use Rattle.difference_bounds.proofs.choosing.picked.Goals as goal

pub returns-in-Lesser-clause-pick : goal.returns-in-Lesser-clause-pick
returns-in-Lesser-clause-pick c =
    let left : SFits w64 c.args.left = c.ranges.left in
    let right : SFits w64 c.args.right = c.ranges.right in
    let compares = simp to_z-of_z at c.compared.ensures.comparison in
    let known : c.args.choice ≡ Lesser = search rules in
    λ a b wa wb. subst (λ (d : Choice). PicksAs d a b c.compared.result) (sym known) (picks_lesser a b c.compared.result (compares b a wb wa))

pub returns-in-Greater-clause-pick : goal.returns-in-Greater-clause-pick
returns-in-Greater-clause-pick c =
    let left : SFits w64 c.args.left = c.ranges.left in
    let right : SFits w64 c.args.right = c.ranges.right in
    let compares = simp to_z-of_z at c.compared-in-Greater.ensures.comparison in
    let known : c.args.choice ≡ Greater = search rules in
    λ a b wa wb. subst (λ (d : Choice). PicksAs d a b c.compared-in-Greater.result) (sym known) (picks_greater a b c.compared-in-Greater.result (compares a b wa wb))

pub returns-in-Lesser-clause-told : goal.returns-in-Lesser-clause-told
returns-in-Lesser-clause-told c =
    let left : SFits w64 c.args.left = c.ranges.left in
    let right : SFits w64 c.args.right = c.ranges.right in
    let lesser = simp to_z-of_z at c.compared.ensures.lesser in
    λ e. (lesser e).1

pub returns-in-Greater-clause-told : goal.returns-in-Greater-clause-told
returns-in-Greater-clause-told c =
    let left : SFits w64 c.args.left = c.ranges.left in
    let right : SFits w64 c.args.right = c.ranges.right in
    let lesser = simp to_z-of_z at c.compared-in-Greater.ensures.lesser in
    λ e f. let below = (lesser e).0 in let least = c.requires.least in omega (arith, ints, below, least, f)
