use Rattle.std.specs.Prelude.{ℤ, pos, List, refl}
use Rattle.std.specs.Int.{w128}
use Rattle.std.proofs.Common.{sym, subst, arith, get_or}
use Rattle.std.proofs.lemmas.Int.{to_z-of_z}
use Rattle.std.proofs.lemmas.List.Elements.{All-get_or}
use mir.Val.{SFits}
use Rattle.row_core.specs.Range.{InRange}
use Rattle.row_core.specs.Lists.{vectors, row_at, vector_at}
use Rattle.row_core.specs.Combinations.{CombinationLeaves}
use Rattle.row_core.proofs.SignTests.{fits}
use Rattle.row_core.proofs.RowListLemmas.{vector_at-vectors}
use Rattle.row_store.proofs.ray_steps.push_pair.Goals as goal

pub returns-in-Err-clause-combined : goal.returns-in-Err-clause-combined
returns-in-Err-clause-combined g c =
    let first_fits : SFits w128 (get_or c.args.values.now c.args.pair.0 (pos 0)) = fits (get_or c.args.values.now c.args.pair.0 (pos 0)) (All-get_or InRange c.args.values.now c.args.pair.0 (pos 0) c.requires.opposite.first c.requires.in_range) in
    let second_fits : SFits w128 (get_or c.args.values.now c.args.pair.1 (pos 0)) = fits (get_or c.args.values.now c.args.pair.1 (pos 0)) (All-get_or InRange c.args.values.now c.args.pair.1 (pos 0) c.requires.opposite.second c.requires.in_range) in
    let refused = simp to_z-of_z at c.in-Err.ensures.combined in
    let rays = c.args.rays.now.rows in
    let P : List ℤ → Type 0 = λ v. CombinationLeaves (get_or c.args.values.now c.args.pair.0 (pos 0)) (get_or c.args.values.now c.args.pair.1 (pos 0)) v (vector_at (vectors c.args.rays.now.rows) c.args.pair.1) c.in-Err.column in
    let Q : List ℤ → Type 0 = λ w. CombinationLeaves (get_or c.args.values.now c.args.pair.0 (pos 0)) (get_or c.args.values.now c.args.pair.1 (pos 0)) (row_at c.args.rays.now.rows c.args.pair.0) w c.in-Err.column in
    (refused.0, ((0, omega arith, refl), refl, refl, subst P (sym (vector_at-vectors rays c.args.pair.0)) (subst Q (sym (vector_at-vectors rays c.args.pair.1)) refused.1)))

pub push_combination-combined-requires-clause-spare : goal.push_combination-combined-requires-clause-spare
push_combination-combined-requires-clause-spare g c = c.requires.spare

pub push_combination-combined-requires-clause-vectors : goal.push_combination-combined-requires-clause-vectors
push_combination-combined-requires-clause-vectors g c = (omega (arith, c.requires.opposite.first, c.requires.as_many), omega (arith, c.requires.opposite.second, c.requires.as_many))

pub push_combination-combined-requires-clause-rays : goal.push_combination-combined-requires-clause-rays
push_combination-combined-requires-clause-rays g c = c.requires.marked

pub push_combination-combined-requires-clause-in_range : goal.push_combination-combined-requires-clause-in_range
push_combination-combined-requires-clause-in_range g c =
    let first = All-get_or InRange c.args.values.now c.args.pair.0 (pos 0) c.requires.opposite.first c.requires.in_range in
    let second = All-get_or InRange c.args.values.now c.args.pair.1 (pos 0) c.requires.opposite.second c.requires.in_range in
    (subst InRange (sym (to_z-of_z w128 _ (fits _ first))) first, subst InRange (sym (to_z-of_z w128 _ (fits _ second))) second)
