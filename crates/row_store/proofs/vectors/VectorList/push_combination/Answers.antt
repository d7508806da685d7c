use Rattle.std.specs.Prelude.{◌<◌, List, ℤ, false, All}
use Rattle.std.specs.Int.{w128}
use Rattle.std.proofs.Common.{sym, subst, ◌∙◌, arith}
use Rattle.std.proofs.lemmas.Int.{to_z-of_z}
use Rattle.std.proofs.lemmas.Result.{err_from_is_err_and}
use mir.Val.{SFits}
use Rattle.flat_rows.specs.Flat.{entries_at}
use Rattle.row_core.specs.Sizes.{HaveBits}
use Rattle.row_core.specs.Lists.{row_at}
use Rattle.row_core.specs.Combinations.{IsCombined, CombinationLeaves}
use Rattle.row_store.specs.Vectors.{Vectors}
use Rattle.row_store.proofs.MarkedVectors.{seen_count, seen_row, appended_seen, same_seen, bits_appended}
use Rattle.row_store.proofs.vectors.VectorList.push_combination.Goals as goal

pub returns-in_err-made-clause-combined : goal.returns-in_err-made-clause-combined
returns-in_err-made-clause-combined g c =
    let u_fits : SFits w128 c.args.u = c.ranges.u in
    let v_fits : SFits w128 c.args.v = c.ranges.v in
    let store = c.self.inside.store in
    let size = seen_count c.self.inside.eq store c.args.self.now c.self.view_is in
    let left = seen_row c.self.inside.eq store c.args.self.now c.args.left c.self.view_is (omega (arith, size, c.requires.vectors.0)) in
    let right = seen_row c.self.inside.eq store c.args.self.now c.args.right c.self.view_is (omega (arith, size, c.requires.vectors.1)) in
    let P : List ℤ → Type 0 = λ r. CombinationLeaves c.args.u c.args.v r (entries_at c.self.inside.store.rows c.args.right) c.in_err-made.field-0.0 in
    let Q : List ℤ → Type 0 = λ r. CombinationLeaves c.args.u c.args.v (row_at c.args.self.now.rows c.args.left) r c.in_err-made.field-0.0 in
    let refused = simp to_z-of_z at c.in_err-made.ensures.combined in
    let p = err_from_is_err_and c.from_residual.result c.from_residual.ensures.1 in
    rw (p.1, p.2) (same_seen c.self.inside.eq store c.append_combination.new.store c.args.self.now c.self.view_is refused.0, subst Q (sym right) (subst P (sym left) refused.1))

pub invariant_of-self-2 : goal.invariant_of-self-2
invariant_of-self-2 g c = bits_appended _ c.self.inside.store c.append_combination.new.store c.self.inside.bits c.in_ok-made.made c.max-self-inside.result c.in_ok-made.ensures.combined c.max-self-inside.ensures c.self.invariant c.in_ok-made.ensures.bits

pub returns-clause-combined : goal.returns-clause-combined
returns-clause-combined g c =
    let u_fits : SFits w128 c.args.u = c.ranges.u in
    let v_fits : SFits w128 c.args.v = c.ranges.v in
    let store = c.self.inside.store in
    let size = seen_count c.self.inside.eq store c.args.self.now c.self.view_is in
    let left = seen_row c.self.inside.eq store c.args.self.now c.args.left c.self.view_is (omega (arith, size, c.requires.vectors.0)) in
    let right = seen_row c.self.inside.eq store c.args.self.now c.args.right c.self.view_is (omega (arith, size, c.requires.vectors.1)) in
    appended_seen c.self.inside.eq false _ _ store c.append_combination.new.store c.args.self.now c.self.view_is c.requires.rays
    (λ v h.
    let P : List ℤ → Type 0 = λ r. IsCombined c.args.u c.args.v r (entries_at c.self.inside.store.rows c.args.right) v in
    let Q : List ℤ → Type 0 = λ r. IsCombined c.args.u c.args.v (row_at c.args.self.now.rows c.args.left) r v in
    subst Q (sym right) (subst P (sym left) h))
    (simp to_z-of_z at c.in_ok-made.ensures.combined)

pub append_combination-requires-clause-spare : goal.append_combination-requires-clause-spare
append_combination-requires-clause-spare g c = subst (λ (l : Vectors). 0 < l.spare) (sym c.self.view_is) c.requires.spare

pub append_combination-requires-clause-rows : goal.append_combination-requires-clause-rows
append_combination-requires-clause-rows g c =
    let size = seen_count c.self.inside.eq c.self.inside.store c.args.self.now c.self.view_is in
    (omega (arith, size, c.requires.vectors.0), omega (arith, size, c.requires.vectors.1))

pub append_combination-requires-clause-within : goal.append_combination-requires-clause-within
append_combination-requires-clause-within g c = c.self.invariant

pub append_combination-requires-clause-in_range : goal.append_combination-requires-clause-in_range
append_combination-requires-clause-in_range g c = rw (to_z-of_z w128 c.args.u c.ranges.u, to_z-of_z w128 c.args.v c.ranges.v) c.requires.in_range

pub append_combination-requires-clause-nonzero : goal.append_combination-requires-clause-nonzero
append_combination-requires-clause-nonzero g c = λ e. c.requires.nonzero (sym (to_z-of_z w128 c.args.u c.ranges.u) ∙ e)

pub returns-clause-counted : goal.returns-clause-counted
returns-clause-counted g c = c.in_ok-made.ensures.counted

pub returns-in_err-made-clause-counted : goal.returns-in_err-made-clause-counted
returns-in_err-made-clause-counted g c = c.in_err-made.ensures.counted

pub invariant_of-self : goal.invariant_of-self
invariant_of-self g c = subst (All (HaveBits c.self.inside.bits)) (sym c.in_err-made.ensures.combined.0.rows) c.self.invariant
