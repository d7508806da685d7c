use Rattle.std.specs.Prelude.{◌≡◌, ◌+◌, ℕ, Bool, List, length}
use Rattle.std.specs.Int.{w128}
use Rattle.std.proofs.Common.{sym, ap, ◌∙◌, arith, subst}
use Rattle.std.proofs.lemmas.Int.{to_z-of_z, fits_signed_from_abs}
use mir.Val.{SFits}
use Rattle.row_core.specs.Vectors.{dot}
use Rattle.row_core.specs.Lists.{row_at}
use Rattle.sat_matrix.specs.ZeroTables.{TellsZeros}
use Rattle.stored_systems.specs.WorkLists.{generator_list}
use Rattle.widening.proofs.ZeroLists.{tells_more, at_generator, length-generators}
use Rattle.widening.proofs.zeros.zeros_of.Goals as goal

pub loop-index-init : goal.loop-index-init
loop-index-init c = record { wide = ap (λ (bits : List Bool). length bits) c.new-zeros.ensures.items; zeros = λ j h. absurd (omega (arith, h)) }

pub loop-index-preserved : goal.loop-index-preserved
loop-index-preserved c =
    let value = c.in_ok-value_on.field-0 in
    let value_fits : SFits w128 value = fits_signed_from_abs w128 value c.in_ok-value_on.ensures.in_range.size in
    let asked = simp to_z-of_z at c.is_zero.ensures in
    let here : value ≡ dot (row_at (generator_list c.args.gens.now) c.loop-index.index) c.args.row.now = c.in_ok-value_on.ensures.value ∙ sym (at_generator c.args.gens.now c.args.row.now c.loop-index.index (omega arith)) in
    subst (TellsZeros (generator_list c.args.gens.now) (c.loop-index.index + 1) c.args.row.now) (sym c.in_ok-push.ensures.items)
    (tells_more (generator_list c.args.gens.now) c.loop-index.index c.args.row.now c.loop-index.zeros.items c.is_zero.result c.loop-index.invariant
    ((λ t. sym here ∙ asked.0 t), (λ e. asked.1 (here ∙ e))))

pub returns-clause-zeros : goal.returns-clause-zeros
returns-clause-zeros c = subst (λ (n : ℕ). TellsZeros (generator_list c.args.gens.now) n c.args.row.now c.loop-index.zeros.items) (omega (arith, c.len-index-end.ensures, c.loop-index-test.false, length-generators c.args.gens.now)) c.loop-index.invariant
