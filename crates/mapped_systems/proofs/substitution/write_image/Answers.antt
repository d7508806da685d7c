use Rattle.std.proofs.Common.{◌≡◌, List, ℤ, pos, slice_set, ap, sym, ◌∙◌, subst}
use Rattle.std.specs.Int.{w128}
use Rattle.std.proofs.lemmas.Int.{to_z-of_z}
use Rattle.std.proofs.lemmas.List.{length-set}
use Rattle.std.proofs.lemmas.List.Elements.{All-set}
use mir.Val.{to_z, SFits}
use Rattle.row_core.specs.Range.{InRange, AllStay}
use Rattle.mapped_systems.specs.Refusals.{EntryStays}
use Rattle.mapped_systems.proofs.ColumnLemmas.{scale_written, scaled_stays}
use Rattle.mapped_systems.proofs.WrittenRows.{written_alone}
use Rattle.mapped_systems.proofs.substitution.write_image.Goals as goal

pub returns-then-den-eq1-clause-written : goal.returns-then-den-eq1-clause-written
returns-then-den-eq1-clause-written c =
    let value_fits : SFits w128 c.args.value = c.ranges.value in
    let den_fits : SFits w128 c.args.den = c.ranges.den in
    let one : c.args.den ≡ pos 1 = sym (to_z-of_z w128 c.args.den den_fits) ∙ ap (to_z w128) c.if-den-eq1.true in
    simp to_z-of_z (written_alone c.args.den c.args.value c.args.row.now c.args.var one c.requires.in_range c.requires.value_in_range)

pub returns-clause-written : goal.returns-clause-written
returns-clause-written c =
    let value_fits : SFits w128 c.args.value = c.ranges.value in
    let den_fits : SFits w128 c.args.den = c.ranges.den in
    let s = simp to_z-of_z at c.in_ok-scale_all.ensures.scaled in
    simp to_z-of_z (
      ap (λ (w : List ℤ). slice_set w c.args.var c.args.value) s.0 ∙ scale_written c.args.den c.args.value c.args.row.now c.args.var,
      All-set InRange c.scale_all.new.row c.args.var c.args.value c.requires.value_in_range s.1,
    )

pub returns-clause-stays : goal.returns-clause-stays
returns-clause-stays c =
    let den_fits : SFits w128 c.args.den = c.ranges.den in
    let s = simp to_z-of_z at c.in_ok-scale_all.ensures.scaled in
    let cleared = slice_set c.args.row.now c.args.var (pos 0) in
    subst (AllStay (EntryStays c.args.var c.args.den c.args.row.now)) (length-set c.args.row.now c.args.var (pos 0)) (scaled_stays c.args.den cleared c.scale_all.new.row s.0 s.1)
