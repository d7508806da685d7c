use Rattle.std.specs.Prelude.{pos}
use Rattle.std.specs.Int.{w128}
use Rattle.std.proofs.Common.{get_or, ◌∙◌}
use Rattle.std.proofs.lemmas.Int.{to_z-of_z}
use Rattle.std.proofs.lemmas.List.Elements.{All-get_or}
use mir.Val.{SFits}
use Rattle.row_core.specs.Range.{InRange}
use Rattle.row_core.proofs.SignTests.{fits, above_zero, below_zero}
use Rattle.minimise.proofs.TurnedRows.{scale_above, scale_below}
use Rattle.minimise.proofs.bases.turn_up.Goals as goal

pub returns-then-vector-column-gt0-clause-turned : goal.returns-then-vector-column-gt0-clause-turned
returns-then-vector-column-gt0-clause-turned c =
    let entry_fits : SFits w128 (get_or c.args.vector.now c.args.column (pos 0)) = fits (get_or c.args.vector.now c.args.column (pos 0)) (All-get_or InRange c.args.vector.now c.args.column (pos 0) c.requires.column c.requires.in_range) in
    scale_above (get_or c.args.vector.now c.args.column (pos 0)) c.args.vector.now (above_zero (get_or c.args.vector.now c.args.column (pos 0)) (simp to_z-of_z at c.if-vector-column-gt0.true))

pub returns-clause-turned : goal.returns-clause-turned
returns-clause-turned c =
    let entry_fits : SFits w128 (get_or c.args.vector.now c.args.column (pos 0)) = fits (get_or c.args.vector.now c.args.column (pos 0)) (All-get_or InRange c.args.vector.now c.args.column (pos 0) c.requires.column c.requires.in_range) in
    c.negate.ensures.value ∙ scale_below (get_or c.args.vector.now c.args.column (pos 0)) c.args.vector.now (below_zero (get_or c.args.vector.now c.args.column (pos 0)) c.requires.nonzero (simp to_z-of_z at c.if-vector-column-gt0.false))
