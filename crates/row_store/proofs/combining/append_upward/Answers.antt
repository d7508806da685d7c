use Rattle.std.specs.Int.{w128}
use Rattle.std.proofs.lemmas.Int.{to_z-of_z}
use mir.Val.{SFits}
use Rattle.row_core.proofs.SignTests.{not_under, under_zero}
use Rattle.row_store.proofs.CombinedRows.{kept_upward, turned_upward}
use Rattle.row_store.proofs.combining.append_upward.Goals as goal

pub returns-then-value-lt0-clause-rows : goal.returns-then-value-lt0-clause-rows
returns-then-value-lt0-clause-rows c =
    let value_fits : SFits w128 c.args.value = c.ranges.value in
    turned_upward c.args.value c.args.line.now c.len-last.result c.args.store.now c.push_reserved.new.self c.negate.new.self (under_zero c.args.value (simp to_z-of_z at c.if-value-lt0.true)) c.len-last.ensures c.push_reserved.ensures.rows c.negate.ensures

pub returns-else-value-lt0-clause-rows : goal.returns-else-value-lt0-clause-rows
returns-else-value-lt0-clause-rows c =
    let value_fits : SFits w128 c.args.value = c.ranges.value in
    kept_upward c.args.value c.args.line.now c.args.store.now c.push_reserved.new.self c.requires.nonzero (not_under c.args.value (simp to_z-of_z at c.if-value-lt0.false)) c.push_reserved.ensures.rows
