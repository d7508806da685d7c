use Rattle.std.proofs.lemmas.Result.{IfOk-weaker}
use Rattle.dimensions.specs.AddedVariables.{HasTrueColumns}
use Rattle.dimensions.proofs.TrueTables.{turned_twice}
use Rattle.dimensions.proofs.added_variables.with_true_columns.Goals as goal

pub returns : goal.returns
returns c = IfOk-weaker c.transpose-2.result _ (HasTrueColumns c.args.count c.args.table.now) (λ new e. turned_twice c.args.count c.args.table.now c.in_ok-turned.turned c.in_ok-with_true_rows.field-0 new c.columns-columns.ensures.rectangular c.in_ok-turned.ensures c.in_ok-with_true_rows.ensures e) c.transpose-2.ensures
