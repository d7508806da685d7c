use Rattle.std.proofs.Common.{◌≡◌, arith}
use Rattle.std.proofs.lemmas.Grind.{common_steps}
use Rattle.std.proofs.lemmas.List.Elements.{All-same}
use Rattle.row_core.specs.Range.{InRange}
use Rattle.cdd_reading.specs.Files.{turned}
use Rattle.cdd_reading.proofs.StoreLaws.{in_range-turned}
use Rattle.std.proofs.lemmas.Result.{err_from_is_err_and}
use Rattle.cdd_reading.proofs.store.with_first_at_end.Goals as goal

pub from_vec-requires-clause-in_range : goal.from_vec-requires-clause-in_range
from_vec-requires-clause-in_range c =
    let e : c.push.new.self.items ≡ turned c.args.row.now = grind (arith, common_steps) in
    All-same InRange c.push.new.self.items (turned c.args.row.now) e (in_range-turned c.args.row.now c.requires.in_range)

pub returns-in_err-extend_from_slice : goal.returns-in_err-extend_from_slice
returns-in_err-extend_from_slice c = let p = err_from_is_err_and c.from_residual.result c.from_residual.ensures.1 in rw p.1 (record { row = tt; width = tt })

pub returns-in_err-push : goal.returns-in_err-push
returns-in_err-push c = let p = err_from_is_err_and c.from_residual-in_err-push.result c.from_residual-in_err-push.ensures.1 in rw p.1 (record { row = tt; width = tt })
