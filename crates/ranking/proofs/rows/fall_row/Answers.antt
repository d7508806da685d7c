use Rattle.std.proofs.Common.{◌+◌, ◌*◌, pos, ◌-ℤ◌, length, sym, ap, subst, ◌∙◌, arith}
use Rattle.std.proofs.lemmas.Result.{err_from_is_err_and}
use Rattle.std.specs.Int.{w128}
use mir.Val.{to_z, of_z}
use Rattle.row_core.specs.Vectors.{cell}
use Rattle.row_core.specs.Range.{AllInRange}
use Rattle.ranking.proofs.RowLemmas.{length-fall_row, fall_row_in_range, fall_row_from, last_entry}
use Rattle.ranking.proofs.rows.fall_row.Goals as goal

pub returns-in-Err-clause-overflow : goal.returns-in-Err-clause-overflow
returns-in-Err-clause-overflow c = c.in-Err.ensures.overflow

pub returns-in_err-push : goal.returns-in_err-push
returns-in_err-push c = let p = err_from_is_err_and c.from_residual.result c.from_residual.ensures.1 in rw (p.1, p.2) (record { row = tt; wide = tt; overflow = tt })

pub returns-in_err-push-2 : goal.returns-in_err-push-2
returns-in_err-push-2 c = let p = err_from_is_err_and c.from_residual-in_err-push-2.result c.from_residual-in_err-push-2.ensures.1 in rw (p.1, p.2) (record { row = tt; wide = tt; overflow = tt })

pub from_vec-requires : goal.from_vec-requires
from_vec-requires c =
    let n = c.args.states in
    let pair = c.args.pair.now in
    let joined = fall_row_from n pair c.in-Ok.entries.items c.push.new.self.items c.push-2.new.self.items (to_z w128 (of_z w128 (pos 0 -ℤ to_z w128 (of_z w128 (cell pair (2 * n)))))) c.in-Ok.ensures.entries c.in_ok-push.ensures.items c.in_ok-push-2.ensures.items (last_entry n pair c.requires.wide c.requires.in_range) in
    record {
      in_range = subst AllInRange (sym joined) (fall_row_in_range n pair (subst AllInRange c.in-Ok.ensures.entries c.in-Ok.ensures.in_range) (c.requires.in_range (n + n) (pos 0) (omega (arith, c.requires.wide))));
      narrow = omega (arith, ap length joined, length-fall_row n pair (ap length (sym c.in-Ok.ensures.entries) ∙ c.in-Ok.ensures.wide), c.requires.narrow);
    }

pub returns : goal.returns
returns c =
    let n = c.args.states in
    let pair = c.args.pair.now in
    let joined = fall_row_from n pair c.in-Ok.entries.items c.push.new.self.items c.push-2.new.self.items (to_z w128 (of_z w128 (pos 0 -ℤ to_z w128 (of_z w128 (cell pair (2 * n)))))) c.in-Ok.ensures.entries c.in_ok-push.ensures.items c.in_ok-push-2.ensures.items (last_entry n pair c.requires.wide c.requires.in_range) in
    record {
      row = c.from_vec.ensures ∙ joined;
      wide = ap length (c.from_vec.ensures ∙ joined) ∙ length-fall_row n pair (ap length (sym c.in-Ok.ensures.entries) ∙ c.in-Ok.ensures.wide);
      overflow = tt;
    }
