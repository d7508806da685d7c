use Rattle.std.proofs.Common.{length, sym, ap, subst, ◌∙◌, arith}
use Rattle.std.proofs.lemmas.Result.{err_from_is_err_and}
use Rattle.row_core.specs.Range.{AllInRange}
use Rattle.ranking.proofs.RowLemmas.{length-bound_row, bound_row_in_range, bound_row_from}
use Rattle.ranking.proofs.rows.bound_row.Goals as goal

pub returns-in_err-entries : goal.returns-in_err-entries
returns-in_err-entries c = let p = err_from_is_err_and c.from_residual.result c.from_residual.ensures.1 in rw p.1 (record { row = tt; wide = tt })

pub returns-in_err-extend_from_slice : goal.returns-in_err-extend_from_slice
returns-in_err-extend_from_slice c = let p = err_from_is_err_and c.from_residual-in_err-extend_from_slice.result c.from_residual-in_err-extend_from_slice.ensures.1 in rw p.1 (record { row = tt; wide = tt })

pub returns-in_err-push : goal.returns-in_err-push
returns-in_err-push c = let p = err_from_is_err_and c.from_residual-in_err-push.result c.from_residual-in_err-push.ensures.1 in rw p.1 (record { row = tt; wide = tt })

pub from_vec-requires : goal.from_vec-requires
from_vec-requires c =
    let n = c.args.states in
    let pair = c.args.pair.now in
    let joined = bound_row_from n pair c.in_ok-entries.entries.items c.extend_from_slice.new.self.items c.push.new.self.items c.requires.wide c.in_ok-entries.ensures.items c.in_ok-extend_from_slice.ensures.items c.in_ok-push.ensures.items in
    record {
      in_range = subst AllInRange (sym joined) (bound_row_in_range n pair c.requires.in_range);
      narrow = omega (arith, ap length joined, length-bound_row n pair c.requires.wide, c.requires.narrow);
    }

pub returns : goal.returns
returns c =
    let n = c.args.states in
    let pair = c.args.pair.now in
    let joined = bound_row_from n pair c.in_ok-entries.entries.items c.extend_from_slice.new.self.items c.push.new.self.items c.requires.wide c.in_ok-entries.ensures.items c.in_ok-extend_from_slice.ensures.items c.in_ok-push.ensures.items in
    record {
      row = c.from_vec.ensures ∙ joined;
      wide = ap length (c.from_vec.ensures ∙ joined) ∙ length-bound_row n pair c.requires.wide;
    }
