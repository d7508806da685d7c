use Rattle.std.specs.Prelude.{◌≡◌, ℕ, ◌+◌, ◌++◌, List, ℤ, pos, negsuc, length}
use Rattle.std.proofs.Common.{arith, ap, sym, subst, replicate, take, ◌∙◌}
use Rattle.std.proofs.lemmas.List.{take_at}
use Rattle.std.proofs.lemmas.Result.{err_from_is_err_and}
use Rattle.row_core.specs.Range.{AllInRange}
use Rattle.bd_shape.specs.Differences.{with_place, difference}
use Rattle.bd_shape.proofs.DifferenceRows.{length_difference}
use Rattle.bd_shape.proofs.RowLists.{difference_in_range}
use Rattle.bd_shape.proofs.rows.difference.Goals as goal

written : (dim i j n : ℕ) (row before rest : List ℤ) → row ≡ with_place (with_place before i (pos 1)) j (negsuc 0) → before ≡ replicate (dim + 1) (pos 0) → n ≡ dim + 1 → take n (row ++ rest) ≡ difference dim i j
written dim i j n row before rest put zeros wide =
    let same : row ≡ difference dim i j = put ∙ ap (λ (cells : List ℤ). with_place (with_place cells i (pos 1)) j (negsuc 0)) zeros in
    take_at row rest n (ap length same ∙ length_difference dim i j ∙ sym wide) ∙ same

pub put_both-requires : goal.put_both-requires
put_both-requires c = record { first = omega (arith, c.as_mut_slice.ensures.len, c.in_ok-entries.ensures.len); second = omega (arith, c.as_mut_slice.ensures.len, c.in_ok-entries.ensures.len) }

pub from_vec-requires : goal.from_vec-requires
from_vec-requires c =
    let same = written c.args.dim c.args.i c.args.j c.in_ok-entries.entries.len c.put_both.new.row c.as_mut_slice.result.now _ c.put_both.ensures (c.as_mut_slice.ensures.value ∙ c.in_ok-entries.ensures.items_if_clones_equal (λ x e. e)) c.in_ok-entries.ensures.len in
    let wide = ap length same ∙ length_difference c.args.dim c.args.i c.args.j in
    record { in_range = subst AllInRange (sym same) (difference_in_range c.args.dim c.args.i c.args.j); narrow = omega (arith, wide) }

pub returns : goal.returns
returns c = c.from_vec.ensures ∙ written c.args.dim c.args.i c.args.j c.in_ok-entries.entries.len c.put_both.new.row c.as_mut_slice.result.now _ c.put_both.ensures (c.as_mut_slice.ensures.value ∙ c.in_ok-entries.ensures.items_if_clones_equal (λ x e. e)) c.in_ok-entries.ensures.len

pub returns-in_err-entries : goal.returns-in_err-entries
returns-in_err-entries c = let p = err_from_is_err_and c.from_residual.result c.from_residual.ensures.1 in rw p.1 tt
