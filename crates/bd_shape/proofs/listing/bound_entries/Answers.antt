use Rattle.std.specs.Prelude.{◌≡◌, ◌+◌, List, ℤ, pos, neg_ℤ, ◌-ℤ◌, length}
use Rattle.std.specs.Int.{w128}
use Rattle.std.proofs.Common.{arith, ap, sym, replicate, drop, set, ◌∙◌}
use Rattle.std.proofs.lemmas.Int.{ints, to_z-of_z, fits_signed_from_abs}
use Rattle.std.proofs.lemmas.List.{take_at}
use Rattle.std.proofs.lemmas.Result.{err_from_is_err_and}
use mir.Val.{SFits}
use Rattle.bd_shape.specs.Differences.{with_place}
use Rattle.bd_shape.specs.Rows.{bound_row}
use Rattle.bd_shape.proofs.RowLists.{length_bound}
use Rattle.bd_shape.proofs.listing.bound_entries.Goals as goal

pub returns-in_err-entries : goal.returns-in_err-entries
returns-in_err-entries c = let p = err_from_is_err_and c.from_residual.result c.from_residual.ensures.1 in rw p.1 tt

pub put_both-requires : goal.put_both-requires
put_both-requires c = record { first = omega (arith, c.as_mut_slice.ensures.len, c.in_ok-entries.ensures.len); second = omega (arith, c.as_mut_slice.ensures.len, c.in_ok-entries.ensures.len) }

pub index_mut-requires : goal.index_mut-requires
index_mut-requires c = omega (arith, c.in_ok-entries.ensures.len)

pub returns : goal.returns
returns c =
    let dim = c.args.dim in
    let bound = c.args.bound in
    let entries = c.in_ok-entries.entries in
    let num_fits : SFits w128 bound.num = fits_signed_from_abs w128 bound.num c.requires.fraction.num.size in
    let den_fits : SFits w128 bound.den = fits_signed_from_abs w128 bound.den c.requires.fraction.den.size in
    let size = c.requires.fraction.den.size in
    let less_fits : SFits w128 (pos 0 -ℤ bound.den) = fits_signed_from_abs w128 (pos 0 -ℤ bound.den) (omega (arith, ints, size)) in
    let less : pos 0 -ℤ bound.den ≡ neg_ℤ bound.den = omega (arith, ints) in
    let zeros : entries.items ≡ replicate (dim + 1) (pos 0) = c.in_ok-entries.ensures.items_if_clones_equal (λ x e. e) in
    let value = rw (to_z-of_z w128 bound.num num_fits) at c.as_mut_slice.ensures.value in
    let put : c.put_both.new.row ≡ bound_row dim c.args.i c.args.j bound =
    rw (to_z-of_z w128 bound.den den_fits, to_z-of_z w128 (pos 0 -ℤ bound.den) less_fits, less) at c.put_both.ensures
    ∙ ap (λ (row : List ℤ). with_place (with_place row c.args.i (neg_ℤ bound.den)) c.args.j bound.den) (value ∙ ap (λ (row : List ℤ). set row dim bound.num) zeros) in
    let all : length c.put_both.new.row ≡ entries.len = ap length put ∙ length_bound dim c.args.i c.args.j bound ∙ sym c.in_ok-entries.ensures.len in
    take_at c.put_both.new.row (drop (length c.put_both.new.row) _) entries.len all ∙ put

pub overflow_sub-bound : goal.overflow_sub-bound
overflow_sub-bound c =
    let den = c.args.bound.den in
    let size = c.requires.fraction.den.size in
    rw (to_z-of_z w128 den (fits_signed_from_abs w128 den size)) (fits_signed_from_abs w128 (pos 0 -ℤ den) (omega (arith, ints, size)))
