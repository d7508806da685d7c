use Rattle.std.proofs.Common.{◌≡◌, ℕ, length, subst, arith}
use Rattle.std.proofs.lemmas.Result.{err_from_is_err_and}
use Rattle.std.specs.Int.{w128}
use Rattle.std.proofs.lemmas.Int.{to_z-of_z, fits_signed_from_abs}
use mir.Val.{SFits}
use Rattle.optimum.specs.Values.{RowReaches}
use Rattle.optimum.specs.Relations.{AreSides}
use Rattle.optimum.proofs.ValueLemmas.{reaches_more, row_leaves_by}
use Rattle.optimum.proofs.RelationLemmas.{sides_more}
use Rattle.optimum.proofs.relating.all_sides.Goals as goal

pub loop-i-preserved : goal.loop-i-preserved
loop-i-preserved c =
    let fits : SFits w128 c.in_ok-value.value = fits_signed_from_abs w128 c.in_ok-value.value c.in_ok-value.ensures.in_range.size in
    let note = simp to_z-of_z at c.noted-so_far.ensures in
    record {
      reached = reaches_more c.args.row.now c.args.gens.now.list c.loop-i.i c.loop-i.invariant.reached c.in_ok-value.ensures.answer.1;
      sides = sides_more c.args.row.now c.args.gens.now.list c.loop-i.i c.loop-i.so_far c.noted-so_far.result c.in_ok-value.value c.kind.result c.loop-i.invariant.sides c.in_ok-value.ensures.answer.0 c.kind.ensures note;
    }

pub returns-in_err-value : goal.returns-in_err-value
returns-in_err-value c =
    let p = err_from_is_err_and c.from_residual.result c.from_residual.ensures.1 in
    rw (p.1, p.2) (row_leaves_by c.args.row.now c.args.gens.now.list c.loop-i.i c.in_err-value.field-0.0 (omega arith) c.loop-i.invariant.reached c.in_err-value.ensures.answer)

pub returns : goal.returns
returns c =
    let list = c.args.gens.now.list in
    let all : c.loop-i.i ≡ length list = omega arith in (
      subst (RowReaches c.args.row.now list) all c.loop-i.invariant.reached,
      subst (λ (n : ℕ). AreSides c.args.row.now list n c.loop-i.so_far) all c.loop-i.invariant.sides,
    )
