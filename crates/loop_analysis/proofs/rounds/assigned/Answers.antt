use Rattle.std.proofs.Common.{◌≡◌, ◌+◌, List, Err, ℤ, length, sym, subst}
use Rattle.std.proofs.lemmas.Result.{err_from_is_err_and}
use Rattle.std.specs.Int.{w128}
use mir.Val.{of_z, to_z}
use Rattle.std.proofs.lemmas.Int.{to_z-of_z}
use Rattle.row_core.proofs.SignTests.{fits}
use Rattle.affine_maps.specs.PairConversions.{ConvertsImage}
use Rattle.row_core.specs.Range.{AllInRange}
use Rattle.loop_analysis.proofs.rounds.assigned.Goals as goal

pub image-requires-clause-var : goal.image-requires-clause-var
image-requires-clause-var g c = c.requires.fits.variable

pub image-requires-clause-wide : goal.image-requires-clause-wide
image-requires-clause-wide g c = subst (λ (row : List ℤ). length row ≡ c.args.set.now.cons.dim + 1) (sym c.cells-expr.ensures.value) c.requires.fits.wide

pub image-requires-clause-in_range : goal.image-requires-clause-in_range
image-requires-clause-in_range g c = subst AllInRange (sym c.cells-expr.ensures.value) c.requires.fits.in_range

pub returns-in_err-made-clause-conversion : goal.returns-in_err-made-clause-conversion
returns-in_err-made-clause-conversion g c =
    let a = c.args.assignment.now in
    let set = c.args.set.now in
    let exact = to_z-of_z w128 a.value.den (fits a.value.den c.requires.fits.divisor) in
    let p = err_from_is_err_and c.from_residual.result c.from_residual.ensures.1 in
    rw (p.1, p.2)
    (subst (λ (d : ℤ). ConvertsImage a.variable a.value.expr d set c.args.steps.now c.image.new.steps (Err c.in_err-made.field-0.0)) exact
    (subst (λ (row : List ℤ). ConvertsImage a.variable row (to_z w128 (of_z w128 a.value.den)) set c.args.steps.now c.image.new.steps (Err c.in_err-made.field-0.0)) c.cells-expr.ensures.value c.in_err-made.ensures.conversion))
