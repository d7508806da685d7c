use Rattle.std.specs.Prelude.{ℕ, IsTrue}
use Rattle.std.specs.Int.{w128}
use Rattle.std.proofs.Common.{rules, arith, below_more}
use Rattle.std.proofs.lemmas.Bool.{false≢true}
use Rattle.std.proofs.lemmas.Int.{to_z-of_z, fits_signed_from_abs}
use mir.Val.{SFits}
use Rattle.row_core.specs.Vectors.{dot}
use Rattle.gens_sys.specs.Generators.{row_at, kind_at}
use Rattle.widening.specs.Inequalities.{side_of}
use Rattle.widening.specs.Values.{Fits}
use Rattle.widening.proofs.SideLists.{side_fits, fits_side}
use Rattle.widening.proofs.least.is_least_on.Goals as goal

pub returns-then-not-fits-clause-least : goal.returns-then-not-fits-clause-least
returns-then-not-fits-clause-least c =
    let value_fits : SFits w128 c.in_ok-value.value = fits_signed_from_abs w128 c.in_ok-value.value c.in_ok-value.ensures.in_range.size in
    let asked = simp to_z-of_z at c.fits.ensures in (
      (λ t. absurd (false≢true t)),
      (λ h. absurd
          (let t : IsTrue c.fits.result = asked.1 (fits_side (kind_at c.args.gens.now.list c.loop-index.index) c.kind.result c.args.row.now (row_at c.args.gens.now.list c.loop-index.index) c.args.other c.in_ok-value.value c.kind.ensures c.in_ok-value.ensures.value (h c.loop-index.index (omega arith))) in
          search (rules, t, c.if-not-fits.true))),
    )

pub loop-index-preserved : goal.loop-index-preserved
loop-index-preserved c =
    let value_fits : SFits w128 c.in_ok-value.value = fits_signed_from_abs w128 c.in_ok-value.value c.in_ok-value.ensures.in_range.size in
    let asked = simp to_z-of_z at c.fits.ensures in
    let t : IsTrue c.fits.result = search (rules, c.if-not-fits.false) in
    below_more (λ (i : ℕ). Fits (kind_at c.args.gens.now.list i) (dot (side_of c.args.row.now c.args.other) (row_at c.args.gens.now.list i))) c.loop-index.index c.loop-index.invariant
    (side_fits (kind_at c.args.gens.now.list c.loop-index.index) c.kind.result c.args.row.now (row_at c.args.gens.now.list c.loop-index.index) c.args.other c.in_ok-value.value c.kind.ensures c.in_ok-value.ensures.value (asked.0 t))
